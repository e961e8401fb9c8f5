-- Which call a paper goes to.
use Rattle.std.specs.Prelude.{ℕ, cond, List, [], ◌∷◌, ◌==◌}
use Rattle.word.specs.Word.{kind_of, payload_of}
use Rattle.word.specs.declared.kind.Kind.{Kind}
use Rattle.word.specs.declared.kind.Kind.TheVariants as kind
use Rattle.paper_file.specs.declared.call.Call.{Call}
use Rattle.paper_file.specs.declared.call.Call.TheVariants.{Dispatch, Prices, Demand, Mark, Trial, HandOver}

-- the number of each call's head
abbrev pub head_number : Call → ℕ
head_number Dispatch = 2
head_number Prices = 3
head_number Demand = 4
head_number Mark = 5
head_number Trial = 6
head_number HandOver = 7

-- the call with this number; a dispatch for every other number
abbrev pub call_numbered : ℕ → Call
call_numbered n =
    cond (n == 3) Prices (cond (n == 4) Demand (cond (n == 5) Mark (cond (n == 6) Trial (cond (n == 7) HandOver Dispatch))))

-- by the kind and the payload of the first word: a paper that begins with no head goes in as a dispatch
abbrev pub call_by : Kind → ℕ → Call
call_by kind.Unknown payload = Dispatch
call_by kind.Head payload = call_numbered payload
call_by kind.Bus payload = Dispatch
call_by kind.Stepped payload = Dispatch
call_by kind.Curved payload = Dispatch
call_by kind.Branch payload = Dispatch
call_by kind.Amount payload = Dispatch
call_by kind.End payload = Dispatch

abbrev pub call_for : List ℕ → Call
call_for [] = Dispatch
call_for (first ∷ words) = call_by (kind_of first) (payload_of first)
