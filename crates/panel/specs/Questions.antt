-- What the calls that only ask answer, and what the calls that end a watch do.
use Rattle.std.specs.Prelude.{◌≡◌, ℕ, ◌+◌, ◌<◌, List, [], ◌∷◌, length, Some, None, Ok, Err, Result}
use Rattle.measure.specs.declared.Grains.{Grains}
use Rattle.machine.specs.Meaning.{Meaning}
use Rattle.names.specs.declared.branch.BranchName.{BranchName}
use Rattle.network.specs.declared.refusal.Refusal.{Refusal}
use Rattle.pricing.specs.Outage.{FlooredWithout}
use Rattle.word.specs.Fault.{RefusedWord}
use Rattle.word.specs.declared.fault.WordFault.{WordFault}
use Rattle.paper.specs.HandOver.{HandOverForm}
use Rattle.paper.specs.Name.{Named}
use Rattle.paper.specs.Prices.{Prices, LawfulPrices}
use Rattle.paper.specs.Trial.{trial_words, TrialForm}
use Rattle.paper.specs.Write.{Writes}
use Rattle.sheet.specs.Figure.{gap_of}
use Rattle.sheet.specs.declared.sheet.Sheet as page
use Rattle.standing.specs.Panel.{Priced, State, cost_of, watched_by, with_watch, open_sheet}
use Rattle.panel_model.specs.Network.{network, list_by_rows}
use Rattle.panel_model.specs.Says.{SaysAttendant}
use Rattle.panel.specs.View.{amount, sheet_told}
use Rattle.panel.specs.Calls.{bus_count, branch_count}
use Rattle.panel.specs.declared.reading.Reading.{Reading}
use Rattle.panel.specs.declared.refusal.PaperRefusal.{PaperRefusal}
use Rattle.panel.specs.declared.refusal.PaperRefusal.TheVariants.{Words, Case}
use Rattle.panel.specs.declared.refusal.ReadOutRefusal.{ReadOutRefusal}
use Rattle.panel.specs.declared.refusal.ReadOutRefusal.TheVariants as read_out

module _ {M N : Type 0} (𝓜 : Meaning M) (𝓝 : Meaning N) where
  -- ---- a trial
  module _ (w : List ℕ) (s : State (network 𝓜 𝓝)) where
    -- the words name a branch and give a list; the answer is what becomes of the list with that branch out of service
    pub record Tried (r : Result Grains Refusal) : Type 0 where
      pub branch : BranchName
      pub list : Prices
      pub named : Named branch
      pub lawful : LawfulPrices (bus_count 𝓜 𝓝 s) (branch_count 𝓜 𝓝 s) list
      pub words : w ≡ trial_words branch list
      pub floored : FlooredWithout 𝓜 𝓝 s.case.case (list_by_rows list) branch r

    abbrev pub TrialAnswered : Result Grains PaperRefusal → Type 0
    TrialAnswered (Ok g) = Tried (Ok g)
    TrialAnswered (Err (Words f)) = RefusedWord (TrialForm (bus_count 𝓜 𝓝 s) (branch_count 𝓜 𝓝 s)) w f
    TrialAnswered (Err (Case e)) = Tried (Err e)

  -- ---- a reading
  -- the cost and the floor that are shown, and the gap where both are
  pub record Reads (s : State (network 𝓜 𝓝)) (r : Reading) : Type 0 where
    pub cost : amount r.cost ≡ cost_of s.shown
    pub floor : amount r.floor ≡ s.floor
    pub gap : r.gap ≡ gap_of r.cost r.floor

  -- ---- a reading out into a list
  module _ (s : State (network 𝓜 𝓝)) (before after : List ℕ) where
    pub record WrittenOut (n : ℕ) : Type 0 where
      pub dispatch : Priced (network 𝓜 𝓝)
      pub shown : s.shown ≡ Some dispatch
      pub writes : Writes dispatch.dispatch.powers dispatch.dispatch.angles before n after

    -- a list with fewer words than the paper is left as it was
    pub record ListTooShort : Type 0 where
      pub dispatch : Priced (network 𝓜 𝓝)
      pub shown : s.shown ≡ Some dispatch
      pub short : length before < length dispatch.dispatch.powers + length dispatch.dispatch.angles + 2
      pub unchanged : after ≡ before

    abbrev pub ReadOut : Result ℕ ReadOutRefusal → Type 0
    ReadOut (Ok n) = WrittenOut n
    ReadOut (Err read_out.NoneShown) = (s.shown ≡ None) × (after ≡ before)
    ReadOut (Err (read_out.List e)) = ListTooShort

  -- ---- watches
  -- the sheet is that of the open watch
  abbrev pub SheetOf : State (network 𝓜 𝓝) → page.Sheet → Type 0
  SheetOf s x = open_sheet s.watch s ≡ sheet_told x ∷ []

  module _ (w : List ℕ) (s t : State (network 𝓜 𝓝)) where
    -- the words name the next attendant, whose watch is opened
    pub record NextWatch (x : page.Sheet) : Type 0 where
      pub attendant : ℕ
      pub said : SaysAttendant w (Some attendant)
      pub sheet : SheetOf s x
      pub after : t ≡ watched_by attendant s

    -- the words name nobody, and nothing is altered
    pub record NoNextWatch (f : WordFault) : Type 0 where
      pub refused : RefusedWord HandOverForm w f
      pub unchanged : t ≡ s

    abbrev pub HandedOver : Result page.Sheet WordFault → Type 0
    HandedOver (Ok x) = NextWatch x
    HandedOver (Err f) = NoNextWatch f

  pub record StoodDown (s t : State (network 𝓜 𝓝)) (x : page.Sheet) : Type 0 where
    pub sheet : SheetOf s x
    pub after : t ≡ with_watch None s
