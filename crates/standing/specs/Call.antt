-- The calls of a panel, each with what its paper says. None stands for a paper with a fault of form, which says nothing.
use Rattle.std.specs.Prelude.{ℕ, List, Option}
use Rattle.standing.specs.Model.{Model}

pub data Offer (m : Model) : Type 0 where
  dispatch : Option m.Dispatch → Offer m
  prices : Option m.Prices → Offer m

-- the calls that leave the panel as it was
pub data Question : Type 0 where
  trial : Question
  reading : Question
  reading_out : Question

-- an attendant is a number
pub data Call (m : Model) : Type 0 where
  man : ℕ → Call m
  offer : Offer m → Call m
  change : Option m.Change → Call m
  ask : Question → Call m
  hand_over : Option ℕ → Call m
  stand_down : Call m

-- the calls made, the newest first
abbrev pub History : Model → Type 0
History m = List (Call m)
