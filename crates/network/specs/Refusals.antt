-- The number of each refusal, and its place.
use Rattle.std.specs.Prelude.{ℕ}
use Rattle.network.specs.declared.refusal.Refusal.{Refusal}
use Rattle.network.specs.declared.refusal.Refusal.TheVariants.{OutOfRange, Crossed, Size, Repeated, UnknownBus, NotInCase, NotAllowed, Unbalanced, Overloaded, Overstretched, Unrated, Weight, Residue}

abbrev pub number_of : Refusal → ℕ
number_of (OutOfRange i) = 4
number_of (Crossed i) = 5
number_of Size = 6
number_of (Repeated i) = 8
number_of (UnknownBus i) = 9
number_of NotInCase = 10
number_of (NotAllowed i) = 11
number_of (Unbalanced i) = 12
number_of (Overloaded i) = 13
number_of (Overstretched i) = 14
number_of (Unrated i) = 15
number_of (Weight i) = 16
number_of (Residue i) = 16

abbrev pub place_of : Refusal → ℕ
place_of (OutOfRange i) = i
place_of (Crossed i) = i
place_of Size = 0
place_of (Repeated i) = i
place_of (UnknownBus i) = i
place_of NotInCase = 1
place_of (NotAllowed i) = i
place_of (Unbalanced i) = i
place_of (Overloaded i) = i
place_of (Overstretched i) = i
place_of (Unrated i) = i
place_of (Weight i) = i
place_of (Residue i) = i
