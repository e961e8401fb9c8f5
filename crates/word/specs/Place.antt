-- Which kinds of word may stand at each place of the reader.
use Rattle.std.specs.Prelude.{Bool, false, ◌||◌, List, [], ◌∷◌, ◌==◌}
use Rattle.word.specs.Word.{kind_number}
use Rattle.word.specs.declared.kind.Kind.{Kind}
use Rattle.word.specs.declared.kind.Kind.TheVariants as kind
use Rattle.word.specs.declared.place.Place.{Place}
use Rattle.word.specs.declared.place.Place.TheVariants.{Head, BusName, BranchName, Amount, End, Buses, Stepped, Curved, Branches}

abbrev pub kinds_at : Place → List Kind
kinds_at Head = kind.Head ∷ []
kinds_at BusName = kind.Bus ∷ []
kinds_at BranchName = kind.Branch ∷ []
kinds_at Amount = kind.Amount ∷ []
kinds_at End = kind.End ∷ []
kinds_at Buses = kind.Bus ∷ kind.Stepped ∷ kind.Curved ∷ kind.Branch ∷ kind.End ∷ []
kinds_at Stepped = kind.Stepped ∷ kind.Curved ∷ kind.Branch ∷ kind.End ∷ []
kinds_at Curved = kind.Curved ∷ kind.Branch ∷ kind.End ∷ []
kinds_at Branches = kind.Branch ∷ kind.End ∷ []

abbrev pub among : Kind → List Kind → Bool
among k [] = false
among k (x ∷ xs) = kind_number k == kind_number x || among k xs

abbrev pub may_stand : Place → Kind → Bool
may_stand place kind = among kind (kinds_at place)
