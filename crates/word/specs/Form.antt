-- What it is for a list of words to be refused, for any form of paper; and when that is one refusal at one place.
use Rattle.std.specs.Prelude.{◌≡◌, ℕ, ◌+◌, ◌<◌, List, [], ◌∷◌, ◌++◌, length, take, slice_index}
use Rattle.word.specs.Word.{kind_of}
use Rattle.word.specs.declared.kind.Kind.{Kind}
use Rattle.word.specs.declared.fault.WordRefusal.{WordRefusal}
use Rattle.word.specs.declared.fault.WordRefusal.TheVariants as refusal

-- a form of paper is given by the lists of words that have it
abbrev pub Form : Type 1
Form = List ℕ → Type 0

-- the words p begin a paper of the form
abbrev pub Begins : Form → List ℕ → Type 0
Begins F p = (rest : List ℕ) × F (p ++ rest)

-- after the words p a word of this kind can stand
abbrev pub Stands : Form → List ℕ → Kind → Type 0
Stands F p kind = (x : ℕ) × (kind_of x ≡ kind) × Begins F (p ++ (x ∷ []))

-- the words p begin a paper of the form, and are not yet a whole one
abbrev pub Open : Form → List ℕ → Type 0
Open F p = Begins F p × (F p → ⊥)

-- the list w of words is refused at this place:
-- it stops there, before a whole paper; a word of that kind cannot stand there; a word of that kind can, but not this one;
-- it goes on there, after a whole paper
abbrev pub Refused : Form → List ℕ → WordRefusal → ℕ → Type 0
Refused F w refusal.Stops place = (place ≡ length w) × Open F w
Refused F w refusal.Kind place =
    (place < length w) × Open F (take place w) × (Stands F (take place w) (kind_of (slice_index w place)) → ⊥)
Refused F w refusal.Range place =
    (place < length w) × Open F (take place w) × Stands F (take place w) (kind_of (slice_index w place))
    × (Begins F (take (place + 1) w) → ⊥)
Refused F w refusal.Follows place = (place < length w) × F (take place w)

-- no paper of the form begins another
abbrev pub Ended : Form → Type 0
Ended F = (p : List ℕ) (x : ℕ) (rest : List ℕ) → F p → F (p ++ (x ∷ rest)) → ⊥

-- a paper of the form is not refused, and a list of words is refused for one reason at one place
pub record Exact (F : Form) : Type 0 where
  pub accepted : (w : List ℕ) (r : WordRefusal) (place : ℕ) → F w → Refused F w r place → ⊥
  pub once : (w : List ℕ) (r r' : WordRefusal) (k k' : ℕ) → Refused F w r k → Refused F w r' k' → (r ≡ r') × (k ≡ k')
