-- The places of a paper of fixed length say what its form says.
use Rattle.std.proofs.Common.{ℕ, zero, suc, List, ◌∷◌, ◌++◌, replicate, ℤ, arith}
use Rattle.std.proofs.lemmas.Int.{ints}
use Rattle.std.specs.List.{AllByRecursion}
use Rattle.word.specs.Form.{Form, Exact}
use Rattle.word.specs.Fault.{RefusedWord}
use Rattle.word.specs.Laws.{Short}
use Rattle.word.specs.Slot.{Matches, Possible}
use Rattle.word.specs.declared.fault.WordFault.{WordFault}
use Rattle.word.specs.declared.slot.Slot.{Slot}
use Rattle.word.proofs.Forms.{refused_like}
use Rattle.word.proofs.Slots.{slots_ended}
use Rattle.word.proofs.Exacts.{exact}
use Rattle.paper.specs.Range.{Power, Angle, Priced, AnglePriced}

-- the places of a form: words fit them where they have the form, and some words do
pub record Layout (F : Form) (ss : List Slot) : Type 0 where
  pub to : (w : List ℕ) → Matches ss w → F w
  pub from : (w : List ℕ) → F w → Matches ss w
  pub some : (w : List ℕ) × F w

module _ (F : Form) (ss : List Slot) (l : Layout F ss) where
  pub possible : Possible ss
  possible = let s = l.some in (s.0, l.from s.0 s.1)

  pub refused : (w : List ℕ) (f : WordFault) → RefusedWord (Matches ss) w f → RefusedWord F w f
  refused w f r = (refused_like (Matches ss) F l.to l.from w f.refusal f.place r.0, r.1)

  pub form_exact : Exact F
  form_exact = exact F (λ p x rest d e. slots_ended ss p x rest (l.from p d) (l.from (p ++ (x ∷ rest)) e))

pub power_short : (z : ℤ) → Power z → Short z
power_short z h = (omega (arith, ints), omega (arith, ints))

pub angle-short : (z : ℤ) → Angle z → Short z
angle-short z h = (omega (arith, ints), omega (arith, ints))

pub price-short : (z : ℤ) → Priced z → Short z
price-short z h = (omega (arith, ints), omega (arith, ints))

pub angle-price_short : (z : ℤ) → AnglePriced z → Short z
angle-price_short z h = (omega (arith, ints), omega (arith, ints))

-- a list of one element throughout
pub all_same : {X : Type 0} (P : X → Type 0) (x : X) → P x → (n : ℕ) → AllByRecursion P (replicate n x)
all_same P x p zero = tt
all_same P x p (suc n) = (p, all_same P x p n)
