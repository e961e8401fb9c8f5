-- Two forms with the same papers refuse alike.
use Rattle.std.proofs.Common.{ℕ, List}
use Rattle.word.specs.Form.{Form, Begins, Open, Refused}
use Rattle.word.specs.declared.fault.WordRefusal.{WordRefusal}
use Rattle.word.specs.declared.fault.WordRefusal.TheVariants.{Stops, Kind, Range, Follows}

module _ (F G : Form) (to : (w : List ℕ) → F w → G w) (from : (w : List ℕ) → G w → F w) where
  begins_like : (p : List ℕ) → Begins F p → Begins G p
  begins_like p b = (b.0, to _ b.1)

  begins_back : (p : List ℕ) → Begins G p → Begins F p
  begins_back p b = (b.0, from _ b.1)

  open_like : (p : List ℕ) → Open F p → Open G p
  open_like p o = (begins_like p o.0, λ g. o.1 (from p g))

  pub refused_like : (w : List ℕ) (r : WordRefusal) (place : ℕ) → Refused F w r place → Refused G w r place
  refused_like w Stops place f = (f.0, open_like w f.1)
  refused_like w Kind place f =
      (f.0, open_like _ f.1, λ s. f.2 (s.0, s.1, begins_back _ s.2))
  refused_like w Range place f =
      (f.0, open_like _ f.1, (f.2.0, f.2.1, begins_like _ f.2.2), λ b. f.3 (begins_back _ b))
  refused_like w Follows place f = (f.0, to _ f.1)
