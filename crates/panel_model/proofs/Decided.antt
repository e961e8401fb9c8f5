-- Whether a list of words has a form is decided, by the kind and the range of each word; so every paper says something, or none.
use Rattle.std.proofs.Common.{◌≡◌, ℕ, ◌/◌, ◌%◌, ◌⊎◌, inl, inr, List, [], ◌∷◌, ℤ, pos, negsuc, ◌≤ℤ◌, Some, None, Option, sym, ap, ◌∙◌, refl, arith}
use Rattle.std.proofs.lemmas.Bool.{cases_eq, cases_lt}
use Rattle.std.proofs.lemmas.Int.{ints}
use Rattle.word.specs.Form.{Form}
use Rattle.word.specs.Word.{kind_number, kind_numbered, kind_of, payload_of, amount_of}
use Rattle.word.specs.Slot.{slot_kind, Byte, InRange, Fits, Matches}
use Rattle.word.specs.declared.kind.Kind.{Kind}
use Rattle.word.specs.declared.kind.Kind.TheVariants as kind
use Rattle.word.specs.declared.slot.Slot.{Slot}
use Rattle.word.specs.declared.slot.Slot.TheVariants.{Head, Bus, Branch, Amount, End}
use Rattle.paper.specs.Dispatch.{DispatchForm}
use Rattle.paper.specs.Prices.{PricesForm}
use Rattle.paper.specs.Change.{DemandForm, MarkForm}
use Rattle.paper.proofs.Layouts.{Layout}
use Rattle.paper.proofs.Dispatches.{dispatch_layout}
use Rattle.paper.proofs.Lists.{prices_layout}
use Rattle.paper.proofs.Changes.{demand_layout, mark_layout}
use Rattle.panel_model.specs.Change.Change.{demand, mark}
use Rattle.panel_model.specs.Says.{SaysDispatch, SaysPrices, SaysDemand, SaysMark}

-- it holds, or it does not
abbrev pub Decided : Type 0 → Type 0
Decided P = P ⊎ (P → ⊥)

-- ---- facts of one word
both : {P Q : Type 0} → Decided P → Decided Q → Decided (P × Q)
both (inl p) (inl q) = inl (p, q)
both (inl p) (inr q) = inr (λ h. q h.1)
both (inr p) q = inr (λ h. p h.0)

all_three : {P Q R : Type 0} → Decided P → Decided Q → Decided R → Decided (P × Q × R)
all_three (inl p) (inl q) (inl r) = inl (p, q, r)
all_three (inl p) (inl q) (inr r) = inr (λ h. r h.2)
all_three (inl p) (inr q) r = inr (λ h. q h.1)
all_three (inr p) q r = inr (λ h. p h.0)

in_order : (a b : ℤ) → Decided (a ≤ℤ b)
in_order (pos m) (pos n) = elim (cases_lt n m) [ inl h ↦ inr (λ k. omega (arith, ints)) | inr h ↦ inl (omega (arith, ints)) ]
in_order (pos m) (negsuc n) = inr (λ k. omega (arith, ints))
in_order (negsuc m) (pos n) = inl (omega (arith, ints))
in_order (negsuc m) (negsuc n) = elim (cases_lt m n) [ inl h ↦ inr (λ k. omega (arith, ints)) | inr h ↦ inl (omega (arith, ints)) ]

is_byte : (n : ℕ) → Decided (Byte n)
is_byte n =
    elim (cases_lt n 1) [
      | inl h ↦ inr (λ b. omega arith)
      | inr h ↦ elim (cases_lt 255 n) [ inl l ↦ inr (λ b. omega arith) | inr l ↦ inl (omega arith, omega arith) ]
    ]

numbered : (k : Kind) → kind_numbered (kind_number k) ≡ k
numbered kind.Unknown = refl
numbered kind.Head = refl
numbered kind.Bus = refl
numbered kind.Stepped = refl
numbered kind.Curved = refl
numbered kind.Branch = refl
numbered kind.Amount = refl
numbered kind.End = refl

same_kind : (j k : Kind) → Decided (j ≡ k)
same_kind j k =
    elim (cases_eq (kind_number j) (kind_number k)) [
      | inl e ↦ inl (sym (numbered j) ∙ ap kind_numbered e ∙ numbered k)
      | inr n ↦ inr (λ e. n (ap kind_number e))
    ]

in_range : (s : Slot) (x : ℕ) → Decided (InRange s x)
in_range (Head payload) x = cases_eq (payload_of x) payload
in_range Bus x = is_byte (payload_of x)
in_range Branch x = all_three (is_byte (payload_of x / 65536)) (is_byte (payload_of x / 256 % 256)) (is_byte (payload_of x % 256))
in_range (Amount least most) x = both (in_order least (amount_of x)) (in_order (amount_of x) most)
in_range End x = cases_eq (payload_of x) 0

fits_slot : (s : Slot) (x : ℕ) → Decided (Fits s x)
fits_slot s x = both (same_kind (kind_of x) (slot_kind s)) (in_range s x)

-- ---- lists of words
matches_slots : (ss : List Slot) (w : List ℕ) → Decided (Matches ss w)
matches_slots [] [] = inl tt
matches_slots [] (x ∷ w) = inr (λ m. m)
matches_slots (s ∷ ss) [] = inr (λ m. m)
matches_slots (s ∷ ss) (x ∷ w) = both (fits_slot s x) (matches_slots ss w)

of_layout : (F : Form) (ss : List Slot) → Layout F ss → (w : List ℕ) → Decided (F w)
of_layout F ss l w =
    elim (matches_slots ss w) [
      | inl m ↦ inl (l.to w m)
      | inr n ↦ inr (λ f. n (l.from w f))
    ]

pub decided_dispatch : (n m : ℕ) (w : List ℕ) → Decided (DispatchForm n m w)
decided_dispatch n m = of_layout _ _ (dispatch_layout n m)

pub decided_prices : (n m : ℕ) (w : List ℕ) → Decided (PricesForm n m w)
decided_prices n m = of_layout _ _ (prices_layout n m)

pub decided_demand : (w : List ℕ) → Decided (DemandForm w)
decided_demand = of_layout _ _ demand_layout

pub decided_mark : (w : List ℕ) → Decided (MarkForm w)
decided_mark = of_layout _ _ mark_layout

-- ---- what a paper says
-- something, or none
abbrev pub SaysSome : {X : Type 0} → (Option X → Type 0) → Type 0
SaysSome {X} Says = (x : Option X) × Says x

pub said_dispatch : (n m : ℕ) (w : List ℕ) → SaysSome (SaysDispatch n m w)
said_dispatch n m w =
    elim (decided_dispatch n m w) [
      | inl f ↦ (Some f.0, (f.1, f.2))
      | inr n ↦ (None, n)
    ]

pub said_prices : (n m : ℕ) (w : List ℕ) → SaysSome (SaysPrices n m w)
said_prices n m w =
    elim (decided_prices n m w) [
      | inl f ↦ (Some f.0, (f.1, f.2))
      | inr n ↦ (None, n)
    ]

pub said_demand : (w : List ℕ) → SaysSome (SaysDemand w)
said_demand w =
    elim (decided_demand w) [
      | inl f ↦ (Some (demand f.0.bus f.0.demand f.1.1), record { paper = f.0; lawful = f.1; words = f.2; says = refl })
      | inr n ↦ (None, n)
    ]

pub said_mark : (w : List ℕ) → SaysSome (SaysMark w)
said_mark w =
    elim (decided_mark w) [
      | inl f ↦ (Some (mark f.0.branch f.0.in_service), record { paper = f.0; lawful = f.1; words = f.2; says = refl })
      | inr n ↦ (None, n)
    ]
