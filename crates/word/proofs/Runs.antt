-- What is due at a place of a list of slots that is made of runs.
use Rattle.std.proofs.Common.{◌≡◌, ℕ, zero, suc, ◌+◌, ◌-◌, ◌%◌, ◌<◌, ◌≤◌, cond, eqb, List, ◌∷◌, length, get_or, drop, Some, None, Option, sym, refl, ap, ◌∙◌, subst, inl, inr, arith}
use Rattle.std.proofs.lemmas.List.{length-append, get_or_append_left, get_or-append_right, drop_more}
use Rattle.std.proofs.lemmas.Bool.{cases_eq, cond-true, cond-false, eq-eqb, ne_eqb}
use Rattle.word.specs.Run.{in_turn, slots_of, slot_in, Due}
use Rattle.word.specs.declared.slot.Slot.{Slot}
use Rattle.word.specs.declared.slot.Slot.TheVariants.{End}
use Rattle.word.specs.declared.run.Run.{Run}

pub length_turns : (n : ℕ) (a b : Slot) → length (in_turn n a b) ≡ n
length_turns zero a b = refl
length_turns (suc n) a b = ap suc (length_turns n b a)

abbrev pick : Slot → Slot → ℕ → Slot
pick a b i = cond (eqb (i % 2) 0) a b

pick_even : (a b : Slot) (i : ℕ) → i % 2 ≡ 0 → pick a b i ≡ a
pick_even a b i e = cond-true (eqb (i % 2) 0) a b (eq-eqb (i % 2) 0 e)

pick_odd : (a b : Slot) (i : ℕ) → (i % 2 ≡ 0 → ⊥) → pick a b i ≡ b
pick_odd a b i e = cond-false (eqb (i % 2) 0) a b (ne_eqb (i % 2) 0 e)

pick_next : (a b : Slot) (i : ℕ) → pick b a i ≡ pick a b (suc i)
pick_next a b i =
    elim (cases_eq (i % 2) 0) [
      | inl e ↦ pick_even b a i e ∙ sym (pick_odd a b (suc i) (λ f. omega arith))
      | inr n ↦ pick_odd b a i n ∙ sym (pick_even a b (suc i) (omega arith))
    ]

get_or-turns : (n : ℕ) (a b d : Slot) (i : ℕ) → i < n → get_or (in_turn n a b) i d ≡ pick a b i
get_or-turns zero a b d i h = absurd (omega arith)
get_or-turns (suc n) a b d zero h = refl
get_or-turns (suc n) a b d (suc i) h = get_or-turns n b a d i (omega arith) ∙ pick_next a b i

-- inside the first run
pub due_in : (r : Run) (rs : List Run) (i : ℕ) → i < r.count → Due (slots_of (r ∷ rs)) i (Some (slot_in r i))
due_in r rs i h =
    let ss : List Slot = in_turn r.count r.slot r.other in
    let l : length ss ≡ r.count = length_turns r.count r.slot r.other in (
      omega (arith, length-append ss (slots_of rs)),
      sym (get_or_append_left ss (slots_of rs) End i (omega arith) ∙ get_or-turns r.count r.slot r.other End i h),
    )

-- past it
pub due_past : (r : Run) (rs : List Run) (i : ℕ) (o : Option Slot) → r.count ≤ i → Due (slots_of rs) (i - r.count) o → Due (slots_of (r ∷ rs)) i o
due_past r rs i None h d =
    let ss : List Slot = in_turn r.count r.slot r.other in
    let l : length ss ≡ r.count = length_turns r.count r.slot r.other in
    omega (arith, length-append ss (slots_of rs))
due_past r rs i (Some t) h d =
    let ss : List Slot = in_turn r.count r.slot r.other in
    let l : length ss ≡ r.count = length_turns r.count r.slot r.other in (
      omega (arith, length-append ss (slots_of rs)),
      d.1 ∙ sym (get_or-append_right ss (slots_of rs) r.count i End l h),
    )

-- at the run that stands at k
pub due_here : (rs : List Run) (k i : ℕ) (d : Run) → k < length rs → i < (get_or rs k d).count → Due (slots_of (drop k rs)) i (Some (slot_in (get_or rs k d) i))
due_here rs k i d h l =
    subst (λ (ts : List Run). Due (slots_of ts) i (Some (slot_in (get_or rs k d) i))) (sym (drop_more rs k d h)) (due_in (get_or rs k d) (drop (k + 1) rs) i l)

pub due_later : (rs : List Run) (k i : ℕ) (d : Run) (o : Option Slot) → k < length rs → (get_or rs k d).count ≤ i → Due (slots_of (drop (k + 1) rs)) (i - (get_or rs k d).count) o → Due (slots_of (drop k rs)) i o
due_later rs k i d o h l e =
    subst (λ (ts : List Run). Due (slots_of ts) i o) (sym (drop_more rs k d h)) (due_past (get_or rs k d) (drop (k + 1) rs) i o l e)
