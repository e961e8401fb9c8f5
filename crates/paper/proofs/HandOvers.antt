-- The places of a hand-over paper say what its words say.
use Rattle.std.proofs.Common.{◌≡◌, ℕ, ◌<◌, List, [], ◌∷◌, get_or, ℤ, pos, negsuc, nat_abs, ◌≤ℤ◌, sym, refl, ap, ◌∙◌, subst, arith}
use Rattle.std.proofs.lemmas.Int.{ints}
use Rattle.word.specs.Word.{amount_of, amount_word}
use Rattle.word.specs.Slot.{Matches}
use Rattle.word.specs.declared.slot.Slot.{Slot}
use Rattle.word.specs.declared.slot.Slot.TheVariants.{Head, End}
use Rattle.word.proofs.Words.{amount_same}
use Rattle.word.proofs.Fillings.{head_word, head_fits, end_word-is, end_fits, amount_fits}
use Rattle.paper.specs.Range.{attendant_slot}
use Rattle.paper.specs.HandOver.{hand_over_words, HandOverForm}
use Rattle.paper.proofs.Layouts.{Layout}

abbrev pub hand_over_slots : List Slot
hand_over_slots = Head 7 ∷ attendant_slot ∷ End ∷ []

natural : (z : ℤ) → pos 0 ≤ℤ z → z ≡ pos (nat_abs z)
natural (pos n) h = refl
natural (negsuc n) h = absurd (omega (arith, ints))

pub hand_over_read : (w : List ℕ) → Matches hand_over_slots w → (n : ℕ) → n ≡ nat_abs (amount_of (get_or w 1 0)) → (n < 65536) × (w ≡ hand_over_words n)
hand_over_read [] m n k = absurd m
hand_over_read (a ∷ []) m n k = absurd m.1
hand_over_read (a ∷ b ∷ []) m n k = absurd m.1.1
hand_over_read (a ∷ b ∷ c ∷ []) m n k =
    let z : amount_of b ≡ pos n = natural (amount_of b) m.1.0.1.0 ∙ ap pos (sym k) in
    let ea = head_word 7 a m.0 in
    let eb : b ≡ amount_word (pos n) = sym (amount_same b m.1.0.0) ∙ ap amount_word z in
    let ec = end_word-is c m.1.1.0 in
    let h : pos n ≤ℤ pos 65535 = subst (λ (z : ℤ). z ≤ℤ pos 65535) z m.1.0.1.1 in
    (omega (arith, ints), λ i. ea i ∷ eb i ∷ ec i ∷ [])
hand_over_read (a ∷ b ∷ c ∷ x ∷ w) m n k = absurd m.1.1.1

pub hand_over_layout : Layout HandOverForm hand_over_slots
hand_over_layout =
    record {
      to = λ w m. let n : ℕ = nat_abs (amount_of (get_or w 1 0)) in let r = hand_over_read w m n refl in (n, r.0, r.1);
      from = λ w (n, l, e). subst (Matches hand_over_slots) (sym e)
          (head_fits 7 (omega arith), (amount_fits (pos 0) (pos 65535) (pos n) (omega (arith, ints), omega (arith, ints)) (omega (arith, ints), omega (arith, ints)), (end_fits, tt)));
      some = (hand_over_words 0, (0, omega arith, refl));
    }
