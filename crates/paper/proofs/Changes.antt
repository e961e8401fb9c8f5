-- The places of a change paper say what its words say.
use Rattle.std.proofs.Common.{◌≡◌, ℕ, zero, suc, Bool, true, false, None, List, [], ◌∷◌, length, take, get_or, ℤ, pos, negsuc, ◌≤ℤ◌, ◌<◌, sym, refl, ap, ◌∙◌, subst, arith}
use Rattle.std.proofs.lemmas.Int.{ints}
use Rattle.std.proofs.lemmas.Bool.{true≢false}
use Rattle.std.proofs.lemmas.List.{take_all}
use Rattle.word.specs.Word.{payload_of, amount_of, amount_word}
use Rattle.word.specs.Fault.{RefusedWord}
use Rattle.word.specs.Slot.{Fits, Misfits, Matches, Possible}
use Rattle.word.specs.declared.slot.Slot.{Slot}
use Rattle.word.specs.declared.slot.Slot.TheVariants.{Head, Bus, Branch, End}
use Rattle.word.specs.declared.fault.WordFault.{WordFault}
use Rattle.word.proofs.Slots.{matches_more, refused_misfit}
use Rattle.word.proofs.Words.{amount_same}
use Rattle.word.proofs.Fillings.{head_word, head_fits, end_word-is, end_fits, amount_fits}
use Rattle.paper.specs.Range.{power_slot, mark_slot}
use Rattle.paper.specs.Name.{bus_word, branch_word}
use Rattle.word.specs.Slot.{branch_of}
use Rattle.paper.specs.Change.{change_slots, change_words, demand_words, DemandForm, mark_number, mark_words, MarkForm}
use Rattle.paper.proofs.Layouts.{Layout, power_short}
use Rattle.paper.proofs.Names.{bus_word-payload_of, bus_fits, branch_word-branch_of, branch_named, branch_fits}

-- words that fit the places of a change paper
pub change_read : (head : ℕ) (name amount : Slot) (w : List ℕ) → Matches (change_slots head name amount) w → Fits name (get_or w 1 0) × Fits amount (get_or w 2 0) × (w ≡ change_words head (get_or w 1 0) (get_or w 2 0))
change_read head name amount [] m = absurd m
change_read head name amount (a ∷ []) m = absurd m.1
change_read head name amount (a ∷ b ∷ []) m = absurd m.1.1
change_read head name amount (a ∷ b ∷ c ∷ []) m = absurd m.1.1.1
change_read head name amount (a ∷ b ∷ c ∷ d ∷ []) m =
    let ea = head_word head a m.0 in
    let ed = end_word-is d m.1.1.1.0 in
    (m.1.0, m.1.1.0, λ i. ea i ∷ b ∷ c ∷ ed i ∷ [])
change_read head name amount (a ∷ b ∷ c ∷ d ∷ x ∷ w) m = absurd m.1.1.1.1

-- four words, one after another: those that fit their places, and the first that does not
module _ (head : ℕ) (name amount : Slot) (w : List ℕ) (four : length w ≡ 4) where
  abbrev Front : ℕ → Type 0
  Front i = Matches (take i (change_slots head name amount)) (take i w)

  pub front_head : Fits (Head head) (get_or w 0 0) → Front 1
  front_head f = matches_more (change_slots head name amount) w 0 End 0 tt (omega arith) (omega arith) f

  pub front_name : Fits (Head head) (get_or w 0 0) → Fits name (get_or w 1 0) → Front 2
  front_name f n = matches_more (change_slots head name amount) w 1 End 0 (front_head f) (omega arith) (omega arith) n

  pub front_amount : Fits (Head head) (get_or w 0 0) → Fits name (get_or w 1 0) → Fits amount (get_or w 2 0) → Front 3
  front_amount f n a = matches_more (change_slots head name amount) w 2 End 0 (front_name f n) (omega arith) (omega arith) a

  pub four_fit : Fits (Head head) (get_or w 0 0) → Fits name (get_or w 1 0) → Fits amount (get_or w 2 0) → Fits End (get_or w 3 0) → Matches (change_slots head name amount) w
  four_fit f n a e =
      let front : Front 4 = matches_more (change_slots head name amount) w 3 End 0 (front_amount f n a) (omega arith) (omega arith) e in
      subst (Matches (change_slots head name amount)) (take_all 4 w (omega arith)) front

  pub word_refused : Possible (change_slots head name amount) → (i : ℕ) → i < 4 → Front i → (f : WordFault) → Misfits (get_or (change_slots head name amount) i End) (get_or w i 0) f.refusal × (f.place ≡ i) × (f.first ≡ None) → RefusedWord (Matches (change_slots head name amount)) w f
  word_refused v i h m f (misfit, place, first) =
      (rw place (refused_misfit (change_slots head name amount) w i v m End (omega arith) (omega arith) f.refusal misfit), first)

change_fits : (head : ℕ) (name amount : Slot) (b c : ℕ) → head < 268435456 → Fits name b → Fits amount c → Matches (change_slots head name amount) (change_words head b c)
change_fits head name amount b c h n a = (head_fits head h, (n, (a, (end_fits, tt))))

-- by the words of the name and the amount
pub demand_read : (b c : ℕ) → Fits Bus b → Fits power_slot c → change_words 4 b c ≡ demand_words (record { bus = payload_of b; demand = record { 0 = amount_of c } })
demand_read b c n a = ap (λ x. change_words 4 x c) (bus_word-payload_of b n) ∙ ap (change_words 4 (bus_word (payload_of b))) (sym (amount_same c a.0))

pub demand_layout : Layout DemandForm (change_slots 4 Bus power_slot)
demand_layout =
    record {
      to = λ w m. let r = change_read 4 Bus power_slot w m in (
        record { bus = payload_of (get_or w 1 0); demand = record { 0 = amount_of (get_or w 2 0) } },
        (r.0.1, r.1.1),
        r.2 ∙ demand_read (get_or w 1 0) (get_or w 2 0) r.0 r.1,
      );
      from = λ w (v, l, e). subst (Matches (change_slots 4 Bus power_slot)) (sym e) (
          change_fits 4 Bus power_slot (bus_word v.bus) (amount_word v.demand.0) (omega arith) (bus_fits v.bus l.0)
          (amount_fits (negsuc 99999999) (pos 100000000) v.demand.0 (power_short v.demand.0 l.1) l.1)
          );
      some = (
        demand_words (record { bus = 1; demand = record { 0 = pos 0 } }),
        (record { bus = 1; demand = record { 0 = pos 0 } }, ((omega arith, omega arith), (omega (arith, ints), omega (arith, ints))), refl),
      );
    }

-- the mark is whether the amount is 1
mark_same : (z : ℤ) (mark : Bool) → (pos 0 ≤ℤ z) × (z ≤ℤ pos 1) → (mark ≡ true → z ≡ pos 1) → (z ≡ pos 1 → mark ≡ true) → z ≡ mark_number mark
mark_same z true h f g = f refl
mark_same (pos zero) false h f g = refl
mark_same (pos (suc zero)) false h f g = absurd (true≢false (sym (g refl)))
mark_same (pos (suc (suc n))) false h f g = absurd (omega (arith, ints))
mark_same (negsuc n) false h f g = absurd (omega (arith, ints))

mark_cases : (z : ℤ) → (pos 0 ≤ℤ z) × (z ≤ℤ pos 1) → (mark : Bool) × (z ≡ mark_number mark)
mark_cases (pos zero) h = (false, refl)
mark_cases (pos (suc zero)) h = (true, refl)
mark_cases (pos (suc (suc n))) h = absurd (omega (arith, ints))
mark_cases (negsuc n) h = absurd (omega (arith, ints))

mark_read : (b c : ℕ) (mark : Bool) → Fits Branch b → Fits mark_slot c → amount_of c ≡ mark_number mark → change_words 5 b c ≡ mark_words (record { branch = branch_of b; in_service = mark })
mark_read b c mark n a k =
    ap (λ x. change_words 5 x c) (branch_word-branch_of b n) ∙ ap (change_words 5 (branch_word (branch_of b))) (sym (amount_same c a.0) ∙ ap amount_word k)

pub mark_at : (b c : ℕ) (mark : Bool) → Fits Branch b → Fits mark_slot c → (mark ≡ true → amount_of c ≡ pos 1) → (amount_of c ≡ pos 1 → mark ≡ true) → change_words 5 b c ≡ mark_words (record { branch = branch_of b; in_service = mark })
mark_at b c mark n a f g = mark_read b c mark n a (mark_same (amount_of c) mark a.1 f g)

mark_fits : (mark : Bool) → Fits mark_slot (amount_word (mark_number mark))
mark_fits true = amount_fits (pos 0) (pos 1) (pos 1) (omega (arith, ints), omega (arith, ints)) (omega (arith, ints), omega (arith, ints))
mark_fits false = amount_fits (pos 0) (pos 1) (pos 0) (omega (arith, ints), omega (arith, ints)) (omega (arith, ints), omega (arith, ints))

pub mark_layout : Layout MarkForm (change_slots 5 Branch mark_slot)
mark_layout =
    record {
      to = λ w m. let r = change_read 5 Branch mark_slot w m in let k = mark_cases (amount_of (get_or w 2 0)) r.1.1 in (
        record { branch = branch_of (get_or w 1 0); in_service = k.0 },
        branch_named (get_or w 1 0) r.0,
        r.2 ∙ mark_read (get_or w 1 0) (get_or w 2 0) k.0 r.0 r.1 k.1,
      );
      from = λ w (v, l, e). subst (Matches (change_slots 5 Branch mark_slot)) (sym e) (
          change_fits 5 Branch mark_slot (branch_word v.branch) (amount_word (mark_number v.in_service)) (omega arith) (branch_fits v.branch l) (mark_fits v.in_service)
          );
      some = (
        mark_words (record { branch = record { circuit = 1; from = 1; to = 1 }; in_service = true }),
        (
          record { branch = record { circuit = 1; from = 1; to = 1 }; in_service = true },
          record { circuits = (omega arith, omega arith); froms = (omega arith, omega arith); tos = (omega arith, omega arith) },
          refl,
        ),
      );
    }
