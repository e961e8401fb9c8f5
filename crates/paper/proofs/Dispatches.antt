-- The places of a dispatch say what its words say; and a dispatch written out.
use Rattle.std.proofs.Common.{◌≡◌, ℕ, zero, suc, ◌+◌, ◌≤◌, zero-add, List, [], ◌∷◌, ◌++◌, map, length, get_or, take, drop, set, replicate, ℤ, pos, negsuc, sym, refl, ap, ◌∙◌, subst, add-one, ◌<◌, arith}
use Rattle.std.proofs.lemmas.List.{length-append, length-map, length-replicate, length-take, length-drop, map-append, take-append-drop, append_assoc, ext_get_or}
use Rattle.std.proofs.ByRecursion.{All-weaker}
use Rattle.std.specs.List.{AllByRecursion}
use Rattle.std.proofs.lemmas.Int.{ints}
use Rattle.word.specs.Word.{amount_of, word_of, amount_word}
use Rattle.word.specs.Laws.{Short}
use Rattle.word.specs.Fault.{RefusedWord}
use Rattle.word.specs.declared.fault.WordFault.{WordFault}
use Rattle.word.specs.Slot.{Matches, Possible}
use Rattle.word.specs.Run.{in_turn}
use Rattle.word.specs.Column.{column_value, value_of}
use Rattle.word.specs.declared.kind.Kind.TheVariants as kind
use Rattle.word.specs.declared.slot.Slot.{Slot}
use Rattle.word.specs.declared.slot.Slot.TheVariants.{Head, End}
use Rattle.word.proofs.Fillings.{head_word, head_fits, end_fits, last_word, run_words, words_run, column_run}
use Rattle.word.proofs.Slots.{matches_join, matches_parts}
use Rattle.paper.specs.Range.{Power, Angle, power_slot, angle_slot}
use Rattle.paper.specs.Dispatch.{Dispatch, dispatch_words, InUnits, LawfulDispatch, DispatchForm, ReadsDispatch}
use Rattle.word.specs.declared.column.WordColumn.{WordColumn}
use Rattle.network.specs.declared.dispatch.Dispatch as view
use Rattle.paper.specs.Write.{dispatch_of, ReadsBack}
use Rattle.paper.proofs.Layouts.{Layout, possible, refused, all_same, power_short, angle-short, form_exact}
use Rattle.std.proofs.lemmas.List.{set_split}
use Rattle.std.proofs.Math.Seq.{paste}
use Rattle.std.proofs.lemmas.List.Edits.{length-paste, paste_all, paste-paste}

abbrev pub dispatch_slots : ℕ → ℕ → List Slot
dispatch_slots n m = Head 2 ∷ (in_turn n power_slot power_slot ++ (in_turn m angle_slot angle_slot ++ (End ∷ [])))

-- words that fit the places are those of a lawful dispatch
dispatch-to : (n m : ℕ) (w : List ℕ) → Matches (dispatch_slots n m) w → DispatchForm n m w
dispatch-to n m [] s = absurd s
dispatch-to n m (h ∷ w) s =
    let eh = head_word 2 h s.0 in
    let p = matches_parts (in_turn n power_slot power_slot) (in_turn m angle_slot angle_slot ++ (End ∷ [])) w s.1 in
    let q = matches_parts (in_turn m angle_slot angle_slot) (End ∷ []) p.right p.rights in
    let x = run_words (negsuc 99999999) (pos 100000000) n p.left p.lefts in
    let y = run_words (negsuc 3199999) (pos 3200000) m q.left q.lefts in
    let l = last_word q.right q.rights in
    let d : Dispatch = dispatch_of (map amount_of p.left) (map amount_of q.left) in (
      d,
      record { machines = x.1; buses = y.1; units = record { powers = x.2; angles = y.2 } },
      (λ i. eh i ∷ (p.whole ∙ (λ j. x.0 j ++ (q.whole ∙ (λ k. y.0 k ++ l k)) j)) i),
    )

dispatch-from : (n m : ℕ) (w : List ℕ) → DispatchForm n m w → Matches (dispatch_slots n m) w
dispatch-from n m w (d, l, e) =
    let u = l.units in
    let x = words_run (negsuc 99999999) (pos 100000000) power_short d.powers u.powers in
    let y = words_run (negsuc 3199999) (pos 3200000) angle-short d.angles u.angles in
    let x' = subst (λ (k : ℕ). Matches (in_turn k power_slot power_slot) (map amount_word d.powers)) l.machines x in
    let y' = subst (λ (k : ℕ). Matches (in_turn k angle_slot angle_slot) (map amount_word d.angles)) l.buses y in
    subst (λ (v : List ℕ). Matches (dispatch_slots n m) v) (sym e) (
      head_fits 2 (omega arith),
      matches_join (in_turn n power_slot power_slot) (in_turn m angle_slot angle_slot ++ (End ∷ [])) (map amount_word d.powers) (map amount_word d.angles ++ (word_of kind.End 0 ∷ [])) x'
          (matches_join (in_turn m angle_slot angle_slot) (End ∷ []) (map amount_word d.angles) (word_of kind.End 0 ∷ []) y' (end_fits, tt)),
    )

dispatch-some : (n m : ℕ) → (w : List ℕ) × DispatchForm n m w
dispatch-some n m =
    let d : Dispatch = dispatch_of (replicate n (pos 0)) (replicate m (pos 0)) in (
      dispatch_words d,
      (
        d,
        record {
          machines = length-replicate n (pos 0);
          buses = length-replicate m (pos 0);
          units = record {
            powers = all_same Power (pos 0) (omega (arith, ints), omega (arith, ints)) n;
            angles = all_same Angle (pos 0) (omega (arith, ints), omega (arith, ints)) m;
          };
        },
        refl,
      ),
    )

pub dispatch_layout : (n m : ℕ) → Layout (DispatchForm n m) (dispatch_slots n m)
dispatch_layout n m = record { to = dispatch-to n m; from = dispatch-from n m; some = dispatch-some n m }

-- the places of both groups' powers, one after the other, are those of all powers
abbrev pub group_slots : ℕ → ℕ → ℕ → List Slot
group_slots n k m = Head 2 ∷ (in_turn n power_slot power_slot ++ (in_turn k power_slot power_slot ++ (in_turn m angle_slot angle_slot ++ (End ∷ []))))

turns_join : (s : Slot) (n k : ℕ) (r : List Slot) → in_turn n s s ++ (in_turn k s s ++ r) ≡ in_turn (n + k) s s ++ r
turns_join s zero k r = ap (λ (j : ℕ). in_turn j s s ++ r) (sym (zero-add k))
turns_join s (suc n) k r =
    let e : suc (n + k) ≡ suc n + k = omega arith in
    ap (λ (l : List Slot). s ∷ l) (turns_join s n k r) ∙ ap (λ (j : ℕ). in_turn j s s ++ r) e

pub groups_are : (n k m : ℕ) → group_slots n k m ≡ dispatch_slots (n + k) m
groups_are n k m = ap (λ (l : List Slot). Head 2 ∷ l) (turns_join power_slot n k (in_turn m angle_slot angle_slot ++ (End ∷ [])))

words_length : (d : Dispatch) → length (dispatch_words d) ≡ length d.powers + length d.angles + 2
words_length d = simp (length-append, length-map) (omega arith)

long_of : (n m : ℕ) (w : List ℕ) → Matches (dispatch_slots n m) w → length w ≡ n + m + 2
long_of n m w s =
    let d = dispatch-to n m w s in
    let a = d.1.machines in
    let b = d.1.buses in
    let k = words_length d.0 in
    ap length d.2 ∙ (omega arith)

pub dispatch_long : (n k m : ℕ) (w : List ℕ) → Matches (group_slots n k m) w → length w ≡ n + k + m + 2
dispatch_long n k m w s = long_of (n + k) m w (subst (λ (ss : List Slot). Matches ss w) (groups_are n k m) s)

-- the numbers at the places of each run are those of the dispatch
module _ (n m : ℕ) (w : List ℕ) (d : Dispatch) (l : LawfulDispatch n m d) (e : w ≡ dispatch_words d) where
  powers_at : (i : ℕ) → column_value w 1 n 1 i ≡ get_or d.powers i (pos 0)
  powers_at i =
      column_run w (word_of kind.Head 2 ∷ []) d.powers (map amount_word d.angles ++ (word_of kind.End 0 ∷ [])) 1 n i e refl l.machines
      (All-weaker Power Short power_short d.powers l.units.powers)

  angles_at : (i : ℕ) → column_value w (1 + n) m 1 i ≡ get_or d.angles i (pos 0)
  angles_at i =
      let k : length (map amount_word d.powers) ≡ n = length-map d.powers amount_word ∙ l.machines in
      column_run w (word_of kind.Head 2 ∷ map amount_word d.powers) d.angles (word_of kind.End 0 ∷ []) (1 + n) m i e (omega arith) l.buses
      (All-weaker Angle Short angle-short d.angles l.units.angles)

all_first : {X : Type 0} (P : X → Type 0) (n : ℕ) (xs : List X) → AllByRecursion P xs → AllByRecursion P (take n xs)
all_first P zero xs h = tt
all_first P (suc n) [] h = tt
all_first P (suc n) (x ∷ xs) h = (h.0, all_first P n xs h.1)

all_after : {X : Type 0} (P : X → Type 0) (n : ℕ) (xs : List X) → AllByRecursion P xs → AllByRecursion P (drop n xs)
all_after P zero xs h = h
all_after P (suc n) [] h = tt
all_after P (suc n) (x ∷ xs) h = all_after P n xs h.1

-- the numbers at the places of each group are its powers
module _ (n k m : ℕ) (w : List ℕ) (d : Dispatch) (l : LawfulDispatch (n + k) m d) (e : w ≡ dispatch_words d) where
  tail : List ℕ
  tail = map amount_word d.angles ++ (word_of kind.End 0 ∷ [])

  shorts : AllByRecursion Short d.powers
  shorts = All-weaker Power Short power_short d.powers l.units.powers

  cut : map amount_word d.powers ≡ map amount_word (take n d.powers) ++ map amount_word (drop n d.powers)
  cut = ap (map amount_word) (sym (take-append-drop n d.powers)) ∙ map-append amount_word (take n d.powers) (drop n d.powers)

  in_groups : w ≡ word_of kind.Head 2 ∷ (map amount_word (take n d.powers) ++ (map amount_word (drop n d.powers) ++ tail))
  unfolding tail
  in_groups =
      e ∙ ap (λ (x : List ℕ). word_of kind.Head 2 ∷ (x ++ tail)) cut
      ∙ ap (λ (x : List ℕ). word_of kind.Head 2 ∷ x) (append_assoc (map amount_word (take n d.powers)) (map amount_word (drop n d.powers)) tail)

  first_long : length (take n d.powers) ≡ n
  first_long = omega (arith, length-take n d.powers, l.machines)

  second_long : length (drop n d.powers) ≡ k
  second_long = omega (arith, length-drop n d.powers, l.machines)

  first_at : (i : ℕ) → column_value w 1 n 1 i ≡ get_or (take n d.powers) i (pos 0)
  unfolding tail
  first_at i =
      column_run w (word_of kind.Head 2 ∷ []) (take n d.powers) (map amount_word (drop n d.powers) ++ tail) 1 n i in_groups refl first_long
      (all_first Short n d.powers shorts)

  second_at : (i : ℕ) → column_value w (1 + n) k 1 i ≡ get_or (drop n d.powers) i (pos 0)
  unfolding tail
  second_at i =
      let j : length (map amount_word (take n d.powers)) ≡ n = length-map (take n d.powers) amount_word ∙ first_long in
      column_run w (word_of kind.Head 2 ∷ map amount_word (take n d.powers)) (drop n d.powers) tail (1 + n) k i in_groups (omega arith) second_long
      (all_after Short n d.powers shorts)

pub reads_dispatch : (n k m : ℕ) (w : List ℕ) (p : view.Dispatch WordColumn) → Matches (group_slots n k m) w → ((i : ℕ) → value_of p.first.column i ≡ column_value w 1 n 1 i) → ((i : ℕ) → value_of p.second.column i ≡ column_value w (1 + n) k 1 i) → ((i : ℕ) → value_of p.angles.column i ≡ column_value w (1 + n + k) m 1 i) → ReadsDispatch n k m w p
reads_dispatch n k m w p s f g h =
    let d = dispatch-to (n + k) m w (subst (λ (ss : List Slot). Matches ss w) (groups_are n k m) s) in
    let j : 1 + n + k ≡ 1 + (n + k) = omega arith in
    record {
      dispatch = d.0;
      lawful = d.1;
      words = d.2;
      first = λ i. f i ∙ first_at n k m w d.0 d.1 d.2 i;
      second = λ i. g i ∙ second_at n k m w d.0 d.1 d.2 i;
      angles = λ i. h i ∙ ap (λ (x : ℕ). column_value w x m 1 i) j ∙ angles_at (n + k) m w d.0 d.1 d.2 i;
    }

-- two dispatches of the same counts with the same words are the same
pub dispatch-same : (n m : ℕ) (d e : Dispatch) → LawfulDispatch n m d → LawfulDispatch n m e → dispatch_words e ≡ dispatch_words d → e ≡ d
dispatch-same n m d e l k h =
    let p : e.powers ≡ d.powers = ext_get_or (pos 0) e.powers d.powers (k.machines ∙ sym l.machines) (λ i _. sym (powers_at n m (dispatch_words d) e k (sym h) i) ∙ powers_at n m (dispatch_words d) d l refl i) in
    let a : e.angles ≡ d.angles = ext_get_or (pos 0) e.angles d.angles (k.buses ∙ sym l.buses) (λ i _. sym (angles_at n m (dispatch_words d) e k (sym h) i) ∙ angles_at n m (dispatch_words d) d l refl i) in
    λ i. record { powers = p i; angles = a i }

-- what is written reads back
pub reads_back : (d : Dispatch) → InUnits d → ReadsBack d
reads_back d u =
    let n : ℕ = length d.powers in
    let m : ℕ = length d.angles in
    let l : LawfulDispatch n m d = record { machines = refl; buses = refl; units = u } in
    record {
      lawful = l;
      same = λ e k h. dispatch-same n m d e l k h;
      taken = λ r place. (form_exact (DispatchForm n m) (dispatch_slots n m) (dispatch_layout n m)).accepted (dispatch_words d) r place (d, l, refl);
    }

set_paste : (l : List ℕ) (k x : ℕ) → k < length l → set l k x ≡ paste l k (x ∷ []) 1
set_paste l k x h =
    let s : set l k x ≡ take k l ++ (x ∷ drop (k + 1) l) = rw add-one (set_split l k x h) in
    s ∙ sym (paste_all l k (x ∷ []) 1 refl)

-- one part after the other, from the first place on
then_paste : (l s t : List ℕ) (n m : ℕ) → n ≡ length s → m ≡ length t → paste (paste l 0 s n) n t m ≡ paste l 0 (s ++ t) (n + m)
then_paste l s t n m e f =
    let z : 0 + n ≡ n = omega arith in
    subst (λ (k : ℕ). paste (paste l 0 s n) k t m ≡ paste l 0 (s ++ t) (n + m)) z (paste-paste l 0 s t n m e f (omega arith))

-- a list after the head, both tables and the end word are written over it, one after the other
pub written : (f t : List ℤ) (l₀ l₁ l₂ : List ℕ) (h e : ℕ) → length f + length t + 2 ≤ length l₀ → h ≡ word_of kind.Head 2 → e ≡ word_of kind.End 0 → l₁ ≡ take 1 (set l₀ 0 h) ++ (map amount_word f ++ drop (1 + length f) (set l₀ 0 h)) → l₂ ≡ take (1 + length f) l₁ ++ (map amount_word t ++ drop ((1 + length f) + length t) l₁) → set l₂ ((1 + length f) + length t) e ≡ dispatch_words (dispatch_of f t) ++ drop (((1 + length f) + length t) + 1) l₀
written f t l₀ l₁ l₂ h e room eh ee e₁ e₂ =
    let n : ℕ = length f in
    let m : ℕ = length t in
    let A : List ℕ = map amount_word f in
    let C : List ℕ = map amount_word t in
    let la : n ≡ length A = sym (length-map f amount_word) in
    let lc : m ≡ length C = sym (length-map t amount_word) in
    let lac : (1 + n) + m ≡ length (h ∷ (A ++ C)) = omega (arith, length-append A C) in
    let a₀ : set l₀ 0 h ≡ paste l₀ 0 (h ∷ []) 1 = set_paste l₀ 0 h (omega arith) in
    let a₁ : l₁ ≡ paste l₀ 0 (h ∷ A) (1 + n) =
    e₁ ∙ sym (paste_all (set l₀ 0 h) 1 A n la) ∙ ap (λ (l : List ℕ). paste l 1 A n) a₀ ∙ then_paste l₀ (h ∷ []) A 1 n refl la in
    let a₂ : l₂ ≡ paste l₀ 0 (h ∷ (A ++ C)) ((1 + n) + m) =
    e₂ ∙ sym (paste_all l₁ (1 + n) C m lc) ∙ ap (λ (l : List ℕ). paste l (1 + n) C m) a₁ ∙ then_paste l₀ (h ∷ A) C (1 + n) m (omega arith) lc in
    let k₂ : length l₂ ≡ length l₀ = ap length a₂ ∙ length-paste l₀ 0 (h ∷ (A ++ C)) ((1 + n) + m) (omega arith) (omega arith) in
    let a₃ : set l₂ ((1 + n) + m) e ≡ paste l₀ 0 (h ∷ ((A ++ C) ++ (e ∷ []))) (((1 + n) + m) + 1) =
    set_paste l₂ ((1 + n) + m) e (omega arith) ∙ ap (λ (l : List ℕ). paste l ((1 + n) + m) (e ∷ []) 1) a₂ ∙ then_paste l₀ (h ∷ (A ++ C)) (e ∷ []) ((1 + n) + m) 1 lac refl in
    let w : h ∷ ((A ++ C) ++ (e ∷ [])) ≡ dispatch_words (dispatch_of f t) = λ i. eh i ∷ (append_assoc A C (e ∷ []) ∙ (λ j. A ++ (C ++ (ee j ∷ [])))) i in
    let k : ((1 + n) + m) + 1 ≡ length (h ∷ ((A ++ C) ++ (e ∷ []))) = omega (arith, length-append (A ++ C) (e ∷ [])) in
    let z : 0 + (((1 + n) + m) + 1) ≡ ((1 + n) + m) + 1 = omega arith in
    a₃ ∙ paste_all l₀ 0 (h ∷ ((A ++ C) ++ (e ∷ []))) (((1 + n) + m) + 1) k ∙ (λ i. w i ++ drop (z i) l₀)

pub dispatch_refused : (n k m : ℕ) (w : List ℕ) (f : WordFault) → RefusedWord (Matches (group_slots n k m)) w f → RefusedWord (DispatchForm (n + k) m) w f
dispatch_refused n k m w f r =
    refused _ _ (dispatch_layout (n + k) m) w f (subst (λ (ss : List Slot). RefusedWord (Matches ss) w f) (groups_are n k m) r)

pub groups_possible : (n k m : ℕ) → Possible (group_slots n k m)
groups_possible n k m = subst Possible (sym (groups_are n k m)) (possible _ _ (dispatch_layout (n + k) m))
