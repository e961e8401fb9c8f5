-- What is offered is the case that was read, and the tables then hold it.
use Rattle.std.proofs.Common.{◌≡◌, ℕ, ◌≤◌, List, ◌++◌, length, get_or, take, drop, ℤ, pos, sym, refl, ap, ◌∙◌, subst, arith, w64, SFits, to_z, of_z}
use Rattle.std.proofs.Common.{Result, Ok, Err}
use Rattle.std.specs.List.{flat_map}
use Rattle.std.specs.Result.{MatchResult, IsErrAnd}
use Rattle.std.proofs.lemmas.List.{get_or_append_left, take_at, take_all}
use Rattle.std.proofs.lemmas.Int.{to_z-of_z}
use Rattle.word.specs.Word.{amount_of}
use Rattle.word.proofs.Slots.{matches_length}
use Rattle.network.specs.declared.refusal.Refusal.{Refusal}
use Rattle.stepped.specs.Piecewise.{stepped_meaning}
use Rattle.stepped.specs.declared.stepped.Stepped.{Stepped}
use Rattle.curved.specs.Quadratic.{curved_meaning}
use Rattle.curved.specs.declared.curved.Curved.{Curved}
use Rattle.build.specs.declared.tables.Rows.{Rows}
use Rattle.build.specs.Offer.{Refused}
use Rattle.build.specs.Build.{room_of, Lent, Laid, NotLaid, WellFormed, laid_case}
use Rattle.case_paper.specs.Case as the
use Rattle.case_paper.specs.Case.{head_slots, record_words, end_word, CaseForm}
use Rattle.case_paper.specs.CaseFault.{LawfulCase}
use Rattle.case_paper.specs.Rows.{tolerance_of}
use Rattle.case_paper.specs.declared.fault.CaseFault.{CaseFault}
use Rattle.case_paper.specs.declared.fault.CaseFault.TheVariants.{Record, Repeats, Lacks}
use Rattle.build.specs.declared.tables.LaidCase.{LaidCase}
use Rattle.case_tables.specs.declared.rows.CaseRows.{CaseRows}
use Rattle.case_tables.specs.Rows.{Offers}
use Rattle.case_tables.specs.Held.{Holds, CountedCase}
use Rattle.case_tables.specs.Read.{Tables, tables, rows_provided, laid_in, Offered, Written, held_case, CaseRead, Unread, NotRead, Reported}
use Rattle.case_tables.proofs.Ranges.{first_count, second_count}

-- ---- a result whose errors are told otherwise: the error that is told
pub error_told : {T E F : Type 0} (r : Result T E) (s : Result T F) (P : T → Type 0) (Q : E → Type 0) (R : E → F → Type 0) (f : F) → s ≡ Err f → MatchResult r (λ y. s ≡ Ok y) (λ e. IsErrAnd s (R e)) → MatchResult r P Q → (e : E) × (R e f × Q e)
error_told (Ok y) s P Q R f e k h = absurd (subst (λ v. IsErrAnd v (λ g. g ≡ f)) (sym e ∙ k) refl)
error_told (Err d) s P Q R f e k h = (d, (subst (λ v. IsErrAnd v (R d)) e k, h))

-- the tables that are laid by names are as they were, and so are all
untouched : (t : Tables) (b : Lent) → b ≡ laid_in t → tables b.buses t.stepped b.first t.curved b.second b.branches ≡ t
untouched t b e = ap (λ (k : Lent). tables k.buses t.stepped k.first t.curved k.second k.branches) e

-- the fault that is reported for a refusal of what is offered
reported_unread : (w : List ℕ) (t : Tables) (l : LawfulCase (rows_provided t) w) (o : Rows Stepped Curved) → Offered l.form o → (e : Refusal) → Refused stepped_meaning curved_meaning o (room_of (laid_in t)) e → (f : CaseFault) → Reported e f → Unread w t f
reported_unread w t l o offers e r (Record f) is = absurd is
reported_unread w t l o offers e r (Repeats row) is = record { lawful = l; offer = o; offered = offers; refused = subst (Refused stepped_meaning curved_meaning o (room_of (laid_in t))) is r }
reported_unread w t l o offers e r (Lacks row) is = record { lawful = l; offer = o; offered = offers; refused = subst (Refused stepped_meaning curved_meaning o (room_of (laid_in t))) is r }

module _ (w : List ℕ) (t : Tables) (l : LawfulCase (rows_provided t) w) where
  pub counted_case : CountedCase w
  counted_case = record { form = l.form; met = l.met }

  -- the tolerance is the head's second word
  pub tolerance_word : amount_of (get_or w 1 0) ≡ tolerance_of l.form
  tolerance_word =
      let n = matches_length head_slots l.form.head l.form.headed in
      ap (λ (v : List ℕ). amount_of (get_or v 1 0)) l.form.words
      ∙ ap amount_of (get_or_append_left l.form.head (flat_map record_words l.form.records ++ end_word) 0 1 (omega arith))

  -- the rows of all records, offered at that tolerance, are the case
  pub offered : (u : CaseRows) → ((c : CaseForm w) → Holds u c.records) → (o : Rows Stepped Curved) (z : ℤ) → SFits w64 z → z ≡ amount_of (get_or w 1 0) → ((rs : List the.Record) → Holds u rs → Offers (to_z w64 (of_z w64 z)) rs o) → Offered l.form o
  offered u holds o z fits e offers =
      subst (λ (x : ℤ). Offers x l.form.records o) (to_z-of_z w64 z fits ∙ e ∙ tolerance_word) (offers l.form.records (holds l.form))

  module _ (o : Rows Stepped Curved) (f : Offered l.form o) where
    -- what is offered is refused: nothing is laid, and the case is not read
    pub not_read : (b : Lent) (v : CaseFault) → ((e : Refusal) × (Reported e v × NotLaid stepped_meaning curved_meaning o (laid_in t) b e)) → NotRead w t (tables b.buses t.stepped b.first t.curved b.second b.branches) v
    not_read b v n =
        record {
          refused = reported_unread w t l o f n.0 n.1.1.refused v n.1.0;
          untouched = untouched t b n.1.1.untouched;
        }

    -- the lent tables have room for the machines
    pub first_room : length o.first.now ≤ length t.stepped
    first_room = let a = first_count w t l o f in let b = l.fitting 1 (omega arith) in omega arith

    pub second_room : length o.second.now ≤ length t.curved
    second_room = let a = second_count w t l o f in let b = l.fitting 2 (omega arith) in omega arith

    -- the machines that are laid are those that stand in the table's first rows
    written_same : {X : Type 0} (xs before after : List X) (n : ℕ) → n ≡ length xs → Written xs before after → take n xs ≡ take n after
    written_same xs before after n e a =
        take_all n xs (omega arith) ∙ sym (ap (take n) a ∙ take_at xs (drop (length xs) before) n (sym e))

    module _ (after : Tables) (v : LaidCase) (laid : Laid stepped_meaning curved_meaning o (laid_in t) (laid_in after) v) (first : Written o.first.now t.stepped after.stepped) (second : Written o.second.now t.curved after.curved) where
      -- the tables hold the case that was laid
      held : laid_case o (laid_in after) v ≡ held_case v after
      held =
          let m = written_same o.first.now t.stepped after.stepped v.counts.first laid.counted.first first in
          let n = written_same o.second.now t.curved after.curved v.counts.second laid.counted.second second in
          λ i. record {
            tolerance = pos v.tolerance;
            buses = take v.counts.buses after.buses;
            first = record { machines = m i; place = λ k. get_or after.first k 0 };
            second = record { machines = n i; place = λ k. get_or after.second k 0 };
            branches = take v.counts.branches after.branches;
          }

      pub case_read : WellFormed stepped_meaning curved_meaning (laid_case o (laid_in after) v) → CaseRead w t after v
      case_read formed =
          record {
            lawful = l;
            offer = o;
            offered = f;
            laid = laid;
            tolerance = laid.tolerance ∙ f.allows;
            stepped = subst (λ (xs : List Stepped). Written xs t.stepped after.stepped) f.first first;
            curved = subst (λ (xs : List Curved). Written xs t.curved after.curved) f.second second;
            formed = subst (WellFormed stepped_meaning curved_meaning) held formed;
          }
