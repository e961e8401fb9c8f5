-- A case that can be read is not refused, and what is refused is so by one fault.
use Rattle.std.proofs.Common.{◌≡◌, ℕ, List, Some, sym, ap, ◌∙◌, subst, inl, inr}
use Rattle.std.proofs.lemmas.Bool.{cases_order}
use Rattle.measure.specs.Rows.{Lowest}
use Rattle.stepped.specs.Piecewise.{stepped_meaning}
use Rattle.stepped.specs.declared.stepped.Stepped.{Stepped}
use Rattle.curved.specs.Quadratic.{curved_meaning}
use Rattle.curved.specs.declared.curved.Curved.{Curved}
use Rattle.network.specs.declared.refusal.Refusal.{Refusal}
use Rattle.network.specs.declared.refusal.Refusal.TheVariants.{Repeated, UnknownBus}
use Rattle.build.specs.declared.tables.Rows.{Rows}
use Rattle.build.specs.declared.tables.Sizes.{Sizes}
use Rattle.build.specs.Offer.{BusRepeated, BranchRepeated, Unknown, Accepted, Refused}
use Rattle.build.specs.Build.{room_of}
use Rattle.case_paper.specs.Case.{CaseForm}
use Rattle.case_paper.specs.CaseFault.{LawfulCase}
use Rattle.case_paper.specs.declared.fault.CaseFault.{CaseFault}
use Rattle.case_paper.specs.declared.fault.CaseFault.TheVariants as fault
use Rattle.case_paper.proofs.Outcomes.{form_same, case_exact}
use Rattle.case_tables.specs.Rows.{bus_rows, stepped_rows, curved_rows, branch_rows}
use Rattle.case_tables.specs.Read.{Tables, laid_in, rows_provided, Offered, NamesRefused, Unread, Readable, ReadExact}

lowest-same : (P : ℕ → Type 0) (i j : ℕ) → Lowest P (Some i) → Lowest P (Some j) → i ≡ j
lowest-same P i j a b =
    elim (cases_order i j) [
      | inl e ↦ e
      | inr o ↦ elim o [
        | inl l ↦ absurd (b.1 i l a.0)
        | inr l ↦ absurd (a.1 j l b.0)
      ]
    ]

-- ---- the same rows, lent elsewhere, meet the same refusal
module _ (o p : Rows Stepped Curved) where
  abbrev moved : Rows Stepped Curved
  moved =
      record {
        tolerance = p.tolerance;
        buses = record p.buses { now = o.buses.now };
        first = record p.first { now = o.first.now };
        second = record p.second { now = o.second.now };
        branches = record p.branches { now = o.branches.now };
      }

module _ (w : List ℕ) (c d : CaseForm w) (o p : Rows Stepped Curved) (f : Offered c o) (g : Offered d p) where
  same_rows : p ≡ moved o p
  same_rows =
      let e = sym (form_same w c d).1 in
      let b = g.buses ∙ ap bus_rows e ∙ sym f.buses in
      let m = g.first ∙ ap stepped_rows e ∙ sym f.first in
      let n = g.second ∙ ap curved_rows e ∙ sym f.second in
      let r = g.branches ∙ ap branch_rows e ∙ sym f.branches in
      λ i. record {
        tolerance = p.tolerance;
        buses = record p.buses { now = b i };
        first = record p.first { now = m i };
        second = record p.second { now = n i };
        branches = record p.branches { now = r i };
      }

  refused_same : (room : Sizes ℕ) (e : Refusal) → Refused stepped_meaning curved_meaning p room e → Refused stepped_meaning curved_meaning (moved o p) room e
  refused_same room e = subst (λ (x : Rows Stepped Curved). Refused stepped_meaning curved_meaning x room e) same_rows

-- ---- two outcomes of one offer
module _ (o q : Rows Stepped Curved) (room : Sizes ℕ) where
  repeated_accepted : (i : ℕ) → Accepted stepped_meaning curved_meaning o room → Refused stepped_meaning curved_meaning (moved o q) room (Repeated i) → ⊥
  repeated_accepted i a (ranges, order, sizes, inl b) = a.names.buses i b.0
  repeated_accepted i a (ranges, order, sizes, inr b) = a.names.branches i b.1.0

  unknown_accepted : (i : ℕ) → Accepted stepped_meaning curved_meaning o room → Refused stepped_meaning curved_meaning (moved o q) room (UnknownBus i) → ⊥
  unknown_accepted i a (ranges, order, sizes, names, u) = a.known i u.0

  repeated_same : (i j : ℕ) → Refused stepped_meaning curved_meaning o room (Repeated i) → Refused stepped_meaning curved_meaning (moved o q) room (Repeated j) → i ≡ j
  repeated_same i j (ranges, order, sizes, inl a) (ranges', order', sizes', inl b) = lowest-same (BusRepeated o.buses.now) i j a b
  repeated_same i j (ranges, order, sizes, inl a) (ranges', order', sizes', inr b) = absurd (b.0 i a.0)
  repeated_same i j (ranges, order, sizes, inr a) (ranges', order', sizes', inl b) = absurd (a.0 j b.0)
  repeated_same i j (ranges, order, sizes, inr a) (ranges', order', sizes', inr b) = lowest-same (BranchRepeated o.branches.now) i j a.1 b.1

  repeated_unknown : (i j : ℕ) → Refused stepped_meaning curved_meaning o room (Repeated i) → Refused stepped_meaning curved_meaning (moved o q) room (UnknownBus j) → ⊥
  repeated_unknown i j (ranges, order, sizes, inl a) (ranges', order', sizes', names, u) = names.buses i a.0
  repeated_unknown i j (ranges, order, sizes, inr a) (ranges', order', sizes', names, u) = names.branches i a.1.0

  unknown_same : (i j : ℕ) → Refused stepped_meaning curved_meaning o room (UnknownBus i) → Refused stepped_meaning curved_meaning (moved o q) room (UnknownBus j) → i ≡ j
  unknown_same i j (ranges, order, sizes, names, u) (ranges', order', sizes', names', v) = lowest-same (Unknown stepped_meaning curved_meaning o) i j u v

-- ---- two outcomes of one list of words
module _ (w : List ℕ) (t : Tables) where
  names_at : (l : LawfulCase (rows_provided t) w) (o : Rows Stepped Curved) → Offered l.form o → (e : Refusal) (r : NamesRefused w t e) → Refused stepped_meaning curved_meaning (moved o r.offer) (room_of (laid_in t)) e
  names_at l o f e r = refused_same w l.form r.lawful.form o r.offer f r.offered (room_of (laid_in t)) e r.refused

  accepted : (f : CaseFault) → Readable w t → Unread w t f → ⊥
  accepted (fault.Record f) a u = case_exact.accepted (rows_provided t) w f a.lawful u
  accepted (fault.Repeats i) a u = repeated_accepted a.offer u.offer (room_of (laid_in t)) i a.accepted (names_at a.lawful a.offer a.offered (Repeated i) u)
  accepted (fault.Lacks i) a u = unknown_accepted a.offer u.offer (room_of (laid_in t)) i a.accepted (names_at a.lawful a.offer a.offered (UnknownBus i) u)

  once : (f g : CaseFault) → Unread w t f → Unread w t g → f ≡ g
  once (fault.Record f) (fault.Record g) u v = ap fault.Record (case_exact.once (rows_provided t) w f g u v)
  once (fault.Record f) (fault.Repeats j) u v = absurd (case_exact.accepted (rows_provided t) w f v.lawful u)
  once (fault.Record f) (fault.Lacks j) u v = absurd (case_exact.accepted (rows_provided t) w f v.lawful u)
  once (fault.Repeats i) (fault.Record g) u v = absurd (case_exact.accepted (rows_provided t) w g u.lawful v)
  once (fault.Repeats i) (fault.Repeats j) u v =
      ap fault.Repeats (repeated_same u.offer v.offer (room_of (laid_in t)) i j u.refused (names_at u.lawful u.offer u.offered (Repeated j) v))
  once (fault.Repeats i) (fault.Lacks j) u v =
      absurd (repeated_unknown u.offer v.offer (room_of (laid_in t)) i j u.refused (names_at u.lawful u.offer u.offered (UnknownBus j) v))
  once (fault.Lacks i) (fault.Record g) u v = absurd (case_exact.accepted (rows_provided t) w g u.lawful v)
  once (fault.Lacks i) (fault.Repeats j) u v =
      absurd (repeated_unknown v.offer u.offer (room_of (laid_in t)) j i v.refused (names_at v.lawful v.offer v.offered (UnknownBus i) u))
  once (fault.Lacks i) (fault.Lacks j) u v =
      ap fault.Lacks (unknown_same u.offer v.offer (room_of (laid_in t)) i j u.refused (names_at u.lawful u.offer u.offered (UnknownBus j) v))

pub read_exact : ReadExact
read_exact =
    record {
      read = λ w before after v r. record { lawful = r.lawful; offer = r.offer; offered = r.offered; accepted = r.laid.accepted };
      accepted = accepted;
      once = once;
    }
