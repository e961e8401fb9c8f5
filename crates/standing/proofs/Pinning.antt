-- What stands leaves no choice.
use Rattle.std.proofs.Common.{◌≡◌, ℕ, ◌+◌, List, ◌∷◌, ℤ, ◌≤ℤ◌, Some, None, Option, sym, refl, ap, ◌∙◌, ap₂, arith}
use lib.Signed.{clash_ℤ}
use Rattle.std.proofs.lemmas.Int.{ints}
use Rattle.std.proofs.lemmas.Bool.{false≢true}
use Rattle.std.proofs.lemmas.Option.{none-some, same_Some}
use Rattle.standing.specs.Model.{Model, Grounds}
use Rattle.standing.specs.Call.{Call, History}
use Rattle.standing.specs.Panel.{Counts, Watch, Sheet, Priced, cost_of}
use Rattle.standing.specs.Told.{CountOf, OffersMeeting, Since, MeetingSince, CheapestYet}
use Rattle.standing.specs.Told.OffersMeeting.{meeting}
use Rattle.standing.specs.Told.Since.{newest, earlier}
use Rattle.standing.specs.Told.CountOf.{anew, one_more, no_more}
use Rattle.standing.specs.Standing.{ShownStands, FloorStands, CountsStand, WatchStands, OnWatch, SheetStands, SheetsStand}
use Rattle.standing.specs.Standing.SheetsStand.{written, unwritten}
use Rattle.standing.specs.Theorems.{PinningTheorem, SameCallsTheorem}
use Rattle.standing.proofs.Counting.{counts_path}
use Rattle.standing.proofs.Standing.{standing_theorem}

count_same : {m : Model} {Anew : Call m → Type 0} {P : History m → Call m → Type 0} {h : History m} {n k : ℕ} → CountOf Anew P h n → CountOf Anew P h k → n ≡ k
count_same CountOf.none CountOf.none = refl
count_same (anew a) (anew b) = refl
count_same (anew a) (one_more n p x) = absurd (n a)
count_same (anew a) (no_more n p x) = absurd (n a)
count_same (one_more n p x) (anew b) = absurd (n b)
count_same (one_more n p x) (one_more l q y) = ap (λ z. z + 1) (count_same x y)
count_same (one_more n p x) (no_more l q y) = absurd (q p)
count_same (no_more n p x) (anew b) = absurd (n b)
count_same (no_more n p x) (one_more l q y) = absurd (p q)
count_same (no_more n p x) (no_more l q y) = count_same x y

at_once : (a b : ℤ) → a ≤ℤ b → b ≤ℤ a → a ≡ b
at_once a b p q = omega (arith, ints)

watch_path : (v w : Watch) → v.attendant ≡ w.attendant → v.counts ≡ w.counts → v ≡ w
watch_path v w p q = λ i. record { attendant = p i; counts = q i }

sheet_path : (x y : Sheet) → x.attendant ≡ y.attendant → x.counts ≡ y.counts → x.cost ≡ y.cost → x.floor ≡ y.floor → x ≡ y
sheet_path x y p q r t = λ i. record { attendant = p i; counts = q i; cost = r i; floor = t i }

module _ (m : Model) (start : m.Case) where
  same_offer : {h : History m} {c : Call m} {d e : Priced m} → OffersMeeting m start h c d → OffersMeeting m start h c e → d ≡ e
  same_offer (meeting f k) (meeting g l) = refl

  was_offered : {h : History m} {d : Priced m} → Since m start (CheapestYet m start) h d → MeetingSince m start h d
  was_offered (newest x) = newest x.offered
  was_offered (earlier n s) = earlier n (was_offered s)

  -- of two that are counted alike, one was offered first
  same_first : {h : History m} {d e : Priced m} → Since m start (CheapestYet m start) h d → Since m start (CheapestYet m start) h e → d.cost ≤ℤ e.cost → e.cost ≤ℤ d.cost → d ≡ e
  same_first (newest x) (newest y) p q = same_offer x.offered y.offered
  same_first {e = e} (newest x) (earlier n y) p q = clash_ℤ (x.better e (was_offered y)) q
  same_first {d = d} (earlier n x) (newest y) p q = clash_ℤ (y.better d (was_offered x)) p
  same_first (earlier n x) (earlier l y) p q = same_first x y p q

  same_shown : (h : History m) (a b : Option (Priced m)) → ShownStands m start h a → ShownStands m start h b → a ≡ b
  same_shown h None None p q = refl
  same_shown h None (Some e) p q = absurd (false≢true (p.if_offered e (q.is_offered e refl)))
  same_shown h (Some d) None p q = absurd (false≢true (q.if_offered d (p.is_offered d refl)))
  same_shown h (Some d) (Some e) p q =
      ap Some (same_first (p.first d refl) (q.first e refl) (p.cheapest d e refl (q.is_offered e refl)) (q.cheapest e d refl (p.is_offered d refl)))

  same_floor : (h : History m) (a b : Option ℤ) → FloorStands m start h a → FloorStands m start h b → a ≡ b
  same_floor h None None p q = refl
  same_floor h None (Some g) p q = absurd (false≢true (p.if_offered g (q.is_offered g refl)))
  same_floor h (Some f) None p q = absurd (false≢true (q.if_offered f (p.is_offered f refl)))
  same_floor h (Some f) (Some g) p q =
      ap Some (at_once f g (q.highest g f refl (p.is_offered f refl)) (p.highest f g refl (q.is_offered g refl)))

  same_counts : {Anew : Call m → Type 0} {h : History m} (a b : Counts) → CountsStand m start Anew h a → CountsStand m start Anew h b → a ≡ b
  same_counts a b p q =
      counts_path a b (count_same p.held q.held) (count_same p.passed q.passed) (count_same p.declined q.declined) (count_same p.changes q.changes)

  same_attendant : (h : History m) (v w : Watch) → WatchStands m start h v → WatchStands m start h w → v.attendant ≡ w.attendant
  same_attendant h v w p q = same_Some _ _ (sym p.attendant_is ∙ q.attendant_is)

  same_watch : (h : History m) (a b : Option Watch) → OnWatch m start h a → OnWatch m start h b → a ≡ b
  same_watch h None None p q = refl
  same_watch h None (Some w) p q = absurd (none-some _ (sym p ∙ q.attendant_is))
  same_watch h (Some v) None p q = absurd (none-some _ (sym q ∙ p.attendant_is))
  same_watch h (Some v) (Some w) p q =
      ap Some (watch_path v w (same_attendant h v w p q) (same_counts v.counts w.counts p.counts_stand q.counts_stand))

  same_sheet : (h : History m) (x y : Sheet) → SheetStands m start h x → SheetStands m start h y → x ≡ y
  same_sheet h x y p q =
      sheet_path x y
      (same_Some _ _ (sym p.watch_stands.attendant_is ∙ q.watch_stands.attendant_is))
      (same_counts x.counts y.counts p.watch_stands.counts_stand q.watch_stands.counts_stand)
      (p.cost_is ∙ ap cost_of (same_shown h p.shown q.shown p.shown_stands q.shown_stands) ∙ sym q.cost_is)
      (same_floor h x.floor y.floor p.floor_stands q.floor_stands)

  same_sheets : {h : History m} {a b : List Sheet} → SheetsStand m start h a → SheetsStand m start h b → a ≡ b
  same_sheets SheetsStand.none SheetsStand.none = refl
  same_sheets (written {h = h} {x = x} e p l) (written {x = y} f q r) = ap₂ (λ z zs. z ∷ zs) (same_sheet h x y p q) (same_sheets l r)
  same_sheets (written e p l) (unwritten f r) = absurd (f e)
  same_sheets (unwritten e l) (written f q r) = absurd (e f)
  same_sheets (unwritten e l) (unwritten f r) = same_sheets l r

pub pinning_theorem : (m : Model) → PinningTheorem m
pinning_theorem m start h sheets sheets' s t p q =
    record {
      case_same = p.case_is ∙ sym q.case_is;
      shown_same = same_shown m start h s.shown t.shown p.shown_stands q.shown_stands;
      floor_same = same_floor m start h s.floor t.floor p.floor_stands q.floor_stands;
      watch_same = same_watch m start h s.watch t.watch p.watch_stands q.watch_stands;
      sheets_same = same_sheets m start p.sheets_stand q.sheets_stand;
    }

pub same-calls_theorem : (m : Model) → Grounds m → SameCallsTheorem m
same-calls_theorem m grounds start h sheets sheets' s t p q =
    pinning_theorem m start h sheets sheets' s t (standing_theorem m grounds start h sheets s p) (standing_theorem m grounds start h sheets' t q)
