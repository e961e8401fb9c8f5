-- The rows of a bus, of a machine with a quadratic cost and of a branch, and the records that they write.
use Rattle.std.proofs.Common.{rules, ◌≡◌, ℕ, zero, suc, ◌+◌, ◌*◌, ◌/◌, ◌%◌, ◌<◌, ◌≤◌, Bool, true, false, eqb, List, [], ◌∷◌, map, ℤ, pos, negsuc, neg_ℤ, ◌≤ℤ◌, ◌<ℤ◌, sym, refl, ap, ◌∙◌, subst, arith}
use Rattle.std.proofs.lemmas.Bool.{and_parts, and_from}
use Rattle.std.proofs.lemmas.Int.{by_lt_z}
use Rattle.measure.specs.Range.{Within, between}
use Rattle.measure.proofs.Laws.{lin}
use Rattle.measure.proofs.Order.{test_within, within_test}
use Rattle.machine.specs.Limits.{limits_in_range}
use Rattle.names.specs.declared.branch.BranchName.{BranchName}
use Rattle.word.specs.Word.{payload_of, amount_of, word_of, amount_word}
use Rattle.word.specs.Laws.{Short}
use Rattle.word.specs.Slot.{Byte, Fits, branch_of}
use Rattle.word.specs.declared.kind.Kind.TheVariants as kind
use Rattle.word.specs.declared.slot.Slot.TheVariants.{Amount}
use Rattle.word.proofs.Words.{kind_word, payload_word, word_is, amount_same, amount_back}
use Rattle.word.proofs.Fillings.{amount_fits}
use Rattle.paper.specs.Name.{bus_word, branch_word, Named}
use Rattle.paper.specs.Change.{mark_number}
use Rattle.paper.proofs.Names.{bus_word-payload_of, bus_fits, branch_word-branch_of, branch_fits}
use Rattle.curved.specs.Quadratic.{in_range}
use Rattle.curved.specs.declared.curved.Curved.{Curved}
use Rattle.build.specs.declared.rows.BusRow.{BusRow}
use Rattle.build.specs.declared.rows.BranchRow.{BranchRow}
use Rattle.build.specs.Raw.{BusInRange}
use Rattle.case_paper.specs.Case.{Record, Formed}
use Rattle.case_paper.specs.Order.{InOrder}
use Rattle.case_paper.specs.declared.sort.Sort.TheVariants as sort
use Rattle.case_tables.specs.Rows.{record_of, bus_row, curved_row, branch_row}
use Rattle.case_tables.specs.Told.{CurvedKept, BranchKept}
use Rattle.case_tables.proofs.Sizes.{amount_positive, payload_between}
use Rattle.case_tables.proofs.Amounts.{Limited, limits_to, limits_from, between_to, between_from, power_short, price_short}

-- ---- buses
abbrev pub bus_record : BusRow → Record
bus_record b = record_of sort.Bus (bus_word b.name) (amount_word b.demand.0 ∷ [])

pub bus_forth : (first : ℕ) (xs : List ℕ) → Formed (record_of sort.Bus first xs) → BusInRange (bus_row (record_of sort.Bus first xs)) × (bus_record (bus_row (record_of sort.Bus first xs)) ≡ record_of sort.Bus first xs)
bus_forth first [] f = absurd f.1
bus_forth first (x ∷ []) f =
    let ef : first ≡ bus_word (payload_of first) = bus_word-payload_of first f.0 in
    let ex : amount_word (amount_of x) ≡ x = amount_same x f.1.0.0 in
    ((f.0.1, f.1.0.1), λ i. record { sort = sort.Bus; first = sym ef i; amounts = ex i ∷ [] })
bus_forth first (x ∷ (y ∷ xs)) f = absurd f.1.1

pub bus_again : (b : BusRow) → BusInRange b → Formed (bus_record b) × InOrder sort.Bus (bus_record b).amounts × (bus_row (bus_record b) ≡ b)
bus_again b r =
    let en : payload_of (bus_word b.name) ≡ b.name = payload_word kind.Bus b.name (omega arith) in
    let ed : amount_of (amount_word b.demand.0) ≡ b.demand.0 = amount_back b.demand.0 (power_short b.demand.0 r.1) in (
      (bus_fits b.name r.0, (amount_fits (negsuc 99999999) (pos 100000000) b.demand.0 (power_short b.demand.0 r.1) r.1, tt)),
      tt,
      λ i. record { name = en i; demand = record { 0 = ed i } },
    )

-- ---- machines with a quadratic cost
record CurvedTested (m : Curved) : Type 0 where
  limits : Limited m.bus m.lo.0 m.hi.0
  c0 : Within 100000000 m.c0
  c1 : Within 1000000 m.c1
  c2 : (pos 1 ≤ℤ m.c2) × (m.c2 ≤ℤ pos 500)

curved_to : (m : Curved) → in_range m ≡ true → CurvedTested m
curved_to m e =
    let a = and_parts _ (between (pos 1) (pos 500) m.c2) e in
    let b = and_parts _ (between (neg_ℤ (pos 1000000)) (pos 1000000) m.c1) a.0 in
    let c = and_parts (limits_in_range m.bus m.lo.0 m.hi.0) (between (neg_ℤ (pos 100000000)) (pos 100000000) m.c0) b.0 in
    record {
      limits = limits_to m.bus m.lo.0 m.hi.0 c.0;
      c0 = test_within 100000000 m.c0 c.1;
      c1 = test_within 1000000 m.c1 b.1;
      c2 = between_to (pos 1) (pos 500) m.c2 a.1;
    }

curved_from : (m : Curved) → CurvedTested m → in_range m ≡ true
curved_from m t =
    and_from _ (between (pos 1) (pos 500) m.c2)
    (and_from _ (between (neg_ℤ (pos 1000000)) (pos 1000000) m.c1)
    (and_from (limits_in_range m.bus m.lo.0 m.hi.0) (between (neg_ℤ (pos 100000000)) (pos 100000000) m.c0)
    (limits_from m.bus m.lo.0 m.hi.0 t.limits) (within_test 100000000 m.c0 t.c0))
    (within_test 1000000 m.c1 t.c1))
    (between_from (pos 1) (pos 500) m.c2 t.c2)

abbrev pub curved_record : Curved → Record
curved_record m =
    record_of sort.Curved (word_of kind.Curved m.bus) (map amount_word (m.lo.0 ∷ m.hi.0 ∷ m.c0 ∷ m.c1 ∷ m.c2 ∷ []))

curved_known : kind.Curved ≡ kind.Unknown → ⊥
curved_known e = search rules

bend_short : (z : ℤ) → (pos 1 ≤ℤ z) × (z ≤ℤ pos 500) → Short z
bend_short z h = (omega (arith, lin), omega (arith, lin))

pub curved_forth : (first : ℕ) (xs : List ℕ) → Formed (record_of sort.Curved first xs) → InOrder sort.Curved xs → CurvedKept (curved_row (record_of sort.Curved first xs)) × (curved_record (curved_row (record_of sort.Curved first xs)) ≡ record_of sort.Curved first xs)
curved_forth first [] f o = absurd f.1
curved_forth first (a ∷ []) f o = absurd f.1.1
curved_forth first (a ∷ (b ∷ [])) f o = absurd f.1.1.1
curved_forth first (a ∷ (b ∷ (c ∷ []))) f o = absurd f.1.1.1.1
curved_forth first (a ∷ (b ∷ (c ∷ (d ∷ [])))) f o = absurd f.1.1.1.1.1
curved_forth first (a ∷ (b ∷ (c ∷ (d ∷ (e ∷ []))))) f o =
    let m : Curved = curved_row (record_of sort.Curved first (a ∷ (b ∷ (c ∷ (d ∷ (e ∷ [])))))) in
    let t : CurvedTested m =
    record {
      limits = record { bus_named = f.0.1; low = f.1.0.1; high = f.1.1.0.1; order = o };
      c0 = f.1.1.1.0.1;
      c1 = f.1.1.1.1.0.1;
      c2 = f.1.1.1.1.1.0.1;
    } in
    let ef : first ≡ word_of kind.Curved (payload_of first) = word_is first kind.Curved f.0.0 curved_known in
    let ea : amount_word (amount_of a) ≡ a = amount_same a f.1.0.0 in
    let eb : amount_word (amount_of b) ≡ b = amount_same b f.1.1.0.0 in
    let ec : amount_word (amount_of c) ≡ c = amount_same c f.1.1.1.0.0 in
    let ed : amount_word (amount_of d) ≡ d = amount_same d f.1.1.1.1.0.0 in
    let ee : amount_word (amount_of e) ≡ e = amount_same e f.1.1.1.1.1.0.0 in
    (curved_from m t, λ i. record { sort = sort.Curved; first = sym ef i; amounts = ea i ∷ (eb i ∷ (ec i ∷ (ed i ∷ (ee i ∷ [])))) })
curved_forth first (a ∷ (b ∷ (c ∷ (d ∷ (e ∷ (g ∷ xs)))))) f o = absurd f.1.1.1.1.1.1

pub curved_again : (m : Curved) → CurvedKept m → Formed (curved_record m) × InOrder sort.Curved (curved_record m).amounts × (curved_row (curved_record m) ≡ m)
curved_again m k =
    let t = curved_to m k in
    let n : m.bus < 268435456 = let b = t.limits.bus_named in omega arith in
    let ef : payload_of (word_of kind.Curved m.bus) ≡ m.bus = payload_word kind.Curved m.bus n in
    let sa = power_short m.lo.0 t.limits.low in
    let sb = power_short m.hi.0 t.limits.high in
    let sc = power_short m.c0 t.c0 in
    let sd = price_short m.c1 t.c1 in
    let se = bend_short m.c2 t.c2 in
    let ea : amount_of (amount_word m.lo.0) ≡ m.lo.0 = amount_back m.lo.0 sa in
    let eb : amount_of (amount_word m.hi.0) ≡ m.hi.0 = amount_back m.hi.0 sb in
    let ec : amount_of (amount_word m.c0) ≡ m.c0 = amount_back m.c0 sc in
    let ed : amount_of (amount_word m.c1) ≡ m.c1 = amount_back m.c1 sd in
    let ee : amount_of (amount_word m.c2) ≡ m.c2 = amount_back m.c2 se in
    let order : amount_of (amount_word m.lo.0) ≤ℤ amount_of (amount_word m.hi.0) =
    subst (λ (z : ℤ). z ≤ℤ amount_of (amount_word m.hi.0)) (sym ea) (subst (λ (z : ℤ). m.lo.0 ≤ℤ z) (sym eb) t.limits.order) in (
      (
        (kind_word kind.Curved m.bus n, subst Byte (sym ef) t.limits.bus_named),
        (
          amount_fits (negsuc 99999999) (pos 100000000) m.lo.0 sa t.limits.low,
          (
            amount_fits (negsuc 99999999) (pos 100000000) m.hi.0 sb t.limits.high,
            (
              amount_fits (negsuc 99999999) (pos 100000000) m.c0 sc t.c0,
              (amount_fits (negsuc 999999) (pos 1000000) m.c1 sd t.c1, (amount_fits (pos 1) (pos 500) m.c2 se t.c2, tt)),
            ),
          ),
        ),
      ),
      order,
      λ i. record { bus = ef i; lo = record { 0 = ea i }; hi = record { 0 = eb i }; c0 = ec i; c1 = ed i; c2 = ee i },
    )

-- ---- branches
abbrev pub branch_record : BranchRow → Record
branch_record b =
    record_of sort.Branch (branch_word b.name)
    (map amount_word (b.susceptance ∷ b.shift.0 ∷ b.rating.0 ∷ b.angmin.0 ∷ b.angmax.0 ∷ mark_number b.service ∷ []))

-- a mark is told by whether its number is 1
mark_told : (n : ℕ) → n ≤ 1 → mark_number (eqb n 1) ≡ pos n
mark_told zero h = refl
mark_told (suc zero) h = refl
mark_told (suc (suc n)) h = absurd (omega arith)

mark_back : (x : ℕ) → Fits (Amount (pos 0) (pos 1)) x → amount_word (mark_number (eqb (payload_of x) 1)) ≡ x
mark_back x f =
    ap amount_word (mark_told (payload_of x) (payload_between x 0 1 f.1.0 f.1.1).1 ∙ sym (amount_positive x f.1.0)) ∙ amount_same x f.0

mark_again : (b : Bool) → Fits (Amount (pos 0) (pos 1)) (amount_word (mark_number b)) × (eqb (payload_of (amount_word (mark_number b))) 1 ≡ b)
unfolding amount_word
mark_again true = (amount_fits (pos 0) (pos 1) (pos 1) (omega (arith, lin), omega (arith, lin)) (omega (arith, lin), omega (arith, lin)), refl)
mark_again false = (amount_fits (pos 0) (pos 1) (pos 0) (omega (arith, lin), omega (arith, lin)) (omega (arith, lin), omega (arith, lin)), refl)

susceptance_short : (z : ℤ) → (pos 1 ≤ℤ z) × (z ≤ℤ pos 1000000) → Short z
susceptance_short z h = (omega (arith, lin), omega (arith, lin))

shift-short : (z : ℤ) → Within 1600000 z → Short z
shift-short z h = (omega (arith, lin), omega (arith, lin))

rating_short : (z : ℤ) → (pos 0 ≤ℤ z) × (z ≤ℤ pos 100000000) → Short z
rating_short z h = (omega (arith, lin), omega (arith, lin))

difference_short : (z : ℤ) → Within 6400000 z → Short z
difference_short z h = (omega (arith, lin), omega (arith, lin))

crossed_not : (low high : ℤ) → low ≤ℤ high → high <ℤ low → ⊥
crossed_not low high h k = absurd (omega (arith, lin))

not_crossed : (low high : ℤ) → (high <ℤ low → ⊥) → low ≤ℤ high
not_crossed low high h = by_lt_z high low (λ l. absurd (h l)) (λ l. l)

pub branch_forth : (first : ℕ) (xs : List ℕ) → Formed (record_of sort.Branch first xs) → InOrder sort.Branch xs → BranchKept (branch_row (record_of sort.Branch first xs)) × (branch_record (branch_row (record_of sort.Branch first xs)) ≡ record_of sort.Branch first xs)
branch_forth first [] f o = absurd f.1
branch_forth first (a ∷ []) f o = absurd f.1.1
branch_forth first (a ∷ (b ∷ [])) f o = absurd f.1.1.1
branch_forth first (a ∷ (b ∷ (c ∷ []))) f o = absurd f.1.1.1.1
branch_forth first (a ∷ (b ∷ (c ∷ (d ∷ [])))) f o = absurd f.1.1.1.1.1
branch_forth first (a ∷ (b ∷ (c ∷ (d ∷ (e ∷ []))))) f o = absurd f.1.1.1.1.1.1
branch_forth first (a ∷ (b ∷ (c ∷ (d ∷ (e ∷ (g ∷ [])))))) f o =
    let ef : first ≡ branch_word (branch_of first) = branch_word-branch_of first (f.0.0, (f.0.1, f.0.2, f.0.3)) in
    let ea : amount_word (amount_of a) ≡ a = amount_same a f.1.0.0 in
    let eb : amount_word (amount_of b) ≡ b = amount_same b f.1.1.0.0 in
    let ec : amount_word (amount_of c) ≡ c = amount_same c f.1.1.1.0.0 in
    let ed : amount_word (amount_of d) ≡ d = amount_same d f.1.1.1.1.0.0 in
    let ee : amount_word (amount_of e) ≡ e = amount_same e f.1.1.1.1.1.0.0 in
    let eg : amount_word (mark_number (eqb (payload_of g) 1)) ≡ g = mark_back g f.1.1.1.1.1.1.0 in (
      record {
        ranges =
            record {
              circuit = f.0.1;
              from = f.0.2;
              to = f.0.3;
              susceptance = f.1.0.1;
              shift = f.1.1.0.1;
              rating = f.1.1.1.0.1;
              angmin = f.1.1.1.1.0.1;
              angmax = f.1.1.1.1.1.0.1;
            };
        uncrossed = crossed_not (amount_of d) (amount_of e) o;
      },
      λ i. record { sort = sort.Branch; first = sym ef i; amounts = ea i ∷ (eb i ∷ (ec i ∷ (ed i ∷ (ee i ∷ (eg i ∷ []))))) },
    )
branch_forth first (a ∷ (b ∷ (c ∷ (d ∷ (e ∷ (g ∷ (h ∷ xs))))))) f o = absurd f.1.1.1.1.1.1.1

-- the name that is read from a branch's word
name_back : (b : BranchName) → Named b → branch_of (branch_word b) ≡ b
name_back b n =
    let c = n.circuits in
    let f = n.froms in
    let t = n.tos in
    let p : ℕ = 65536 * b.circuit + 256 * b.from + b.to in
    let e : payload_of (branch_word b) ≡ p = payload_word kind.Branch p (omega arith) in
    let ec : p / 65536 ≡ b.circuit = omega arith in
    let ef : p / 256 % 256 ≡ b.from = omega arith in
    let et : p % 256 ≡ b.to = omega arith in
    let gc : payload_of (branch_word b) / 65536 ≡ b.circuit = ap (λ (k : ℕ). k / 65536) e ∙ ec in
    let gf : payload_of (branch_word b) / 256 % 256 ≡ b.from = ap (λ (k : ℕ). k / 256 % 256) e ∙ ef in
    let gt : payload_of (branch_word b) % 256 ≡ b.to = ap (λ (k : ℕ). k % 256) e ∙ et in
    λ i. record { circuit = gc i; from = gf i; to = gt i }

pub branch_again : (b : BranchRow) → BranchKept b → Formed (branch_record b) × InOrder sort.Branch (branch_record b).amounts × (branch_row (branch_record b) ≡ b)
branch_again b k =
    let r = k.ranges in
    let named : Named b.name = record { circuits = r.circuit; froms = r.from; tos = r.to } in
    let en = name_back b.name named in
    let sa = susceptance_short b.susceptance r.susceptance in
    let sb = shift-short b.shift.0 r.shift in
    let sc = rating_short b.rating.0 r.rating in
    let sd = difference_short b.angmin.0 r.angmin in
    let se = difference_short b.angmax.0 r.angmax in
    let ea : amount_of (amount_word b.susceptance) ≡ b.susceptance = amount_back b.susceptance sa in
    let eb : amount_of (amount_word b.shift.0) ≡ b.shift.0 = amount_back b.shift.0 sb in
    let ec : amount_of (amount_word b.rating.0) ≡ b.rating.0 = amount_back b.rating.0 sc in
    let ed : amount_of (amount_word b.angmin.0) ≡ b.angmin.0 = amount_back b.angmin.0 sd in
    let ee : amount_of (amount_word b.angmax.0) ≡ b.angmax.0 = amount_back b.angmax.0 se in
    let m = mark_again b.service in
    let g = branch_fits b.name named in
    let eg = m.1 in
    let order : amount_of (amount_word b.angmin.0) ≤ℤ amount_of (amount_word b.angmax.0) =
    subst (λ (z : ℤ). z ≤ℤ amount_of (amount_word b.angmax.0)) (sym ed) (subst (λ (z : ℤ). b.angmin.0 ≤ℤ z) (sym ee) (not_crossed b.angmin.0 b.angmax.0 k.uncrossed)) in (
      (
        (g.0, g.1.0, g.1.1, g.1.2),
        (
          amount_fits (pos 1) (pos 1000000) b.susceptance sa r.susceptance,
          (
            amount_fits (negsuc 1599999) (pos 1600000) b.shift.0 sb r.shift,
            (
              amount_fits (pos 0) (pos 100000000) b.rating.0 sc r.rating,
              (
                amount_fits (negsuc 6399999) (pos 6400000) b.angmin.0 sd r.angmin,
                (amount_fits (negsuc 6399999) (pos 6400000) b.angmax.0 se r.angmax, (m.0, tt)),
              ),
            ),
          ),
        ),
      ),
      order,
      λ i. record {
        name = en i;
        susceptance = ea i;
        shift = record { 0 = eb i };
        rating = record { 0 = ec i };
        angmin = record { 0 = ed i };
        angmax = record { 0 = ee i };
        service = eg i;
      },
    )
