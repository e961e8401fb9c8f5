use Rattle.std.proofs.Common.{◌≡◌, ℕ, ◌+◌, ◌-◌, ◌/◌, ◌%◌, List, map, take, drop, sym, ap, ◌∙◌, arith, w64}
use Rattle.std.proofs.lemmas.List.{take_rest}
use Rattle.std.proofs.lemmas.Int.{to_z-of_z}
use Rattle.word.specs.Word.{payload_of, amount_of}
use Rattle.case_tables.specs.Rows.{padded, powered}
use Rattle.case_tables.proofs.record.RecordWords.stepped_row.Goals as goal

pub returns : goal.returns
returns c =
    let n = c.args.n in
    let amounts = c.args.self.now.amounts.now in
    let said : n ≡ payload_of c.args.self.now.first / 256 = sym c.requires.said in
    let bus = ap (λ (p : ℕ). p % 256) c.payload.ensures in
    let lo = to_z-of_z w64 c.amount.result (record { sfits = c.amount.type_inv }) ∙ c.amount.ensures in
    let hi = to_z-of_z w64 c.amount-2.result (record { sfits = c.amount-2.type_inv }) ∙ c.amount-2.ensures in
    let cost = to_z-of_z w64 c.amount-3.result (record { sfits = c.amount-3.type_inv }) ∙ c.amount-3.ensures in
    let few : 3 + n - 3 ≡ n = omega arith in
    let points =
    c.powers_in.ensures
    ∙ ap (λ (k : ℕ). map powered (padded 8 (map amount_of (take k (drop 3 amounts))))) (few ∙ said) in
    let slopes =
    c.amounts_in.ensures
    ∙ ap (λ (xs : List ℕ). padded 7 (map amount_of xs)) (take_rest amounts (3 + n))
    ∙ ap (λ (k : ℕ). padded 7 (map amount_of (drop (3 + k) amounts))) said in
    λ i. record {
      bus = bus i;
      lo = record { 0 = lo i };
      hi = record { 0 = hi i };
      c = cost i;
      n = said i;
      points = points i;
      slopes = slopes i;
    }
