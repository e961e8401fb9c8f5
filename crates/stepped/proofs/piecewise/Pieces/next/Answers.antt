use Rattle.std.proofs.Common.{◌≡◌, ◌-◌, ◌<◌, ◌∷◌, List, length, get_or, take, drop, ℤ, pos, sym, ◌∙◌, ap₂, arith, lit<, w64, SFits, to_z, of_z, rules}
use Rattle.std.proofs.lemmas.Int.{to_z-of_z}
use Rattle.measure.specs.declared.Watts.{Watts}
use Rattle.measure.proofs.Sizes.{fits}
use Rattle.stepped.specs.Piecewise.{powers_of, first, Chain}
use Rattle.stepped.specs.Forms.{carried_next}
use Rattle.stepped.proofs.Powers.{length_powers, head_power, tail_powers}
use Rattle.stepped.proofs.Slices.{tail, head-tail, all-parts, chain_parts}
use Rattle.stepped.proofs.piecewise.Pieces.next.Goals as goal

-- the first power of a list that has one, and those after it
abbrev head : List Watts → ℤ
head xs = (get_or xs 0 (record { 0 = pos 0 })).0

abbrev rest : List Watts → List Watts
rest xs = take (length xs - 1) (drop 1 xs)

parts : (xs : List Watts) → 0 < length xs → powers_of xs ≡ head xs ∷ powers_of (rest xs)
parts xs h =
    let k : 0 < length (powers_of xs) = omega (arith, length_powers xs) in
    head-tail (powers_of xs) k ∙ ap₂ ◌∷◌ (sym (head_power xs)) (sym (tail_powers xs))

pub invariant_of-from : goal.invariant_of-from
invariant_of-from c =
    let ks = c.args.self.points.now in
    let h : 0 < length c.args.self.points.now = omega arith in
    let r = all-parts 100000000 (powers_of ks) (powers_of (rest ks)) (head ks) (parts ks h) c.args.self.ranged in
    simp (to_z-of_z, fits 100000000 (head ks) (lit< tt) r.0) (record { ok = r.0 })

pub invariant_of-line : goal.invariant_of-line
invariant_of-line c =
    let l = c.args.self.line in
    let ks = c.args.self.points.now in
    let ts = c.args.self.slopes.now in
    let h : 0 < length c.args.self.points.now = omega arith in
    let k : 0 < length c.args.self.slopes.now = omega arith in
    let r = all-parts 100000000 (powers_of ks) (powers_of (rest ks)) (head ks) (parts ks h) c.args.self.ranged in
    let f = fits 100000000 (head ks) (lit< tt) r.0 in
    let g : SFits w64 (first c.args.self.slopes.now) = search rules in
    let a : SFits w64 c.at.result = record { sfits = c.at.type_inv } in
    let v = simp (to_z-of_z, f) at c.at.ensures.value in
    let n = chain_parts l.from.watts (powers_of ks) (powers_of (rest ks)) (head ks) (parts ks h) c.args.self.rising in
    let s = all-parts 1000000 ts (tail ts) (first ts) (head-tail ts k) c.args.self.sloped in
    simp (to_z-of_z, f, g, a) (simp v (record { carried = carried_next l.cost l.from.watts l.slope (head ks) l.carried n.0 l.sloped; sloped = s.0 }))

pub invariant_of-result : goal.invariant_of-result
invariant_of-result c =
    let ks = c.args.self.points.now in
    let ts = c.args.self.slopes.now in
    let h : 0 < length c.args.self.points.now = omega arith in
    let k : 0 < length c.args.self.slopes.now = omega arith in
    let r = all-parts 100000000 (powers_of ks) (powers_of (rest ks)) (head ks) (parts ks h) c.args.self.ranged in
    let f = fits 100000000 (head ks) (lit< tt) r.0 in
    let n = chain_parts c.args.self.line.from.watts (powers_of ks) (powers_of (rest ks)) (head ks) (parts ks h) c.args.self.rising in
    let s = all-parts 1000000 ts (tail ts) (first ts) (head-tail ts k) c.args.self.sloped in
    let u : Chain (to_z w64 (of_z w64 (head c.args.self.points.now))) (powers_of (rest c.args.self.points.now)) = simp (to_z-of_z, f) n.1 in
    record { ranged = r.1; sloped = s.1; rising = u }

pub returns : goal.returns
returns c =
    let ks = c.args.self.points.now in
    let ts = c.args.self.slopes.now in
    let h : 0 < length c.args.self.points.now = omega arith in
    let k : 0 < length c.args.self.slopes.now = omega arith in
    let r = all-parts 100000000 (powers_of ks) (powers_of (rest ks)) (head ks) (parts ks h) c.args.self.ranged in
    let f = fits 100000000 (head ks) (lit< tt) r.0 in
    let g : SFits w64 (first c.args.self.slopes.now) = search rules in
    let a : SFits w64 c.at.result = record { sfits = c.at.type_inv } in
    simp (to_z-of_z, f, g, a) (simp (to_z-of_z, f) at c.at.ensures.value, parts ks h, head-tail ts k)
