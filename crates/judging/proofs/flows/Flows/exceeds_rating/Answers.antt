use Rattle.std.proofs.Common.{◌≡◌, not, ◌&&◌, ℤ, pos, neg_ℤ, ap, ◌∙◌, arith, w64, SFits, to_z, of_z}
use borrow.Author.Differences.{ints}
use lib.Signed.{lt_z}
use Rattle.std.proofs.lemmas.Int.{to_z-of_z}
use Rattle.measure.specs.Range.{between}
use Rattle.measure.proofs.Sizes.{gave}
use Rattle.judging.proofs.flows.Flows.exceeds_rating.Goals as goal

-- a test of two numbers and their opposite, each equal to another
same_test : (s t : _) (a b f a' n' f' : ℤ) → a ≡ a' → b ≡ n' → f ≡ f' → t ≡ between b a f → (s && lt_z (pos 0) a && not t) ≡ (s && lt_z (pos 0) a' && not (between n' a' f'))
same_test s t a b f a' n' f' p q r e =
    ap (λ x. s && lt_z (pos 0) a && not x) e
    ∙ (λ i. s && lt_z (pos 0) (p i) && not (between (q i) (p i) (r i)))

pub returns : goal.returns
returns g c =
    let F = c.args.branch.now.rating.0 in
    let k = c.args.branch.now.rated in
    let h : SFits w64 F = omega (arith, ints, k.0, k.1) in
    let n : to_z w64 (of_z w64 (lib.IntN.◌-ℤ◌ (pos 0) (to_z w64 (of_z w64 F)))) ≡ neg_ℤ F = omega (arith, ints, k.0, k.1) in
    same_test _ _ _ _ _ _ _ _ (to_z-of_z w64 F h) n (gave c.flow.type_inv c.flow.ensures) c.is_between.ensures
