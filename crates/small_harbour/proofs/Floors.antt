-- The price lists of the small harbour.
use Rattle.std.proofs.Common.{◌≡◌, ℕ, zero, suc, ◌<◌, true, false, ℤ, pos, negsuc, refl}
use Rattle.measure.specs.Range.{Within}
use Rattle.measure.specs.Rows.{numbered, total, All}
use Rattle.stepped.specs.Piecewise.{stepped_meaning}
use Rattle.curved.specs.Quadratic.{curved_meaning}
use Rattle.network.specs.Floor.{price, weight, pull, residue, angle_charge, branch_charge, LawfulList, floor}
use Rattle.small_harbour.specs.Harbour.{harbour, prices, of_two}

-- the floor's own definitions, opened
unfoldable opened : Type 0
unfolding numbered total price weight pull residue angle_charge branch_charge
opened = Unit {0}

-- two prices in their range
both : {x y : ℤ} → Within 1000000 x → Within 1000000 y → (i : ℕ) → i < 2 → Within 1000000 (of_two x y i)
both h k zero l = h
both h k (suc i) l = k

pub even_floor : floor stepped_meaning curved_meaning (harbour 0 true) (prices (pos 30) (pos 30) (pos 0) (pos 0)) ≡ pos 24000
unfolding floor opened
even_floor = refl

pub even_lawful : LawfulList (harbour 0 true) (prices (pos 30) (pos 30) (pos 0) (pos 0))
unfolding All opened
even_lawful =
    record {
      bus_range = both {x = pos 30} {y = pos 30} (record { le = tt }, record { le = tt }) (record { le = tt }, record { le = tt });
      congestion_range = λ i l. (record { le = tt }, record { le = tt });
      angle_range = λ i l. (record { le = tt }, record { le = tt });
      unrated_free = ((λ on e. refl), tt);
      weights = ((λ on. (record { le = tt }, record { le = tt })), tt);
      residues = ((record { le = tt }, record { le = tt }), ((record { le = tt }, record { le = tt }), tt));
    }

pub tolerated_floor : floor stepped_meaning curved_meaning (harbour 1 true) (prices (pos 30) (pos 30) (pos 0) (pos 0)) ≡ pos 23940
unfolding floor opened
tolerated_floor = refl

pub tolerated_lawful : LawfulList (harbour 1 true) (prices (pos 30) (pos 30) (pos 0) (pos 0))
unfolding All opened
tolerated_lawful =
    record {
      bus_range = both {x = pos 30} {y = pos 30} (record { le = tt }, record { le = tt }) (record { le = tt }, record { le = tt });
      congestion_range = λ i l. (record { le = tt }, record { le = tt });
      angle_range = λ i l. (record { le = tt }, record { le = tt });
      unrated_free = ((λ on e. refl), tt);
      weights = ((λ on. (record { le = tt }, record { le = tt })), tt);
      residues = ((record { le = tt }, record { le = tt }), ((record { le = tt }, record { le = tt }), tt));
    }

pub uneven-floor : floor stepped_meaning curved_meaning (harbour 0 true) (prices (pos 30) (pos 31) (pos 0) (pos 0)) ≡ negsuc 31975499
unfolding floor opened
uneven-floor = refl

pub uneven-lawful : LawfulList (harbour 0 true) (prices (pos 30) (pos 31) (pos 0) (pos 0))
unfolding All opened
uneven-lawful =
    record {
      bus_range = both {x = pos 30} {y = pos 31} (record { le = tt }, record { le = tt }) (record { le = tt }, record { le = tt });
      congestion_range = λ i l. (record { le = tt }, record { le = tt });
      angle_range = λ i l. (record { le = tt }, record { le = tt });
      unrated_free = ((λ on e. refl), tt);
      weights = ((λ on. (record { le = tt }, record { le = tt })), tt);
      residues = ((record { le = tt }, record { le = tt }), ((record { le = tt }, record { le = tt }), tt));
    }

pub angle-floor : floor stepped_meaning curved_meaning (harbour 0 true) (prices (pos 30) (pos 30) (pos 0) (pos 5)) ≡ negsuc 47975999
unfolding floor opened
angle-floor = refl

pub angle-lawful : LawfulList (harbour 0 true) (prices (pos 30) (pos 30) (pos 0) (pos 5))
unfolding All opened
angle-lawful =
    record {
      bus_range = both {x = pos 30} {y = pos 30} (record { le = tt }, record { le = tt }) (record { le = tt }, record { le = tt });
      congestion_range = λ i l. (record { le = tt }, record { le = tt });
      angle_range = λ i l. (record { le = tt }, record { le = tt });
      unrated_free = ((λ on e. refl), tt);
      weights = ((λ on. (record { le = tt }, record { le = tt })), tt);
      residues = ((record { le = tt }, record { le = tt }), ((record { le = tt }, record { le = tt }), tt));
    }

pub out_floor : floor stepped_meaning curved_meaning (harbour 0 false) (prices (pos 20) (pos 31) (pos 0) (pos 0)) ≡ pos 30500
unfolding floor opened
out_floor = refl

pub out_lawful : LawfulList (harbour 0 false) (prices (pos 20) (pos 31) (pos 0) (pos 0))
unfolding All opened
out_lawful =
    record {
      bus_range = both {x = pos 20} {y = pos 31} (record { le = tt }, record { le = tt }) (record { le = tt }, record { le = tt });
      congestion_range = λ i l. (record { le = tt }, record { le = tt });
      angle_range = λ i l. (record { le = tt }, record { le = tt });
      unrated_free = ((λ on e. refl), tt);
      weights = ((λ on. (record { le = tt }, record { le = tt })), tt);
      residues = ((record { le = tt }, record { le = tt }), ((record { le = tt }, record { le = tt }), tt));
    }
