-- What a call leaves of the lent tables as it was, beyond what the state of the panel tells.
use Rattle.std.specs.Prelude.{◌≡◌, drop, Ok, Err, Result}
use Rattle.panel.specs.declared.outcome.Outcome.{Outcome}
use Rattle.panel.specs.declared.outcome.Outcome.TheVariants.{Held, Passed}
use Rattle.panel.specs.declared.panel.Panel.{Panel}
use Rattle.panel.specs.declared.refusal.OfferRefusal.{OfferRefusal}

module _ {M N S T : Type 0} where
  -- what no call alters: the machines and where they stand, how many rows of each table are the case's, the rows after them, and the spare powers and angles
  pub record SameRest (p : Panel M N S) (q : Panel M N T) : Type 0 where
    pub first : q.first ≡ p.first
    pub second : q.second ≡ p.second
    pub nb : q.nb ≡ p.nb
    pub nl : q.nl ≡ p.nl
    pub buses : drop p.nb q.buses.now ≡ drop p.nb p.buses.now
    pub branches : drop p.nl q.branches.now ≡ drop p.nl p.branches.now
    pub spare_powers : q.spare_powers.now ≡ p.spare_powers.now
    pub spare_angles : q.spare_angles.now ≡ p.spare_angles.now

  -- and the tables of powers and angles are as they were too
  pub record SameTables (p : Panel M N S) (q : Panel M N T) : Type 0 where
    pub rest : SameRest p q
    pub powers : q.powers.now ≡ p.powers.now
    pub angles : q.angles.now ≡ p.angles.now

  -- an offered dispatch alters the tables of powers and angles only if it is held, and the state then tells them
  abbrev pub DispatchTables : Panel M N S → Panel M N T → Result Outcome OfferRefusal → Type 0
  DispatchTables p q (Ok (Held g)) = SameRest p q
  DispatchTables p q (Ok (Passed g)) = SameTables p q
  DispatchTables p q (Err e) = SameTables p q
