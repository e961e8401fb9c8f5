-- The change is made in the row that its branch is found in, and each outcome is a step of the panel.
use Rattle.std.proofs.Common.{rules, ◌<◌, length, slice_index_or, Ok, Err, refl, ◌∙◌}
use Rattle.panel.proofs.Changing.{mark_step, mark_made_at, no_such_branch}
use Rattle.pricing.proofs.Outages.{marked-as}
use Rattle.panel.proofs.Later.{later_rows}
use Rattle.panel_model.proofs.Lookups.{take_row_set, found_within}
use Rattle.pricing.specs.Outage.{marked}
use Rattle.panel.specs.View.{manned}
use Rattle.panel.specs.declared.refusal.PaperRefusal.TheVariants.{Words}
use Rattle.panel.specs.declared.refusal.OfferRefusal.TheVariants.{Full, Paper}
use Rattle.panel.proofs.change.Panel+M+N+Watch.change_mark.Goals as goal

pub returns-in_err-check_room-clause-step : goal.returns-in_err-check_room-clause-step
returns-in_err-check_room-clause-step g c =
    mark_step _ _ _ _ _ (Err Full) (record { watch = _; manned = refl; full = c.in_err-check_room.ensures.1; unchanged = refl })

pub returns-in-Err-clause-step : goal.returns-in-Err-clause-step
returns-in-Err-clause-step g c =
    mark_step _ _ _ _ _ (Err (Paper (Words c.in-Err.fault))) (record { refused = c.in-Err.ensures; counted = c.decline.ensures.counted })

pub returns-in_default-clause-exact : goal.returns-in_default-clause-exact
returns-in_default-clause-exact g c = no_such_branch _ _ _ _ _ c.in-Ok.change c.in-Ok.ensures _ c.decline-in_default.ensures.refusal c.in_default.ensures c.decline-in_default.ensures.counted

pub returns-in_default-clause-step : goal.returns-in_default-clause-step
returns-in_default-clause-step g c = mark_step _ _ _ _ _ (Err c.decline-in_default.result) (returns-in_default-clause-exact g c)

pub offset_bounds-self-row : goal.offset_bounds-self-row
offset_bounds-self-row g c =
    let there : c.in-Some.row < length c.args.self.now.branches.now = found_within _ c.args.self.now.nl _ _ c.in-Some.ensures.0 in
    search rules

pub bounds-self-row : goal.bounds-self-row
bounds-self-row g c = found_within _ c.args.self.now.nl _ _ c.in-Some.ensures.0

pub bounds-self-row-in-Some : goal.bounds-self-row-in-Some
bounds-self-row-in-Some g c = found_within _ c.args.self.now.nl _ _ c.in-Some.ensures.0

pub returns-clause-exact : goal.returns-clause-exact
returns-clause-exact g c =
    let row = c.in-Some.row in
    let old = slice_index_or c.args.self.now.branches.now row c.index-self-row.result in
    let there : row < length c.args.self.now.branches.now = found_within _ c.args.self.now.nl _ _ c.in-Some.ensures.0 in
    let same = marked-as c.in-Ok.change.in_service old _ _ _ _ _ in
    let n = c.count_change.ensures.counted in
    mark_made_at _ _ _ (manned _ _ c.args.self.now) _ c.in-Ok.change c.in-Ok.ensures row _ c.in-Some.ensures
    (take_row_set (marked c.in-Ok.change.in_service) c.args.self.now.nl c.args.self.now.branches.now row c.index-self-row.result _ same there)
    (record { watch = n.watch; manned = n.manned; room = n.room; after = n.after })

pub returns-clause-step : goal.returns-clause-step
returns-clause-step g c = mark_step _ _ _ _ _ (Ok tt) (returns-clause-exact g c)

pub invariant_of-self : goal.invariant_of-self
invariant_of-self g c =
    λ d. let b = slice_index_or c.args.self.now.branches.now c.in-Some.row d in (b.named, (b.susceptible, (b.shifted, (b.rated, (b.limited, tt)))))

pub returns-clause-tables : goal.returns-clause-tables
returns-clause-tables g c =
    let n = c.count_change.ensures.tables in
    let later = later_rows _ c.args.self.now.nl c.args.self.now.branches.now c.in-Some.row _ c.in-Some.ensures.0 in
    record {
      rest = record {
        first = n.rest.first;
        second = n.rest.second;
        nb = n.rest.nb;
        nl = n.rest.nl;
        branches = n.rest.branches ∙ later;
        buses = n.rest.buses;
        spare_powers = n.rest.spare_powers;
        spare_angles = n.rest.spare_angles;
      };
      powers = n.powers;
      angles = n.angles;
    }
