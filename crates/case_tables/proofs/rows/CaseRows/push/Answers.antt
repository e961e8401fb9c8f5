use Rattle.std.proofs.Common.{[], ◌∷◌, ◌++◌, ap, ◌∙◌}
use Rattle.case_paper.specs.Case.{rank}
use Rattle.case_tables.specs.Rows.{record_of}
use Rattle.case_tables.proofs.Kept.{keeps_bus, keeps_stepped, keeps_curved, keeps_branch}
use Rattle.case_tables.proofs.rows.CaseRows.push.Goals as goal

pub returns-in-Bus : goal.returns-in-Bus
returns-in-Bus c rs h =
    keeps_bus c.args.self.now rs h (record_of c.args.words.now.sort c.args.words.now.first c.args.words.now.amounts.now) (ap rank c.in-Bus.is) c.push.new.self
    (c.push.ensures.items ∙ ap (λ x. c.args.self.now.buses.items ++ (x ∷ [])) c.bus_row.ensures)

pub returns-in-Stepped : goal.returns-in-Stepped
returns-in-Stepped c rs h =
    keeps_stepped c.args.self.now rs h (record_of c.args.words.now.sort c.args.words.now.first c.args.words.now.amounts.now) (ap rank c.in-Stepped.is) c.push-in-Stepped.new.self
    (c.push-in-Stepped.ensures.items ∙ ap (λ x. c.args.self.now.stepped.items ++ (x ∷ [])) c.stepped_row.ensures)

pub returns-in-Curved : goal.returns-in-Curved
returns-in-Curved c rs h =
    keeps_curved c.args.self.now rs h (record_of c.args.words.now.sort c.args.words.now.first c.args.words.now.amounts.now) (ap rank c.in-Curved.is) c.push-in-Curved.new.self
    (c.push-in-Curved.ensures.items ∙ ap (λ x. c.args.self.now.curved.items ++ (x ∷ [])) c.curved_row.ensures)

pub returns-in-Branch : goal.returns-in-Branch
returns-in-Branch c rs h =
    keeps_branch c.args.self.now rs h (record_of c.args.words.now.sort c.args.words.now.first c.args.words.now.amounts.now) (ap rank c.in-Branch.is) c.push-in-Branch.new.self
    (c.push-in-Branch.ensures.items ∙ ap (λ x. c.args.self.now.branches.items ++ (x ∷ [])) c.branch_row.ensures)
