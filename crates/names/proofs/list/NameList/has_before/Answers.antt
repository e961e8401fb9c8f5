use Rattle.std.proofs.Common.{rules, tests}
use Rattle.names.proofs.Tables.{before_found}
use Rattle.names.proofs.list.NameList.has_before.Goals as goal

pub returns : goal.returns
returns g c =
    before_found g.R.Kind.Name.same g.R.Named.name c.args.self.now.rows.now c.args.sought.now c.args.row c.is_some_and.result c.find.result c.find.ensures (search (rules, tests))
