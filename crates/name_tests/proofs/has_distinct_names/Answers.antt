use Rattle.std.proofs.Common.{◌≡◌, None, rules}
use Rattle.names.proofs.Tables.{equality, distinct, distinct_is_none}
use Rattle.name_tests.proofs.has_distinct_names.Goals as goal

pub returns : goal.returns
returns c =
    let found = c.repeated_branch.ensures in (
      λ h. let none : c.repeated_branch.result ≡ None = search rules in distinct _ _ _ equality (simp none at found),
      λ d. let none = distinct_is_none _ _ _ d _ found in search rules,
    )
