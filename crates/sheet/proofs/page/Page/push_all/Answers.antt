use Rattle.std.proofs.Common.{rules}
use Rattle.std.proofs.lemmas.Slice.{overwrites}
use Rattle.sheet.proofs.Pages.{blank_more}
use Rattle.sheet.proofs.page.Page.push_all.Goals as goal

pub invariant_of-self : goal.invariant_of-self
invariant_of-self c = record { ok = search (rules, overwrites, blank_more) }
