-- The text of a page.
use Rattle.std.specs.Prelude.{ℕ, List, take}
use Rattle.sheet.specs.declared.page.Page.{Page}

abbrev pub text_of : Page → List ℕ
text_of p = take p.len p.bytes
