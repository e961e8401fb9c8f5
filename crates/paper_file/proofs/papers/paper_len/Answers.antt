use Rattle.std.proofs.Common.{◌≡◌, ◌+◌, length, sym, subst, rules}
use Rattle.std.specs.List.{position}
use Rattle.std.specs.Option.{option_map_or}
use Rattle.paper_file.specs.Papers.{is_end, FirstPaper}
use Rattle.paper_file.proofs.Cuts.{first_paper}
use Rattle.paper_file.proofs.papers.paper_len.Goals as goal

pub returns : goal.returns
returns c =
    let words = c.args.words.now in
    let len : c.map_or.result ≡ option_map_or (λ i. i + 1) (position is_end words) (length words) = search rules in
    subst (FirstPaper words) (sym len) (first_paper words)
