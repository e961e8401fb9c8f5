use Rattle.std.proofs.Common.{ℕ, List, length, ◌/◌, ap, ◌∙◌}
use Rattle.std.specs.Simd.{first_chunks}
use Rattle.paper_file.proofs.Fours.{take_at_most}
use Rattle.paper_file.proofs.words.fours.Goals as goal

pub returns : goal.returns
returns c =
    c.as_chunks.ensures.front
    ∙ ap (λ (read : List ℕ). first_chunks 4 (length read / 4) read) (take_at_most c.min.result 65536 c.args.bytes.now c.min.ensures)
