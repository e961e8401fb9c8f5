-- Names in words.
use Rattle.std.specs.Prelude.{ℕ, ◌+◌, ◌*◌}
use Rattle.word.specs.Word.{word_of}
use Rattle.word.specs.Slot.{Byte}
use Rattle.word.specs.declared.kind.Kind.TheVariants as kind
use Rattle.names.specs.declared.branch.BranchName.{BranchName}

-- the word of a bus
abbrev pub bus_word : ℕ → ℕ
bus_word bus = word_of kind.Bus bus

-- the word of a branch: 65,536 × circuit + 256 × from + to
abbrev pub branch_word : BranchName → ℕ
branch_word b = word_of kind.Branch (65536 * b.circuit + 256 * b.from + b.to)

-- each of the three numbers is 1 to 255
pub record Named (b : BranchName) : Type 0 where
  pub circuits : Byte b.circuit
  pub froms : Byte b.from
  pub tos : Byte b.to
