-- Columns of amounts in a list of words.
use Rattle.std.specs.Prelude.{◌≡◌, ℕ, ◌+◌, ◌*◌, cond, List, ℤ, pos, nat_lt, slice_index, slice_index_or}
use Rattle.word.specs.Word.{amount_of}
use Rattle.word.specs.declared.column.WordColumn.{WordColumn}

-- the amount in the word at start + stride × i, for i below the count; 0 past the count, and past the last word
abbrev pub column_value : List ℕ → ℕ → ℕ → ℕ → ℕ → ℤ
column_value words start count stride i = cond (nat_lt i count) (amount_of (slice_index words (start + stride * i))) (pos 0)

-- the column's number in each row
abbrev pub value_of : WordColumn → ℕ → ℤ
value_of c i = column_value c.words.now c.start c.count c.stride i

-- the column gives these numbers, and 0 past them
abbrev pub Gives : WordColumn → List ℤ → Type 0
Gives c zs = (i : ℕ) → value_of c i ≡ slice_index_or zs i (pos 0)
