-- What a paper is: the payload of its head.
use Rattle.std.specs.Prelude.{ℕ, cond, ◌==◌, Some, None, Option}
use Rattle.word.specs.declared.head.Head.{Head}
use Rattle.word.specs.declared.head.Head.TheVariants.{Case, Dispatch, Prices, Demand, Mark, Trial, HandOver}

abbrev pub head_number : Head → ℕ
head_number Case = 1
head_number Dispatch = 2
head_number Prices = 3
head_number Demand = 4
head_number Mark = 5
head_number Trial = 6
head_number HandOver = 7

-- the head with this number, if one has it
abbrev pub head_numbered : ℕ → Option Head
head_numbered n =
    cond (n == 1) (Some Case) (cond (n == 2) (Some Dispatch) (cond (n == 3) (Some Prices) (cond (n == 4) (Some Demand)
    (cond (n == 5) (Some Mark) (cond (n == 6) (Some Trial) (cond (n == 7) (Some HandOver) None))))))
