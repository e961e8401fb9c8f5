use Rattle.std.proofs.Common.{◌≡◌, length, get_or, rules, arith}
use Rattle.std.proofs.lemmas.Result.{err_from_is_err_and}
use Rattle.word.specs.Head.{head_number}
use Rattle.word.specs.Slot.{Fits}
use Rattle.word.specs.declared.slot.Slot.TheVariants.{Head}
use Rattle.paper.proofs.Changes.{change_read, front_head, front_name, front_amount, four_fit, word_refused}
use Rattle.paper.proofs.change.admit_change.Goals as goal

pub returns-in_err-admit : goal.returns-in_err-admit
returns-in_err-admit c =
    let w = c.args.words.now in
    let four : length c.args.words.now ≡ 4 = omega arith in
    let p = err_from_is_err_and c.from_residual.result c.from_residual.ensures.1 in
    rw (p.1, p.2)
    (word_refused (head_number c.args.head) c.args.name c.args.amount w four c.requires 0 (omega arith) tt _ (search rules))

pub returns-in_err-admit-2 : goal.returns-in_err-admit-2
returns-in_err-admit-2 c =
    let w = c.args.words.now in
    let four : length c.args.words.now ≡ 4 = omega arith in
    let head : Fits (Head (head_number c.args.head)) (get_or c.args.words.now 0 0) = search rules in
    let p = err_from_is_err_and c.from_residual-in_err-admit-2.result c.from_residual-in_err-admit-2.ensures.1 in
    rw (p.1, p.2)
    (word_refused (head_number c.args.head) c.args.name c.args.amount w four c.requires 1 (omega arith)
    (front_head (head_number c.args.head) c.args.name c.args.amount w four head) _ c.in_err-admit-2.ensures)

pub returns-in_err-admit-3 : goal.returns-in_err-admit-3
returns-in_err-admit-3 c =
    let w = c.args.words.now in
    let four : length c.args.words.now ≡ 4 = omega arith in
    let head : Fits (Head (head_number c.args.head)) (get_or c.args.words.now 0 0) = search rules in
    let p = err_from_is_err_and c.from_residual-in_err-admit-3.result c.from_residual-in_err-admit-3.ensures.1 in
    rw (p.1, p.2)
    (word_refused (head_number c.args.head) c.args.name c.args.amount w four c.requires 2 (omega arith)
    (front_name (head_number c.args.head) c.args.name c.args.amount w four head c.in_ok-admit-2.ensures) _ c.in_err-admit-3.ensures)

pub returns-in_err-admit-4 : goal.returns-in_err-admit-4
returns-in_err-admit-4 c =
    let w = c.args.words.now in
    let four : length c.args.words.now ≡ 4 = omega arith in
    let head : Fits (Head (head_number c.args.head)) (get_or c.args.words.now 0 0) = search rules in
    let p = err_from_is_err_and c.from_residual-in_err-admit-4.result c.from_residual-in_err-admit-4.ensures.1 in
    rw (p.1, p.2)
    (word_refused (head_number c.args.head) c.args.name c.args.amount w four c.requires 3 (omega arith)
    (front_amount (head_number c.args.head) c.args.name c.args.amount w four head c.in_ok-admit-2.ensures c.in_ok-admit-3.ensures) _ c.in_err-admit-4.ensures)

pub returns : goal.returns
returns c =
    let w = c.args.words.now in
    let four : length c.args.words.now ≡ 4 = omega arith in
    let head : Fits (Head (head_number c.args.head)) (get_or c.args.words.now 0 0) = search rules in
    change_read (head_number c.args.head) c.args.name c.args.amount w
    (four_fit (head_number c.args.head) c.args.name c.args.amount w four head c.in_ok-admit-2.ensures c.in_ok-admit-3.ensures c.in_ok-admit-4.ensures)
