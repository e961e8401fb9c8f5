use Rattle.std.proofs.Common.{◌^◌, ◌<◌, length, arith, rules}
use Rattle.word.proofs.Columns.{value_past, value_found}
use Rattle.word.proofs.column.WordColumn.word.Goals as goal

pub returns-in_err-offset : goal.returns-in_err-offset
returns-in_err-offset c =
    let l : length c.args.self.now.words.now < 2 ^ 64 = search rules in
    let b = c.in_err-offset.ensures in
    rw c.from_residual.ensures
    (value_past c.args.self.now.words.now c.args.self.now.start c.args.self.now.count c.args.self.now.stride c.args.row (omega arith))

pub returns-in_err-place : goal.returns-in_err-place
returns-in_err-place c =
    let l : length c.args.self.now.words.now < 2 ^ 64 = search rules in
    let a = c.in_ok-offset.ensures in
    let b = c.in_err-place.ensures in
    rw c.from_residual-in_err-place.ensures
    (value_past c.args.self.now.words.now c.args.self.now.start c.args.self.now.count c.args.self.now.stride c.args.row (omega arith))

pub returns : goal.returns
returns c =
    let a = c.in_ok-offset.ensures in
    let b = c.in_ok-place.ensures in
    rw c.copied.ensures
    (value_found c.args.self.now.words.now c.args.self.now.start c.args.self.now.count c.args.self.now.stride c.args.row c.in_ok-place.place c.get.result
    c.if-row-self.false (omega arith) c.get.ensures.lookup.3)
