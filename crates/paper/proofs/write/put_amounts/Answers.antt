use Rattle.std.proofs.Common.{◌≡◌, map, length, get_or, pos, ap, ◌∙◌, sym, arith, w64, rules}
use Rattle.std.proofs.lemmas.Int.{to_z-of_z}
use Rattle.std.proofs.lemmas.List.{get_or-map, length-map}
use Rattle.std.proofs.lemmas.List.Edits.{paste_more}
use Rattle.word.specs.Word.{amount_word}
use Rattle.paper.proofs.write.put_amounts.Goals as goal

pub loop-i-preserved : goal.loop-i-preserved
loop-i-preserved c =
    let words = map amount_word c.args.table.now in
    let k : length words ≡ length c.args.table.now = length-map c.args.table.now amount_word in
    let x = get_or c.args.table.now c.loop-i.i (pos 0) in
    let e : c.amount_word.result ≡ get_or words c.loop-i.i 0 =
    c.amount_word.ensures ∙ ap amount_word (to_z-of_z w64 x (search rules)) ∙ sym (get_or-map amount_word c.args.table.now c.loop-i.i (pos 0) 0 (omega arith)) in
    rw (c.loop-i.invariant, e) (paste_more c.args.list.now c.args.from words c.loop-i.i 0 (omega arith) (omega arith))
