use Rattle.std.proofs.Common.{ap, ◌∙◌, arith}
use Rattle.word.specs.Word.{word_of, payload_of}
use Rattle.word.specs.declared.kind.Kind.TheVariants as kind
use Rattle.paper.specs.Write.{dispatch_of}
use Rattle.paper.proofs.Dispatches.{written, reads_back}
use Rattle.paper.proofs.write.write_dispatch.Goals as goal

pub returns : goal.returns
returns c =
    let head = c.word_of.ensures ∙ ap (λ n. word_of kind.Head (payload_of n)) c.number.ensures in
    record {
      count = omega arith;
      words = written c.args.powers.now c.args.angles.now c.args.list.now c.put_amounts.new.list c.put_amounts-2.new.list
          c.word_of.result c.word_of-2.result (omega arith) head c.word_of-2.ensures c.put_amounts.ensures c.put_amounts-2.ensures;
      back = reads_back (dispatch_of c.args.powers.now c.args.angles.now);
    }
