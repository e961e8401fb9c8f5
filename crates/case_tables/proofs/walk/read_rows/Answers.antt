use Rattle.case_tables.proofs.Walking.{walked_all, taken_small, taken_inside, taken_formed, taken_place, taken_more}
use Rattle.case_tables.proofs.walk.read_rows.Goals as goal

pub amount_count-requires : goal.amount_count-requires
amount_count-requires c =
    taken_small c.args.words.now c.requires.counted c.loop-records.records.now c.loop-records.rows c.loop-records.invariant c.in-len1-up.len_at_least
    c.of-sort.result c.of-sort.ensures

pub split_at-requires : goal.split_at-requires
split_at-requires c =
    taken_inside c.args.words.now c.requires.counted c.loop-records.records.now c.loop-records.rows c.loop-records.invariant c.in-len1-up.len_at_least
    c.of-sort.result c.of-sort.ensures c.amount_count.result c.amount_count.ensures

pub push-requires : goal.push-requires
push-requires c =
    record {
      formed = taken_formed c.args.words.now c.requires.counted c.loop-records.records.now c.loop-records.rows c.loop-records.invariant c.in-len1-up.len_at_least
          c.of-sort.result c.of-sort.ensures c.amount_count.result c.amount_count.ensures _ _ c.split_at.ensures.front c.split_at.ensures.back;
      place = taken_place c.args.words.now c.requires.counted c.loop-records.records.now c.loop-records.rows c.loop-records.invariant c.in-len1-up.len_at_least
          c.of-sort.result c.of-sort.ensures c.amount_count.result c.amount_count.ensures _ _ c.split_at.ensures.front c.split_at.ensures.back;
    }

pub loop-records-preserved : goal.loop-records-preserved
loop-records-preserved c =
    taken_more c.args.words.now c.requires.counted c.loop-records.records.now c.loop-records.rows c.loop-records.invariant c.in-len1-up.len_at_least
    c.of-sort.result c.of-sort.ensures c.amount_count.result c.amount_count.ensures _ _ c.split_at.ensures.front c.split_at.ensures.back
    c.push.new.self c.push.ensures

pub returns : goal.returns
returns c f = walked_all c.args.words.now f c.loop-records.records.now c.loop-records.rows c.in_default.len_below (c.loop-records.invariant f)
