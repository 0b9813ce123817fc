use Rattle.std.proofs.Common.{rules}
use Rattle.picture_text.specs.Picture.{set_numbers}
use Rattle.picture_text.proofs.Rows.{list_more}
use Rattle.picture_text.proofs.sets_picture.sets_in.Goals as goal

pub loop-index-preserved : goal.loop-index-preserved
loop-index-preserved c = record {
  numbers = list_more (set_numbers c.args.marks.now) c.loop-index.index c.loop-index.sets.items c.push.new.self.items c.set_numbers.result
      c.loop-index.invariant.numbers c.in_ok-push.ensures.items c.set_numbers.ensures;
  long = search rules;
}
