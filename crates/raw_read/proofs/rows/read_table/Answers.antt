use Rattle.std.proofs.Common.{◌+◌, sym, ap, ◌∙◌, subst, arith}
use Rattle.raw_read.specs.Inside.{member_view}
use Rattle.raw_read.specs.Rows.{AreRows, next_slot}
use Rattle.raw_read.proofs.RowLaws.{faulty, next-more, next-none, read-more, rows-none}
use Rattle.raw_read.proofs.rows.read_table.Goals as goal

pub loop-member-init : goal.loop-member-init
loop-member-init c = record {
  read = rows-none c.args.table c.new-rows.result.items c.new-rows.ensures.items;
  next = next-none c.new-rows.result.items c.new-rows.ensures.items;
}

pub loop-member-preserved : goal.loop-member-preserved
loop-member-preserved c =
    let i = c.loop-member.member-index in
    let ms = c.args.members.now in
    let done = c.loop-member.rows.items in
    let row = c.in-Ok.row in
    let items = c.in_ok-push.ensures.items in
    record {
      read = subst (AreRows c.args.table 0 _) (sym items)
          (read-more c.args.table member_view ms i c.member-item.result done c.loop-member.from row c.loop-member-test.true c.member-item.is c.loop-member.invariant.read c.loop-member.invariant.next c.in-Ok.ensures.found.0 c.in-Ok.ensures.found.1);
      next = ap (λ n. n + 1) c.slot_number-from.ensures.is ∙ sym (next-more 0 done row) ∙ ap (next_slot 0) (sym items);
    }

pub returns-in-Err-clause-cause : goal.returns-in-Err-clause-cause
returns-in-Err-clause-cause c = λ _.
    let ms = c.args.members.now in
    faulty c.args.table member_view ms c.loop-member.member-index c.member-item.result c.loop-member.rows.items c.loop-member.from _ c.in-Err.fault c.loop-member-test.true c.member-item.is c.loop-member.invariant.read c.loop-member.invariant.next (omega (arith, c.len-index.ensures, c.loop-member.rows.ok.0)) c.in-Err.ensures.cause
