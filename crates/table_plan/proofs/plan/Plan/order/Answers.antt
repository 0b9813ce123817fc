use Rattle.std.proofs.Common.{rules, ◌≡◌, ◌∙◌, ◌+◌, suc, ap, sym, subst, length, arith, Contains}
use Rattle.std.specs.List.{range_with_len}
use Rattle.table_machine.specs.State.{State, by_number}
use Rattle.table_machine.specs.Restoring.{drop_all, drop_record}
use Rattle.table_machine.proofs.Grown.{range-push}
use Rattle.table_machine.proofs.Listed.{in_range}
use Rattle.table_plan.specs.Planned.{state_of}
use Rattle.table_plan.proofs.Dropping.{drop-more, drop-start}
use Rattle.table_plan.proofs.plan.Plan.order.Goals as goal

pub loop-number-init : goal.loop-number-init
loop-number-init c =
    let s = c.args.self.now in
    let order : c.in_ok-order.order ≡ range_with_len 0 (length s.recs.items) = c.in_ok-order.ensures ∙ ap (range_with_len 0) (search rules) in
    record {
      state = drop-start s.placer s.recs.items c.in_ok-order.order order;
      there = λ other above below. subst (λ ns. Contains ns other) (sym order) (in_range (length s.recs.items) other below);
    }

pub loop-number-preserved : goal.loop-number-preserved
loop-number-preserved c =
    let s = c.args.self.now in
    let n = c.loop-number.number in
    let st = state_of s.placer s.recs.items in
    let plain : n ≡ 0 + n = omega arith in
    let next : suc n ≡ n + 1 = omega arith in
    record {
      state = c.drop_if_unlisted.ensures.state
          ∙ ap (λ (t : State). drop_record t (by_number t n)) c.loop-number.invariant.state
          ∙ sym (drop-more st (range_with_len 0 n) n)
          ∙ ap (drop_all st) (range-push 0 n n plain ∙ ap (range_with_len 0) next);
      there = λ other above below. c.drop_if_unlisted.ensures.others other (λ same. omega (arith, above, same)) (c.loop-number.invariant.there other (omega (arith, above)) below);
    }
