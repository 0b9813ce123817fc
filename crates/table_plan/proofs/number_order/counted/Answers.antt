use Rattle.std.proofs.Common.{◌≡◌, ◌+◌, ◌∙◌, ◌∷◌, [], ◌++◌, suc, ap, arith}
use Rattle.std.specs.List.{range_with_len}
use Rattle.table_machine.proofs.Grown.{range-push}
use Rattle.table_plan.proofs.number_order.counted.Goals as goal

pub loop-number-preserved : goal.loop-number-preserved
loop-number-preserved c =
    let n = c.loop-number.number in
    let plain : n ≡ 0 + n = omega arith in
    let next : suc n ≡ n + 1 = omega arith in
    c.in_ok-push.ensures.items ∙ ap (λ ns. ns ++ n ∷ []) c.loop-number.invariant ∙ range-push 0 n n plain ∙ ap (range_with_len 0) next
