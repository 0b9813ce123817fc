use Rattle.std.proofs.Common.{◌<◌, length, get_or, set, None, ap, ◌∙◌, arith}
use Rattle.std.proofs.lemmas.List.{get_or_default}
use Rattle.std.proofs.lemmas.List.Edits.{map_over_more}
use Rattle.table_plan.specs.declared.waiter.Waiter.{Waiter}
use Rattle.table_plan.specs.Waiters.{forget}
use Rattle.table_plan.proofs.waiter.forget.Goals as goal

pub loop-waiter-preserved : goal.loop-waiter-preserved
loop-waiter-preserved c =
    let old = c.args.waiters.now in
    let ws = c.loop-waiter.waiters in
    let i = c.loop-waiter.waiter-index in
    let blank : Waiter = record { number = 0; id = None } in
    let x = get_or ws i blank in
    let within : i < length old = omega arith in
    let inside : i < length ws = omega arith in
    ap (λ id. set ws i record { number = x.number; id = id }) c.id_without-waiter.ensures
    ∙ map_over_more (forget c.args.gone) old ws i x within c.loop-waiter.invariant (get_or_default ws i blank x inside)
