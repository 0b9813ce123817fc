use Rattle.std.proofs.Common.{◌≡◌, ◌∙◌, ◌==◌, ap, sym, subst, get_or, swap_remove, Contains}
use Rattle.std.proofs.lemmas.List.{get_or_read}
use Rattle.peer_rec.specs.Deletion.{without_first}
use Rattle.table_plan.proofs.Positions.{deleted, number-below}
use Rattle.table_plan.proofs.number_order.NumberOrder.delete.Goals as goal

pub returns-then-position-len-clause-deleted : goal.returns-then-position-len-clause-deleted
returns-then-position-len-clause-deleted c =
    let ns = c.self.inside.numbers.items in
    let ps = c.self.inside.positions.items in
    let there : Contains ns c.args.number = subst (λ xs. Contains xs c.args.number) (sym c.self.view_is) c.requires in
    let at : c.index-position.result.now ≡ get_or ps c.args.number 0 = get_or_read ps c.args.number c.index-position.result.now (number-below ns ps c.self.invariant c.args.number there) c.index-position.ensures 0 in
    c.swap_remove.ensures.items
    ∙ ap (λ i. swap_remove ns i c.swap_remove.result) at
    ∙ deleted ns ps c.self.invariant c.args.number there c.swap_remove.result
    ∙ ap (without_first (λ n. n == c.args.number)) c.self.view_is

pub returns-else-position-len-clause-deleted : goal.returns-else-position-len-clause-deleted
returns-else-position-len-clause-deleted c =
    let ns = c.self.inside.numbers.items in
    let ps = c.self.inside.positions.items in
    let there : Contains ns c.args.number = subst (λ xs. Contains xs c.args.number) (sym c.self.view_is) c.requires in
    let at : c.index-position.result.now ≡ get_or ps c.args.number 0 = get_or_read ps c.args.number c.index-position.result.now (number-below ns ps c.self.invariant c.args.number there) c.index-position.ensures 0 in
    c.swap_remove.ensures.items
    ∙ ap (λ i. swap_remove ns i c.swap_remove.result) at
    ∙ deleted ns ps c.self.invariant c.args.number there c.swap_remove.result
    ∙ ap (without_first (λ n. n == c.args.number)) c.self.view_is
