use Rattle.std.proofs.Common.{◌≡◌, ◌≢◌, ◌∙◌, ◌<◌, ℕ, All, AllPairs, List, ap, sym, subst, length, arith}
use Rattle.std.specs.List.{range_with_len}
use Rattle.peer_rec.specs.declared.rec.Rec.{Rec}
use Rattle.slot_grid.specs.Slots.{new_id, renumbered, tried_id}
use Rattle.peer_index.specs.Order.{IsOrder, Order}
use Rattle.table_machine.specs.State.{State}
use Rattle.table_machine.specs.Restoring.{drop_all}
use Rattle.table_plan.specs.Planned.{dropping, state_of}
use Rattle.tables.specs.Filled.{HasApart, filled}
use Rattle.tables.specs.Restored.{ArePartsOf}
use Rattle.tables.proofs.Settled.{apart, few, parts-of, sound-left, within}
use Rattle.tables.proofs.parts.settle.Goals as goal

pub fill-requires-clause-within : goal.fill-requires-clause-within
fill-requires-clause-within g c =
    let p = c.args.plan.now in
    let sound = sound-left p.placer p.recs.items p.news c.in_ok-order.order c.as_slice-2.result.now (drop_all (state_of p.placer p.recs.items) (range_with_len 0 p.news)) c.in_ok-order.ensures.order (c.as_slice-2.ensures.value ∙ c.into_numbers-numbers.ensures.numbers) c.requires.sound in
    subst (λ (rs : List Rec). All (λ n. n < length rs) c.as_slice-2.result.now) (sym c.as_slice.ensures.value)
    (within p.placer p.recs.items p.news p.grid c.requires.plan c.as_slice-2.result.now sound)

pub fill-requires-clause-apart : goal.fill-requires-clause-apart
fill-requires-clause-apart g c =
    let p = c.args.plan.now in
    let sound = sound-left p.placer p.recs.items p.news c.in_ok-order.order c.as_slice-2.result.now (drop_all (state_of p.placer p.recs.items) (range_with_len 0 p.news)) c.in_ok-order.ensures.order (c.as_slice-2.ensures.value ∙ c.into_numbers-numbers.ensures.numbers) c.requires.sound in
    subst (λ (rs : List Rec). HasApart rs c.as_slice-2.result.now) (sym c.as_slice.ensures.value)
    (apart p.placer p.recs.items p.news p.grid c.requires.plan c.as_slice-2.result.now sound (subst (AllPairs (λ m n. m ≢ n)) (sym c.as_slice-2.ensures.value) c.into_numbers-numbers.ensures.distinct))

pub fill-requires-clause-few : goal.fill-requires-clause-few
fill-requires-clause-few g c =
    let p = c.args.plan.now in
    let sound = sound-left p.placer p.recs.items p.news c.in_ok-order.order c.as_slice-2.result.now (drop_all (state_of p.placer p.recs.items) (range_with_len 0 p.news)) c.in_ok-order.ensures.order (c.as_slice-2.ensures.value ∙ c.into_numbers-numbers.ensures.numbers) c.requires.sound in
    let low = few p.placer p.recs.items p.news p.grid c.requires.plan c.as_slice-2.result.now sound in
    omega (arith, low)

pub returns-clause-parts : goal.returns-clause-parts
returns-clause-parts g c =
    let p = c.args.plan.now in
    let ns = c.as_slice-2.result.now in
    let after = drop_all (state_of p.placer p.recs.items) (range_with_len 0 p.news) in
    let sound = sound-left p.placer p.recs.items p.news c.in_ok-order.order ns after c.in_ok-order.ensures.order (c.as_slice-2.ensures.value ∙ c.into_numbers-numbers.ensures.numbers) c.requires.sound in
    let index : c.fill.new.index ≡ filled c.in_ok-ids.ids.items p.recs.items ns = c.in_ok-ids.ensures.filled ∙ ap (λ (rs : List Rec). filled c.in_ok-ids.ids.items rs ns) c.as_slice.ensures.value in
    let parts = parts-of p.placer p.recs.items p.news p.grid c.requires.plan ns sound c.in_ok-ids.ids.items (subst IsOrder index c.in_ok-ids.ensures.order) c.renumber.new.self
    (subst (λ (xs : List ℕ). (bucket slot : ℕ) → new_id c.renumber.new.self bucket slot ≡ renumbered xs (new_id p.grid bucket slot)) c.as_slice-3.ensures.value c.renumber.ensures.new)
    (subst (λ (xs : List ℕ). (bucket slot : ℕ) → tried_id c.renumber.new.self bucket slot ≡ renumbered xs (tried_id p.grid bucket slot)) c.as_slice-3.ensures.value c.renumber.ensures.tried) in
    subst (λ (o : Order). ArePartsOf after p.placer c.renumber.new.self o (length p.recs.items)) (sym index)
    (subst (λ (st : State). ArePartsOf st p.placer c.renumber.new.self (filled c.in_ok-ids.ids.items p.recs.items ns) (length p.recs.items))
    (ap (dropping p.placer p.recs.items p.news) (c.as_slice-2.ensures.value ∙ c.into_numbers-numbers.ensures.numbers) ∙ c.in_ok-order.ensures.order) parts)

pub returns-in_err-ids-clause-steps : goal.returns-in_err-ids-clause-steps
returns-in_err-ids-clause-steps g c =
    let p = c.args.plan.now in
    let sound = sound-left p.placer p.recs.items p.news c.in_ok-order.order c.as_slice-2.result.now (drop_all (state_of p.placer p.recs.items) (range_with_len 0 p.news)) c.in_ok-order.ensures.order (c.as_slice-2.ensures.value ∙ c.into_numbers-numbers.ensures.numbers) c.requires.sound in
    let low = few p.placer p.recs.items p.news p.grid c.requires.plan c.as_slice-2.result.now sound in
    omega (arith, low, c.fill.ensures.steps)

pub returns-clause-steps : goal.returns-clause-steps
returns-clause-steps g c =
    let p = c.args.plan.now in
    let sound = sound-left p.placer p.recs.items p.news c.in_ok-order.order c.as_slice-2.result.now (drop_all (state_of p.placer p.recs.items) (range_with_len 0 p.news)) c.in_ok-order.ensures.order (c.as_slice-2.ensures.value ∙ c.into_numbers-numbers.ensures.numbers) c.requires.sound in
    let low = few p.placer p.recs.items p.news p.grid c.requires.plan c.as_slice-2.result.now sound in
    omega (arith, low, c.fill.ensures.steps)
