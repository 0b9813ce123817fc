use Rattle.std.proofs.Common.{rules, ◌∙◌, ◌≡◌, [], None, Some, set, get_or, sym, subst}
use Rattle.std.proofs.lemmas.List.{get_or_default}
use Rattle.slot_grid.specs.Inside.{IsKept}
use Rattle.slot_grid.proofs.Stored.{kept-written, kept-same}
use Rattle.slot_grid.proofs.grid.keep.Goals as goal

pub returns-in-Some-clause-kept : goal.returns-in-Some-clause-kept
returns-in-Some-clause-kept c =
    let ids = c.args.ids.now.items in
    let blocks = c.args.blocks.now.items in
    let new_ids = c.block_of-block.new.ids.items in
    let new_blocks = c.block_of-block.new.blocks.items in
    let block = c.block_of-block.result in
    let id = c.in-Some.id in
    let is : c.args.id ≡ Some id = search rules in
    let read : c.index_mut.result.now ≡ get_or new_ids block c.index_mut.result.now = search rules in
    let row : c.index_mut.result.now ≡ get_or new_ids block [] =
    read ∙ get_or_default new_ids block c.index_mut.result.now [] (c.block_of-block.ensures.blocks.below c.args.bucket block c.block_of-block.ensures.block) in
    subst (λ x. IsKept c.args.bucket c.args.slot x ids blocks (set new_ids block (set c.index_mut.result.now c.from.result id)) new_blocks) (sym is)
    (subst (λ r. IsKept c.args.bucket c.args.slot (Some id) ids blocks (set new_ids block (set r c.from.result id)) new_blocks) (sym row)
    (subst (λ s. IsKept c.args.bucket c.args.slot (Some id) ids blocks (set new_ids block (set (get_or new_ids block []) s id)) new_blocks) (sym c.from.ensures)
    (kept-written ids new_ids blocks new_blocks c.args.bucket c.args.slot block id c.requires.blocks c.block_of-block.ensures.blocks
    c.block_of-block.ensures.grown c.block_of-block.ensures.block c.requires.slot)))

pub returns-in_default-clause-kept : goal.returns-in_default-clause-kept
returns-in_default-clause-kept c =
    let ids = c.args.ids.now.items in
    let blocks = c.args.blocks.now.items in
    let none : c.args.id ≡ None = search rules in
    subst (λ x. IsKept c.args.bucket c.args.slot x ids blocks ids blocks) (sym none) (kept-same ids blocks c.args.bucket c.args.slot)
