use Rattle.std.proofs.Common.{rules, ◌≡◌, [], ◌∷◌, ◌++◌, None, Some, length, vec_len, set, get_or, replicate, arith, sym, subst, refl}
use Rattle.slot_grid.specs.Inside.{AreBlocks}
use Rattle.slot_grid.proofs.Stored.{blocks-given, few-blocks}
use Rattle.slot_grid.proofs.grid.block_of.Goals as goal

pub returns-in-None-clause-blocks : goal.returns-in-None-clause-blocks
returns-in-None-clause-blocks c =
    let ids = c.args.ids.now.items in
    let blocks = c.args.blocks.now.items in
    let bucket = c.args.bucket in
    let none : get_or blocks bucket None ≡ None = search rules in
    let count : length ids ≡ c.len-block.result = search rules in
    subst (λ new. AreBlocks new (set blocks bucket (Some c.len-block.result))) (sym c.push_reserved.ensures.items)
    (subst (λ n. AreBlocks (ids ++ replicate 64 0 ∷ []) (set blocks bucket (Some n))) count
    (blocks-given ids blocks bucket (replicate 64 0) c.requires.blocks c.requires.bucket none refl))

pub push_reserved-requires : goal.push_reserved-requires
push_reserved-requires c =
    let ids = c.args.ids.now.items in
    let blocks = c.args.blocks.now.items in
    let none : get_or blocks c.args.bucket None ≡ None = search rules in
    let count : length ids ≡ vec_len c.args.ids.now = search rules in
    omega (arith, few-blocks ids blocks c.args.bucket c.requires.blocks c.requires.bucket none, count, c.requires.room)
