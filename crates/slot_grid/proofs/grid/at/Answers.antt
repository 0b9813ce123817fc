use Rattle.std.proofs.Common.{rules, ◌∙◌, [], Some, get_or, ap}
use Rattle.slot_grid.proofs.Stored.{none-at, some-at, no-bit-at}
use Rattle.slot_grid.proofs.grid.at.Goals as goal

pub returns-in_err-block : goal.returns-in_err-block
returns-in_err-block c =
    let none = none-at c.args.ids.now c.args.blocks.now c.args.masks.now c.args.bucket c.args.slot c.requires.bucket c.requires.slot (search rules) in
    (search rules) ∙ none

pub returns-then-has_bit : goal.returns-then-has_bit
returns-then-has_bit c =
    ap (λ block. Some (get_or (get_or c.args.ids.now block []) c.from-then-has_bit.result 0)) c.from.ensures
    ∙ ap (λ slot. Some (get_or (get_or c.args.ids.now c.in_ok-block.block []) slot 0)) c.from-then-has_bit.ensures
    ∙ some-at c.args.ids.now c.args.blocks.now c.args.masks.now c.args.bucket c.args.slot c.in_ok-block.block c.requires.bucket c.requires.slot c.in_ok-block.was (search rules)

pub returns-else-has_bit : goal.returns-else-has_bit
returns-else-has_bit c =
    no-bit-at c.args.ids.now c.args.blocks.now c.args.masks.now c.args.bucket c.args.slot c.in_ok-block.block c.requires.bucket c.requires.slot c.in_ok-block.was (search rules)
