use Rattle.std.proofs.Common.{rules, ◌∙◌, ◌≡◌, ◌≢◌, ◌<◌, ℕ, is_some, length, set, get_or, arith, sym, ap, subst}
use Rattle.std.specs.Int.{bit_at}
use Rattle.std.proofs.lemmas.List.{get_or_default}
use Rattle.slot_grid.specs.Masks.{AreMasks, bit_of}
use Rattle.slot_grid.specs.Inside.{slots_of}
use Rattle.slot_grid.specs.declared.sizes.TheConstants.{SLOTS}
use Rattle.slot_grid.proofs.Stored.{slots-put, masks-put}
use Rattle.slot_grid.proofs.grid.put.Goals as goal

pub returns-clause-slots : goal.returns-clause-slots
returns-clause-slots c =
    let masks = c.args.masks.now.items in
    let mask = c.with_bit-mask.result in
    let read : c.index.result.now ≡ get_or masks c.args.bucket c.index.result.now = search rules in
    let within : c.args.bucket < length masks = omega (arith, c.requires.bucket, c.requires.stored.bits.buckets) in
    let bit : bit_at mask c.args.slot ≡ bit_of (is_some c.args.id) = c.with_bit-mask.ensures.bit ∙ ap bit_of c.is_some.ensures in
    let others : (i : ℕ) → i < SLOTS → i ≢ c.args.slot → bit_at mask i ≡ bit_at (get_or masks c.args.bucket 0) i =
    λ i below apart. c.with_bit-mask.ensures.others i below apart ∙ ap (λ m. bit_at m i) (read ∙ get_or_default masks c.args.bucket c.index.result.now 0 within) in
    slots-put c.args.ids.now.items c.keep.new.ids.items c.args.blocks.now.items c.keep.new.blocks.items masks c.args.bucket c.args.slot c.args.id mask
    c.requires.stored.bits c.requires.bucket c.requires.slot c.keep.ensures.kept bit others

pub returns-clause-stored : goal.returns-clause-stored
returns-clause-stored c =
    let masks = c.args.masks.now.items in
    let mask = c.with_bit-mask.result in
    let slots = slots_of c.args.ids.now.items c.args.blocks.now.items masks in
    let read : c.index.result.now ≡ get_or masks c.args.bucket c.index.result.now = search rules in
    let within : c.args.bucket < length masks = omega (arith, c.requires.bucket, c.requires.stored.bits.buckets) in
    let bit : bit_at mask c.args.slot ≡ bit_of (is_some c.args.id) = c.with_bit-mask.ensures.bit ∙ ap bit_of c.is_some.ensures in
    let others : (i : ℕ) → i < SLOTS → i ≢ c.args.slot → bit_at mask i ≡ bit_at (get_or masks c.args.bucket 0) i =
    λ i below apart. c.with_bit-mask.ensures.others i below apart ∙ ap (λ m. bit_at m i) (read ∙ get_or_default masks c.args.bucket c.index.result.now 0 within) in
    record {
      parts = c.keep.ensures.blocks;
      bits =
          subst (λ s. AreMasks s (set masks c.args.bucket mask))
          (sym (slots-put c.args.ids.now.items c.keep.new.ids.items c.args.blocks.now.items c.keep.new.blocks.items masks c.args.bucket c.args.slot c.args.id mask
          c.requires.stored.bits c.requires.bucket c.requires.slot c.keep.ensures.kept bit others))
          (masks-put slots masks c.args.bucket c.args.slot c.args.id mask c.requires.stored.bits c.requires.bucket c.requires.slot bit others);
    }
