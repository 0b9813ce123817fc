use Rattle.std.proofs.Common.{◌≡◌, arith}
use Rattle.node_json.specs.Raw.{rec_at, slot_member}
use Rattle.node_json.proofs.Tokens.{one_more}
use Rattle.node_json.proofs.raw.put_bucket.Goals as goal

pub slots-preserved : goal.slots-preserved
slots-preserved g c =
    let st = c.args.tables.now in
    one_more (λ slot. slot_member st.places c.args.bucket slot (rec_at c.args.table st c.args.bucket slot)) c.slots.slot c.args.json.now c.slots.json _ c.slots.invariant c.in_ok-put_slot.ensures

pub returns : goal.returns
returns g c =
    let done : c.slots.slot ≡ 64 = omega arith in
    rw done at c.slots.invariant
