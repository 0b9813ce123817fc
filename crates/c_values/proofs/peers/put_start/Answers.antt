use Rattle.std.proofs.Common.{◌≡◌, ◌<◌, Some, length, refl, arith, ◌∙◌}
use Rattle.std.proofs.lemmas.List.{drop-set-lt}
use Rattle.std.proofs.lemmas.Option.{slice_get_read}
use Rattle.c_values.specs.Values.{peer_in}
use Rattle.c_values.proofs.Lists.{more, all}
use Rattle.c_values.proofs.peers.put_start.Goals as goal

pub loop-i-preserved : goal.loop-i-preserved
loop-i-preserved c =
    let below : c.loop-i.i < length c.args.peers.now = omega (arith, c.loop-i-test.true) in
    let within : c.loop-i.i < length c.loop-i.out = omega (arith, below, c.loop-i.auto.out, c.requires) in (
      more (λ told peer. peer_in told ≡ Some peer) c.loop-i.i c.loop-i.out c.args.peers.now c.write_peer.result c.index-peers-i.result
          c.loop-i.invariant.0 within (slice_get_read c.args.peers.now _ c.loop-i.i c.index-peers-i.result refl below c.index-peers-i.is) c.write_peer.ensures,
      drop-set-lt (length c.args.peers.now) c.loop-i.out c.loop-i.i c.write_peer.result below ∙ c.loop-i.invariant.1,
    )

pub returns-clause-told : goal.returns-clause-told
returns-clause-told c = (
  omega (arith, c.loop-i.auto.out, c.requires),
  all (λ told peer. peer_in told ≡ Some peer) c.loop-i.i c.loop-i.out c.args.peers.now c.loop-i.invariant.0 (omega (arith, c.loop-i-test.false)),
)

pub returns-clause-rest : goal.returns-clause-rest
returns-clause-rest c = c.loop-i.invariant.1
