use Rattle.std.proofs.Common.{arith, refl}
use Rattle.std.proofs.lemmas.List.FromFn.{fill_by_all}
use Rattle.names.specs.Keccak.{moved_lane, moved}
use Rattle.names.proofs.Filling.{filled_more}
use Rattle.names.proofs.keccak.moved.Goals as goal

pub lanes-init : goal.lanes-init
lanes-init c = (refl, λ k lt. absurd (omega arith))

pub lanes-preserved : goal.lanes-preserved
lanes-preserved c =
    filled_more (moved_lane c.args.a.now) c.lanes.out 25 c.lanes.i _ c.lanes.invariant (omega arith) (c.rotate_left.ensures)

pub returns : goal.returns
unfolding moved
returns c =
    fill_by_all (moved_lane c.args.a.now) c.lanes.out 25 0 c.lanes.invariant.0 (λ k lt. c.lanes.invariant.1 k (omega arith))
