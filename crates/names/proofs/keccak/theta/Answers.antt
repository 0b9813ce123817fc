use Rattle.std.proofs.Common.{arith, refl, ap, ◌∙◌}
use Rattle.std.specs.Prelude.{slice_index, bit_xor}
use Rattle.std.specs.Int.{w64, rotate_left}
use Rattle.std.proofs.lemmas.List.FromFn.{fill_by_all}
use Rattle.names.specs.Keccak.{theta_lane, theta}
use Rattle.names.proofs.Filling.{filled_more}
use Rattle.names.proofs.keccak.theta.Goals as goal

pub lanes-init : goal.lanes-init
lanes-init c = (refl, λ k lt. absurd (omega arith))

pub lanes-preserved : goal.lanes-preserved
lanes-preserved c =
    filled_more (theta_lane c.args.a.now) c.lanes.out 25 c.lanes.i _ c.lanes.invariant (omega arith) (
    λ j. bit_xor (slice_index c.args.a.now c.lanes.i) (bit_xor (c.parity.ensures j) ((c.rotate_left.ensures ∙ ap (λ p. rotate_left w64 p 1) c.parity-in-lanes.ensures) j)))

pub returns : goal.returns
unfolding theta
returns c =
    fill_by_all (theta_lane c.args.a.now) c.lanes.out 25 0 c.lanes.invariant.0 (λ k lt. c.lanes.invariant.1 k (omega arith))
