use Rattle.std.proofs.Common.{arith, refl}
use Rattle.std.proofs.lemmas.List.FromFn.{fill_by_all}
use Rattle.names.specs.Keccak.{chi_lane, chi}
use Rattle.names.proofs.Filling.{filled_more}
use Rattle.names.proofs.keccak.chi.Goals as goal

pub lanes-init : goal.lanes-init
lanes-init c = (refl, λ k lt. absurd (omega arith))

pub lanes-preserved : goal.lanes-preserved
lanes-preserved c =
    filled_more (chi_lane c.args.a.now) c.lanes.out 25 c.lanes.i _ c.lanes.invariant (omega arith) (refl)

pub returns : goal.returns
unfolding chi
returns c =
    fill_by_all (chi_lane c.args.a.now) c.lanes.out 25 0 c.lanes.invariant.0 (λ k lt. c.lanes.invariant.1 k (omega arith))
