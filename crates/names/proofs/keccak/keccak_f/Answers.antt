use Rattle.std.proofs.Common.{◌≡◌, arith, refl, add-one, ap, ◌∙◌}
use Rattle.names.specs.Keccak.{keccak_f, round}
use Rattle.names.proofs.keccak.keccak_f.Goals as goal

pub rounds-init : goal.rounds-init
unfolding keccak_f
rounds-init c = refl

pub rounds-preserved : goal.rounds-preserved
unfolding keccak_f
rounds-preserved c =
    rw add-one (c.round-state.ensures ∙ ap (λ s. round s c.rounds.index) c.rounds.invariant)

pub returns : goal.returns
returns c =
    let done : c.rounds.index ≡ 24 = omega arith in rw done at c.rounds.invariant
