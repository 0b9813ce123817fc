use Rattle.std.proofs.Common.{arith, refl}
use Rattle.std.proofs.lemmas.List.FromFn.{fill_by_all}
use Rattle.names.specs.Keccak.{padded_byte, padded_block}
use Rattle.names.proofs.Filling.{filled_more}
use Rattle.names.proofs.sha3.padded.Goals as goal

pub bytes-init : goal.bytes-init
bytes-init c = (refl, λ k lt. absurd (omega arith))

pub bytes-preserved : goal.bytes-preserved
bytes-preserved c =
    filled_more (padded_byte c.args.message.now) c.bytes.block 136 c.bytes.i _ c.bytes.invariant (omega arith) (c.padded_byte.ensures)

pub returns : goal.returns
unfolding padded_block
returns c =
    fill_by_all (padded_byte c.args.message.now) c.bytes.block 136 0 c.bytes.invariant.0 (λ k lt. c.bytes.invariant.1 k (omega arith))
