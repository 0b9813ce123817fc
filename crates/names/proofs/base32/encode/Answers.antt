use Rattle.std.proofs.Common.{arith}
use Rattle.std.proofs.lemmas.Grind.{common_steps}
use Rattle.names.specs.Base32.{base32}
use Rattle.names.proofs.Base32Laws.{base32_next, one_group}
use Rattle.names.proofs.base32.encode.Goals as goal

pub loop-rest-preserved : goal.loop-rest-preserved
loop-rest-preserved c = (
  one_group base32 _ c.loop-rest.text.items c.letters.result _ c.loop-rest.rest.now _ _ c.append.ensures.items
      c.letters.ensures (base32_next c.loop-rest.rest.now c.in-len5-up.len_at_least) c.loop-rest.invariant.0,
  grind (arith, common_steps),
)
