use Rattle.std.proofs.Common.{arith}
use Rattle.bit_code.specs.Coder.{spelling}
use Rattle.bit_code.proofs.SpelledNumbers.{kind_values, rising_values}
use Rattle.bit_code.proofs.spelled.spell.Goals as goal

pub spell_kind-requires : goal.spell_kind-requires
spell_kind-requires c = omega (arith, (rw c.in-None.ensures.none at c.requires.high), kind_values)

pub spell_rising-requires-clause-below : goal.spell_rising-requires-clause-below
spell_rising-requires-clause-below c =
    let classes = c.in-Some.classes in
    let h = c.in-Some.ensures.found in
    omega (arith, (rw h.sizes at c.requires.high), c.requires.low, h.least, rising_values classes.first classes.last)

pub returns-in-Some-clause-bits : goal.returns-in-Some-clause-bits
unfolding spelling
returns-in-Some-clause-bits c =
    let h = c.in-Some.ensures.found in
    rw (h.sizes, ← h.least) c.spell_rising.ensures.bits
