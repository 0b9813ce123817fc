use Rattle.std.proofs.Common.{arith}
use Rattle.std.proofs.lemmas.Nat.{one_shl}
use Rattle.bit_code.proofs.SpelledNumbers.{spelled_kind, ones-lt}
use Rattle.bit_code.proofs.spelled.spell_kind.Goals as goal

pub returns-clause-bits : goal.returns-clause-bits
returns-clause-bits c = rw (one_shl c.args.value 64 (omega arith), c.head_len.ensures.len) (spelled_kind c.args.value c.requires)

pub returns-clause-within : goal.returns-clause-within
returns-clause-within c = rw (one_shl c.args.value 64 (omega arith)) (ones-lt c.args.value c.head_len.result c.head_len.ensures.least)
