use Rattle.bit_code.proofs.RisingClasses.{head_length}
use Rattle.bit_code.proofs.ahead.head_len.Goals as goal

pub returns-clause-len : goal.returns-clause-len
returns-clause-len c =
    head_length c.args.class c.args.last c.zero_bits.result c.requires c.zero_bits.ensures.one c.zero_bits.ensures.none
