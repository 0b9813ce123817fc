use Rattle.std.proofs.Common.{◌%◌, arith}
use Rattle.c_values.proofs.Sets.{set_of_bits}
use Rattle.c_values.proofs.values.read_nets.Goals as goal

pub returns : goal.returns
returns c =
    set_of_bits (c.args.bits % 128) _ _ _ _ _ _ _ _ (omega arith) c.none.ensures c.with_bit-nets.ensures c.with_bit-nets-2.ensures c.with_bit-nets-3.ensures
    c.with_bit-nets-4.ensures c.with_bit-nets-5.ensures c.with_bit-nets-6.ensures c.with_bit.ensures
