use Rattle.std.proofs.Common.{length, ap, arith}
use Rattle.addr_codecs.specs.Texts.{prefix_of}
use Rattle.peers_file.proofs.WholeLaws.{length-address, short_address}
use Rattle.peers_file.proofs.length.address_length.Goals as goal

pub returns-clause-exact : goal.returns-clause-exact
returns-clause-exact c =
    omega (
      arith,
      length-address c.args.addr.now c.bytes.ensures.address,
      c.prefix_length.ensures.exact,
      ap (λ n. length (prefix_of n)) c.net.ensures,
      ap length c.bytes.ensures.value,
    )

pub returns-clause-short : goal.returns-clause-short
returns-clause-short c =
    let few = short_address c.args.addr.now c.bytes.ensures.address in
    omega (
      arith,
      few,
      length-address c.args.addr.now c.bytes.ensures.address,
      c.prefix_length.ensures.exact,
      ap (λ n. length (prefix_of n)) c.net.ensures,
      ap length c.bytes.ensures.value,
    )
