use Rattle.std.proofs.Common.{length, ap, arith}
use Rattle.wire_num.specs.CompactSize.{compact_size}
use Rattle.addr_codecs.specs.Texts.{address_text}
use Rattle.peers_file.proofs.WholeLaws.{length-record}
use Rattle.peers_file.proofs.length.record_length.Goals as goal

pub returns-clause-exact : goal.returns-clause-exact
returns-clause-exact c = λ rec addr source services.
    omega (
      arith,
      length-record rec,
      ap (λ a. length (address_text a)) addr,
      ap (λ a. length (address_text a)) source,
      ap (λ n. length (compact_size n)) services,
      c.compact_length.ensures.exact,
      c.address_length.ensures.exact,
      c.address_length-2.ensures.exact,
    )
