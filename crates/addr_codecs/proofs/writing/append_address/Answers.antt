use Rattle.std.proofs.Common.{arith, ap, ◌∙◌}
use Rattle.addr_codecs.specs.Texts.{id_of, prefix_of}
use Rattle.addr_codecs.proofs.WritingLaws.{of_four, three_parts}
use Rattle.addr_codecs.proofs.writing.append_address.Goals as goal

pub returns-in-len4-clause-found : goal.returns-in-len4-clause-found
returns-in-len4-clause-found c =
    of_four c.args.addr.now c.args.out.now.items c.extend_from_slice.new.self.items c.bytes-bytes.result.now c.id.result
    c.bytes-bytes.ensures.address c.bytes-bytes.ensures.value (omega (arith, c.in-len4.len_at_least, c.in-len4.len_below)) c.id.ensures c.in_ok-extend_from_slice.ensures.items

pub returns-clause-found : goal.returns-clause-found
returns-clause-found c =
    three_parts c.args.addr.now c.args.out.now.items c.extend_from_slice-2.new.self.items c.extend_from_slice-3.new.self.items c.extend_from_slice-4.new.self.items
    c.prefix-prefix.result.now c.bytes-bytes.result.now c.id-2.result c.bytes-bytes.ensures.address (c.id-2.ensures ∙ ap id_of c.net-2.ensures)
    (c.prefix-prefix.ensures ∙ ap prefix_of c.net.ensures) c.bytes-bytes.ensures.value
    c.in_ok-extend_from_slice-2.ensures.items c.in_ok-extend_from_slice-3.ensures.items c.in_ok-extend_from_slice-4.ensures.items
