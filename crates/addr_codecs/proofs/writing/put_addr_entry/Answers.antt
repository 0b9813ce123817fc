use Rattle.std.proofs.Common.{[], ◌++◌, ap, ◌∙◌}
use Rattle.std.specs.Prelude.{unwrap_or}
use Rattle.std.specs.Int.{w16, w32, w64, to_le_bytes, to_be_bytes}
use Rattle.net_addr.specs.OldForm.{v1_bytes}
use Rattle.addr_codecs.specs.Texts.{addr_entry_text}
use Rattle.addr_codecs.proofs.TextLaws.{four_parts}
use Rattle.addr_codecs.proofs.writing.put_addr_entry.Goals as goal

pub returns-clause-found : goal.returns-clause-found
unfolding addr_entry_text
returns-clause-found c =
    let e = c.args.entry.now in
    four_parts c.args.out.now.items (to_le_bytes w32 e.time) (to_le_bytes w64 e.services) (unwrap_or (v1_bytes e.peer.addr) []) (to_be_bytes w16 e.peer.port) c.extend_from_slice.new.self.items c.extend_from_slice-2.new.self.items c.put_old_form.new.out.items c.extend_from_slice-3.new.self.items
    (c.in_ok-extend_from_slice.ensures.items ∙ ap (λ t. c.args.out.now.items ++ t) c.to_le_bytes.ensures)
    (c.in_ok-extend_from_slice-2.ensures.items ∙ ap (λ t. c.extend_from_slice.new.self.items ++ t) c.to_le_bytes-2.ensures)
    c.in_ok-put_old_form.ensures.found
    (c.in_ok-extend_from_slice-3.ensures.items ∙ ap (λ t. c.put_old_form.new.out.items ++ t) c.to_be_bytes.ensures)
