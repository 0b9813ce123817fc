use Rattle.std.proofs.Common.{◌≡◌, Some, refl, sym, ap, ◌∙◌, subst}
use Rattle.net_addr.specs.Address.{IsAddress}
use Rattle.net_addr.specs.OldForm.{address}
use Rattle.net_addr.specs.Text.{IsHexOf}
use Rattle.net_addr.proofs.Digits.{room, err_is_not_ok, decoded, written, IsAddress-hex, hex_address, IsHexOf-made}
use Rattle.net_addr.proofs.Forms.{if_some}
use Rattle.net_addr.proofs.read.from_hex.Goals as goal

pub returns-in-Err-clause-only : goal.returns-in-Err-clause-only
returns-in-Err-clause-only c = λ a h.
    let size = room c.len.result c.args.net c.len.ensures in
    let found = decoded c.args.text.now _ _ a.bytes c.decode_to_slice.new.out _ c.in-Err.ensures.value size h.bytes in
    absurd (err_is_not_ok _ _ refl found.0)

pub returns-in-Ok-clause-found : goal.returns-in-Ok-clause-found
returns-in-Ok-clause-found c =
    let size = room c.len.result c.args.net c.len.ensures in
    let out = c.decode_to_slice.new.out in
    let bytes = written _ out _ c.in-Ok.ensures.value refl in
    if_some (λ a. a ≡ address c.args.net out) (IsHexOf c.args.net c.args.text.now) (λ a e. IsHexOf-made c.args.net c.args.text.now out _ a bytes size e) c.of.result c.of.ensures.found

pub returns-in-Ok-clause-only : goal.returns-in-Ok-clause-only
returns-in-Ok-clause-only c = λ a h.
    let size = room c.len.result c.args.net c.len.ensures in
    let found = decoded c.args.text.now _ _ a.bytes c.decode_to_slice.new.out _ c.in-Ok.ensures.value size h.bytes in
    let same = hex_address c.args.net c.args.text.now c.decode_to_slice.new.out a h found.1 in
    c.of.ensures.only (subst IsAddress (sym same) (IsAddress-hex c.args.net c.args.text.now a c.requires.network.0 c.requires.network.1 h)) ∙ ap Some same
