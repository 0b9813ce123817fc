use Rattle.std.proofs.Common.{◌<◌, ◌∙◌, sym, ap, arith}
use Rattle.std.proofs.lemmas.List.Elements.{All-from_get_or}
use Rattle.c_values.specs.Values.{address_by}
use Rattle.c_values.proofs.Addresses.{told}
use Rattle.c_values.proofs.values.address_by.Goals as goal

pub returns : goal.returns
returns c =
    let e = c.of.ensures in
    let bytes = c.args.bytes.now in
    told c.in_ok-net.field-0 bytes c.of.result (All-from_get_or (λ b. b < 256) bytes 0 (λ i lt. omega (arith, c.type_inv.bytes i))) e.found e.address e.none
    ∙ ap (λ net. address_by net bytes) (sym c.in_ok-net.was)
