use Rattle.std.proofs.Common.{Some, List, ℕ, Bor, sym, ap, subst, ◌∙◌, ◌≢◌, IsTrue, length, arith}
use Rattle.std.specs.Prelude.{IfSome}
use Rattle.net_addr.specs.declared.net.Net.TheVariants.{Ipv6, Unroutable}
use Rattle.addr_codecs.specs.Network.{address_of, is_length}
use Rattle.addr_codecs.proofs.Addresses.{chunk_read, kept}
use Rattle.addr_codecs.proofs.address.address.Goals as goal

pub returns-in_ok-ok-in-Ipv6 : goal.returns-in_ok-ok-in-Ipv6
returns-in_ok-ok-in-Ipv6 c =
    let whole = chunk_read (λ (z : Bor (List ℕ)). z.now) 16 c.try_into.result c.args.bytes.now c.in_ok-ok-in-Ipv6.field-0 _ c.try_into.ensures.1 c.in_ok-ok-in-Ipv6.ensures.value in
    c.ipv6.ensures ∙ ap (λ bytes. address_of (Some Ipv6) bytes) whole.same ∙ ap (λ net. address_of (Some net) c.args.bytes.now) (sym c.in-Ipv6.is) ∙ ap (λ network. address_of network c.args.bytes.now) (sym c.in_ok-net.was)

pub returns-in_default : goal.returns-in_default
returns-in_default c =
    let own = subst (λ network. IfSome network (λ net. net ≢ Unroutable)) c.in_ok-net.was c.requires.own in
    let long = subst (λ network. IsTrue (is_length network (length c.args.bytes.now))) c.in_ok-net.was c.requires.length in
    kept c.in_ok-net.net c.args.bytes.now c.of.result own c.in_default.not-Ipv6 long (λ i. omega (arith, c.type_inv.bytes i)) c.of.ensures.only ∙ ap (λ network. address_of network c.args.bytes.now) (sym c.in_ok-net.was)
