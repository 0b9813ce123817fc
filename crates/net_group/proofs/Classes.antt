-- Only internal addresses are of the class Internal.
use Rattle.std.proofs.Common.{◌≡◌, Bool, true, false, cond, length, refl, ap, ◌∙◌}
use Rattle.net_addr.specs.Address.{Address, IsAddress, length_of}
use Rattle.net_addr.specs.Ranges.{is_routable, class_by, net_class}
use Rattle.net_addr.specs.declared.net.Net.{Net}
use Rattle.net_addr.specs.declared.net.Net.TheVariants.{Unroutable, Ipv4, Ipv6, Onion, I2p, Cjdns, Internal}

neither : (b : Bool) (x y : Net) → (x ≡ Internal → ⊥) → (y ≡ Internal → ⊥) → cond b x y ≡ Internal → ⊥
neither true x y h k = h
neither false x y h k = k

internal_class : (n : Net) (a : Address) → class_by n a ≡ Internal → n ≡ Internal
internal_class Unroutable a e = cc
internal_class Ipv4 a e = absurd (neither (is_routable a) Ipv4 Unroutable (λ f. cc) (λ f. cc) e)
internal_class Ipv6 a e = absurd (neither (is_routable a) _ Unroutable (neither _ Ipv4 Ipv6 (λ f. cc) (λ f. cc)) (λ f. cc) e)
internal_class Onion a e = absurd (neither (is_routable a) Onion Unroutable (λ f. cc) (λ f. cc) e)
internal_class I2p a e = absurd (neither (is_routable a) I2p Unroutable (λ f. cc) (λ f. cc) e)
internal_class Cjdns a e = absurd (neither (is_routable a) Cjdns Unroutable (λ f. cc) (λ f. cc) e)
internal_class Internal a e = refl

-- an address of that class has ten bytes
pub internal-length : (a : Address) → IsAddress a → net_class a ≡ Internal → length a.bytes ≡ 10
internal-length a h e = h.length ∙ ap length_of (internal_class a.net a e)
