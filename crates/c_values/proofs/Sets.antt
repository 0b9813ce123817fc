-- A set of networks that is made bit by bit.
use Rattle.std.proofs.Common.{◌≡◌, ℕ, ◌<◌, List, refl, ap, ◌∙◌}
use Rattle.std.specs.Prelude.{bytes_eq}
use Rattle.std.proofs.lemmas.Slice.Eq.{bytes_eq-Decides}
use Rattle.net_addr.specs.NetSet.{none}
use Rattle.net_addr.specs.NetBits.{nets_of, each_below}
use Rattle.net_addr.specs.declared.net.Net.TheVariants.{Unroutable, Ipv4, Ipv6, Onion, I2p, Cjdns, Internal}
use Rattle.c_values.specs.Values.{with_bit}

abbrev chain : ℕ → List ℕ
chain b = with_bit b (with_bit b (with_bit b (with_bit b (with_bit b (with_bit b (with_bit b none Unroutable) Ipv4) Ipv6) Onion) I2p) Cjdns) Internal

pub set_of_bits : (b : ℕ) (n0 n1 n2 n3 n4 n5 n6 n7 : List ℕ) → b < 128 → n0 ≡ none → n1 ≡ with_bit b n0 Unroutable → n2 ≡ with_bit b n1 Ipv4 → n3 ≡ with_bit b n2 Ipv6
    → n4 ≡ with_bit b n3 Onion → n5 ≡ with_bit b n4 I2p → n6 ≡ with_bit b n5 Cjdns → n7 ≡ with_bit b n6 Internal → n7 ≡ nets_of b
set_of_bits b n0 n1 n2 n3 n4 n5 n6 n7 below e0 e1 e2 e3 e4 e5 e6 e7 =
    e7 ∙ ap (λ s. with_bit b s Internal) (e6 ∙ ap (λ s. with_bit b s Cjdns) (e5 ∙ ap (λ s. with_bit b s I2p) (e4 ∙ ap (λ s. with_bit b s Onion)
    (e3 ∙ ap (λ s. with_bit b s Ipv6) (e2 ∙ ap (λ s. with_bit b s Ipv4) (e1 ∙ ap (λ s. with_bit b s Unroutable) e0))))))
    ∙ (bytes_eq-Decides (chain b) (nets_of b)).0 (each_below (λ k. bytes_eq (chain k) (nets_of k)) 128 refl b below)
