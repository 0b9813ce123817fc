-- When two addresses are the same: what `==` computes, and that it is true exactly when they are
-- equal.
use Rattle.std.specs.Prelude.{◌≡◌, ℕ, zero, suc, Bool, List, [], ◌∷◌, ◌++◌, ◌&&◌, ◌==◌, drop, slice_index, bytes_eq, IsTrue, refl}
use Rattle.std.specs.Bool.{Decides}
use Rattle.std.specs.Cmp.{IsEquivalence, IsPartialEquivalence, partial_equiv_from_equiv, on_equiv}
use Rattle.std.specs.Cmp.Lexicographic.{nat_list_eq_equiv}
use Rattle.std.specs.Hash as fed
use Rattle.std.proofs.Common.{sym, ap, ◌∙◌}
use Rattle.std.proofs.lemmas.Slice.Eq.{bytes_eq-Decides}
use Rattle.std.proofs.lemmas.Bool.Decides.{Decides-and, Decides-eqb}
use Rattle.net_addr.specs.Address.{Address, net_number}
use Rattle.net_addr.specs.declared.net.Net.{Net}
use Rattle.net_addr.specs.declared.peer.Peer.{Peer}
use Rattle.net_addr.specs.declared.net.Net.TheVariants.{Unroutable, Ipv4, Ipv6, Onion, I2p, Cjdns, Internal}

-- the number of the network and then the bytes, by which two addresses differ
abbrev pub number_and_bytes : Address → List ℕ
number_and_bytes a = net_number a.net ∷ a.bytes

-- the two are the same address of the same network
unfoldable pub same_address : Address → Address → Bool
same_address a b = bytes_eq (number_and_bytes a) (number_and_bytes b)

-- the network of a number
abbrev network : ℕ → Net
network zero = Unroutable
network (suc zero) = Ipv4
network (suc (suc zero)) = Ipv6
network (suc (suc (suc zero))) = Onion
network (suc (suc (suc (suc zero)))) = I2p
network (suc (suc (suc (suc (suc zero))))) = Cjdns
network (suc (suc (suc (suc (suc (suc n)))))) = Internal

-- The number of a network leads back to the network.
network-net_number : (n : Net) → network (net_number n) ≡ n
network-net_number Unroutable = refl
network-net_number Ipv4 = refl
network-net_number Ipv6 = refl
network-net_number Onion = refl
network-net_number I2p = refl
network-net_number Cjdns = refl
network-net_number Internal = refl

-- No two networks have one number.
pub number_of_injective : (m n : Net) → net_number m ≡ net_number n → m ≡ n
number_of_injective m n e = sym (network-net_number m) ∙ ap network e ∙ network-net_number n

-- Two addresses of one network with the same bytes are equal.
same_parts : (a b : Address) → a.net ≡ b.net → a.bytes ≡ b.bytes → a ≡ b
same_parts a b e f = λ i. record { net = e i; bytes = f i }

-- Two addresses with the same number and bytes are equal.
number_and_bytes_injective : (a b : Address) → number_and_bytes a ≡ number_and_bytes b → a ≡ b
number_and_bytes_injective a b e =
    same_parts a b (number_of_injective a.net b.net (ap (λ xs. slice_index xs 0) e))
    (ap (λ xs. drop 1 xs) e)

-- `==` of two addresses is true exactly when they are equal
pub same_address-Decides : (a b : Address) → Decides (same_address a b) (a ≡ b)
unfolding same_address
same_address-Decides a b =
    let d = bytes_eq-Decides (number_and_bytes a) (number_and_bytes b) in
    (λ h. number_and_bytes_injective a b (d.0 h), λ e. d.1 (ap number_and_bytes e))

-- `==` of two addresses is an equivalence.
pub same_address-equiv : IsEquivalence same_address
unfolding same_address
same_address-equiv = on_equiv number_and_bytes nat_list_eq_equiv

-- `==` of two addresses is symmetric and transitive.
pub same_address-per : IsPartialEquivalence same_address
same_address-per = partial_equiv_from_equiv same_address-equiv

-- what `hash` feeds a hasher, in two writes: the network's number, and the bytes
abbrev pub hashed : Address → List (List ℕ)
hashed a = fed.u8 (net_number a.net) ++ a.bytes ∷ []

-- Two addresses that `==` calls the same feed a hasher the same.
pub same_address-hashed : (a b : Address) → IsTrue (same_address a b) → hashed a ≡ hashed b
same_address-hashed a b h = ap hashed ((same_address-Decides a b).0 h)

-- the two are the same address and port: what `==` of two peers computes
abbrev pub same_peer : Peer → Peer → Bool
same_peer p q = same_address p.addr q.addr && p.port == q.port

-- Two peers with equal addresses and ports are equal.
same_peer_parts : (p q : Peer) → p.addr ≡ q.addr → p.port ≡ q.port → p ≡ q
same_peer_parts p q e f = λ i. record { addr = e i; port = f i }

-- `==` of two peers is true exactly when they are equal
pub same_peer-Decides : (p q : Peer) → Decides (same_peer p q) (p ≡ q)
same_peer-Decides p q =
    let d = Decides-and (same_address p.addr q.addr) (p.port == q.port)
    (same_address-Decides p.addr q.addr) (Decides-eqb p.port q.port) in (
      λ h. same_peer_parts p q (d.0 h).0 (d.0 h).1,
      λ e. d.1 (ap (λ r. r.addr) e, ap (λ r. r.port) e),
    )
