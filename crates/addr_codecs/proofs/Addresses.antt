-- An address of `addrv2`: its length is its network's, and its bytes are an address of it.
use Rattle.std.proofs.Common.{◌≡◌, ◌≢◌, ℕ, ◌<◌, Bool, true, false, cond, leb, List, length, Option, Some, Result, Ok, Err, IsTrue, refl, sym, ap, subst, ◌∙◌, MatchResult}
use Rattle.std.specs.Array.{IsWholeChunk}
use Rattle.std.specs.Result.{result_ok}
use Rattle.std.proofs.lemmas.Bool.{eqb-true}
use Rattle.std.proofs.lemmas.List.Elements.{All-from_get_or}
use Rattle.net_addr.specs.Address.{Address, IsAddress, length_of}
use Rattle.net_addr.specs.OldForm.{address}
use Rattle.net_addr.specs.declared.net.Net.{Net}
use Rattle.net_addr.specs.declared.net.Net.TheVariants.{Unroutable, Ipv4, Ipv6, Onion, I2p, Cjdns, Internal}
use Rattle.wire_num.specs.Readings.{fault_as, bytes_at, compact_at}
use Rattle.wire_num.proofs.ReadingLaws.{AreBytes, bind_ok, ok_is, apart}
use Rattle.wire_num.proofs.FieldLaws.{bytes_at-length}
use Rattle.addr_codecs.specs.declared.address_fault.AddressFault.{AddressFault}
use Rattle.addr_codecs.specs.declared.address_fault.AddressFault.TheVariants.{TooLong, BadLength}
use Rattle.addr_codecs.specs.Faults.{in_address}
use Rattle.addr_codecs.specs.Network.{is_length, address_of}
use Rattle.addr_codecs.specs.Readings.{length_at}

-- bytes that were made an array are the same bytes
pub chunk_read : {X E : Type 0} (now : X → List ℕ) (n : ℕ) (r : Result X E) (x : List ℕ) (y : X) (Q : E → Type 0) → MatchResult r (λ z. IsWholeChunk x (now z) n) Q → Some y ≡ result_ok r → IsWholeChunk x (now y) n
chunk_read now n (Ok z) x y Q h e = let same : y ≡ z = cc in subst (λ t. IsWholeChunk x (now t) n) (sym same) h
chunk_read now n (Err d) x y Q h e = cc e

same_network : (net : Net) → net ≢ Unroutable → net ≢ Ipv6 → (bytes : List ℕ) → address_of (Some net) bytes ≡ Some (address net bytes)
same_network Unroutable own other bytes = absurd (own refl)
same_network Ipv4 own other bytes = refl
same_network Ipv6 own other bytes = absurd (other refl)
same_network Onion own other bytes = refl
same_network I2p own other bytes = refl
same_network Cjdns own other bytes = refl
same_network Internal own other bytes = refl

pub kept : (net : Net) (bytes : List ℕ) (r : Option Address) → net ≢ Unroutable → net ≢ Ipv6 → IsTrue (is_length (Some net) (length bytes)) → AreBytes bytes
    → (IsAddress (address net bytes) → r ≡ Some (address net bytes)) → r ≡ address_of (Some net) bytes
kept net bytes r own other long fits only =
    only (record { network = own; length = eqb-true (length bytes) (length_of net) long; bytes = All-from_get_or (λ b. b < 256) bytes 0 (λ i lt. fits i); own_form = λ e. absurd (other e) }) ∙ sym (same_network net own other bytes)

two_tests : {A : Type 0} (a b : Bool) (f g : AddressFault) (x y : A) → cond a (cond b (Ok x) (Err f)) (Err g) ≡ Ok y → (b ≡ true) × (x ≡ y)
two_tests true true f g x y e = (refl, ok_is {F = AddressFault} x y e)
two_tests true false f g x y e = absurd (apart y f (sym e))
two_tests false b f g x y e = absurd (apart y g (sym e))

right_length : (network : Option Net) (bytes : List ℕ) (n : ℕ) (rest : List ℕ) → length_at network bytes ≡ Ok (n, rest) → is_length network n ≡ true
unfolding length_at
right_length network bytes n rest e =
    let x = bind_ok (fault_as in_address (compact_at bytes)) (λ len. cond (leb len.0 512) (cond (is_length network len.0) (Ok (len.0, len.1)) (Err BadLength)) (Err TooLong)) (n, rest) e in
    let tests = two_tests (leb x.0.0 512) (is_length network x.0.0) BadLength TooLong (x.0.0, x.0.1) (n, rest) x.2 in
    ap (λ (p : ℕ × List ℕ). is_length network p.0) (sym tests.1) ∙ tests.0

-- the bytes that are taken after the length have that length
pub long_enough : (network : Option Net) (bytes : List ℕ) (n : ℕ) (rest x after : List ℕ) → length_at network bytes ≡ Ok (n, rest) → bytes_at n rest ≡ Ok (x, after) → IsTrue (is_length network (length x))
long_enough network bytes n rest x after e taken = ap (is_length network) (bytes_at-length n rest x after taken) ∙ right_length network bytes n rest e
