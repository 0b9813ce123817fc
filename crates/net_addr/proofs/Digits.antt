-- Bytes as hexadecimal digits.
use Rattle.std.proofs.Common.{◌≡◌, ◌≢◌, ℕ, ◌≤◌, List, length, take, replicate, Result, Ok, Err, sym, ap, ◌∙◌, subst, arith}
use Rattle.std.proofs.lemmas.List.{length-take-le}
use Rattle.std.specs.Prelude.{MatchResult}
use Rattle.hex.specs.Hex.{decode_sized}
use Rattle.hex.specs.declared.error.FromHexError.{FromHexError}
use Rattle.hex.proofs.HexLemmas.{decode_sized-ok, decode_sized-twice, decode_of-ok}
use Rattle.net_addr.specs.Address.{Address, IsAddress, length_of}
use Rattle.net_addr.specs.OldForm.{address}
use Rattle.net_addr.specs.Text.{IsHexOf}
use Rattle.net_addr.specs.declared.net.Net.{Net}
use Rattle.net_addr.specs.declared.net.Net.TheVariants.{Unroutable, Ipv4, Ipv6, Onion, I2p, Cjdns, Internal}
use Rattle.net_addr.proofs.Bits.{AllBytes}
use Rattle.net_addr.proofs.Bytes.{All_bytes, IsAddress-plain}

-- no address has more than 32 bytes
pub length_of-most : (n : Net) → length_of n ≤ 32
length_of-most Unroutable = omega arith
length_of-most Ipv4 = omega arith
length_of-most Ipv6 = omega arith
length_of-most Onion = omega arith
length_of-most I2p = omega arith
length_of-most Cjdns = omega arith
length_of-most Internal = omega arith

-- the room for the bytes of an address
pub room : (n : ℕ) (net : Net) → n ≡ length_of net → length {A = ℕ} (take n (replicate 32 0)) ≡ length_of net
room n net e =
    let most = length_of-most net in
    let zeros : List ℕ = replicate 32 0 in
    let taken : length (take n zeros) ≡ n = omega (arith, length-take-le n zeros) in
    taken ∙ e

pub err_is_not_ok : (e : FromHexError) (r : Result (Unit {0}) FromHexError) → r ≡ Err e → r ≡ Ok tt → ⊥
err_is_not_ok e r h k = cc

-- what a text decodes to is what the decoder wrote, into the same room
pub decoded : (text : List ℕ) (n k : ℕ) (bytes out : List ℕ) (r : Result (Unit {0}) FromHexError) → MatchResult (decode_sized text n) (λ b. (r ≡ Ok tt) × (out ≡ b)) (λ e. r ≡ Err e) → n ≡ k → decode_sized text k ≡ Ok bytes → (r ≡ Ok tt) × (out ≡ bytes)
decoded text n k bytes out r m e h =
    subst (λ (d : Result (List ℕ) FromHexError). MatchResult d (λ b. (r ≡ Ok tt) × (out ≡ b)) (λ e. r ≡ Err e)) (ap (decode_sized text) e ∙ h) m

-- if the decoder wrote bytes, the text decodes to them
pub written : (d : Result (List ℕ) FromHexError) (out : List ℕ) (r : Result (Unit {0}) FromHexError) → MatchResult d (λ b. (r ≡ Ok tt) × (out ≡ b)) (λ e. r ≡ Err e) → r ≡ Ok tt → d ≡ Ok out
written (Ok bytes) out r m e = ap Ok (sym m.1)
written (Err x) out r m e = cc

hex_bytes : (text : List ℕ) (n : ℕ) (bytes : List ℕ) → decode_sized text n ≡ Ok bytes → (length bytes ≡ n) × AllBytes bytes
hex_bytes text n bytes h =
    let len = decode_sized-ok text n bytes h in
    let ok = decode_of-ok text bytes (sym (decode_sized-twice text n len) ∙ h) in
    (omega (arith, len, ok.2), ok.3)

-- what hexadecimal digits write is an address
pub IsAddress-hex : (net : Net) (text : List ℕ) (a : Address) → net ≢ Unroutable → net ≢ Ipv6 → IsHexOf net text a → IsAddress a
IsAddress-hex net text a some other h =
    let bytes = hex_bytes text (length_of net) a.bytes h.bytes in
    subst IsAddress (λ i. record { net = sym h.network i; bytes = a.bytes }) (IsAddress-plain net a.bytes some other bytes.0 (All_bytes a.bytes bytes.1))

-- it is the address of the network and the bytes that were written
pub hex_address : (net : Net) (text out : List ℕ) (a : Address) → IsHexOf net text a → out ≡ a.bytes → address net out ≡ a
hex_address net text out a h e = λ i. record { net = sym h.network i; bytes = e i }

-- the address that was made is written by the digits
pub IsHexOf-made : (net : Net) (text out : List ℕ) (n : ℕ) (a : Address) → decode_sized text n ≡ Ok out → n ≡ length_of net → a ≡ address net out → IsHexOf net text a
IsHexOf-made net text out n a h e f = record {
  network = ap (λ b. b.net) f;
  bytes = ap (decode_sized text) (sym e) ∙ h ∙ ap (λ b. Ok b.bytes) (sym f);
}
