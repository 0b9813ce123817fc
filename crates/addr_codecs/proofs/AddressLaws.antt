-- An address of `addrv2` is read exactly as it is laid out, each fault the first, and what is
-- written of one is read as it.
use Rattle.std.proofs.Common.{◌≡◌, ℕ, ◌≤◌, Bool, true, false, cond, leb, List, [], ◌∷◌, ◌++◌, length, Option, Some, None, Ok, Err, refl, sym, ap, subst, ◌∙◌, append_assoc, arith}
use Rattle.std.specs.Prelude.{◌||◌}
use Rattle.std.proofs.lemmas.Bool.{le-leb, eq-eqb}
use Rattle.std.proofs.lemmas.List.{append-nil, length-append}
use Rattle.net_addr.specs.Address.{Address, IsAddress, is_old_form, begins_with, mapped_prefix, internal_prefix, torv2_prefix}
use Rattle.net_addr.specs.OldForm.{address, from_v1}
use Rattle.net_addr.specs.declared.net.Net.{Net}
use Rattle.net_addr.specs.declared.net.Net.TheVariants.{Unroutable, Ipv4, Ipv6, Onion, I2p, Cjdns, Internal}
use Rattle.wire_num.specs.CompactSize.{compact_size}
use Rattle.wire_num.specs.Format.{sequence, value, check}
use Rattle.wire_num.specs.Fields.{some_bytes, byte, compact}
use Rattle.wire_num.specs.Readings.{◌>>=◌, bytes_at, byte_at, compact_at, then_at, value_at, check_at, map_fault_at}
use Rattle.wire_num.proofs.ReadingLaws.{Reads, Reads-then, Reads-value, Reads-check, Reads-map_fault, Reads-same, check-then}
use Rattle.wire_num.proofs.FieldLaws.{Reads-some_bytes, Reads-byte}
use Rattle.wire_num.proofs.CompactLaws.{Reads-compact}
use Rattle.wire_num.proofs.WritingLaws.{spells-then, spells-value, spells-check, spells-some_bytes, spells-compact, spells-byte}
use Rattle.addr_codecs.specs.declared.address_fault.AddressFault.{AddressFault}
use Rattle.addr_codecs.specs.declared.address_fault.AddressFault.TheVariants.{BadLength, TooLong}
use Rattle.addr_codecs.specs.Faults.{in_address}
use Rattle.addr_codecs.specs.Network.{network_of, is_length, address_of}
use Rattle.addr_codecs.specs.Layout.{address_field, address_length, addrv2_address}
use Rattle.addr_codecs.specs.Readings.{length_at, address_at}
use Rattle.addr_codecs.specs.Texts.{address_text, id_of, prefix_of}

-- ---- reading

length_field : Reads (address_field compact) (map_fault_at in_address compact_at)
length_field = Reads-map_fault in_address compact compact_at Reads-compact

byte_field : Reads (address_field byte) (map_fault_at in_address byte_at)
byte_field = Reads-map_fault in_address byte byte_at Reads-byte

bytes_field : (n : ℕ) → Reads (address_field (some_bytes n)) (map_fault_at in_address (bytes_at n))
bytes_field n = Reads-map_fault in_address (some_bytes n) (bytes_at n) (Reads-some_bytes n)

Reads-length : (network : Option Net) → Reads (address_length network) (length_at network)
unfolding address_length length_at
Reads-length network =
    let right = λ (len : ℕ) (bytes : List ℕ). cond (leb len 512) (check_at (is_length network len) BadLength len bytes) (Err TooLong) in
    Reads-then (address_field compact) (λ len. sequence (check (leb len 512) TooLong len) (λ short. check (is_length network short) BadLength short)) (map_fault_at in_address compact_at) right length_field (λ len.
    Reads-same (sequence (check (leb len 512) TooLong len) (λ short. check (is_length network short) BadLength short)) (then_at (check_at (leb len 512) TooLong len) (λ short. check_at (is_length network short) BadLength short)) (right len)
    (Reads-then (check (leb len 512) TooLong len) (λ short. check (is_length network short) BadLength short) (check_at (leb len 512) TooLong len) (λ short. check_at (is_length network short) BadLength short) (Reads-check (leb len 512) TooLong len) (λ short. Reads-check (is_length network short) BadLength short))
    (λ bytes. check-then (leb len 512) TooLong len (λ short. check_at (is_length network short) BadLength short) bytes))

pub Reads-address : Reads addrv2_address address_at
unfolding addrv2_address address_at
Reads-address =
    Reads-then (address_field byte) (λ id. sequence (address_length (network_of id)) (λ len. sequence (address_field (some_bytes len)) (λ bytes. value (address_of (network_of id) bytes))))
    (map_fault_at in_address byte_at) (λ id bytes. length_at (network_of id) bytes >>= λ len. map_fault_at in_address (bytes_at len.0) len.1 >>= λ part. Ok (address_of (network_of id) part.0, part.1))
    byte_field (λ id.
    Reads-then (address_length (network_of id)) (λ len. sequence (address_field (some_bytes len)) (λ bytes. value (address_of (network_of id) bytes)))
    (length_at (network_of id)) (λ len bytes. map_fault_at in_address (bytes_at len) bytes >>= λ part. Ok (address_of (network_of id) part.0, part.1))
    (Reads-length (network_of id)) (λ len.
    Reads-then (address_field (some_bytes len)) (λ bytes. value (address_of (network_of id) bytes)) (map_fault_at in_address (bytes_at len)) (λ part. value_at (address_of (network_of id) part)) (bytes_field len) (λ part. Reads-value (address_of (network_of id) part))))

-- ---- writing

-- bytes that begin with no prefix are an IPv6 address
not_old : (a b c : Bool) (x y z w : Address) → (a || b || c) ≡ false → cond a x (cond b y (cond c z w)) ≡ w
not_old true b c x y z w e = absurd cc
not_old false true c x y z w e = absurd cc
not_old false false true x y z w e = absurd cc
not_old false false false x y z w e = refl

pub own_ipv6 : (bytes : List ℕ) → is_old_form bytes ≡ false → from_v1 bytes ≡ address Ipv6 bytes
own_ipv6 bytes e = not_old (begins_with bytes mapped_prefix) (begins_with bytes internal_prefix) (begins_with bytes torv2_prefix) _ _ _ _ e

-- neither of two
not_embedded : (a b c : Bool) → (a || b || c) ≡ false → (a || c) ≡ false
not_embedded true b c e = absurd cc
not_embedded false true c e = absurd cc
not_embedded false false true e = absurd cc
not_embedded false false false e = refl

-- what is written of an address is read as the address
record IsWritten (a : Address) (network : Option Net) (bytes : List ℕ) : Type 0 where
  right : is_length network (length bytes) ≡ true
  short : length bytes ≤ 512
  back : address_of network bytes ≡ Some a

unless : (b : Bool) (a : Address) → b ≡ false → cond b None (Some a) ≡ Some a
unless b a e = rw e refl

written_by : (net : Net) (bytes : List ℕ) → IsAddress (address net bytes) → IsWritten (address net bytes) (network_of (id_of net)) (prefix_of net ++ bytes)
written_by Unroutable bytes h = absurd (h.network refl)
written_by Ipv4 bytes h = let long : length bytes ≡ 4 = h.length in record { right = eq-eqb _ _ long; short = omega arith; back = refl }
written_by Ipv6 bytes h =
    let long : length bytes ≡ 16 = h.length in
    let own = h.own_form refl in
    record {
      right = eq-eqb _ _ long;
      short = omega arith;
      back = unless _ (from_v1 bytes) (not_embedded (begins_with bytes mapped_prefix) (begins_with bytes internal_prefix) (begins_with bytes torv2_prefix) own) ∙ ap (λ (a : Address). Some a) (own_ipv6 bytes own);
    }
written_by Onion bytes h = let long : length bytes ≡ 32 = h.length in record { right = eq-eqb _ _ long; short = omega arith; back = refl }
written_by I2p bytes h = let long : length bytes ≡ 32 = h.length in record { right = eq-eqb _ _ long; short = omega arith; back = refl }
written_by Cjdns bytes h = let long : length bytes ≡ 16 = h.length in record { right = eq-eqb _ _ long; short = omega arith; back = refl }
written_by Internal bytes h =
    let long : length bytes ≡ 10 = h.length in
    let whole : length (internal_prefix ++ bytes) ≡ 16 = omega (arith, length-append internal_prefix bytes) in
    record { right = eq-eqb _ _ whole; short = omega arith; back = refl }

of_length : (network : Option Net) (n : ℕ) → is_length network n ≡ true → n ≤ 512 → (address_length network).spells (compact_size n) n
unfolding address_length
of_length network n right short =
    let last = spells-then (check (leb n 512) TooLong n) (λ len. check (is_length network len) BadLength len) [] [] n n (spells-check (leb n 512) TooLong n (le-leb _ _ short)) (spells-check (is_length network n) BadLength n right) in
    let first = spells-then (address_field compact) (λ len. sequence (check (leb len 512) TooLong len) (λ s. check (is_length network s) BadLength s)) (compact_size n) [] n n (spells-compact in_address n (omega arith)) last in
    subst (λ (t : List ℕ). (address_length network).spells t n) (append-nil (compact_size n)) first

pub spells-address : (a : Address) → IsAddress a → addrv2_address.spells (address_text a) (Some a)
unfolding addrv2_address address_text
spells-address a h =
    let id = id_of a.net in
    let bytes = prefix_of a.net ++ a.bytes in
    let n = length bytes in
    let is = written_by a.net a.bytes h in
    let made = address_of (network_of id) bytes in
    let last = spells-then (address_field (some_bytes n)) (λ part. value (address_of (network_of id) part)) bytes [] bytes made (spells-some_bytes in_address n bytes refl) (spells-value AddressFault made) in
    let second = spells-then (address_length (network_of id)) (λ len. sequence (address_field (some_bytes len)) (λ part. value (address_of (network_of id) part))) (compact_size n) (bytes ++ []) n made (of_length (network_of id) n is.right is.short) last in
    let first = spells-then (address_field byte) (λ i. sequence (address_length (network_of i)) (λ len. sequence (address_field (some_bytes len)) (λ part. value (address_of (network_of i) part)))) (id ∷ []) (compact_size n ++ (bytes ++ [])) id made (spells-byte in_address id) second in
    let regrouped : (id ∷ []) ++ (compact_size n ++ (bytes ++ [])) ≡ (id ∷ []) ++ compact_size n ++ prefix_of a.net ++ a.bytes = ap (λ (t : List ℕ). (id ∷ []) ++ (compact_size n ++ t)) (append-nil bytes) ∙ sym (append_assoc (id ∷ []) (compact_size n) bytes) ∙ sym (append_assoc ((id ∷ []) ++ compact_size n) (prefix_of a.net) a.bytes) in
    subst (λ (t : List ℕ). addrv2_address.spells t (Some a)) regrouped (subst (λ (o : Option Address). addrv2_address.spells ((id ∷ []) ++ (compact_size n ++ (bytes ++ []))) o) is.back first)
