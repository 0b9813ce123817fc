-- What a message spells fits its fields: numbers have their widths, and addresses are addresses.
use Rattle.std.proofs.Common.{◌≡◌, ◌≢◌, ℕ, zero, suc, ◌+◌, ◌<◌, ◌≤◌, ◌^◌, ◌==◌, Bool, true, false, List, ◌++◌, length, get_or, Contains, Option, Some, None, refl, sym, ap, subst, ◌∙◌, arith, lit<, ⊎_elim, if◌then◌else◌}
use Rattle.std.specs.Prelude.{IfSome, option_map}
use Rattle.std.proofs.lemmas.Bool.{cases_lt, eqb-true, leb-true}
use Rattle.std.proofs.lemmas.List.{get_or_append_left, get_or_past}
use Rattle.net_addr.specs.Address.{Address, IsAddress}
use Rattle.net_addr.specs.OldForm.{from_v1}
use Rattle.net_addr.specs.declared.peer.Entry.{Entry}
use Rattle.net_addr.specs.declared.net.Net.{Net}
use Rattle.net_addr.specs.declared.net.Net.TheVariants.{Unroutable, Ipv4, Ipv6, Onion, I2p, Cjdns, Internal}
use Rattle.net_addr.proofs.Bytes.{All_bytes, IsAddress-from_v1, IsAddress-plain}
use Rattle.wire_num.specs.Format.{Format, check, sequence, times, map_fault, value}
use Rattle.wire_num.specs.Fields.{byte, compact, number, some_bytes}
use Rattle.wire_num.proofs.ReadingLaws.{AreBytes, AreBytes-rest}
use Rattle.addr_codecs.specs.Entries.{IsEntry}
use Rattle.addr_codecs.specs.Layout.{addr_entry, address_length, addrv2_address, addrv2_entry, entry, message, IsAddrMessage, IsAddrv2Message}
use Rattle.addr_codecs.specs.Network.{address_of, is_embedded, is_length, network_of}
use Rattle.addr_codecs.specs.declared.fault.MsgFault.{MsgFault}
use Rattle.table_machine.proofs.Lists.{Contains-cases, none_in_nil}

AreBytes-first : (bytes front rest : List ℕ) → AreBytes bytes → bytes ≡ front ++ rest → AreBytes front
AreBytes-first bytes front rest fits e i =
    ⊎_elim (λ lt. subst (λ (n : ℕ). n < 256) (ap (λ (xs : List ℕ). get_or xs i 0) e ∙ get_or_append_left front rest 0 i lt) (fits i))
    (λ le. subst (λ (n : ℕ). n < 256) (sym (get_or_past front i 0 le)) (lit< tt)) (cases_lt i (length front))

-- an address that has the bytes of one
abbrev OfAddress : Option Address → Type 0
OfAddress o = IfSome o IsAddress

ipv6-address : (embedded : Bool) (bytes : List ℕ) → length bytes ≡ 16 → AreBytes bytes → OfAddress (if embedded then None else Some (from_v1 bytes))
ipv6-address true bytes long fits = tt
ipv6-address false bytes long fits = IsAddress-from_v1 bytes long (All_bytes bytes fits)

by-network : (network : Option Net) (bytes : List ℕ) → IfSome network (λ net. net ≢ Unroutable) → is_length network (length bytes) ≡ true → AreBytes bytes → OfAddress (address_of network bytes)
by-network None bytes known long fits = tt
by-network (Some Unroutable) bytes known long fits = absurd (known refl)
by-network (Some Ipv4) bytes known long fits = IsAddress-plain Ipv4 bytes known (λ e. cc) (eqb-true (length bytes) 4 long) (All_bytes bytes fits)
by-network (Some Ipv6) bytes known long fits = ipv6-address (is_embedded bytes) bytes (eqb-true (length bytes) 16 long) fits
by-network (Some Onion) bytes known long fits = IsAddress-plain Onion bytes known (λ e. cc) (eqb-true (length bytes) 32 long) (All_bytes bytes fits)
by-network (Some I2p) bytes known long fits = IsAddress-plain I2p bytes known (λ e. cc) (eqb-true (length bytes) 32 long) (All_bytes bytes fits)
by-network (Some Cjdns) bytes known long fits = IsAddress-plain Cjdns bytes known (λ e. cc) (eqb-true (length bytes) 16 long) (All_bytes bytes fits)
by-network (Some Internal) bytes known long fits = IsAddress-plain Internal bytes known (λ e. cc) (eqb-true (length bytes) 10 long) (All_bytes bytes fits)

known-network : (id : ℕ) → IfSome (network_of id) (λ net. net ≢ Unroutable)
known-network id = by (id == 1) (id == 2) (id == 4) (id == 5) (id == 6)
  where
    by : (a b c d e : Bool) → IfSome (if a then Some Ipv4 else if b then Some Ipv6 else if c then Some Onion else if d then Some I2p else if e then Some Cjdns else None) (λ net. net ≢ Unroutable)
    by true b c d e = λ is. cc
    by false true c d e = λ is. cc
    by false false true d e = λ is. cc
    by false false false true e = λ is. cc
    by false false false false true = λ is. cc
    by false false false false false = tt

right-length : (network : Option Net) (bytes : List ℕ) (len : ℕ) → (address_length network).spells bytes len → is_length network len ≡ true
unfolding address_length sequence check map_fault compact
right-length network bytes len h =
    let short = h.3 in
    let passes = short.3 in
    subst (λ n. is_length network n ≡ true) (passes.2) passes.0

address-fits : (bytes : List ℕ) (o : Option Address) → AreBytes bytes → addrv2_address.spells bytes o → OfAddress o
unfolding addrv2_address sequence check map_fault some_bytes byte value
address-fits bytes o fits h =
    let after_id = AreBytes-rest bytes h.2.front h.1 fits h.2.joined in
    let sized = h.3 in
    let after_length = AreBytes-rest h.1 sized.2.front sized.1 after_id sized.2.joined in
    let taken = sized.3 in
    let own = AreBytes-first sized.1 taken.2.front taken.1 after_length taken.2.joined in
    let long = right-length (network_of h.0) sized.2.front sized.0 sized.2.spelled in
    let same = taken.2.spelled.1 in
    let is : is_length (network_of h.0) (length taken.0) ≡ true = subst (λ n. is_length (network_of h.0) n ≡ true) (sym taken.2.spelled.0 ∙ ap length same) long in
    subst OfAddress taken.3.1 (by-network (network_of h.0) taken.0 (known-network h.0) is (subst AreBytes same own))

-- an entry that fits, unless it is skipped
abbrev OfEntry : Option Entry → Type 0
OfEntry o = IfSome o IsEntry

addr-fits : (bytes : List ℕ) (o : Option Entry) → AreBytes bytes → addr_entry.spells bytes o → OfEntry o
unfolding addr_entry sequence map_fault number some_bytes value
addr-fits bytes o fits h =
    let services = h.3 in
    let old = services.3 in
    let port = old.3 in
    let one = AreBytes-rest bytes h.2.front h.1 fits h.2.joined in
    let two = AreBytes-rest h.1 services.2.front services.1 one services.2.joined in
    let own = AreBytes-first services.1 old.2.front old.1 two old.2.joined in
    let time_is = h.2.spelled.0 in
    let services_are = services.2.spelled.0 in
    let port_is = port.2.spelled.0 in
    let long = sym (ap length old.2.spelled.1) ∙ old.2.spelled.0 in
    subst OfEntry port.3.1 record {
      time = omega (arith, time_is);
      services = omega (arith, services_are);
      addr = IsAddress-from_v1 old.0 long (All_bytes old.0 (subst AreBytes old.2.spelled.1 own));
      port = omega (arith, port_is);
    }

mapped-fits : (time services port : ℕ) (addr : Option Address) → time < 2 ^ 32 → services < 2 ^ 64 → port < 2 ^ 16 → OfAddress addr → OfEntry (option_map (entry time services port) addr)
mapped-fits time services port None t s p a = tt
mapped-fits time services port (Some addr) t s p a = record { time = t; services = s; addr = a; port = p }

addrv2-fits : (bytes : List ℕ) (o : Option Entry) → AreBytes bytes → addrv2_entry.spells bytes o → OfEntry o
unfolding addrv2_entry sequence map_fault number compact value
addrv2-fits bytes o fits h =
    let services = h.3 in
    let addr = services.3 in
    let port = addr.3 in
    let one = AreBytes-rest bytes h.2.front h.1 fits h.2.joined in
    let two = AreBytes-rest h.1 services.2.front services.1 one services.2.joined in
    let own = AreBytes-first services.1 addr.2.front addr.1 two addr.2.joined in
    let time_is = h.2.spelled.0 in
    let port_is = port.2.spelled.0 in
    subst OfEntry port.3.1
    (mapped-fits h.0 services.0 port.0 addr.0 (omega (arith, time_is)) services.2.spelled.0 (omega (arith, port_is)) (address-fits addr.2.front addr.0 own addr.2.spelled))

-- so many entries, and each fits
abbrev pub AreFit : ℕ → List (Option Entry) → Type 0
AreFit n entries = (length entries ≡ n) × ((e : Entry) → Contains entries (Some e) → IsEntry e)

module _ (p : Format MsgFault (Option Entry)) (each : (bytes : List ℕ) (o : Option Entry) → AreBytes bytes → p.spells bytes o → OfEntry o) where
  times-fit : (i n : ℕ) (bytes : List ℕ) (entries : List (Option Entry)) → AreBytes bytes → (times i n (λ _. p)).spells bytes entries → AreFit n entries
  unfolding times sequence value
  times-fit i zero bytes entries fits h = subst (AreFit 0) h.1 (refl, λ e c. absurd (none_in_nil (Some e) c))
  times-fit i (suc n) bytes entries fits h =
      let more = h.3 in
      let own = AreBytes-first bytes h.2.front h.1 fits h.2.joined in
      let after = AreBytes-rest bytes h.2.front h.1 fits h.2.joined in
      let rest = times-fit (i + 1) n more.2.front more.0 (AreBytes-first h.1 more.2.front more.1 after more.2.joined) more.2.spelled in
      let first = each h.2.front h.0 own h.2.spelled in
      subst (AreFit (suc n)) more.3.1
      (ap suc rest.0, λ e c. ⊎_elim (λ is. subst OfEntry is first) (rest.1 e) (Contains-cases h.0 more.0 (Some e) c))

  message-fits : (bytes : List ℕ) (entries : List (Option Entry)) → AreBytes bytes → (message p).spells bytes entries
      → (length entries ≤ 1000) × ((e : Entry) → Contains entries (Some e) → IsEntry e)
  unfolding message sequence check
  message-fits bytes entries fits h =
      let counted = h.3 in
      let passes = counted.2.spelled in
      let one = AreBytes-rest bytes h.2.front h.1 fits h.2.joined in
      let two = AreBytes-rest h.1 counted.2.front counted.1 one counted.2.joined in
      let all = times-fit 0 counted.0 counted.1 entries two counted.3 in
      let few = leb-true h.0 1000 passes.0 in
      let same = passes.2 in
      let many = all.0 in
      (omega (arith, few, same, many), all.1)

pub addr_message-fits : (bytes : List ℕ) (entries : List (Option Entry)) → AreBytes bytes → IsAddrMessage bytes entries
    → (length entries ≤ 1000) × ((e : Entry) → Contains entries (Some e) → IsEntry e)
addr_message-fits = message-fits addr_entry addr-fits

pub addrv2_message-fits : (bytes : List ℕ) (entries : List (Option Entry)) → AreBytes bytes → IsAddrv2Message bytes entries
    → (length entries ≤ 1000) × ((e : Entry) → Contains entries (Some e) → IsEntry e)
addrv2_message-fits = message-fits addrv2_entry addrv2-fits
