-- What is written is a message of the entries that were written.
use Rattle.std.proofs.Common.{◌≡◌, ◌⊎◌, ℕ, ◌+◌, ◌≤◌, ◌<◌, leb, List, [], ◌∷◌, ◌++◌, length, get_or, take, map, Option, Some, All, refl, sym, ap, subst, ◌∙◌, append_assoc, inl, inr, arith}
use Rattle.std.specs.Prelude.{unwrap_or, option_map, Result, Ok, Err, IfOk, OnOk}
use Rattle.std.specs.List.{flat_map}
use Rattle.std.specs.Int.{w16, w32, w64, to_le_bytes, to_be_bytes}
use Rattle.std.proofs.lemmas.Bool.{le-leb}
use Rattle.std.proofs.lemmas.List.{take_more, take_all, flat_map_more}
use Rattle.std.proofs.lemmas.List.Elements.{recursion_from_All, All-more}
use Rattle.net_addr.specs.Address.{Address, IsAddress}
use Rattle.net_addr.specs.OldForm.{address, from_v1, v1_bytes}
use Rattle.net_addr.specs.declared.peer.Entry.{Entry}
use Rattle.net_addr.specs.declared.net.Net.{Net}
use Rattle.net_addr.specs.declared.net.Net.TheVariants.{Unroutable, Ipv4, Ipv6, Onion, I2p, Cjdns, Internal}
use Rattle.wire_num.specs.CompactSize.{compact_size}
use Rattle.wire_num.specs.Format.{Format, sequence, value, check, times, map_fault}
use Rattle.wire_num.specs.Fields.{some_bytes, le, be, compact}
use Rattle.addr_codecs.specs.declared.fault.MsgFault.{MsgFault}
use Rattle.addr_codecs.specs.declared.fault.MsgFault.TheVariants.{TooMany}
use Rattle.addr_codecs.specs.Entries.{IsEntry}
use Rattle.addr_codecs.specs.Faults.{of_wire, of_address}
use Rattle.addr_codecs.proofs.AddressLaws.{own_ipv6, spells-address}
use Rattle.wire_num.proofs.WritingLaws.{spells-then, spells-value, spells-check, spells-map_fault, spells-number, spells-compact, spells-some_bytes, spells-times}
use Rattle.addr_codecs.specs.Layout.{field, entry, addr_entry, addrv2_address, addrv2_entry, message}
use Rattle.addr_codecs.specs.Texts.{addr_entry_text, addrv2_entry_text, address_text, message_text}

pub of_message : (p : Format MsgFault (Option Entry)) (text : Entry → List ℕ) (P : Entry → Type 0) → ((e : Entry) → P e → p.spells (text e) (Some e)) → (es : List Entry) → length es ≤ 1000 → All P es → (message p).spells (message_text text es) (map Some es)
unfolding message
of_message p text P spelled es few all =
    let entries = spells-times 0 (λ _. p) text Some P (λ _. spelled) es (recursion_from_All P es all) in
    spells-then (field compact) (λ n. sequence (check (leb n 1000) TooMany n) (λ count. times 0 count (λ _. p))) (compact_size (length es)) (flat_map text es) (length es) (map Some es) (spells-compact of_wire (length es) (omega arith))
    (spells-then (check (leb (length es) 1000) TooMany (length es)) (λ count. times 0 count (λ _. p)) [] (flat_map text es) (length es) (map Some es) (spells-check (leb (length es) 1000) TooMany (length es) (le-leb _ _ few)) entries)

-- ---- addresses

-- an address of `addr` in the old form, and back
record IsOldForm (a : Address) (old : List ℕ) : Type 0 where
  long : length old ≡ 16
  back : from_v1 old ≡ a

old_by : (net : Net) (bytes : List ℕ) → (net ≡ Ipv4) ⊎ (net ≡ Ipv6) → IsAddress (address net bytes) → IsOldForm (address net bytes) (unwrap_or (v1_bytes (address net bytes)) [])
old_by Ipv4 bytes own h = record { long = omega (arith, h.length); back = refl }
old_by Ipv6 bytes own h = record { long = h.length; back = own_ipv6 bytes (h.own_form refl) }
old_by Unroutable bytes (inl own) h = absurd (h.network refl)
old_by Unroutable bytes (inr own) h = absurd (h.network refl)
old_by Onion bytes (inl own) h = absurd cc
old_by Onion bytes (inr own) h = absurd cc
old_by I2p bytes (inl own) h = absurd cc
old_by I2p bytes (inr own) h = absurd cc
old_by Cjdns bytes (inl own) h = absurd cc
old_by Cjdns bytes (inr own) h = absurd cc
old_by Internal bytes (inl own) h = absurd cc
old_by Internal bytes (inr own) h = absurd cc

-- ---- an entry of `addr`

pub record FitsAddr (e : Entry) : Type 0 where
  pub fit : IsEntry e
  pub network : (e.peer.addr.net ≡ Ipv4) ⊎ (e.peer.addr.net ≡ Ipv6)

pub of_addr_entry : (e : Entry) → FitsAddr e → addr_entry.spells (addr_entry_text e) (Some e)
unfolding addr_entry addr_entry_text
of_addr_entry e h =
    let time = e.time in
    let services = e.services in
    let port = e.peer.port in
    let old = unwrap_or (v1_bytes e.peer.addr) [] in
    let is_old = old_by e.peer.addr.net e.peer.addr.bytes h.network h.fit.addr in
    let made = entry time services port (from_v1 old) in
    let last = spells-then (field (be w16)) (λ p. value (Some (entry time services p (from_v1 old)))) (to_be_bytes w16 port) [] port (Some made) (spells-number of_wire w16 (to_be_bytes w16) port h.fit.port) (spells-value MsgFault (Some made)) in
    let third = spells-then (field (some_bytes 16)) (λ o. sequence (field (be w16)) (λ p. value (Some (entry time services p (from_v1 o))))) old (to_be_bytes w16 port ++ []) old (Some made) (spells-some_bytes of_wire 16 old is_old.long) last in
    let second = spells-then (field (le w64)) (λ s. sequence (field (some_bytes 16)) (λ o. sequence (field (be w16)) (λ p. value (Some (entry time s p (from_v1 o)))))) (to_le_bytes w64 services) (old ++ (to_be_bytes w16 port ++ [])) services (Some made) (spells-number of_wire w64 (to_le_bytes w64) services h.fit.services) third in
    let first = spells-then (field (le w32)) (λ t. sequence (field (le w64)) (λ s. sequence (field (some_bytes 16)) (λ o. sequence (field (be w16)) (λ p. value (Some (entry t s p (from_v1 o)))))))
    (to_le_bytes w32 time) (to_le_bytes w64 services ++ (old ++ (to_be_bytes w16 port ++ []))) time (Some made) (spells-number of_wire w32 (to_le_bytes w32) time h.fit.time) second in
    let regrouped : to_le_bytes w32 time ++ (to_le_bytes w64 services ++ (old ++ (to_be_bytes w16 port ++ []))) ≡ to_le_bytes w32 time ++ to_le_bytes w64 services ++ old ++ to_be_bytes w16 port = simp append_assoc in
    subst (λ (t : List ℕ). addr_entry.spells t (Some e)) regrouped (subst (λ (a : Address). addr_entry.spells (to_le_bytes w32 time ++ (to_le_bytes w64 services ++ (old ++ (to_be_bytes w16 port ++ [])))) (Some (entry time services port a))) is_old.back first)

-- ---- an entry of `addrv2`

pub of_addrv2_entry : (e : Entry) → IsEntry e → addrv2_entry.spells (addrv2_entry_text e) (Some e)
unfolding addrv2_entry addrv2_entry_text
of_addrv2_entry e h =
    let time = e.time in
    let services = e.services in
    let port = e.peer.port in
    let addr = e.peer.addr in
    let last = spells-then (field (be w16)) (λ p. value (option_map (entry time services p) (Some addr))) (to_be_bytes w16 port) [] port (Some e) (spells-number of_wire w16 (to_be_bytes w16) port h.port) (spells-value MsgFault (Some e)) in
    let third = spells-then (map_fault of_address addrv2_address) (λ a. sequence (field (be w16)) (λ p. value (option_map (entry time services p) a))) (address_text addr) (to_be_bytes w16 port ++ []) (Some addr) (Some e) (spells-map_fault of_address addrv2_address (address_text addr) (Some addr) (spells-address addr h.addr)) last in
    let second = spells-then (field compact) (λ s. sequence (map_fault of_address addrv2_address) (λ a. sequence (field (be w16)) (λ p. value (option_map (entry time s p) a)))) (compact_size services) (address_text addr ++ (to_be_bytes w16 port ++ [])) services (Some e) (spells-compact of_wire services h.services) third in
    let first = spells-then (field (le w32)) (λ t. sequence (field compact) (λ s. sequence (map_fault of_address addrv2_address) (λ a. sequence (field (be w16)) (λ p. value (option_map (entry t s p) a)))))
    (to_le_bytes w32 time) (compact_size services ++ (address_text addr ++ (to_be_bytes w16 port ++ []))) time (Some e) (spells-number of_wire w32 (to_le_bytes w32) time h.time) second in
    let regrouped : to_le_bytes w32 time ++ (compact_size services ++ (address_text addr ++ (to_be_bytes w16 port ++ []))) ≡ to_le_bytes w32 time ++ compact_size services ++ address_text addr ++ to_be_bytes w16 port = simp append_assoc in
    subst (λ (t : List ℕ). addrv2_entry.spells t (Some e)) regrouped first

-- ---- one more entry is written

pub one_more : (text : Entry → List ℕ) (head : List ℕ) (es : List Entry) (i : ℕ) (e : Entry) (old new : List ℕ) → i < length es → e ≡ get_or es i e → old ≡ head ++ flat_map text (take i es) → new ≡ old ++ text e
    → new ≡ head ++ flat_map text (take (i + 1) es)
one_more text head es i e old new lt is so_far more =
    let taken : take (i + 1) es ≡ take i es ++ e ∷ [] = take_more es i e lt ∙ ap (λ (x : Entry). take i es ++ x ∷ []) (sym is) in
    more ∙ ap (λ (t : List ℕ). t ++ text e) so_far ∙ flat_map_more text head (take i es) e ∙ ap (λ (xs : List Entry). head ++ flat_map text xs) (sym taken)

pub one_more_fits : (P : Entry → Type 0) (es : List Entry) (i : ℕ) (e : Entry) → i < length es → e ≡ get_or es i e → All P (take i es) → P e → All P (take (i + 1) es)
one_more_fits P es i e lt is so_far h = All-more P es i e lt so_far (subst P is h)

pub all_written : (text : Entry → List ℕ) (head : List ℕ) (es : List Entry) (i : ℕ) (out : List ℕ) → length es ≤ i → out ≡ head ++ flat_map text (take i es) → out ≡ head ++ flat_map text es
all_written text head es i out le so_far = so_far ∙ ap (λ (xs : List Entry). head ++ flat_map text xs) (take_all i es le)

pub all_fit : (P : Entry → Type 0) (es : List Entry) (i : ℕ) → length es ≤ i → All P (take i es) → All P es
all_fit P es i le h = subst (λ (xs : List Entry). All P xs) (take_all i es le) h

pub addr_written : (es : List Entry) → length es ≤ 1000 → All IsEntry es → All (λ e. (e.peer.addr.net ≡ Ipv4) ⊎ (e.peer.addr.net ≡ Ipv6)) es → (message addr_entry).spells (message_text addr_entry_text es) (map Some es)
addr_written es few fit networks = of_message addr_entry addr_entry_text FitsAddr of_addr_entry es few (λ k d lt. record { fit = fit k d lt; network = networks k d lt })

pub addrv2_written : (es : List Entry) → length es ≤ 1000 → All IsEntry es → (message addrv2_entry).spells (message_text addrv2_entry_text es) (map Some es)
addrv2_written es few fit = of_message addrv2_entry addrv2_entry_text IsEntry of_addrv2_entry es few fit

-- a message that is written is read back
pub reads_back : {Z E : Type 0} {text : List ℕ} (P : List ℕ → Type 0) (o : Result (List ℕ) E) → IfOk o (λ bytes. bytes ≡ text) → OnOk o Z → (Z → P text) → IfOk o P
reads_back P (Ok bytes) is fit reads = subst P (sym is) (reads fit)
reads_back P (Err e) is fit reads = tt

pub four_parts : (old a b c d x y z new : List ℕ) → x ≡ old ++ a → y ≡ x ++ b → z ≡ y ++ c → new ≡ z ++ d → new ≡ old ++ (a ++ b ++ c ++ d)
four_parts old a b c d x y z new p q r s = s ∙ ap (λ (t : List ℕ). t ++ d) (r ∙ ap (λ (t : List ℕ). t ++ c) (q ∙ ap (λ (t : List ℕ). t ++ b) p)) ∙ simp append_assoc
