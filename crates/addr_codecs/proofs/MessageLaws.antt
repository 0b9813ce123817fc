-- Both messages are read exactly as they are spelled, and each fault is the first.
use Rattle.std.proofs.Common.{◌≡◌, ◌≢◌, ℕ, cond, leb, List, Option, Some, Result, Ok, Err, sym, ap, ◌∙◌}
use Rattle.std.specs.Prelude.{option_map, IfOk, IfErr}
use Rattle.std.specs.Int.{w16, w32, w64, to_le_bytes, to_be_bytes, from_le_bytes, from_be_bytes}
use Rattle.net_addr.specs.OldForm.{from_v1}
use Rattle.net_addr.specs.declared.peer.Entry.{Entry}
use Rattle.wire_num.specs.declared.fault.WireFault.{WireFault}
use Rattle.wire_num.specs.Format.{Format, sequence, value, check, times, map_fault, HasFault}
use Rattle.wire_num.specs.Fields.{some_bytes, le, be, compact}
use Rattle.wire_num.specs.Readings.{◌>>=◌, bytes_at, le_at, be_at, compact_at, times_at, then_at, value_at, check_at, map_fault_at, all_of}
use Rattle.wire_num.proofs.ReadingLaws.{AreBytes, Reads, reads_all, Reads-then, Reads-value, Reads-check, Reads-times, Reads-map_fault, Reads-same, check-then}
use Rattle.wire_num.proofs.FieldLaws.{Reads-some_bytes, Reads-number, le32, le64, be16}
use Rattle.wire_num.proofs.CompactLaws.{Reads-compact}
use Rattle.addr_codecs.specs.declared.fault.MsgFault.{MsgFault}
use Rattle.addr_codecs.specs.declared.fault.MsgFault.TheVariants.{TooMany, Trailing, Memory}
use Rattle.addr_codecs.specs.declared.form.Form.{Form}
use Rattle.addr_codecs.specs.declared.form.Form.TheVariants.{Addr, Addrv2}
use Rattle.addr_codecs.specs.Faults.{UnlessMemory, of_wire, of_address}
use Rattle.addr_codecs.specs.Readings.{address_at}
use Rattle.addr_codecs.proofs.AddressLaws.{Reads-address}
use Rattle.addr_codecs.specs.Layout.{field, entry, addr_entry, addrv2_address, addrv2_entry, message, IsMessage, HasMessageFault}
use Rattle.addr_codecs.specs.Inside.{addr_entry_at, addrv2_entry_at, message_at, entry_at, GivesUnlessMemory}

abbrev field_at : {A : Type 0} → (List ℕ → Result (A × List ℕ) WireFault) → List ℕ → Result (A × List ℕ) MsgFault
field_at r bytes = map_fault_at of_wire r bytes

time_field : Reads (field (le w32)) (field_at (le_at w32))
time_field = Reads-map_fault of_wire (le w32) (le_at w32) (Reads-number w32 (to_le_bytes w32) (from_le_bytes w32) le32)

services_field : Reads (field (le w64)) (field_at (le_at w64))
services_field = Reads-map_fault of_wire (le w64) (le_at w64) (Reads-number w64 (to_le_bytes w64) (from_le_bytes w64) le64)

port_field : Reads (field (be w16)) (field_at (be_at w16))
port_field = Reads-map_fault of_wire (be w16) (be_at w16) (Reads-number w16 (to_be_bytes w16) (from_be_bytes w16) be16)

bytes_field : (n : ℕ) → Reads (field (some_bytes n)) (field_at (bytes_at n))
bytes_field n = Reads-map_fault of_wire (some_bytes n) (bytes_at n) (Reads-some_bytes n)

compact_field : Reads (field compact) (field_at compact_at)
compact_field = Reads-map_fault of_wire compact compact_at Reads-compact

pub Reads-addr_entry : Reads addr_entry addr_entry_at
unfolding addr_entry addr_entry_at
Reads-addr_entry =
    Reads-then (field (le w32)) (λ time. sequence (field (le w64)) (λ services. sequence (field (some_bytes 16)) (λ old. sequence (field (be w16)) (λ port. value (Some (entry time services port (from_v1 old)))))))
    (field_at (le_at w32)) (λ time bytes. field_at (le_at w64) bytes >>= λ services. field_at (bytes_at 16) services.1 >>= λ old. field_at (be_at w16) old.1 >>= λ port. Ok (Some (entry time services.0 port.0 (from_v1 old.0)), port.1))
    time_field (λ time.
    Reads-then (field (le w64)) (λ services. sequence (field (some_bytes 16)) (λ old. sequence (field (be w16)) (λ port. value (Some (entry time services port (from_v1 old))))))
    (field_at (le_at w64)) (λ services bytes. field_at (bytes_at 16) bytes >>= λ old. field_at (be_at w16) old.1 >>= λ port. Ok (Some (entry time services port.0 (from_v1 old.0)), port.1))
    services_field (λ services.
    Reads-then (field (some_bytes 16)) (λ old. sequence (field (be w16)) (λ port. value (Some (entry time services port (from_v1 old)))))
    (field_at (bytes_at 16)) (λ old bytes. field_at (be_at w16) bytes >>= λ port. Ok (Some (entry time services port.0 (from_v1 old)), port.1))
    (bytes_field 16) (λ old.
    Reads-then (field (be w16)) (λ port. value (Some (entry time services port (from_v1 old)))) (field_at (be_at w16)) (λ port. value_at (Some (entry time services port (from_v1 old)))) port_field (λ port. Reads-value (Some (entry time services port (from_v1 old)))))))

address_part : Reads (map_fault of_address addrv2_address) (map_fault_at of_address address_at)
address_part = Reads-map_fault of_address addrv2_address address_at Reads-address

pub Reads-addrv2_entry : Reads addrv2_entry addrv2_entry_at
unfolding addrv2_entry addrv2_entry_at
Reads-addrv2_entry =
    Reads-then (field (le w32)) (λ time. sequence (field compact) (λ services. sequence (map_fault of_address addrv2_address) (λ addr. sequence (field (be w16)) (λ port. value (option_map (entry time services port) addr)))))
    (field_at (le_at w32)) (λ time bytes. field_at compact_at bytes >>= λ services. map_fault_at of_address address_at services.1 >>= λ addr. field_at (be_at w16) addr.1 >>= λ port. Ok (option_map (entry time services.0 port.0) addr.0, port.1))
    time_field (λ time.
    Reads-then (field compact) (λ services. sequence (map_fault of_address addrv2_address) (λ addr. sequence (field (be w16)) (λ port. value (option_map (entry time services port) addr))))
    (field_at compact_at) (λ services bytes. map_fault_at of_address address_at bytes >>= λ addr. field_at (be_at w16) addr.1 >>= λ port. Ok (option_map (entry time services port.0) addr.0, port.1))
    compact_field (λ services.
    Reads-then (map_fault of_address addrv2_address) (λ addr. sequence (field (be w16)) (λ port. value (option_map (entry time services port) addr)))
    (map_fault_at of_address address_at) (λ addr bytes. field_at (be_at w16) bytes >>= λ port. Ok (option_map (entry time services port.0) addr, port.1))
    address_part (λ addr.
    Reads-then (field (be w16)) (λ port. value (option_map (entry time services port) addr)) (field_at (be_at w16)) (λ port. value_at (option_map (entry time services port) addr)) port_field (λ port. Reads-value (option_map (entry time services port) addr)))))

pub Reads-message : (p : Format MsgFault (Option Entry)) (r : List ℕ → Result (Option Entry × List ℕ) MsgFault) → Reads p r → Reads (message p) (message_at r)
unfolding message message_at
Reads-message p r h =
    let counted = λ (n : ℕ) (bytes : List ℕ). cond (leb n 1000) (times_at 0 n (λ _. r) bytes) (Err TooMany) in
    Reads-then (field compact) (λ n. sequence (check (leb n 1000) TooMany n) (λ count. times 0 count (λ _. p))) (field_at compact_at) counted compact_field (λ n.
    Reads-same (sequence (check (leb n 1000) TooMany n) (λ count. times 0 count (λ _. p))) (then_at (check_at (leb n 1000) TooMany n) (λ count. times_at 0 count (λ _. r))) (counted n)
    (Reads-then (check (leb n 1000) TooMany n) (λ count. times 0 count (λ _. p)) (check_at (leb n 1000) TooMany n) (λ count. times_at 0 count (λ _. r)) (Reads-check (leb n 1000) TooMany n) (λ count. Reads-times 0 count (λ _. p) (λ _. r) (λ _. h)))
    (λ bytes. check-then (leb n 1000) TooMany n (λ count. times_at 0 count (λ _. r)) bytes))

-- ---- the answers of a reader

-- what a reader of one form answers about the bytes
pub record IsAnswer (p : Format MsgFault (Option Entry)) (bytes : List ℕ) (answer : Result (List (Option Entry)) MsgFault) : Type 0 where
  pub found : IfOk answer (λ es. (message p).spells bytes es)
  pub only : (es : List (Option Entry)) → (message p).spells bytes es → answer ≢ Err Memory → answer ≡ Ok es
  pub cause : IfErr answer (λ f. f ≢ Memory → HasFault (message p) Trailing bytes f)
  pub first : (f : MsgFault) → HasFault (message p) Trailing bytes f → answer ≢ Err Memory → answer ≡ Err f

abbrev entries : List (Option Entry) → Result (List (Option Entry)) MsgFault
entries es = Ok es

abbrev fault : MsgFault → Result (List (Option Entry)) MsgFault
fault f = Err f

pub answers : (p : Format MsgFault (Option Entry)) (r : List ℕ → Result (Option Entry × List ℕ) MsgFault) → Reads p r → (bytes : List ℕ) → AreBytes bytes → (answer : Result (List (Option Entry)) MsgFault)
    → GivesUnlessMemory (λ es. es) answer (all_of (message_at r) Trailing bytes) → IsAnswer p bytes answer
answers p r h bytes fits (Ok es) given =
    let all = reads_all (message p) Trailing (message_at r) bytes (Reads-message p r h) fits in
    record {
      found = all.found es given;
      only = λ others spelled _. sym given ∙ all.only others spelled;
      cause = tt;
      first = λ f has _. sym given ∙ all.first f has;
    }
answers p r h bytes fits (Err e) given =
    let all = reads_all (message p) Trailing (message_at r) bytes (Reads-message p r h) fits in
    let own = λ (answered : fault e ≢ Err Memory) (same : e ≡ Memory). answered (ap fault same) in
    record {
      found = tt;
      only = λ es spelled answered. sym (given (own answered)) ∙ all.only es spelled;
      cause = λ other. all.cause e (given other);
      first = λ f has answered. sym (given (own answered)) ∙ all.first f has;
    }

-- what a reader answers about the bytes of a form
pub record IsAnswerIn (form : Form) (bytes : List ℕ) (answer : Result (List (Option Entry)) MsgFault) : Type 0 where
  pub found : IfOk answer (λ es. IsMessage form bytes es)
  pub only : (es : List (Option Entry)) → IsMessage form bytes es → UnlessMemory answer (Ok es)
  pub cause : IfErr answer (λ f. f ≢ Memory → HasMessageFault form bytes f)
  pub first : (f : MsgFault) → HasMessageFault form bytes f → UnlessMemory answer (Err f)

pub answers_in : (form : Form) (bytes : List ℕ) (answer : Result (List (Option Entry)) MsgFault) → AreBytes bytes
    → GivesUnlessMemory (λ es. es) answer (all_of (message_at (entry_at form)) Trailing bytes) → IsAnswerIn form bytes answer
answers_in Addr bytes answer fits given =
    let is = answers addr_entry addr_entry_at Reads-addr_entry bytes fits answer given in
    record { found = is.found; only = is.only; cause = is.cause; first = is.first }
answers_in Addrv2 bytes answer fits given =
    let is = answers addrv2_entry addrv2_entry_at Reads-addrv2_entry bytes fits answer given in
    record { found = is.found; only = is.only; cause = is.cause; first = is.first }
