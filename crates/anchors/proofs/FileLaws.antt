-- A file is read exactly as it is laid out, and has one meaning.
use Rattle.std.proofs.Common.{◌≡◌, ℕ, ◌-◌, ◌≢◌, List, length, take, drop, Option, Some, None, Result, Ok, Err, refl, sym, ap, ◌∙◌, inl, inr, ⊎_elim}
use Rattle.std.proofs.lemmas.List.{take-append-drop}
use Rattle.std.specs.Prelude.{IfOk, IfErr}
use Rattle.std.specs.Int.{w16, w32, to_le_bytes, to_be_bytes, from_le_bytes, from_be_bytes}
use Rattle.net_addr.specs.declared.peer.Entry.{Entry}
use Rattle.wire_num.specs.Format as wire
use Rattle.wire_num.specs.Format.{map_fault}
use Rattle.wire_num.specs.Fields.{le, be, compact}
use Rattle.wire_num.specs.Readings.{all_of, map_fault_at, le_at, be_at, compact_at}
use Rattle.wire_num.proofs.ReadingLaws.{AreBytes, AreBytes-rest, Reads, reads_next, Reads-value, Reads-check, Reads-times, Reads-map_fault, reads_all, one_meaning}
use Rattle.wire_num.proofs.FieldLaws.{Reads-number, le32, be16, AreBytes-take}
use Rattle.wire_num.proofs.CompactLaws.{Reads-compact}
use Rattle.addr_codecs.specs.Layout.{addrv2_address}
use Rattle.addr_codecs.specs.Readings.{address_at}
use Rattle.addr_codecs.proofs.AddressLaws.{Reads-address}
use Rattle.anchors.proofs.NoMemory.{never_read, never_whole}
use Rattle.anchors.specs.Faults.{of_address, of_count, of_number, UnlessMemory}
use Rattle.anchors.specs.declared.fault.AnchorsFault.{AnchorsFault}
use Rattle.anchors.specs.declared.fault.AnchorsFault.TheVariants.{Trailing, Memory}
use Rattle.anchors.specs.Layout.{layout_field, anchor_format, count_field, body, between, whole_fault, IsFile, HasFileFault, HasOneMeaning}
use Rattle.anchors.specs.Readings.{GivesUnlessMemory, layout_at, anchor_at, count_at, body_at}

number_field : (i : ℕ) → Reads (map_fault (of_number i) (le w32)) (map_fault_at (of_number i) (le_at w32))
number_field i = Reads-map_fault (of_number i) (le w32) (le_at w32) (Reads-number w32 (to_le_bytes w32) (from_le_bytes w32) le32)

port_field : (i : ℕ) → Reads (map_fault (of_number i) (be w16)) (map_fault_at (of_number i) (be_at w16))
port_field i = Reads-map_fault (of_number i) (be w16) (be_at w16) (Reads-number w16 (to_be_bytes w16) (from_be_bytes w16) be16)

services_field : (i : ℕ) → Reads (map_fault (of_number i) compact) (map_fault_at (of_number i) compact_at)
services_field i = Reads-map_fault (of_number i) compact compact_at Reads-compact

address_field : (i : ℕ) → Reads (map_fault (of_address i) addrv2_address) (map_fault_at (of_address i) address_at)
address_field i = Reads-map_fault (of_address i) addrv2_address address_at Reads-address

Reads-layout : (i : ℕ) → Reads (layout_field i) (layout_at i)
unfolding layout_field layout_at
Reads-layout i = reads_next (number_field i) (λ n. Reads-check _ _ n)

Reads-anchor : (i : ℕ) → Reads (anchor_format i) (anchor_at i)
unfolding anchor_format anchor_at
Reads-anchor i =
    reads_next (Reads-layout i) (λ _. reads_next (number_field i) (λ time. reads_next (services_field i) (λ services. reads_next (address_field i) (λ addr.
    reads_next (port_field i) (λ port. Reads-value _)))))

Reads-count : Reads count_field count_at
unfolding count_field count_at
Reads-count = reads_next (Reads-map_fault of_count compact compact_at Reads-compact) (λ n. Reads-check _ _ n)

pub Reads-body : Reads body body_at
unfolding body body_at
Reads-body = reads_next Reads-count (λ count. Reads-times 0 count anchor_format anchor_at Reads-anchor)

pub one_meaning_of : (magic bytes : List ℕ) → AreBytes (between bytes) → HasOneMeaning magic bytes
one_meaning_of magic bytes fits = by (whole_fault magic bytes) refl
  where
    inside : wire.HasOneMeaning body Trailing (between bytes)
    inside = one_meaning body Trailing body_at (between bytes) Reads-body fits

    no_and_some : (f : AnchorsFault) → whole_fault magic bytes ≡ None → whole_fault magic bytes ≡ Some f → ⊥
    no_and_some f none some = absurd (cc)

    same_of : (f g : AnchorsFault) → whole_fault magic bytes ≡ Some f → whole_fault magic bytes ≡ Some g → f ≡ g
    same_of f g one two = cc

    by : (o : Option AnchorsFault) → whole_fault magic bytes ≡ o → HasOneMeaning magic bytes
    by None is = record {
      some = ⊎_elim (λ h. inl (h.0, (is, h.1))) (λ h. inr (h.0, inr (is, h.1))) inside.some;
      one_list = λ a b one two. inside.one_value a b one.1 two.1;
      one_fault = λ f g one two.
          ⊎_elim (λ early. absurd (no_and_some f is early)) (λ h.
          ⊎_elim (λ early. absurd (no_and_some g is early)) (λ k. inside.one_fault f g h.1 k.1) two) one;
      never_both = λ a f file fault. ⊎_elim (no_and_some f is) (λ h. inside.never_both a f file.1 h.1) fault;
      no_memory = λ fault.
          let all = reads_all body Trailing body_at (between bytes) Reads-body fits in
          ⊎_elim (never_whole magic bytes) (λ h. never_read (between bytes) (all.first Memory h.1)) fault;
    }
    by (Some e) is = record {
      some = inr (e, inl is);
      one_list = λ a b one two. absurd (no_and_some e one.0 is);
      one_fault = λ f g one two.
          ⊎_elim (λ early. ⊎_elim (same_of f g early) (λ k. absurd (no_and_some e k.0 is)) two) (λ h. absurd (no_and_some e h.0 is)) one;
      never_both = λ a f file fault. no_and_some e file.0 is;
      no_memory = λ fault. ⊎_elim (never_whole magic bytes) (λ h. no_and_some e h.0 is) fault;
    }

pub AreBytes-between : (bytes : List ℕ) → AreBytes bytes → AreBytes (between bytes)
AreBytes-between bytes fits =
    let n = length bytes - 32 in
    AreBytes-rest (take n bytes) (take 4 (take n bytes)) (drop 4 (take n bytes)) (AreBytes-take n bytes fits) (sym (take-append-drop 4 (take n bytes)))

-- ---- the answers of the reader

-- what the reader answers about the bytes
pub record IsAnswer (magic bytes : List ℕ) (answer : Result (List Entry) AnchorsFault) : Type 0 where
  pub found : IfOk answer (λ anchors. IsFile magic bytes anchors)
  pub only : (anchors : List Entry) → IsFile magic bytes anchors → UnlessMemory answer (Ok anchors)
  pub cause : IfErr answer (λ f. f ≢ Memory → HasFileFault magic bytes f)
  pub first : (f : AnchorsFault) → HasFileFault magic bytes f → UnlessMemory answer (Err f)

abbrev failed : AnchorsFault → Result (List Entry) AnchorsFault
failed f = Err f

pub answers : (magic bytes : List ℕ) → AreBytes bytes → whole_fault magic bytes ≡ None → (answer : Result (List Entry) AnchorsFault)
    → GivesUnlessMemory (λ anchors. anchors) answer (all_of body_at Trailing (between bytes)) → IsAnswer magic bytes answer
answers magic bytes fits whole (Ok anchors) given =
    let all = reads_all body Trailing body_at (between bytes) Reads-body (AreBytes-between bytes fits) in
    record {
      found = (whole, all.found anchors given);
      only = λ other file _. sym given ∙ all.only other file.1;
      cause = tt;
      first = λ f fault _. ⊎_elim (λ early. absurd (none_or_some whole early)) (λ h. sym given ∙ all.first f h.1) fault;
    }
  where
    none_or_some : {o : Option AnchorsFault} {e : AnchorsFault} → o ≡ None → o ≡ Some e → ⊥
    none_or_some {o = o} {e = e} none some = absurd cc
answers magic bytes fits whole (Err e) given =
    let all = reads_all body Trailing body_at (between bytes) Reads-body (AreBytes-between bytes fits) in
    let own = λ (answered : failed e ≢ Err Memory) (same : e ≡ Memory). answered (ap failed same) in
    record {
      found = tt;
      only = λ other file answered. sym (given (own answered)) ∙ all.only other file.1;
      cause = λ other. inr (whole, all.cause e (given other));
      first = λ f fault answered. ⊎_elim (λ early. absurd (none_or_some whole early)) (λ h. sym (given (own answered)) ∙ all.first f h.1) fault;
    }
  where
    none_or_some : {o : Option AnchorsFault} {e : AnchorsFault} → o ≡ None → o ≡ Some e → ⊥
    none_or_some {o = o} {e = e} none some = absurd cc
