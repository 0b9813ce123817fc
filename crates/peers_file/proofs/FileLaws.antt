-- A file is read exactly as it is laid out, and has one meaning.
use Rattle.std.proofs.Common.{◌≡◌, ℕ, ◌-◌, ◌==◌, Bool, true, false, cond, ltb, List, length, take, drop, replicate, Option, Some, None, Result, Ok, Err, ◌≢◌, refl, sym, ap, ◌∙◌, inl, inr, ⊎_elim}
use Rattle.std.proofs.lemmas.List.{take-append-drop}
use Rattle.std.specs.Prelude.{IfOk, IfErr}
use Rattle.std.specs.Int.{w16, w32, w64, to_le_bytes, to_be_bytes, from_le_bytes, from_be_bytes}
use Rattle.wire_num.specs.Format as wire
use Rattle.wire_num.specs.Format.{value, map_fault}
use Rattle.wire_num.specs.Fields.{some_bytes, byte, le, be, compact}
use Rattle.wire_num.specs.Readings.{all_of, value_at, map_fault_at, bytes_at, byte_at, le_at, be_at, compact_at}
use Rattle.wire_num.proofs.ReadingLaws.{AreBytes, AreBytes-rest, Reads, reads_next, Reads-value, Reads-check, Reads-times, Reads-map_fault, reads_all, one_meaning}
use Rattle.wire_num.proofs.FieldLaws.{Reads-some_bytes, Reads-byte, Reads-number, le32, le64, be16, AreBytes-take}
use Rattle.wire_num.proofs.CompactLaws.{Reads-compact}
use Rattle.addr_codecs.specs.Layout.{addrv2_address}
use Rattle.addr_codecs.specs.Readings.{address_at}
use Rattle.addr_codecs.proofs.AddressLaws.{Reads-address}
use Rattle.peer_rec.specs.Snapshot.{Snapshot}
use Rattle.peers_file.proofs.NoMemory.{never_read, never_whole}
use Rattle.peers_file.specs.Faults.{of_field, of_number, of_address, UnlessMemory}
use Rattle.peers_file.specs.declared.chain.Chain.{Chain}
use Rattle.peers_file.specs.declared.fault.Which.{Which}
use Rattle.peers_file.specs.declared.fault.FileFault.{FileFault}
use Rattle.peers_file.specs.declared.fault.FileFault.TheVariants.{Trailing, Memory}
use Rattle.peers_file.specs.Layout.{field, layout_field, success_field, attempts_field, record_format, old_record_format, record_in, count_field, buckets_field, bucket_of, either, sum_in, head, buckets_of, body, between, whole_fault, IsFile, HasFileFault, HasOneMeaning}
use Rattle.peers_file.specs.Readings.{GivesUnlessMemory, field_at, layout_at, success_at, attempts_at, record_at, old_record_at, record_in_at, count_at, buckets_at, bucket_at, sum_in_at, head_at, all_buckets_at, body_at}

field32 : Reads (field (le w32)) (field_at (le_at w32))
field32 = Reads-map_fault of_field (le w32) (le_at w32) (Reads-number w32 (to_le_bytes w32) (from_le_bytes w32) le32)

field64 : Reads (field (le w64)) (field_at (le_at w64))
field64 = Reads-map_fault of_field (le w64) (le_at w64) (Reads-number w64 (to_le_bytes w64) (from_le_bytes w64) le64)

field16 : Reads (field (be w16)) (field_at (be_at w16))
field16 = Reads-map_fault of_field (be w16) (be_at w16) (Reads-number w16 (to_be_bytes w16) (from_be_bytes w16) be16)

field_byte : Reads (field byte) (field_at byte_at)
field_byte = Reads-map_fault of_field byte byte_at Reads-byte

field_bytes : (n : ℕ) → Reads (field (some_bytes n)) (field_at (bytes_at n))
field_bytes n = Reads-map_fault of_field (some_bytes n) (bytes_at n) (Reads-some_bytes n)

services_field : (i : ℕ) → Reads (map_fault (of_number i) compact) (map_fault_at (of_number i) compact_at)
services_field i = Reads-map_fault (of_number i) compact compact_at Reads-compact

address_field : (i : ℕ) → Reads (map_fault (of_address i) addrv2_address) (map_fault_at (of_address i) address_at)
address_field i = Reads-map_fault (of_address i) addrv2_address address_at Reads-address

Reads-layout : (i high : ℕ) → Reads (layout_field i high) (layout_at i high)
unfolding layout_field layout_at
Reads-layout i high = reads_next field32 (λ n. Reads-check _ _ n)

Reads-success : (i : ℕ) → Reads (success_field i) (success_at i)
unfolding success_field success_at
Reads-success i = reads_next field64 (λ n. Reads-check _ _ n)

Reads-attempts : (i : ℕ) → Reads (attempts_field i) (attempts_at i)
unfolding attempts_field attempts_at
Reads-attempts i = reads_next field32 (λ n. Reads-check _ _ n)

Reads-record : (i : ℕ) → Reads (record_format i) (record_at i)
unfolding record_format record_at
Reads-record i =
    reads_next (Reads-layout i _) (λ _. reads_next field32 (λ time. reads_next (services_field i) (λ services. reads_next (address_field i) (λ peer.
    reads_next field16 (λ port. reads_next (address_field i) (λ source. reads_next (Reads-success i) (λ success. reads_next (Reads-attempts i) (λ attempts. Reads-value _))))))))

Reads-old_record : (i : ℕ) → Reads (old_record_format i) (old_record_at i)
unfolding old_record_format old_record_at
Reads-old_record i =
    reads_next (Reads-layout i _) (λ _. reads_next field32 (λ time. reads_next field64 (λ services. reads_next (field_bytes 16) (λ peer.
    reads_next field16 (λ port. reads_next (field_bytes 16) (λ source. reads_next (Reads-success i) (λ success. reads_next (Reads-attempts i) (λ attempts. Reads-value _))))))))

by_format : (old : Bool) (i : ℕ) → Reads (either old (old_record_format i) (record_format i)) (λ bytes. cond old (old_record_at i bytes) (record_at i bytes))
by_format true i = Reads-old_record i
by_format false i = Reads-record i

Reads-record_in : (format i : ℕ) → Reads (record_in format i) (record_in_at format i)
Reads-record_in format i = by_format (ltb format 3) i

Reads-count : (kind : Which) (limit : ℕ) → Reads (count_field kind limit) (count_at kind limit)
unfolding count_field count_at
Reads-count kind limit = reads_next field32 (λ n. Reads-check _ _ n)

Reads-buckets : Reads buckets_field buckets_at
unfolding buckets_field buckets_at
Reads-buckets = reads_next field32 (λ coded. Reads-check _ _ _)

Reads-bucket : (new_count bucket : ℕ) → Reads (bucket_of new_count bucket) (bucket_at new_count bucket)
unfolding bucket_of bucket_at
Reads-bucket new_count bucket = reads_next field32 (λ entries. reads_next (Reads-times 0 _ _ _ (λ _. field32)) (λ indexes. Reads-value _))

by_sum : (none : Bool) → Reads (either none (value (replicate 32 0)) (field (some_bytes 32))) (λ bytes. cond none (value_at (replicate 32 0) bytes) (field_at (bytes_at 32) bytes))
by_sum true = Reads-value _
by_sum false = field_bytes 32

Reads-sum : (format : ℕ) → Reads (sum_in format) (sum_in_at format)
Reads-sum format = by_sum (format == 1)

Reads-head : Reads head head_at
unfolding head head_at
Reads-head =
    reads_next field_byte (λ format. reads_next field_byte (λ compat. reads_next (Reads-check _ _ compat) (λ _. reads_next (Reads-check _ _ format) (λ _. reads_next (field_bytes 32) (λ key.
    reads_next (Reads-count _ _) (λ new_count. reads_next (Reads-count _ _) (λ tried_count. reads_next Reads-buckets (λ bucket_count. Reads-value _))))))))

Reads-all_buckets : (new_count bucket_count : ℕ) → Reads (buckets_of new_count bucket_count) (all_buckets_at new_count bucket_count)
unfolding buckets_of all_buckets_at
Reads-all_buckets new_count bucket_count = reads_next (Reads-times 0 bucket_count (bucket_of new_count) (bucket_at new_count) (Reads-bucket new_count)) (λ listed. Reads-value _)

pub Reads-body : Reads body body_at
unfolding body body_at
Reads-body =
    reads_next Reads-head (λ h.
    reads_next (Reads-times 0 h.new_count (record_in h.format) (record_in_at h.format) (Reads-record_in h.format)) (λ new_recs.
    reads_next (Reads-times h.new_count h.tried_count (record_in h.format) (record_in_at h.format) (Reads-record_in h.format)) (λ tried_recs.
    reads_next (Reads-all_buckets h.new_count h.bucket_count) (λ listed.
    reads_next (Reads-sum h.format) (λ sum. Reads-value _)))))

pub one_meaning_of : (chain : Chain) (bytes : List ℕ) → AreBytes (between bytes) → HasOneMeaning chain bytes
one_meaning_of chain bytes fits = by (whole_fault chain bytes) refl
  where
    inside : wire.HasOneMeaning body Trailing (between bytes)
    inside = one_meaning body Trailing body_at (between bytes) Reads-body fits

    no_and_some : (f : FileFault) → whole_fault chain bytes ≡ None → whole_fault chain bytes ≡ Some f → ⊥
    no_and_some f none some = absurd (cc)

    same_of : (f g : FileFault) → whole_fault chain bytes ≡ Some f → whole_fault chain bytes ≡ Some g → f ≡ g
    same_of f g one two = cc

    by : (o : Option FileFault) → whole_fault chain bytes ≡ o → HasOneMeaning chain bytes
    by None is = record {
      some = ⊎_elim (λ h. inl (h.0, (is, h.1))) (λ h. inr (h.0, inr (is, h.1))) inside.some;
      one_snapshot = λ a b one two. inside.one_value a b one.1 two.1;
      one_fault = λ f g one two.
          ⊎_elim (λ early. absurd (no_and_some f is early)) (λ h.
          ⊎_elim (λ early. absurd (no_and_some g is early)) (λ k. inside.one_fault f g h.1 k.1) two) one;
      never_both = λ a f file fault. ⊎_elim (no_and_some f is) (λ h. inside.never_both a f file.1 h.1) fault;
      no_memory = λ fault.
          let all = reads_all body Trailing body_at (between bytes) Reads-body fits in
          ⊎_elim (never_whole chain bytes) (λ h. never_read (between bytes) (all.first Memory h.1)) fault;
    }
    by (Some e) is = record {
      some = inr (e, inl is);
      one_snapshot = λ a b one two. absurd (no_and_some e one.0 is);
      one_fault = λ f g one two.
          ⊎_elim (λ early. ⊎_elim (same_of f g early) (λ k. absurd (no_and_some e k.0 is)) two) (λ h. absurd (no_and_some e h.0 is)) one;
      never_both = λ a f file fault. no_and_some e file.0 is;
      no_memory = λ fault. ⊎_elim (never_whole chain bytes) (λ h. no_and_some e h.0 is) fault;
    }

pub AreBytes-between : (bytes : List ℕ) → AreBytes bytes → AreBytes (between bytes)
AreBytes-between bytes fits =
    let n = length bytes - 32 in
    AreBytes-rest (take n bytes) (take 4 (take n bytes)) (drop 4 (take n bytes)) (AreBytes-take n bytes fits) (sym (take-append-drop 4 (take n bytes)))

-- ---- the answers of the reader

-- what the reader answers about the bytes
pub record IsAnswer (chain : Chain) (bytes : List ℕ) (answer : Result Snapshot FileFault) : Type 0 where
  pub found : IfOk answer (λ snap. IsFile chain bytes snap)
  pub only : (snap : Snapshot) → IsFile chain bytes snap → UnlessMemory answer (Ok snap)
  pub cause : IfErr answer (λ f. f ≢ Memory → HasFileFault chain bytes f)
  pub first : (f : FileFault) → HasFileFault chain bytes f → UnlessMemory answer (Err f)

abbrev failed : FileFault → Result Snapshot FileFault
failed f = Err f

-- a file that fails a test as a whole has that fault
pub refused : (chain : Chain) (bytes : List ℕ) (f : FileFault) → whole_fault chain bytes ≡ Some f → IsAnswer chain bytes (Err f)
refused chain bytes f is = record {
  found = tt;
  only = λ snap file _. absurd (none_or_some file.0 is);
  cause = λ _. inl is;
  first = λ g fault _. ⊎_elim (λ other. ap failed (same_fault is other)) (λ h. absurd (none_or_some h.0 is)) fault;
}
  where
    none_or_some : {o : Option FileFault} {e : FileFault} → o ≡ None → o ≡ Some e → ⊥
    none_or_some {o = o} {e = e} none some = absurd cc

    same_fault : {o : Option FileFault} {e g : FileFault} → o ≡ Some e → o ≡ Some g → e ≡ g
    same_fault {o = o} {e = e} {g = g} one two = cc

pub answers : (chain : Chain) (bytes : List ℕ) → AreBytes bytes → whole_fault chain bytes ≡ None → (answer : Result Snapshot FileFault)
    → GivesUnlessMemory (λ snap. snap) answer (all_of body_at Trailing (between bytes)) → IsAnswer chain bytes answer
answers chain bytes fits whole (Ok snap) given =
    let all = reads_all body Trailing body_at (between bytes) Reads-body (AreBytes-between bytes fits) in
    record {
      found = (whole, all.found snap given);
      only = λ other file _. sym given ∙ all.only other file.1;
      cause = tt;
      first = λ f fault _. ⊎_elim (λ early. absurd (none_or_some whole early)) (λ h. sym given ∙ all.first f h.1) fault;
    }
  where
    none_or_some : {o : Option FileFault} {e : FileFault} → o ≡ None → o ≡ Some e → ⊥
    none_or_some {o = o} {e = e} none some = absurd cc
answers chain bytes fits whole (Err e) given =
    let all = reads_all body Trailing body_at (between bytes) Reads-body (AreBytes-between bytes fits) in
    let own = λ (answered : failed e ≢ Err Memory) (same : e ≡ Memory). answered (ap failed same) in
    record {
      found = tt;
      only = λ snap file answered. sym (given (own answered)) ∙ all.only snap file.1;
      cause = λ other. inr (whole, all.cause e (given other));
      first = λ f fault answered. ⊎_elim (λ early. absurd (none_or_some whole early)) (λ h. sym (given (own answered)) ∙ all.first f h.1) fault;
    }
  where
    none_or_some : {o : Option FileFault} {e : FileFault} → o ≡ None → o ≡ Some e → ⊥
    none_or_some {o = o} {e = e} none some = absurd cc
