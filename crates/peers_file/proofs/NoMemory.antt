-- No bytes have the fault that says that memory ran out.
use Rattle.std.proofs.Common.{◌≡◌, ◌≢◌, ℕ, zero, suc, ◌+◌, ◌-◌, ◌/◌, ◌^◌, ◌==◌, Bool, true, false, not, ◌&&◌, nat_lt, List, [], ◌∷◌, length, take, drop, replicate, Option, Some, None, Result, Ok, Err, ap}
use Rattle.std.specs.Prelude.{nat_le, bytes_eq, if◌then◌else◌}
use Rattle.std.specs.List.{flat_map}
use Rattle.std.specs.Int.{w16, w32, w64, cast_signed}
use Rattle.std.specs.Int.Bits.{bit_xor}
use Rattle.net_addr.specs.OldForm.{from_v1}
use Rattle.wire_num.specs.declared.fault.WireFault.{WireFault}
use Rattle.wire_num.specs.declared.fault.WireFault.TheVariants as wire
use Rattle.wire_num.specs.Readings.{◌>>=◌, all_of, last, fault_as, then_at, value_at, check_at, times_at, map_fault_at, bytes_at, byte_at, le_at, be_at, compact_at}
use Rattle.addr_codecs.specs.Readings.{address_at}
use Rattle.addr_codecs.specs.declared.address_fault.AddressFault.{AddressFault}
use Rattle.addr_codecs.specs.declared.address_fault.AddressFault.TheVariants as address
use Rattle.placing.specs.Places.{double_sha256}
use Rattle.peer_rec.specs.Snapshot.{Snapshot, snapshot}
use Rattle.peer_rec.specs.declared.snapshot.TheConstants.{MAX_NEW, MAX_TRIED, MAX_BUCKETS}
use Rattle.peers_file.specs.Faults.{of_field, of_number, of_address}
use Rattle.peers_file.specs.Layout.{magic_of, whole_fault, or_zero, file_rec, entries_of, pairs_with, head_with}
use Rattle.peers_file.specs.Readings.{Read, field_at, layout_at, success_at, attempts_at, record_at, old_record_at, record_in_at, count_at, buckets_at, bucket_at, sum_in_at, head_at, all_buckets_at, body_at}
use Rattle.peers_file.specs.declared.chain.Chain.{Chain}
use Rattle.peers_file.specs.declared.fault.Which.{Which}
use Rattle.peers_file.specs.declared.fault.Which.TheVariants as which
use Rattle.peers_file.specs.declared.fault.RecordCause.TheVariants as cause
use Rattle.peers_file.specs.declared.fault.FileFault.{FileFault}
use Rattle.peers_file.specs.declared.fault.FileFault.TheVariants.{Truncated, BadMagic, BadSum, Compat, Version, Count, Record, Buckets, Time, Attempts, Trailing, TooLarge, Memory}

-- a reading never gives that fault
record Never {A : Type 0} (r : Read A) : Type 0 where
  pub at : (bytes : List ℕ) → r bytes ≡ Err Memory → ⊥

-- the fault of a result, another one if it has none
fault_in : {T : Type 0} → Result T FileFault → FileFault
fault_in (Ok x) = Truncated
fault_in (Err f) = f

-- a fault that is handed on is the same
same_fault : {T : Type 0} (f : FileFault) → ◌≡◌ {A = Result T FileFault} (Err f) (Err Memory) → f ≡ Memory
unfolding fault_in
same_fault f is = ap fault_in is

no_value : {T : Type 0} (x : T) → ◌≡◌ {A = Result T FileFault} (Ok x) (Err Memory) → ⊥
no_value x is = cc

never_value : {A : Type 0} (a : A) → Never (value_at a)
never_value a = record { at = λ bytes is. no_value (a, bytes) is }

checked : {A : Type 0} (passes : Bool) (f : FileFault) (a : A) → f ≢ Memory → (bytes : List ℕ) → check_at passes f a bytes ≡ Err Memory → ⊥
checked true f a other bytes is = no_value (a, bytes) is
checked false f a other bytes is = other (same_fault f is)

never_check : {A : Type 0} (passes : Bool) (f : FileFault) (a : A) → f ≢ Memory → Never (check_at passes f a)
never_check passes f a other = record { at = checked passes f a other }

bound : {A B : Type 0} (s : A → Read B) (o : Result (A × List ℕ) FileFault) → (o ≡ Err Memory → ⊥) → ((a : A) → Never (s a)) → (o >>= λ x. s x.0 x.1) ≡ Err Memory → ⊥
bound s (Ok x) first later is = (later x.0).at x.1 is
bound s (Err f) first later is = first (ap Err (same_fault f is))

never_then : {A B : Type 0} {r : Read A} {s : A → Read B} → Never r → ((a : A) → Never (s a)) → Never (then_at r s)
never_then {r = r} {s = s} first later = record { at = λ bytes is. bound s (r bytes) (first.at bytes) later is }

named : {E A : Type 0} (name : E → FileFault) (o : Result A E) → ((e : E) → name e ≢ Memory) → fault_as name o ≡ Err Memory → ⊥
named name (Ok x) other is = no_value x is
named name (Err e) other is = other e (same_fault (name e) is)

never_under : {E A : Type 0} (name : E → FileFault) (r : List ℕ → Result (A × List ℕ) E) → ((e : E) → name e ≢ Memory) → Never (map_fault_at name r)
never_under name r other = record { at = λ bytes is. named name (r bytes) other is }

never_times : {A : Type 0} (n i : ℕ) (r : ℕ → Read A) → ((k : ℕ) → Never (r k)) → Never (times_at i n r)
unfolding times_at
never_times zero i r each = never_value []
never_times (suc n) i r each = never_then (each i) (λ first. never_then (never_times n (i + 1) r each) (λ others. never_value (first ∷ others)))

cut_is_other : Truncated ≢ Memory
cut_is_other is = cc

never_field : {A : Type 0} (r : List ℕ → Result (A × List ℕ) WireFault) → Never (field_at r)
never_field r = never_under of_field r (λ e. cut_is_other)

of_number_other : (i : ℕ) (e : WireFault) → of_number i e ≢ Memory
of_number_other i wire.Truncated is = cc
of_number_other i wire.NonCanonical is = cc

of_address_other : (i : ℕ) (e : AddressFault) → of_address i e ≢ Memory
of_address_other i address.Truncated is = cc
of_address_other i address.NonCanonical is = cc
of_address_other i address.TooLong is = cc
of_address_other i address.BadLength is = cc

never_layout : (i high : ℕ) → Never (layout_at i high)
unfolding layout_at
never_layout i high = never_then (never_field (le_at w32)) (λ n. never_check (n / 2 ^ 19 == high) (Record i cause.Version) n (λ is. cc))

never_success : (i : ℕ) → Never (success_at i)
unfolding success_at
never_success i = never_then (never_field (le_at w64)) (λ n. never_check (nat_lt n (2 ^ 32)) (Time i) n (λ is. cc))

never_attempts : (i : ℕ) → Never (attempts_at i)
unfolding attempts_at
never_attempts i = never_then (never_field (le_at w32)) (λ n. never_check (nat_lt n (2 ^ 31)) (Attempts i) n (λ is. cc))

never_record : (i : ℕ) → Never (record_at i)
unfolding record_at
never_record i =
    never_then (never_layout i (2 ^ 10)) (λ _. never_then (never_field (le_at w32)) (λ time. never_then (never_under (of_number i) compact_at (of_number_other i)) (λ services.
    never_then (never_under (of_address i) address_at (of_address_other i)) (λ peer. never_then (never_field (be_at w16)) (λ port.
    never_then (never_under (of_address i) address_at (of_address_other i)) (λ source.
    never_then (never_success i) (λ success. never_then (never_attempts i) (λ attempts.
    never_value (file_rec (or_zero peer) port (or_zero source) time services success attempts)))))))))

never_old_record : (i : ℕ) → Never (old_record_at i)
unfolding old_record_at
never_old_record i =
    never_then (never_layout i 0) (λ _. never_then (never_field (le_at w32)) (λ time. never_then (never_field (le_at w64)) (λ services.
    never_then (never_field (bytes_at 16)) (λ peer. never_then (never_field (be_at w16)) (λ port. never_then (never_field (bytes_at 16)) (λ source.
    never_then (never_success i) (λ success. never_then (never_attempts i) (λ attempts.
    never_value (file_rec (from_v1 peer) port (from_v1 source) time services success attempts)))))))))

-- one of two readings
either_never : {A : Type 0} (b : Bool) (r s : Read A) → Never r → Never s → (bytes : List ℕ) → (if b then r bytes else s bytes) ≡ Err Memory → ⊥
either_never true r s one two = one.at
either_never false r s one two = two.at

never_record_in : (format i : ℕ) → Never (record_in_at format i)
never_record_in format i = record { at = either_never (nat_lt format 3) (old_record_at i) (record_at i) (never_old_record i) (never_record i) }

never_sum : (format : ℕ) → Never (sum_in_at format)
never_sum format = record { at = either_never (format == 1) (value_at (replicate 32 0)) (field_at (bytes_at 32)) (never_value (replicate 32 0)) (never_field (bytes_at 32)) }

never_count : (kind : Which) (limit : ℕ) → Never (count_at kind limit)
unfolding count_at
never_count kind limit = never_then (never_field (le_at w32)) (λ n. never_check (nat_le n limit) (Count kind (cast_signed w32 n)) n (λ is. cc))

never_buckets : Never buckets_at
unfolding buckets_at
never_buckets =
    never_then (never_field (le_at w32)) (λ coded.
    never_check (nat_le (bit_xor coded (2 ^ 30)) MAX_BUCKETS) (Buckets (cast_signed w32 (bit_xor coded (2 ^ 30)))) (bit_xor coded (2 ^ 30)) (λ is. cc))

never_bucket : (new_count bucket : ℕ) → Never (bucket_at new_count bucket)
unfolding bucket_at
never_bucket new_count bucket =
    never_then (never_field (le_at w32)) (λ entries.
    never_then (never_times (entries_of entries) 0 (λ _. field_at (le_at w32)) (λ _. never_field (le_at w32))) (λ indexes. never_value (pairs_with new_count bucket indexes)))

never_head : Never head_at
unfolding head_at
never_head =
    never_then (never_field byte_at) (λ format. never_then (never_field byte_at) (λ compat.
    never_then (never_check (nat_le 32 compat && nat_le compat 36) (Compat compat) compat (λ is. cc)) (λ _.
    never_then (never_check (nat_le 1 format && nat_le format 4) (Version format) format (λ is. cc)) (λ _.
    never_then (never_field (bytes_at 32)) (λ key. never_then (never_count which.New MAX_NEW) (λ new_count.
    never_then (never_count which.Tried MAX_TRIED) (λ tried_count. never_then never_buckets (λ bucket_count.
    never_value (head_with format key new_count tried_count bucket_count)))))))))

never_all_buckets : (new_count bucket_count : ℕ) → Never (all_buckets_at new_count bucket_count)
unfolding all_buckets_at
never_all_buckets new_count bucket_count =
    never_then (never_times bucket_count 0 (bucket_at new_count) (never_bucket new_count)) (λ listed. never_value (flat_map (λ pairs. pairs) listed))

never_body : Never body_at
unfolding body_at
never_body =
    never_then never_head (λ h.
    never_then (never_times h.new_count 0 (record_in_at h.format) (never_record_in h.format)) (λ new_recs.
    never_then (never_times h.tried_count h.new_count (record_in_at h.format) (never_record_in h.format)) (λ tried_recs.
    never_then (never_all_buckets h.new_count h.bucket_count) (λ listed.
    never_then (never_sum h.format) (λ sum. never_value (snapshot h.key new_recs tried_recs h.bucket_count listed sum))))))

-- after the last field there may be bytes, which is another fault
ended : {A : Type 0} (a : A) (rest : List ℕ) → last Trailing a rest ≡ Err Memory → ⊥
ended a [] is = no_value a is
ended a (b ∷ rest) is = other (same_fault Trailing is)
  where
    other : Trailing ≢ Memory
    other same = cc

whole_body : (o : Result (Snapshot × List ℕ) FileFault) → (o ≡ Err Memory → ⊥) → (o >>= λ x. last Trailing x.0 x.1) ≡ Err Memory → ⊥
whole_body (Ok x) first is = ended x.0 x.1 is
whole_body (Err f) first is = first (ap Err (same_fault f is))

-- reading all of a body never gives that fault
pub never_read : (bytes : List ℕ) → all_of body_at Trailing bytes ≡ Err Memory → ⊥
never_read bytes is = whole_body (body_at bytes) (never_body.at bytes) is

-- the tests of a file as a whole, by their results
whole_by : Bool → Bool → Bool → Bool → ℕ → Option FileFault
whole_by large short foreign changed size =
    if large then Some (TooLarge size) else if short then Some Truncated else if foreign then Some BadMagic else if changed then Some BadSum else None

never_by : (large short foreign changed : Bool) (size : ℕ) → whole_by large short foreign changed size ≡ Some Memory → ⊥
unfolding whole_by
never_by true short foreign changed size is = cc
never_by false true foreign changed size is = cc
never_by false false true changed size is = cc
never_by false false false true size is = cc
never_by false false false false size is = cc

-- the tests of a file as a whole never give that fault
pub never_whole : (chain : Chain) (bytes : List ℕ) → whole_fault chain bytes ≡ Some Memory → ⊥
unfolding whole_fault whole_by
never_whole chain bytes is =
    never_by (nat_lt 33554432 (length bytes)) (nat_lt (length bytes) 36) (not (bytes_eq (take 4 bytes) (magic_of chain)))
    (not (bytes_eq (drop (length bytes - 32) bytes) (double_sha256 (take (length bytes - 32) bytes)))) (length bytes) is
