-- No bytes have the fault that says that memory ran out.
use Rattle.std.proofs.Common.{◌≡◌, ◌≢◌, ℕ, zero, suc, ◌+◌, ◌-◌, ◌/◌, ◌^◌, ◌==◌, Bool, true, false, not, nat_lt, List, [], ◌∷◌, length, take, drop, Option, Some, None, Result, Ok, Err, ap}
use Rattle.std.specs.Prelude.{nat_le, bytes_eq, if◌then◌else◌}
use Rattle.std.specs.Int.{w16, w32}
use Rattle.wire_num.specs.declared.fault.WireFault.{WireFault}
use Rattle.wire_num.specs.declared.fault.WireFault.TheVariants as wire
use Rattle.wire_num.specs.Readings.{◌>>=◌, all_of, last, fault_as, then_at, value_at, check_at, times_at, map_fault_at, le_at, be_at, compact_at}
use Rattle.addr_codecs.specs.Layout.{entry}
use Rattle.addr_codecs.specs.Readings.{address_at}
use Rattle.addr_codecs.specs.declared.address_fault.AddressFault.{AddressFault}
use Rattle.addr_codecs.specs.declared.address_fault.AddressFault.TheVariants as address
use Rattle.placing.specs.Places.{double_sha256}
use Rattle.anchors.specs.Faults.{of_address, of_count, of_number}
use Rattle.anchors.specs.Layout.{or_zero, whole_fault}
use Rattle.anchors.specs.Readings.{Read, layout_at, anchor_at, count_at, body_at}
use Rattle.anchors.specs.declared.fault.AnchorCause.TheVariants as cause
use Rattle.anchors.specs.declared.fault.AnchorsFault.{AnchorsFault}
use Rattle.anchors.specs.declared.fault.AnchorsFault.TheVariants.{Truncated, BadMagic, BadSum, TooMany, Anchor, Trailing, TooLarge, Memory}
use Rattle.anchors.specs.declared.read.TheConstants.{MAX_ANCHORS}

-- a reading never gives that fault
record Never {A : Type 0} (r : Read A) : Type 0 where
  pub at : (bytes : List ℕ) → r bytes ≡ Err Memory → ⊥

-- the fault of a result, another one if it has none
fault_in : {T : Type 0} → Result T AnchorsFault → AnchorsFault
fault_in (Ok x) = Truncated
fault_in (Err f) = f

-- a fault that is handed on is the same
same_fault : {T : Type 0} (f : AnchorsFault) → ◌≡◌ {A = Result T AnchorsFault} (Err f) (Err Memory) → f ≡ Memory
unfolding fault_in
same_fault f is = ap fault_in is

no_value : {T : Type 0} (x : T) → ◌≡◌ {A = Result T AnchorsFault} (Ok x) (Err Memory) → ⊥
no_value x is = cc

never_value : {A : Type 0} (a : A) → Never (value_at a)
never_value a = record { at = λ bytes is. no_value (a, bytes) is }

checked : {A : Type 0} (passes : Bool) (f : AnchorsFault) (a : A) → f ≢ Memory → (bytes : List ℕ) → check_at passes f a bytes ≡ Err Memory → ⊥
checked true f a other bytes is = no_value (a, bytes) is
checked false f a other bytes is = other (same_fault f is)

never_check : {A : Type 0} (passes : Bool) (f : AnchorsFault) (a : A) → f ≢ Memory → Never (check_at passes f a)
never_check passes f a other = record { at = checked passes f a other }

bound : {A B : Type 0} (s : A → Read B) (o : Result (A × List ℕ) AnchorsFault) → (o ≡ Err Memory → ⊥) → ((a : A) → Never (s a)) → (o >>= λ x. s x.0 x.1) ≡ Err Memory → ⊥
bound s (Ok x) first later is = (later x.0).at x.1 is
bound s (Err f) first later is = first (ap Err (same_fault f is))

never_then : {A B : Type 0} {r : Read A} {s : A → Read B} → Never r → ((a : A) → Never (s a)) → Never (then_at r s)
never_then {r = r} {s = s} first later = record { at = λ bytes is. bound s (r bytes) (first.at bytes) later is }

named : {E A : Type 0} (name : E → AnchorsFault) (o : Result A E) → ((e : E) → name e ≢ Memory) → fault_as name o ≡ Err Memory → ⊥
named name (Ok x) other is = no_value x is
named name (Err e) other is = other e (same_fault (name e) is)

never_under : {E A : Type 0} (name : E → AnchorsFault) (r : List ℕ → Result (A × List ℕ) E) → ((e : E) → name e ≢ Memory) → Never (map_fault_at name r)
never_under name r other = record { at = λ bytes is. named name (r bytes) other is }

never_times : {A : Type 0} (n i : ℕ) (r : ℕ → Read A) → ((k : ℕ) → Never (r k)) → Never (times_at i n r)
unfolding times_at
never_times zero i r each = never_value []
never_times (suc n) i r each = never_then (each i) (λ first. never_then (never_times n (i + 1) r each) (λ others. never_value (first ∷ others)))

of_count_other : (e : WireFault) → of_count e ≢ Memory
of_count_other wire.Truncated is = cc
of_count_other wire.NonCanonical is = cc

of_number_other : (i : ℕ) (e : WireFault) → of_number i e ≢ Memory
of_number_other i wire.Truncated is = cc
of_number_other i wire.NonCanonical is = cc

of_address_other : (i : ℕ) (e : AddressFault) → of_address i e ≢ Memory
of_address_other i address.Truncated is = cc
of_address_other i address.NonCanonical is = cc
of_address_other i address.TooLong is = cc
of_address_other i address.BadLength is = cc

never_number : {A : Type 0} (i : ℕ) (r : List ℕ → Result (A × List ℕ) WireFault) → Never (map_fault_at (of_number i) r)
never_number i r = never_under (of_number i) r (of_number_other i)

never_layout : (i : ℕ) → Never (layout_at i)
unfolding layout_at
never_layout i = never_then (never_number i (le_at w32)) (λ n. never_check (n / 2 ^ 19 == 2 ^ 10) (Anchor i cause.Version) n (λ is. cc))

never_anchor : (i : ℕ) → Never (anchor_at i)
unfolding anchor_at
never_anchor i =
    never_then (never_layout i) (λ _. never_then (never_number i (le_at w32)) (λ time. never_then (never_number i compact_at) (λ services.
    never_then (never_under (of_address i) address_at (of_address_other i)) (λ addr. never_then (never_number i (be_at w16)) (λ port.
    never_value (entry time services port (or_zero addr)))))))

never_count : Never count_at
unfolding count_at
never_count = never_then (never_under of_count compact_at of_count_other) (λ n. never_check (nat_le n MAX_ANCHORS) (TooMany n) n (λ is. cc))

never_body : Never body_at
unfolding body_at
never_body = never_then never_count (λ count. never_times count 0 anchor_at never_anchor)

-- after the last field there may be bytes, which is another fault
ended : {A : Type 0} (a : A) (rest : List ℕ) → last Trailing a rest ≡ Err Memory → ⊥
ended a [] is = no_value a is
ended a (b ∷ rest) is = other (same_fault Trailing is)
  where
    other : Trailing ≢ Memory
    other same = cc

whole_body : {A : Type 0} (o : Result (A × List ℕ) AnchorsFault) → (o ≡ Err Memory → ⊥) → (o >>= λ x. last Trailing x.0 x.1) ≡ Err Memory → ⊥
whole_body (Ok x) other is = ended x.0 x.1 is
whole_body (Err f) other is = other (ap Err (same_fault f is))

-- what is between the magic and the sum never has that fault
pub never_read : (bytes : List ℕ) → all_of body_at Trailing bytes ≡ Err Memory → ⊥
never_read bytes is = whole_body (body_at bytes) (never_body.at bytes) is

-- the tests of a file as a whole, by their results
whole_by : Bool → Bool → Bool → Bool → ℕ → Option AnchorsFault
whole_by large short foreign changed size =
    if large then Some (TooLarge size) else if short then Some Truncated else if foreign then Some BadMagic else if changed then Some BadSum else None

never_by : (large short foreign changed : Bool) (size : ℕ) → whole_by large short foreign changed size ≡ Some Memory → ⊥
unfolding whole_by
never_by true short foreign changed size is = cc
never_by false true foreign changed size is = cc
never_by false false true changed size is = cc
never_by false false false true size is = cc
never_by false false false false size is = cc

-- the tests of a file as a whole never give that fault
pub never_whole : (magic bytes : List ℕ) → whole_fault magic bytes ≡ Some Memory → ⊥
unfolding whole_fault whole_by
never_whole magic bytes is =
    never_by (nat_lt 1048576 (length bytes)) (nat_lt (length bytes) 36) (not (bytes_eq (take 4 bytes) magic))
    (not (bytes_eq (drop (length bytes - 32) bytes) (double_sha256 (take (length bytes - 32) bytes)))) (length bytes) is
