-- What reading from the start gives: a value and the bytes after it, or the fault.
use Rattle.std.specs.Prelude.{◌≡◌, ℕ, zero, suc, ◌+◌, ◌≤◌, ◌^◌, List, [], ◌∷◌, Bool, length, take, drop, Result, Ok, Err, nat_lt, nat_le, ◌==◌, if◌then◌else◌}
use Rattle.std.specs.Int.{Width, w16, w32, w64, byte_len, from_le_bytes, from_be_bytes}
use Rattle.wire_num.specs.declared.fault.WireFault.{WireFault}
use Rattle.wire_num.specs.declared.fault.WireFault.TheVariants.{Truncated, NonCanonical}

infixl 10 ◌>>=◌
-- One reading and then another, as `do` writes it; the first fault ends it.
abbrev pub ◌>>=◌ : {F A B : Type 0} → Result A F → (A → Result B F) → Result B F
(Ok x) >>= f = f x
(Err e) >>= f = Err e

-- a value that takes no bytes
abbrev pub value_at : {F A : Type 0} → A → List ℕ → Result (A × List ℕ) F
value_at a bytes = Ok (a, bytes)

-- a value that takes no bytes, if it passes a test
abbrev pub check_at : {F A : Type 0} → Bool → F → A → List ℕ → Result (A × List ℕ) F
check_at passes fault a bytes = if passes then Ok (a, bytes) else Err fault

-- one reading, and after it another that may depend on its value
abbrev pub then_at : {F A B : Type 0} → (List ℕ → Result (A × List ℕ) F)
    → (A → List ℕ → Result (B × List ℕ) F) → List ℕ → Result (B × List ℕ) F
then_at r s bytes = r bytes >>= λ x. s x.0 x.1

-- n values, each of the reading of its index: the indexes are i, i + 1, and so on
unfoldable pub times_at : {F A : Type 0} → ℕ → ℕ → (ℕ → List ℕ → Result (A × List ℕ) F)
    → List ℕ → Result (List A × List ℕ) F
times_at i zero r = value_at []
times_at i (suc n) r =
    then_at (r i) (λ first. then_at (times_at (i + 1) n r) (λ others. value_at (first ∷ others)))

-- a value after which nothing may follow
abbrev pub last : {F A : Type 0} → F → A → List ℕ → Result A F
last trailing a [] = Ok a
last trailing a (b ∷ rest) = Err trailing

-- all of the bytes
abbrev pub all_of : {F A : Type 0} → (List ℕ → Result (A × List ℕ) F) → F → List ℕ → Result A F
all_of r trailing bytes = r bytes >>= λ x. last trailing x.0 x.1

-- the fault under another name
abbrev pub fault_as : {E F A : Type 0} → (E → F) → Result A E → Result A F
fault_as name (Ok x) = Ok x
fault_as name (Err e) = Err (name e)

-- a reading with its faults under other names
abbrev pub map_fault_at : {E F A : Type 0} → (E → F) → (List ℕ → Result (A × List ℕ) E) → List ℕ
    → Result (A × List ℕ) F
map_fault_at name r bytes = fault_as name (r bytes)

-- Reads a number of bytes.
abbrev pub bytes_at : ℕ → List ℕ → Result (List ℕ × List ℕ) WireFault
bytes_at n bytes =
    if nat_lt (length bytes) n then Err Truncated else Ok (take n bytes, drop n bytes)

-- Reads one byte.
abbrev pub byte_at : List ℕ → Result (ℕ × List ℕ) WireFault
byte_at [] = Err Truncated
byte_at (b ∷ rest) = Ok (b, rest)

-- Reads a number of a width, by the value of its bytes.
abbrev pub number_at : Width → (List ℕ → ℕ) → List ℕ → Result (ℕ × List ℕ) WireFault
number_at w number_of bytes =
    if nat_lt (length bytes) (byte_len w)
    then Err Truncated
    else Ok (number_of (take (byte_len w) bytes), drop (byte_len w) bytes)

-- Reads a number of a width, lowest byte first.
abbrev pub le_at : Width → List ℕ → Result (ℕ × List ℕ) WireFault
le_at w bytes = number_at w (from_le_bytes w) bytes

-- Reads a number of a width, highest byte first.
abbrev pub be_at : Width → List ℕ → Result (ℕ × List ℕ) WireFault
be_at w bytes = number_at w (from_be_bytes w) bytes

-- a number of a width that is not below `least`
abbrev pub wide_at : Width → ℕ → List ℕ → Result (ℕ × List ℕ) WireFault
wide_at w least bytes = le_at w bytes >>= λ n. if nat_le least n.0 then Ok n else Err NonCanonical

-- Reads a CompactSize in its shortest encoding (`ReadCompactSize` in serialize.h of Bitcoin Core).
unfoldable pub compact_at : List ℕ → Result (ℕ × List ℕ) WireFault
compact_at [] = Err Truncated
compact_at (b ∷ rest) =
    if nat_lt b 253 then Ok (b, rest)
    else if b == 253 then wide_at w16 253 rest
    else if b == 254 then wide_at w32 (2 ^ 16) rest
    else wide_at w64 (2 ^ 32) rest

-- The view of an answer is what the reading gives.
abbrev pub Gives : {F X Y : Type 0} → (X → Y) → Result X F → Result Y F → Type 0
Gives view (Ok x) read = read ≡ Ok (view x)
Gives view (Err e) read = read ≡ Err e

-- An answer with the number of bytes that were taken is what the reading of the bytes gives.
abbrev pub GivesLength : {F X : Type 0} → Result (X × ℕ) F → List ℕ → Result (X × List ℕ) F → Type 0
GivesLength (Ok x) bytes read = (x.1 ≤ length bytes) × (read ≡ Ok (x.0, drop x.1 bytes))
GivesLength (Err e) bytes read = read ≡ Err e
