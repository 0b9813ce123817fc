-- What is written of a value spells it: the way from each field's bytes to the format.
use Rattle.std.proofs.Common.{◌≡◌, ℕ, ◌+◌, ◌*◌, ◌<◌, ◌^◌, Bool, true, List, [], ◌∷◌, ◌++◌, length, map, refl, subst}
use Rattle.std.specs.List.{flat_map, AllByRecursion}
use Rattle.std.specs.Int.{Width, byte_len}
use Rattle.std.proofs.lemmas.List.{append-nil}
use Rattle.wire_num.specs.CompactSize.{compact_size}
use Rattle.wire_num.specs.Format.{Format, sequence, value, check, times, map_fault}
use Rattle.wire_num.specs.Fields.{some_bytes, byte, number, compact}
use Rattle.wire_num.specs.declared.fault.WireFault.{WireFault}

pub spells-then : {F A B : Type 0} (p : Format F A) (q : A → Format F B) (x y : List ℕ) (a : A) (b : B) → p.spells x a → (q a).spells y b → (sequence p q).spells (x ++ y) b
unfolding sequence
spells-then p q x y a b one two = (a, y, record { front = x; joined = refl; spelled = one }, two)

pub spells-value : (F : Type 0) {A : Type 0} (a : A) → (value {F = F} a).spells [] a
unfolding value
spells-value F a = (refl, refl)

pub spells-check : {F A : Type 0} (passes : Bool) (fault : F) (a : A) → passes ≡ true → (check passes fault a).spells [] a
unfolding check
spells-check passes fault a h = (h, refl, refl)

pub spells-map_fault : {E F A : Type 0} (name : E → F) (p : Format E A) (bytes : List ℕ) (a : A) → p.spells bytes a → (map_fault name p).spells bytes a
unfolding map_fault
spells-map_fault name p bytes a h = h

-- a field, with its faults under the name that a format gives them
pub spells-number : {F : Type 0} (name : WireFault → F) (w : Width) (bytes_of : ℕ → List ℕ) (n : ℕ) → n < 2 ^ (8 * byte_len w) → (map_fault name (number w bytes_of)).spells (bytes_of n) n
unfolding map_fault number
spells-number name w bytes_of n h = (h, refl)

pub spells-compact : {F : Type 0} (name : WireFault → F) (n : ℕ) → n < 2 ^ 64 → (map_fault name compact).spells (compact_size n) n
unfolding map_fault compact
spells-compact name n h = (h, refl)

pub spells-some_bytes : {F : Type 0} (name : WireFault → F) (n : ℕ) (bytes : List ℕ) → length bytes ≡ n → (map_fault name (some_bytes n)).spells bytes bytes
unfolding map_fault some_bytes
spells-some_bytes name n bytes h = (h, refl)

pub spells-byte : {F : Type 0} (name : WireFault → F) (b : ℕ) → (map_fault name byte).spells (b ∷ []) b
unfolding map_fault byte
spells-byte name b = refl

-- values of a list, each written by its own text, whatever its index
pub spells-times : {F A B : Type 0} (i : ℕ) (p : ℕ → Format F A) (text : B → List ℕ) (f : B → A) (P : B → Type 0) → ((k : ℕ) (b : B) → P b → (p k).spells (text b) (f b)) → (bs : List B) → AllByRecursion P bs → (times i (length bs) p).spells (flat_map text bs) (map f bs)
unfolding times
spells-times {F = F} i p text f P spelled [] all = spells-value F []
spells-times {F = F} i p text f P spelled (b ∷ bs) all =
    let rest = spells-times (i + 1) p text f P spelled bs all.1 in
    let ended = spells-then (times (i + 1) (length bs) p) (λ others. value (f b ∷ others)) (flat_map text bs) [] (map f bs) (f b ∷ map f bs) rest (spells-value F (f b ∷ map f bs)) in
    spells-then (p i) (λ first. sequence (times (i + 1) (length bs) p) (λ others. value (first ∷ others))) (text b) (flat_map text bs) (f b) (f b ∷ map f bs) (spelled i b all.0)
    (subst (λ (t : List ℕ). (sequence (times (i + 1) (length bs) p) (λ others. value (f b ∷ others))).spells t (f b ∷ map f bs)) (append-nil (flat_map text bs)) ended)
