-- The part of two maps below a path by those below its two sides.
use Rattle.std.proofs.Common.{◌≡◌, ℕ, suc, ◌+◌, ◌-◌, ◌<◌, ◌^◌, Bool, true, false, List, [], ◌∷◌, ◌++◌, length, Option, Some, None, refl, ap, sym, ◌∙◌, subst, arith}
use Rattle.asmap_back.specs.Back.{first_at}
use Rattle.map_diff.specs.Diff.{Part, Same, after_bit, part, joined, changes_of}
use Rattle.map_diff.specs.Inside.{IsMap, AreMaps, part_at, rows_at, IsRead, IsPair, HasCause, Sides, AreSides}
use Rattle.map_diff.specs.declared.changed.ChangedPrefix.{ChangedPrefix}
use Rattle.map_diff.specs.declared.cursor.Cursor.{Cursor}
use Rattle.map_diff.specs.declared.cursor.Cursor.TheVariants as cursors
use Rattle.map_diff.specs.declared.walk.Pair.{Pair}
use Rattle.map_diff.specs.declared.walk.Prefix.{Prefix}
use Rattle.map_diff.specs.declared.fault.DiffFault.{DiffFault}
use Rattle.map_diff.proofs.DiffLaws.{all_same}
use Rattle.asmap_back.proofs.Steps.{longer, first_zero, first_one}
use Rattle.map_diff.proofs.Paths.{one_room}
use Rattle.map_diff.proofs.Joins.{left_cause, right_cause, cause_more}

-- the bits that are left after one more
left_after : (p : List Bool) (b : Bool) → length p < 128 → 128 - length p - 1 ≡ 128 - length (p ++ b ∷ [])
left_after p b low = omega (arith, longer p b)

abbrev pub side_part : List Bool → Bool → (List Bool → ℕ) → (List Bool → ℕ) → Part
side_part p b f g = part_at (p ++ b ∷ []) (after_bit b f) (after_bit b g)

split_by : (n m : ℕ) (f g : List Bool → ℕ) → n ≡ suc m → part n f g ≡ joined (part m (after_bit false f) (after_bit false g)) (part m (after_bit true f) (after_bit true g))
unfolding part
split_by n m f g e = ap (λ k. part k f g) e

pub split_part : (p : List Bool) (f g : List Bool → ℕ) → length p < 128 → part_at p f g ≡ joined (side_part p false f g) (side_part p true f g)
split_part p f g low =
    split_by (128 - length p) (128 - length p - 1) f g (omega (arith, low))
    ∙ (λ i. joined (part (left_after p false low i) (after_bit false f) (after_bit false g)) (part (left_after p true low i) (after_bit true f) (after_bit true g)))

-- two fixed cursors are one pair
pub fixed_pair : (old_bits new_bits : List Bool) (at : Prefix) (from to : Cursor) (p : List Bool) (f g : List Bool → ℕ) (a b : ℕ) → from ≡ cursors.Fixed a → to ≡ cursors.Fixed b → AreMaps old_bits new_bits at from to p f g → part_at p f g ≡ Same a b
fixed_pair old_bits new_bits at from to p f g a b e h maps =
    let f_is : f ≡ (λ address. a) = subst (λ x. IsMap old_bits (128 - length p) x f) e maps.old in
    let g_is : g ≡ (λ address. b) = subst (λ x. IsMap new_bits (128 - length p) x g) h maps.new in
    all_same (128 - length p) f g a b (λ bits long. (λ i. f_is i bits, λ i. g_is i bits))

-- the maps below a zero-bit more
pub below_zero : (old_bits new_bits : List Bool) (at side : Prefix) (from to from_zero to_zero : Cursor) (p : List Bool) (f g : List Bool → ℕ) → length p < 128 → side ≡ record at { len = at.len + 1 } → AreMaps old_bits new_bits at from to p f g →
    IsMap old_bits (128 - length p - 1) from_zero (after_bit false f) → IsMap new_bits (128 - length p - 1) to_zero (after_bit false g) → AreMaps old_bits new_bits side from_zero to_zero (p ++ false ∷ []) (after_bit false f) (after_bit false g)
below_zero old_bits new_bits at side from to from_zero to_zero p f g low e h old new =
    record {
      len = longer p false ∙ ap (λ n. n + 1) h.len ∙ sym (ap (λ (x : Prefix). x.len) e);
      bits = first_zero p low ∙ h.bits ∙ sym (ap (λ (x : Prefix). x.bits) e);
      short = omega (arith, longer p false);
      old = subst (λ n. IsMap old_bits n from_zero (after_bit false f)) (left_after p false low) old;
      new = subst (λ n. IsMap new_bits n to_zero (after_bit false g)) (left_after p false low) new;
    }

-- and below a one-bit more
pub below_one : (old_bits new_bits : List Bool) (at one : Prefix) (from to from_one to_one : Cursor) (p : List Bool) (f g : List Bool → ℕ) → length p < 128 → one ≡ record { bits = at.bits + 2 ^ (127 - at.len); len = at.len + 1 } → AreMaps old_bits new_bits at from to p f g →
    IsMap old_bits (128 - length p - 1) from_one (after_bit true f) → IsMap new_bits (128 - length p - 1) to_one (after_bit true g) → AreMaps old_bits new_bits one from_one to_one (p ++ true ∷ []) (after_bit true f) (after_bit true g)
below_one old_bits new_bits at one from to from_one to_one p f g low e h old new =
    record {
      len = longer p true ∙ ap (λ n. n + 1) h.len ∙ sym (ap (λ (x : Prefix). x.len) e);
      bits = first_one p low ∙ (λ i. h.bits i + 2 ^ (127 - h.len i)) ∙ sym (ap (λ (x : Prefix). x.bits) e);
      short = omega (arith, longer p true);
      old = subst (λ n. IsMap old_bits n from_one (after_bit true f)) (left_after p true low) old;
      new = subst (λ n. IsMap new_bits n to_one (after_bit true g)) (left_after p true low) new;
    }

-- a prefix with a bit more has its bits below the top
pub room_at : (old_bits new_bits : List Bool) (at : Prefix) (from to : Cursor) (p : List Bool) (f g : List Bool → ℕ) → length p < 128 → AreMaps old_bits new_bits at from to p f g → at.bits + 2 ^ (127 - at.len) < 2 ^ 128
room_at old_bits new_bits at from to p f g low h = subst (λ n. n < 2 ^ 128) (λ i. h.bits i + 2 ^ (127 - h.len i)) (one_room p low)

cause_by : (rows : List ChangedPrefix) (whole other : Part) (n m : ℕ) (fault : DiffFault) → whole ≡ other → n ≡ m → HasCause rows whole n fault → HasCause rows other m fault
cause_by rows whole other n m fault e h cause = subst (λ w. HasCause rows w m fault) e (subst (λ k. HasCause rows whole k fault) h cause)

one_more : (p : List Bool) (b : Bool) → length p < 128 → 128 - length (p ++ b ∷ []) + 1 ≡ 128 - length p
one_more p b low = omega (arith, longer p b)

-- the fault of the left side
pub left_fault : (p : List Bool) (f g : List Bool → ℕ) (rows : List ChangedPrefix) (fault : DiffFault) → length p < 128 → HasCause rows (side_part p false f g) (128 - length (p ++ false ∷ [])) fault → HasCause rows (part_at p f g) (128 - length p) fault
left_fault p f g rows fault low cause =
    let l = side_part p false f g in
    let r = side_part p true f g in
    let n = 128 - length (p ++ false ∷ []) in
    cause_by rows (joined l r) (part_at p f g) (n + 1) (128 - length p) fault (sym (split_part p f g low)) (one_more p false low) (left_cause l r rows n fault cause)

-- the fault of its change
pub put_fault : (p : List Bool) (f g : List Bool → ℕ) (rows : List ChangedPrefix) (fault : DiffFault) → length p < 128 → HasCause rows (side_part p false f g) 0 fault → HasCause rows (part_at p f g) (128 - length p) fault
put_fault p f g rows fault low cause =
    left_fault p f g rows fault low (cause_more rows (side_part p false f g) (128 - length (p ++ false ∷ [])) fault cause)

-- the fault of the right side
pub right_fault : (p : List Bool) (f g : List Bool → ℕ) (rows between : List ChangedPrefix) (fault : DiffFault) → length p < 128 → between ≡ rows ++ rows_at (p ++ false ∷ []) (changes_of (side_part p false f g)) → HasCause between (side_part p true f g) (128 - length (p ++ true ∷ [])) fault → HasCause rows (part_at p f g) (128 - length p) fault
right_fault p f g rows between fault low e cause =
    let l = side_part p false f g in
    let r = side_part p true f g in
    let n = 128 - length (p ++ true ∷ []) in
    cause_by rows (joined l r) (part_at p f g) (n + 1) (128 - length p) fault (sym (split_part p f g low)) (one_more p true low) (right_cause (p ++ false ∷ []) l r rows between n fault e cause)

-- the fault of the last change
pub join_fault : (p : List Bool) (f g : List Bool → ℕ) (rows : List ChangedPrefix) (fault : DiffFault) → length p < 128 → HasCause rows (joined (side_part p false f g) (side_part p true f g)) 0 fault → HasCause rows (part_at p f g) (128 - length p) fault
join_fault p f g rows fault low cause =
    let whole = joined (side_part p false f g) (side_part p true f g) in
    cause_by rows whole (part_at p f g) (128 - length p) (128 - length p) fault (sym (split_part p f g low)) refl (cause_more rows whole (128 - length p) fault cause)

-- what was read is a pair or none
read_pair : (p : List Bool) (whole : Part) (rows rows_after : List ChangedPrefix) (pair : Option Pair) → IsRead p whole rows rows_after pair → IsPair whole pair
read_pair p whole rows rows_after (Some pair) h = h.0
read_pair p whole rows rows_after None h = (h.0, h.1)

abbrev pub sides_of : List Bool → (List Bool → ℕ) → (List Bool → ℕ) → List ChangedPrefix → Sides
sides_of p f g rows = record { path = p; left = side_part p false f g; right = side_part p true f g; rows = rows }

-- both sides were read
pub both_sides : (p : List Bool) (f g : List Bool → ℕ) (rows first between rows_after : List ChangedPrefix) (before : ℕ) (left right : Option Pair) (one : Prefix) → length (p ++ true ∷ []) ≡ one.len → first_at (p ++ true ∷ []) ≡ one.bits → before ≡ length rows →
    IsRead (p ++ false ∷ []) (side_part p false f g) rows first left → between ≡ rows ++ rows_at (p ++ false ∷ []) (changes_of (side_part p false f g)) → IsRead (p ++ true ∷ []) (side_part p true f g) between rows_after right → AreSides (sides_of p f g rows) rows_after before left right one
both_sides p f g rows first between rows_after before left right one len bits before_is left_read e right_read =
    record {
      len = len;
      bits = bits;
      before_is = before_is;
      left_is = read_pair (p ++ false ∷ []) (side_part p false f g) rows first left left_read;
      right_is = subst (λ xs. IsRead (p ++ true ∷ []) (side_part p true f g) xs rows_after right) e right_read;
    }

-- the whole part was read
pub whole_read : (p : List Bool) (f g : List Bool → ℕ) (rows rows_after : List ChangedPrefix) (pair : Option Pair) → length p < 128 → IsRead p (joined (side_part p false f g) (side_part p true f g)) rows rows_after pair → IsRead p (part_at p f g) rows rows_after pair
whole_read p f g rows rows_after pair low h = subst (λ w. IsRead p w rows rows_after pair) (sym (split_part p f g low)) h
