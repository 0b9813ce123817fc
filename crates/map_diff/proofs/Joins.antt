-- How the changes of two sides become those of a part.
use Rattle.std.proofs.Common.{◌≡◌, ℕ, suc, ◌==◌, ◌+◌, ◌≤◌, Bool, true, false, List, [], ◌∷◌, ◌++◌, map, length, take, cond, Option, Some, None, refl, ap, sym, ◌∙◌, subst, arith, append_assoc, length-append}
use Rattle.asmap_back.specs.Back.{first_at}
use Rattle.map_diff.specs.Diff.{Change, Part, Same, Mixed, under_bit, unless_equal, changes_of, same_pair, both, joined, changed_at}
use Rattle.map_diff.specs.Inside.{rows_at, IsRead, HasCause, Sides, is_one_pair, AreSides}
use Rattle.map_diff.specs.declared.changed.ChangedPrefix.{ChangedPrefix}
use Rattle.map_diff.specs.declared.walk.Pair.{Pair}
use Rattle.map_diff.specs.declared.walk.Prefix.{Prefix}
use Rattle.map_diff.specs.declared.fault.DiffFault.{DiffFault}
use Rattle.map_diff.specs.declared.fault.DiffFault.TheVariants.{TooMany, Memory}
use Rattle.map_diff.proofs.DiffLaws.{same_first, same_second}
use Rattle.map_diff.proofs.Parts.{true_false, both_long}

-- changes below a bit are those below the longer path
pub rows_under : (p : List Bool) (b : Bool) (cs : List Change) → rows_at p (map (under_bit b) cs) ≡ rows_at (p ++ b ∷ []) cs
unfolding rows_at
rows_under p b [] = refl
rows_under p b (c ∷ cs) =
    let long : p ++ (b ∷ c.path) ≡ (p ++ b ∷ []) ++ c.path = sym (append_assoc p (b ∷ []) c.path) in
    λ i. row (long i) c ∷ rows_under p b cs i
  where
    row : List Bool → Change → ChangedPrefix
    row q c = record { bits = first_at q; len = length q; old = c.old; new = c.new }

pub rows_append : (p : List Bool) (xs ys : List Change) → rows_at p (xs ++ ys) ≡ rows_at p xs ++ rows_at p ys
unfolding rows_at
rows_append p [] ys = refl
rows_append p (c ∷ cs) ys = ap (λ rest. changed_at p c ∷ rest) (rows_append p cs ys)

-- the rows of two sides
rows_both : (p : List Bool) (l r : Part) → rows_at p (changes_of (both l r)) ≡ rows_at (p ++ false ∷ []) (changes_of l) ++ rows_at (p ++ true ∷ []) (changes_of r)
unfolding changes_of
rows_both p l r =
    rows_append p (map (under_bit false) (changes_of l)) (map (under_bit true) (changes_of r))
    ∙ (λ i. rows_under p false (changes_of l) i ++ rows_under p true (changes_of r) i)

-- the rows of a side were appended, if its pair was
pub record IsPut (p : List Bool) (whole : Part) (rows rows_after : List ChangedPrefix) : Type 0 where
  pub put : rows_after ≡ rows ++ rows_at p (changes_of whole)

-- a side that is no pair
pub mixed_put : (p : List Bool) (whole : Part) (rows rows_after : List ChangedPrefix) → IsRead p whole rows rows_after None → rows_after ≡ rows ++ rows_at p (changes_of whole)
unfolding changes_of
mixed_put p whole rows rows_after h = h.2 ∙ ap (λ w. rows ++ rows_at p (changes_of w)) (sym h.1)

-- a side that is a pair, whose change was appended
pub pair_put : (p : List Bool) (whole : Part) (pair : Pair) (rows between rows_after : List ChangedPrefix) → IsRead p whole rows between (Some pair) → rows_after ≡ between ++ rows_at p (unless_equal pair.old pair.new) → rows_after ≡ rows ++ rows_at p (changes_of whole)
unfolding changes_of
pair_put p whole pair rows between rows_after h e =
    e ∙ ap (λ xs. xs ++ rows_at p (unless_equal pair.old pair.new)) h.1 ∙ ap (λ w. rows ++ rows_at p (changes_of w)) (sym h.0)

-- ---- the whole part

-- two sides that are not one pair
abbrev Differs : Part → Part → Type 0
Differs l r = joined l r ≡ both l r

both_read : (s : Sides) (rows_after : List ChangedPrefix) → Differs s.left s.right → rows_after ≡ (s.rows ++ rows_at (s.path ++ false ∷ []) (changes_of s.left)) ++ rows_at (s.path ++ true ∷ []) (changes_of s.right) → IsRead s.path (joined s.left s.right) s.rows rows_after None
unfolding changes_of
both_read s rows_after differs e =
    let l = rows_at (s.path ++ false ∷ []) (changes_of s.left) in
    let r = rows_at (s.path ++ true ∷ []) (changes_of s.right) in
    (changes_of (both s.left s.right), differs, e ∙ append_assoc s.rows l r ∙ ap (λ xs. s.rows ++ xs) (sym (rows_both s.path s.left s.right)))

mixed_right : (l r : Part) (cs : List Change) → r ≡ Mixed cs → Differs l r
unfolding joined
mixed_right (Same a b) r cs e = subst (λ x. joined (Same a b) x ≡ both (Same a b) x) (sym e) refl
mixed_right (Mixed xs) r cs e = refl

mixed_left : (l r : Part) (cs : List Change) → l ≡ Mixed cs → Differs l r
unfolding joined
mixed_left l r cs e = subst (λ x. joined x r ≡ both x r) (sym e) refl

pairs_differ : (l r : Part) (a b : Pair) → l ≡ Same a.old a.new → r ≡ Same b.old b.new → same_pair a.old a.new b.old b.new ≡ false → Differs l r
unfolding joined
pairs_differ l r a b e f off =
    subst (λ x. joined x r ≡ both x r) (sym e) (subst (λ y. joined (Same a.old a.new) y ≡ both (Same a.old a.new) y) (sym f) (ap (λ t. cond t (Same a.old a.new) (both (Same a.old a.new) (Same b.old b.new))) off))

-- two sides that are not one pair
sides_differ : (s : Sides) (rows : List ChangedPrefix) (before : ℕ) (left right : Option Pair) (one : Prefix) → AreSides s rows before left right one → is_one_pair left right ≡ false → Differs s.left s.right
sides_differ s rows before None right one h off = mixed_left s.left s.right h.left_is.0 h.left_is.1
sides_differ s rows before (Some a) None one h off = mixed_right s.left s.right h.right_is.0 h.right_is.1
sides_differ s rows before (Some a) (Some b) one h off = pairs_differ s.left s.right a b h.left_is h.right_is.0 off

-- the right side's changes were appended
pub ends_apart : (s : Sides) (rows rows_after : List ChangedPrefix) (before : ℕ) (left right : Option Pair) (one : Prefix) → AreSides s rows before left right one → is_one_pair left right ≡ false →
    rows_after ≡ (s.rows ++ rows_at (s.path ++ false ∷ []) (changes_of s.left)) ++ rows_at (s.path ++ true ∷ []) (changes_of s.right) → IsRead s.path (joined s.left s.right) s.rows rows_after None
ends_apart s rows rows_after before left right one h off e = both_read s rows_after (sides_differ s rows before left right one h off) e

one_pair : (l r : Part) (a b : Pair) → l ≡ Same a.old a.new → r ≡ Same b.old b.new → same_pair a.old a.new b.old b.new ≡ true → joined l r ≡ Same b.old b.new
unfolding joined
one_pair l r a b e f on =
    (λ i. joined (e i) (f i)) ∙ ap (λ t. cond t (Same a.old a.new) (both (Same a.old a.new) (Same b.old b.new))) on
    ∙ (λ i. Same (same_first a.old a.new b.old b.new on i) (same_second a.old a.new b.old b.new on i))

take_start : (xs ys : List ChangedPrefix) → take (length xs) (xs ++ ys) ≡ xs
take_start [] ys = refl
take_start (x ∷ xs) ys = ap (λ rest. x ∷ rest) (take_start xs ys)

-- both sides are one pair
pub ends_same : (s : Sides) (rows rows_after : List ChangedPrefix) (before : ℕ) (left right : Option Pair) (one : Prefix) → AreSides s rows before left right one → is_one_pair left right ≡ true → rows_after ≡ take before rows → IsRead s.path (joined s.left s.right) s.rows rows_after right
ends_same s rows rows_after before None right one h on e = absurd (true_false (sym on))
ends_same s rows rows_after before (Some a) None one h on e = absurd (true_false (sym on))
ends_same s rows rows_after before (Some a) (Some b) one h on e = (
  one_pair s.left s.right a b h.left_is h.right_is.0 on,
  e ∙ (λ i. take (h.before_is i) (h.right_is.1 i)) ∙ take_start s.rows (rows_at (s.path ++ false ∷ []) (changes_of s.left)),
)

-- ---- too many rows

rows_long : (p : List Bool) (cs : List Change) → length (rows_at p cs) ≡ length cs
unfolding rows_at
rows_long p [] = refl
rows_long p (c ∷ cs) = ap suc (rows_long p cs)

equal_long : (a b : ℕ) (t : Bool) → (a == b) ≡ t → length (unless_equal a b) ≤ 1
unfolding unless_equal
equal_long a b true e = rw e omega arith
equal_long a b false e = rw e omega arith

-- how many changes a part has beside its two sides
record AreLong (l r whole : Part) : Type 0 where
  first : length (changes_of l) ≤ length (changes_of whole)
  sum : length (changes_of l) + length (changes_of r) ≤ length (changes_of whole) + 1

long_both : (l r : Part) → AreLong l r (both l r)
long_both l r = record { first = omega (arith, both_long l r); sum = omega (arith, both_long l r) }

long_pair : (a b c d : ℕ) (t : Bool) → same_pair a b c d ≡ t → AreLong (Same a b) (Same c d) (cond t (Same a b) (both (Same a b) (Same c d)))
unfolding changes_of
long_pair a b c d true on =
    let same : length (unless_equal c d) ≡ length (unless_equal a b) = λ i. length (unless_equal (sym (same_first a b c d on) i) (sym (same_second a b c d on) i)) in
    record { first = omega arith; sum = omega (arith, same, equal_long a b (a == b) refl) }
long_pair a b c d false on = long_both (Same a b) (Same c d)

long_joined : (l r : Part) → AreLong l r (joined l r)
unfolding joined
long_joined (Same a b) (Same c d) = long_pair a b c d (same_pair a b c d) refl
long_joined (Same a b) (Mixed cs) = long_both (Same a b) (Mixed cs)
long_joined (Mixed cs) r = long_both (Mixed cs) r

-- the left side has too many rows
pub left_cause : (l r : Part) (rows : List ChangedPrefix) (n : ℕ) (fault : DiffFault) → HasCause rows l n fault → HasCause rows (joined l r) (n + 1) fault
left_cause l r rows n TooMany h = omega (arith, h, (long_joined l r).first)
left_cause l r rows n Memory h = tt

-- the right side has, after the left one
pub right_cause : (p : List Bool) (l r : Part) (rows between : List ChangedPrefix) (n : ℕ) (fault : DiffFault) → between ≡ rows ++ rows_at p (changes_of l) → HasCause between r n fault → HasCause rows (joined l r) (n + 1) fault
right_cause p l r rows between n TooMany e h =
    omega (arith, h, (long_joined l r).sum, ap length e, length-append rows (rows_at p (changes_of l)), rows_long p (changes_of l))
right_cause p l r rows between n Memory e h = tt

-- the changes of the right side are too many, with no bit left
pub apart_cause : (s : Sides) (rows : List ChangedPrefix) (before : ℕ) (left right : Option Pair) (one : Prefix) (fault : DiffFault) → AreSides s rows before left right one → is_one_pair left right ≡ false → HasCause (s.rows ++ rows_at (s.path ++ false ∷ []) (changes_of s.left)) s.right 0 fault → HasCause s.rows (joined s.left s.right) 0 fault
apart_cause s rows before left right one TooMany h off cause =
    let l = rows_at (s.path ++ false ∷ []) (changes_of s.left) in
    omega (
      arith,
      cause,
      ap (λ w. length (changes_of w)) (sides_differ s rows before left right one h off),
      both_long s.left s.right,
      length-append s.rows l,
      rows_long (s.path ++ false ∷ []) (changes_of s.left),
    )
apart_cause s rows before left right one Memory h off cause = tt

-- with more bits left there may be more rows to take back
pub cause_more : (rows : List ChangedPrefix) (whole : Part) (n : ℕ) (fault : DiffFault) → HasCause rows whole 0 fault → HasCause rows whole n fault
cause_more rows whole n TooMany h = omega (arith, h)
cause_more rows whole n Memory h = tt
