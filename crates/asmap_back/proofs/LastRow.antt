-- The number of the last row, in their order, that is a prefix of an address. Among rows that rise
-- it is the longest.
use Rattle.std.proofs.Common.{◌≡◌, ℕ, ◌<◌, ◌≤◌, Bool, true, false, List, [], ◌∷◌, ◌++◌, length, filter, cond, inl, inr, refl, ap, sym, ◌∙◌, arith, Contains, Some}
use Rattle.std.specs.Prelude.{if◌then◌else◌, Option}
use Rattle.std.specs.Option.{option_map_or}
use Rattle.std.proofs.lemmas.Bool.{cases_lt, lt-ltb}
use Rattle.bit_code.specs.Prefixes.{begins_with}
use Rattle.prefix_table.specs.declared.rows.Row.{Row}
use Rattle.prefix_table.specs.Rows.{path, longest, longer, IsRow, Precedes}
use Rattle.prefix_table.specs.Rows.{number_at}
use Rattle.bit_code.proofs.PrefixLaws.{begins_cut, begins_within}
use Rattle.prefix_table.proofs.Items.{contains_cons, contains_head, filter_item}
use Rattle.prefix_table.proofs.PathLaws.{prefix_first}
use Rattle.prefix_table.proofs.Rising.{Rises}
use Rattle.prefix_table.proofs.PathLaws.{path_long, longest_some}

-- the number of the last of the rows that is a prefix of the bits, or this number
unfoldable pub last_number : List Row → List Bool → ℕ → ℕ
last_number [] bits number = number
last_number (row ∷ rows) bits number = last_number rows bits (if begins_with bits (path row) then row.asn else number)

pub last_append : (xs ys : List Row) (bits : List Bool) (number : ℕ) → last_number (xs ++ ys) bits number ≡ last_number ys bits (last_number xs bits number)
unfolding last_number
last_append [] ys bits number = refl
last_append (x ∷ xs) ys bits number = last_append xs ys bits (if begins_with bits (path x) then x.asn else number)

-- rows that are no prefix of the bits change nothing
pub last_off : (rows : List Row) (bits : List Bool) (number : ℕ) → ((row : Row) → Contains rows row → begins_with bits (path row) ≡ false) → last_number rows bits number ≡ number
unfolding last_number
last_off [] bits number off = refl
last_off (row ∷ rows) bits number off =
    ap (λ b. last_number rows bits (cond b row.asn number)) (off row (contains_head row rows)) ∙ last_off rows bits number (λ other has. off other (contains_cons row other rows has))

-- two prefixes of the same bits
pub prefixes_of : (bits a b : List Bool) → begins_with bits a ≡ true → begins_with bits b ≡ true → length b ≤ length a → begins_with a b ≡ true
prefixes_of bits a b h k low =
    let f = begins_cut bits a h in
    begins_within a f.rest b (ap (λ xs. begins_with xs b) (sym f.is) ∙ k) low

later_longer : (x y : Row) (bits : List Bool) → IsRow x → IsRow y → Precedes x y → begins_with bits (path x) ≡ true → begins_with bits (path y) ≡ true → x.len < y.len
later_longer x y bits is are before h k =
    elim (cases_lt x.len y.len) [
      | inl less ↦ less
      | inr more ↦ absurd (prefix_first x y is are (prefixes_of bits (path x) (path y) h k (omega (arith, more, path_long x, path_long y))) before)
    ]

abbrev asn_or : Option Row → ℕ → ℕ
asn_or o number = option_map_or (λ (row : Row). row.asn) o number

-- a row before longer ones
longest_after : (x : Row) (xs : List Row) → ((y : Row) → Contains xs y → x.len < y.len) → (number : ℕ) → asn_or (longest (x ∷ xs)) number ≡ asn_or (longest xs) x.asn
unfolding longest
longest_after x [] later number = refl
longest_after x (y ∷ ys) later number =
    let l = longest_some (y ∷ ys) y (contains_head y ys) in
    let less = lt-ltb x.len l.row.len (later l.row l.there) in
    ap (λ o. asn_or (Some (longer x o)) number) l.is ∙ ap (λ b. (cond b l.row x).asn) less ∙ ap (λ o. asn_or o x.asn) (sym l.is)

longest_by : (x : Row) (xs : List Row) (bits : List Bool) (number : ℕ) (b : Bool) → begins_with bits (path x) ≡ b → Rises (x ∷ xs) → ((row : Row) → Contains (x ∷ xs) row → IsRow row) →
    ((n : ℕ) → asn_or (longest (filter (λ row. begins_with bits (path row)) xs)) n ≡ last_number xs bits n) →
    asn_or (longest (cond b (x ∷ filter (λ row. begins_with bits (path row)) xs) (filter (λ row. begins_with bits (path row)) xs))) number ≡ last_number xs bits (cond b x.asn number)
unfolding Rises
longest_by x xs bits number true e rise each more =
    longest_after x (filter (λ row. begins_with bits (path row)) xs)
    (λ y has.
    let f = filter_item (λ row. begins_with bits (path row)) xs y has in
    later_longer x y bits (each x (contains_head x xs)) (each y (contains_cons x y xs f.0)) (rise.0 y f.0) e f.1)
    number
    ∙ more x.asn
longest_by x xs bits number false e rise each more = more number

-- among rows that rise the last prefix is the longest
pub longest_last : (rows : List Row) (bits : List Bool) (number : ℕ) → Rises rows → ((row : Row) → Contains rows row → IsRow row) →
    asn_or (longest (filter (λ row. begins_with bits (path row)) rows)) number ≡ last_number rows bits number
unfolding last_number longest Rises
longest_last [] bits number rise each = refl
longest_last (x ∷ xs) bits number rise each =
    longest_by x xs bits number (begins_with bits (path x)) refl rise each (λ n. longest_last xs bits n rise.1 (λ row has. each row (contains_cons x row xs has)))

pub number_last : (rows : List Row) (bits : List Bool) → Rises rows → ((row : Row) → Contains rows row → IsRow row) → number_at rows bits ≡ last_number rows bits 0
unfolding number_at
number_last rows bits rise each = longest_last rows bits 0 rise each
