-- The rows of a part, and those that are longer than its path.
use Rattle.std.proofs.Common.{◌≡◌, ℕ, suc, ◌-◌, Bool, true, false, ◌&&◌, List, [], ◌∷◌, ◌++◌, length, take, drop, filter, cond, get_or, inl, inr, ap, sym, ◌∙◌, subst, arith, length-append, append-nil, Contains, AllPairs, nat_lt}
use Rattle.std.proofs.lemmas.Bool.{lt-ltb, le-ltb, false_from_ne_true}
use Rattle.std.proofs.lemmas.List.{take_all}
use Rattle.bit_code.specs.Prefixes.{begins_with}
use Rattle.prefix_table.specs.declared.rows.Row.{Row}
use Rattle.prefix_table.specs.Rows.{path, IsRow, IsTable, Precedes, number_at}
use Rattle.asmap_compile.specs.Compiled.{rows_kept, stays, is_row}
use Rattle.asmap_compile.specs.Inside.{IsPart, IsLonger}
use Rattle.bit_code.proofs.PrefixLaws.{begins_cut, begins_from, begins_long, nil_from}
use Rattle.prefix_table.proofs.Items.{contains_cons, contains_head, filter_item, filter_twice, cons_cases, filter_id, item_filter}
use Rattle.prefix_table.proofs.Rising.{pairs_filter}
use Rattle.prefix_table.proofs.PathLaws.{path_long, table_rows, prefix_first}
use Rattle.asmap_compile.proofs.RowLaws.{kept_rows, number_row, row_at}

-- the rows of a part are those that stay and begin with its path
pub part_item : (table : List Row) (p : List Bool) (left : ℕ) (part : List Row) (depth above default : ℕ) → IsPart table p left part depth above default → (row : Row) → Contains part row → Contains (rows_kept table) row × (begins_with (path row) p ≡ true)
part_item table p left part depth above default is row has =
    filter_item (λ row. begins_with (path row) p) (rows_kept table) row (subst (λ xs. Contains xs row) is.rows has)

pub kept_is_row : (table : List Row) → IsTable table → (row : Row) → Contains (rows_kept table) row → IsRow row
kept_is_row table is row has = (kept_rows table (table_rows table is)).each row has

pub part_rises : (table : List Row) (p : List Bool) (left : ℕ) (part : List Row) (depth above default : ℕ) → IsPart table p left part depth above default → AllPairs Precedes part
part_rises table p left part depth above default is =
    subst (AllPairs Precedes) (sym is.rows) (pairs_filter (λ row. begins_with (path row) p) (rows_kept table) (pairs_filter (stays table) table is.is_table.rising))

part_rising : (table : List Row) (p : List Bool) (left : ℕ) (x : Row) (xs : List Row) (depth above default : ℕ) → IsPart table p left (x ∷ xs) depth above default → (row : Row) → Contains xs row → Precedes x row
part_rising table p left x xs depth above default is row has =
    subst (Precedes x) has.2 (part_rises table p left (x ∷ xs) depth above default is 0 (suc has.0) row (omega arith) (omega (arith, has.1)))

pub path_of_row : (p : List Bool) (row : Row) → begins_with (path row) p ≡ true → row.len ≡ length p → path row ≡ p
path_of_row p row h long =
    let c = begins_cut (path row) p h in
    c.is ∙ ap (λ xs. p ++ xs) (nil_from c.rest (omega (arith, ap length c.is, length-append p c.rest, path_long row))) ∙ append-nil p

-- no row after the first is the path
after_first : (table : List Row) (p : List Bool) (left : ℕ) (x : Row) (xs : List Row) (depth above default : ℕ) → IsPart table p left (x ∷ xs) depth above default → (row : Row) → Contains xs row → row.len ≡ depth → ⊥
after_first table p left x xs depth above default is row has long =
    let head = part_item table p left (x ∷ xs) depth above default is x (contains_head x xs) in
    let more = part_item table p left (x ∷ xs) depth above default is row (contains_cons x row xs has) in
    let same = path_of_row p row more.1 (long ∙ sym is.long) in
    prefix_first x row (kept_is_row table is.is_table x head.0) (kept_is_row table is.is_table row more.0) (subst (λ q. begins_with (path x) q ≡ true) (sym same) head.1)
    (part_rising table p left x xs depth above default is row has)

-- a row that is the path is the first one
first_long : (table : List Row) (p : List Bool) (left : ℕ) (x : Row) (xs : List Row) (depth above default : ℕ) → IsPart table p left (x ∷ xs) depth above default → (row : Row) → Contains (x ∷ xs) row → row.len ≡ depth → x.len ≡ depth
first_long table p left x xs depth above default is row has long =
    elim (cons_cases x xs row has) [
      | inl same ↦ ap (λ (r : Row). r.len) same ∙ long
      | inr later ↦ absurd (after_first table p left x xs depth above default is row later long)
    ]

pub number_first : (table : List Row) (p : List Bool) (left : ℕ) (part : List Row) (depth above default : ℕ) → IsPart table p left part depth above default → (d : Row) → (get_or part 0 d).len ≡ depth → (get_or part 0 d).asn ≡ number_at (rows_kept table) p
number_first table p left [] depth above default is d long = absurd (omega (arith, is.some))
number_first table p left (x ∷ xs) depth above default is d long =
    let head = part_item table p left (x ∷ xs) depth above default is x (contains_head x xs) in
    sym (number_row (rows_kept table) p x (kept_rows table (table_rows table is.is_table)) head.0 (path_of_row p x head.1 (long ∙ sym is.long)))

not_row : (table : List Row) (p : List Bool) (left : ℕ) (x : Row) (xs : List Row) (depth above default : ℕ) → IsPart table p left (x ∷ xs) depth above default → (x.len ≡ depth → ⊥) → is_row (rows_kept table) p ≡ false
not_row table p left x xs depth above default is other =
    false_from_ne_true (is_row (rows_kept table) p)
    (λ h.
    let r = row_at (rows_kept table) p h in
    let starts : begins_with (path r.row) p ≡ true = begins_from (path r.row) p [] (r.is ∙ sym (append-nil p)) in
    let has = subst (λ ys. Contains ys r.row) (sym is.rows) (item_filter (λ row. begins_with (path row) p) (rows_kept table) r.row r.there starts) in
    other (first_long table p left x xs depth above default is r.row has (sym (path_long r.row) ∙ ap length r.is ∙ is.long)))

pub number_above : (table : List Row) (p : List Bool) (left : ℕ) (part : List Row) (depth above default : ℕ) → IsPart table p left part depth above default → (d : Row) → ((get_or part 0 d).len ≡ depth → ⊥) → above ≡ number_at (rows_kept table) p
number_above table p left [] depth above default is d other = absurd (omega (arith, is.some))
number_above table p left (x ∷ xs) depth above default is d other = sym (is.number (not_row table p left x xs depth above default is other))

-- the rows of a part that are longer than its path
longer_of : (table : List Row) (p : List Bool) (left : ℕ) (part : List Row) (depth above default : ℕ) → IsPart table p left part depth above default →
    filter (λ row. nat_lt (length p) row.len) part ≡ filter (λ row. begins_with (path row) p && nat_lt (length p) row.len) (rows_kept table)
longer_of table p left part depth above default is =
    ap (filter (λ row. nat_lt (length p) row.len)) is.rows ∙ filter_twice (λ row. nat_lt (length p) row.len) (λ row. begins_with (path row) p) (rows_kept table)

is_long : (table : List Row) (p : List Bool) (left : ℕ) (part : List Row) (depth above default : ℕ) → IsPart table p left part depth above default → (row : Row) → Contains part row → (row.len ≡ depth → ⊥) → nat_lt (length p) row.len ≡ true
is_long table p left part depth above default is row has other =
    let at = part_item table p left part depth above default is row has in
    lt-ltb (length p) row.len (omega (arith, begins_long (path row) p at.1, path_long row, is.long, other))

pub longer_rest : (table : List Row) (p : List Bool) (left : ℕ) (part : List Row) (depth above default : ℕ) → IsPart table p left part depth above default → (d : Row) → (get_or part 0 d).len ≡ depth → IsLonger table p (take (length part - 1) (drop 1 part))
longer_rest table p left [] depth above default is d long = absurd (omega (arith, is.some))
longer_rest table p left (x ∷ xs) depth above default is d long =
    let test = λ (row : Row). nat_lt (length p) row.len in
    let off : test x ≡ false = le-ltb (length p) x.len (omega (arith, is.long, long)) in
    let rest : filter test xs ≡ xs = filter_id test xs (λ row has. is_long table p left (x ∷ xs) depth above default is row (contains_cons x row xs has) (after_first table p left x xs depth above default is row has)) in
    let all : take (length (x ∷ xs) - 1) xs ≡ xs = take_all (length (x ∷ xs) - 1) xs (omega arith) in
    record { are = all ∙ sym rest ∙ ap (λ b. cond b (x ∷ filter test xs) (filter test xs)) (sym off) ∙ longer_of table p left (x ∷ xs) depth above default is }

pub longer_all : (table : List Row) (p : List Bool) (left : ℕ) (part : List Row) (depth above default : ℕ) → IsPart table p left part depth above default → (d : Row) → ((get_or part 0 d).len ≡ depth → ⊥) → IsLonger table p part
longer_all table p left [] depth above default is d other = absurd (omega (arith, is.some))
longer_all table p left (x ∷ xs) depth above default is d other =
    let test = λ (row : Row). nat_lt (length p) row.len in
    let whole = filter_id test (x ∷ xs) (λ row has. is_long table p left (x ∷ xs) depth above default is row has (λ long. other (first_long table p left x xs depth above default is row has long))) in
    record { are = sym whole ∙ longer_of table p left (x ∷ xs) depth above default is }
