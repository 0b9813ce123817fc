-- How long the code of a compiled tree is: long enough for every jump in it to be spelled, and
-- short enough.
use Rattle.std.proofs.Common.{◌≡◌, ℕ, zero, suc, ◌+◌, ◌-◌, ◌*◌, ◌^◌, ◌<◌, ◌≤◌, Bool, true, false, ◌&&◌, cond, List, [], ◌∷◌, ◌++◌, length, take, drop, ◌⊎◌, inl, inr, refl, ap, sym, ◌∙◌, subst, arith, length-append, nat_lt, leb}
use Rattle.std.specs.List.{list_all, filter}
use Rattle.std.proofs.lemmas.Bool.{cases_eq, leb-true, and_parts}
use Rattle.std.proofs.lemmas.List.{length-drop}
use Rattle.std.proofs.Math.Nat.{mul-le-mul_right}
use Rattle.bit_code.specs.Coder.{digits, number_of, spelling, spelling_by, sizes}
use Rattle.bit_code.specs.declared.coder.Coder.TheVariants as coders
use Rattle.bit_code.proofs.DigitLaws.{length-digits}
use Rattle.bit_code.proofs.SpellingLaws.{length-spelling_asn}
use Rattle.bit_code.specs.Prefixes.{begins_with}
use Rattle.asmap_vm.specs.Code.{Tree, Return, Jump, Match, Default, code, return_kind, jump_kind, match_kind, default_kind}
use Rattle.prefix_table.specs.declared.rows.Row.{Row}
use Rattle.prefix_table.specs.Rows.{path, number_at}
use Rattle.asmap_compile.specs.Compiled.{is_row, Single, Forked, onward, matches, under_default, tree_at}
use Rattle.bit_code.proofs.PrefixLaws.{begins_start, begins_long, nil_from, sides_same, false_true}
use Rattle.prefix_table.proofs.Items.{Passes, any_item, item_filter}
use Rattle.prefix_table.proofs.PathLaws.{AreRows}
use Rattle.asmap_compile.proofs.Trees.{tree_last, tree_end, way_bits, tree_single, tree_forked, default_holds, default_set}
use Rattle.asmap_compile.proofs.Ways.{Begun, Turn, turn, turn_end, turn_single, turn_forked, begun_side, begun_short, IsWay, way_is}

-- the spelling of a number of any coder is that long at most
most_by : (m size : ℕ) (rest : List ℕ) (n : ℕ) (b : Bool) (more : List Bool) → size ≤ m → length more ≤ suc (length rest) + m → length (cond b (false ∷ digits size n) (true ∷ more)) ≤ suc (suc (length rest)) + m
most_by m size rest n true more low next = omega (arith, length-digits size n)
most_by m size rest n false more low next = omega arith

most_spelled : (m : ℕ) (classes : List ℕ) (n : ℕ) → list_all (λ size. leb size m) classes ≡ true → length (spelling_by classes n) ≤ length classes + m
unfolding spelling_by
most_spelled m [] n h = omega arith
most_spelled m (size ∷ []) n h = let b = and_parts (leb size m) true h in omega (arith, length-digits size n, leb-true size m b.0)
most_spelled m (size ∷ next ∷ rest) n h =
    let b = and_parts (leb size m) (list_all (λ size. leb size m) (next ∷ rest)) h in
    most_by m size rest n (nat_lt n (2 ^ size)) (spelling_by (next ∷ rest) (n - 2 ^ size)) (leb-true size m b.0) (most_spelled m (next ∷ rest) (n - 2 ^ size) b.1)

asn_most : (n : ℕ) → length (spelling coders.Asn n) ≤ 34
unfolding spelling sizes
asn_most n = most_spelled 24 (sizes coders.Asn) (n - 1) refl

match_most : (n : ℕ) → length (spelling coders.Match n) ≤ 16
unfolding spelling sizes
match_most n = most_spelled 8 (sizes coders.Match) (n - 2) refl

jump_most : (n : ℕ) → length (spelling coders.Jump n) ≤ 56
unfolding spelling sizes
jump_most n = most_spelled 30 (sizes coders.Jump) (n - 17) refl

kind_long : (length (spelling coders.Kind return_kind) ≡ 1) × (length (spelling coders.Kind jump_kind) ≡ 2) × (length (spelling coders.Kind match_kind) ≡ 3) × (length (spelling coders.Kind default_kind) ≡ 3)
unfolding spelling spelling_by sizes digits
kind_long = (refl, refl, refl, refl)

pub return_long : (n : ℕ) → length (code (Return n)) ≡ 1 + length (spelling coders.Asn n)
unfolding code
return_long n = omega (arith, length-append (spelling coders.Kind return_kind) (spelling coders.Asn n), kind_long.0)

pub jump_long : (l r : Tree) → length (code (Jump l r)) ≡ 2 + length (spelling coders.Jump (length (code l))) + length (code l) + length (code r)
unfolding code
jump_long l r =
    let number = spelling coders.Jump (length (code l)) in
    let kind = spelling coders.Kind jump_kind in
    omega (arith, length-append kind number, length-append (kind ++ number) (code l), length-append (kind ++ number ++ code l) (code r), kind_long.1)

pub match_long : (wanted : List Bool) (t : Tree) → length (code (Match wanted t)) ≡ 3 + length (spelling coders.Match (number_of (true ∷ wanted))) + length (code t)
unfolding code
match_long wanted t =
    let number = spelling coders.Match (number_of (true ∷ wanted)) in
    let kind = spelling coders.Kind match_kind in
    omega (arith, length-append kind number, length-append (kind ++ number) (code t), kind_long.2)

pub default_long : (n : ℕ) (t : Tree) → length (code (Default n t)) ≡ 3 + length (spelling coders.Asn n) + length (code t)
unfolding code
default_long n t =
    let number = spelling coders.Asn n in
    let kind = spelling coders.Kind default_kind in
    omega (arith, length-append kind number, length-append (kind ++ number) (code t), kind_long.3)

-- the shortest code is that of a return
pub code_least : (t : Tree) → 17 ≤ length (code t)
code_least (Return n) = omega (arith, return_long n, length-spelling_asn n)
code_least (Jump l r) = omega (arith, jump_long l r, code_least l)
code_least (Match wanted t) = omega (arith, match_long wanted t, code_least t)
code_least (Default n t) = omega (arith, default_long n t, code_least t)

pub matches_none : (count : ℕ) (t : Tree) → matches count [] t ≡ t
unfolding matches
matches_none zero t = refl
matches_none (suc count) t = refl

-- the matches of some bits
matches_most : (count : ℕ) (bits : List Bool) (t : Tree) → length bits ≤ 8 * count → 0 < length bits → length (code (matches count bits t)) ≤ 19 + 3 * length bits + length (code t)
unfolding matches
matches_most zero bits t low some = absurd (omega arith)
matches_most (suc count) [] t low some = absurd (omega arith)
matches_most (suc count) (b ∷ bits) t low some =
    let xs : List Bool = b ∷ bits in
    let start = take 8 xs in
    let back = drop 8 xs in
    let next = matches count back t in
    let head = match_long start next in
    let number = match_most (number_of (true ∷ start)) in
    elim (cases_eq (length back) 0) [
      | inl none ↦
          let last : length (code next) ≡ length (code t) = ap (λ ys. length (code (matches count ys t))) (nil_from back none) ∙ ap (λ u. length (code u)) (matches_none count t) in
          omega (arith, head, number, last)
      | inr more ↦ omega (arith, head, number, length-drop 8 xs, matches_most count back t (omega (arith, length-drop 8 xs)) (omega arith))
    ]

default_most : (default before : ℕ) (t : Tree) → length (code (under_default default before t)) ≤ 37 + length (code t)
default_most default before t =
    elim (cases_eq default before) [
      | inl same ↦ omega (arith, ap (λ u. length (code u)) (default_holds default before t same))
      | inr other ↦ omega (arith, ap (λ u. length (code u)) (default_set default before t other), default_long default t, asn_most default)
    ]

-- how many rows begin with a path
abbrev pub rows_at : List Row → List Bool → ℕ
rows_at rows p = length (filter (λ row. begins_with (path row) p) rows)

bit : Bool → ℕ
bit true = 1
bit false = 0

bits_add : (a b c : Bool) → (a ≡ true → c ≡ true) → (b ≡ true → c ≡ true) → (a ≡ true → b ≡ true → ⊥) → bit a + bit b ≤ bit c
unfolding bit
bits_add true true c f g apart = absurd (apart refl refl)
bits_add true false true f g apart = omega arith
bits_add true false false f g apart = absurd (false_true refl (f refl))
bits_add false true true f g apart = omega arith
bits_add false true false f g apart = absurd (false_true refl (g refl))
bits_add false false c f g apart = omega arith

bit_long : {X : Type 0} (b : Bool) (x : X) (ys : List X) → length (cond b (x ∷ ys) ys) ≡ bit b + length ys
unfolding bit
bit_long true x ys = omega arith
bit_long false x ys = omega arith

-- two tests that exclude each other, and a third that passes whatever passes one of them
filters_add : {X : Type 0} (f g k : X → Bool) → ((x : X) → bit (f x) + bit (g x) ≤ bit (k x)) → (xs : List X) → length (filter f xs) + length (filter g xs) ≤ length (filter k xs)
filters_add f g k each [] = omega arith
filters_add f g k each (x ∷ xs) =
    omega (arith, each x, filters_add f g k each xs, bit_long (f x) x (filter f xs), bit_long (g x) x (filter g xs), bit_long (k x) x (filter k xs))

filter_some : {X : Type 0} (f : X → Bool) (xs : List X) → Passes f xs → 1 ≤ length (filter f xs)
filter_some f xs p = omega (arith, (item_filter f xs p.item p.there p.passes).1)

pub rows_some : (rows : List Row) (p : List Bool) → Begun rows p → 1 ≤ rows_at rows p
rows_some rows p b = filter_some (λ row. begins_with (path row) p) rows b

rows_forked : (rows : List Row) (p : List Bool) → rows_at rows (p ++ false ∷ []) + rows_at rows (p ++ true ∷ []) ≤ rows_at rows p
rows_forked rows p =
    filters_add (λ row. begins_with (path row) (p ++ false ∷ [])) (λ row. begins_with (path row) (p ++ true ∷ [])) (λ row. begins_with (path row) p)
    (λ row.
    bits_add (begins_with (path row) (p ++ false ∷ [])) (begins_with (path row) (p ++ true ∷ [])) (begins_with (path row) p)
    (begins_start (path row) p (false ∷ [])) (begins_start (path row) p (true ∷ []))
    (λ low high. false_true refl (sides_same (path row) p false true low high)))
    rows

abbrev is_path : List Bool → Row → Bool
is_path p row = begins_with (path row) p && begins_with p (path row)

rows_less : (rows : List Row) (p bits : List Bool) → 0 < length bits → is_row rows p ≡ true → rows_at rows (p ++ bits) + 1 ≤ rows_at rows p
unfolding is_row
rows_less rows p bits some h =
    let add =
    filters_add (λ row. begins_with (path row) (p ++ bits)) (is_path p) (λ row. begins_with (path row) p)
    (λ row.
    bits_add (begins_with (path row) (p ++ bits)) (is_path p row) (begins_with (path row) p)
    (begins_start (path row) p bits) (λ at. (and_parts (begins_with (path row) p) (begins_with p (path row)) at).0)
    (λ more at. omega (arith, begins_long (path row) (p ++ bits) more, length-append p bits, begins_long p (path row) (and_parts (begins_with (path row) p) (begins_with p (path row)) at).1)))
    rows in
    omega (arith, add, filter_some (is_path p) rows (any_item (is_path p) rows h))

rows_most : (rows : List Row) (p bits : List Bool) → rows_at rows (p ++ bits) ≤ rows_at rows p
rows_most rows p bits =
    let add =
    filters_add (λ row. begins_with (path row) (p ++ bits)) (λ _. false) (λ row. begins_with (path row) p)
    (λ row.
    bits_add (begins_with (path row) (p ++ bits)) false (begins_with (path row) p)
    (begins_start (path row) p bits) (λ at. absurd (false_true refl at)) (λ more at. false_true refl at))
    rows in
    omega (arith, add)

-- what the code of a tree may take for each row that begins with its path, by how many bits can
-- follow the path
abbrev pub room : ℕ → ℕ
room left = 205 + 3 * left

-- the length of the code at a path: less is known if the path is neither a row nor forked
pub record IsLong (rows : List Row) (p : List Bool) (k : ℕ) (t : Tree) : Type 0 where
  pub any : length (code t) + 114 ≤ rows_at rows p * room k
  pub stop : (is_row rows p ≡ true) ⊎ (onward rows p ≡ Forked) → length (code t) + 170 ≤ rows_at rows p * room k

return_fits : (rows : List Row) (p : List Bool) (k n : ℕ) → Begun rows p → IsLong rows p k (Return n)
return_fits rows p k n b =
    let some = mul-le-mul_right (room k) (rows_some rows p b) in
    let low : length (code (Return n)) + 170 ≤ rows_at rows p * room k = omega (arith, return_long n, asn_most n, some) in
    record { any = omega arith; stop = λ _. low }

jump_fits : (rows : List Row) (p : List Bool) (k : ℕ) (l r : Tree) → IsLong rows (p ++ false ∷ []) k l → IsLong rows (p ++ true ∷ []) k r → IsLong rows p (suc k) (Jump l r)
jump_fits rows p k l r low high =
    let both = mul-le-mul_right (room k) (rows_forked rows p) in
    let fits : length (code (Jump l r)) + 170 ≤ rows_at rows p * room (suc k) = omega (arith, jump_long l r, jump_most (length (code l)), low.any, high.any, both) in
    record { any = omega arith; stop = λ _. fits }

single_fits : (rows : List Row) (p bits : List Bool) (k n before : ℕ) (t : Tree) → IsWay rows p bits → length bits ≤ 128 → (onward rows p ≡ Forked → ⊥) → IsLong rows (p ++ bits) k t → IsLong rows p (k + length bits) (under_default n before (matches 16 bits t))
single_fits rows p bits k n before t way short single next =
    let m = matches_most 16 bits t (omega arith) way.some in
    let d = default_most n before (matches 16 bits t) in
    let some = rows_some rows (p ++ bits) way.begun in
    let end = next.stop way.stop in
    let less = mul-le-mul_right (room k) (rows_most rows p bits) in
    let wide = mul-le-mul_right (3 * length bits) (rows_most rows p bits) in
    let each = mul-le-mul_right (3 * length bits) some in
    record {
      any = omega (arith, m, d, end, less, wide, each);
      stop = λ at. elim at [
        | inl here ↦
            let one = mul-le-mul_right (room k + 3 * length bits) (rows_less rows p bits way.some here) in
            omega (arith, m, d, end, one)
        | inr fork ↦ absurd (single fork)
      ];
    }

pub single_not_forked : {side : Bool} → Single side ≡ Forked → ⊥
single_not_forked e = cc

tree_long_by : (left : ℕ) (rows : List Row) (p : List Bool) (k before : ℕ) → AreRows rows → Begun rows p → 128 ≤ suc left + length p → k + length p ≡ 128 → Turn rows p →
    ((q : List Bool) (j default : ℕ) → Begun rows q → 128 ≤ left + length q → j + length q ≡ 128 → IsLong rows q j (tree_at left rows q default)) →
    IsLong rows p k (tree_at (suc left) rows p before)
tree_long_by left rows p k before are b long e (turn_end is none) more = rw (tree_end left rows p before is) (return_fits rows p k (number_at rows p) b)
tree_long_by left rows p zero before are b long e (turn_forked is goes) more =
    absurd (omega (arith, begun_short rows (p ++ true ∷ []) are (begun_side rows p true (goes true)), length-append p (true ∷ [])))
tree_long_by left rows p (suc k) before are b long e (turn_forked is goes) more =
    rw (tree_forked left rows p before is)
    (jump_fits rows p k (tree_at left rows (p ++ false ∷ []) before) (tree_at left rows (p ++ true ∷ []) before)
    (more (p ++ false ∷ []) k before (begun_side rows p false (goes false)) (omega (arith, length-append p (false ∷ []))) (omega (arith, length-append p (false ∷ []))))
    (more (p ++ true ∷ []) k before (begun_side rows p true (goes true)) (omega (arith, length-append p (true ∷ []))) (omega (arith, length-append p (true ∷ [])))))
tree_long_by left rows p k before are b long e (turn_single side is goes none) more =
    let bits = way_bits left rows p side in
    let way = way_is left rows p side are goes none long in
    let next = tree_at left rows (p ++ bits) (number_at rows p) in
    let short = begun_short rows (p ++ bits) are way.begun in
    let sum : k - length bits + length bits ≡ k = omega (arith, length-append p bits) in
    let fits = more (p ++ bits) (k - length bits) (number_at rows p) way.begun (omega (arith, length-append p bits, way.some)) (omega (arith, length-append p bits)) in
    let not_fork = λ (f : onward rows p ≡ Forked). single_not_forked (sym is ∙ f) in
    rw (tree_single left rows p before side is)
    (subst (λ j. IsLong rows p j (under_default (number_at rows p) before (matches 16 bits next))) sum (single_fits rows p bits (k - length bits) (number_at rows p) before next way (omega (arith, length-append p bits)) not_fork fits))

pub tree_long : (left : ℕ) (rows : List Row) (p : List Bool) (k before : ℕ) → AreRows rows → Begun rows p → 128 ≤ left + length p → k + length p ≡ 128 → IsLong rows p k (tree_at left rows p before)
tree_long zero rows p k before are b long e = rw (tree_last rows p before) (return_fits rows p k (number_at rows p) b)
tree_long (suc left) rows p k before are b long e = tree_long_by left rows p k before are b long e (turn rows p) (λ q j default. tree_long left rows q j default are)
