-- The path of a row, its bits and the addresses that it covers.
use Rattle.std.proofs.Common.{◌≡◌, ℕ, ◌+◌, ◌-◌, ◌*◌, ◌^◌, ◌<◌, ◌≤◌, Bool, true, false, List, [], ◌∷◌, ◌++◌, length, take, nat_lt, ◌⊎◌, inl, inr, refl, ap, sym, ◌∙◌, subst, arith, get_or, Contains, Some, eq-eqb}
use Rattle.std.specs.Option.{option_map_or}
use Rattle.std.proofs.Math.Nat.{div-lt_iff_lt-mul, div-mul-le_self}
use Rattle.std.proofs.lemmas.Bool.{ltb-true, ltb-false, eqb-true, cases_order}
use Rattle.std.proofs.lemmas.List.{get_or_default, take_at}
use Rattle.std.proofs.lemmas.List.Elements.{All-contains}
use Rattle.std.proofs.lemmas.Nat.{div-add-mod', pow_pos, pow-add}
use Rattle.bit_code.specs.Coder.{digits, number_of}
use Rattle.bit_code.specs.Prefixes.{begins_with}
use Rattle.bit_code.proofs.DigitLaws.{length-digits, digits_above, number_of-digits}
use Rattle.bit_code.proofs.PrefixLaws.{begins_cut, begins_self, begins_more, begins_long, same_tests}
use Rattle.prefix_table.specs.declared.rows.Row.{Row}
use Rattle.prefix_table.specs.Rows.{path, first_bits, row_covers, longest, best, number_at, IsRow, IsTable, Precedes}
use Rattle.prefix_table.proofs.Items.{contains_cons, contains_head, cons_cases, filter_same}

-- the longest of some rows
pub record Longest (xs : List Row) : Type 0 where
  pub row : Row
  pub is : longest xs ≡ Some row
  pub there : Contains xs row
  pub most : (other : Row) → Contains xs other → other.len ≤ row.len

most_by : (y other : Row) (n : ℕ) {P : Type 0} → y.len ≤ n → (y ≡ other) ⊎ P → (P → other.len ≤ n) → other.len ≤ n
most_by y other n low (inl same) more = subst (λ (r : Row). r.len ≤ n) same low
most_by y other n low (inr has) more = more has

most_of : (y : Row) (xs : List Row) (n : ℕ) → y.len ≤ n → ((other : Row) → Contains xs other → other.len ≤ n) → (other : Row) → Contains (y ∷ xs) other → other.len ≤ n
most_of y xs n low more other has = most_by y other n low (cons_cases y xs other has) (more other)

longest_by : (y : Row) (xs : List Row) (l : Longest xs) (b : Bool) → nat_lt y.len l.row.len ≡ b → Longest (y ∷ xs)
unfolding longest
longest_by y xs l true e = record {
  row = l.row;
  is = rw (l.is, e) refl;
  there = contains_cons y l.row xs l.there;
  most = most_of y xs l.row.len (omega (arith, ltb-true y.len l.row.len e)) l.most;
}
longest_by y xs l false e = record {
  row = y;
  is = rw (l.is, e) refl;
  there = contains_head y xs;
  most = most_of y xs y.len (omega arith) (λ other has. omega (arith, ltb-false y.len l.row.len e, l.most other has));
}

longest_cons : (y : Row) (xs : List Row) → Longest (y ∷ xs)
unfolding longest
longest_cons y [] = record {
  row = y;
  is = refl;
  there = contains_head y [];
  most = most_of y [] y.len (omega arith) (λ other has. absurd (omega (arith, has.1)));
}
longest_cons y (z ∷ zs) = let l = longest_cons z zs in longest_by y (z ∷ zs) l (nat_lt y.len l.row.len) refl

pub longest_some : (xs : List Row) (x : Row) → Contains xs x → Longest xs
longest_some [] x has = absurd (omega (arith, has.1))
longest_some (y ∷ xs) x has = longest_cons y xs

-- rows whose prefixes are distinct
pub record AreRows (rows : List Row) : Type 0 where
  pub each : (row : Row) → Contains rows row → IsRow row
  pub distinct : (row other : Row) → Contains rows row → Contains rows other → path row ≡ path other → row ≡ other

pub path_long : (row : Row) → length (path row) ≡ row.len
unfolding path
path_long row = length-digits row.len (first_bits row.len row.bits)

-- two rows of the same path have the same bits
pub bits_of : (row : Row) → IsRow row → row.bits ≡ first_bits row.len row.bits * 2 ^ (128 - row.len)
bits_of row is = omega (arith, is.clear, div-add-mod' row.bits (2 ^ (128 - row.len)))

pub first_below : (len a : ℕ) → len ≤ 128 → a < 2 ^ 128 → first_bits len a < 2 ^ len
first_below len a short small =
    let e : len + (128 - len) ≡ 128 = omega arith in
    let whole : 2 ^ len * 2 ^ (128 - len) ≡ 2 ^ 128 = sym (pow-add 2 len (128 - len)) ∙ ap (λ n. 2 ^ n) e in
    (div-lt_iff_lt-mul (pow_pos (128 - len))).1 (omega (arith, whole))

pub first_bits_of : (row : Row) → IsRow row → number_of (path row) ≡ first_bits row.len row.bits
unfolding path
first_bits_of row is = number_of-digits row.len (first_bits row.len row.bits) (first_below row.len row.bits is.len is.bits)

record IsSame (row other : Row) : Type 0 where
  bits : row.bits ≡ other.bits
  len : row.len ≡ other.len

same_prefix : (row other : Row) → IsRow row → IsRow other → path row ≡ path other → IsSame row other
same_prefix row other is are e =
    let len : row.len ≡ other.len = sym (path_long row) ∙ ap length e ∙ path_long other in
    let first : first_bits row.len row.bits ≡ first_bits other.len other.bits = sym (first_bits_of row is) ∙ ap number_of e ∙ first_bits_of other are in
    record {
      bits = bits_of row is ∙ ap (λ n. n * 2 ^ (128 - row.len)) first ∙ ap (λ n. first_bits other.len other.bits * 2 ^ (128 - n)) len ∙ sym (bits_of other are);
      len = len;
    }

not_before : (row other : Row) → IsSame row other → Precedes row other → ⊥
not_before row other same (inl less) = omega (arith, same.bits)
not_before row other same (inr both) = omega (arith, same.len, both.1)

table_distinct : (rows : List Row) → IsTable rows → (row other : Row) → Contains rows row → Contains rows other → path row ≡ path other → row ≡ other
table_distinct rows is row other has more e =
    let each = λ (r : Row) (c : Contains rows r). All-contains IsRow rows r is.each c in
    let same = same_prefix row other (each row has) (each other more) e in
    elim (cases_order has.0 more.0) [
      | inl at ↦ sym has.2 ∙ get_or_default rows has.0 row other has.1 ∙ ap (λ k. get_or rows k other) at ∙ more.2
      | inr (inl below) ↦
          let before = is.rising has.0 more.0 row below more.1 in
          absurd (not_before row other same (subst (λ r. Precedes row r) (get_or_default rows more.0 row other more.1 ∙ more.2) (subst (λ r. Precedes r (get_or rows more.0 row)) has.2 before)))
      | inr (inr above) ↦
          let before = is.rising more.0 has.0 row above has.1 in
          absurd (not_before other row (record { bits = sym same.bits; len = sym same.len }) (subst (λ r. Precedes other r) has.2 (subst (λ r. Precedes r (get_or rows has.0 row)) (get_or_default rows more.0 row other more.1 ∙ more.2) before)))
    ]

-- the rows of a table are distinct
pub table_rows : (rows : List Row) → IsTable rows → AreRows rows
table_rows rows is = record { each = λ row has. All-contains IsRow rows row is.each has; distinct = table_distinct rows is }

-- the first bits of an address, as bits
pub address_start : (len a : ℕ) → len ≤ 128 → digits 128 a ≡ digits len (first_bits len a) ++ digits (128 - len) a
address_start len a short =
    let e : len + (128 - len) ≡ 128 = omega arith in
    ap (λ n. digits n a) (sym e) ∙ digits_above len (128 - len) a

there : (row : Row) (a : ℕ) → IsRow row → row_covers row a ≡ true → begins_with (digits 128 a) (path row) ≡ true
unfolding path
there row a is h =
    let same = eqb-true (first_bits row.len a) (first_bits row.len row.bits) h in
    rw (address_start row.len a is.len, same) (begins_self (digits row.len (first_bits row.len row.bits)) (digits (128 - row.len) a))

back : (row : Row) (a : ℕ) → IsRow row → a < 2 ^ 128 → begins_with (digits 128 a) (path row) ≡ true → row_covers row a ≡ true
back row a is small h =
    let c = begins_cut (digits 128 a) (path row) h in
    let start = digits row.len (first_bits row.len a) in
    let long : length start ≡ row.len = length-digits row.len (first_bits row.len a) in
    let mine : take row.len (digits 128 a) ≡ start = ap (take row.len) (address_start row.len a is.len) ∙ take_at start (digits (128 - row.len) a) row.len long in
    let its : take row.len (digits 128 a) ≡ path row = ap (take row.len) c.is ∙ take_at (path row) c.rest row.len (path_long row) in
    let same : first_bits row.len a ≡ first_bits row.len row.bits = sym (number_of-digits row.len (first_bits row.len a) (first_below row.len a is.len small)) ∙ ap number_of (sym mine ∙ its) ∙ first_bits_of row is in
    eq-eqb (first_bits row.len a) (first_bits row.len row.bits) same

pub covers_bits : (row : Row) (a : ℕ) → IsRow row → a < 2 ^ 128 → begins_with (digits 128 a) (path row) ≡ row_covers row a
covers_bits row a is small = same_tests (begins_with (digits 128 a) (path row)) (row_covers row a) (back row a is small) (there row a is)

-- the number of the path of an address is that of its longest row
pub number_best : (rows : List Row) (a : ℕ) → AreRows rows → a < 2 ^ 128 → number_at rows (digits 128 a) ≡ best rows a
unfolding number_at best
number_best rows a are small =
    ap (λ xs. option_map_or (λ (row : Row). row.asn) (longest xs) 0)
    (filter_same (λ row. begins_with (digits 128 a) (path row)) (λ row. row_covers row a) rows (λ row has. covers_bits row a (are.each row has) small))

not_before_by : (a b : Row) → b.bits ≤ a.bits → b.len ≤ a.len → Precedes a b → ⊥
not_before_by a b le low (inl less) = omega arith
not_before_by a b le low (inr both) = omega (arith, both.1)

-- a row that is a prefix of another one has its first bits
pub prefix_bits : (a b : Row) → IsRow a → IsRow b → begins_with (path a) (path b) ≡ true → first_bits b.len a.bits ≡ first_bits b.len b.bits
unfolding path
prefix_bits a b is are h =
    let whole : begins_with (digits 128 a.bits) (path b) ≡ true =
    ap (λ xs. begins_with xs (path b)) (address_start a.len a.bits is.len) ∙ begins_more (path a) (digits (128 - a.len) a.bits) (path b) h in
    eqb-true (first_bits b.len a.bits) (first_bits b.len b.bits) (sym (covers_bits b a.bits are is.bits) ∙ whole)

-- a row doesn't precede a row that is a prefix of it
pub prefix_first : (a b : Row) → IsRow a → IsRow b → begins_with (path a) (path b) ≡ true → Precedes a b → ⊥
prefix_first a b is are h before =
    let low : b.len ≤ a.len = omega (arith, begins_long (path a) (path b) h, path_long a, path_long b) in
    let same = prefix_bits a b is are h in
    let least = div-mul-le_self a.bits (2 ^ (128 - b.len)) in
    let its = bits_of b are in
    not_before_by a b (omega (arith, ap (λ n. n * 2 ^ (128 - b.len)) same, least, its)) low before
