-- The rows around the next one, while the rows of a table are gone through.
use Rattle.std.proofs.Common.{◌≡◌, ◌==◌, ℕ, ◌+◌, ◌-◌, ◌^◌, ◌<◌, ◌≤◌, true, false, not, List, [], ◌∷◌, ◌++◌, length, take, filter, cond, get_or, ◌⊎◌, inl, inr, refl, ap, sym, ◌∙◌, subst, arith, length-append, append-nil, Contains, nat_lt}
use Rattle.std.proofs.lemmas.Bool.{cases_lt, cases_eq, ltb-true, lt-ltb, false_from_ne_true, eqb-false, ne_eqb, not_from_true, not_from_false, eq-eqb}
use Rattle.std.proofs.lemmas.List.{get_or_default, get_or_append_left, get_or-take, get_or_at, length-take-le}
use Rattle.std.specs.Option.{option_map_or}
use Rattle.std.proofs.lemmas.List.Elements.{Contains-get_or, All-contains, filter_more}
use Rattle.std.proofs.lemmas.Nat.{pow_pos}
use Rattle.bit_code.specs.Coder.{digits}
use Rattle.bit_code.specs.Prefixes.{begins_with}
use Rattle.prefix_table.specs.declared.rows.Row.{Row}
use Rattle.prefix_table.specs.Rows.{path, longest, first_bits, row_covers, IsRow, IsTable, Precedes, number_at}
use Rattle.asmap_compile.specs.Compiled.{shorter_than, stays}
use Rattle.bit_code.proofs.PrefixLaws.{begins_from, begins_within, begins_more, false_true}
use Rattle.prefix_table.proofs.Items.{filter_same, filter_item, filter_none, item_filter}
use Rattle.prefix_table.proofs.BitLaws.{div-le-div}
use Rattle.asmap_compile.proofs.StopLaws.{one_longer}
use Rattle.asmap_compile.proofs.TurnLaws.{rows_le}
use Rattle.prefix_table.proofs.PathLaws.{path_long, address_start, covers_bits, prefix_first}
use Rattle.asmap_compile.proofs.RowLaws.{best_row}

-- what the rows before index i say of those that are kept on the stack: it has no others, they grow
-- longer, and any other is a prefix of no later row
pub record IsAround (rows : List Row) (i : ℕ) (around : List Row) : Type 0 where
  pub there : (k : ℕ) (d : Row) → k < length around → (j : ℕ) × (j < i) × (get_or rows j d ≡ get_or around k d)
  pub grows : (a b : ℕ) (d : Row) → a < b → b < length around → (get_or around a d).len < (get_or around b d).len
  pub off : (j : ℕ) (d : Row) → j < i → ((k : ℕ) × (k < length around) × (get_or around k d ≡ get_or rows j d))
      ⊎ ((m : ℕ) → i ≤ m → m < length rows → row_covers (get_or rows j d) (get_or rows m d).bits ≡ false)

-- a row that covers a later one is shorter
address_path : (b : Row) → IsRow b → digits 128 b.bits ≡ path b ++ digits (128 - b.len) b.bits
unfolding path
address_path b are = address_start b.len b.bits are.len

covers_path : (a b : Row) → IsRow a → IsRow b → row_covers a b.bits ≡ true → a.len ≤ b.len → begins_with (path b) (path a) ≡ true
covers_path a b is are h low =
    let whole = covers_bits a b.bits is are.bits ∙ h in
    begins_within (path b) (digits (128 - b.len) b.bits) (path a) (subst (λ w. begins_with w (path a) ≡ true) (address_path b are) whole) (omega (arith, path_long a, path_long b))

covers_short : (a b : Row) → IsRow a → IsRow b → Precedes a b → row_covers a b.bits ≡ true → a.len < b.len
covers_short a b is are before h =
    let whole = covers_bits a b.bits is are.bits ∙ h in
    let own : begins_with (digits 128 b.bits) (path b) ≡ true = begins_from (digits 128 b.bits) (path b) (digits (128 - b.len) b.bits) (address_path b are) in
    elim (cases_lt a.len b.len) [
      | inl less ↦ less
      | inr more ↦ absurd (prefix_first a b is are (one_longer (digits 128 b.bits) (path b) (path a) own whole (omega (arith, path_long a, path_long b))) before)
    ]

-- a row that is no prefix of a row is one of no later row
covers_later : (a b c : Row) → a.bits ≤ b.bits → b.bits ≤ c.bits → row_covers a b.bits ≡ false → row_covers a c.bits ≡ false
covers_later a b c low high off =
    let p = pow_pos (128 - a.len) in
    let ab = div-le-div a.bits b.bits (2 ^ (128 - a.len)) p low in
    let bc = div-le-div b.bits c.bits (2 ^ (128 - a.len)) p high in
    let other = eqb-false (first_bits a.len b.bits) (first_bits a.len a.bits) off in
    ne_eqb (first_bits a.len c.bits) (first_bits a.len a.bits) (λ same. other (omega (arith, ab, bc, same)))

-- the rows that are left for the next one
pub record IsLeft (around : List Row) (address count : ℕ) : Type 0 where
  pub bound : count ≤ length around
  pub last : 0 < count → (d : Row) → row_covers (get_or around (count - 1) d) address ≡ true
  pub past : (k : ℕ) (d : Row) → count ≤ k → k < length around → row_covers (get_or around k d) address ≡ false

next_low : (around : List Row) (count : ℕ) (row d : Row) (k : ℕ) → count ≤ length around → k < count → get_or (take count around ++ row ∷ []) k d ≡ get_or around k d
next_low around count row d k fits low =
    get_or_append_left (take count around) (row ∷ []) d k (omega (arith, length-take-le count around fits)) ∙ get_or-take count around k d low

next_last : (around : List Row) (count : ℕ) (row d : Row) (k : ℕ) → count ≤ length around → k ≡ count → get_or (take count around ++ row ∷ []) k d ≡ row
next_last around count row d k fits e = get_or_at (take count around) row [] d k (length-take-le count around fits ∙ sym e)

next_long : (around : List Row) (count : ℕ) (row : Row) → count ≤ length around → length (take count around ++ row ∷ []) ≡ count + 1
next_long around count row fits = omega (arith, length-append (take count around) (row ∷ []), length-take-le count around fits)

-- the last row that is left is shorter than the next
last_short : (rows : List Row) (i : ℕ) (around : List Row) (count : ℕ) (row : Row) → IsTable rows → IsAround rows i around → i < length rows → ((d : Row) → get_or rows i d ≡ row) → IsLeft around row.bits count → (d : Row) → 0 < count → (get_or around (count - 1) d).len < row.len
last_short rows i around count row is a low at left d some =
    let f = a.there (count - 1) d (omega (arith, left.bound)) in
    let older = subst IsRow f.2 (is.each f.0 d (omega (arith, f.1))) in
    let its = subst IsRow (at d) (is.each i d low) in
    let before = subst (Precedes (get_or around (count - 1) d)) (at d) (subst (λ (r : Row). Precedes r (get_or rows i d)) f.2 (is.rising f.0 i d f.1 low)) in
    covers_short (get_or around (count - 1) d) row older its before (left.last some d)

left_short : (rows : List Row) (i : ℕ) (around : List Row) (count : ℕ) (row : Row) → IsTable rows → IsAround rows i around → i < length rows → ((d : Row) → get_or rows i d ≡ row) → IsLeft around row.bits count → (k : ℕ) (d : Row) → k < count → (get_or around k d).len < row.len
left_short rows i around count row is a low at left k d less =
    let last = last_short rows i around count row is a low at left d (omega arith) in
    elim (cases_eq k (count - 1)) [
      | inl same ↦ omega (arith, last, ap (λ j. (get_or around j d).len) same)
      | inr other ↦ omega (arith, last, a.grows k (count - 1) d (omega arith) (omega (arith, left.bound)))
    ]

next_there : (rows : List Row) (i : ℕ) (around : List Row) (count : ℕ) (row : Row) → IsAround rows i around → ((d : Row) → get_or rows i d ≡ row) → IsLeft around row.bits count → (k : ℕ) (d : Row) → k < count + 1 → (j : ℕ) × (j < i + 1) × (get_or rows j d ≡ get_or (take count around ++ row ∷ []) k d)
next_there rows i around count row a at left k d low =
    elim (cases_lt k count) [
      | inl less ↦
          let f = a.there k d (omega (arith, left.bound)) in
          (f.0, omega (arith, f.1), f.2 ∙ sym (next_low around count row d k left.bound less))
      | inr more ↦ (i, omega arith, at d ∙ sym (next_last around count row d k left.bound (omega arith)))
    ]

next_grows : (rows : List Row) (i : ℕ) (around : List Row) (count : ℕ) (row : Row) → IsTable rows → IsAround rows i around → i < length rows → ((d : Row) → get_or rows i d ≡ row) → IsLeft around row.bits count → (x y : ℕ) (d : Row) → x < y → y < count + 1 → (get_or (take count around ++ row ∷ []) x d).len < (get_or (take count around ++ row ∷ []) y d).len
next_grows rows i around count row is a low at left x y d less fits =
    let first = ap (λ (r : Row). r.len) (next_low around count row d x left.bound (omega arith)) in
    elim (cases_lt y count) [
      | inl within ↦ omega (arith, first, ap (λ (r : Row). r.len) (next_low around count row d y left.bound within), a.grows x y d less (omega (arith, left.bound)))
      | inr last ↦ omega (arith, first, ap (λ (r : Row). r.len) (next_last around count row d y left.bound (omega arith)), left_short rows i around count row is a low at left x d (omega arith))
    ]

bits_le : (rows : List Row) → IsTable rows → (j i : ℕ) (d : Row) → j ≤ i → i < length rows → (get_or rows j d).bits ≤ (get_or rows i d).bits
bits_le rows is j i d le low = rows_le rows is.rising j i d le low

next_off : (rows : List Row) (i : ℕ) (around : List Row) (count : ℕ) (row : Row) → IsTable rows → IsAround rows i around → i < length rows → ((d : Row) → get_or rows i d ≡ row) → IsLeft around row.bits count → (j : ℕ) (d : Row) → j < i + 1 →
    ((k : ℕ) × (k < length (take count around ++ row ∷ [])) × (get_or (take count around ++ row ∷ []) k d ≡ get_or rows j d)) ⊎ ((m : ℕ) → i + 1 ≤ m → m < length rows → row_covers (get_or rows j d) (get_or rows m d).bits ≡ false)
next_off rows i around count row is a low at left j d fits =
    let long = next_long around count row left.bound in
    elim (cases_lt j i) [
      | inl older ↦ elim (a.off j d older) [
        | inl f ↦ elim (cases_lt f.0 count) [
          | inl stays_on ↦ inl (f.0, omega (arith, long), next_low around count row d f.0 left.bound stays_on ∙ f.2)
          | inr gone ↦
              let off = subst (λ (r : Row). row_covers r row.bits ≡ false) f.2 (left.past f.0 d gone f.1) in
              let here = subst (λ (r : Row). row_covers (get_or rows j d) r.bits ≡ false) (sym (at d)) off in
              inr (λ m more top. covers_later (get_or rows j d) (get_or rows i d) (get_or rows m d) (bits_le rows is j i d (omega arith) low) (bits_le rows is i m d (omega arith) top) here)
        ]
        | inr off ↦ inr (λ m more top. off m (omega arith) top)
      ]
      | inr same ↦
          let e : j ≡ i = omega arith in
          inl (count, omega (arith, long), next_last around count row d count left.bound refl ∙ sym (at d) ∙ ap (λ k. get_or rows k d) (sym e))
    ]

pub around_next : (rows : List Row) (i : ℕ) (around : List Row) (count : ℕ) (row : Row) → IsTable rows → IsAround rows i around → i < length rows → ((d : Row) → get_or rows i d ≡ row) → IsLeft around row.bits count →
    IsAround rows (i + 1) (take count around ++ row ∷ [])
around_next rows i around count row is a low at left =
    let long = next_long around count row left.bound in
    record {
      there = λ k d less. next_there rows i around count row a at left k d (omega (arith, long));
      grows = λ x y d less fits. next_grows rows i around count row is a low at left x y d less (omega (arith, long));
      off = next_off rows i around count row is a low at left;
    }

-- a shorter row that is a prefix of the next one is on the stack
record IsOn (around : List Row) (count : ℕ) (row : Row) : Type 0 where
  place : ℕ
  low : place < count
  is : get_or around place row ≡ row

later_off : (rows : List Row) (i : ℕ) (row : Row) → IsTable rows → i < length rows → ((d : Row) → get_or rows i d ≡ row) → (other : Row) (has : Contains rows other) → other.len < row.len → begins_with (path row) (path other) ≡ true → i ≤ has.0 → ⊥
later_off rows i row is low at other has short begins later =
    elim (cases_eq i has.0) [
      | inl same ↦ omega (arith, short, ap (λ (r : Row). r.len) (sym (at other) ∙ ap (λ k. get_or rows k other) same ∙ has.2))
      | inr after ↦
          let before = subst (Precedes row) has.2 (subst (λ (r : Row). Precedes r (get_or rows has.0 other)) (at other) (is.rising i has.0 other (omega arith) has.1)) in
          prefix_first row other (subst IsRow (at row) (is.each i row low)) (All-contains IsRow rows other is.each has) begins before
    ]

on_stack : (rows : List Row) (i : ℕ) (around : List Row) (count : ℕ) (row : Row) → IsTable rows → IsAround rows i around → i < length rows → ((d : Row) → get_or rows i d ≡ row) → IsLeft around row.bits count →
    (other : Row) → Contains rows other → other.len < row.len → begins_with (path row) (path other) ≡ true → IsOn around count other
on_stack rows i around count row is a low at left other has short begins =
    let its = subst IsRow (at row) (is.each i row low) in
    let mine = All-contains IsRow rows other is.each has in
    let cover : row_covers other row.bits ≡ true = sym (covers_bits other row.bits mine its.bits) ∙ subst (λ w. begins_with w (path other) ≡ true) (sym (address_path row its)) (begins_more (path row) (digits (128 - row.len) row.bits) (path other) begins) in
    elim (cases_lt has.0 i) [
      | inl older ↦ elim (a.off has.0 other older) [
        | inl f ↦ elim (cases_lt f.0 count) [
          | inl on ↦ record { place = f.0; low = on; is = f.2 ∙ has.2 }
          | inr gone ↦ absurd (false_true (left.past f.0 other gone f.1) (subst (λ (r : Row). row_covers r row.bits ≡ true) (sym (f.2 ∙ has.2)) cover))
        ]
        | inr off ↦ absurd (false_true (off i (omega arith) low) (subst (λ (r : Row). row_covers r (get_or rows i other).bits ≡ true) (sym has.2) (subst (λ (r : Row). row_covers other r.bits ≡ true) (sym (at other)) cover)))
      ]
      | inr later ↦ absurd (later_off rows i row is low at other has short begins later)
    ]

-- the number that the next row has to differ from, to stay
no_number : (rows : List Row) (i : ℕ) (around : List Row) (count : ℕ) (row : Row) → IsTable rows → IsAround rows i around → i < length rows → ((d : Row) → get_or rows i d ≡ row) → IsLeft around row.bits count → count ≡ 0 → number_at (shorter_than row.len rows) (path row) ≡ 0
unfolding number_at longest
no_number rows i around count row is a low at left none =
    let shorter = λ (other : Row). nat_lt other.len row.len in
    let test = λ (other : Row). begins_with (path row) (path other) in
    ap (λ xs. option_map_or (λ (r : Row). r.asn) (longest xs) 0)
    (filter_same test (λ _. false) (filter shorter rows)
    (λ other has. false_from_ne_true (test other)
    (λ begins.
    let f = filter_item shorter rows other has in
    let on = on_stack rows i around count row is a low at left other f.0 (ltb-true other.len row.len f.1) begins in
    omega (arith, on.low, none)))
    ∙ filter_none (filter shorter rows))

some_number : (rows : List Row) (i : ℕ) (around : List Row) (count : ℕ) (row : Row) → IsTable rows → IsAround rows i around → i < length rows → ((d : Row) → get_or rows i d ≡ row) → IsLeft around row.bits count → 0 < count → number_at (shorter_than row.len rows) (path row) ≡ (get_or around (count - 1) row).asn
some_number rows i around count row is a low at left some =
    let shorter = λ (other : Row). nat_lt other.len row.len in
    let top = get_or around (count - 1) row in
    let f = a.there (count - 1) row (omega (arith, left.bound)) in
    let its = subst IsRow (at row) (is.each i row low) in
    let mine = subst IsRow f.2 (is.each f.0 row (omega (arith, f.1))) in
    let short = last_short rows i around count row is a low at left row some in
    let in_rows : Contains rows top = subst (Contains rows) f.2 (Contains-get_or rows f.0 row (omega (arith, f.1))) in
    let has = item_filter shorter rows top in_rows (lt-ltb top.len row.len short) in
    let begins = covers_path top row mine its (left.last some row) (omega arith) in
    let b = best_row (filter shorter rows) (path row) top has begins in
    let g = filter_item shorter rows b.row b.there in
    let on = on_stack rows i around count row is a low at left b.row g.0 (ltb-true b.row.len row.len g.1) b.begins in
    let at_place : get_or around on.place row ≡ b.row = get_or_default around on.place row b.row (omega (arith, on.low, left.bound)) ∙ on.is in
    let long = b.most top has begins in
    elim (cases_eq on.place (count - 1)) [
      | inl same ↦ b.number ∙ ap (λ (r : Row). r.asn) (sym at_place ∙ ap (λ k. get_or around k row) same)
      | inr other ↦ absurd (omega (arith, long, ap (λ (r : Row). r.len) at_place, a.grows on.place (count - 1) row (omega (arith, on.low)) (omega (arith, left.bound))))
    ]

number_by : (rows : List Row) (i : ℕ) (around : List Row) (count : ℕ) (row : Row) (asn : ℕ) → IsTable rows → IsAround rows i around → i < length rows → ((d : Row) → get_or rows i d ≡ row) → IsLeft around row.bits count →
    (count ≡ 0 → asn ≡ 0) → ((d : Row) → 0 < count → asn ≡ (get_or around (count - 1) d).asn) → (count ≡ 0) ⊎ (count ≡ 0 → ⊥) → number_at (shorter_than row.len rows) (path row) ≡ asn
number_by rows i around count row asn is a low at left none some (inl zero_left) = no_number rows i around count row is a low at left zero_left ∙ sym (none zero_left)
number_by rows i around count row asn is a low at left none some (inr other) = some_number rows i around count row is a low at left (omega arith) ∙ sym (some row (omega arith))

pub number_last : (rows : List Row) (i : ℕ) (around : List Row) (count : ℕ) (row : Row) (asn : ℕ) → IsTable rows → IsAround rows i around → i < length rows → ((d : Row) → get_or rows i d ≡ row) → IsLeft around row.bits count →
    (count ≡ 0 → asn ≡ 0) → ((d : Row) → 0 < count → asn ≡ (get_or around (count - 1) d).asn) → stays rows row ≡ not (asn == row.asn)
unfolding stays
number_last rows i around count row asn is a low at left none some =
    ap (λ n. not (n == row.asn)) (number_by rows i around count row asn is a low at left none some (cases_eq count 0))

pub around_len : (rows : List Row) (i : ℕ) (around : List Row) → IsTable rows → IsAround rows i around → i ≤ length rows → (k : ℕ) (d : Row) → k < length around → (get_or around k d).len ≤ 128
around_len rows i around is a fits k d low = let f = a.there k d low in subst (λ (r : Row). r.len ≤ 128) f.2 (is.each f.0 d (omega (arith, f.1))).len

-- one more row is gone through, and it stays
pub kept_yes : (rows : List Row) (i : ℕ) (d : Row) (asn : ℕ) → i < length rows → stays rows (get_or rows i d) ≡ not (asn == (get_or rows i d).asn) → (asn ≡ (get_or rows i d).asn → ⊥) →
    filter (stays rows) (take i rows) ++ get_or rows i d ∷ [] ≡ filter (stays rows) (take (i + 1) rows)
kept_yes rows i d asn low is other =
    let row = get_or rows i d in
    let yes_stays : stays rows row ≡ true = is ∙ not_from_false (asn == row.asn) (ne_eqb asn row.asn other) in
    sym (filter_more (stays rows) rows i d low ∙ ap (λ b. filter (stays rows) (take i rows) ++ cond b (row ∷ []) []) yes_stays)

-- or it doesn't
pub kept_no : (rows : List Row) (i : ℕ) (d : Row) (asn : ℕ) → i < length rows → stays rows (get_or rows i d) ≡ not (asn == (get_or rows i d).asn) → asn ≡ (get_or rows i d).asn →
    filter (stays rows) (take i rows) ≡ filter (stays rows) (take (i + 1) rows)
kept_no rows i d asn low is same =
    let row = get_or rows i d in
    let off : stays rows row ≡ false = is ∙ not_from_true (asn == row.asn) (eq-eqb asn row.asn same) in
    sym (filter_more (stays rows) rows i d low ∙ ap (λ b. filter (stays rows) (take i rows) ++ cond b (row ∷ []) []) off ∙ append-nil (filter (stays rows) (take i rows)))
