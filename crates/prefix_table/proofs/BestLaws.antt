-- The number of the longest row.
use Rattle.std.proofs.Common.{◌≡◌, ℕ, ◌≤◌, Bool, true, false, cond, List, [], ◌∷◌, get_or, ◌∙◌, ap, sym, subst, arith, inl, inr, refl}
use Rattle.std.specs.Prelude.{All, AllPairs, Contains, MatchOption, Option, Some, None, filter, if◌then◌else◌}
use Rattle.std.specs.Option.{option_map_or}
use Rattle.std.proofs.lemmas.List.Elements.{All-contains, All-cons, All-nil, All-weaker, All-filter, All-contains_itself, filter_passes, Contains-append_right, Contains-append_cases}
use Rattle.std.proofs.lemmas.List.{get_or_default}
use Rattle.std.proofs.lemmas.Bool.{cases_lt, cases_order, lt-ltb, le-ltb}
use Rattle.prefix_table.specs.Rows.{Precedes, IsRow, IsTable, IsLongest, row_covers, longer, longest, best}
use Rattle.prefix_table.specs.declared.rows.Row.{Row}
use Rattle.prefix_table.specs.Inside.{cut}
use Rattle.prefix_table.proofs.SearchLaws.{begins_at}

Contains-head : (x : Row) (xs : List Row) → Contains (x ∷ xs) x
Contains-head x xs = (0, omega arith, refl)

Contains-tail : (x y : Row) (xs : List Row) → Contains xs y → Contains (x ∷ xs) y
Contains-tail x y xs has = Contains-append_right (x ∷ []) xs y has

Contains-nil : (y : Row) → Contains [] y → ⊥
Contains-nil y (k, within, is) = absurd (omega arith)

-- a row that passes is kept
filter_keeps : (p : Row → Bool) (xs : List Row) (y : Row) → Contains xs y → p y ≡ true → Contains (filter p xs) y
filter_keeps p [] y has passes = absurd (Contains-nil y has)
filter_keeps p (x ∷ xs) y has passes = elim (Contains-append_cases (x ∷ []) xs y has) [
  | inl (k, within, is) ↦
      let zero_th : k ≡ 0 = omega arith in
      let e : x ≡ y = ap (λ i. get_or (x ∷ []) i y) (sym zero_th) ∙ is in
      subst (λ b. Contains (cond b (x ∷ filter p xs) (filter p xs)) y) (sym (ap p e ∙ passes)) (subst (λ z. Contains (z ∷ filter p xs) y) (sym e) (Contains-head y (filter p xs)))
  | inr later ↦ elim (p x) as (λ b. Contains (cond b (x ∷ filter p xs) (filter p xs)) y) [
    | true ↦ Contains-tail x y (filter p xs) (filter_keeps p xs y later passes)
    | false ↦ filter_keeps p xs y later passes
  ]
]

-- what the longest of some rows is
abbrev IsLongestOf : List Row → Option Row → Type 0
IsLongestOf xs o = MatchOption o (xs ≡ []) (λ m. Contains xs m × All (λ r. r.len ≤ m.len) xs)

longest_step : (x : Row) (xs : List Row) (o : Option Row) → IsLongestOf xs o → IsLongestOf (x ∷ xs) (Some (longer x o))
longest_step x xs None none =
    (Contains-head x xs, All-cons (λ r. r.len ≤ x.len) x xs (omega arith) (subst (λ ys. All (λ r. r.len ≤ x.len) ys) (sym none) (All-nil (λ r. r.len ≤ x.len))))
longest_step x xs (Some m) (has, each) = elim (cases_lt x.len m.len) [
  | inl l ↦
      subst (λ b. IsLongestOf (x ∷ xs) (Some (if b then m else x))) (sym (lt-ltb x.len m.len l)) (Contains-tail x m xs has, All-cons (λ r. r.len ≤ m.len) x xs (omega arith) each)
  | inr l ↦
      subst (λ b. IsLongestOf (x ∷ xs) (Some (if b then m else x))) (sym (le-ltb x.len m.len l)) (Contains-head x xs, All-cons (λ r. r.len ≤ x.len) x xs (omega arith) (All-weaker (λ r. r.len ≤ m.len) (λ r. r.len ≤ x.len) (λ r h. omega arith) xs each))
]

longest_is : (xs : List Row) → IsLongestOf xs (longest xs)
unfolding longest
longest_is [] = refl
longest_is (x ∷ xs) = longest_step x xs (longest xs) (longest_is xs)

-- two rows of a table with the same prefix are one
pub same_row : (rows : List Row) → AllPairs Precedes rows → (a b : Row) → Contains rows a → Contains rows b → a.bits ≡ b.bits → a.len ≡ b.len → a ≡ b
same_row rows rising a b (i, in_i, is_i) (j, in_j, is_j) bits len =
    let at_j : get_or rows j a ≡ b = get_or_default rows j a b in_j ∙ is_j in
    elim (cases_order i j) [
      | inl e ↦ sym is_i ∙ ap (λ k. get_or rows k a) e ∙ at_j
      | inr (inl l) ↦ absurd (apart a b bits len (before i j is_i at_j (rising i j a l in_j)))
      | inr (inr l) ↦ absurd (apart b a (sym bits) (sym len) (before j i at_j is_i (rising j i a l in_i)))
    ]
  where
    apart : (x y : Row) → x.bits ≡ y.bits → x.len ≡ y.len → Precedes x y → ⊥
    apart x y e f p = elim p [ inl l ↦ omega arith | inr (g, l) ↦ omega arith ]

    before : (k l : ℕ) {x y : Row} → get_or rows k a ≡ x → get_or rows l a ≡ y → Precedes (get_or rows k a) (get_or rows l a) → Precedes x y
    before k l {x} {y} e f p = subst (λ (z : Row). Precedes x z) f (subst (λ (z : Row). Precedes z (get_or rows l a)) e p)

best_of : (o : Option Row) (n : ℕ) → MatchOption o (n ≡ 0) (λ m. m.asn ≡ n) → option_map_or (λ (row : Row). row.asn) o 0 ≡ n
best_of None n e = sym e
best_of (Some m) n e = e

pub best_found : (rows : List Row) (address : ℕ) (row : Row) → IsTable rows → IsLongest rows address row → best rows address ≡ row.asn
unfolding best
best_found rows address row table is =
    let p = λ (r : Row). row_covers r address in
    best_of (longest (filter p rows)) row.asn (found (longest (filter p rows)) (longest_is (filter p rows)))
  where
    found : (o : Option Row) → IsLongestOf (filter (λ (r : Row). row_covers r address) rows) o → MatchOption o (row.asn ≡ 0) (λ m. m.asn ≡ row.asn)
    found None none =
        absurd (Contains-nil row (subst (λ xs. Contains xs row) none (filter_keeps (λ (r : Row). row_covers r address) rows row is.is_row is.is_prefix)))
    found (Some m) (has, each) =
        let p = λ (r : Row). row_covers r address in
        let kept = filter_keeps p rows row is.is_row is.is_prefix in
        let in_rows : Contains rows m = All-contains (Contains rows) (filter p rows) m (All-filter p (Contains rows) rows (All-contains_itself rows)) has in
        let passes : row_covers m address ≡ true = All-contains (λ r. row_covers r address ≡ true) (filter p rows) m (filter_passes p rows) has in
        let low : row.len ≤ m.len = All-contains (λ r. r.len ≤ m.len) (filter p rows) row each kept in
        let len : m.len ≡ row.len = omega (arith, is.most m in_rows passes) in
        let bits : m.bits ≡ row.bits =
        begins_at m address (All-contains IsRow rows m table.each in_rows) passes ∙ ap (cut address) len
        ∙ sym (begins_at row address (All-contains IsRow rows row table.each is.is_row) is.is_prefix) in
        ap (λ (r : Row). r.asn) (same_row rows table.rising m row in_rows is.is_row bits len)

pub best_none : (rows : List Row) (address : ℕ) → ((row : Row) → Contains rows row → row_covers row address ≡ true → ⊥) → best rows address ≡ 0
unfolding best
best_none rows address none =
    let p = λ (r : Row). row_covers r address in
    best_of (longest (filter p rows)) 0 (found (longest (filter p rows)) (longest_is (filter p rows)))
  where
    found : (o : Option Row) → IsLongestOf (filter (λ (r : Row). row_covers r address) rows) o → (let z : ℕ = 0 in MatchOption o (z ≡ z) (λ m. m.asn ≡ z))
    found None empty = refl
    found (Some m) (has, each) =
        let p = λ (r : Row). row_covers r address in
        let in_rows : Contains rows m = All-contains (Contains rows) (filter p rows) m (All-filter p (Contains rows) rows (All-contains_itself rows)) has in
        let passes : row_covers m address ≡ true = All-contains (λ r. row_covers r address ≡ true) (filter p rows) m (filter_passes p rows) has in
        absurd (none m in_rows passes)
