-- The rows of a tree at a path are rows of longer paths, in their order.
use Rattle.std.proofs.Common.{◌≡◌, ◌==◌, ℕ, ◌+◌, ◌-◌, ◌<◌, ◌≤◌, Bool, true, false, List, [], ◌∷◌, ◌++◌, length, cond, ◌⊎◌, inl, inr, refl, sym, ◌∙◌, subst, arith, append-nil, length-append, Contains}
use Rattle.std.proofs.lemmas.Nat.{pow_pos}
use Rattle.std.proofs.lemmas.Bool.{eqb-false, cases_lt}
use Rattle.std.proofs.lemmas.List.Elements.{All-weaker, All-contains_itself, Contains-append_cases}
use Rattle.bit_code.specs.Coder.{HasValue}
use Rattle.bit_code.specs.declared.coder.Coder.TheVariants as coders
use Rattle.bit_code.specs.Prefixes.{begins_with}
use Rattle.asmap_vm.specs.Code.{Tree, Return, Jump, Match, Default, IsSaneWithin, IsSane}
use Rattle.prefix_table.specs.declared.rows.Row.{Row}
use Rattle.prefix_table.specs.declared.rows.TheConstants.{MAX_ROWS}
use Rattle.prefix_table.specs.Rows.{path, IsRow, IsTable, Precedes}
use Rattle.bit_code.proofs.PrefixLaws.{begins_from, begins_start}
use Rattle.prefix_table.proofs.Items.{contains_cons, contains_head, cons_cases}
use Rattle.prefix_table.proofs.Rising.{Rises, pairs_from}
use Rattle.asmap_back.specs.Back.{first_at, row_at, unless_same, rows_of, rows_back}
use Rattle.asmap_back.proofs.PathRows.{span, path_row_at, inside, sides_meet, is_row_at}

-- the row is that of the path or of a longer one
pub record IsUnder (p : List Bool) (row : Row) : Type 0 where
  pub is : IsRow row
  pub begins : begins_with (path row) p ≡ true
  pub long : length p ≤ row.len
  pub low : first_at p ≤ row.bits
  pub high : row.bits < first_at p + span (length p)

-- a default that isn't the number of the longest row can be spelled
abbrev pub CanTell : ℕ → ℕ → Type 0
CanTell default last = (default ≡ last → ⊥) → HasValue coders.Asn default

under_itself : (p : List Bool) (n : ℕ) → length p ≤ 128 → HasValue coders.Asn n → IsUnder p (row_at p n)
under_itself p n low value =
    record {
      is = is_row_at p n low value;
      begins = begins_from (path (row_at p n)) p [] (path_row_at p n ∙ sym (append-nil p));
      long = omega arith;
      low = omega arith;
      high = omega (arith, pow_pos (128 - length p));
    }

-- a row under a longer path is under the path
pub under_shorter : (p w : List Bool) (row : Row) → length p + length w ≤ 128 → IsUnder (p ++ w) row → IsUnder p row
under_shorter p w row low u =
    let i = inside p w low in
    record {
      is = u.is;
      begins = begins_start (path row) p w u.begins;
      long = omega (arith, u.long, length-append p w);
      low = omega (arith, i.low, u.low);
      high = omega (arith, i.high, u.high);
    }

nothing : (row : Row) → Contains [] row → ⊥
nothing row has = absurd (omega (arith, has.1))

told_by : (p : List Bool) (asn last : ℕ) (b : Bool) (row : Row) → Contains (cond b [] (row_at p asn ∷ [])) row → (b ≡ false) × (row_at p asn ≡ row)
told_by p asn last true row has = absurd (nothing row has)
told_by p asn last false row has = elim (cons_cases (row_at p asn) [] row has) [ inl e ↦ (refl, e) | inr none ↦ absurd (nothing row none) ]

-- the row that is told
pub told_row : (p : List Bool) (asn last : ℕ) (row : Row) → Contains (unless_same (row_at p asn) last) row → (asn ≡ last → ⊥) × (row_at p asn ≡ row)
unfolding unless_same
told_row p asn last row has =
    let both = told_by p asn last (asn == last) row has in
    (eqb-false asn last both.0, both.1)

told_under : (p : List Bool) (asn last : ℕ) → length p ≤ 128 → CanTell asn last → (row : Row) → Contains (unless_same (row_at p asn) last) row → IsUnder p row
told_under p asn last low can row has =
    let both = told_row p asn last row has in
    subst (IsUnder p) both.1 (under_itself p asn low (can both.0))

-- each row of a tree at a path is under the path
pub each_under : (left : ℕ) (t : Tree) (p : List Bool) (default last : ℕ) → IsSaneWithin left t → left + length p ≤ 128 → CanTell default last → (row : Row) → Contains (rows_of t p default last) row → IsUnder p row
unfolding rows_of IsSaneWithin
each_under left (Return asn) p default last sane low can row has = told_under p asn last (omega arith) (λ _. sane) row has
each_under left (Jump l r) p default last sane low can row has =
    elim (Contains-append_cases (rows_of l (p ++ false ∷ []) default last) (rows_of r (p ++ true ∷ []) default last) row has) [
      | inl first ↦ under_shorter p (false ∷ []) row (omega (arith, sane.0)) (each_under (left - 1) l (p ++ false ∷ []) default last sane.2 (omega (arith, sane.0, length-append p (false ∷ []))) can row first)
      | inr second ↦ under_shorter p (true ∷ []) row (omega (arith, sane.0)) (each_under (left - 1) r (p ++ true ∷ []) default last sane.3 (omega (arith, sane.0, length-append p (true ∷ []))) can row second)
    ]
each_under left (Match wanted t) p default last sane low can row has =
    elim (Contains-append_cases (unless_same (row_at p default) last) (rows_of t (p ++ wanted) default default) row has) [
      | inl first ↦ told_under p default last (omega arith) can row first
      | inr second ↦ under_shorter p wanted row (omega (arith, sane.1)) (each_under (left - length wanted) t (p ++ wanted) default default sane.2 (omega (arith, sane.1, length-append p wanted)) (λ other. absurd (other refl)) row second)
    ]
each_under left (Default asn t) p default last sane low can row has = each_under left t p asn last sane.2 low (λ _. sane.0) row has

-- two lists that rise, one after the other
rises_append : (xs ys : List Row) → Rises xs → Rises ys → ((x y : Row) → Contains xs x → Contains ys y → Precedes x y) → Rises (xs ++ ys)
unfolding Rises
rises_append [] ys first second before = second
rises_append (x ∷ xs) ys first second before = (
  λ y has. elim (Contains-append_cases xs ys y has) [
    | inl more ↦ first.0 y more
    | inr more ↦ before x y (contains_head x xs) more
  ],
  rises_append xs ys first.1 second (λ a b has more. before a b (contains_cons x a xs has) more),
)

told_rises : (p : List Bool) (asn last : ℕ) → Rises (unless_same (row_at p asn) last)
unfolding unless_same Rises
told_rises p asn last = elim (asn == last) as (λ b. Rises (cond b [] (row_at p asn ∷ []))) [
  | true ↦ tt
  | false ↦ (λ y has. absurd (nothing y has), tt)
]

sides_before : (p : List Bool) (x y : Row) → length p < 128 → IsUnder (p ++ false ∷ []) x → IsUnder (p ++ true ∷ []) y → Precedes x y
sides_before p x y low u v = inl (omega (arith, sides_meet p low, u.high, v.low))

longer_after : (p w : List Bool) (asn : ℕ) (x y : Row) → 0 < length w → length p + length w ≤ 128 → row_at p asn ≡ x → IsUnder (p ++ w) y → Precedes x y
longer_after p w asn x y some low e v =
    subst (λ x. Precedes x y) e (by_bits (first_at p) y.bits (omega (arith, v.low, (inside p w low).low)) (omega (arith, some, v.long, length-append p w)))
  where
    by_bits : (a b : ℕ) → a ≤ b → length p < y.len → (a < b) ⊎ ((a ≡ b) × (length p < y.len))
    by_bits a b le long = elim (cases_lt a b) [ inl less ↦ inl less | inr more ↦ inr (omega arith, long) ]

-- the rows of a tree rise
pub rows_rise : (left : ℕ) (t : Tree) (p : List Bool) (default last : ℕ) → IsSaneWithin left t → left + length p ≤ 128 → CanTell default last → Rises (rows_of t p default last)
unfolding rows_of IsSaneWithin
rows_rise left (Return asn) p default last sane low can = told_rises p asn last
rows_rise left (Jump l r) p default last sane low can =
    let l_low : left - 1 + length (p ++ false ∷ []) ≤ 128 = omega (arith, sane.0, length-append p (false ∷ [])) in
    let r_low : left - 1 + length (p ++ true ∷ []) ≤ 128 = omega (arith, sane.0, length-append p (true ∷ [])) in
    rises_append (rows_of l (p ++ false ∷ []) default last) (rows_of r (p ++ true ∷ []) default last)
    (rows_rise (left - 1) l (p ++ false ∷ []) default last sane.2 l_low can)
    (rows_rise (left - 1) r (p ++ true ∷ []) default last sane.3 r_low can)
    (λ x y has more. sides_before p x y (omega (arith, sane.0))
    (each_under (left - 1) l (p ++ false ∷ []) default last sane.2 l_low can x has)
    (each_under (left - 1) r (p ++ true ∷ []) default last sane.3 r_low can y more))
rows_rise left (Match wanted t) p default last sane low can =
    let t_low : left - length wanted + length (p ++ wanted) ≤ 128 = omega (arith, sane.1, length-append p wanted) in
    let none = λ (other : default ≡ default → ⊥). absurd (other refl) in
    rises_append (unless_same (row_at p default) last) (rows_of t (p ++ wanted) default default)
    (told_rises p default last)
    (rows_rise (left - length wanted) t (p ++ wanted) default default sane.2 t_low none)
    (λ x y has more. longer_after p wanted default x y sane.0.some (omega (arith, sane.1)) (told_row p default last x has).1
    (each_under (left - length wanted) t (p ++ wanted) default default sane.2 t_low none y more))
rows_rise left (Default asn t) p default last sane low can = rows_rise left t p asn last sane.2 low (λ _. sane.0)

-- the rows of a sane tree are those of a table, if they are not too many
pub back_table : (t : Tree) → IsSane t → length (rows_back t) ≤ MAX_ROWS → IsTable (rows_back t)
back_table t sane few =
    let none = λ (other : 0 ≡ 0 → ⊥). absurd (other refl) in
    record {
      each = All-weaker (Contains (rows_back t)) IsRow (λ row has. (each_under 128 t [] 0 0 sane (omega arith) none row has).is) (rows_back t) (All-contains_itself (rows_back t));
      rising = pairs_from (rows_back t) (rows_rise 128 t [] 0 0 sane (omega arith) none);
      few = few;
    }
