-- The dot of each slot is covered by one rectangle, which has the mark of the slot.
use Rattle.std.proofs.Common.{◌≡◌, ℕ, zero, suc, ◌+◌, ◌*◌, ◌/◌, ◌%◌, ◌<◌, ◌≤◌, Bool, true, false, cond, ◌==◌, List, [], ◌∷◌, ◌++◌, map, length, get_or, drop, filter, refl, sym, ap, ◌∙◌, arith, inl, inr, ◌⊎◌}
use Rattle.std.specs.List.{flat_map, range_with_len}
use Rattle.std.proofs.Math.Nat.{div-add-mod}
use Rattle.std.proofs.lemmas.Bool.{eqb-true, eq-eqb, ne_eqb, cases_eq, cases_lt, cases_order, and_from, and_left, and_right}
use Rattle.std.proofs.lemmas.List.{map-append, length-take, length-drop, get_or-take, get_or-drop}
use Rattle.std.proofs.lemmas.List.Elements.{filter-append}
use Rattle.dot_runs.specs.Runs.{Run, runs_from, covers, marks_over}
use Rattle.dot_runs.specs.Tables.{row_x, row_y, row_marks}
use Rattle.dot_runs.specs.Rects.{row_rects, table_rects, dot_x, dot_y, covers_dot, dots_over}
use Rattle.dot_runs.proofs.Covers.{marks-yes, marks-no, none_before, none_behind, one_over}

dots-append : (x y : ℕ) (ps qs : List (ℕ × Run)) → dots_over x y (ps ++ qs) ≡ dots_over x y ps ++ dots_over x y qs
dots-append x y ps qs =
    ap (map (λ (p : ℕ × Run). p.1.mark)) (filter-append (covers_dot x y) ps qs)
    ∙ map-append (λ (p : ℕ × Run). p.1.mark) (filter (covers_dot x y) ps) (filter (covers_dot x y) qs)

dots-yes : (x y : ℕ) (p : ℕ × Run) (ps : List (ℕ × Run)) → covers_dot x y p ≡ true → dots_over x y (p ∷ ps) ≡ p.1.mark ∷ dots_over x y ps
dots-yes x y p ps e = ap (λ (b : Bool). map (λ (q : ℕ × Run). q.1.mark) (cond b (p ∷ filter (covers_dot x y) ps) (filter (covers_dot x y) ps))) e

dots-no : (x y : ℕ) (p : ℕ × Run) (ps : List (ℕ × Run)) → covers_dot x y p ≡ false → dots_over x y (p ∷ ps) ≡ dots_over x y ps
dots-no x y p ps e = ap (λ (b : Bool). map (λ (q : ℕ × Run). q.1.mark) (cond b (p ∷ filter (covers_dot x y) ps) (filter (covers_dot x y) ps))) e

-- a row at the dot's height is looked at from the left alone
in_row : (x y top : ℕ) (rs : List Run) → (top == y) ≡ true → dots_over x y (map (λ r. (top, r)) rs) ≡ marks_over x rs
in_row x y top [] e = refl
in_row x y top (r ∷ rs) e = by (covers x r) refl (in_row x y top rs e)
  where
    by : (b : Bool) → covers x r ≡ b → dots_over x y (map (λ q. (top, q)) rs) ≡ marks_over x rs
        → dots_over x y ((top, r) ∷ map (λ q. (top, q)) rs) ≡ marks_over x (r ∷ rs)
    by true h more =
        dots-yes x y (top, r) (map (λ q. (top, q)) rs) (and_from (top == y) (covers x r) e h)
        ∙ ap (λ (ms : List ℕ). r.mark ∷ ms) more ∙ sym (marks-yes x r rs h)
    by false h more =
        dots-no x y (top, r) (map (λ q. (top, q)) rs) (and_right (top == y) (covers x r) h)
        ∙ more ∙ sym (marks-no x r rs h)

-- a row at another height covers nothing of it
off_row : (x y top : ℕ) (rs : List Run) → (top == y) ≡ false → dots_over x y (map (λ r. (top, r)) rs) ≡ []
off_row x y top [] e = refl
off_row x y top (r ∷ rs) e = dots-no x y (top, r) (map (λ q. (top, q)) rs) (and_left (top == y) (covers x r) e) ∙ off_row x y top rs e

-- rows before the one that counts
nothing : (f : ℕ → List (ℕ × Run)) (x y R a n : ℕ) → ((k : ℕ) → (k ≡ R → ⊥) → dots_over x y (f k) ≡ []) → R < a
    → dots_over x y (flat_map f (range_with_len a n)) ≡ []
nothing f x y R a zero others low = refl
nothing f x y R a (suc n) others low =
    dots-append x y (f a) (flat_map f (range_with_len (a + 1) n))
    ∙ ap (λ (ms : List ℕ). ms ++ dots_over x y (flat_map f (range_with_len (a + 1) n))) (others a (λ e. omega (arith, e)))
    ∙ nothing f x y R (a + 1) n others (omega arith)

beyond : (i j : ℕ) → i ≤ j → (i ≡ j → ⊥) → i + 1 ≤ j
beyond i j le other = at (cases_order i j)
  where
    at : (i ≡ j) ⊎ ((i < j) ⊎ (j < i)) → i + 1 ≤ j
    at (inl e) = absurd (other e)
    at (inr (inl lt)) = omega arith
    at (inr (inr gt)) = absurd (omega arith)

-- one row counts, and the others give nothing
only : (f : ℕ → List (ℕ × Run)) (x y R m a n : ℕ) → dots_over x y (f R) ≡ m ∷ [] → ((k : ℕ) → (k ≡ R → ⊥) → dots_over x y (f k) ≡ [])
    → a ≤ R → R < a + n → dots_over x y (flat_map f (range_with_len a n)) ≡ m ∷ []
only f x y R m a zero own others low high = absurd (omega arith)
only f x y R m a (suc n) own others low high =
    dots-append x y (f a) (flat_map f (range_with_len (a + 1) n)) ∙ by (cases_eq a R) (only f x y R m (a + 1) n own others)
  where
    by : (a ≡ R) ⊎ (a ≡ R → ⊥) → (a + 1 ≤ R → R < a + 1 + n → dots_over x y (flat_map f (range_with_len (a + 1) n)) ≡ m ∷ [])
        → dots_over x y (f a) ++ dots_over x y (flat_map f (range_with_len (a + 1) n)) ≡ m ∷ []
    by (inl e) later =
        ap (λ (k : ℕ). dots_over x y (f k) ++ dots_over x y (flat_map f (range_with_len (a + 1) n))) e
        ∙ ap (λ (ms : List ℕ). ms ++ dots_over x y (flat_map f (range_with_len (a + 1) n))) own
        ∙ ap (λ (ms : List ℕ). m ∷ ms) (nothing f x y R (a + 1) n others (omega (arith, e)))
    by (inr ne) later =
        ap (λ (ms : List ℕ). ms ++ dots_over x y (flat_map f (range_with_len (a + 1) n))) (others a ne)
        ∙ later (beyond a R low ne) (omega arith)

-- heights of rows: eight rows a tile, nine dots on
same_tile : (p k q j : ℕ) → k < 8 → j < 8 → 9 * p + k ≡ 9 * q + j → (p ≡ q) × (k ≡ j)
same_tile p k q j low low' e = (omega arith, omega arith)

-- a bucket is known by its column and its row of tiles
same_bucket : (side b c : ℕ) → b / side ≡ c / side → b % side ≡ c % side → b ≡ c
same_bucket side b c down right =
    sym (div-add-mod b side) ∙ ap (λ (k : ℕ). side * k + b % side) down ∙ ap (λ (k : ℕ). side * (c / side) + k) right ∙ div-add-mod c side

short : (marks : List ℕ) (row : ℕ) → length (row_marks marks row) ≤ 8
short marks row = simp length-take (omega arith)

module _ (side : ℕ) (marks : List ℕ) (b s : ℕ) (slot : s < 64) where
  -- in its own row
  own_row : 64 * b + 64 ≤ length marks → dots_over (dot_x side b s) (dot_y side b s) (row_rects side marks (8 * b + s / 8)) ≡ get_or marks (64 * b + s) 0 ∷ []
  own_row whole =
      let bucket : (8 * b + s / 8) / 8 ≡ b = omega arith in
      let line : (8 * b + s / 8) % 8 ≡ s / 8 = omega arith in
      let left : dot_x side b s ≡ row_x side (8 * b + s / 8) + s % 8 = ap (λ (k : ℕ). 9 * (k % side) + s % 8) (sym bucket) in
      let top : row_y side (8 * b + s / 8) ≡ dot_y side b s = ap (λ (k : ℕ). 9 * (k / side) + (8 * b + s / 8) % 8) bucket ∙ ap (λ (k : ℕ). 9 * (b / side) + k) line in
      let long : s % 8 < length (row_marks marks (8 * b + s / 8)) = simp (length-take, length-drop) (omega arith) in
      in_row (dot_x side b s) (dot_y side b s) (row_y side (8 * b + s / 8)) (runs_from (row_x side (8 * b + s / 8)) (row_marks marks (8 * b + s / 8))) (eq-eqb (row_y side (8 * b + s / 8)) (dot_y side b s) top)
      ∙ ap (λ (x : ℕ). marks_over x (runs_from (row_x side (8 * b + s / 8)) (row_marks marks (8 * b + s / 8)))) left
      ∙ one_over (row_x side (8 * b + s / 8)) (s % 8) (row_marks marks (8 * b + s / 8)) long
      ∙ ap (λ (m : ℕ). m ∷ []) (get_or-take 8 (drop (8 * (8 * b + s / 8)) marks) (s % 8) 0 (omega arith) ∙ get_or-drop (8 * (8 * b + s / 8)) marks (s % 8) 0 ∙ ap (λ (i : ℕ). get_or marks i 0) (omega arith))

  -- in another row at its height
  level_row : (row : ℕ) → (row ≡ 8 * b + s / 8 → ⊥) → row / 8 / side ≡ b / side → row % 8 ≡ s / 8
      → marks_over (dot_x side b s) (runs_from (row_x side row) (row_marks marks row)) ≡ []
  level_row row other down line = at (cases_order (row / 8 % side) (b % side))
    where
      at : (row / 8 % side ≡ b % side) ⊎ ((row / 8 % side < b % side) ⊎ (b % side < row / 8 % side))
          → marks_over (dot_x side b s) (runs_from (row_x side row) (row_marks marks row)) ≡ []
      at (inl right) = let same = same_bucket side (row / 8) b down right in absurd (other (omega (arith, same, line)))
      at (inr (inl before)) = none_behind (dot_x side b s) (row_x side row) (row_marks marks row) (omega (arith, short marks row, before))
      at (inr (inr after)) = none_before (dot_x side b s) (row_x side row) (row_marks marks row) (omega (arith, after))

  -- in any other row
  other_row : (row : ℕ) → (row ≡ 8 * b + s / 8 → ⊥) → dots_over (dot_x side b s) (dot_y side b s) (row_rects side marks row) ≡ []
  other_row row other = by (row_y side row == dot_y side b s) refl
    where
      by : (t : Bool) → (row_y side row == dot_y side b s) ≡ t → dots_over (dot_x side b s) (dot_y side b s) (row_rects side marks row) ≡ []
      by false e = off_row (dot_x side b s) (dot_y side b s) (row_y side row) (runs_from (row_x side row) (row_marks marks row)) e
      by true e =
          let level : (row / 8 / side ≡ b / side) × (row % 8 ≡ s / 8) = same_tile (row / 8 / side) (row % 8) (b / side) (s / 8) (omega arith) (omega arith) (eqb-true (row_y side row) (dot_y side b s) e) in
          in_row (dot_x side b s) (dot_y side b s) (row_y side row) (runs_from (row_x side row) (row_marks marks row)) e
          ∙ level_row row other level.0 level.1

  -- so one rectangle of the table covers the slot's dot, and has its mark
  pub one_dot : 64 * b + 64 ≤ length marks
      → dots_over (dot_x side b s) (dot_y side b s) (table_rects side marks) ≡ get_or marks (64 * b + s) 0 ∷ []
  one_dot whole =
      only (row_rects side marks) (dot_x side b s) (dot_y side b s) (8 * b + s / 8) (get_or marks (64 * b + s) 0) 0 (length marks / 8)
      (own_row whole) other_row (omega arith) (omega arith)

-- rows that all give nothing
none_of_all : (f : ℕ → List (ℕ × Run)) (x y a n : ℕ) → ((k : ℕ) → dots_over x y (f k) ≡ []) → dots_over x y (flat_map f (range_with_len a n)) ≡ []
none_of_all f x y a zero each = refl
none_of_all f x y a (suc n) each =
    dots-append x y (f a) (flat_map f (range_with_len (a + 1) n))
    ∙ ap (λ (ms : List ℕ). ms ++ dots_over x y (flat_map f (range_with_len (a + 1) n))) (each a)
    ∙ none_of_all f x y (a + 1) n each

-- what stands in the column between two tiles is covered by no row
beside : (x y top left : ℕ) (ms : List ℕ) → length ms ≤ 8 → dots_over (9 * x + 8) y (map (λ r. (top, r)) (runs_from (9 * left) ms)) ≡ []
beside x y top left ms small = by (top == y) refl
  where
    at : (x < left) ⊎ (left ≤ x) → marks_over (9 * x + 8) (runs_from (9 * left) ms) ≡ []
    at (inl before) = none_before (9 * x + 8) (9 * left) ms (omega arith)
    at (inr after) = none_behind (9 * x + 8) (9 * left) ms (omega arith)

    by : (t : Bool) → (top == y) ≡ t → dots_over (9 * x + 8) y (map (λ r. (top, r)) (runs_from (9 * left) ms)) ≡ []
    by true e = in_row (9 * x + 8) y top (runs_from (9 * left) ms) e ∙ at (cases_lt x left)
    by false e = off_row (9 * x + 8) y top (runs_from (9 * left) ms) e

-- what stands in the line between two tiles is at no row's height
between : (y p k : ℕ) → k < 8 → (9 * p + k == 9 * y + 8) ≡ false
between y p k low = ne_eqb (9 * p + k) (9 * y + 8) (λ e. omega (arith, e))

-- no rectangle covers a place between two tiles
pub no_gap_column : (side : ℕ) (marks : List ℕ) (x y : ℕ) → dots_over (9 * x + 8) y (table_rects side marks) ≡ []
no_gap_column side marks x y =
    none_of_all (row_rects side marks) (9 * x + 8) y 0 (length marks / 8)
    (λ row. beside x y (row_y side row) (row / 8 % side) (row_marks marks row) (short marks row))

pub no_gap_line : (side : ℕ) (marks : List ℕ) (x y : ℕ) → dots_over x (9 * y + 8) (table_rects side marks) ≡ []
no_gap_line side marks x y =
    none_of_all (row_rects side marks) x (9 * y + 8) 0 (length marks / 8)
    (λ row. off_row x (9 * y + 8) (row_y side row) (runs_from (row_x side row) (row_marks marks row)) (between y (row / 8 / side) (row % 8) (omega arith)))
