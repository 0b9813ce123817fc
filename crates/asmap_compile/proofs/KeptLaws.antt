-- The rows that stay, while they are put in the place of all rows.
use Rattle.std.proofs.Common.{◌≡◌, ℕ, ◌+◌, ◌<◌, ◌≤◌, List, [], ◌∷◌, ◌++◌, length, take, filter, get_or, refl, ap, ◌∙◌, arith}
use Rattle.std.proofs.lemmas.List.{get_or-set_other, length-set, take_all, take_more_set}
use Rattle.std.specs.Prelude.{set}
use Rattle.prefix_table.specs.declared.rows.Row.{Row}
use Rattle.asmap_compile.specs.Compiled.{stays, rows_kept}

-- the first `count` rows are those that stay of the first i rows of the table, and the rows from i
-- on are as in the table
pub record KeepsUpTo (table rows : List Row) (i count : ℕ) : Type 0 where
  pub few : count ≤ i
  pub long : length rows ≡ length table
  pub kept : take count rows ≡ filter (stays table) (take i table)
  pub rest : (k : ℕ) (d : Row) → i ≤ k → get_or rows k d ≡ get_or table k d

pub keeps_none : (table : List Row) → KeepsUpTo table table 0 0
keeps_none table = record { few = omega arith; long = refl; kept = refl; rest = λ k d le. refl }

-- the next row stays
pub keeps_row : (table rows : List Row) (i count : ℕ) (row : Row) → KeepsUpTo table rows i count → i < length table → filter (stays table) (take i table) ++ row ∷ [] ≡ filter (stays table) (take (i + 1) table) → KeepsUpTo table (set rows count row) (i + 1) (count + 1)
keeps_row table rows i count row k low more = record {
  few = omega (arith, k.few);
  long = length-set rows count row ∙ k.long;
  kept = take_more_set rows count row (omega (arith, k.few, k.long)) ∙ ap (λ (rs : List Row). rs ++ row ∷ []) k.kept ∙ more;
  rest = λ j d le. get_or-set_other rows count j row d (λ e. omega (arith, e, k.few)) ∙ k.rest j d (omega arith);
}

-- or it doesn't
pub leaves_row : (table rows : List Row) (i count : ℕ) → KeepsUpTo table rows i count → filter (stays table) (take i table) ≡ filter (stays table) (take (i + 1) table) → KeepsUpTo table rows (i + 1) count
leaves_row table rows i count k same = record {
  few = omega (arith, k.few);
  long = k.long;
  kept = k.kept ∙ same;
  rest = λ j d le. k.rest j d (omega arith);
}

pub keeps_all : (table rows : List Row) (i count : ℕ) → KeepsUpTo table rows i count → length table ≤ i → take count rows ≡ rows_kept table
keeps_all table rows i count k end = k.kept ∙ ap (λ (rs : List Row). filter (stays table) rs) (take_all i table end)
