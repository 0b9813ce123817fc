-- The dots of a view's slots.
use Rattle.std.proofs.Common.{◌≡◌, ℕ, ◌+◌, ◌*◌, ◌/◌, ◌<◌, ◌≤◌, ◌==◌, Bool, true, false, cond, List, [], ◌∷◌, ◌++◌, length, map, get_or, filter, refl, sym, ap, ◌∙◌, arith}
use Rattle.std.specs.List.{flat_map, range_with_len}
use Rattle.std.proofs.lemmas.List.Concat.{flat_map-append}
use Rattle.std.proofs.lemmas.List.Elements.{filter-append}
use Rattle.dot_runs.specs.Rects.{dot_x, dot_y, dots_over, row_rects, table_rects}
use Rattle.dot_runs.specs.Runs.{Run, run_text, rect_text, runs_from}
use Rattle.dot_runs.specs.Tables.{row_marks, row_x, row_y, table_row}
use Rattle.table_groups.specs.declared.sources.Source.{Source}
use Rattle.table_machine.specs.Picks.{bucket_count}
use Rattle.table_picture.specs.Marks.{rec_mark, table_marks}
use Rattle.table_picture.specs.Picture.{listed_of}
use Rattle.table_picture.proofs.Slots.{table-length}
use Rattle.picture_laws.proofs.Marks.{in-new, in-tried, mark-at}
use Rattle.picture_laws.specs.Dots.{DrawsSlots, marks_at, rect_of}
use Rattle.table_groups.specs.View.{View, occupant_at}

-- the rectangles of a mark in a row, and in all rows
row-paths : (mark top : ℕ) (rs : List Run)
    → flat_map (run_text mark top) rs ≡ flat_map rect_of (filter (λ p. p.1.mark == mark) (map (λ r. (top, r)) rs))
row-paths mark top [] = refl
row-paths mark top (r ∷ rs) = by (r.mark == mark) (row-paths mark top rs)
  where
    by : (b : Bool) → flat_map (run_text mark top) rs ≡ flat_map rect_of (filter (λ p. p.1.mark == mark) (map (λ r. (top, r)) rs))
        → cond b (rect_text r.start top r.wide) [] ++ flat_map (run_text mark top) rs
        ≡ flat_map rect_of (cond b ((top, r) ∷ filter (λ p. p.1.mark == mark) (map (λ r. (top, r)) rs)) (filter (λ p. p.1.mark == mark) (map (λ r. (top, r)) rs)))
    by true more = ap (λ (t : List ℕ). rect_text r.start top r.wide ++ t) more
    by false more = more

all-paths : (mark side : ℕ) (marks rows : List ℕ)
    → flat_map (table_row mark side marks) rows ≡ flat_map rect_of (filter (λ p. p.1.mark == mark) (flat_map (row_rects side marks) rows))
all-paths mark side marks [] = refl
all-paths mark side marks (row ∷ rows) =
    (λ i. row-paths mark (row_y side row) (runs_from (row_x side row) (row_marks marks row)) i ++ all-paths mark side marks rows i)
    ∙ sym (flat_map-append rect_of (filter (λ p. p.1.mark == mark) (row_rects side marks row)) (filter (λ p. p.1.mark == mark) (flat_map (row_rects side marks) rows)))
    ∙ sym (ap (flat_map rect_of) (filter-append (λ p. p.1.mark == mark) (row_rects side marks row) (flat_map (row_rects side marks) rows)))

-- what the law of all lists of marks says
abbrev pub OneDot : Type 0
OneDot = (side : ℕ) (marks : List ℕ) (bucket slot : ℕ) → slot < 64 → 64 * bucket + 64 ≤ length marks
    → dots_over (dot_x side bucket slot) (dot_y side bucket slot) (table_rects side marks) ≡ get_or marks (64 * bucket + slot) 0 ∷ []

module _ (view : View) (one_dot : OneDot) where
  abbrev listed : List Source
  listed = listed_of view

  -- the dot of a slot of a table
  dot-at : (side : ℕ) (in_new : Bool) (bucket slot : ℕ) → bucket < bucket_count in_new → slot < 64 → marks_at side (table_marks view listed in_new) bucket slot
      ≡ rec_mark view.places listed (occupant_at view in_new bucket slot) ∷ []
  dot-at side in_new bucket slot low small =
      one_dot side (table_marks view listed in_new) bucket slot small (omega (arith, table-length view listed in_new, low))
      ∙ ap (λ (m : ℕ). m ∷ []) (mark-at view listed in_new bucket slot low small)

  pub draws-slots : DrawsSlots view
  draws-slots = record {
    new = λ bucket slot low small. ap (λ (ms : List ℕ). marks_at 32 ms bucket slot) (in-new view listed) ∙ dot-at 32 true bucket slot low small;
    tried = λ bucket slot low small. ap (λ (ms : List ℕ). marks_at 16 ms bucket slot) (in-tried view listed) ∙ dot-at 16 false bucket slot low small;
    paths = λ mark side marks. all-paths mark side marks (range_with_len 0 (length marks / 8));
  }
