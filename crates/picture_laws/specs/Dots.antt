-- What the maps show of each slot.
use Rattle.std.specs.Prelude.{◌≡◌, ℕ, ◌<◌, ◌==◌, List, [], ◌∷◌, filter}
use Rattle.std.specs.List.{flat_map}
use Rattle.dot_runs.specs.Rects.{dot_x, dot_y, dots_over, table_rects}
use Rattle.dot_runs.specs.Runs.{Run, rect_text}
use Rattle.dot_runs.specs.Tables.{path_text}
use Rattle.slot_grid.specs.declared.sizes.TheConstants.{NEW_BUCKETS, SLOTS, TRIED_BUCKETS}
use Rattle.picture_text.specs.Picture.{in_new, in_tried}
use Rattle.table_picture.specs.Marks.{rec_mark}
use Rattle.table_picture.specs.Picture.{listed_of, marks_of}
use Rattle.table_groups.specs.View.{View}

-- the marks of the rectangles that cover the dot of a slot in a map, `side` tiles wide
abbrev pub marks_at : ℕ → List ℕ → ℕ → ℕ → List ℕ
marks_at side marks bucket slot =
    dots_over (dot_x side bucket slot) (dot_y side bucket slot) (table_rects side marks)

-- the rectangle of a run, which is as far from the top as the number before it
abbrev pub rect_of : ℕ × Run → List ℕ
rect_of p = rect_text p.1.start p.0 p.1.wide

-- the rectangles of a mark
abbrev pub rects_of : ℕ → ℕ → List ℕ → List (ℕ × Run)
rects_of mark side marks = filter (λ p. p.1.mark == mark) (table_rects side marks)

-- Of the rectangles of all marks one covers the dot of each slot, and it has the mark of the slot's
-- record. The path of a mark draws the rectangles of this mark; no path has the mark 0.
pub record DrawsSlots (view : View) : Type 0 where
  pub new : (bucket slot : ℕ) → bucket < NEW_BUCKETS → slot < SLOTS →
      marks_at 32 (in_new (marks_of view)) bucket slot
      ≡ rec_mark view.places (listed_of view) (view.new bucket slot) ∷ []
  pub tried : (bucket slot : ℕ) → bucket < TRIED_BUCKETS → slot < SLOTS →
      marks_at 16 (in_tried (marks_of view)) bucket slot
      ≡ rec_mark view.places (listed_of view) (view.tried bucket slot) ∷ []
  pub paths : (mark side : ℕ) (marks : List ℕ) →
      path_text mark side marks ≡ flat_map rect_of (rects_of mark side marks)
