-- Texts that need no escapes.
use Rattle.std.proofs.Common.{ℕ, ◌/◌, ◌==◌, Bool, true, false, cond, List, [], ◌++◌, refl, length}
use Rattle.std.specs.Prelude.{codes, decimal}
use Rattle.dot_runs.specs.Runs.{Run, rect_text, run_text, runs_from}
use Rattle.dot_runs.specs.Tables.{path_text, row_marks, row_x, row_y, table_row}
use Rattle.std.specs.List.{range_with_len}
use Rattle.picture_text.specs.Elements.{colour}
use Rattle.picture_text.specs.Markup.{IsPlain}
pub use Rattle.table_groups.proofs.PlainTexts.{plain-append, plain-cons, plain-decimal, plain-flat_map, plain-numbered}

plain-rect : (x y wide : ℕ) → IsPlain (rect_text x y wide)
plain-rect x y wide =
    let one : List ℕ = codes "M" ++ decimal x in
    let two : List ℕ = one ++ codes " " ++ decimal y in
    let three : List ℕ = two ++ codes "h" ++ decimal wide in
    let four : List ℕ = three ++ codes "v1h-" ++ decimal wide in
    let plain_one : IsPlain one = plain-append (codes "M") (decimal x) refl (plain-decimal x) in
    let plain_two : IsPlain two = plain-append (one ++ codes " ") (decimal y) (plain-append one (codes " ") plain_one refl) (plain-decimal y) in
    let plain_three : IsPlain three = plain-append (two ++ codes "h") (decimal wide) (plain-append two (codes "h") plain_two refl) (plain-decimal wide) in
    let plain_four : IsPlain four = plain-append (three ++ codes "v1h-") (decimal wide) (plain-append three (codes "v1h-") plain_three refl) (plain-decimal wide) in
    plain-append four (codes "z") plain_four refl

plain-run : (mark y : ℕ) (r : Run) → IsPlain (run_text mark y r)
plain-run mark y r = by (r.mark == mark)
  where
    by : (b : Bool) → IsPlain (cond b (rect_text r.start y r.wide) [])
    by true = plain-rect r.start y r.wide
    by false = refl

pub plain-path : (mark side : ℕ) (marks : List ℕ) → IsPlain (path_text mark side marks)
plain-path mark side marks =
    plain-flat_map (table_row mark side marks)
    (λ row. plain-flat_map (run_text mark (row_y side row)) (plain-run mark (row_y side row)) (runs_from (row_x side row) (row_marks marks row)))
    (range_with_len 0 (length marks / 8))

pub plain-colour : (index : ℕ) → IsPlain (colour index)
plain-colour index = a (index == 0) (index == 1) (index == 2) (index == 3) (index == 4) (index == 5) (index == 6)
  where
    a : (p q r s t u v : Bool) → IsPlain (cond p (codes "#d55e00") (cond q (codes "#0072b2") (cond r (codes "#009e73") (cond s (codes "#cc79a7") (cond t (codes "#e69f00") (cond u (codes "#56b4e9") (cond v (codes "#57606a") (codes "#0b0c0d"))))))))
    a true q r s t u v = refl
    a false true r s t u v = refl
    a false false true s t u v = refl
    a false false false true t u v = refl
    a false false false false true u v = refl
    a false false false false false true v = refl
    a false false false false false false true = refl
    a false false false false false false false = refl
