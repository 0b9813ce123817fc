-- The lines that were read before a step of the loop.
use Rattle.std.proofs.Common.{◌≡◌, ℕ, ◌+◌, ◌<◌, ◌≤◌, List, [], ◌∷◌, ◌++◌, length, ◌∙◌, ap, sym, subst, arith, inl, inr, refl, append_assoc, append-nil, length-append, All}
use Rattle.std.proofs.lemmas.List.Elements.{All-nil, All-push}
use Rattle.host_io.specs.Lines.{IsPassedOver, lines_of}
use Rattle.prefix_table.specs.Text.{IsRowLine, HasRowFault}
use Rattle.prefix_table.specs.Numbered.{IsSettled, row_in, with_line, AreNumbered, IsWhole, StopsAt, Overflows}
use Rattle.prefix_table.specs.declared.rows.Row.{Row}
use Rattle.prefix_table.specs.declared.rows.TheConstants.{MAX_ROWS}
use Rattle.prefix_table.specs.declared.numbered.NumberedRow.{NumberedRow}
use Rattle.prefix_table.specs.declared.fault.TableFault.{TableFault}

numbered_passed : (n : ℕ) (lines : List (List ℕ)) (rows : List NumberedRow) (line : List ℕ) → AreNumbered n lines rows → IsPassedOver line → AreNumbered n (lines ++ line ∷ []) rows
unfolding AreNumbered
numbered_passed n [] [] line are passed = (passed, refl)
numbered_passed n [] (row ∷ rows) line are passed = cc
numbered_passed n (first ∷ lines) [] line are passed = (are.0, numbered_passed (n + 1) lines [] line are.1 passed)
numbered_passed n (first ∷ lines) (row ∷ rows) line (inl are) passed = inl (are.0, numbered_passed (n + 1) lines (row ∷ rows) line are.1 passed)
numbered_passed n (first ∷ lines) (row ∷ rows) line (inr are) passed = inr (are.0, are.1, numbered_passed (n + 1) lines rows line are.2 passed)

pub numbered_row : (n : ℕ) (lines : List (List ℕ)) (rows : List NumberedRow) (line : List ℕ) (last : NumberedRow) → AreNumbered n lines rows → last.line ≡ n + length lines → IsRowLine line (row_in last) → AreNumbered n (lines ++ line ∷ []) (rows ++ last ∷ [])
unfolding AreNumbered
numbered_row n [] [] line last are number is = inr (omega (arith, number), is, refl)
numbered_row n [] (row ∷ rows) line last are number is = cc
numbered_row n (first ∷ lines) [] line last are number is = inl (are.0, numbered_row (n + 1) lines [] line last are.1 (omega (arith, number)) is)
numbered_row n (first ∷ lines) (row ∷ rows) line last (inl are) number is = inl (are.0, numbered_row (n + 1) lines (row ∷ rows) line last are.1 (omega (arith, number)) is)
numbered_row n (first ∷ lines) (row ∷ rows) line last (inr are) number is = inr (are.0, are.1, numbered_row (n + 1) lines rows line last are.2 (omega (arith, number)) is)

-- the lines of the text up to the rest are those of the rows
pub record SoFar (text rest : List ℕ) (rows : List NumberedRow) (line : ℕ) : Type 0 where
  pub done : List (List ℕ)
  pub lines : lines_of text ≡ done ++ lines_of rest
  pub are_rows : AreNumbered 1 done rows
  pub settled : All IsSettled done
  pub count : line ≡ length done
  pub few : length rows ≤ MAX_ROWS
  pub short : line + length rest ≤ length text

pub so_far_none : (text : List ℕ) → SoFar text text [] 0
unfolding AreNumbered
so_far_none text = record { done = []; lines = refl; are_rows = refl; settled = All-nil IsSettled; count = refl; few = omega arith; short = omega arith }

next_lines : (text rest after first : List ℕ) (done : List (List ℕ)) → lines_of text ≡ done ++ lines_of rest → lines_of rest ≡ first ∷ lines_of after → lines_of text ≡ (done ++ first ∷ []) ++ lines_of after
next_lines text rest after first done whole cut = whole ∙ ap (λ (ls : List (List ℕ)). done ++ ls) cut ∙ sym (append_assoc done (first ∷ []) (lines_of after))

pub so_far_passed : (text rest after first : List ℕ) (rows : List NumberedRow) (line : ℕ) → SoFar text rest rows line → lines_of rest ≡ first ∷ lines_of after → length after < length rest → IsSettled first → IsPassedOver first → SoFar text after rows (line + 1)
so_far_passed text rest after first rows line so cut fewer settled passed = record {
  done = so.done ++ first ∷ [];
  lines = next_lines text rest after first so.done so.lines cut;
  are_rows = numbered_passed 1 so.done rows first so.are_rows passed;
  settled = All-push IsSettled so.done first so.settled settled;
  count = omega (arith, so.count, length-append so.done (first ∷ []));
  few = so.few;
  short = omega (arith, so.short);
}

pub so_far_row : (text rest after first : List ℕ) (rows : List NumberedRow) (line : ℕ) (row : Row) → SoFar text rest rows line → lines_of rest ≡ first ∷ lines_of after → length after < length rest → IsSettled first → IsRowLine first row → length rows + 1 ≤ MAX_ROWS → SoFar text after (rows ++ with_line row (line + 1) ∷ []) (line + 1)
so_far_row text rest after first rows line row so cut fewer settled is room = record {
  done = so.done ++ first ∷ [];
  lines = next_lines text rest after first so.done so.lines cut;
  are_rows = numbered_row 1 so.done rows first (with_line row (line + 1)) so.are_rows (omega (arith, so.count)) is;
  settled = All-push IsSettled so.done first so.settled settled;
  count = omega (arith, so.count, length-append so.done (first ∷ []));
  few = omega (arith, length-append rows (with_line row (line + 1) ∷ []));
  short = omega (arith, so.short);
}

pub overflows : (text rest after first : List ℕ) (rows : List NumberedRow) (line : ℕ) (row : Row) → SoFar text rest rows line → lines_of rest ≡ first ∷ lines_of after → IsSettled first → IsRowLine first row → MAX_ROWS < length (rows ++ with_line row (line + 1) ∷ []) → Overflows text (rows ++ with_line row (line + 1) ∷ [])
overflows text rest after first rows line row so cut settled is full = record {
  before = so.done;
  line = first;
  after = lines_of after;
  lines = so.lines ∙ ap (λ (ls : List (List ℕ)). so.done ++ ls) cut;
  first = rows;
  last = with_line row (line + 1);
  split = refl;
  are_rows = so.are_rows;
  full = omega (arith, so.few, length-append rows (with_line row (line + 1) ∷ []));
  settled = All-push IsSettled so.done first so.settled settled;
  number = omega (arith, so.count);
  is_row = is;
}

pub stops_at : (text rest after first : List ℕ) (rows : List NumberedRow) (line : ℕ) (fault : TableFault) → SoFar text rest rows line → lines_of rest ≡ first ∷ lines_of after → IsSettled first → HasRowFault [] first (line + 1) fault → StopsAt text rows fault
stops_at text rest after first rows line fault so cut settled has = record {
  before = so.done;
  line = first;
  after = lines_of after;
  lines = so.lines ∙ ap (λ (ls : List (List ℕ)). so.done ++ ls) cut;
  are_rows = so.are_rows;
  settled = All-push IsSettled so.done first so.settled settled;
  few = so.few;
  has = subst (λ n. HasRowFault [] first (n + 1) fault) so.count has;
}

pub whole : (text : List ℕ) (rows : List NumberedRow) (line : ℕ) (rest : List ℕ) → SoFar text rest rows line → rest ≡ [] → IsWhole text rows
unfolding lines_of
whole text rows line rest so none = record {
  lines = subst (λ ls. AreNumbered 1 ls rows) (sym (so.lines ∙ ap (λ r. so.done ++ lines_of r) none ∙ append-nil so.done)) so.are_rows;
  settled = subst (All IsSettled) (sym (so.lines ∙ ap (λ r. so.done ++ lines_of r) none ∙ append-nil so.done)) so.settled;
  few = so.few;
}
