-- A text that is written piece by piece.
use Rattle.std.proofs.Common.{◌≡◌, ℕ, List, [], ◌∷◌, ◌++◌, sym, ap, ◌∙◌, subst, append_assoc, append-nil}
use Rattle.std.specs.Prelude.{Option, flat_map}
use Rattle.host_io.specs.Writing.{Appended, AppendedPart}
use Rattle.host_io.proofs.Appending.{append_both, append_none, append_part}
use Rattle.prefix_table.specs.Print.{row_text, table_text}
use Rattle.prefix_table.specs.declared.rows.Row.{Row}

-- the text so far, the piece that waits to be written, and the rows that are still to come
pub record Waits (all : List ℕ) (left : List Row) (piece : List ℕ) (old new : Option (List ℕ)) : Type 0 where
  pub text : List ℕ
  pub written : Appended old new text
  pub whole : text ++ (piece ++ flat_map row_text left) ≡ all

-- nothing is written yet
pub waits_first : (rows : List Row) (piece : List ℕ) (old : Option (List ℕ)) → piece ≡ [] → Waits (table_text rows) rows piece old old
unfolding table_text
waits_first rows piece old none = record { text = []; written = append_none old; whole = ap (λ xs. xs ++ flat_map row_text rows) none }

-- a line more waits, and the first bytes that waited may be written
pub waits_next : (all : List ℕ) (left after : List Row) (row : Row) (piece more first : List ℕ) (old mid new : Option (List ℕ)) → Waits all left piece old mid → left ≡ row ∷ after →
    Appended mid new first → first ++ more ≡ piece ++ row_text row → Waits all after more old new
waits_next all left after row piece more first old mid new w is put cut =
    let later = flat_map row_text after in
    record {
      text = w.text ++ first;
      written = append_both old mid new w.text first w.written put;
      whole =
          append_assoc w.text first (more ++ later)
          ∙ ap (λ xs. w.text ++ xs) (sym (append_assoc first more later) ∙ ap (λ xs. xs ++ later) cut ∙ append_assoc piece (row_text row) later)
          ∙ ap (λ (rs : List Row). w.text ++ (piece ++ flat_map row_text rs)) (sym is)
          ∙ w.whole;
    }

-- a part of the piece is written
pub waits_part : (all : List ℕ) (left : List Row) (piece : List ℕ) (old mid new : Option (List ℕ)) → Waits all left piece old mid → AppendedPart mid new piece → AppendedPart old new all
waits_part all left piece old mid new w part = append_part old mid new w.text piece (flat_map row_text left) all w.written part w.whole

-- all of the piece is written, and no row is left
pub waits_all : (all : List ℕ) (left : List Row) (piece : List ℕ) (old mid new : Option (List ℕ)) → Waits all left piece old mid → left ≡ [] → Appended mid new piece → Appended old new all
waits_all all left piece old mid new w none put =
    subst (Appended old new) (ap (λ xs. w.text ++ xs) (sym (append-nil piece) ∙ ap (λ (rs : List Row). piece ++ flat_map row_text rs) (sym none)) ∙ w.whole) (append_both old mid new w.text piece w.written put)
