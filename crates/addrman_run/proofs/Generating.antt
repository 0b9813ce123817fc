-- What is written of a generated log, piece by piece.
use Rattle.std.proofs.Common.{◌≡◌, ◌≢◌, ◌<◌, ℕ, List, [], ◌∷◌, ◌++◌, length, refl, sym, ap, ◌∙◌, subst, arith, append_assoc}
use Rattle.std.specs.Prelude.{◌↔◌, Bool, true, false, IsTrue, Option}
use Rattle.std.specs.List.{concat}
use Rattle.std.proofs.lemmas.List.{append-nil}
use Rattle.host_io.specs.Writing.{Appended, AppendedPart, AppendedPrefix}
use Rattle.host_io.proofs.Appending.{append_both, append_none, append_part, append_prefix}
use Rattle.gen_load.specs.Log.{next_line, lines_after}

-- the text that is written, the text that waits to be written, and the lines that are still to come
pub record Writing (log now : List (List ℕ)) (piece : List ℕ) (old new : Option (List ℕ)) : Type 0 where
  pub text : List ℕ
  pub written : Appended old new text
  pub whole : text ++ (piece ++ concat now) ≡ concat log

pub writes_none : (log now : List (List ℕ)) (piece : List ℕ) (old : Option (List ℕ)) → now ≡ log → piece ≡ [] → Writing log now piece old old
writes_none log now piece old is none = record { text = []; written = append_none old; whole = λ i. none i ++ concat (is i) }

-- the first line and those after it
cut_first : (now : List (List ℕ)) → now ≢ [] → next_line now ++ concat (lines_after now) ≡ concat now
cut_first [] some = absurd (some refl)
cut_first (line ∷ lines) some = refl

-- a line more waits
pub writes_line : (log now after : List (List ℕ)) (piece more : List ℕ) (old new : Option (List ℕ)) → Writing log now piece old new → now ≢ [] → more ≡ piece ++ next_line now → after ≡ lines_after now
    → Writing log after more old new
writes_line log now after piece more old new w some is is_after = record {
  text = w.text;
  written = w.written;
  whole = ap (λ xs. w.text ++ xs) (ap (λ xs. xs ++ concat after) is ∙ append_assoc piece (next_line now) (concat after) ∙ ap (λ xs. piece ++ (next_line now ++ concat xs)) is_after ∙ ap (λ xs. piece ++ xs) (cut_first now some)) ∙ w.whole;
}

pub at_end : (now : List (List ℕ)) → (now ≢ [] → ⊥) → now ≡ []
at_end [] none = refl
at_end (line ∷ lines) none = absurd (none (λ e. cc e))

-- no line is to come, and none is added to the text that waits
pub writes_end : (log now : List (List ℕ)) (piece more : List ℕ) (old new : Option (List ℕ)) → Writing log now piece old new → (now ≢ [] → ⊥) → more ≡ piece ++ next_line now → Writing log now more old new
writes_end log now piece more old new w none is =
    let same : piece ≡ more = sym (append-nil piece) ∙ ap (λ xs. piece ++ next_line xs) (sym (at_end now none)) ∙ sym is in
    subst (λ p. Writing log now p old new) same w

-- the first bytes that wait are written
pub writes_first : (log now : List (List ℕ)) (piece left first : List ℕ) (old mid new : Option (List ℕ)) → Writing log now piece old mid → Appended mid new first → first ++ left ≡ piece
    → Writing log now left old new
writes_first log now piece left first old mid new w more cut = record {
  text = w.text ++ first;
  written = append_both old mid new w.text first w.written more;
  whole = append_assoc w.text first (left ++ concat now) ∙ ap (λ xs. w.text ++ xs) (sym (append_assoc first left (concat now)) ∙ ap (λ xs. xs ++ concat now) cut) ∙ w.whole;
}

-- each line has one line less after it
pub fewer : (now after : List (List ℕ)) → now ≢ [] → after ≡ lines_after now → length after < length now
fewer [] after some is = absurd (some refl)
fewer (line ∷ lines) after some is = omega (arith, ap length is)

-- no line comes
pub none_left : (more : Bool) (now : List (List ℕ)) → more ≡ false → (IsTrue more ↔ (now ≢ [])) → now ≢ [] → ⊥
none_left more now is iff some = let shown : more ≡ true = iff.1 some in absurd (cc)

-- another line comes
pub some_more : (more : Bool) (now : List (List ℕ)) → more ≡ true → (IsTrue more ↔ (now ≢ [])) → now ≢ []
some_more more now is iff = iff.0 is

-- all that waits is written, and no line is to come
pub writes_all : (log now : List (List ℕ)) (piece : List ℕ) (old mid new : Option (List ℕ)) → Writing log now piece old mid → (now ≢ [] → ⊥) → Appended mid new piece → Appended old new (concat log)
writes_all log now piece old mid new w none more =
    subst (Appended old new) (ap (λ xs. w.text ++ xs) (sym (append-nil piece) ∙ ap (λ xs. piece ++ concat xs) (sym (at_end now none))) ∙ w.whole) (append_both old mid new w.text piece w.written more)

pub writes_prefix : (log now : List (List ℕ)) (piece : List ℕ) (old new : Option (List ℕ)) → Writing log now piece old new → AppendedPrefix old new (concat log)
writes_prefix log now piece old new w = append_prefix old new w.text (piece ++ concat now) (concat log) w.written w.whole

pub writes_part : (log now : List (List ℕ)) (piece : List ℕ) (old mid new : Option (List ℕ)) → Writing log now piece old mid → AppendedPart mid new piece → AppendedPart old new (concat log)
writes_part log now piece old mid new w part = append_part old mid new w.text piece (concat now) (concat log) w.written part w.whole
