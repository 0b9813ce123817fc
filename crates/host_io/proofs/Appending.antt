-- Texts that are appended to a sink one after another.
use Rattle.std.proofs.Common.{◌≡◌, ◌+◌, ℕ, List, [], ◌++◌, length, take, sym, ap, ◌∙◌, subst, arith, append_assoc}
use Rattle.std.specs.Prelude.{Option, Some, None}
use Rattle.std.proofs.Math.Seq.{take-append_seam, take-append-add}
use Rattle.std.proofs.lemmas.List.{append-nil, length-append, take-append-le}
use Rattle.host_io.specs.Writing.{Appended, AppendedPart, AppendedPrefix}

pub append_none : (old : Option (List ℕ)) → Appended old old []
append_none None = tt
append_none (Some before) = ap Some (sym (append-nil before))

pub append_both : (old mid new : Option (List ℕ)) (a b : List ℕ) → Appended old mid a → Appended mid new b → Appended old new (a ++ b)
append_both None mid new a b first second = tt
append_both (Some before) mid new a b first second = (rw first at second) ∙ ap Some (append_assoc before a b)

-- the first part of a text is a prefix of it
pub append_prefix : (old new : Option (List ℕ)) (a rest all : List ℕ) → Appended old new a → a ++ rest ≡ all → AppendedPrefix old new all
append_prefix None new a rest all is whole = tt
append_prefix (Some before) new a rest all is whole =
    (length a, omega (arith, ap length whole, length-append a rest), is ∙ ap (λ xs. Some (before ++ xs)) (sym (take-append_seam a rest) ∙ ap (take (length a)) whole))

-- so is the first part with a part of the next
pub append_part : (old mid new : Option (List ℕ)) (a piece rest all : List ℕ) → Appended old mid a → AppendedPart mid new piece → a ++ (piece ++ rest) ≡ all → AppendedPart old new all
append_part None mid new a piece rest all is part whole = tt
append_part (Some before) mid new a piece rest all is part whole =
    let (n, less, written) = subst (λ m. AppendedPart m new piece) is part in (
      length a + n,
      omega (arith, less, ap length whole, length-append a (piece ++ rest), length-append piece rest),
      written ∙ ap Some (append_assoc before a (take n piece))
          ∙ ap (λ xs. Some (before ++ xs)) (ap (λ xs. a ++ xs) (sym (take-append-le n piece rest (omega (arith, less)))) ∙ sym (take-append-add a (piece ++ rest) n) ∙ ap (take (length a + n)) whole),
    )
