use Rattle.std.proofs.Common.{◌≡◌, ◌≢◌, ℕ, List, ◌∷◌, ◌++◌, All, refl, ap, ◌∙◌}
use Rattle.std.specs.Prelude.{◌==◌, false}
use Rattle.std.specs.List.{slice_split}
use Rattle.std.proofs.lemmas.Bool.{ne_eqb, eq-eqb}
use Rattle.std.proofs.lemmas.List.Elements.{All-weaker}
use Rattle.std.proofs.lemmas.List.Splits.{slice_split_at, slice_split_none}
use Rattle.grammar.proofs.pieces.cut_piece.Goals as goal

-- bytes that are no separator cut nothing
no_cut : (separator : ℕ) (text : List ℕ) → All (λ b. b ≢ separator) text → All (λ b. (b == separator) ≡ false) text
no_cut separator text h = All-weaker (λ b. b ≢ separator) (λ b. (b == separator) ≡ false) (λ b other. ne_eqb b separator other) text h

cut_at : (separator : ℕ) (text piece rest : List ℕ) → text ≡ piece ++ separator ∷ rest → All (λ b. b ≢ separator) piece →
    slice_split (λ b. b == separator) text ≡ piece ∷ slice_split (λ b. b == separator) rest
cut_at separator text piece rest cut first =
    ap (slice_split (λ b. b == separator)) cut
    ∙ slice_split_at (λ b. b == separator) piece separator rest (no_cut separator piece first) (eq-eqb separator separator refl)

pub returns-in-Some-clause-cut : goal.returns-in-Some-clause-cut
returns-in-Some-clause-cut c = cut_at c.args.separator c.args.text.now c.in-Some.piece.now c.in-Some.rest.now c.in-Some.ensures.cut c.in-Some.ensures.first

pub returns-in-None-clause-cut : goal.returns-in-None-clause-cut
returns-in-None-clause-cut c = slice_split_none (λ b. b == c.args.separator) c.args.text.now (no_cut c.args.separator c.args.text.now c.in-None.ensures.none)
