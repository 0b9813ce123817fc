use Rattle.std.proofs.Common.{◌≡◌, ℕ, ◌<◌, ◌^◌, All, List, ◌++◌, length, map, decimal, sym, ap, ◌∙◌, arith, inl, subst, Ok}
use Rattle.std.specs.Prelude.{◌==◌}
use Rattle.std.specs.List.{slice_split, join_with_byte}
use Rattle.std.proofs.lemmas.Option.{none-some}
use Rattle.std.proofs.lemmas.List.{append-nil}
use Rattle.std.proofs.lemmas.List.Splits.{join_with_byte-slice_split, length-slice_split}
use Rattle.grammar.specs.Fields.{AreNumbers}
use Rattle.grammar.specs.Words.{pieces_after}
use Rattle.grammar.proofs.WordLemmas.{numbers_cut, same_numbers, next_number}
use Rattle.grammar.proofs.random.read_numbers.Goals as goal

-- a text of which all pieces are numbers
whole_text : (text words : List ℕ) → slice_split (λ b. b == 44) text ≡ map decimal words → All (λ w. w < 2 ^ 64) words → AreNumbers text words
whole_text text words pieces small = (
  λ none. omega (arith, ap length pieces, ap (λ ws. length (map decimal ws)) none, length-slice_split (λ b. b == 44) text),
  small,
  sym (join_with_byte-slice_split 44 text) ∙ ap (join_with_byte 44) pieces,
)

pub returns-in_default-parse_number-clause-only : goal.returns-in_default-parse_number-clause-only
returns-in_default-parse_number-clause-only c = λ words is.
    let so_far = c.loop-rest.invariant.pieces ∙ ap (λ r. map decimal c.loop-rest.words.items ++ pieces_after 44 r) c.in-Some.is ∙ ap (λ ps. map decimal c.loop-rest.words.items ++ ps) c.cut_piece.ensures.cut in
    let next = next_number c.loop-rest.words.items words c.cut_piece.result.0.now (pieces_after 44 c.cut_piece.result.1) (sym (numbers_cut c.args.text.now words is) ∙ so_far) is.1 in
    let found = c.parse_number.ensures.only next.0 (omega (arith, next.1)) next.2 in
    absurd (none-some next.0 (sym c.in_default-parse_number.is ∙ found))

pub returns-clause-found : goal.returns-clause-found
returns-clause-found c =
    let pieces = c.loop-rest.invariant.pieces ∙ ap (λ r. map decimal c.loop-rest.words.items ++ pieces_after 44 r) c.in_default.is ∙ append-nil (map decimal c.loop-rest.words.items) in
    subst (AreNumbers c.args.text.now) (sym (c.of-2.ensures ∙ c.of.ensures)) (whole_text c.args.text.now c.loop-rest.words.items pieces c.loop-rest.invariant.small)

pub returns-clause-only : goal.returns-clause-only
returns-clause-only c = λ words is.
    let pieces = c.loop-rest.invariant.pieces ∙ ap (λ r. map decimal c.loop-rest.words.items ++ pieces_after 44 r) c.in_default.is ∙ append-nil (map decimal c.loop-rest.words.items) in
    inl (ap Ok (c.of-2.ensures ∙ c.of.ensures ∙ same_numbers c.loop-rest.words.items words c.loop-rest.invariant.small is.1 (sym pieces ∙ numbers_cut c.args.text.now words is)))
