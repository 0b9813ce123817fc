use Rattle.std.proofs.Common.{◌≡◌, ℕ, ◌<◌, ◌^◌, List, [], ◌∷◌, ◌++◌, decimal, sym, ap, ◌∙◌, arith, append_assoc, subst, codes, Bor, Option, Some, Ok}
use Rattle.std.specs.Prelude.{◌==◌}
use Rattle.std.specs.List.{slice_split}
use Rattle.std.proofs.lemmas.Option.{none-some}
use Rattle.std.proofs.lemmas.Fmt.{decimal_injective}
use Rattle.grammar.proofs.WordLemmas.{cut_joined, seeded_pieces}
use Rattle.grammar.specs.Words.{pieces_after}
use Rattle.random_words.specs.Seeded.{seeded_words}
use Rattle.std.specs.Option.{option_map_or}
use Rattle.grammar.proofs.random.read_seeded.Goals as goal

same_rest : (rest : Option (Bor (List ℕ))) (a b : Bor (List ℕ)) (text : List ℕ) → rest ≡ Some a → rest ≡ Some b → a.now ≡ text → b.now ≡ text
same_rest rest a b text e f is = ap (λ (o : Option (Bor (List ℕ))). option_map_or (λ r. r.now) o text) (sym f ∙ e) ∙ is

spelled : (text first : List ℕ) (rest : Bor (List ℕ)) (seed count : ℕ) → slice_split (λ b. b == 58) text ≡ first ∷ pieces_after 58 (Some rest) → first ≡ decimal seed → rest.now ≡ decimal count →
    64 ∷ text ≡ codes "@" ++ decimal seed ++ codes ":" ++ decimal count
spelled text first rest seed count cut is_seed is_count =
    ap (λ t. 64 ∷ t) (cut_joined 58 text first rest cut ∙ (λ i. is_seed i ++ 58 ∷ is_count i) ∙ sym (append_assoc (decimal seed) (58 ∷ []) (decimal count)))

pub returns-in_default-clause-only : goal.returns-in_default-clause-only
returns-in_default-clause-only c = λ words s.
    let pieces = seeded_pieces c.args.text.now words c.cut_piece.result.0.now c.cut_piece.result.1 c.cut_piece.ensures.cut s in
    absurd (none-some pieces.1.0 (sym c.in_default.is ∙ pieces.1.1))

pub returns-in_default-parse_number-clause-only : goal.returns-in_default-parse_number-clause-only
returns-in_default-parse_number-clause-only c = λ words s.
    let pieces = seeded_pieces c.args.text.now words c.cut_piece.result.0.now c.cut_piece.result.1 c.cut_piece.ensures.cut s in
    let found = c.parse_number.ensures.only s.0 (omega (arith, s.2)) pieces.0 in
    absurd (none-some s.0 (sym c.in_default-parse_number.is ∙ found))

pub returns-in_default-parse_number-2-clause-only : goal.returns-in_default-parse_number-2-clause-only
returns-in_default-parse_number-2-clause-only c = λ words s.
    let pieces = seeded_pieces c.args.text.now words c.cut_piece.result.0.now c.cut_piece.result.1 c.cut_piece.ensures.cut s in
    let count : c.in-Some.count.now ≡ decimal s.1 = same_rest c.cut_piece.result.1 pieces.1.0 c.in-Some.count (decimal s.1) pieces.1.1 c.in-Some.is pieces.1.2 in
    let found = c.parse_number-2.ensures.only s.1 s.3 count in
    absurd (none-some s.1 (sym c.in_default-parse_number-2.is ∙ found))

pub returns-clause-found : goal.returns-clause-found
returns-clause-found c =
    let cut = subst (λ r. slice_split (λ b. b == 58) c.args.text.now ≡ c.cut_piece.result.0.now ∷ pieces_after 58 r) c.in-Some.is c.cut_piece.ensures.cut in (
      c.in-Some-parse_number.seed,
      c.in-Some-parse_number-2.count,
      omega (arith, c.in-Some-parse_number.ensures.found.0),
      c.in-Some-parse_number-2.ensures.found.0,
      spelled c.args.text.now c.cut_piece.result.0.now c.in-Some.count c.in-Some-parse_number.seed c.in-Some-parse_number-2.count cut c.in-Some-parse_number.ensures.found.1 c.in-Some-parse_number-2.ensures.found.1,
      c.seeded.ensures,
    )

pub returns-clause-only : goal.returns-clause-only
returns-clause-only c = λ words s.
    let pieces = seeded_pieces c.args.text.now words c.cut_piece.result.0.now c.cut_piece.result.1 c.cut_piece.ensures.cut s in
    let count : c.in-Some.count.now ≡ decimal s.1 = same_rest c.cut_piece.result.1 pieces.1.0 c.in-Some.count (decimal s.1) pieces.1.1 c.in-Some.is pieces.1.2 in
    let small : s.1 < 2 ^ 64 = omega (arith, s.3) in
    let seeds = decimal_injective c.in-Some-parse_number.seed s.0 (omega (arith, c.in-Some-parse_number.ensures.found.0)) s.2 (sym c.in-Some-parse_number.ensures.found.1 ∙ pieces.0) in
    let counts = decimal_injective c.in-Some-parse_number-2.count s.1 (omega (arith, c.in-Some-parse_number-2.ensures.found.0)) small (sym c.in-Some-parse_number-2.ensures.found.1 ∙ count) in
    ap Ok (c.seeded.ensures ∙ (λ i. seeded_words (seeds i) (counts i)) ∙ sym s.5)
