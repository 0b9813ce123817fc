-- Numbers with commas between them, and the pieces that commas cut.
use Rattle.std.proofs.Common.{Bor, ◌≡◌, ◌≢◌, ℕ, zero, suc, ◌+◌, ◌<◌, ◌^◌, All, List, [], ◌∷◌, ◌++◌, length, get_or, drop, map, decimal, refl, sym, ap, ◌∙◌, arith, append_assoc, subst, inl, inr}
use Rattle.std.specs.Prelude.{◌==◌, false, Option, Some, None}
use Rattle.std.specs.List.{slice_split, join_with_byte}
use Rattle.std.proofs.lemmas.Bool.{ne_eqb, eq-eqb, false≢true}
use Rattle.std.proofs.lemmas.Fmt.{decimal_injective, decimal_is_IsNumeral}
use Rattle.std.proofs.lemmas.Str.Parse.{digit_at}
use Rattle.std.proofs.lemmas.List.Elements.{All-nil, All-cons, All-append, All-head, All-tail, All-from_get_or}
use Rattle.std.proofs.lemmas.List.Splits.{slice_split_at, slice_split_none, join_with_byte-slice_split, length-slice_split}
use Rattle.grammar.specs.Fields.{AreWords, AreNumbers, AreSeeded}
use Rattle.random_words.specs.Seeded.{seeded_words}
use Rattle.grammar.specs.Words.{pieces_after}

-- the digits of a number have no byte that is not a digit
pub decimal-lacks : (c n : ℕ) → n < 2 ^ 64 → ((d : ℕ) → 48 < d + 1 → d < 58 → d ≢ c) → All (λ b. (b == c) ≡ false) (decimal n)
decimal-lacks c n h other =
    All-from_get_or (λ b. (b == c) ≡ false) (decimal n) 0 λ i lt.
    let digit = digit_at (decimal n) i (decimal_is_IsNumeral n h).0.1 lt in
    ne_eqb _ c (other _ (omega arith) (omega arith))

-- the pieces between commas of some numbers are the numbers' texts
pub pieces_of_numbers : (words : List ℕ) → words ≢ [] → All (λ w. w < 2 ^ 64) words → slice_split (λ b. b == 44) (join_with_byte 44 (map decimal words)) ≡ map decimal words
pieces_of_numbers [] some small = absurd (some refl)
pieces_of_numbers (w ∷ []) some small =
    slice_split_none (λ b. b == 44) (decimal w) (decimal-lacks 44 w (All-head (λ n. n < 2 ^ 64) w [] small) (λ d low high e. omega (arith, low, e)))
pieces_of_numbers (w ∷ v ∷ words) some small =
    slice_split_at (λ b. b == 44) (decimal w) 44 (join_with_byte 44 (map decimal (v ∷ words)))
    (decimal-lacks 44 w (All-head (λ n. n < 2 ^ 64) w (v ∷ words) small) (λ d low high e. omega (arith, low, e))) refl
    ∙ ap (λ ps. decimal w ∷ ps) (pieces_of_numbers (v ∷ words) (λ none. omega (arith, ap length none)) (All-tail (λ n. n < 2 ^ 64) w (v ∷ words) small))

-- a byte that is no digit and no comma is not in numbers with commas
pub numbers-lack : (c : ℕ) → ((d : ℕ) → 48 < d + 1 → d < 58 → d ≢ c) → c ≢ 44 → (words : List ℕ) → All (λ w. w < 2 ^ 64) words → All (λ b. (b == c) ≡ false) (join_with_byte 44 (map decimal words))
numbers-lack c digit comma [] small = All-nil (λ b. (b == c) ≡ false)
numbers-lack c digit comma (w ∷ []) small = decimal-lacks c w (All-head (λ n. n < 2 ^ 64) w [] small) digit
numbers-lack c digit comma (w ∷ v ∷ words) small =
    All-append (λ b. (b == c) ≡ false) (decimal w) _ (decimal-lacks c w (All-head (λ n. n < 2 ^ 64) w (v ∷ words) small) digit)
    (All-cons (λ b. (b == c) ≡ false) 44 _ (ne_eqb 44 c (λ e. comma (sym e))) (numbers-lack c digit comma (v ∷ words) (All-tail (λ n. n < 2 ^ 64) w (v ∷ words) small)))

-- a text that begins with such a byte writes no numbers
pub not_numbers : (c : ℕ) → ((d : ℕ) → 48 < d + 1 → d < 58 → d ≢ c) → c ≢ 44 → (text rest words : List ℕ) → text ≡ c ∷ rest → AreNumbers text words → ⊥
not_numbers c digit comma text rest words begins is =
    let lack = subst (λ t. All (λ b. (b == c) ≡ false) t) (sym is.2 ∙ begins) (numbers-lack c digit comma words is.1) in
    false≢true (sym (All-head (λ b. (b == c) ≡ false) c rest lack) ∙ eq-eqb c c refl)

-- numbers below 2^64 with the same texts are the same
pub same_numbers : (xs ys : List ℕ) → All (λ w. w < 2 ^ 64) xs → All (λ w. w < 2 ^ 64) ys → map decimal xs ≡ map decimal ys → xs ≡ ys
same_numbers [] [] h k e = refl
same_numbers [] (y ∷ ys) h k e = absurd (omega (arith, ap length e))
same_numbers (x ∷ xs) [] h k e = absurd (omega (arith, ap length e))
same_numbers (x ∷ xs) (y ∷ ys) h k e =
    let heads = decimal_injective x y (All-head (λ w. w < 2 ^ 64) x xs h) (All-head (λ w. w < 2 ^ 64) y ys k) (ap (λ ps. get_or ps 0 []) e) in
    let tails = same_numbers xs ys (All-tail (λ w. w < 2 ^ 64) x xs h) (All-tail (λ w. w < 2 ^ 64) y ys k) (ap (drop 1) e) in
    λ i. heads i ∷ tails i

-- the first piece after those that were read is a number's text too
pub next_number : (xs ys : List ℕ) (piece : List ℕ) (more : List (List ℕ)) → map decimal ys ≡ map decimal xs ++ piece ∷ more → All (λ w. w < 2 ^ 64) ys →
    (w : ℕ) × (w < 2 ^ 64) × (piece ≡ decimal w)
next_number [] [] piece more e h = absurd (omega (arith, ap length e))
next_number [] (y ∷ ys) piece more e h = (y, All-head (λ w. w < 2 ^ 64) y ys h, sym (ap (λ ps. get_or ps 0 []) e))
next_number (x ∷ xs) [] piece more e h = absurd (omega (arith, ap length e))
next_number (x ∷ xs) (y ∷ ys) piece more e h = next_number xs ys piece more (ap (drop 1) e) (All-tail (λ w. w < 2 ^ 64) y ys h)

-- the text of two pieces that a byte cuts, if there is one such byte
last_piece : (c : ℕ) (rest : Option (Bor (List ℕ))) (piece : List ℕ) → pieces_after c rest ≡ piece ∷ [] → (r : Bor (List ℕ)) × (rest ≡ Some r) × (r.now ≡ piece)
last_piece c None piece e = absurd (omega (arith, ap length e))
last_piece c (Some r) piece e = (r, refl, sym (join_with_byte-slice_split c r.now) ∙ ap (join_with_byte c) e)

-- the two pieces around the colon of a seed and a number of words
seeded_cut : (text words : List ℕ) → (s : AreSeeded (64 ∷ text) words) → slice_split (λ b. b == 58) text ≡ decimal s.0 ∷ decimal s.1 ∷ []
seeded_cut text words s =
    let whole : text ≡ decimal s.0 ++ 58 ∷ decimal s.1 = ap (drop 1) s.4 ∙ append_assoc (decimal s.0) (58 ∷ []) (decimal s.1) in
    let lacks = λ (n : ℕ) (h : n < 2 ^ 64). decimal-lacks 58 n h (λ d low high e. omega (arith, high, e)) in
    let small : s.1 < 2 ^ 64 = omega (arith, s.3) in
    ap (slice_split (λ b. b == 58)) whole
    ∙ slice_split_at (λ b. b == 58) (decimal s.0) 58 (decimal s.1) (lacks s.0 s.2) refl
    ∙ ap (λ ps. decimal s.0 ∷ ps) (slice_split_none (λ b. b == 58) (decimal s.1) (lacks s.1 small))

pub seeded_pieces : (text words first : List ℕ) (rest : Option (Bor (List ℕ))) → slice_split (λ b. b == 58) text ≡ first ∷ pieces_after 58 rest → (s : AreSeeded (64 ∷ text) words) →
    (first ≡ decimal s.0) × ((r : Bor (List ℕ)) × (rest ≡ Some r) × (r.now ≡ decimal s.1))
seeded_pieces text words first rest cut s =
    let pieces = sym cut ∙ seeded_cut text words s in
    (ap (λ ps. get_or ps 0 []) pieces, last_piece 58 rest (decimal s.1) (ap (drop 1) pieces))

join_cons : (c : ℕ) (a : List ℕ) (pieces : List (List ℕ)) → 0 < length pieces → join_with_byte c (a ∷ pieces) ≡ a ++ c ∷ join_with_byte c pieces
join_cons c a [] h = absurd (omega arith)
join_cons c a (p ∷ pieces) h = refl

-- a text that a byte cuts is the first piece, the byte and the rest
pub cut_joined : (c : ℕ) (text first : List ℕ) (rest : Bor (List ℕ)) → slice_split (λ b. b == c) text ≡ first ∷ pieces_after c (Some rest) → text ≡ first ++ c ∷ rest.now
cut_joined c text first rest cut =
    sym (join_with_byte-slice_split c text) ∙ ap (join_with_byte c) cut
    ∙ join_cons c first (slice_split (λ b. b == c) rest.now) (omega (arith, length-slice_split (λ b. b == c) rest.now))
    ∙ ap (λ t. first ++ c ∷ t) (join_with_byte-slice_split c rest.now)

-- the pieces of a text that writes numbers
pub numbers_cut : (text words : List ℕ) → AreNumbers text words → slice_split (λ b. b == 44) text ≡ map decimal words
numbers_cut text words is = ap (slice_split (λ b. b == 44)) is.2 ∙ pieces_of_numbers words is.0 is.1

-- a dash writes no words
pub no_words : (text words : List ℕ) → text ≡ 45 ∷ [] → AreWords text words → words ≡ []
no_words text words dash is = elim is [
  | inl none ↦ none.1
  | inr some ↦ elim some [
    | inl numbers ↦ absurd (not_numbers 45 (λ d low high e. omega (arith, low, e)) (λ e. omega (arith, e)) text [] words dash numbers)
    | inr seeded ↦ absurd (omega (arith, ap (λ t. get_or t 0 0) (sym dash ∙ seeded.4)))
  ]
]

-- what begins with @ writes words by a seed
pub only_seeded : (text rest words : List ℕ) → text ≡ 64 ∷ rest → AreWords text words → AreSeeded (64 ∷ rest) words
only_seeded text rest words at is = elim is [
  | inl none ↦ absurd (omega (arith, ap (λ t. get_or t 0 0) (sym at ∙ none.0)))
  | inr some ↦ elim some [
    | inl numbers ↦ absurd (not_numbers 64 (λ d low high e. omega (arith, high, e)) (λ e. omega (arith, e)) text rest words at numbers)
    | inr seeded ↦ subst (λ t. AreSeeded t words) at seeded
  ]
]

-- what is no dash and begins with no @ writes numbers
pub only_numbers : (text words : List ℕ) → (text ≡ 45 ∷ [] → ⊥) → ((rest : List ℕ) → text ≢ 64 ∷ rest) → AreWords text words → AreNumbers text words
only_numbers text words dash at is = elim is [
  | inl none ↦ absurd (dash none.0)
  | inr some ↦ elim some [
    | inl numbers ↦ numbers
    | inr seeded ↦ absurd (at _ seeded.4)
  ]
]

-- words by a seed are determined by the text
one_seeded : (text xs ys : List ℕ) → AreSeeded (64 ∷ text) xs → AreSeeded (64 ∷ text) ys → xs ≡ ys
one_seeded text xs ys h k =
    let pieces = sym (seeded_cut text xs h) ∙ seeded_cut text ys k in
    let small : h.1 < 2 ^ 64 = omega (arith, h.3) in
    let small' : k.1 < 2 ^ 64 = omega (arith, k.3) in
    let seeds = decimal_injective h.0 k.0 h.2 k.2 (ap (λ ps. get_or ps 0 []) pieces) in
    let counts = decimal_injective h.1 k.1 small small' (ap (λ ps. get_or ps 1 []) pieces) in
    h.5 ∙ (λ i. seeded_words (seeds i) (counts i)) ∙ sym k.5

-- a text writes one list of words
pub one_words : (text xs ys : List ℕ) → AreWords text xs → AreWords text ys → xs ≡ ys
one_words text xs ys (inl h) k = h.1 ∙ sym (no_words text ys h.0 k)
one_words text xs ys h (inl k) = no_words text xs k.0 h ∙ sym k.1
one_words text xs ys (inr (inl h)) (inr (inl k)) = same_numbers xs ys h.1 k.1 (sym (numbers_cut text xs h) ∙ numbers_cut text ys k)
one_words text xs ys (inr (inr h)) k = one_seeded _ xs ys (only_seeded text _ xs h.4 (inr (inr h))) (only_seeded text _ ys h.4 k)
one_words text xs ys h (inr (inr k)) = one_seeded _ xs ys (only_seeded text _ xs k.4 h) (only_seeded text _ ys k.4 (inr (inr k)))
