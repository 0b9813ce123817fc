-- The lines of a list of bytes, by the position of the first line feed.
use Rattle.std.proofs.Common.{◌≡◌, ◌≢◌, ℕ, zero, suc, ◌<◌, ◌≤◌, List, [], ◌∷◌, length, get_or, take, drop, refl, sym, ap, ◌∙◌, arith}
use Rattle.std.specs.Prelude.{All}
use Rattle.std.proofs.lemmas.Bool.{ne_eqb, eq-eqb}
use Rattle.host_io.specs.Lines.{lines_of, onto_first}

-- a line feed ends an empty line, and any other byte is added to the first line
lines-feed : (b : ℕ) (bytes : List ℕ) → b ≡ 10 → lines_of (b ∷ bytes) ≡ [] ∷ lines_of bytes
unfolding lines_of
lines-feed b bytes h = rw (eq-eqb b 10 h) refl

lines-cons : (b : ℕ) (bytes : List ℕ) → (b ≡ 10 → ⊥) → lines_of (b ∷ bytes) ≡ onto_first b (lines_of bytes)
unfolding lines_of
lines-cons b bytes h = rw (ne_eqb b 10 h) refl

lines-none : lines_of [] ≡ []
unfolding lines_of
lines-none = refl

-- the bytes before the first line feed, or all bytes if there is none, are a line, and the rest has the other lines
pub lines-cut : (bytes : List ℕ) (end : ℕ) → 0 < length bytes → end ≤ length bytes → All (λ b. b ≢ 10) (take end bytes) → (end < length bytes → get_or bytes end 0 ≡ 10) →
    lines_of bytes ≡ take end bytes ∷ lines_of (drop (suc end) bytes)
lines-cut [] end some within none feed = absurd (omega arith)
lines-cut (b ∷ bytes) zero some within none feed = lines-feed b bytes (feed (omega arith))
lines-cut (b ∷ []) (suc zero) some within none feed = lines-cons b [] (none 0 0 (omega arith)) ∙ ap (onto_first b) lines-none ∙ ap (λ lines. (b ∷ []) ∷ lines) (sym lines-none)
lines-cut (b ∷ []) (suc (suc end)) some within none feed = absurd (omega arith)
lines-cut (b ∷ c ∷ bytes) (suc end) some within none feed =
    lines-cons b (c ∷ bytes) (none 0 0 (omega arith))
    ∙ ap (onto_first b) (lines-cut (c ∷ bytes) end (omega arith) (omega arith) (λ k d below. none (suc k) d (omega arith)) (λ below. feed (omega arith)))
