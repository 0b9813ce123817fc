-- The words that a generator gives, one after another.
use Rattle.std.proofs.Common.{◌≡◌, ℕ, zero, suc, ◌+◌, ◌-◌, ◌<◌, List, [], ◌∷◌, ◌++◌, sym, ap, ◌∙◌, refl, arith}
use Rattle.rand_core.specs.Stream.{Stream, next_u64}
use Rattle.node_face.specs.Sampling.{next_words}

pushed : (words more : List ℕ) (word : ℕ) → (words ++ word ∷ []) ++ more ≡ words ++ word ∷ more
pushed [] more word = refl
pushed (w ∷ words) more word = ap (λ ws. w ∷ ws) (pushed words more word)

pub words_more : (words : List ℕ) (count i word : ℕ) (s t : Stream) → i < count → (word, t) ≡ next_u64 s →
    (words ++ word ∷ []) ++ next_words (count - (i + 1)) t ≡ words ++ next_words (count - i) s
unfolding next_words
words_more words count i word s t lt gives =
    let left : count - i ≡ suc (count - (i + 1)) = omega (arith, lt) in
    pushed words (next_words (count - (i + 1)) t) word
    ∙ ap (λ (p : ℕ × Stream). words ++ p.0 ∷ next_words (count - (i + 1)) p.1) gives
    ∙ ap (λ (n : ℕ). words ++ next_words n s) (sym left)

ended : (words : List ℕ) → words ≡ words ++ []
ended [] = refl
ended (w ∷ words) = ap (λ ws. w ∷ ws) (ended words)

pub words_all : (words : List ℕ) (left : ℕ) (s : Stream) → left ≡ zero → words ≡ words ++ next_words left s
unfolding next_words
words_all words left s none = ended words ∙ ap (λ (n : ℕ). words ++ next_words n s) (sym none)
