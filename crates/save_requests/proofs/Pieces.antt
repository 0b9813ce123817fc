-- Bytes in pieces.
use Rattle.std.proofs.Common.{◌≡◌, ℕ, ◌<◌, ◌≤◌, List, [], ◌∷◌, ◌++◌, zero, suc, length, take, drop, refl, ap, ◌∙◌, arith}
use Rattle.std.proofs.lemmas.List.{length-drop, take-append-drop}
use Rattle.std.specs.List.{concat}
use Rattle.save_requests.specs.Requests.{pieces, pieces_up_to}

fewer : (max : ℕ) (b : ℕ) (bytes : List ℕ) → 0 < max → length (drop max (b ∷ bytes)) ≤ length bytes
fewer max b bytes some =
    let cut = length-drop max (b ∷ bytes) in omega (arith, cut, some)

-- any number that is enough gives the same pieces
enough : (n k max : ℕ) (bytes : List ℕ) → 0 < max → length bytes ≤ n → length bytes ≤ k
    → pieces_up_to n max bytes ≡ pieces_up_to k max bytes
enough zero zero max bytes some low high = refl
enough zero (suc k) max [] some low high = refl
enough zero (suc k) max (b ∷ bytes) some low high = absurd (omega (arith, low))
enough (suc n) zero max [] some low high = refl
enough (suc n) zero max (b ∷ bytes) some low high = absurd (omega (arith, high))
enough (suc n) (suc k) max [] some low high = refl
enough (suc n) (suc k) max (b ∷ bytes) some low high =
    let less = fewer max b bytes some in
    ap (λ ps. take max (b ∷ bytes) ∷ ps)
    (enough n k max (drop max (b ∷ bytes)) some (omega (arith, less, low)) (omega (arith, less, high)))

-- the first piece, and those of the rest
pub one_more : (max : ℕ) (bytes : List ℕ) → 0 < max → 0 < length bytes
    → pieces max bytes ≡ take max bytes ∷ pieces max (drop max bytes)
one_more max [] some there = absurd (omega (arith, there))
one_more max (b ∷ bytes) some there =
    let less = fewer max b bytes some in
    ap (λ ps. take max (b ∷ bytes) ∷ ps)
    (enough (length bytes) (length (drop max (b ∷ bytes))) max (drop max (b ∷ bytes)) some less (omega arith))

-- the pieces are the bytes
all_of : (n max : ℕ) (bytes : List ℕ) → 0 < max → length bytes ≤ n → concat (pieces_up_to n max bytes) ≡ bytes
all_of zero max [] some low = refl
all_of zero max (b ∷ bytes) some low = absurd (omega (arith, low))
all_of (suc n) max [] some low = refl
all_of (suc n) max (b ∷ bytes) some low =
    let less = fewer max b bytes some in
    ap (λ ys. take max (b ∷ bytes) ++ ys)
    (all_of n max (drop max (b ∷ bytes)) some (omega (arith, less, low)))
    ∙ take-append-drop max (b ∷ bytes)

pub whole : (max : ℕ) (bytes : List ℕ) → 0 < max → concat (pieces max bytes) ≡ bytes
whole max bytes some = all_of (length bytes) max bytes some (omega arith)
