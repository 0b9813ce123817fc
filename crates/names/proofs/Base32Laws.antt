-- Letters of bytes and bytes of letters, group by group.
use Rattle.std.proofs.Common.{◌≡◌, ℕ, ◌-◌, ◌<◌, ◌≤◌, List, [], ◌∷◌, ◌++◌, length, take, drop, get_or, refl, arith, ap, ◌∙◌, append_assoc}
use Rattle.std.proofs.lemmas.List.{take_all}
use Rattle.names.specs.Base32.{base32, letters}
use Rattle.names.specs.Inside.{decoded, five_bytes, bits_of}

-- what is left of a list is its rest
rest_all : (xs : List ℕ) (n : ℕ) → n ≡ length xs → take n xs ≡ xs
rest_all xs n e = take_all n xs (omega (arith, e))

-- the letters of a list of at least five bytes
pub base32_next : (xs : List ℕ) → 5 ≤ length xs
    → letters (get_or xs 0 0) (get_or xs 1 0) (get_or xs 2 0) (get_or xs 3 0) (get_or xs 4 0) ++ base32 (take (length xs - 5) (drop 5 xs)) ≡ base32 xs
unfolding base32
base32_next [] h = absurd (omega (arith, h))
base32_next (a ∷ []) h = absurd (omega (arith, h))
base32_next (a ∷ b ∷ []) h = absurd (omega (arith, h))
base32_next (a ∷ b ∷ c ∷ []) h = absurd (omega (arith, h))
base32_next (a ∷ b ∷ c ∷ d ∷ []) h = absurd (omega (arith, h))
base32_next (a ∷ b ∷ c ∷ d ∷ e ∷ more) h = ap (λ m. letters a b c d e ++ base32 m) (rest_all more _ (omega arith))

-- the bytes of a list of at least eight letters
pub decoded_next : (xs : List ℕ) → 8 ≤ length xs
    → five_bytes (bits_of (get_or xs 0 0) (get_or xs 1 0) (get_or xs 2 0) (get_or xs 3 0) (get_or xs 4 0) (get_or xs 5 0) (get_or xs 6 0) (get_or xs 7 0)) ++ decoded (take (length xs - 8) (drop 8 xs)) ≡ decoded xs
unfolding decoded
decoded_next [] h = absurd (omega (arith, h))
decoded_next (s ∷ []) h = absurd (omega (arith, h))
decoded_next (s ∷ t ∷ []) h = absurd (omega (arith, h))
decoded_next (s ∷ t ∷ u ∷ []) h = absurd (omega (arith, h))
decoded_next (s ∷ t ∷ u ∷ v ∷ []) h = absurd (omega (arith, h))
decoded_next (s ∷ t ∷ u ∷ v ∷ w ∷ []) h = absurd (omega (arith, h))
decoded_next (s ∷ t ∷ u ∷ v ∷ w ∷ x ∷ []) h = absurd (omega (arith, h))
decoded_next (s ∷ t ∷ u ∷ v ∷ w ∷ x ∷ y ∷ []) h = absurd (omega (arith, h))
decoded_next (s ∷ t ∷ u ∷ v ∷ w ∷ x ∷ y ∷ z ∷ more) h =
    ap (λ m. five_bytes (bits_of s t u v w x y z) ++ decoded m) (rest_all more _ (omega arith))

-- no letters are no bytes
pub decoded_none : (xs : List ℕ) → length xs < 1 → decoded xs ≡ []
unfolding decoded
decoded_none [] h = refl
decoded_none (x ∷ xs) h = absurd (omega (arith, h))

-- one group more of what f gives
pub one_group : (f : List ℕ → List ℕ) (new text piece known rest more whole : List ℕ) → new ≡ text ++ piece → piece ≡ known → known ++ f more ≡ f rest → text ++ f rest ≡ whole → new ++ f more ≡ whole
one_group f new text piece known rest more whole e k g h =
    ap (λ t. t ++ f more) (e ∙ ap (λ t. text ++ t) k) ∙ append_assoc text known (f more) ∙ ap (λ t. text ++ t) g ∙ h
