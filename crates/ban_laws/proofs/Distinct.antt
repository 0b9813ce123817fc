-- Bans of distinct subnets are of distinct ones in any order.
use Rattle.std.proofs.Common.{◌≡◌, ℕ, zero, suc, ◌<◌, List, [], ◌∷◌, length, get_or, set, swap, Bool, true, false, refl, sym, ap, ◌∙◌, arith}
use Rattle.std.specs.Prelude.{AllPairs, IsPermutation}
use Rattle.std.proofs.lemmas.List.Elements.{All-cons, All-head, All-tail}
use Rattle.std.proofs.lemmas.List.Kept.{AllPairs-cons}
use Rattle.std.proofs.lemmas.List.Sorted.{All-permutation, IsPermutation-cons, IsPermutation-keeps, IsPermutation-middle, IsPermutation-refl, IsPermutation-trans}
use Rattle.ban_list.specs.Bans.{same_subnet}
use Rattle.ban_list.specs.declared.ban.Ban.{Ban}
use Rattle.ban_list.proofs.BanLaws.{Apart, pairs_head, pairs_tail, same_subnet-Decides}

-- a list in another order, which has distinct subnets if the first one does
abbrev Keeps : List Ban → List Ban → Type 0
Keeps xs ys = IsPermutation xs ys × (AllPairs Apart xs → AllPairs Apart ys)

same : (xs : List Ban) → Keeps xs xs
same xs = (IsPermutation-refl xs, λ h. h)

under : (x : Ban) (xs ys : List Ban) → Keeps xs ys → Keeps (x ∷ xs) (x ∷ ys)
under x xs ys k =
    (IsPermutation-cons x xs ys k.0, λ h. AllPairs-cons Apart x ys (All-permutation (Apart x) xs ys k.0 (pairs_head Apart x xs h)) (k.1 (pairs_tail Apart x xs h)))

by : (x y : Ban) (b : Bool) → same_subnet y.subnet x.subnet ≡ b → same_subnet x.subnet y.subnet ≡ false → b ≡ false
by x y true is h =
    let e = (same_subnet-Decides y.subnet x.subnet).0 is in
    sym is ∙ ap (λ s. same_subnet s x.subnet) e ∙ ap (λ s. same_subnet x.subnet s) (sym e) ∙ h
by x y false is h = refl

turned : (x y : Ban) → Apart x y → Apart y x
turned x y h = by x y (same_subnet y.subnet x.subnet) refl h

over : (x y : Ban) (xs : List Ban) → Keeps (x ∷ y ∷ xs) (y ∷ x ∷ xs)
over x y xs = (
  IsPermutation-middle (x ∷ []) y xs,
  λ h.
      let head = pairs_head Apart x (y ∷ xs) h in
      let tail = pairs_tail Apart x (y ∷ xs) h in
      AllPairs-cons Apart y (x ∷ xs) (All-cons (Apart y) x xs (turned x y (All-head (Apart x) y xs head)) (pairs_head Apart y xs tail))
      (AllPairs-cons Apart x xs (All-tail (Apart x) y xs head) (pairs_tail Apart y xs tail)),
)

chain : (xs ys zs : List Ban) → Keeps xs ys → Keeps ys zs → Keeps xs zs
chain xs ys zs a b = (IsPermutation-trans xs ys zs a.0 b.0, λ h. b.1 (a.1 h))

to_head : (xs : List Ban) (j : ℕ) (x d : Ban) → j < length xs → Keeps (x ∷ xs) (get_or xs j d ∷ set xs j x)
to_head [] j x d within = absurd (omega arith)
to_head (y ∷ ys) zero x d within = over x y ys
to_head (y ∷ ys) (suc j) x d within =
    chain (x ∷ y ∷ ys) (y ∷ x ∷ ys) (get_or ys j d ∷ y ∷ set ys j x) (over x y ys)
    (chain (y ∷ x ∷ ys) (y ∷ get_or ys j d ∷ set ys j x) (get_or ys j d ∷ y ∷ set ys j x) (under y (x ∷ ys) (get_or ys j d ∷ set ys j x) (to_head ys j x d (omega arith))) (over y (get_or ys j d) (set ys j x)))

exchanged : (xs : List Ban) (i j : ℕ) (d : Ban) → i < length xs → j < length xs → Keeps xs (set (set xs i (get_or xs j d)) j (get_or xs i d))
exchanged [] i j d first second = absurd (omega arith)
exchanged (x ∷ xs) zero zero d first second = same (x ∷ xs)
exchanged (x ∷ xs) zero (suc j) d first second = to_head xs j x d (omega arith)
exchanged (x ∷ xs) (suc i) zero d first second = to_head xs i x d (omega arith)
exchanged (x ∷ xs) (suc i) (suc j) d first second = under x _ _ (exchanged xs i j d (omega arith) (omega arith))

swapped : (xs : List Ban) (i j : ℕ) → i < length xs → j < length xs → Keeps xs (swap xs i j)
swapped [] i j first second = same []
swapped (x ∷ xs) i j first second = exchanged (x ∷ xs) i j x first second

along : (xs ys : List Ban) → IsPermutation xs ys → Keeps xs ys
along xs = IsPermutation-keeps xs (Keeps xs) (same xs) (λ zs i j first second h. chain xs zs _ h (swapped zs i j first second))

pub distinct-permutation : (xs ys : List Ban) → IsPermutation xs ys → AllPairs Apart xs → AllPairs Apart ys
distinct-permutation xs ys is h = (along xs ys is).1 h
