-- Lists of buckets, and what a placer holds.
use Rattle.std.proofs.Common.{◌≡◌, ℕ, suc, ◌+◌, ◌<◌, List, [], ◌∷◌, ◌++◌, length, set, take, map, Option, None, Some, refl, sym, ap, ◌∙◌, arith}
use Rattle.std.specs.Prelude.{IfSome}
use Rattle.std.specs.List.{Contains, range_with_len}
use Rattle.std.proofs.Math.Seq.{take-suc-set}
use Rattle.std.proofs.lemmas.List.{take_all, length-set}
use Rattle.std.proofs.lemmas.List.FromFn.{map-range_with_len_more, get_or-map-range_with_len, length-map-range_with_len}
use Rattle.asmap_vm.specs.Asmap.{IsAsmap}
use Rattle.asmap_vm.specs.declared.sane.Sane.{Sane}
use Rattle.placing.specs.Inside.{map_of}

-- of n elements the first i are those of the function
pub record Filled (f : ℕ → ℕ) (xs : List ℕ) (n i : ℕ) : Type 0 where
  pub long : length xs ≡ n
  pub front : take i xs ≡ map f (range_with_len 0 i)

pub Filled-none : (f : ℕ → ℕ) (xs : List ℕ) (n : ℕ) → length xs ≡ n → Filled f xs n 0
Filled-none f xs n l = record { long = l; front = refl }

next : (i : ℕ) (xs : List ℕ) → take (i + 1) xs ≡ take (suc i) xs
next i xs = let one_more : i + 1 ≡ suc i = omega arith in ap (λ k. take k xs) one_more

pub Filled-more : (f : ℕ → ℕ) (xs : List ℕ) (n i y : ℕ) → i < n → y ≡ f i → Filled f xs n i → Filled f (set xs i y) n (i + 1)
Filled-more f xs n i y lt e h = record {
  long = length-set xs i y ∙ h.long;
  front = next i (set xs i y) ∙ take-suc-set xs i y (omega (arith, h.long)) ∙ (λ k. h.front k ++ e k ∷ []) ∙ sym (map-range_with_len_more f 0 i i (omega arith));
}

pub Filled-all : (f : ℕ → ℕ) (xs : List ℕ) (n i : ℕ) → i ≡ n → Filled f xs n i → xs ≡ map f (range_with_len 0 n)
Filled-all f xs n i e h = sym (take_all i xs (omega (arith, h.long))) ∙ h.front ∙ ap (λ k. map f (range_with_len 0 k)) e

-- the value of the function at an index is one of the list
pub Contains-map : (f : ℕ → ℕ) (n i x : ℕ) → i < n → x ≡ f i → Contains (map f (range_with_len 0 n)) x
Contains-map f n i x lt e = (i, omega (arith, length-map-range_with_len f 0 n), get_or-map-range_with_len f 0 n i i x lt (omega arith) ∙ sym e)

-- what a checked file holds is an accepted asmap
pub IsAsmap-held : (s : Option Sane) → IfSome (map_of s) IsAsmap
IsAsmap-held None = tt
IsAsmap-held (Some s) = s.sane
