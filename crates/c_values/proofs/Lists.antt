-- An output that is written index by index.
use Rattle.std.proofs.Common.{◌≡◌, ◌≢◌, ℕ, ◌+◌, ◌<◌, ◌≤◌, ◌∙◌, Bool, true, false, List, length, set, Some, refl, sym, ap, subst, arith}
use Rattle.std.specs.Prelude.{◌==◌, slice_get}
use Rattle.std.proofs.lemmas.Bool.{eqb-true}
use Rattle.std.proofs.lemmas.Bool.Decides.{Decides-eqb}
use Rattle.std.proofs.lemmas.List.{get_or-set_other}
use Rattle.std.proofs.lemmas.Grind.{get_or-set_at}
use Rattle.std.proofs.lemmas.Option.{slice_get_within, get_or_from_slice_get, slice_get-get_or}

-- the first n values tell what is at their indices
abbrev pub Tell : {O R : Type 0} → (O → R → Type 0) → ℕ → List O → List R → Type 0
Tell {O} {R} P n out from = (k : ℕ) (o : O) (r : R) → k < n → slice_get out k ≡ Some o → slice_get from k ≡ Some r → P o r

some_is : {A : Type 0} (x y : A) → Some x ≡ Some y → x ≡ y
some_is x y e = cc e

-- one more value
pub more : {O R : Type 0} (P : O → R → Type 0) (i : ℕ) (out : List O) (from : List R) (v : O) (r : R)
    → Tell P i out from → i < length out → slice_get from i ≡ Some r → P v r → Tell P (i + 1) (set out i v) from
more {O} {R} P i out from v r so_far within at told k o s below got of = by (k == i) refl
  where
    by : (b : Bool) → (k == i) ≡ b → P o s
    by true e =
        let same : k ≡ i = eqb-true k i e in
        let here : v ≡ o = sym (get_or-set_at out i k v v same within) ∙ get_or_from_slice_get (set out i v) k o v got in
        let there : r ≡ s = some_is r s (sym at ∙ ap (slice_get from) (sym same) ∙ of) in
        subst (λ (x : O). P x s) here (subst (λ (y : R). P v y) there told)
    by false e =
        let other : k ≢ i = λ same. let yes_is : (k == i) ≡ true = (Decides-eqb k i).1 same in cc (sym e ∙ yes_is) in
        let earlier : k < i = omega (arith, below, other) in
        let kept = sym (get_or-set_other out i k v o other) ∙ get_or_from_slice_get (set out i v) k o o got in
        so_far k o s earlier (slice_get-get_or out k o (omega (arith, earlier, within)) ∙ ap Some kept) of

-- all of them
pub all : {O R : Type 0} (P : O → R → Type 0) (n : ℕ) (out : List O) (from : List R) → Tell P n out from → length from ≤ n
    → (k : ℕ) (o : O) (r : R) → slice_get out k ≡ Some o → slice_get from k ≡ Some r → P o r
all P n out from tell few k o r got of = tell k o r (omega (arith, slice_get_within from k r of, few)) got of
