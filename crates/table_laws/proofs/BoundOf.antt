-- If the records that pass a test are candidates in few buckets only, few words of a round select
-- one of them.
use Rattle.std.proofs.Common.{◌≡◌, ℕ, ◌*◌, ◌^◌, ◌≤◌, Bool, true, false, cond, ◌&&◌, ◌==◌, List, [], ◌∷◌, length, All, Contains, sum_by, count_by, Option, Some, None, refl, subst, ◌∙◌, arith, true≢false}
use Rattle.std.specs.List.{range_with_len, list_any}
use Rattle.std.proofs.lemmas.Bool.{both_ways, false_from_ne_true}
use Rattle.std.proofs.Math.Nat.{mul-le-mul_right}
use Rattle.std.proofs.lemmas.List.Elements.{All-head, All-tail}
use Rattle.std.proofs.lemmas.List.FromFn.{length-range_with_len}
use Rattle.std.proofs.lemmas.List.Sums.{sum_by-cons}
use Rattle.peer_rec.specs.declared.rec.Rec.{Rec}
use Rattle.table_machine.specs.Picks.{bucket_count, first_candidate, is_accepted}
use Rattle.table_machine.specs.State.{State}
use Rattle.table_machine.proofs.Lists.{All-from_Contains, Contains-list_any, list_any-Contains}
use Rattle.table_laws.specs.Chances.{picks, words_for}
use Rattle.table_laws.specs.Rounds.{holds}
use Rattle.table_laws.proofs.Balance.{sum_nothing}
use Rattle.table_laws.proofs.Counts.{count_no, count_not}
use Rattle.table_laws.proofs.Draws.{sum_const}
use Rattle.table_laws.proofs.SearchOf.{sum_constant}
use Rattle.table_laws.proofs.Within.{count_within}

pub sum_at_most : {X : Type 0} (f g : X → ℕ) (xs : List X) → All (λ x. f x ≤ g x) xs → sum_by f xs ≤ sum_by g xs
sum_at_most f g [] h = omega arith
sum_at_most f g (x ∷ xs) h =
    let one = sum_by-cons f x xs in
    let two = sum_by-cons g x xs in
    let here = All-head (λ y. f y ≤ g y) x xs h in
    let rest = sum_at_most f g xs (All-tail (λ y. f y ≤ g y) x xs h) in
    omega (arith, one, two, here, rest)

count_at_most : {X : Type 0} (p : X → Bool) (xs : List X) → count_by p xs ≤ length xs
count_at_most p xs = let all = count_not p xs in omega (arith, all)

module _ (st : State) (in_new : Bool) (nets : List ℕ) (now factor : ℕ) (test : Rec → Bool) (reached : List ℕ)
    (inside : (bucket start : ℕ) (q : Rec) → first_candidate st in_new nets bucket start ≡ Some q → test q ≡ true → Contains reached bucket) where
  abbrev is_reached : ℕ → Bool
  is_reached bucket = list_any (λ b. b == bucket) reached

  abbrev in_bucket : List ℕ → List ℕ → ℕ → ℕ
  in_bucket starts words b = sum_by (λ s. count_by (picks st in_new nets now factor test b s) words) starts

  none_there : (b s word : ℕ) → is_reached b ≡ false → picks st in_new nets now factor test b s word ≡ false
  none_there b s word other = by (first_candidate st in_new nets b s) refl
    where
      no : (x y : Bool) → x ≡ false → (x && y) ≡ false
      no true y h = absurd (true≢false h)
      no false y h = refl

      by : (o : Option Rec) → first_candidate st in_new nets b s ≡ o → holds (λ r. test r && is_accepted r now factor word) o ≡ false
      by None is = refl
      by (Some q) is =
          no (test q) (is_accepted q now factor word)
          (false_from_ne_true (test q) (λ passes. both_ways (is_reached b) other (Contains-list_any b reached (inside b s q is passes))))

  at_most : (starts words : List ℕ) (b : ℕ) → in_bucket starts words b ≤ cond (is_reached b) (length starts * length words) 0
  at_most starts words b = by (is_reached b) refl
    where
      by : (x : Bool) → is_reached b ≡ x → in_bucket starts words b ≤ cond x (length starts * length words) 0
      by true is =
          let all = sum_at_most (λ s. count_by (picks st in_new nets now factor test b s) words) (λ s. length words) starts
          (All-from_Contains (λ s. count_by (picks st in_new nets now factor test b s) words ≤ length words) starts (λ s c. count_at_most (picks st in_new nets now factor test b s) words)) in
          subst (λ k. in_bucket starts words b ≤ k) (sum_constant (length words) starts) all
      by false is =
          let none : in_bucket starts words b ≡ 0 =
          (λ i. sum_by (λ s. count_no (picks st in_new nets now factor test b s) words (All-from_Contains (λ w. picks st in_new nets now factor test b s w ≡ false) words (λ w c. none_there b s w is)) i) starts)
          ∙ sum_nothing starts in
          omega (arith, none)

  over : (n : ℕ) (starts words : List ℕ) → sum_by (in_bucket starts words) (range_with_len 0 n) ≤ length reached * (length starts * length words)
  over n starts words =
      let each = sum_at_most (in_bucket starts words) (λ b. cond (is_reached b) (length starts * length words) 0) (range_with_len 0 n)
      (All-from_Contains (λ b. in_bucket starts words b ≤ cond (is_reached b) (length starts * length words) 0) (range_with_len 0 n) (λ b c. at_most starts words b)) in
      let whole = sum_const is_reached (length starts * length words) (range_with_len 0 n) in
      let few = count_within is_reached reached n (λ b below is. list_any-Contains b reached is) in
      let more = times (count_by is_reached (range_with_len 0 n)) (length reached) (length starts * length words) few in
      omega (arith, each, whole, more)
    where
      times : (a b c : ℕ) → a ≤ b → a * c ≤ b * c
      times a b c le = mul-le-mul_right c le

  pub few_words : words_for st in_new nets now factor test ≤ length reached * (64 * 2 ^ 30)
  few_words =
      subst (λ k. words_for st in_new nets now factor test ≤ length reached * (k * 2 ^ 30)) (length-range_with_len 0 64)
      (subst (λ k. words_for st in_new nets now factor test ≤ length reached * (length (range_with_len 0 64) * k)) (length-range_with_len 0 (2 ^ 30))
      (over (bucket_count in_new) (range_with_len 0 64) (range_with_len 0 (2 ^ 30))))
