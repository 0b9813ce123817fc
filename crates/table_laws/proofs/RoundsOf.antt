-- Which rounds have no candidate, which refuse theirs, and which select it.
use Rattle.std.proofs.Common.{◌≡◌, ℕ, ◌+◌, ◌-◌, ◌*◌, ◌^◌, ◌<◌, ◌≤◌, Bool, true, false, cond, not, ◌||◌, is_some, List, [], ◌∷◌, ◌++◌, length, All, find, filter_map, count_by, sum_by, Option, Some, None, refl, sym, ap, ◌∙◌, arith, if◌then◌else◌}
use Rattle.std.specs.List.{list_any, range_with_len}
use Rattle.std.proofs.lemmas.List.FromFn.{length-range_with_len}
use Rattle.std.proofs.lemmas.List.Folds.{list_any-append}
use Rattle.peer_rec.specs.declared.rec.Rec.{Rec}
use Rattle.table_machine.specs.Picks.{bucket_count, first_candidate, is_accepted, is_wanted, occupant_at}
use Rattle.table_machine.specs.State.{State}
use Rattle.table_laws.specs.Chances.{words_for}
use Rattle.table_laws.specs.Rounds.{holds}
use Rattle.table_laws.specs.Searches.{Round, candidate_in, has_candidate, idle_rounds, one_if, refusing_rounds, round}
use Rattle.table_laws.proofs.Balance.{sum_both}
use Rattle.table_laws.proofs.Counts.{all_range, range_split, sum_agree}
use Rattle.table_laws.proofs.Draws.{sum_const}
use Rattle.table_laws.proofs.SearchOf.{over, over-constant, sum_constant}

module _ {X : Type 0} (at : ℕ → Option X) (wanted : X → Bool) where
  -- a search among the occupants of some slots finds one if there is one
  found_if : (slots : List ℕ) → is_some (find wanted (filter_map at slots)) ≡ list_any (λ t. holds wanted (at t)) slots
  found_if [] = refl
  found_if (t ∷ slots) = by (at t) refl (found_if slots)
    where
      by : (o : Option X) → at t ≡ o → is_some (find wanted (filter_map at slots)) ≡ list_any (λ t. holds wanted (at t)) slots
          → is_some (find wanted (filter_map at (t ∷ slots))) ≡ (holds wanted (at t) || list_any (λ t. holds wanted (at t)) slots)
      by None is rest = rw is rest
      by (Some x) is rest = rw is (here (wanted x))
        where
          here : (b : Bool) → is_some (if b then Some x else find wanted (filter_map at slots)) ≡ (b || list_any (λ t. holds wanted (at t)) slots)
          here true = refl
          here false = rest

  either_way : (a b : Bool) → (a || b) ≡ (b || a)
  either_way true true = refl
  either_way true false = refl
  either_way false true = refl
  either_way false false = refl

  -- from whichever slot it begins
  goes_round : (n start : ℕ) → start ≤ n → is_some (find wanted (filter_map at (range_with_len start (n - start) ++ range_with_len 0 start))) ≡ list_any (λ t. holds wanted (at t)) (range_with_len 0 n)
  goes_round n start low =
      let whole : start + (n - start) ≡ n = omega (arith, low) in
      let from : 0 + start ≡ start = omega arith in
      found_if (range_with_len start (n - start) ++ range_with_len 0 start)
      ∙ list_any-append (λ t. holds wanted (at t)) (range_with_len start (n - start)) (range_with_len 0 start)
      ∙ either_way (list_any (λ t. holds wanted (at t)) (range_with_len start (n - start))) (list_any (λ t. holds wanted (at t)) (range_with_len 0 start))
      ∙ sym (list_any-append (λ t. holds wanted (at t)) (range_with_len 0 start) (range_with_len start (n - start)))
      ∙ ap (list_any (λ t. holds wanted (at t))) (ap (λ a. range_with_len 0 start ++ range_with_len a (n - start)) (sym from) ∙ sym (range_split 0 start (n - start)) ∙ ap (range_with_len 0) whole)

module _ (st : State) (in_new : Bool) (nets : List ℕ) where
  has : (bucket start : ℕ) → start < 64 → is_some (first_candidate st in_new nets bucket start) ≡ has_candidate st in_new nets bucket
  has bucket start low = goes_round (occupant_at st in_new bucket) (is_wanted nets) 64 start (omega (arith, low))

  abbrev idle_bucket : ℕ → Bool
  idle_bucket b = not (has_candidate st in_new nets b)

  in_bucket : (b : ℕ) (starts words : List ℕ) → All (λ s. s < 64) starts
      → sum_by (λ s. sum_by (λ w. one_if (not (is_some (candidate_in st in_new nets (round b s w))))) words) starts ≡ cond (idle_bucket b) (length starts * length words) 0
  in_bucket b starts words low =
      sum_agree (λ s. sum_by (λ w. one_if (not (is_some (first_candidate st in_new nets b s)))) words) (λ s. length words * one_if (idle_bucket b)) starts
      (λ k d within. sum_constant (one_if (not (is_some (first_candidate st in_new nets b _)))) words ∙ ap (λ x. length words * one_if (not x)) (has b _ (low k d within)))
      ∙ sum_constant (length words * one_if (idle_bucket b)) starts
      ∙ by (idle_bucket b)
    where
      by : (x : Bool) → length starts * (length words * one_if x) ≡ cond x (length starts * length words) 0
      by true = let one : length words * 1 ≡ length words = omega arith in ap (λ k. length starts * k) one
      by false = let one : length words * 0 ≡ 0 = omega arith in let two : length starts * 0 ≡ 0 = omega arith in ap (λ k. length starts * k) one ∙ two

  idle_over : (buckets starts words : List ℕ) → All (λ s. s < 64) starts
      → over buckets starts words (λ r. one_if (not (is_some (candidate_in st in_new nets r)))) ≡ count_by idle_bucket buckets * (length starts * length words)
  idle_over buckets starts words low =
      (λ i. sum_by (λ b. in_bucket b starts words low i) buckets) ∙ sum_const idle_bucket (length starts * length words) buckets

  -- the rounds of one word out of three are of one kind
  one_kind : (now factor : ℕ) (r : Round)
      → one_if (holds (λ q. is_accepted q now factor r.word) (candidate_in st in_new nets r)) + one_if (not (is_some (candidate_in st in_new nets r)))
      + one_if (holds (λ q. not (is_accepted q now factor r.word)) (candidate_in st in_new nets r)) ≡ 1
  one_kind now factor r = by (candidate_in st in_new nets r)
    where
      each : (b : Bool) → one_if b + one_if false + one_if (not b) ≡ 1
      each true = refl
      each false = refl

      by : (o : Option Rec) → one_if (holds (λ q. is_accepted q now factor r.word) o) + one_if (not (is_some o)) + one_if (holds (λ q. not (is_accepted q now factor r.word)) o) ≡ 1
      by None = refl
      by (Some q) = each (is_accepted q now factor r.word)

  over_both : (buckets starts words : List ℕ) (f g : Round → ℕ) → over buckets starts words (λ r. f r + g r) ≡ over buckets starts words f + over buckets starts words g
  over_both buckets starts words f g =
      (λ i. sum_by (λ b. sum_by (λ s. sum_both (λ w. f (round b s w)) (λ w. g (round b s w)) words i) starts) buckets)
      ∙ (λ i. sum_by (λ b. sum_both (λ s. sum_by (λ w. f (round b s w)) words) (λ s. sum_by (λ w. g (round b s w)) words) starts i) buckets)
      ∙ sum_both (λ b. sum_by (λ s. sum_by (λ w. f (round b s w)) words) starts) (λ b. sum_by (λ s. sum_by (λ w. g (round b s w)) words) starts) buckets

  kinds_over : (now factor : ℕ) (buckets starts words : List ℕ)
      → over buckets starts words (λ r. one_if (holds (λ q. is_accepted q now factor r.word) (candidate_in st in_new nets r)))
      + over buckets starts words (λ r. one_if (not (is_some (candidate_in st in_new nets r))))
      + over buckets starts words (λ r. one_if (holds (λ q. not (is_accepted q now factor r.word)) (candidate_in st in_new nets r)))
      ≡ length buckets * (length starts * (length words * 1))
  kinds_over now factor buckets starts words =
      sym (over_both buckets starts words (λ r. selects r + idles r) refuses ∙ ap (λ k. k + over buckets starts words refuses) (over_both buckets starts words selects idles))
      ∙ (λ i. over buckets starts words (λ r. one_kind now factor r i))
      ∙ over-constant buckets starts words 1
    where
      selects : Round → ℕ
      selects r = one_if (holds (λ q. is_accepted q now factor r.word) (candidate_in st in_new nets r))

      idles : Round → ℕ
      idles r = one_if (not (is_some (candidate_in st in_new nets r)))

      refuses : Round → ℕ
      refuses r = one_if (holds (λ q. not (is_accepted q now factor r.word)) (candidate_in st in_new nets r))

pub idle_is : (st : State) (in_new : Bool) (nets : List ℕ)
    → idle_rounds st in_new nets ≡ count_by (λ b. not (has_candidate st in_new nets b)) (range_with_len 0 (bucket_count in_new)) * (64 * 2 ^ 30)
idle_is st in_new nets =
    idle_over st in_new nets (range_with_len 0 (bucket_count in_new)) (range_with_len 0 64) (range_with_len 0 (2 ^ 30)) (all_range (λ s. s < 64) 0 64 (λ i from to. omega (arith, to)))
    ∙ (λ i. count_by (λ b. not (has_candidate st in_new nets b)) (range_with_len 0 (bucket_count in_new)) * (length-range_with_len 0 64 i * length-range_with_len 0 (2 ^ 30) i))

pub each_kind : (st : State) (in_new : Bool) (nets : List ℕ) (now factor : ℕ)
    → words_for st in_new nets now factor (λ r. true) + idle_rounds st in_new nets + refusing_rounds st in_new nets now factor ≡ bucket_count in_new * (64 * 2 ^ 30)
each_kind st in_new nets now factor =
    kinds_over st in_new nets now factor (range_with_len 0 (bucket_count in_new)) (range_with_len 0 64) (range_with_len 0 (2 ^ 30))
    ∙ (λ i. length-range_with_len 0 (bucket_count in_new) i * (length-range_with_len 0 64 i * (length-range_with_len 0 (2 ^ 30) i * 1)))
    ∙ last (bucket_count in_new) (2 ^ 30)
  where
    last : (n k : ℕ) → n * (64 * (k * 1)) ≡ n * (64 * k)
    last n k = let one : k * 1 ≡ k = omega arith in ap (λ x. n * (64 * x)) one
