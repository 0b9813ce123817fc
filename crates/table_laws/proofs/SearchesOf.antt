-- Searches that end at one of several records, and which part of all they are.
use Rattle.std.proofs.Common.{◌≡◌, ℕ, zero, suc, ◌+◌, ◌*◌, ◌/◌, ◌%◌, ◌^◌, ◌≤◌, Bool, true, false, ◌&&◌, List, filter, sum_by, count_by, Option, Some, None, refl, sym, ap, subst, ◌∙◌, arith}
use Rattle.std.specs.List.{range_with_len}
use Rattle.std.proofs.Math.Nat.{le-min, min-le_right, mul-le-mul, mul-le-mul_left, mul-le-mul_right}
use Rattle.std.proofs.lemmas.Bool.{lt-ltb, ltb-true}
use Rattle.peer_rec.specs.Rec.{chance, next_factor}
use Rattle.peer_rec.specs.declared.rec.Rec.{Rec}
use Rattle.table_machine.specs.Picks.{bucket_count, first_candidate, first_factor, is_accepted}
use Rattle.table_machine.specs.Sound.{IsSound}
use Rattle.table_machine.specs.State.{State}
use Rattle.table_machine.proofs.Lists.{All-from_Contains, Contains-from_filter}
use Rattle.table_laws.specs.Chances.{picking_words, picks, words_for}
use Rattle.table_laws.specs.Rounds.{holds}
use Rattle.table_laws.specs.Searches.{all_lists, ending_at, ending_lists, idle_rounds, one_if, refusing_rounds}
use Rattle.table_laws.proofs.Balance.{sum_nothing}
use Rattle.table_laws.proofs.BoundOf.{sum_at_most}
use Rattle.table_laws.proofs.Counts.{sum_agree}
use Rattle.table_laws.proofs.SearchOf.{one_more, sum_three}
use Rattle.table_laws.proofs.SomeOf.{some_words}

turned : (p a i e r f : ℕ) → p * a + i * e + r * f ≡ p * a + e * i + f * r
turned p a i e r f = omega arith

spread : (p a i e r f d : ℕ) → (p * a + i * e + r * f) * d ≡ p * d * a + i * (e * d) + r * (f * d)
spread p a i e r f d = omega arith

sums : (a b c x y z : ℕ) → a ≤ x → b ≤ y → c ≤ z → a + b + c ≤ x + y + z
sums a b c x y z one two three = omega (arith, one, two, three)

module _ (st : State) (sound : IsSound st) (in_new : Bool) (nets : List ℕ) (now : ℕ) where
  pub one_more_of : (test : Rec → Bool) (factor n : ℕ)
      → ending_at st in_new nets now factor test (suc n)
      ≡ words_for st in_new nets now factor test * all_lists in_new n
      + idle_rounds st in_new nets * ending_at st in_new nets now factor test n
      + refusing_rounds st in_new nets now factor * ending_at st in_new nets now (next_factor factor) test n
  one_more_of test factor n =
      sum_agree (λ r. ending_lists st in_new nets now factor r.peer (suc n)) (λ r. pick r * all + ends factor r * idle + ends (next_factor factor) r * refuse) ones
      (All-from_Contains (λ r. ending_lists st in_new nets now factor r.peer (suc n) ≡ pick r * all + ends factor r * idle + ends (next_factor factor) r * refuse) ones
      (λ r c. one_more st sound in_new nets now r (Contains-from_filter test st.records r c).0 factor n ∙ turned (pick r) all idle (ends factor r) refuse (ends (next_factor factor) r)))
      ∙ sum_three pick (ends factor) (ends (next_factor factor)) all idle refuse ones
      ∙ sym (turned (sum_by pick ones) all idle (sum_by (ends factor) ones) refuse (sum_by (ends (next_factor factor)) ones))
      ∙ ap (λ p. p * all + idle * sum_by (ends factor) ones + refuse * sum_by (ends (next_factor factor)) ones) (sym (some_words st sound now factor test in_new nets))
    where
      ones : List Rec
      ones = filter test st.records

      all : ℕ
      all = all_lists in_new n

      idle : ℕ
      idle = idle_rounds st in_new nets

      refuse : ℕ
      refuse = refusing_rounds st in_new nets now factor

      pick : Rec → ℕ
      pick r = picking_words st in_new nets now factor r.number

      ends : ℕ → Rec → ℕ
      ends f r = ending_lists st in_new nets now f r.peer n

  -- the factor grows up to a bound
  grows : (factor : ℕ) → factor ≤ 2 ^ 60 → (factor ≤ next_factor factor) × (next_factor factor ≤ 2 ^ 60)
  grows factor low = (le-min (omega arith) low, min-le_right (factor + factor / 5) (2 ^ 60))

  module _ (part whole : ℕ) (theirs all : Rec → Bool) where
    pub part_of : (n factor : ℕ) → factor ≤ 2 ^ 60
        → ((later : ℕ) → factor ≤ later → words_for st in_new nets now later theirs * whole ≤ words_for st in_new nets now later all * part)
        → ending_at st in_new nets now factor theirs n * whole ≤ ending_at st in_new nets now factor all n * part
    part_of zero factor low each = nothing (ending_at st in_new nets now factor theirs 0) whole (ending_at st in_new nets now factor all 0 * part) (sum_nothing (filter theirs st.records))
      where
        nothing : (a d b : ℕ) → a ≡ 0 → a * d ≤ b
        nothing a d b none = let product : a * d ≡ 0 * d = ap (λ k. k * d) none in omega (arith, product)
    part_of (suc n) factor low each =
        let more = grows factor low in
        let one = mul-le-mul_right (all_lists in_new n) (each factor (omega arith)) in
        let two = mul-le-mul_left (idle_rounds st in_new nets) (part_of n factor low each) in
        let three = mul-le-mul_left (refusing_rounds st in_new nets now factor) (part_of n (next_factor factor) more.1 (λ later from. each later (both more.0 from))) in
        over (words_for st in_new nets now factor theirs) (words_for st in_new nets now factor all) (all_lists in_new n) (idle_rounds st in_new nets)
        (ending_at st in_new nets now factor theirs n) (ending_at st in_new nets now factor all n) (refusing_rounds st in_new nets now factor)
        (ending_at st in_new nets now (next_factor factor) theirs n) (ending_at st in_new nets now (next_factor factor) all n)
        (ending_at st in_new nets now factor theirs (suc n)) (ending_at st in_new nets now factor all (suc n))
        (one_more_of theirs factor n) (one_more_of all factor n) one two three
      where
        both : {a b c : ℕ} → a ≤ b → b ≤ c → a ≤ c
        both one two = omega (arith, one, two)

        over : (p q a i e g r f h s t : ℕ) → s ≡ p * a + i * e + r * f → t ≡ q * a + i * g + r * h
            → p * whole * a ≤ q * part * a → i * (e * whole) ≤ i * (g * part) → r * (f * whole) ≤ r * (h * part) → s * whole ≤ t * part
        over p q a i e g r f h s t first second one two three =
            subst (λ k. k ≤ t * part) (sym (ap (λ k. k * whole) first ∙ spread p a i e r f whole))
            (subst (λ k. p * whole * a + i * (e * whole) + r * (f * whole) ≤ k) (sym (ap (λ k. k * part) second ∙ spread q a i g r h part))
            (sums (p * whole * a) (i * (e * whole)) (r * (f * whole)) (q * part * a) (i * (g * part)) (r * (h * part)) one two three))

  -- with a larger factor no fewer words select
  module _ (test : Rec → Bool) (factor later : ℕ) (from : factor ≤ later) where
    accepts : (q : Rec) (word : ℕ) → is_accepted q now factor word ≡ true → is_accepted q now later word ≡ true
    accepts q word is =
        let product = mul-le-mul_left (chance q now) from in
        let less = ltb-true ((word % 2 ^ 30) * 2 ^ 30) (chance q now * factor) is in
        lt-ltb ((word % 2 ^ 30) * 2 ^ 30) (chance q now * later) (omega (arith, product, less))

    one_word : (bucket start word : ℕ) → one_if (picks st in_new nets now factor test bucket start word) ≤ one_if (picks st in_new nets now later test bucket start word)
    one_word bucket start word = by (first_candidate st in_new nets bucket start)
      where
        both : (t a b : Bool) → (a ≡ true → b ≡ true) → one_if (t && a) ≤ one_if (t && b)
        both false a b h = omega arith
        both true false b h = omega arith
        both true true b h = subst (λ x. one_if true ≤ one_if x) (sym (h refl)) (omega arith)

        by : (o : Option Rec) → one_if (holds (λ r. test r && is_accepted r now factor word) o) ≤ one_if (holds (λ r. test r && is_accepted r now later word) o)
        by None = omega arith
        by (Some q) = both (test q) (is_accepted q now factor word) (is_accepted q now later word) (accepts q word)

    over_all : (buckets starts words : List ℕ)
        → sum_by (λ b. sum_by (λ s. count_by (picks st in_new nets now factor test b s) words) starts) buckets
        ≤ sum_by (λ b. sum_by (λ s. count_by (picks st in_new nets now later test b s) words) starts) buckets
    over_all buckets starts words =
        each buckets (λ b. sum_by (λ s. count_by (picks st in_new nets now factor test b s) words) starts) (λ b. sum_by (λ s. count_by (picks st in_new nets now later test b s) words) starts) (λ b.
        each starts (λ s. count_by (picks st in_new nets now factor test b s) words) (λ s. count_by (picks st in_new nets now later test b s) words) (λ s.
        each words (λ w. one_if (picks st in_new nets now factor test b s w)) (λ w. one_if (picks st in_new nets now later test b s w)) (one_word b s)))
      where
        each : (xs : List ℕ) (f g : ℕ → ℕ) → ((x : ℕ) → f x ≤ g x) → sum_by f xs ≤ sum_by g xs
        each xs f g less = sum_at_most f g xs (All-from_Contains (λ x. f x ≤ g x) xs (λ x c. less x))

    no_fewer : words_for st in_new nets now factor test ≤ words_for st in_new nets now later test
    no_fewer = over_all (range_with_len 0 (bucket_count in_new)) (range_with_len 0 64) (range_with_len 0 (2 ^ 30))

  pub by_bound : (most : ℕ) (theirs : Rec → Bool) → ((factor : ℕ) → words_for st in_new nets now factor theirs ≤ most)
      → (n : ℕ) → ending_at st in_new nets now first_factor theirs n * words_for st in_new nets now first_factor (λ r. true) ≤ ending_at st in_new nets now first_factor (λ r. true) n * most
  by_bound most theirs few n =
      part_of most (words_for st in_new nets now first_factor (λ r. true)) theirs (λ r. true) n first_factor (omega arith)
      (λ later from. product (words_for st in_new nets now later theirs) most (words_for st in_new nets now first_factor (λ r. true)) (words_for st in_new nets now later (λ r. true)) (few later)
      (no_fewer (λ r. true) first_factor later from))
    where
      product : (a b c d : ℕ) → a ≤ b → c ≤ d → a * c ≤ d * b
      product a b c d one two = let h = mul-le-mul one two in omega (arith, h)
