-- Searches that end at some records are at most what the rounds give, step by step.
use Rattle.std.proofs.Common.{◌≡◌, ℕ, zero, suc, ◌+◌, ◌-◌, ◌*◌, ◌/◌, ◌^◌, ◌≤◌, ◌<◌, Bool, true, false, not, List, [], ◌∷◌, filter, sum_by, refl, sym, ap, subst, ◌∙◌, arith, if◌then◌else◌}
use Rattle.std.proofs.Math.Nat.{lt-div-mul-add, mul-le-mul_left, mul-le-mul_right}
use Rattle.std.proofs.lemmas.List.Sums.{sum_by-cons}
use Rattle.peer_rec.specs.declared.rec.Rec.{Rec}
use Rattle.peer_rec.specs.Rec.{next_factor}
use Rattle.table_machine.specs.Picks.{bucket_count}
use Rattle.table_machine.specs.Sound.{IsSound}
use Rattle.table_machine.specs.State.{State}
use Rattle.table_laws.specs.Chances.{picking_words, words_for}
use Rattle.table_laws.specs.Searches.{all_lists, ending_at, ending_lists, idle_rounds, refusing_rounds}
use Rattle.table_laws.proofs.Balance.{sum_nothing}
use Rattle.table_laws.proofs.RoundsOf.{each_kind}
use Rattle.table_laws.proofs.SearchOf.{all_more}
use Rattle.table_laws.proofs.SearchesOf.{one_more_of}
use Rattle.table_laws.proofs.SomeOf.{some_words}
use Rattle.risk_sum.specs.Kinds.{rounded_up}
use Rattle.risk_laws.specs.Enclosures.{most_of}

-- records that pass, and those that do not, are all
parts_of : {X : Type 0} (f : X → ℕ) (test : X → Bool) (xs : List X)
    → sum_by f (filter (λ x. true) xs) ≡ sum_by f (filter test xs) + sum_by f (filter (λ x. not (test x)) xs)
parts_of f test [] = refl
parts_of {X} f test (x ∷ xs) = sum_by-cons f x (filter (λ y. true) xs) ∙ ap (λ k. f x + k) (parts_of f test xs) ∙ by (test x)
  where
    yes : List X
    yes = filter test xs

    no : List X
    no = filter (λ y. not (test y)) xs

    by : (b : Bool) → f x + (sum_by f yes + sum_by f no) ≡ sum_by f (if b then x ∷ yes else yes) + sum_by f (if not b then x ∷ no else no)
    by true = let one = sum_by-cons f x yes in omega (arith, one)
    by false = let one = sum_by-cons f x no in omega (arith, one)

pub at_least_it : (a b : ℕ) → 0 < b → a ≤ b * rounded_up a b
at_least_it a b some = let h : a + (b - 1) < (a + (b - 1)) / b * b + b = lt-div-mul-add some in omega (arith, h, some)

-- one round more
pub one_round : (w i r a e f left after x y busy : ℕ) → left * w ≤ busy * x → left * r ≤ busy * after → e * left ≤ a * (x + y) → f * after ≤ a * y
    → (w * a + i * e + r * f) * left ≤ (busy + i) * a * (x + y)
one_round w i r a e f left after x y busy here later before rest =
    let one = mul-le-mul_right a here in
    let two = mul-le-mul_left i before in
    let three = mul-le-mul_right f later in
    let four = mul-le-mul_left busy rest in
    omega (arith, one, two, three, four)

-- one round more ends no more searches than there are
one_less : (w i r a e f busy : ℕ) → w + r ≤ busy → e ≤ a → f ≤ a → w * a + i * e + r * f ≤ (busy + i) * a
one_less w i r a e f busy few one two =
    let here = mul-le-mul_right a few in
    let idle = mul-le-mul_left i one in
    let later = mul-le-mul_left r two in
    omega (arith, here, idle, later)

joined : (w s p q v t i d b : ℕ) → w ≡ s → v ≡ p → s ≡ p + q → w + i + t ≡ d → b + i ≡ d → v + t ≤ b
joined w s p q v t i d b one two three four five = omega (arith, one, two, three, four, five)

carried : (e x l y a u m : ℕ) → e ≡ x → l ≡ y * a → x * u ≤ y * a * m → e * u ≤ l * m
carried e x l y a u m one two h = subst (λ k. k * u ≤ l * m) (sym one) (subst (λ k. x * u ≤ k * m) (sym two) h)

module _ (st : State) (sound : IsSound st) (in_new : Bool) (nets : List ℕ) (now busy : ℕ) (some : 0 < busy)
    (whole : busy + idle_rounds st in_new nets ≡ bucket_count in_new * (64 * 2 ^ 30)) where
  abbrev words : (Rec → Bool) → ℕ → ℕ
  words test factor = words_for st in_new nets now factor test

  abbrev ends : (Rec → Bool) → ℕ → ℕ → ℕ
  ends test factor n = ending_at st in_new nets now factor test n

  abbrev refuse : ℕ → ℕ
  refuse factor = refusing_rounds st in_new nets now factor

  more : (n : ℕ) → all_lists in_new (suc n) ≡ (busy + idle_rounds st in_new nets) * all_lists in_new n
  more n = all_more in_new n ∙ turned (bucket_count in_new) (2 ^ 30) (all_lists in_new n) ∙ ap (λ k. k * all_lists in_new n) (sym whole)
    where
      turned : (b k a : ℕ) → b * (64 * (k * a)) ≡ b * (64 * k) * a
      turned b k a = omega arith

  pub no_more : (test : Rec → Bool) (factor : ℕ) → words test factor + refuse factor ≤ busy
  no_more test factor =
      joined _ _ _ _ _ _ _ _ _ (some_words st sound now factor (λ r. true) in_new nets) (some_words st sound now factor test in_new nets)
      (parts_of (λ r. picking_words st in_new nets now factor r.number) test st.records) (each_kind st in_new nets now factor) whole

  no_more_lists : (test : Rec → Bool) (n factor : ℕ) → ends test factor n ≤ all_lists in_new n
  no_more_lists test zero factor = none (ends test factor 0) (all_lists in_new 0) (sum_nothing (filter test st.records))
    where
      none : (e a : ℕ) → e ≡ 0 → e ≤ a
      none e a is = omega (arith, is)
  no_more_lists test (suc n) factor =
      subst (λ k. k ≤ all_lists in_new (suc n)) (sym (one_more_of st sound in_new nets now test factor n))
      (subst (λ k. words test factor * all_lists in_new n + idle_rounds st in_new nets * ends test factor n + refuse factor * ends test (next_factor factor) n ≤ k) (sym (more n))
      (one_less (words test factor) (idle_rounds st in_new nets) (refuse factor) (all_lists in_new n) (ends test factor n) (ends test (next_factor factor) n) busy
      (no_more test factor) (no_more_lists test n factor) (no_more_lists test n (next_factor factor))))

  pub at_most : (test : Rec → Bool) (ahead n left factor : ℕ)
      → ends test factor n * left ≤ all_lists in_new n * most_of st in_new nets now test busy left ahead factor
  at_most test zero n left factor = mul-le-mul_right left (no_more_lists test n factor)
  at_most test (suc ahead) zero left factor = let none = sum_nothing (filter test st.records) in nothing (ends test factor 0) left _ none
    where
      nothing : (e u b : ℕ) → e ≡ 0 → e * u ≤ b
      nothing e u b is = let product : e * u ≡ 0 * u = ap (λ k. k * u) is in omega (arith, product)
  at_most test (suc ahead) (suc n) left factor =
      carried (ends test factor (suc n)) _ (all_lists in_new (suc n)) (busy + idle_rounds st in_new nets) (all_lists in_new n) left
      (most_of st in_new nets now test busy left (suc ahead) factor)
      (one_more_of st sound in_new nets now test factor n) (more n)
      (one_round (words test factor) (idle_rounds st in_new nets) (refuse factor) (all_lists in_new n) (ends test factor n) (ends test (next_factor factor) n) left
      (rounded_up (left * refuse factor) busy) (rounded_up (left * words test factor) busy)
      (most_of st in_new nets now test busy (rounded_up (left * refuse factor) busy) ahead (next_factor factor)) busy
      (at_least_it (left * words test factor) busy some) (at_least_it (left * refuse factor) busy some)
      (at_most test (suc ahead) n left factor) (at_most test ahead n (rounded_up (left * refuse factor) busy) (next_factor factor)))

  pub at_least : (test : Rec → Bool) (ahead n left factor : ℕ)
      → ends (λ r. true) factor n * left
      ≤ ends test factor n * left + all_lists in_new n * most_of st in_new nets now (λ r. not (test r)) busy left ahead factor
  at_least test ahead n left factor =
      let both = parts_of (λ r. ending_lists st in_new nets now factor r.peer n) test st.records in
      let rest = at_most (λ r. not (test r)) ahead n left factor in
      sum (ends (λ r. true) factor n) (ends test factor n) (ends (λ r. not (test r)) factor n) left _ both rest
    where
      sum : (a b c u m : ℕ) → a ≡ b + c → c * u ≤ m → a * u ≤ b * u + m
      sum a b c u m is h = let one : a * u ≡ (b + c) * u = ap (λ k. k * u) is in omega (arith, one, h)
