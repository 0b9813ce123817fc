-- An answer after another one.
use Rattle.std.proofs.Common.{◌≡◌, ℕ, ◌+◌, ◌-◌, ◌%◌, ◌<◌, ◌≤◌, nat_lt, Bool, true, false, cond, List, [], ◌∷◌, length, take, refl, sym, ap, ◌∙◌, subst, arith, if◌then◌else◌}
use Rattle.std.specs.Prelude.{◌&&◌, ◌==◌, swap}
use Rattle.std.specs.List.Sorted.{IsPermutation}
use Rattle.std.proofs.lemmas.Bool.Decides.{nat_tests}
use Rattle.std.proofs.lemmas.List.Sorted.{IsPermutation-refl, IsPermutation-swap, IsPermutation-sym, IsPermutation-trans, length_permutation, sum_by-IsPermutation}
use Rattle.std.proofs.lemmas.Nat.{mod_below}
use Rattle.table_machine.specs.State.{State, outcome}
use Rattle.table_machine.specs.Picks.{sample_from, sample_limit, order_swap, eligible_at, with_peers}
use Rattle.table_laws.specs.Samples.{eligible_peers}
use Rattle.table_laws.specs.Shuffle.{AreDraws, IsOnce, exchanged}
use Rattle.table_laws.proofs.Exchanges.{each_arrangement, no_two}
use Rattle.table_laws.proofs.SamplesOf.{sample-is}
use Rattle.getaddr.specs.Fresh.{sample_of, told_nets, order_after}
use Rattle.getaddr.proofs.Told.{changes_order}

-- a sample leaves an arrangement of the order
permuted : (st : State) (classes : List ℕ) (now i left : ℕ) (words : List ℕ) → IsPermutation st.order (sample_from st classes now i left words).state.order
permuted st classes now i left [] = IsPermutation-refl st.order
permuted st classes now i left (word ∷ words) =
    let new = order_swap st i (i + word % (length st.order - i)) in
    by (nat_lt i (length st.order)) refl (nat_lt 0 left)
    (permuted new classes now (i + 1) (left - length (eligible_at new classes now i)) words)
  where
    first : nat_lt i (length st.order) ≡ true → i < length st.order
    first is = grind (arith, nat_tests, is)

    by : (a : Bool) → nat_lt i (length st.order) ≡ a → (b : Bool)
        → IsPermutation (swap st.order i (i + word % (length st.order - i)))
        (sample_from (order_swap st i (i + word % (length st.order - i))) classes now (i + 1) (left - length (eligible_at (order_swap st i (i + word % (length st.order - i))) classes now i)) words).state.order
        → IsPermutation st.order (if a && b then with_peers (eligible_at (order_swap st i (i + word % (length st.order - i))) classes now i)
        (sample_from (order_swap st i (i + word % (length st.order - i))) classes now (i + 1) (left - length (eligible_at (order_swap st i (i + word % (length st.order - i))) classes now i)) words)
        else outcome [] st).state.order
    by true is true rest =
        let low = first is in
        let part = mod_below word (length st.order - i) (omega (arith, low)) in
        IsPermutation-trans _ _ _
        (IsPermutation-swap st.order (swap st.order i (i + word % (length st.order - i))) i (i + word % (length st.order - i)) low (omega (arith, low, part)) refl) rest
    by true is false rest = IsPermutation-refl st.order
    by false is b rest = IsPermutation-refl st.order

arranged-after : (st : State) (now : ℕ) (words : List ℕ) → IsPermutation st.order (order_after st now words)
arranged-after st now words = permuted st told_nets now 0 (sample_limit (length st.order) 1000 23) words

long-after : (st : State) (now : ℕ) (words : List ℕ) → length (order_after st now words) ≡ length st.order
long-after st now words = length_permutation st.order (order_after st now words) (arranged-after st now words)

pub next_peers : (st : State) (now later : ℕ) (words more : List ℕ) → length st.order ≤ length more
    → (sample_of (sample_of st now words).state later more).answer
    ≡ take (sample_limit (length st.order) 1000 23) (eligible_peers st told_nets later (exchanged (order_after st now words) 0 more))
next_peers st now later words more enough =
    let new = (sample_of st now words).state in
    let long = long-after st now words in
    sample-is told_nets later new 1000 23 more (omega (arith, enough, long))
    ∙ ap (λ n. take (sample_limit n 1000 23) (eligible_peers new told_nets later (exchanged new.order 0 more))) long
    ∙ ap (λ s. take (sample_limit (length st.order) 1000 23) (eligible_peers s told_nets later (exchanged new.order 0 more)))
    (changes_order st new 1000 23 told_nets words now refl)

pub next_some : (st : State) (now : ℕ) (words arranged : List ℕ) → IsPermutation st.order arranged
    → (draws : List ℕ) × AreDraws (length st.order) draws × (exchanged (order_after st now words) 0 draws ≡ arranged)
next_some st now words arranged moved =
    let found = each_arrangement (order_after st now words) arranged
    (IsPermutation-trans _ _ _ (IsPermutation-sym _ _ (arranged-after st now words)) moved) in
    (found.0, subst (λ n. AreDraws n found.0) (long-after st now words) found.1, found.2)

pub next_one : (st : State) (now : ℕ) (words draws others : List ℕ) → IsOnce st.order
    → AreDraws (length st.order) draws → AreDraws (length st.order) others
    → exchanged (order_after st now words) 0 draws ≡ exchanged (order_after st now words) 0 others → draws ≡ others
next_one st now words draws others once a b same =
    let long = sym (long-after st now words) in
    no_two (order_after st now words) draws others
    (λ v. subst (λ n. n ≤ 1) (sym (sum_by-IsPermutation (λ x. cond (x == v) 1 0) st.order (order_after st now words) (arranged-after st now words))) (once v))
    (subst (λ n. AreDraws n draws) long a) (subst (λ n. AreDraws n others) long b) same
