-- How many slots a round may begin at to come to a slot first.
use Rattle.std.proofs.Common.{◌≡◌, ◌≢◌, ℕ, zero, suc, ◌+◌, ◌-◌, ◌<◌, ◌≤◌, Bool, true, false, cond, not, ◌&&◌, ◌||◌, ◌==◌, List, [], ◌∷◌, ◌++◌, All, find, filter_map, count_by, Option, Some, None, refl, sym, ap, ◌∙◌, inl, inr, ◌⊎◌, arith, append_assoc, if◌then◌else◌}
use Rattle.std.specs.List.{range_with_len, list_any}
use Rattle.std.proofs.lemmas.Bool.{both_ways, false_from_ne_true}
use Rattle.std.proofs.lemmas.Bool.Decides.{eqb_tells}
use Rattle.std.proofs.lemmas.List.Elements.{All-head, All-tail, All-append}
use Rattle.std.proofs.lemmas.List.Folds.{list_any-append}
use Rattle.table_laws.specs.Rounds.{around, gap, holds, idle_below}
use Rattle.table_laws.proofs.Counts.{all_range, count_agree, count_append, count_cons, count_no, range_at, range_from_at, range_last}
use Rattle.net_addr.proofs.Bits.{and_true}

not_or : (a b : Bool) → not (a || b) ≡ (not a && not b)
not_or true b = refl
not_or false b = refl

or_end : (a : Bool) → (a || false) ≡ a
or_end true = refl
or_end false = refl

and_false : (a : Bool) → (a && false) ≡ false
and_false true = refl
and_false false = refl

eqb-suc : (a b : ℕ) → (a == b) ≡ (1 + a == suc b)
eqb-suc a b = by (eqb_tells a b) (eqb_tells (1 + a) (suc b))
  where
    by : (((a == b) ≡ true) × (a ≡ b)) ⊎ (((a == b) ≡ false) × (a ≢ b)) → (((1 + a == suc b) ≡ true) × (1 + a ≡ suc b)) ⊎ (((1 + a == suc b) ≡ false) × (1 + a ≢ suc b))
        → (a == b) ≡ (1 + a == suc b)
    by (inl x) (inl y) = x.0 ∙ sym y.0
    by (inl x) (inr y) = let same = x.1 in absurd (y.1 (omega (arith, same)))
    by (inr x) (inl y) = let same = y.1 in absurd (x.1 (omega (arith, same)))
    by (inr x) (inr y) = x.0 ∙ sym y.0

eqb-zero : (b : ℕ) → (◌==◌ 0 (suc b)) ≡ false
eqb-zero b = by (eqb_tells 0 (suc b))
  where
    by : (((◌==◌ 0 (suc b)) ≡ true) × (0 ≡ suc b)) ⊎ (((◌==◌ 0 (suc b)) ≡ false) × (0 ≢ suc b)) → (◌==◌ 0 (suc b)) ≡ false
    by (inl h) = let same = h.1 in absurd (omega (arith, same))
    by (inr h) = h.0

module _ (w : ℕ → Bool) where
  -- none of these slots has a wanted record
  abbrev pub idle : ℕ → ℕ → Bool
  idle from to = not (list_any w (range_with_len from (to - from)))

  idle-more : (s from : ℕ) → from ≤ s → idle from (suc s) ≡ (idle from s && not (w s))
  idle-more s from low =
      let one : suc s - from ≡ suc (s - from) = omega arith in
      let two : from + (s - from) ≡ s = omega arith in
      ap (λ k. not (list_any w (range_with_len from k))) one
      ∙ ap (λ xs. not (list_any w xs)) (range_last from (s - from) ∙ ap (λ k. range_with_len from (s - from) ++ k ∷ []) two)
      ∙ ap not (list_any-append w (range_with_len from (s - from)) (s ∷ []) ∙ ap (λ b. list_any w (range_with_len from (s - from)) || b) (or_end (w s)))
      ∙ not_or (list_any w (range_with_len from (s - from))) (w s)

  idle-nothing : (s : ℕ) → idle s s ≡ true
  idle-nothing s = let none : s - s ≡ 0 = omega arith in ap (λ k. not (list_any w (range_with_len s k))) none

  -- the idle slots below a slot are those from which none is wanted up to it
  pub count-idle : (s : ℕ) → count_by (λ from. idle from s) (range_with_len 0 s) ≡ idle_below w s
  count-idle zero = refl
  count-idle (suc s) =
      count_agree (λ from. idle from (suc s)) (λ from. idle from s && not (w s)) (range_with_len 0 (suc s)) (all_range (λ from. idle from (suc s) ≡ (idle from s && not (w s))) 0 (suc s) (λ i low high. idle-more s i (omega arith)))
      ∙ by (count-idle s) (w s)
    where
      by : count_by (λ from. idle from s) (range_with_len 0 s) ≡ idle_below w s → (b : Bool) → count_by (λ from. idle from s && not b) (range_with_len 0 (suc s)) ≡ (if b then 0 else 1 + idle_below w s)
      by so_far true = count_no (λ from. idle from s && false) (range_with_len 0 (suc s)) (all_range (λ from. (idle from s && false) ≡ false) 0 (suc s) (λ i low high. and_false (idle i s)))
      by so_far false =
          let one : 0 + s ≡ s = omega arith in
          let here : cond (idle s s) 1 0 ≡ cond true 1 0 = ap {B = ℕ} (λ b. cond b 1 0) (idle-nothing s) in
          let last = count_cons (λ from. idle from s) s [] in
          count_agree (λ from. idle from s && true) (λ from. idle from s) (range_with_len 0 (suc s)) (all_range (λ from. (idle from s && true) ≡ idle from s) 0 (suc s) (λ i low high. and_true (idle i s)))
          ∙ ap (count_by (λ from. idle from s)) (range_last 0 s ∙ ap (λ k. range_with_len 0 s ++ k ∷ []) one)
          ∙ count_append (λ from. idle from s) (range_with_len 0 s) (s ∷ [])
          ∙ omega (arith, here, last, so_far)

  -- all slots below one are idle exactly if as many are as there are
  idle-all : (s : ℕ) → idle 0 s ≡ (idle_below w s == s)
  idle-all zero = refl
  idle-all (suc s) = idle-more s 0 (omega arith) ∙ ap (λ b. b && not (w s)) (idle-all s) ∙ by (w s)
    where
      by : (b : Bool) → ((idle_below w s == s) && not b) ≡ ((if b then 0 else 1 + idle_below w s) == suc s)
      by true = and_false (idle_below w s == s) ∙ sym (eqb-zero s)
      by false = and_true (idle_below w s == s) ∙ eqb-suc (idle_below w s) s

module _ {X : Type 0} (at : ℕ → Option X) (wanted picked : X → Bool) (s : ℕ)
    (is_wanted : holds wanted (at s) ≡ true) (is_picked : holds picked (at s) ≡ true)
    (only : (t : ℕ) → holds picked (at t) ≡ true → t ≡ s) where
  abbrev w : ℕ → Bool
  w t = holds wanted (at t)

  abbrev first : List ℕ → Bool
  first slots = holds picked (find wanted (filter_map at slots))

  at_slot : (o : Option X) (t : ℕ) (slots : List ℕ) → at t ≡ o
      → first (t ∷ slots) ≡ (if holds wanted o then holds picked o else first slots)
  at_slot None t slots is = rw is refl
  at_slot (Some x) t slots is = rw is (by (wanted x))
    where
      by : (b : Bool) → holds picked (if b then Some x else find wanted (filter_map at slots)) ≡ (if b then picked x else first slots)
      by true = refl
      by false = refl

  first-here : (slots : List ℕ) → first (s ∷ slots) ≡ true
  first-here slots =
      at_slot (at s) s slots refl
      ∙ ap (λ b. if b then holds picked (at s) else first slots) is_wanted
      ∙ is_picked

  -- a slot is the first in turn if none before it has a wanted record
  first-in : (before after : List ℕ) → All (λ t. t ≢ s) before → first (before ++ s ∷ after) ≡ not (list_any w before)
  first-in [] after others = first-here after
  first-in (t ∷ before) after others =
      at_slot (at t) t (before ++ s ∷ after) refl
      ∙ ap (λ b. if w t then b else first (before ++ s ∷ after)) not_picked
      ∙ ap (λ b. if w t then false else b) (first-in before after (All-tail (λ u. u ≢ s) t before others))
      ∙ by (w t)
    where
      not_picked : holds picked (at t) ≡ false
      not_picked = false_from_ne_true (holds picked (at t)) (λ is. All-head (λ u. u ≢ s) t before others (only t is))

      by : (b : Bool) → (if b then false else not (list_any w before)) ≡ not (b || list_any w before)
      by true = refl
      by false = refl

  module _ (n : ℕ) (below : s < n) where
    low : (start : ℕ) → start ≤ s → first (around n start) ≡ idle w start s
    low start le =
        ap first (ap (λ xs. xs ++ range_with_len 0 start) (range_from_at n start s le below)
        ∙ append_assoc (range_with_len start (s - start)) (s ∷ range_with_len (s + 1) (n - s - 1)) (range_with_len 0 start))
        ∙ first-in (range_with_len start (s - start)) (range_with_len (s + 1) (n - s - 1) ++ range_with_len 0 start)
        (all_range (λ t. t ≢ s) start (s - start) (λ i from to is. omega (arith, from, to, is, le)))

    high : (start : ℕ) → s < start → start < n → first (around n start) ≡ (idle w start n && idle w 0 s)
    high start gt lt =
        let zero_from : s - 0 ≡ s = omega arith in
        ap first (ap (λ xs. range_with_len start (n - start) ++ xs) (range_at start s gt)
        ∙ sym (append_assoc (range_with_len start (n - start)) (range_with_len 0 s) (s ∷ range_with_len (s + 1) (start - s - 1))))
        ∙ first-in (range_with_len start (n - start) ++ range_with_len 0 s) (range_with_len (s + 1) (start - s - 1))
        (All-append (λ t. t ≢ s) (range_with_len start (n - start)) (range_with_len 0 s)
        (all_range (λ t. t ≢ s) start (n - start) (λ i from to is. omega (arith, from, is, gt)))
        (all_range (λ t. t ≢ s) 0 s (λ i from to is. omega (arith, to, is))))
        ∙ ap not (list_any-append w (range_with_len start (n - start)) (range_with_len 0 s))
        ∙ not_or (list_any w (range_with_len start (n - start))) (list_any w (range_with_len 0 s))
        ∙ ap (λ k. idle w start n && not (list_any w (range_with_len 0 k))) (sym zero_from)

    rest : List ℕ
    rest = range_with_len (s + 1) (n - s - 1)

    -- no slot up to s is followed by idle ones only
    blocked : (from : ℕ) → from ≤ s → idle w from n ≡ false
    blocked from le =
        ap (λ xs. not (list_any w xs)) (range_from_at n from s le below)
        ∙ ap not (list_any-append w (range_with_len from (s - from)) (s ∷ range_with_len (s + 1) (n - s - 1)))
        ∙ by (list_any w (range_with_len from (s - from))) (w s) is_wanted
      where
        by : (a b : Bool) → b ≡ true → not (a || (b || list_any w (range_with_len (s + 1) (n - s - 1)))) ≡ false
        by true b is = refl
        by false true is = refl
        by false false is = absurd (both_ways false refl is)

    last_ones : count_by (λ from. idle w from n) (range_with_len (s + 1) (n - s - 1)) ≡ idle_below w n
    last_ones =
        let ends = count_by (λ from. idle w from n) (range_with_len (s + 1) (n - s - 1)) in
        let none : count_by (λ from. idle w from n) (range_with_len 0 s) ≡ 0 = count_no (λ from. idle w from n) (range_with_len 0 s) (all_range (λ from. idle w from n ≡ false) 0 s (λ i from to. blocked i (omega arith))) in
        let here : cond (idle w s n) 1 0 ≡ cond false 1 0 = ap {B = ℕ} (λ b. cond b 1 0) (blocked s (omega arith)) in
        let cut = ap (count_by (λ from. idle w from n)) (range_at n s below) in
        let split = count_append (λ from. idle w from n) (range_with_len 0 s) (s ∷ range_with_len (s + 1) (n - s - 1)) in
        let one = count_cons (λ from. idle w from n) s (range_with_len (s + 1) (n - s - 1)) in
        let all = count-idle w n in
        omega (arith, none, here, cut, split, one, all)

    -- of the n slots that a round may begin at, so many come to this one first
    pub count-gap : count_by (λ start. first (around n start)) (range_with_len 0 n) ≡ gap w n s
    count-gap =
        let cut = ap (count_by (λ start. first (around n start))) (range_at n s below) in
        let split = count_append (λ start. first (around n start)) (range_with_len 0 s) (s ∷ range_with_len (s + 1) (n - s - 1)) in
        let one = count_cons (λ start. first (around n start)) s (range_with_len (s + 1) (n - s - 1)) in
        let here : ◌≡◌ {A = ℕ} (cond (first (around n s)) 1 0) 1 = ap {B = ℕ} (λ b. cond b 1 0) (low s (omega arith) ∙ idle-nothing w s) in
        let lower : count_by (λ start. first (around n start)) (range_with_len 0 s) ≡ idle_below w s =
        count_agree (λ start. first (around n start)) (λ from. idle w from s) (range_with_len 0 s) (all_range (λ start. first (around n start) ≡ idle w start s) 0 s (λ i from to. low i (omega arith)))
        ∙ count-idle w s in
        let upper = upper_ones in
        omega (arith, cut, split, one, here, lower, upper)
      where
        by : (b : Bool) → count_by (λ from. idle w from n && b) (range_with_len (s + 1) (n - s - 1)) ≡ (if b then idle_below w n else 0)
        by true =
            count_agree (λ from. idle w from n && true) (λ from. idle w from n) (range_with_len (s + 1) (n - s - 1))
            (all_range (λ from. (idle w from n && true) ≡ idle w from n) (s + 1) (n - s - 1) (λ i from to. and_true (idle w i n)))
            ∙ last_ones
        by false =
            count_no (λ from. idle w from n && false) (range_with_len (s + 1) (n - s - 1))
            (all_range (λ from. (idle w from n && false) ≡ false) (s + 1) (n - s - 1) (λ i from to. and_false (idle w i n)))

        upper_ones : count_by (λ start. first (around n start)) (range_with_len (s + 1) (n - s - 1)) ≡ (if idle_below w s == s then idle_below w n else 0)
        upper_ones =
            count_agree (λ start. first (around n start)) (λ from. idle w from n && idle w 0 s) (range_with_len (s + 1) (n - s - 1))
            (all_range (λ start. first (around n start) ≡ (idle w start n && idle w 0 s)) (s + 1) (n - s - 1) (λ i from to. high i (omega arith) (omega (arith, to))))
            ∙ by (idle w 0 s)
            ∙ ap (λ b. if b then idle_below w n else 0) (idle-all w s)
