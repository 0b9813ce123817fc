-- What is in a sample, and how many words it takes.
use Rattle.std.proofs.Common.{◌≡◌, ◌≢◌, ℕ, ◌+◌, ◌-◌, ◌*◌, ◌/◌, ◌%◌, ◌<◌, ◌≤◌, nat_lt, Bool, true, false, cond, List, [], ◌∷◌, ◌++◌, length, All, map, filter, Option, Some, None, IfSome, refl, sym, ap, ◌∙◌, subst, arith, append_assoc, if◌then◌else◌}
use Rattle.std.specs.Prelude.{◌&&◌, ◌==◌, Contains, find, slice_get, option_and_then, option_to_list, min}
use Rattle.std.specs.List.{AllByRecursion}
use Rattle.std.proofs.lemmas.Bool.{lt-ltb, le-ltb}
use Rattle.std.proofs.lemmas.Bool.Decides.{nat_tests}
use Rattle.std.proofs.lemmas.List.{length-append}
use Rattle.std.proofs.lemmas.List.Elements.{All-contains_itself, recursion_from_All}
use Rattle.net_addr.specs.declared.peer.Peer.{Peer}
use Rattle.peer_rec.specs.declared.rec.Rec.{Rec}
use Rattle.table_machine.specs.State.{State, After, outcome, by_number}
use Rattle.table_machine.specs.Picks.{order_swap, order_at, is_eligible, sample, sample_from, sample_limit, eligible_at, with_peers}
use Rattle.picking.specs.Announced.{IsAnnounced}

module _ (classes : List ℕ) (now : ℕ) where
  abbrev swapped : State → ℕ → ℕ → State
  swapped st i word = order_swap st i (i + word % (length st.order - i))

  abbrev here : State → ℕ → List Peer
  here st i = eligible_at st classes now i

  one_at_most : (b : Bool) (r : Rec) → length (map (λ r. r.peer) (if b then r ∷ [] else [])) ≤ 1
  one_at_most true r = omega arith
  one_at_most false r = omega arith

  few_by : (o : Option Rec) → length (map (λ r. r.peer) (filter (is_eligible classes now) (option_to_list o))) ≤ 1
  few_by None = omega arith
  few_by (Some r) = one_at_most (is_eligible classes now r) r

  few-here : (st : State) (i : ℕ) → length (here st i) ≤ 1
  few-here st i = few_by (order_at st i)

  -- ---- how many

  pub few : (st : State) (i left : ℕ) (words : List ℕ) → length (sample_from st classes now i left words).answer ≤ left
  few st i left [] = omega arith
  few st i left (word ∷ words) =
      let new = swapped st i word in
      by (nat_lt i (length st.order)) (nat_lt 0 left) refl (few new (i + 1) (left - length (here new i)) words) (few-here new i)
    where
      by : (a b : Bool) → nat_lt 0 left ≡ b
          → length (sample_from (swapped st i word) classes now (i + 1) (left - length (here (swapped st i word) i)) words).answer ≤ left - length (here (swapped st i word) i)
          → length (here (swapped st i word) i) ≤ 1
          → length (if a && b then with_peers (here (swapped st i word) i) (sample_from (swapped st i word) classes now (i + 1) (left - length (here (swapped st i word) i)) words) else outcome [] st).answer ≤ left
      by true true is rest one =
          omega (arith, rest, one, lt-of left is, length-append (here (swapped st i word) i) (sample_from (swapped st i word) classes now (i + 1) (left - length (here (swapped st i word) i)) words).answer)
        where
          lt-of : (n : ℕ) → nat_lt 0 n ≡ true → 0 < n
          lt-of n e = grind (arith, nat_tests, e)
      by true false is rest one = omega arith
      by false b is rest one = omega arith

  -- ---- which

  abbrev Is : List Rec → Peer → Type 0
  Is records peer = (r : Rec) × Contains records r × (r.peer ≡ peer) × (is_eligible classes now r ≡ true)

  found : (P : Rec → Type 0) (test : Rec → Bool) (records : List Rec) → AllByRecursion P records → IfSome (find test records) P
  found P test [] h = tt
  found P test (r ∷ records) h = by (test r) (found P test records h.1)
    where
      by : (b : Bool) → IfSome (find test records) P → IfSome (cond b (Some r) (find test records)) P
      by true rest = h.0
      by false rest = rest

  at_order : (P : Rec → Type 0) (st : State) (i : ℕ) → AllByRecursion P st.records → IfSome (order_at st i) P
  at_order P st i h = by (slice_get st.order i)
    where
      by : (o : Option ℕ) → IfSome (option_and_then (by_number st) o) P
      by None = tt
      by (Some n) = found P (λ r. r.number == n) st.records h

  here_by : (records : List Rec) (o : Option Rec) → IfSome o (Contains records) → AllByRecursion (Is records) (map (λ r. r.peer) (filter (is_eligible classes now) (option_to_list o)))
  here_by records None h = tt
  here_by records (Some r) h = by (is_eligible classes now r) refl
    where
      by : (b : Bool) → is_eligible classes now r ≡ b → AllByRecursion (Is records) (map (λ r. r.peer) (if b then r ∷ [] else []))
      by true is = ((r, h, refl, is), tt)
      by false is = tt

  joined : (P : Peer → Type 0) (xs ys : List Peer) → AllByRecursion P xs → AllByRecursion P ys → AllByRecursion P (xs ++ ys)
  joined P [] ys h k = k
  joined P (x ∷ xs) ys h k = (h.0, joined P xs ys h.1 k)

  pub which : (st : State) (i left : ℕ) (words : List ℕ) → AllByRecursion (Is st.records) (sample_from st classes now i left words).answer
  which st i left [] = tt
  which st i left (word ∷ words) =
      let new = swapped st i word in
      by (nat_lt i (length st.order) && nat_lt 0 left) (which new (i + 1) (left - length (here new i)) words)
    where
      itself : AllByRecursion (Contains st.records) st.records
      itself = recursion_from_All (Contains st.records) st.records (All-contains_itself st.records)

      by : (b : Bool) → AllByRecursion (Is st.records) (sample_from (swapped st i word) classes now (i + 1) (left - length (here (swapped st i word) i)) words).answer
          → AllByRecursion (Is st.records) (if b then with_peers (here (swapped st i word) i) (sample_from (swapped st i word) classes now (i + 1) (left - length (here (swapped st i word) i)) words) else outcome [] st).answer
      by true rest = joined (Is st.records) (here (swapped st i word) i) _ (here_by st.records (order_at (swapped st i word) i) (at_order (Contains st.records) (swapped st i word) i itself)) rest
      by false rest = tt

  -- ---- words

  -- nothing is left to pick
  none-left : (st : State) (i : ℕ) (words : List ℕ) → sample_from st classes now i 0 words ≡ outcome [] st
  none-left st i [] = refl
  none-left st i (word ∷ words) = by (nat_lt i (length st.order))
    where
      by : (a : Bool) → (if a && false then with_peers (here (swapped st i word) i) (sample_from (swapped st i word) classes now (i + 1) (0 - length (here (swapped st i word) i)) words) else outcome [] st) ≡ outcome [] st
      by true = refl
      by false = refl

  -- what the words after one give
  abbrev after : State → ℕ → ℕ → ℕ → List ℕ → After (List Peer)
  after st i left word ws = sample_from (swapped st i word) classes now (i + 1) (left - length (here (swapped st i word) i)) ws

  pub suffice : (st : State) (i left : ℕ) (words more : List ℕ) → length (sample_from st classes now i left words).answer ≡ left
      → sample_from st classes now i left (words ++ more) ≡ sample_from st classes now i left words
  suffice st i left [] more full = subst (λ n. sample_from st classes now i n more ≡ outcome [] st) full (none-left st i more)
  suffice st i left (word ∷ words) more full =
      let new = swapped st i word in
      by (nat_lt i (length st.order)) (nat_lt 0 left) refl full (few-here new i) (suffice new (i + 1) (left - length (here new i)) words more)
    where
      by : (a b : Bool) → nat_lt 0 left ≡ b
          → length (if a && b then with_peers (here (swapped st i word) i) (after st i left word words) else outcome [] st).answer ≡ left
          → length (here (swapped st i word) i) ≤ 1
          → (length (after st i left word words).answer ≡ left - length (here (swapped st i word) i) → after st i left word (words ++ more) ≡ after st i left word words)
          → (if a && b then with_peers (here (swapped st i word) i) (after st i left word (words ++ more)) else outcome [] st) ≡ (if a && b then with_peers (here (swapped st i word) i) (after st i left word words) else outcome [] st)
      by true true is all one step = ap (with_peers (here (swapped st i word) i)) (step (omega (arith, all, length-append (here (swapped st i word) i) (after st i left word words).answer)))
      by true false is all one step = refl
      by false b is all one step = refl

-- ---- of a sample

pub most_of : (st : State) (most percent : ℕ) (classes words : List ℕ) (now : ℕ) → most ≢ 0 → length (sample st most percent classes words now).answer ≤ most
most_of st most percent classes words now some = omega (arith, few classes now st 0 (sample_limit (length st.order) most percent) words, limit most percent (length st.order) some)
  where
    limit : (most percent count : ℕ) → most ≢ 0 → sample_limit count most percent ≤ most
    limit most percent count some = grind (arith, nat_tests, some)

pub part_of : (st : State) (most percent : ℕ) (classes words : List ℕ) (now : ℕ) → percent ≢ 0 → length (sample st most percent classes words now).answer * 100 ≤ percent * length st.order
part_of st most percent classes words now some = omega (arith, few classes now st 0 (sample_limit (length st.order) most percent) words, limit most percent (length st.order) some)
  where
    limit : (most percent count : ℕ) → percent ≢ 0 → sample_limit count most percent ≤ (percent * count) / 100
    limit most percent count some = grind (arith, nat_tests, some)

pub records_of : (st : State) (most percent : ℕ) (classes words : List ℕ) (now : ℕ) → AllByRecursion (IsAnnounced st classes now) (sample st most percent classes words now).answer
records_of st most percent classes words now = which classes now st 0 (sample_limit (length st.order) most percent) words

pub suffices : (st : State) (classes : List ℕ) (now i left : ℕ) (words more : List ℕ) → length (sample_from st classes now i left words).answer ≡ left
    → sample_from st classes now i left (words ++ more) ≡ sample_from st classes now i left words
suffices st classes now i left words more = suffice classes now st i left words more
