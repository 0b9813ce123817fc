-- A sample is the first eligible ones of the order as the words arrange it.
use Rattle.std.proofs.Common.{◌≡◌, ◌≢◌, ℕ, zero, suc, ◌+◌, ◌-◌, ◌%◌, ◌<◌, ◌≤◌, Bool, true, false, ◌&&◌, nat_lt, List, [], ◌∷◌, ◌++◌, length, get_or, set, take, drop, map, filter, swap, slice_get, Option, Some, None, option_to_list, refl, sym, ap, subst, ◌∙◌, ⊎_elim, arith, if◌then◌else◌}
use Rattle.std.proofs.lemmas.Bool.{cases_lt, lt-ltb, le-ltb}
use Rattle.std.proofs.lemmas.List.{drop_all, drop_more, get_or-set_other, length-set}
use Rattle.net_addr.specs.declared.peer.Peer.{Peer}
use Rattle.peer_rec.specs.declared.rec.Rec.{Rec}
use Rattle.table_machine.specs.Picks.{eligible_at, is_eligible, order_swap, sample, sample_from, sample_limit, with_peers}
use Rattle.table_machine.specs.State.{State, by_number, outcome}
use Rattle.table_laws.specs.Samples.{eligible_peers, peers_of}
use Rattle.table_laws.specs.Shuffle.{exchanged}

long-swap : (xs : List ℕ) (a b : ℕ) → length (swap xs a b) ≡ length xs
long-swap [] a b = refl
long-swap (x ∷ xs) a b = length-set (set (x ∷ xs) a (get_or (x ∷ xs) b x)) b (get_or (x ∷ xs) a x) ∙ length-set (x ∷ xs) a (get_or (x ∷ xs) b x)

get-swap : (xs : List ℕ) (a b k c : ℕ) → k ≢ a → k ≢ b → get_or (swap xs a b) k c ≡ get_or xs k c
get-swap [] a b k c first second = refl
get-swap (x ∷ xs) a b k c first second =
    get_or-set_other (set (x ∷ xs) a (get_or (x ∷ xs) b x)) b k (get_or (x ∷ xs) a x) c second
    ∙ get_or-set_other (x ∷ xs) a k (get_or (x ∷ xs) b x) c first

long-exchanged : (words order : List ℕ) (i : ℕ) → length (exchanged order i words) ≡ length order
long-exchanged [] order i = refl
long-exchanged (word ∷ words) order i = by (nat_lt i (length order)) (long-exchanged words (swap order i (i + word % (length order - i))) (i + 1) ∙ long-swap order i (i + word % (length order - i)))
  where
    by : (b : Bool) → length (exchanged (swap order i (i + word % (length order - i))) (i + 1) words) ≡ length order
        → length (if b then exchanged (swap order i (i + word % (length order - i))) (i + 1) words else order) ≡ length order
    by true more = more
    by false more = refl

-- later exchanges leave earlier positions
get-exchanged : (words order : List ℕ) (i k c : ℕ) → k < i → get_or (exchanged order i words) k c ≡ get_or order k c
get-exchanged [] order i k c less = refl
get-exchanged (word ∷ words) order i k c less =
    by (nat_lt i (length order)) (get-exchanged words (swap order i (i + word % (length order - i))) (i + 1) k c (omega (arith, less))
    ∙ get-swap order i (i + word % (length order - i)) k c (λ is. omega (arith, is, less)) (λ is. omega (arith, is, less)))
  where
    by : (b : Bool) → get_or (exchanged (swap order i (i + word % (length order - i))) (i + 1) words) k c ≡ get_or order k c
        → get_or (if b then exchanged (swap order i (i + word % (length order - i))) (i + 1) words else order) k c ≡ get_or order k c
    by true more = more
    by false more = refl

take-append : (front rest : List Peer) (n : ℕ) → length front ≤ n → take n (front ++ rest) ≡ front ++ take (n - length front) rest
take-append [] rest n le = let same : n ≡ n - 0 = omega arith in ap (λ k. take k rest) same
take-append (x ∷ front) rest zero le = absurd (omega (arith, le))
take-append (x ∷ front) rest (suc n) le =
    let less : n - length front ≡ suc n - suc (length front) = omega arith in
    ap (λ l. x ∷ l) (take-append front rest n (omega (arith, le)) ∙ ap (λ k. front ++ take k rest) less)

take-nothing : (n : ℕ) → ◌≡◌ {A = List Peer} [] (take n [])
take-nothing zero = refl
take-nothing (suc n) = refl

slice_is : (xs : List ℕ) (i c : ℕ) → i < length xs → slice_get xs i ≡ Some (get_or xs i c)
slice_is [] i c within = absurd (omega (arith, within))
slice_is (x ∷ xs) zero c within = refl
slice_is (x ∷ xs) (suc i) c within = slice_is xs i c (omega (arith, within))

module _ (classes : List ℕ) (now : ℕ) where
  few : (o : Option Rec) → length (map (λ (r : Rec). r.peer) (filter (is_eligible classes now) (option_to_list o))) ≤ 1
  few None = omega arith
  few (Some r) = by (is_eligible classes now r)
    where
      by : (b : Bool) → length (map (λ (x : Rec). x.peer) (if b then r ∷ [] else [])) ≤ 1
      by true = omega arith
      by false = omega arith

  sampled : (words : List ℕ) (st : State) (i left : ℕ) → length st.order ≤ i + length words
      → (sample_from st classes now i left words).answer ≡ take left (eligible_peers st classes now (drop i (exchanged st.order i words)))
  sampled [] st i left enough =
      let none : drop i st.order ≡ [] = drop_all i st.order (omega (arith, enough)) in
      take-nothing left ∙ ap (λ ns. take left (eligible_peers st classes now ns)) (sym none)
  sampled (word ∷ words) st i left enough =
      let long_next = long-swap st.order i (i + word % (length st.order - i)) in
      ⊎_elim (going (λ n. sampled words (order_swap st i (i + word % (length st.order - i))) (i + 1) n (omega (arith, enough, long_next)))) done (cases_lt i (length st.order))
    where
      next : State
      next = order_swap st i (i + word % (length st.order - i))

      moved : List ℕ
      moved = swap st.order i (i + word % (length st.order - i))

      later : List ℕ
      later = exchanged moved (i + 1) words

      peers : List Peer
      peers = eligible_at next classes now i

      done : length st.order ≤ i → (sample_from st classes now i left (word ∷ words)).answer ≡ take left (eligible_peers st classes now (drop i (exchanged st.order i (word ∷ words))))
      done ends =
          let no_more = le-ltb i (length st.order) ends in
          let none : drop i st.order ≡ [] = drop_all i st.order ends in
          ap (λ b. (if b && nat_lt 0 left then with_peers peers (sample_from next classes now (i + 1) (left - length peers) words) else outcome [] st).answer) no_more
          ∙ take-nothing left
          ∙ ap (λ ns. take left (eligible_peers st classes now ns)) (sym none)
          ∙ ap (λ b. take left (eligible_peers st classes now (drop i (if b then later else st.order)))) (sym no_more)

      going : ((n : ℕ) → (sample_from next classes now (i + 1) n words).answer ≡ take n (eligible_peers st classes now (drop (i + 1) later))) → i < length st.order → (sample_from st classes now i left (word ∷ words)).answer ≡ take left (eligible_peers st classes now (drop i (exchanged st.order i (word ∷ words))))
      going rest within =
          ap (λ b. (if b && nat_lt 0 left then with_peers peers (sample_from next classes now (i + 1) (left - length peers) words) else outcome [] st).answer) (lt-ltb i (length st.order) within)
          ∙ by left
          ∙ ap (λ b. take left (eligible_peers st classes now (drop i (if b then later else st.order)))) (sym (lt-ltb i (length st.order) within))
        where
          long : length later ≡ length st.order
          long = long-exchanged words moved (i + 1) ∙ long-swap st.order i (i + word % (length st.order - i))

          long_moved : length moved ≡ length st.order
          long_moved = long-swap st.order i (i + word % (length st.order - i))

          here : peers ≡ peers_of st classes now (get_or later i 0)
          here =
              ap (λ o. map (λ (r : Rec). r.peer) (filter (is_eligible classes now) (option_to_list (and_then o)))) (slice_is moved i 0 (omega (arith, within, long_moved)))
              ∙ ap (peers_of st classes now) (sym (get-exchanged words moved (i + 1) i 0 (omega arith)))
            where
              and_then : Option ℕ → Option Rec
              and_then None = None
              and_then (Some n) = by_number st n

          cut : drop i later ≡ get_or later i 0 ∷ drop (i + 1) later
          cut = drop_more later i 0 (omega (arith, within, long))

          all : eligible_peers st classes now (drop i later) ≡ peers ++ eligible_peers st classes now (drop (i + 1) later)
          all = ap (eligible_peers st classes now) cut ∙ ap (λ ps. ps ++ eligible_peers st classes now (drop (i + 1) later)) (sym here)

          at_most : length peers ≤ 1
          at_most = subst (λ ps. length ps ≤ 1) (sym here) (few (by_number st (get_or later i 0)))

          by : (n : ℕ) → (if nat_lt 0 n then with_peers peers (sample_from next classes now (i + 1) (n - length peers) words) else outcome [] st).answer ≡ take n (eligible_peers st classes now (drop i later))
          by zero = refl
          by (suc n) =
              ap (λ b. (if b then with_peers peers (sample_from next classes now (i + 1) (suc n - length peers) words) else outcome [] st).answer) (lt-ltb 0 (suc n) (omega arith))
              ∙ ap (λ ps. peers ++ ps) (rest (suc n - length peers))
              ∙ sym (take-append peers (eligible_peers st classes now (drop (i + 1) later)) (suc n) (omega (arith, at_most)))
              ∙ ap (take (suc n)) (sym all)

  pub sample-is : (st : State) (most percent : ℕ) (words : List ℕ) → length st.order ≤ length words
      → (sample st most percent classes words now).answer ≡ take (sample_limit (length st.order) most percent) (eligible_peers st classes now (exchanged st.order 0 words))
  sample-is st most percent words enough = sampled words st 0 (sample_limit (length st.order) most percent) (omega (arith, enough))
