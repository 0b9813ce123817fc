-- The peers and the state of a sample after some of its words.
use Rattle.std.proofs.Common.{◌≡◌, ℕ, suc, ◌+◌, ◌-◌, ◌%◌, ◌<◌, ◌≤◌, nat_lt, ◌&&◌, Bool, true, false, List, [], ◌∷◌, ◌++◌, length, get_or, drop, refl, sym, ap, ◌∙◌, arith, append_assoc, append-nil, if◌then◌else◌}
use Rattle.std.proofs.lemmas.Bool.{lt-ltb, le-ltb}
use Rattle.std.proofs.lemmas.List.{length-append}
use Rattle.std.proofs.Math.Seq.{drop-cons}
use Rattle.net_addr.specs.declared.peer.Peer.{Peer}
use Rattle.table_machine.specs.State.{State, After, outcome}
use Rattle.table_machine.specs.Picks.{order_swap, sample_from, eligible_at, with_peers}

-- peers before those of a sample
joined : (peers more : List Peer) (rest : After (List Peer)) → with_peers peers (with_peers more rest) ≡ with_peers (peers ++ more) rest
joined peers more rest = ap (λ ps. outcome ps rest.state) (sym (append_assoc peers more rest.answer))

module _ (classes : List ℕ) (now limit : ℕ) (words : List ℕ) where
  -- the peers already picked, and then those of the words from a position on
  abbrev pub sofar : State → List Peer → ℕ → After (List Peer)
  sofar st peers i = with_peers peers (sample_from st classes now i (limit - length peers) (drop i words))

  abbrev pub next : State → ℕ → ℕ → State
  next st i word = order_swap st i (i + word % (length st.order - i))

  step : (st : State) (i left word : ℕ) (rest : List ℕ) → i < length st.order → 0 < left
      → sample_from st classes now i left (word ∷ rest)
      ≡ with_peers (eligible_at (next st i word) classes now i) (sample_from (next st i word) classes now (i + 1) (left - length (eligible_at (next st i word) classes now i)) rest)
  step st i left word rest first some =
      ap (λ b. if b then with_peers (eligible_at (next st i word) classes now i) (sample_from (next st i word) classes now (i + 1) (left - length (eligible_at (next st i word) classes now i)) rest) else outcome [] st)
      (ap (λ b. b && nat_lt 0 left) (lt-ltb i (length st.order) first) ∙ lt-ltb 0 left some)

  ended : (st : State) (i left : ℕ) (rest : List ℕ) → (nat_lt i (length st.order) && nat_lt 0 left) ≡ false
      → sample_from st classes now i left rest ≡ outcome [] st
  ended st i left [] ends = refl
  ended st i left (word ∷ rest) ends =
      ap (λ b. if b then with_peers (eligible_at (next st i word) classes now i) (sample_from (next st i word) classes now (i + 1) (left - length (eligible_at (next st i word) classes now i)) rest) else outcome [] st) ends

  word-sofar : (st : State) (peers : List Peer) (i : ℕ) → i < length st.order → i < length words → length peers < limit
      → sofar st peers i ≡ sofar (next st i (get_or words i 0)) (peers ++ eligible_at (next st i (get_or words i 0)) classes now i) (i + 1)
  word-sofar st peers i first enough room =
      let word = get_or words i 0 in
      let here = eligible_at (next st i word) classes now i in
      let one : suc i ≡ i + 1 = omega arith in
      let cut : drop i words ≡ word ∷ drop (i + 1) words = drop-cons words i 0 enough ∙ ap (λ k. word ∷ drop k words) one in
      let left : (limit - length peers) - length here ≡ limit - length (peers ++ here) = omega (arith, length-append peers here) in
      ap (λ ws. with_peers peers (sample_from st classes now i (limit - length peers) ws)) cut
      ∙ ap (with_peers peers) (step st i (limit - length peers) word (drop (i + 1) words) first (omega arith))
      ∙ joined peers here (sample_from (next st i word) classes now (i + 1) ((limit - length peers) - length here) (drop (i + 1) words))
      ∙ ap (λ k. with_peers (peers ++ here) (sample_from (next st i word) classes now (i + 1) k (drop (i + 1) words))) left

  -- a word moves one position on
  pub sofar-next : (st new : State) (peers here all : List Peer) (i word : ℕ) → i < length st.order → i < length words → length peers < limit
      → word ≡ get_or words i 0 → new ≡ next st i word → here ≡ eligible_at new classes now i → all ≡ peers ++ here
      → sofar st peers i ≡ sofar new all (i + 1)
  sofar-next st new peers here all i word first enough room is after some more =
      let same : next st i (get_or words i 0) ≡ new = ap (next st i) (sym is) ∙ sym after in
      word-sofar st peers i first enough room
      ∙ ap (λ s. sofar s (peers ++ eligible_at s classes now i) (i + 1)) same
      ∙ ap (λ ps. sofar new ps (i + 1)) (ap (λ t. peers ++ t) (sym some) ∙ sym more)

  done : (st : State) (peers : List Peer) (i : ℕ) → (nat_lt i (length st.order) && nat_lt 0 (limit - length peers)) ≡ false
      → sofar st peers i ≡ outcome peers st
  done st peers i ends =
      ap (with_peers peers) (ended st i (limit - length peers) (drop i words) ends)
      ∙ ap (λ ps. outcome ps st) (append-nil peers)

  no_more : (b : Bool) → (b && false) ≡ false
  no_more true = refl
  no_more false = refl

  -- there are as many as the limit
  pub sofar-full : (st : State) (peers : List Peer) (i : ℕ) → length peers ≡ limit → sofar st peers i ≡ outcome peers st
  sofar-full st peers i full =
      let none : limit - length peers ≡ 0 = omega arith in
      done st peers i (ap (λ k. nat_lt i (length st.order) && nat_lt 0 k) none ∙ no_more (nat_lt i (length st.order)))

  -- no position is left
  pub sofar-all : (st : State) (peers : List Peer) (i : ℕ) → length st.order ≤ i → sofar st peers i ≡ outcome peers st
  sofar-all st peers i all =
      done st peers i (ap (λ b. b && nat_lt 0 (limit - length peers)) (le-ltb i (length st.order) all))
