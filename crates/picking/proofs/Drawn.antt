-- The peers and the state of a sample whose words are drawn one after another.
use Rattle.std.proofs.Common.{◌≡◌, ℕ, ◌+◌, ◌-◌, ◌%◌, ◌<◌, ◌≤◌, nat_lt, Bool, true, false, List, [], ◌∷◌, ◌++◌, length, refl, sym, ap, ◌∙◌, arith, append_assoc, append-nil, if◌then◌else◌}
use Rattle.std.specs.Prelude.{◌&&◌}
use Rattle.std.proofs.lemmas.Bool.{lt-ltb, le-ltb}
use Rattle.std.proofs.lemmas.List.{length-append}
use Rattle.net_addr.specs.declared.peer.Peer.{Peer}
use Rattle.table_machine.specs.State.{State, After, outcome}
use Rattle.table_machine.specs.Picks.{order_swap, sample_from, eligible_at, with_peers}

module _ (classes : List ℕ) (now limit : ℕ) where
  -- the peers already picked, and then those of the words that are left
  abbrev pub left : State → List Peer → ℕ → List ℕ → After (List Peer)
  left st peers i words = with_peers peers (sample_from st classes now i (limit - length peers) words)

  ended : (st : State) (peers : List Peer) (i : ℕ) (words : List ℕ) → (nat_lt i (length st.order) && nat_lt 0 (limit - length peers)) ≡ false
      → left st peers i words ≡ outcome peers st
  ended st peers i [] ends = ap (λ ps. outcome ps st) (append-nil peers)
  ended st peers i (word ∷ rest) ends =
      let next = order_swap st i (i + word % (length st.order - i)) in
      let here = eligible_at next classes now i in
      ap (λ b. with_peers peers (if b then with_peers here (sample_from next classes now (i + 1) ((limit - length peers) - length here) rest) else outcome [] st)) ends
      ∙ ap (λ ps. outcome ps st) (append-nil peers)

  no_more : (b : Bool) → (b && false) ≡ false
  no_more true = refl
  no_more false = refl

  pub left-none : (st : State) (peers : List Peer) (i : ℕ) (words : List ℕ) → words ≡ [] → left st peers i words ≡ outcome peers st
  left-none st peers i words none = ap (left st peers i) none ∙ ap (λ ps. outcome ps st) (append-nil peers)

  pub left-full : (st : State) (peers : List Peer) (i : ℕ) (words : List ℕ) → length peers ≡ limit → left st peers i words ≡ outcome peers st
  left-full st peers i words full =
      let none : limit - length peers ≡ 0 = omega arith in
      ended st peers i words (ap (λ k. nat_lt i (length st.order) && nat_lt 0 k) none ∙ no_more (nat_lt i (length st.order)))

  pub left-all : (st : State) (peers : List Peer) (i : ℕ) (words : List ℕ) → length st.order ≤ i → left st peers i words ≡ outcome peers st
  left-all st peers i words all =
      ended st peers i words (ap (λ b. b && nat_lt 0 (limit - length peers)) (le-ltb i (length st.order) all))

  joined : (peers more : List Peer) (rest : After (List Peer)) → with_peers peers (with_peers more rest) ≡ with_peers (peers ++ more) rest
  joined peers more rest = ap (λ ps. outcome ps rest.state) (sym (append_assoc peers more rest.answer))

  step : (st : State) (peers : List Peer) (i word : ℕ) (rest : List ℕ) → i < length st.order → length peers < limit
      → left st peers i (word ∷ rest) ≡ left (order_swap st i (i + word % (length st.order - i))) (peers ++ eligible_at (order_swap st i (i + word % (length st.order - i))) classes now i) (i + 1) rest
  step st peers i word rest first room =
      let next = order_swap st i (i + word % (length st.order - i)) in
      let here = eligible_at next classes now i in
      let some : 0 < limit - length peers = omega (arith, room) in
      let fewer : (limit - length peers) - length here ≡ limit - length (peers ++ here) = omega (arith, length-append peers here) in
      ap (λ b. with_peers peers (if b then with_peers here (sample_from next classes now (i + 1) ((limit - length peers) - length here) rest) else outcome [] st))
      (ap (λ b. b && nat_lt 0 (limit - length peers)) (lt-ltb i (length st.order) first) ∙ lt-ltb 0 (limit - length peers) some)
      ∙ joined peers here (sample_from next classes now (i + 1) ((limit - length peers) - length here) rest)
      ∙ ap (λ k. with_peers (peers ++ here) (sample_from next classes now (i + 1) k rest)) fewer

  -- a word moves one position on
  pub left-next : (st new : State) (peers here all : List Peer) (i word : ℕ) (words rest : List ℕ) → words ≡ word ∷ rest → i < length st.order → length peers < limit
      → new ≡ order_swap st i (i + word % (length st.order - i)) → here ≡ eligible_at new classes now i → all ≡ peers ++ here
      → left st peers i words ≡ left new all (i + 1) rest
  left-next st new peers here all i word words rest is first room after some more =
      ap (left st peers i) is
      ∙ step st peers i word rest first room
      ∙ ap (λ s. left s (peers ++ eligible_at s classes now i) (i + 1) rest) (sym after)
      ∙ ap (λ ps. left new ps (i + 1) rest) (ap (λ t. peers ++ t) (sym some) ∙ sym more)
