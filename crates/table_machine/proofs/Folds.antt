-- The states after the decisions on all collisions, a pick among them, and a sample are sound, have
-- the same next number, and keep peers.
use Rattle.std.proofs.Common.{◌≡◌, ◌≢◌, ℕ, ◌+◌, ◌-◌, ◌%◌, ◌<◌, ◌^◌, ◌==◌, nat_lt, Bool, true, false, ◌&&◌, List, [], ◌∷◌, length, get_or, is_some, IsSome, IfSome, Option, Some, None, true≢false, refl, ap, inl, inr, ◌⊎◌, sym, subst, ◌∙◌, arith, if◌then◌else◌}
use Rattle.std.proofs.lemmas.Bool.{and_parts, eqb-false, ltb-true}
use Rattle.std.proofs.lemmas.Bool.Decides.{Decides-eqb}
use Rattle.std.proofs.lemmas.Nat.{mod_below}
use Rattle.net_addr.specs.declared.peer.Peer.{Peer}
use Rattle.peer_rec.specs.declared.rec.Rec.{Rec}
use Rattle.table_machine.specs.State.{State, by_number, tried_occupant, After, outcome}
use Rattle.table_machine.specs.Tried.{good}
use Rattle.table_machine.specs.Clashes.{after_fate, clash_pick, erase_clash, fate_of, pick_newcomer, pick_occupant, resolve, resolve_all}
use Rattle.peer_rec.specs.declared.answers.Fate.{Fate}
use Rattle.peer_rec.specs.declared.answers.Fate.TheVariants.{Erased, Kept, Moved}
use Rattle.table_machine.specs.Picks.{order_swap, sample, sample_from, sample_limit, eligible_at, with_peers}
use Rattle.table_machine.specs.Sound.{IsSound}
use Rattle.table_machine.proofs.Exchanged.{erase_clash-sound, order_swap-sound}
use Rattle.table_machine.proofs.Kept.{KeepsPeers, good-keeps_peers}
use Rattle.table_machine.proofs.Reached.{good-sound}
use Rattle.table_machine.proofs.Unchanged.{good-next}

-- the next number is the same, and peers are kept
abbrev pub KeepsNumbers : State → State → Type 0
KeepsNumbers old new = (new.next_number ≡ old.next_number) × KeepsPeers old new

keeps_numbers-itself : (st : State) → KeepsNumbers st st
keeps_numbers-itself st = (refl, λ q c low. (q, c, refl, refl))

keeps_numbers-chain : (old middle new : State) → KeepsNumbers old middle → KeepsNumbers middle new → KeepsNumbers old new
keeps_numbers-chain old middle new first second = (second.0 ∙ first.0, keeps)
  where
    keeps : KeepsPeers old new
    keeps q c low =
        let h = second.1 q c (subst (λ n. q.number < n) (sym first.0) low) in
        let g = first.1 h.0 h.1 (subst (λ n. n < old.next_number) (sym h.2) low) in
        (g.0, g.1, g.2 ∙ h.2, g.3 ∙ h.3)

-- A reflexive and transitive relation holds over all decisions if it holds when a collision is
-- dropped and over a success.
module _ (now : ℕ) (R : State → State → Type 0) (itself : (st : State) → R st st)
    (chain : (old middle new : State) → R old middle → R middle new → R old new)
    (erases : (st : State) (number : ℕ) → R st (erase_clash st number))
    (succeeds : (st : State) (peer : Peer) → R st (good st now peer false).state) where
  after_fate-along : (fate : Fate) (st : State) (o : Option Rec) (number : ℕ) → R st (after_fate fate st o number now)
  after_fate-along Erased st o number = erases st number
  after_fate-along Kept st o number = itself st
  after_fate-along Moved st None number = erases st number
  after_fate-along Moved st (Some r) number =
      let moved = (good st now r.peer false).state in
      chain st moved (erase_clash moved number) (succeeds st r.peer) (erases moved number)

  resolve_all-along : (st : State) (numbers : List ℕ) → R st (resolve_all st now numbers).state
  resolve_all-along st [] = itself st
  resolve_all-along st (number ∷ numbers) =
      let newcomer = by_number st number in
      let fate = fate_of st newcomer now in
      let next = after_fate fate st newcomer number now in
      chain st next (resolve_all next now numbers).state (after_fate-along fate st newcomer number) (resolve_all-along next numbers)

  resolve-along : (st : State) → R st (resolve st now).state
  resolve-along st = resolve_all-along st st.collisions

-- What holds of a state holds after all decisions, if it is kept when a collision is dropped and
-- over a success.
module _ (now : ℕ) (P : State → Type 0) (erases : (st : State) (number : ℕ) → P st → P (erase_clash st number))
    (succeeds : (st : State) (peer : Peer) → P st → P (good st now peer false).state) where
  pub resolve-keeps : (st : State) → P st → P (resolve st now).state
  resolve-keeps st =
      resolve-along now (λ old new. P old → P new) (λ s h. h) (λ old middle new first second h. second (first h)) erases succeeds st

pub resolve-sound : (st : State) (now : ℕ) → IsSound st → now < 2 ^ 32 → IsSound (resolve st now).state
resolve-sound st now sound low = resolve-keeps now IsSound erase_clash-sound (λ s peer is. good-sound s now peer false is low) st sound

pub resolve-keeps_numbers : (st : State) (now : ℕ) → KeepsNumbers st (resolve st now).state
resolve-keeps_numbers st now =
    resolve-along now KeepsNumbers keeps_numbers-itself keeps_numbers-chain
    (λ s number. keeps_numbers-itself s) (λ s peer. (good-next s now peer false, good-keeps_peers s now peer false)) st

pub resolve-next : (st : State) (now : ℕ) → (resolve st now).state.next_number ≡ st.next_number
resolve-next st now = (resolve-keeps_numbers st now).0

-- What holds of a state, and of it without any one collision, holds after a pick among the
-- collisions.
module _ (st : State) (P : State → Type 0) (same : P st) (erased : (number : ℕ) → P (erase_clash st number)) where
  pub clash_pick-keeps : (word : ℕ) → P (clash_pick st word).state
  clash_pick-keeps word = by (length st.collisions == 0) (by_number st number)
    where
      number : ℕ
      number = get_or st.collisions (word % length st.collisions) 0

      picked : (o : Option Rec) → P (pick_occupant st o).state
      picked None = same
      picked (Some occupant) = same

      by : (none : Bool) (o : Option Rec) → P (if none then record { answer = None; state = st } else pick_newcomer st number o).state
      by true o = same
      by false None = erased number
      by false (Some r) = picked (tried_occupant st r.peer)

pub clash_pick-sound : (st : State) (word : ℕ) → IsSound st → IsSound (clash_pick st word).state
clash_pick-sound st word sound = clash_pick-keeps st IsSound sound (λ number. erase_clash-sound st number sound) word

pub clash_pick-keeps_numbers : (st : State) (word : ℕ) → KeepsNumbers st (clash_pick st word).state
clash_pick-keeps_numbers st word = clash_pick-keeps st (KeepsNumbers st) (keeps_numbers-itself st) (λ number. keeps_numbers-itself st) word

-- In a sound state a pick finds no occupant only if there is no collision, or the record of the one
-- drawn was deleted.
pub clash_pick-None : (st : State) (word : ℕ) → IsSound st → (clash_pick st word).answer ≡ None
    → (length st.collisions ≡ 0) ⊎ (by_number st (get_or st.collisions (word % length st.collisions) 0) ≡ None)
clash_pick-None st word sound = by (length st.collisions == 0) (by_number st number) refl refl
  where
    number : ℕ
    number = get_or st.collisions (word % length st.collisions) 0

    occupied : (r : Rec) → by_number st number ≡ Some r → length st.collisions ≢ 0 → IsSome (tried_occupant st r.peer)
    occupied r found some =
        let below = mod_below word (length st.collisions) (omega arith) in
        subst (λ o. IfSome o (λ q. IsSome (tried_occupant st q.peer))) found (sound.occupants (word % length st.collisions) 0 below)

    picked : (o : Option Rec) → IsSome o → (pick_occupant st o).answer ≡ None → ⊥
    picked None some none = absurd (true≢false (sym some))
    picked (Some occupant) some none = absurd (true≢false (ap is_some none))

    by : (none : Bool) (o : Option Rec) → (length st.collisions == 0) ≡ none → by_number st number ≡ o
        → (if none then record { answer = None; state = st } else pick_newcomer st number o).answer ≡ None
        → (length st.collisions ≡ 0) ⊎ (by_number st number ≡ None)
    by true o empty found none = inl ((Decides-eqb (length st.collisions) 0).0 empty)
    by false None some found none = inr found
    by false (Some r) some found none = absurd (picked (tried_occupant st r.peer) (occupied r found (eqb-false _ _ some)) none)

-- A reflexive and transitive relation holds over a sample if it holds over an exchange in the
-- order.
module _ (classes : List ℕ) (now : ℕ) (R : State → State → Type 0) (itself : (st : State) → R st st)
    (chain : (old middle new : State) → R old middle → R middle new → R old new)
    (exchanges : (st : State) (i j : ℕ) → i < length st.order → j < length st.order → R st (order_swap st i j)) where
  sample_from-along : (st : State) (i left : ℕ) (words : List ℕ) → R st (sample_from st classes now i left words).state
  sample_from-along st i left [] = itself st
  sample_from-along st i left (word ∷ words) =
      by (nat_lt i (length st.order) && nat_lt 0 left) refl (sample_from-along next (i + 1) (left - length (eligible_at next classes now i)) words)
    where
      next : State
      next = order_swap st i (i + word % (length st.order - i))

      rest : After (List Peer)
      rest = sample_from next classes now (i + 1) (left - length (eligible_at next classes now i)) words

      by : (goes : Bool) → (nat_lt i (length st.order) && nat_lt 0 left) ≡ goes → R next rest.state
          → R st (if goes then with_peers (eligible_at next classes now i) rest else outcome [] st).state
      by true h more =
          let first : i < length st.order = ltb-true i (length st.order) (and_parts (nat_lt i (length st.order)) (nat_lt 0 left) h).0 in
          let draw = mod_below word (length st.order - i) (omega arith) in
          chain st next rest.state (exchanges st i (i + word % (length st.order - i)) first (omega arith)) more
      by false h more = itself st

-- What holds of a state holds after a sample, if it is kept over an exchange in the order.
module _ (classes : List ℕ) (now : ℕ) (P : State → Type 0) (exchanges : (st : State) (i j : ℕ) → P st → P (order_swap st i j)) where
  pub sample-keeps : (st : State) (max percent : ℕ) (words : List ℕ) → P st → P (sample st max percent classes words now).state
  sample-keeps st max percent words =
      sample_from-along classes now (λ old new. P old → P new) (λ s h. h) (λ old middle new first second h. second (first h))
      (λ s i j first second. exchanges s i j) st 0 (sample_limit (length st.order) max percent) words

pub sample-sound : (st : State) (most percent : ℕ) (classes : List ℕ) (words : List ℕ) (now : ℕ) → IsSound st → IsSound (sample st most percent classes words now).state
sample-sound st most percent classes words now =
    sample_from-along classes now (λ old new. IsSound old → IsSound new) (λ s is. is) (λ old middle new first second is. second (first is))
    (λ s i j first second is. order_swap-sound s i j is first second) st 0 (sample_limit (length st.order) most percent) words

pub sample-keeps_numbers : (st : State) (most percent : ℕ) (classes : List ℕ) (words : List ℕ) (now : ℕ) → KeepsNumbers st (sample st most percent classes words now).state
sample-keeps_numbers st most percent classes words now =
    sample_from-along classes now KeepsNumbers keeps_numbers-itself keeps_numbers-chain
    (λ s i j first second. keeps_numbers-itself s) st 0 (sample_limit (length st.order) most percent) words

pub sample-next : (st : State) (most percent : ℕ) (classes : List ℕ) (words : List ℕ) (now : ℕ) → (sample st most percent classes words now).state.next_number ≡ st.next_number
sample-next st most percent classes words now = (sample-keeps_numbers st most percent classes words now).0
