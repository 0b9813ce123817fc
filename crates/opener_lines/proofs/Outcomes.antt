-- Tries have one outcome.
use Rattle.std.proofs.Common.{◌≡◌, ◌≢◌, ◌⊎◌, ℕ, zero, suc, ◌+◌, ◌≤◌, List, inl, inr, refl, sym, ap, subst, ◌∙◌, arith}
use Rattle.std.proofs.lemmas.Bool.Decides.{leb_tells}
use Rattle.net_addr.specs.declared.peer.Peer.{Peer}
use Rattle.peer_rec.specs.declared.answers.Picked.{Picked}
use Rattle.peer_rec.specs.declared.answers.Picked.TheVariants as picked
use Rattle.manager.specs.Machine.{Machine}
use Rattle.peer_open.specs.Groups.{Outbound}
use Rattle.peer_open.specs.declared.opener.TheConstants.{MAX_TRIES}
use Rattle.peer_open.specs.declared.rules.OpenRules.{OpenRules}
use Rattle.opener_lines.specs.Tries.{Aim, HasOutcome, IsFirst, NoneBefore, pick_by, try_by, try_of_peer, try_of_pick, Try, Take, NoneLeft, Next}
use Rattle.opener_lines.specs.declared.tries.Outcome.{Outcome}
use Rattle.opener_lines.specs.declared.tries.Outcome.TheVariants as outcome

-- before the first try
pub none_before_one : (tries : ℕ → Try) → NoneBefore tries 1
none_before_one tries j least before = absurd (omega arith)

-- one more try that does not decide
pub none_before_next : (tries : ℕ → Try) (i : ℕ) → NoneBefore tries i → tries i ≡ Next → NoneBefore tries (i + 1)
none_before_next tries i before next j least within = elim (leb_tells i j) [
  | inl last ↦ let is : i ≡ j = omega (arith, last.1, within) in subst (λ k. tries k ≡ Next) is next
  | inr less ↦ before j least less.1
]

-- some tries are the first, or none decides
search_tries : (tries : ℕ → Try) (n : ℕ) → n ≤ MAX_TRIES → ((found : Outcome) × HasOutcome tries found) ⊎ NoneBefore tries (n + 1)
search_tries tries zero h = inr (λ j least before. absurd (omega arith))
search_tries tries (suc n) h = with (search_tries tries n (omega (arith, h))) (tries (suc n)) refl
  where
    with : ((found : Outcome) × HasOutcome tries found) ⊎ NoneBefore tries (n + 1) → (t : Try) → tries (suc n) ≡ t
        → ((found : Outcome) × HasOutcome tries found) ⊎ NoneBefore tries (suc n + 1)
    with (inl found) t is = inl found
    with (inr before) (Take peer) is = inl (outcome.Taken peer (suc n), record { least = omega arith; most = h; before = λ j least within. before j least (omega (arith, within)); comes = is })
    with (inr before) NoneLeft is = inl (outcome.Nothing, (suc n, record { least = omega arith; most = h; before = λ j least within. before j least (omega (arith, within)); comes = is }))
    with (inr before) Next is = inr (none_before_next tries (suc n) (λ j least within. before j least (omega (arith, within))) is)

-- the tries have an outcome
pub some_outcome : (tries : ℕ → Try) → (found : Outcome) × HasOutcome tries found
some_outcome tries = elim (search_tries tries MAX_TRIES (omega arith)) [
  | inl found ↦ found
  | inr before ↦ (outcome.GaveUp, λ j least within. before j least (omega (arith, within)))
]

-- two first tries are one
same_first : (tries : ℕ → Try) (i j : ℕ) (a b : Try) → a ≢ Next → b ≢ Next → IsFirst tries i a → IsFirst tries j b → (i ≡ j) × (a ≡ b)
same_first tries i j a b first second h k = elim (leb_tells i j) [
  | inr more ↦ absurd (second (sym k.comes ∙ h.before j k.least more.1))
  | inl most ↦ elim (leb_tells j i) [
    | inr less ↦ absurd (first (sym h.comes ∙ k.before i h.least less.1))
    | inl least ↦ let is : i ≡ j = omega (arith, most.1, least.1) in (is, sym h.comes ∙ ap tries is ∙ k.comes)
  ]
]

gave_up : (tries : ℕ → Try) (i : ℕ) (a : Try) → a ≢ Next → IsFirst tries i a → NoneBefore tries (suc MAX_TRIES) → ⊥
gave_up tries i a decides h none = decides (sym h.comes ∙ none i h.least (omega (arith, h.most)))

taken_peer : Peer → Try → Peer
taken_peer p (Take q) = q
taken_peer p NoneLeft = p
taken_peer p Next = p

takes : (peer : Peer) → Take peer ≢ Next
takes peer e = cc e

ends : NoneLeft ≢ Next
ends e = cc e

apart : (peer : Peer) → Take peer ≡ NoneLeft → ⊥
apart peer e = cc e

-- and only one
pub one_outcome : (tries : ℕ → Try) (a b : Outcome) → HasOutcome tries a → HasOutcome tries b → a ≡ b
unfolding taken_peer
one_outcome tries (outcome.Taken p i) (outcome.Taken q j) h k =
    let same = same_first tries i j (Take p) (Take q) (takes p) (takes q) h k in
    let peers = ap (taken_peer p) same.1 in
    λ n. outcome.Taken (peers n) (same.0 n)
one_outcome tries (outcome.Taken p i) outcome.Nothing h k = absurd (apart p (same_first tries i k.0 (Take p) NoneLeft (takes p) ends h k.1).1)
one_outcome tries (outcome.Taken p i) outcome.GaveUp h k = absurd (gave_up tries i (Take p) (takes p) h k)
one_outcome tries outcome.Nothing (outcome.Taken q j) h k = absurd (apart q (same_first tries j h.0 (Take q) NoneLeft (takes q) ends k h.1).1)
one_outcome tries outcome.Nothing outcome.Nothing h k = refl
one_outcome tries outcome.Nothing outcome.GaveUp h k = absurd (gave_up tries h.0 NoneLeft ends h.1 k)
one_outcome tries outcome.GaveUp (outcome.Taken q j) h k = absurd (gave_up tries j (Take q) (takes q) k h)
one_outcome tries outcome.GaveUp outcome.Nothing h k = absurd (gave_up tries k.0 NoneLeft ends k.1 h)
one_outcome tries outcome.GaveUp outcome.GaveUp h k = refl

-- ---- by the pick of a try

-- what comes of a pick
pub of_peer : (rules : OpenRules) (m : Machine) (open_peers : List Outbound) (goal : Aim) (seed i : ℕ) (p : Picked) (peer : Peer) (last_try : ℕ) (result : Try)
    → p ≡ pick_by m goal seed i → p ≡ picked.One peer last_try → try_of_peer rules m open_peers goal i peer last_try ≡ result → try_by rules m open_peers goal seed i ≡ result
of_peer rules m open_peers goal seed i p peer last_try result by is comes = ap (try_of_pick (try_of_peer rules m open_peers goal i)) (sym by ∙ is) ∙ comes

pub none_left : (rules : OpenRules) (m : Machine) (open_peers : List Outbound) (goal : Aim) (seed i : ℕ) (p : Picked) → p ≡ pick_by m goal seed i → p ≡ picked.Nothing
    → try_by rules m open_peers goal seed i ≡ NoneLeft
none_left rules m open_peers goal seed i p by is = ap (try_of_pick (try_of_peer rules m open_peers goal i)) (sym by ∙ is)

pub words_end : (rules : OpenRules) (m : Machine) (open_peers : List Outbound) (goal : Aim) (seed i : ℕ) (p : Picked) → p ≡ pick_by m goal seed i → p ≡ picked.Exhausted
    → try_by rules m open_peers goal seed i ≡ Next
words_end rules m open_peers goal seed i p by is = ap (try_of_pick (try_of_peer rules m open_peers goal i)) (sym by ∙ is)
