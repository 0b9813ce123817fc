-- Picks are bounded by the kinds of each table.
use Rattle.std.proofs.Common.{◌≡◌, ℕ, ◌+◌, ◌*◌, ◌^◌, ◌≤◌, ◌<◌, Bool, true, false, ◌||◌, ◌==◌, List, subst, arith}
use Rattle.net_addr.specs.declared.peer.Peer.{Peer}
use Rattle.table_machine.specs.Picks.{first_factor, wanted_new, wanted_tried}
use Rattle.table_machine.specs.Sound.{IsSound}
use Rattle.table_machine.specs.State.{State}
use Rattle.risk_sum.specs.Kinds.{starts_of}
use Rattle.risk_laws.specs.Classes.{bound_of, kinds_of}
use Rattle.risk_laws.specs.Lists.{selecting_lists}
use Rattle.risk_laws.proofs.ClassesOf.{by_bound, by_whole, kinds_new, kinds_tried}
use Rattle.risk_laws.proofs.ListsOf.{all_lists_are, by_either, by_new, by_tried}

some_rounds : (n : ℕ) → 0 < n → 0 < n * 2 ^ 30
some_rounds n some = omega (arith, some)

-- the rounds of a table that have a candidate
abbrev busy : State → Bool → List ℕ → ℕ → (Peer → Bool) → ℕ
busy st in_new nets now theirs = starts_of (kinds_of st in_new nets now (λ r. theirs r.peer)) * 2 ^ 30

pub either_bounded : (st : State) (nets : List ℕ) (now unit ahead n : ℕ) (theirs : Peer → Bool) → IsSound st → 0 < wanted_new st nets → 0 < wanted_tried st nets
    → selecting_lists st false nets now theirs n * (2 * unit) ≤ (2 ^ 64) ^ n * (bound_of st true nets now theirs unit ahead + bound_of st false nets now theirs unit ahead)
either_bounded st nets now unit ahead n theirs sound has also =
    subst (λ k. selecting_lists st false nets now theirs n * (2 * unit) ≤ k)
    (λ i. all_lists_are n i * (by_bound st true nets now (busy st true nets now theirs) unit ahead first_factor (λ r. theirs r.peer) sound i
    + by_bound st false nets now (busy st false nets now theirs) unit ahead first_factor (λ r. theirs r.peer) sound i))
    (by_either st nets now unit (busy st true nets now theirs) (busy st false nets now theirs) ahead n theirs sound
    (some_rounds _ (kinds_new st nets now (λ r. theirs r.peer) sound has).some) (some_rounds _ (kinds_tried st nets now (λ r. theirs r.peer) sound also).some)
    (by_whole st true nets now (λ r. theirs r.peer) sound) (by_whole st false nets now (λ r. theirs r.peer) sound) has also)

pub new_bounded : (st : State) (new_only : Bool) (nets : List ℕ) (now unit ahead n : ℕ) (theirs : Peer → Bool) → IsSound st → 0 < wanted_new st nets
    → (new_only || wanted_tried st nets == 0) ≡ true
    → selecting_lists st new_only nets now theirs n * unit ≤ (2 ^ 64) ^ n * bound_of st true nets now theirs unit ahead
new_bounded st new_only nets now unit ahead n theirs sound has only =
    subst (λ k. selecting_lists st new_only nets now theirs n * unit ≤ k)
    (λ i. all_lists_are n i * by_bound st true nets now (busy st true nets now theirs) unit ahead first_factor (λ r. theirs r.peer) sound i)
    (by_new st new_only nets now unit (busy st true nets now theirs) ahead n theirs sound
    (some_rounds _ (kinds_new st nets now (λ r. theirs r.peer) sound has).some) (by_whole st true nets now (λ r. theirs r.peer) sound) has only)

pub tried_bounded : (st : State) (nets : List ℕ) (now unit ahead n : ℕ) (theirs : Peer → Bool) → IsSound st → wanted_new st nets ≡ 0 → 0 < wanted_tried st nets
    → selecting_lists st false nets now theirs n * unit ≤ (2 ^ 64) ^ n * bound_of st false nets now theirs unit ahead
tried_bounded st nets now unit ahead n theirs sound none has =
    subst (λ k. selecting_lists st false nets now theirs n * unit ≤ k)
    (λ i. all_lists_are n i * by_bound st false nets now (busy st false nets now theirs) unit ahead first_factor (λ r. theirs r.peer) sound i)
    (by_tried st nets now unit (busy st false nets now theirs) ahead n theirs sound
    (some_rounds _ (kinds_tried st nets now (λ r. theirs r.peer) sound has).some) (by_whole st false nets now (λ r. theirs r.peer) sound) none has)
