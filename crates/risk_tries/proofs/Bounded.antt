-- The law, from the shares of groups.
use Rattle.std.proofs.Common.{◌≡◌, ℕ, ◌*◌, ◌^◌, ◌≤◌, ◌<◌, Bool, true, false, ◌||◌, List, [], ◌∷◌, map, sum, sum_by, refl, sym, ap, subst, ◌∙◌, ⊎_elim, if◌then◌else◌}
use Rattle.std.specs.Prelude.{bytes_eq, nat_lt, Contains}
use Rattle.std.proofs.Math.Nat.{mul-le-mul_right}
use Rattle.std.proofs.lemmas.Bool.Decides.{Decides-ltb}
use Rattle.std.proofs.lemmas.List.Sums.{sum-map}
use Rattle.std.proofs.lemmas.Slice.Eq.{bytes_eq-Decides}
use Rattle.net_addr.specs.NetSet.{all}
use Rattle.net_addr.specs.declared.peer.Peer.{Peer}
use Rattle.placing.specs.Places.{group}
use Rattle.risk_laws.proofs.ListsOf.{all_lists_are}
use Rattle.risk_parts.proofs.BoundsOf.{by_share}
use Rattle.risk_laws.specs.Lists.{selecting_lists, sum_words}
use Rattle.table_laws.specs.Searches.{one_if}
use Rattle.table_machine.specs.Sound.{IsSound}
use Rattle.table_machine.specs.State.{State}
use Rattle.table_machine.proofs.Lists.{Contains-cases, none_in_nil}
use Rattle.risk_tries.specs.TenBound.{group_share, part_from, whole_of}
use Rattle.risk_tries.specs.Tries.{AreGroupsOf, sum_tries, takes_theirs}
use Rattle.risk_tries.proofs.Known.{IsKnown}
use Rattle.risk_tries.proofs.Least.{has}
use Rattle.risk_tries.proofs.Sums.{all_tries}
use Rattle.risk_tries.proofs.TriesOf.{at_most, lists_low}

contained : (groups : List (List ℕ)) (g : List ℕ) → Contains groups g → has groups g ≡ true
contained [] g there = absurd (none_in_nil g there)
contained (h ∷ groups) g there =
    let later = contained groups g in
    ⊎_elim (λ (is : h ≡ g). λ i. (bytes_eq-Decides h g).1 is i || has groups g) (λ rest. by (bytes_eq h g) (later rest)) (Contains-cases h groups g there)
  where
    by : (b : Bool) → has groups g ≡ true → (b || has groups g) ≡ true
    by true is = refl
    by false is = is

all_tries_are : (n m : ℕ) → sum_tries (2 ^ 64) n m (λ tries. 1) ≡ ((2 ^ 64) ^ n) ^ m
all_tries_are n m = all_tries (2 ^ 64) n m ∙ ap (λ k. k ^ m) (all_lists_are n)

pub no_more_tries : (st : State) (now n m : ℕ) (theirs : Peer → Bool) (count : ℕ)
    → sum_tries (2 ^ 64) n m (λ tries. one_if (takes_theirs st now theirs count [] tries)) ≤ ((2 ^ 64) ^ n) ^ m
no_more_tries st now n m theirs count =
    subst (λ k. sum_tries (2 ^ 64) n m (λ tries. one_if (takes_theirs st now theirs count [] tries)) ≤ k) (all_tries_are n m) (lists_low st now theirs (2 ^ 64) n count [] m)

module _ (st : State) (now n m unit : ℕ) (theirs : Peer → Bool) (groups : List (List ℕ)) (sound : IsSound st) (are : AreGroupsOf st theirs groups) where
  covers : (peer : Peer) → IsKnown st all peer → theirs peer ≡ true → has groups (group st.places peer.addr) ≡ true
  covers peer known own =
      contained groups (group st.places peer.addr)
      (subst (λ (p : Peer). Contains groups (group st.places p.addr)) known.2 (are known.0 known.1 (subst (λ (p : Peer). theirs p ≡ true) (sym known.2) own)))

  abbrev shares : List ℕ
  shares = map (group_share st now) groups

  few : (g : List ℕ) → sum_words (2 ^ 64) n (λ ws. one_if (Rattle.risk_laws.specs.Lists.is_theirs (λ peer. bytes_eq g (group st.places peer.addr)) (Rattle.table_machine.specs.Picks.select st false all ws now))) * whole_of st
      ≤ sum_words (2 ^ 64) n (λ ws. 1) * group_share st now g
  few g =
      subst (λ k. selecting_lists st false all now (λ peer. bytes_eq g (group st.places peer.addr)) n * whole_of st ≤ k * group_share st now g) (sym (all_lists_are n))
      (by_share st now (λ peer. bytes_eq g (group st.places peer.addr)) sound n)

  pub by_tries : (count : ℕ) → sum_tries (2 ^ 64) n m (λ tries. one_if (takes_theirs st now theirs count [] tries)) * unit
      ≤ ((2 ^ 64) ^ n) ^ m * (if nat_lt (sum shares) (whole_of st) then part_from shares (sum shares) (whole_of st) 0 count unit else unit)
  by_tries count =
      subst (λ k. sum_tries (2 ^ 64) n m (λ tries. one_if (takes_theirs st now theirs count [] tries)) * unit
      ≤ k * (if nat_lt (sum shares) (whole_of st) then part_from shares (sum shares) (whole_of st) 0 count unit else unit)) (all_tries_are n m)
      (by (nat_lt (sum shares) (whole_of st)) refl)
    where
      total : sum shares ≡ sum_by (group_share st now) groups
      total = sum-map (group_share st now) groups

      by : (b : Bool) → nat_lt (sum shares) (whole_of st) ≡ b → sum_tries (2 ^ 64) n m (λ tries. one_if (takes_theirs st now theirs count [] tries)) * unit
          ≤ sum_tries (2 ^ 64) n m (λ tries. 1) * (if b then part_from shares (sum shares) (whole_of st) 0 count unit else unit)
      by true is =
          subst (λ k. sum_tries (2 ^ 64) n m (λ tries. one_if (takes_theirs st now theirs count [] tries)) * unit
          ≤ sum_tries (2 ^ 64) n m (λ tries. 1) * part_from shares k (whole_of st) 0 count unit) (sym total)
          (at_most st now theirs (2 ^ 64) n (group_share st now) (whole_of st) few groups (subst (λ k. k < whole_of st) total ((Decides-ltb (sum shares) (whole_of st)).0 is)) m count unit covers)
      by false is = mul-le-mul_right unit (lists_low st now theirs (2 ^ 64) n count [] m)
