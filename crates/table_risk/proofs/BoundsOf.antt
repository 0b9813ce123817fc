-- The rows are bounds: the set of a group's peers has its parts.
use Rattle.std.proofs.Common.{◌≡◌, ℕ, ◌+◌, ◌*◌, ◌^◌, ◌≤◌, min, Bool, true, false, cond, ◌&&◌, ◌||◌, ◌==◌, List, [], ◌∷◌, length, map, refl, sym, ap, subst, ◌∙◌, arith, if◌then◌else◌}
use Rattle.std.proofs.lemmas.Bool.{false_from_ne_true}
use Rattle.std.proofs.lemmas.Bool.Decides.{Decides-eqb}
use Rattle.net_addr.specs.NetSet.{all}
use Rattle.net_addr.specs.declared.peer.Peer.{Peer}
use Rattle.peer_rec.specs.Rec.{chance}
use Rattle.peer_rec.specs.declared.rec.Rec.{Rec}
use Rattle.risk_laws.specs.Classes.{chances, kinds_of, starts_for}
use Rattle.risk_laws.specs.Lists.{searching_lists, selecting_lists}
use Rattle.risk_laws.proofs.Classed.{sum_filter}
use Rattle.risk_parts.specs.Parts.{bound_in, millionths, share_for, wanted_in}
use Rattle.risk_parts.proofs.BoundsOf as parts
use Rattle.risk_parts.proofs.BoundsOf.{kinds_there, not_none}
use Rattle.risk_sum.specs.Kinds.{most_by, starts_of}
use Rattle.table_laws.specs.Odds.{leading_starts}
use Rattle.table_laws.proofs.Counts.{sum_agree}
use Rattle.table_groups.specs.View.{View, view_of}
use Rattle.table_machine.specs.Picks.{first_factor, is_wanted, wanted_new, wanted_tried}
use Rattle.table_machine.specs.Sound.{IsSound}
use Rattle.table_machine.specs.State.{State}
use Rattle.table_machine.proofs.Lists.{All-from_Contains}
use Rattle.table_risk.specs.Grouping.{is_in}
use Rattle.table_risk.specs.Occupants.{occupants_of, starts_in}
use Rattle.table_risk.specs.Rows as rows
use Rattle.table_risk.specs.Rows.{AreOfGroup, has_none, search, share_in}
use Rattle.table_risk.specs.Shares.{group_kinds, share_of}
use Rattle.table_risk.specs.declared.by.By.{By}
use Rattle.table_risk.specs.declared.occupants.Occupant.{Occupant}
use Rattle.table_risk.proofs.KindsOf.{starts_are}
use Rattle.table_risk.proofs.OfStates as states

-- ---- a table without records

no_starts : (os : List Occupant) → (length os == 0) ≡ true → starts_in os ≡ 0
no_starts [] is = refl
no_starts (o ∷ os) is = let none : length (o ∷ os) ≡ 0 = (Decides-eqb (length (o ∷ os)) 0).0 is in absurd (omega (arith, none))

same_wanted : (st : State) (in_new : Bool) → wanted_in st in_new ≡ rows.wanted_in (view_of st) in_new
same_wanted st true = refl
same_wanted st false = refl

-- records of a table have slots
none_same : (st : State) → IsSound st → (in_new : Bool) (now : ℕ) → (wanted_in st in_new == 0) ≡ has_none (view_of st) in_new
none_same st sound in_new now =
    by (wanted_in st in_new == 0) refl ∙ (λ i. (same_wanted st in_new i == 0) || (length os == 0))
  where
    os : List Occupant
    os = occupants_of (view_of st) in_new

    test : Rec → Bool
    test r = true

    there : (wanted_in st in_new == 0) ≡ false → (length os == 0) ≡ false
    there some = false_from_ne_true (length os == 0) (λ empty.
        let kinds = (kinds_there st in_new now test sound (not_none (wanted_in st in_new) some)).some in
        let same = ap starts_of (states.kinds_same st sound in_new now test) in
        let all = starts_are os now test in
        let none = no_starts os empty in
        omega (arith, kinds, same, all, none))

    by : (b : Bool) → (wanted_in st in_new == 0) ≡ b → b ≡ (b || (length os == 0))
    by true is = refl
    by false is = sym (there is)

module _ (st : State) (by : By) (now : ℕ) (g : List ℕ) (theirs : Peer → Bool) (sound : IsSound st) (are : AreOfGroup st by g theirs) where
  abbrev view : View
  view = view_of st

  starts_same : (in_new : Bool) (c : ℕ) → starts_for st in_new all now (λ r. theirs r.peer) c ≡ starts_for st in_new all now (λ r. is_in by st.places g r) c
  starts_same in_new c =
      sum_filter (leading_starts st in_new all) (λ r. theirs r.peer && is_wanted all r && chance r now == c) st.records
      ∙ sum_agree (λ r. cond (theirs r.peer && is_wanted all r && chance r now == c) (leading_starts st in_new all r) 0)
      (λ r. cond (is_in by st.places g r && is_wanted all r && chance r now == c) (leading_starts st in_new all r) 0) st.records
      (All-from_Contains (λ r. cond (theirs r.peer && is_wanted all r && chance r now == c) (leading_starts st in_new all r) 0
      ≡ cond (is_in by st.places g r && is_wanted all r && chance r now == c) (leading_starts st in_new all r) 0) st.records
      (λ r has. ap (λ b. cond (b && is_wanted all r && chance r now == c) (leading_starts st in_new all r) 0) (are r has)))
      ∙ sym (sum_filter (leading_starts st in_new all) (λ r. is_in by st.places g r && is_wanted all r && chance r now == c) st.records)

  kinds_same : (in_new : Bool) → kinds_of st in_new all now (λ r. theirs r.peer) ≡ group_kinds view (search in_new by now) g
  kinds_same in_new = (λ i. map (λ c. record {
    chance = c;
    all = starts_for st in_new all now (λ r. true) c;
    theirs = starts_same in_new c i;
  }) chances)
      ∙ sym (states.kinds_same st sound in_new now (is_in by st.places g))

  bound_same : (in_new : Bool) → bound_in st in_new now theirs ≡ share_of view (search in_new by now) g
  unfolding bound_in share_of
  bound_same in_new = λ i. most_by (kinds_same in_new i) (starts_of (kinds_same in_new i) * 2 ^ 30) (2 ^ 64) 48 first_factor

  pub share_same : (in_new : Bool) → share_for st in_new now theirs ≡ share_in view (search in_new by now) g
  share_same in_new = λ i. if none_same st sound in_new now i then 0 else min (bound_same in_new i) (2 ^ 64)

  pub by_picks : (n : ℕ) → selecting_lists st false all now theirs n * 10 ^ 6
      ≤ (2 ^ 64) ^ n * millionths (share_in view (search true by now) g + share_in view (search false by now) g) (if wanted_new st all == 0 || wanted_tried st all == 0 then 2 ^ 64 else 2 ^ 65)
  by_picks n =
      subst (λ k. selecting_lists st false all now theirs n * 10 ^ 6 ≤ (2 ^ 64) ^ n * k)
      (λ i. millionths (share_same true i + share_same false i) (if wanted_new st all == 0 || wanted_tried st all == 0 then 2 ^ 64 else 2 ^ 65))
      (parts.by_picks st now theirs sound n)

  pub by_new : (n : ℕ) → selecting_lists st true all now theirs n * 10 ^ 6 ≤ (2 ^ 64) ^ n * millionths (share_in view (search true by now) g) (2 ^ 64)
  by_new n =
      subst (λ k. selecting_lists st true all now theirs n * 10 ^ 6 ≤ (2 ^ 64) ^ n * k) (λ i. millionths (share_same true i) (2 ^ 64)) (parts.by_new st now theirs sound n)

  pub by_tried : (n : ℕ) → searching_lists st false all now theirs first_factor n * 10 ^ 6 ≤ (2 ^ 64) ^ n * millionths (share_in view (search false by now) g) (2 ^ 64)
  by_tried n =
      subst (λ k. searching_lists st false all now theirs first_factor n * 10 ^ 6 ≤ (2 ^ 64) ^ n * k) (λ i. millionths (share_same false i) (2 ^ 64)) (parts.by_tried st now theirs sound n)
