-- Without tries, rows and texts are the same at any time.
use Rattle.std.proofs.Common.{◌≡◌, ℕ, ◌+◌, ◌*◌, ◌/◌, ◌^◌, ◌≤◌, ◌&&◌, ◌==◌, ◌||◌, min, cond, Bool, true, false, nat_lt, List, map, sum_by, Contains, Option, Some, None, refl, sym, ap, subst, ◌∙◌, arith, if◌then◌else◌}
use Rattle.std.specs.List.{range_with_len}
use Rattle.std.specs.List.Sorted.{IsPermutation}
use Rattle.std.proofs.lemmas.Bool.{le-ltb}
use Rattle.std.proofs.lemmas.List.Elements.{All-contains}
use Rattle.net_addr.specs.NetSet.{all}
use Rattle.peer_rec.specs.Rec.{chance}
use Rattle.peer_rec.specs.declared.rec.Rec.{Rec}
use Rattle.risk_laws.specs.Classes.{chances}
use Rattle.risk_laws.proofs.Classed.{sum_filter}
use Rattle.risk_parts.specs.Parts.{HasNoTries, millionths}
use Rattle.risk_sum.specs.Kinds.{most_by, starts_of}
use Rattle.table_groups.specs.View.{View, occupant_at, view_of, wanted_new, wanted_tried}
use Rattle.table_laws.specs.Rounds.{holds}
use Rattle.table_machine.specs.Picks.{bucket_count, first_factor}
use Rattle.table_machine.specs.State.{State, is_new_at, is_tried_at}
use Rattle.table_machine.proofs.Lists.{find-Some}
use Rattle.table_risk.specs.Grouping.{is_in}
use Rattle.table_risk.specs.Occupants.{occupants_of, starts_at, starts_for}
use Rattle.table_risk.specs.Rows.{first_in, groups_by, has_none, row_by, rows_of, search, share_in}
use Rattle.table_risk.specs.Shares.{kinds_for, share_of}
use Rattle.table_risk.specs.Texts.{IsRiskText}
use Rattle.table_risk.specs.declared.by.By.{By}
use Rattle.table_risk.specs.declared.occupants.Occupant.{Occupant}
use Rattle.table_risk.specs.declared.rows.Row.{Row}
use Rattle.table_risk.proofs.Slots.{by_slots}

-- a record in a slot is one of the state
there : (st : State) (in_new : Bool) (bucket slot : ℕ) (r : Rec) → occupant_at (view_of st) in_new bucket slot ≡ Some r → Contains st.records r
there st true bucket slot r is = (find-Some (is_new_at st.places bucket slot) st.records r is).0
there st false bucket slot r is = (find-Some (is_tried_at st.places bucket slot) st.records r is).0

full_chance : (r : Rec) (now : ℕ) → r.last_try ≡ 0 → 600 ≤ now → chance r now ≡ (2 ^ 30 * 66 ^ min r.attempts 8) / 100 ^ min r.attempts 8
full_chance r now none late =
    let tries = min r.attempts 8 in
    let parts = (2 ^ 30 * 66 ^ tries) / 100 ^ tries in
    let past : nat_lt now (r.last_try + 600) ≡ false = le-ltb now (r.last_try + 600) (omega (arith, none, late)) in
    λ i. if past i then parts / 100 else parts

module _ (st : State) (none : HasNoTries st) (now later : ℕ) (one : 600 ≤ now) (two : 600 ≤ later) where
  abbrev view : View
  view = view_of st

  same_chance : (r : Rec) → Contains st.records r → chance r later ≡ chance r now
  same_chance r c =
      let own = All-contains (λ r. r.last_try ≡ 0) st.records r none c in
      full_chance r later own two ∙ sym (full_chance r now own one)

  module _ (in_new : Bool) (test : Rec → Bool) where
    same_test : (c : ℕ) (o : Option Rec) → ((r : Rec) → o ≡ Some r → Contains st.records r)
        → holds (λ r. test r && chance r later == c) o ≡ holds (λ r. test r && chance r now == c) o
    same_test c None has = refl
    same_test c (Some r) has = ap (λ n. test r && n == c) (same_chance r (has r refl))

    same_starts : (c : ℕ) → starts_for (occupants_of view in_new) test later c ≡ starts_for (occupants_of view in_new) test now c
    same_starts c =
        sum_filter (λ (o : Occupant). o.starts) (λ o. test o.rec && chance o.rec later == c) (occupants_of view in_new)
        ∙ by_slots view in_new (λ r. test r && chance r later == c)
        ∙ (λ i. sum_by (λ b. sum_by (λ s. cond (same_test c (occupant_at view in_new b s) (there st in_new b s) i) (starts_at view in_new b s) 0) (range_with_len 0 64)) (range_with_len 0 (bucket_count in_new)))
        ∙ sym (by_slots view in_new (λ r. test r && chance r now == c))
        ∙ sym (sum_filter (λ (o : Occupant). o.starts) (λ o. test o.rec && chance o.rec now == c) (occupants_of view in_new))

  same_kinds : (in_new : Bool) (test : Rec → Bool) → kinds_for (occupants_of view in_new) later test ≡ kinds_for (occupants_of view in_new) now test
  same_kinds in_new test = λ i. map (λ c. record {
    chance = c;
    all = same_starts in_new (λ r. true) c i;
    theirs = same_starts in_new test c i;
  }) chances

  module _ (by : By) where
    same_bound : (in_new : Bool) (g : List ℕ) → share_of view (search in_new by later) g ≡ share_of view (search in_new by now) g
    unfolding share_of
    same_bound in_new g =
        let kinds = same_kinds in_new (is_in by st.places g) in
        λ i. most_by (kinds i) (starts_of (kinds i) * 2 ^ 30) (2 ^ 64) 48 first_factor

    same_share : (in_new : Bool) (g : List ℕ) → share_in view (search in_new by later) g ≡ share_in view (search in_new by now) g
    same_share in_new g = λ i. if has_none view in_new then 0 else min (same_bound in_new g i) (2 ^ 64)

    same_row : (g : List ℕ) (first : ℕ) → row_by view by later g first ≡ row_by view by now g first
    same_row g first = λ i. record {
      group = record { items = g };
      first = first;
      picks = millionths (same_share true g i + same_share false g i) (if wanted_new view all == 0 || wanted_tried view all == 0 then 2 ^ 64 else 2 ^ 65);
      new = millionths (same_share true g i) (2 ^ 64);
      tried = millionths (same_share false g i) (2 ^ 64);
    }

    same_rows : rows_of view by later ≡ rows_of view by now
    unfolding rows_of
    same_rows = λ i. map (λ g. same_row g (first_in view by g) i) (groups_by view by)

    pub same_text : (text : List ℕ) → IsRiskText view by now text → IsRiskText view by later text
    same_text text is = record {
      rows = is.rows;
      all = subst (λ (rows : List Row). IsPermutation rows is.rows) (sym same_rows) is.all;
      order = is.order;
      is = is.is;
    }
