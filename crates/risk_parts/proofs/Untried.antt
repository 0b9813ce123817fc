-- The tables of a file know of no try, and without tries the parts stay the same.
use Rattle.std.proofs.Common.{◌≡◌, ℕ, ◌+◌, ◌*◌, ◌/◌, ◌^◌, ◌≤◌, min, Bool, true, false, cond, ◌&&◌, ◌==◌, ◌||◌, nat_lt, not, List, [], ◌∷◌, length, map, sum_by, Contains, is_some, Option, Some, None, refl, sym, ap, subst, ◌∙◌, ⊎_elim, arith, if◌then◌else◌}
use Rattle.std.specs.List.{range_with_len}
use Rattle.std.proofs.lemmas.Bool.{le-ltb}
use Rattle.std.proofs.lemmas.List.Elements.{All-contains, Contains-push_cases}
use Rattle.net_addr.specs.NetSet.{all}
use Rattle.net_addr.specs.Ranges.{is_valid}
use Rattle.net_addr.specs.declared.peer.Peer.{Peer}
use Rattle.peer_rec.specs.Rec.{buckets_of, chance}
use Rattle.peer_rec.specs.Snapshot.{Snapshot}
use Rattle.peer_rec.specs.declared.file_rec.FileRec.{FileRec}
use Rattle.peer_rec.specs.declared.place.Place.TheVariants.{New, Tried}
use Rattle.peer_rec.specs.declared.rec.Rec.{Rec}
use Rattle.placing.specs.Places.{Places, new_bucket, new_slot}
use Rattle.risk_laws.specs.Classes.{chances, kinds_of, starts_for}
use Rattle.risk_laws.proofs.Classed.{sum_filter}
use Rattle.risk_sum.specs.Kinds.{most_by, starts_of}
use Rattle.table_laws.proofs.Counts.{sum_agree}
use Rattle.table_laws.specs.Odds.{leading_starts}
use Rattle.table_machine.specs.Entries.{delete, give_bucket, with_last, with_record}
use Rattle.table_machine.specs.Picks.{first_factor, is_wanted, wanted_new, wanted_tried}
use Rattle.table_machine.specs.Restoring.{drop_all, drop_record, give_if_empty, give_or, place_all, place_pair, place_record, record_of, restored, uses_buckets, with_all_new, with_all_tried, with_new, with_records, with_tried}
use Rattle.table_machine.specs.State.{State, by_number, empty_state, new_rec_at, tried_occupant}
use Rattle.table_machine.proofs.Lists.{All-from_Contains, none_in_nil}
use Rattle.table_machine.proofs.Records.{changed_cases, number_found, without_number-cases}
use Rattle.risk_parts.specs.Parts.{HasNoTries, bound_in, parts_for, parts_from, share_for, wanted_in}

-- no record of the state was tried
abbrev pub NoTries : State → Type 0
NoTries st = (r : Rec) → Contains st.records r → r.last_try ≡ 0

-- ---- a step of restoring

changed : (st : State) (r : Rec) → NoTries st → r.last_try ≡ 0 → NoTries (with_record st r)
changed st r none own q c = ⊎_elim (λ is. subst (λ (t : Rec). t.last_try ≡ 0) is own) (λ h. none q h.0) (changed_cases r.number r st.records q c)

deleted : (st : State) (r : Rec) → NoTries st → NoTries (delete st r)
deleted st r none q c = none q (without_number-cases r.number st.records q c).0

last : (st : State) (r : Rec) → NoTries st → r.last_try ≡ 0 → NoTries (with_last st r)
last st r none own q c = ⊎_elim (none q) (λ is. subst (λ (t : Rec). t.last_try ≡ 0) is own) (Contains-push_cases st.records r q c)

all_new : (st : State) (rs : List FileRec) → NoTries st → NoTries (with_all_new st rs)
all_new st [] none = none
all_new st (r ∷ rs) none = all_new (with_new st r) rs (last st (record_of r st.next_number (New [])) none refl)

one_tried : (st : State) (r : FileRec) → NoTries st → NoTries (with_tried st r)
one_tried st r none = by (not (is_valid r.peer.addr) || is_some (tried_occupant st r.peer))
  where
    by : (b : Bool) → NoTries (if b then st else with_last st (record_of r st.next_number Tried))
    by true = none
    by false = last st (record_of r st.next_number Tried) none refl

all_tried : (st : State) (rs : List FileRec) → NoTries st → NoTries (with_all_tried st rs)
all_tried st [] none = none
all_tried st (r ∷ rs) none = all_tried (with_tried st r) rs (one_tried st r none)

given : (st : State) (r : Rec) (bucket : ℕ) (other : State) → NoTries st → r.last_try ≡ 0 → NoTries other → NoTries (give_if_empty st r bucket other)
given st r bucket other none own rest = by (new_rec_at st bucket (new_slot st.places r.peer bucket))
  where
    by : (o : Option Rec) → NoTries (give_or st r bucket o other)
    by None = changed st _ none own
    by (Some q) = rest

one_pair : (same : Bool) (st : State) (pair : ℕ × ℕ) → NoTries st → NoTries (place_pair same st pair)
one_pair same st pair none = by (by_number st pair.1) refl
  where
    place : (r : Rec) → r.last_try ≡ 0 → (stays s : Bool)
        → NoTries (if stays then st else (
        let by_source = give_if_empty st r (new_bucket st.places r.peer r.source) st in
        if s then give_if_empty st r pair.0 by_source else by_source))
    place r own true s = none
    place r own false true = given st r pair.0 _ none own (given st r (new_bucket st.places r.peer r.source) st none own none)
    place r own false false = given st r (new_bucket st.places r.peer r.source) st none own none

    by : (o : Option Rec) → by_number st pair.1 ≡ o → NoTries (place_record same st pair.0 o)
    by None is = none
    by (Some r) is = place r (none r (number_found st.records pair.1 r is).0) (not (is_valid r.peer.addr) || length (buckets_of r) == 8) same

all_pairs : (same : Bool) (st : State) (pairs : List (ℕ × ℕ)) → NoTries st → NoTries (place_all same st pairs)
all_pairs same st [] none = none
all_pairs same st (pair ∷ pairs) none = all_pairs same (place_pair same st pair) pairs (one_pair same st pair none)

dropped : (st : State) (numbers : List ℕ) → NoTries st → NoTries (drop_all st numbers)
dropped st [] none = none
dropped st (n ∷ ns) none = dropped (drop_record st (by_number st n)) ns (by (by_number st n))
  where
    drop : (r : Rec) (b : Bool) → NoTries (if b then delete st r else st)
    drop r true = deleted st r none
    drop r false = none

    by : (o : Option Rec) → NoTries (drop_record st o)
    by None = none
    by (Some r) = drop r (length (buckets_of r) == 0)

pub no_tries : (snap : Snapshot) (places : Places) → HasNoTries (restored snap places)
no_tries snap places =
    All-from_Contains (λ r. r.last_try ≡ 0) (restored snap places).records
    (dropped (place_all (uses_buckets snap places) (with_records snap places) snap.listed) (range_with_len 0 (length snap.new_recs))
    (all_pairs (uses_buckets snap places) (with_records snap places) snap.listed
    (all_tried (with_all_new (empty_state places) snap.new_recs) snap.tried_recs
    (all_new (empty_state places) snap.new_recs (λ r c. absurd (none_in_nil r c))))))

-- ---- later

full_chance : (r : Rec) (now : ℕ) → r.last_try ≡ 0 → 600 ≤ now → chance r now ≡ (2 ^ 30 * 66 ^ min r.attempts 8) / 100 ^ min r.attempts 8
full_chance r now none late =
    let tries = min r.attempts 8 in
    let parts = (2 ^ 30 * 66 ^ tries) / 100 ^ tries in
    let past : nat_lt now (r.last_try + 600) ≡ false = le-ltb now (r.last_try + 600) (omega (arith, none, late)) in
    λ i. if past i then parts / 100 else parts

module _ (st : State) (none : HasNoTries st) (now later : ℕ) (one : 600 ≤ now) (two : 600 ≤ later) where
  same_chance : (r : Rec) → Contains st.records r → chance r later ≡ chance r now
  same_chance r c =
      let own = All-contains (λ r. r.last_try ≡ 0) st.records r none c in
      full_chance r later own two ∙ sym (full_chance r now own one)

  same_starts : (in_new : Bool) (test : Rec → Bool) (c : ℕ) → starts_for st in_new all later test c ≡ starts_for st in_new all now test c
  same_starts in_new test c =
      sum_filter (leading_starts st in_new all) (λ r. test r && is_wanted all r && chance r later == c) st.records
      ∙ sum_agree (λ r. cond (test r && is_wanted all r && chance r later == c) (leading_starts st in_new all r) 0)
      (λ r. cond (test r && is_wanted all r && chance r now == c) (leading_starts st in_new all r) 0) st.records
      (All-from_Contains (λ r. cond (test r && is_wanted all r && chance r later == c) (leading_starts st in_new all r) 0
      ≡ cond (test r && is_wanted all r && chance r now == c) (leading_starts st in_new all r) 0) st.records
      (λ r has. ap (λ n. cond (test r && is_wanted all r && n == c) (leading_starts st in_new all r) 0) (same_chance r has)))
      ∙ sym (sum_filter (leading_starts st in_new all) (λ r. test r && is_wanted all r && chance r now == c) st.records)

  pub same_kinds : (in_new : Bool) (test : Rec → Bool) → kinds_of st in_new all later test ≡ kinds_of st in_new all now test
  same_kinds in_new test = λ i. map (λ c. record {
    chance = c;
    all = same_starts in_new (λ r. true) c i;
    theirs = same_starts in_new test c i;
  }) chances

  pub same_bound : (in_new : Bool) (theirs : Peer → Bool) → bound_in st in_new later theirs ≡ bound_in st in_new now theirs
  unfolding bound_in
  same_bound in_new theirs =
      λ i. most_by (same_kinds in_new (λ r. theirs r.peer) i) (starts_of (same_kinds in_new (λ r. theirs r.peer) i) * 2 ^ 30) (2 ^ 64) 48 first_factor

  pub same_parts : (theirs : Peer → Bool) → parts_for st later theirs ≡ parts_for st now theirs
  same_parts theirs =
      λ i. parts_from (if wanted_in st true == 0 then 0 else min (same_bound true theirs i) (2 ^ 64))
      (if wanted_in st false == 0 then 0 else min (same_bound false theirs i) (2 ^ 64)) (wanted_new st all == 0 || wanted_tried st all == 0)
