-- The records in the slots of the tables, each with its starts, are those of the state, each with its own.
use Rattle.std.proofs.Common.{◌≡◌, ℕ, ◌+◌, ◌*◌, ◌/◌, ◌%◌, ◌^◌, ◌≤◌, ◌<◌, min, Bool, true, false, cond, not, ◌&&◌, ◌==◌, nat_le, nat_lt, List, length, map, Contains, count_by, sum_by, is_some, Option, refl, sym, ap, ◌∙◌, arith, if◌then◌else◌}
use Rattle.std.specs.List.{range_with_len}
use Rattle.std.proofs.Math.Nat.{min-le_right}
use Rattle.std.proofs.lemmas.Bool.{leb-true, lt-ltb}
use Rattle.std.proofs.lemmas.Bool.Decides.{Decides-eqb}
use Rattle.std.proofs.lemmas.List.Elements.{All-contains}
use Rattle.std.proofs.lemmas.List.FromFn.{length-range_with_len}
use Rattle.std.proofs.lemmas.List.Sums.{AllPass-from_list_all}
use Rattle.net_addr.specs.NetBits.{each_below}
use Rattle.net_addr.specs.NetSet.{all}
use Rattle.peer_rec.specs.Rec.{chance}
use Rattle.peer_rec.specs.declared.rec.Rec.{Rec}
use Rattle.risk_laws.specs.Classes.{chance_after, chances, kind_of, kinds_of, starts_for}
use Rattle.risk_laws.proofs.Classed.{class_sums, sum_filter, sum_map}
use Rattle.risk_laws.proofs.ClassesOf.{by_taken}
use Rattle.risk_sum.specs.Kinds.{accepting}
use Rattle.risk_sum.specs.declared.kinds.Kind.{Kind}
use Rattle.table_groups.specs.View.{view_of, occupant_at}
use Rattle.table_laws.specs.Chances.{picks, words_for}
use Rattle.table_laws.specs.Odds.{leading_starts}
use Rattle.table_laws.specs.Rounds.{gap, holds}
use Rattle.table_laws.proofs.Counts.{count_none, count_not, sum_agree}
use Rattle.table_laws.proofs.Draws.{count_pairs, sum_times}
use Rattle.table_machine.specs.Picks.{bucket_count, first_candidate, is_accepted, is_wanted}
use Rattle.table_machine.specs.Picks as picks
use Rattle.table_machine.specs.Sound.{IsSound}
use Rattle.table_machine.specs.State.{State}
use Rattle.table_machine.proofs.Lists.{All-from_Contains}
use Rattle.table_risk.specs.Occupants as occupants
use Rattle.table_risk.specs.Occupants.{occupants_of, starts_at, starts_in}
use Rattle.table_risk.specs.Shares.{kinds_for}
use Rattle.table_risk.specs.declared.occupants.Occupant.{Occupant}
use Rattle.table_risk.proofs.KindsOf.{once}
use Rattle.table_risk.proofs.MaskGaps.{wanted_all}
use Rattle.table_risk.proofs.Slots.{by_slots, by_starts}

-- with the largest factor each word accepts each record
some_chance : (now : ℕ) (r : Rec) → 1 ≤ chance r now
some_chance now r = by (nat_lt now (r.last_try + 600)) (min r.attempts 8) (few_tries r.attempts)
  where
    few_tries : (attempts : ℕ) → min attempts 8 < 9
    few_tries attempts = let low : min attempts 8 ≤ 8 = min-le_right attempts 8 in omega (arith, low)

    by : (late : Bool) (tries : ℕ) → tries < 9 → 1 ≤ (if late then chance_after tries / 100 else chance_after tries)
    by true tries low = leb-true 1 (chance_after tries / 100) (each_below (λ t. nat_le 1 (chance_after t / 100)) 9 refl tries low)
    by false tries low = leb-true 1 (chance_after tries) (each_below (λ t. nat_le 1 (chance_after t)) 9 refl tries low)

accepts : (now : ℕ) (r : Rec) (word : ℕ) → is_accepted r now (2 ^ 60) word ≡ true
accepts now r word = lt-ltb ((word % 2 ^ 30) * 2 ^ 30) (chance r now * 2 ^ 60) (below (chance r now) word (some_chance now r))
  where
    below : (c w : ℕ) → 1 ≤ c → (w % 2 ^ 30) * 2 ^ 30 < c * 2 ^ 60
    below c w some = omega (arith, some)

count_every : (p : ℕ → Bool) (xs : List ℕ) → ((x : ℕ) → p x ≡ true) → count_by p xs ≡ length xs
count_every p xs every =
    let none : count_by (λ x. not (p x)) xs ≡ 0 = (λ i. count_by (λ x. not (every x i)) xs) ∙ count_none xs in
    let whole = count_not p xs in
    omega (arith, none, whole)

full_each : (c : ℕ) → Contains chances c → accepting c (2 ^ 60) ≡ 2 ^ 30
full_each c has =
    (Decides-eqb (accepting c (2 ^ 60)) (2 ^ 30)).0
    (All-contains (λ k. (accepting k (2 ^ 60) == 2 ^ 30) ≡ true) chances c (AllPass-from_list_all (λ k. accepting k (2 ^ 60) == 2 ^ 30) chances refl) has)

module _ (st : State) (in_new : Bool) (now : ℕ) where
  -- the words that select a record that passes, by the starts of the buckets
  module _ (test : Rec → Bool) where
    abbrev at : ℕ → ℕ → Option Rec
    at bucket = picks.occupant_at st in_new bucket

    abbrev to_bucket : ℕ → ℕ
    to_bucket bucket = sum_by (λ s. cond (holds test (at bucket s)) (gap (λ t. is_some (at bucket t)) 64 s) 0) (range_with_len 0 64)

    one_bucket : (words : List ℕ) (bucket : ℕ)
        → sum_by (λ start. count_by (picks st in_new all now (2 ^ 60) test bucket start) words) (range_with_len 0 64) ≡ to_bucket bucket * length words
    one_bucket words bucket =
        count_pairs test (λ q word. is_accepted q now (2 ^ 60) word) (first_candidate st in_new all bucket) (length words) words
        (λ start q is passes. count_every (λ word. is_accepted q now (2 ^ 60) word) words (accepts now q)) (range_with_len 0 64)
        ∙ ap (λ n. n * length words) (by_starts (at bucket) test (is_wanted all) wanted_all)

    over_buckets : (words buckets : List ℕ)
        → sum_by (λ bucket. sum_by (λ start. count_by (picks st in_new all now (2 ^ 60) test bucket start) words) (range_with_len 0 64)) buckets ≡ sum_by to_bucket buckets * length words
    over_buckets words buckets = (λ i. sum_by (λ bucket. one_bucket words bucket i) buckets) ∙ sum_times to_bucket (length words) buckets

    by_words : words_for st in_new all now (2 ^ 60) test ≡ sum_by to_bucket (range_with_len 0 (bucket_count in_new)) * 2 ^ 30
    by_words =
        over_buckets (range_with_len 0 (2 ^ 30)) (range_with_len 0 (bucket_count in_new))
        ∙ (λ i. sum_by to_bucket (range_with_len 0 (bucket_count in_new)) * length-range_with_len 0 (2 ^ 30) i)

  -- the same, by the records of a chance
  module _ (sound : IsSound st) (test : Rec → Bool) (likely : ℕ) where
    abbrev own : Rec → Bool
    own r = test r && chance r now == likely

    each : (t w e : Bool) (n : ℕ) → cond (t && e) (cond w (n * 2 ^ 30) 0) 0 ≡ cond (t && w && e) n 0 * 2 ^ 30
    each true true true n = refl
    each true true false n = refl
    each true false true n = refl
    each true false false n = refl
    each false w e n = refl

    by_records : words_for st in_new all now (2 ^ 60) own ≡ starts_for st in_new all now test likely * 2 ^ 30
    by_records =
        by_taken st in_new all now (2 ^ 60) own sound
        ∙ sum_map (λ (k : Kind). k.theirs * accepting k.chance (2 ^ 60)) (kind_of st in_new all now own) chances
        ∙ sum_agree (λ c. starts_for st in_new all now own c * accepting c (2 ^ 60)) (λ c. starts_for st in_new all now own c * 2 ^ 30) chances
        (All-from_Contains (λ c. starts_for st in_new all now own c * accepting c (2 ^ 60) ≡ starts_for st in_new all now own c * 2 ^ 30) chances
        (λ c has. ap (λ k. starts_for st in_new all now own c * k) (full_each c has)))
        ∙ class_sums (leading_starts st in_new all) own (is_wanted all) (λ r. chance r now) chances (once now) (λ c. 2 ^ 30) st.records
        ∙ (λ i. sum_by (λ r. each (test r) (is_wanted all r) (chance r now == likely) (leading_starts st in_new all r) i) st.records)
        ∙ sum_times (λ r. cond (test r && is_wanted all r && chance r now == likely) (leading_starts st in_new all r) 0) (2 ^ 30) st.records
        ∙ ap (λ n. n * 2 ^ 30) (sym (sum_filter (leading_starts st in_new all) (λ r. test r && is_wanted all r && chance r now == likely) st.records))

same_occupants : (st : State) (in_new : Bool) → occupant_at (view_of st) in_new ≡ picks.occupant_at st in_new
same_occupants st true = refl
same_occupants st false = refl

cancelled : (a b : ℕ) → a * 2 ^ 30 ≡ b * 2 ^ 30 → a ≡ b
cancelled a b is = omega (arith, is)

-- the starts of a chance, by slots and by records
starts_same : (st : State) → IsSound st → (in_new : Bool) (now : ℕ) (test : Rec → Bool) (likely : ℕ)
    → occupants.starts_for (occupants_of (view_of st) in_new) test now likely ≡ starts_for st in_new all now test likely
starts_same st sound in_new now test likely =
    let own : Rec → Bool = λ r. test r && chance r now == likely in
    sum_filter (λ (o : Occupant). o.starts) (λ o. test o.rec && chance o.rec now == likely) (occupants_of (view_of st) in_new)
    ∙ by_slots (view_of st) in_new own
    ∙ (λ i. sum_by (λ b. sum_by (λ s. cond (holds own (same_occupants st in_new i b s)) (gap (λ t. is_some (same_occupants st in_new i b t)) 64 s) 0) (range_with_len 0 64)) (range_with_len 0 (bucket_count in_new)))
    ∙ cancelled _ (starts_for st in_new all now test likely) (sym (by_words st in_new now own) ∙ by_records st in_new now sound test likely)

pub kinds_same : (st : State) → IsSound st → (in_new : Bool) (now : ℕ) (test : Rec → Bool) → kinds_for (occupants_of (view_of st) in_new) now test ≡ kinds_of st in_new all now test
kinds_same st sound in_new now test = λ i. map (λ c. record {
  chance = c;
  all = starts_same st sound in_new now (λ r. true) c i;
  theirs = starts_same st sound in_new now test c i;
}) chances
