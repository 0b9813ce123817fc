-- The rounds of a table by the chances of its records.
use Rattle.std.proofs.Common.{◌≡◌, ℕ, zero, suc, ◌+◌, ◌-◌, ◌*◌, ◌/◌, ◌%◌, ◌^◌, ◌≤◌, ◌<◌, min, Bool, true, false, cond, not, ◌&&◌, ◌==◌, nat_le, nat_lt, List, [], ◌∷◌, length, All, map, Contains, count_by, sum_by, Option, Some, None, refl, sym, ap, subst, ◌∙◌, arith, true≢false, if◌then◌else◌}
use Rattle.std.specs.List.{range_with_len}
use Rattle.std.proofs.Math.Nat.{le-min, min-le_right}
use Rattle.std.proofs.lemmas.Bool.{and_parts, both_ways, leb-true, lt-ltb}
use Rattle.std.proofs.lemmas.Bool.Decides.{Decides-eqb}
use Rattle.std.proofs.lemmas.List.Elements.{All-contains, All-cons, All-nil}
use Rattle.std.proofs.lemmas.List.Sums.{AllPass-from_list_all}
use Rattle.net_addr.specs.NetBits.{each_below}
use Rattle.placing.specs.Places.{new_slot, tried_bucket, tried_slot}
use Rattle.peer_rec.specs.Rec.{IsPlace, IsRec, buckets_by, chance, is_tried, next_factor, tried_by}
use Rattle.peer_rec.specs.declared.place.Place.{Place}
use Rattle.peer_rec.specs.declared.place.Place.TheVariants.{New, Tried}
use Rattle.peer_rec.specs.declared.rec.Rec.{Rec}
use Rattle.table_machine.specs.Picks.{bucket_count, first_candidate, is_accepted, is_wanted, occupant_at, slots_from, wanted_new, wanted_tried}
use Rattle.table_machine.specs.Sound.{IsSound}
use Rattle.table_machine.specs.State.{State, is_tried_at}
use Rattle.table_machine.proofs.Lists.{All-from_Contains, find-Some}
use Rattle.table_machine.proofs.Records.{same_record, tried_at-is_tried}
use Rattle.table_laws.specs.Chances.{leading_slots, picking_words, words_for}
use Rattle.table_laws.specs.Odds.{leading_starts}
use Rattle.table_laws.specs.Rounds.{gap, holds, idle_below}
use Rattle.table_laws.specs.Searches.{candidate_in, idle_rounds, one_if, refusing_rounds, round}
use Rattle.table_laws.proofs.Balance.{sum_both}
use Rattle.table_laws.proofs.BoundOf.{few_words, sum_at_most}
use Rattle.table_laws.proofs.Counts.{sum_agree}
use Rattle.table_laws.proofs.Draws.{sum_times}
use Rattle.table_laws.proofs.Picked.{found_at, new_words, tried_words}
use Rattle.table_laws.proofs.RoundsOf.{each_kind}
use Rattle.table_laws.proofs.SearchOf.{over, over-constant, sum_constant}
use Rattle.table_laws.proofs.SomeOf.{candidate-there, some_words}
use Rattle.risk_sum.specs.Kinds.{AreKinds, accepting, most_by, refused_by, rounded_up, starts_of, taken_by}
use Rattle.risk_sum.specs.declared.kinds.Kind.{Kind}
use Rattle.risk_laws.specs.Classes.{chance_after, chances, kind_of, kinds_of, starts_for}
use Rattle.risk_laws.specs.Enclosures.{most_of}
use Rattle.risk_laws.proofs.Classed.{class_sums, sum_filter, sum_map}

-- each record has one of the chances, which is not 0
few_tries : (attempts : ℕ) → min attempts 8 < 9
few_tries attempts = let low : min attempts 8 ≤ 8 = min-le_right attempts 8 in omega (arith, low)

once : (now : ℕ) (r : Rec) → count_by (λ c. chance r now == c) chances ≡ 1
once now r = by (nat_lt now (r.last_try + 600)) (min r.attempts 8) (few_tries r.attempts)
  where
    by : (late : Bool) (tries : ℕ) → tries < 9 → count_by (λ c. (if late then chance_after tries / 100 else chance_after tries) == c) chances ≡ 1
    by true tries low = (Decides-eqb (count_by (λ c. chance_after tries / 100 == c) chances) 1).0 (each_below (λ t. count_by (λ c. chance_after t / 100 == c) chances == 1) 9 refl tries low)
    by false tries low = (Decides-eqb (count_by (λ c. chance_after tries == c) chances) 1).0 (each_below (λ t. count_by (λ c. chance_after t == c) chances == 1) 9 refl tries low)

some_chance : (now : ℕ) (r : Rec) → 1 ≤ chance r now
some_chance now r = by (nat_lt now (r.last_try + 600)) (min r.attempts 8) (few_tries r.attempts)
  where
    by : (late : Bool) (tries : ℕ) → tries < 9 → 1 ≤ (if late then chance_after tries / 100 else chance_after tries)
    by true tries low = leb-true 1 (chance_after tries / 100) (each_below (λ t. nat_le 1 (chance_after t / 100)) 9 refl tries low)
    by false tries low = leb-true 1 (chance_after tries) (each_below (λ t. nat_le 1 (chance_after t)) 9 refl tries low)

some_each : (c : ℕ) → Contains chances c → 1 ≤ c
some_each c has = leb-true 1 c (All-contains (λ k. nat_le 1 k ≡ true) chances c (AllPass-from_list_all (nat_le 1) chances refl) has)

-- no rounds select a record that is no candidate
never : (st : State) (sound : IsSound st) (in_new : Bool) (nets : List ℕ) (now factor : ℕ) (r : Rec) → Contains st.records r
    → ((bucket start : ℕ) → first_candidate st in_new nets bucket start ≡ Some r → ⊥) → picking_words st in_new nets now factor r.number ≡ 0
never st sound in_new nets now factor r has none =
    let few = few_words st in_new nets now factor (λ q. q.number == r.number) [] (λ bucket start q is same.
    let one : q ≡ r = same_record st.records q r sound.rising (candidate-there st in_new nets bucket start q is) has ((Decides-eqb q.number r.number).0 same) in
    absurd (none bucket start (is ∙ ap Some one))) in
    omega (arith, few)

-- the rounds that select a record, which are none unless it is wanted
one_record : (st : State) (sound : IsSound st) (in_new : Bool) (nets : List ℕ) (now factor : ℕ) (r : Rec) → Contains st.records r
    → picking_words st in_new nets now factor r.number ≡ cond (is_wanted nets r) (leading_starts st in_new nets r * accepting (chance r now) factor) 0
one_record st sound in_new nets now factor r has = by in_new (is_wanted nets r) (is_tried r) refl refl
  where
    by : (n w t : Bool) → is_wanted nets r ≡ w → is_tried r ≡ t
        → picking_words st n nets now factor r.number ≡ cond w (leading_starts st n nets r * accepting (chance r now) factor) 0
    by n false t wanted tried =
        never st sound n nets now factor r has (λ bucket start is. both_ways (is_wanted nets r) wanted (find-Some (is_wanted nets) _ r is).1)
    by true true t wanted tried = new_words st sound nets now factor r has wanted
    by false true true wanted tried =
        subst (λ b. picking_words st false nets now factor r.number
        ≡ (if b then leading_slots st false nets (tried_bucket st.places r.peer) (tried_slot st.places r.peer (tried_bucket st.places r.peer)) else 0) * accepting (chance r now) factor) (sym tried)
        (tried_words st sound nets now factor r has wanted tried)
    by false true false wanted tried =
        subst (λ b. picking_words st false nets now factor r.number
        ≡ (if b then leading_slots st false nets (tried_bucket st.places r.peer) (tried_slot st.places r.peer (tried_bucket st.places r.peer)) else 0) * accepting (chance r now) factor) (sym tried)
        (never st sound false nets now factor r has (λ bucket start is.
        let h = found_at (occupant_at st false bucket) nets (slots_from start) r is in
        both_ways (is_tried r) tried (tried_at-is_tried st.places bucket h.0 r (find-Some (is_tried_at st.places bucket h.0) st.records r h.1).1))
        ∙ zeros (accepting (chance r now) factor))
      where
        zeros : (a : ℕ) → 0 ≡ 0 * a
        zeros a = omega arith

-- with the largest factor each word accepts
full : (c : ℕ) → 1 ≤ c → accepting c (2 ^ 60) ≡ 2 ^ 30
full c some =
    let most : accepting c (2 ^ 60) ≤ 2 ^ 30 = min-le_right ((c * 2 ^ 60 + (2 ^ 30 - 1)) / 2 ^ 30) (2 ^ 30) in
    let least : 2 ^ 30 ≤ accepting c (2 ^ 60) = le-min (large c some) (omega arith) in
    both (accepting c (2 ^ 60)) (2 ^ 30) most least
  where
    both : (a b : ℕ) → a ≤ b → b ≤ a → a ≡ b
    both a b one two = omega (arith, one, two)

    large : (c : ℕ) → 1 ≤ c → 2 ^ 30 ≤ (c * 2 ^ 60 + (2 ^ 30 - 1)) / 2 ^ 30
    large c some = omega (arith, some)

nothing_over : (buckets starts words : List ℕ) → over buckets starts words (λ r. 0) ≡ 0
nothing_over buckets starts words = over-constant buckets starts words 0 ∙ product (length buckets) (length starts) (length words)
  where
    zeros : (a : ℕ) → a * 0 ≡ 0
    zeros a = omega arith

    product : (a b c : ℕ) → a * (b * (c * 0)) ≡ 0
    product a b c = ap (λ k. a * (b * k)) (zeros c) ∙ ap (λ k. a * k) (zeros b) ∙ zeros a

nobody : (st : State) (in_new : Bool) (nets : List ℕ) (now : ℕ) → refusing_rounds st in_new nets now (2 ^ 60) ≡ 0
nobody st in_new nets now = each (range_with_len 0 (bucket_count in_new)) (range_with_len 0 64) (range_with_len 0 (2 ^ 30))
  where
    accepts : (q : Rec) (word : ℕ) → is_accepted q now (2 ^ 60) word ≡ true
    accepts q word = lt-ltb ((word % 2 ^ 30) * 2 ^ 30) (chance q now * 2 ^ 60) (below (chance q now) word (some_chance now q))
      where
        below : (c w : ℕ) → 1 ≤ c → (w % 2 ^ 30) * 2 ^ 30 < c * 2 ^ 60
        below c w some = omega (arith, some)

    one : (o : Option Rec) (word : ℕ) → one_if (holds (λ q. not (is_accepted q now (2 ^ 60) word)) o) ≡ 0
    one None word = refl
    one (Some q) word = ap (λ b. one_if (not b)) (accepts q word)

    each : (buckets starts words : List ℕ) → over buckets starts words (λ r. one_if (holds (λ q. not (is_accepted q now (2 ^ 60) r.word)) (candidate_in st in_new nets r))) ≡ 0
    each buckets starts words =
        (λ i. sum_by (λ b. sum_by (λ s. sum_by (λ w. one (candidate_in st in_new nets (round b s w)) w i) words) starts) buckets) ∙ nothing_over buckets starts words

module _ (st : State) (sound : IsSound st) (in_new : Bool) (nets : List ℕ) (now : ℕ) (cs : List ℕ)
    (once_each : (r : Rec) → count_by (λ c. chance r now == c) cs ≡ 1) (some_of : (c : ℕ) → Contains cs c → 1 ≤ c) where
  abbrev starts : (Rec → Bool) → ℕ → ℕ
  starts test c = starts_for st in_new nets now test c

  by_chance : (test : Rec → Bool) (factor : ℕ) → words_for st in_new nets now factor test ≡ sum_by (λ c. starts test c * accepting c factor) cs
  by_chance test factor =
      some_words st sound now factor test in_new nets
      ∙ sum_filter (λ r. picking_words st in_new nets now factor r.number) test st.records
      ∙ sum_agree (λ r. cond (test r) (picking_words st in_new nets now factor r.number) 0)
      (λ r. cond (test r) (cond (is_wanted nets r) (leading_starts st in_new nets r * accepting (chance r now) factor) 0) 0) st.records
      (All-from_Contains (λ r. cond (test r) (picking_words st in_new nets now factor r.number) 0 ≡ cond (test r) (cond (is_wanted nets r) (leading_starts st in_new nets r * accepting (chance r now) factor) 0) 0) st.records
      (λ r c. ap (λ k. cond (test r) k 0) (one_record st sound in_new nets now factor r c)))
      ∙ sym (class_sums (leading_starts st in_new nets) test (is_wanted nets) (λ r. chance r now) cs once_each (λ c. accepting c factor) st.records)

  module _ (test : Rec → Bool) where
    abbrev kinds : List Kind
    kinds = map (kind_of st in_new nets now test) cs

    taken_are : (factor : ℕ) → words_for st in_new nets now factor test ≡ taken_by kinds factor
    taken_are factor = by_chance test factor ∙ sym (sum_map (λ (k : Kind). k.theirs * accepting k.chance factor) (kind_of st in_new nets now test) cs)

    busy_is : sum_by (λ c. starts (λ r. true) c * 2 ^ 30) cs ≡ starts_of kinds * 2 ^ 30
    busy_is = sum_times (starts (λ r. true)) (2 ^ 30) cs ∙ ap (λ k. k * 2 ^ 30) (sym (sum_map (λ (k : Kind). k.all) (kind_of st in_new nets now test) cs))

    whole_is : starts_of kinds * 2 ^ 30 + idle_rounds st in_new nets ≡ bucket_count in_new * (64 * 2 ^ 30)
    whole_is =
        join (words_for st in_new nets now (2 ^ 60) (λ r. true)) (idle_rounds st in_new nets) (refusing_rounds st in_new nets now (2 ^ 60)) (starts_of kinds * 2 ^ 30) (bucket_count in_new * (64 * 2 ^ 30))
        (each_kind st in_new nets now (2 ^ 60))
        (by_chance (λ r. true) (2 ^ 60)
        ∙ sum_agree (λ c. starts (λ r. true) c * accepting c (2 ^ 60)) (λ c. starts (λ r. true) c * 2 ^ 30) cs
        (All-from_Contains (λ c. starts (λ r. true) c * accepting c (2 ^ 60) ≡ starts (λ r. true) c * 2 ^ 30) cs
        (λ c h. ap (λ k. starts (λ r. true) c * k) (full c (some_of c h))))
        ∙ busy_is)
        (nobody st in_new nets now)
      where
        join : (w i r s d : ℕ) → w + i + r ≡ d → w ≡ s → r ≡ 0 → s + i ≡ d
        join w i r s d one two three = omega (arith, one, two, three)

    refused_are : (factor : ℕ) → refusing_rounds st in_new nets now factor ≡ refused_by kinds factor
    refused_are factor =
        join (words_for st in_new nets now factor (λ r. true)) (idle_rounds st in_new nets) (refusing_rounds st in_new nets now factor)
        (sum_by (λ c. starts (λ r. true) c * accepting c factor) cs) (sum_by (λ c. starts (λ r. true) c * (2 ^ 30 - accepting c factor)) cs) (starts_of kinds * 2 ^ 30) (bucket_count in_new * (64 * 2 ^ 30))
        (each_kind st in_new nets now factor) (by_chance (λ r. true) factor) whole_is
        (sym (sum_both (λ c. starts (λ r. true) c * accepting c factor) (λ c. starts (λ r. true) c * (2 ^ 30 - accepting c factor)) cs)
        ∙ (λ i. sum_by (λ c. parts (starts (λ r. true) c) (accepting c factor) (2 ^ 30) (min-le_right ((c * factor + (2 ^ 30 - 1)) / 2 ^ 30) (2 ^ 30)) i) cs)
        ∙ busy_is)
        ∙ sym (sum_map (λ (k : Kind). k.all * (2 ^ 30 - accepting k.chance factor)) (kind_of st in_new nets now test) cs)
      where
        join : (w i r a b s d : ℕ) → w + i + r ≡ d → w ≡ a → s + i ≡ d → a + b ≡ s → r ≡ b
        join w i r a b s d one two three four = omega (arith, one, two, three, four)

        parts : (n a k : ℕ) → a ≤ k → n * a + n * (k - a) ≡ n * k
        parts n a k low = let cut : a + (k - a) ≡ k = omega (arith, low) in turn n a (k - a) ∙ ap (λ m. n * m) cut
          where
            turn : (n a b : ℕ) → n * a + n * b ≡ n * (a + b)
            turn n a b = omega arith

    bound_is : (busy ahead left factor : ℕ) → most_of st in_new nets now test busy left ahead factor ≡ most_by kinds busy left ahead factor
    bound_is busy zero left factor = refl
    bound_is busy (suc ahead) left factor =
        (λ i. rounded_up (left * taken_are factor i) busy + most_of st in_new nets now test busy (rounded_up (left * refused_are factor i) busy) ahead (next_factor factor))
        ∙ ap (λ k. rounded_up (left * taken_by kinds factor) busy + k) (bound_is busy ahead (rounded_up (left * refused_by kinds factor) busy) (next_factor factor))

    -- the numbers of a sum of kinds
    fewer : (c : ℕ) → starts test c ≤ starts (λ r. true) c
    fewer c =
        carried (sum_filter (leading_starts st in_new nets) (λ r. test r && is_wanted nets r && chance r now == c) st.records)
        (sum_filter (leading_starts st in_new nets) (λ r. true && is_wanted nets r && chance r now == c) st.records)
        (sum_at_most (λ r. cond (test r && is_wanted nets r && chance r now == c) (leading_starts st in_new nets r) 0) (λ r. cond (true && is_wanted nets r && chance r now == c) (leading_starts st in_new nets r) 0) st.records
        (All-from_Contains (λ r. cond (test r && is_wanted nets r && chance r now == c) (leading_starts st in_new nets r) 0 ≤ cond (true && is_wanted nets r && chance r now == c) (leading_starts st in_new nets r) 0) st.records
        (λ r h. by (test r) (is_wanted nets r) (chance r now == c) (leading_starts st in_new nets r))))
      where
        carried : {a b x y : ℕ} → a ≡ x → b ≡ y → x ≤ y → a ≤ b
        carried one two less = omega (arith, one, two, less)

        by : (t w e : Bool) (n : ℕ) → cond (t && w && e) n 0 ≤ cond (true && w && e) n 0
        by true w e n = omega arith
        by false w e n = omega arith

    parts_each : (xs : List ℕ) → All (λ k. k.theirs ≤ k.all) (map (kind_of st in_new nets now test) xs)
    parts_each [] = All-nil (λ (k : Kind). k.theirs ≤ k.all)
    parts_each (c ∷ xs) = All-cons (λ (k : Kind). k.theirs ≤ k.all) (kind_of st in_new nets now test c) (map (kind_of st in_new nets now test) xs) (fewer c) (parts_each xs)

    few_starts : starts_of kinds ≤ 65536
    few_starts = low (starts_of kinds) (idle_rounds st in_new nets) (bucket_count in_new) whole_is (buckets in_new)
      where
        buckets : (n : Bool) → bucket_count n ≤ 1024
        buckets true = omega arith
        buckets false = omega arith

        low : (s i b : ℕ) → s * 2 ^ 30 + i ≡ b * (64 * 2 ^ 30) → b ≤ 1024 → s ≤ 65536
        low s i b is few = omega (arith, is, few)

    at_least : (p : Rec → Bool) → ((r : Rec) → Contains st.records r → p r ≡ true → (is_wanted nets r ≡ true) × (1 ≤ leading_starts st in_new nets r)) → count_by p st.records ≤ starts_of kinds
    at_least p each =
        subst (λ k. count_by p st.records ≤ k)
        (sym (class_sums (leading_starts st in_new nets) (λ r. true) (is_wanted nets) (λ r. chance r now) cs once_each (λ c. 1) st.records)
        ∙ (λ i. sum_by (λ c. once_more (starts (λ r. true) c) i) cs) ∙ sym (sum_map (λ (k : Kind). k.all) (kind_of st in_new nets now test) cs))
        (sum_at_most (λ r. one_if (p r)) (λ r. cond true (cond (is_wanted nets r) (leading_starts st in_new nets r * 1) 0) 0) st.records
        (All-from_Contains (λ r. one_if (p r) ≤ cond true (cond (is_wanted nets r) (leading_starts st in_new nets r * 1) 0) 0) st.records (λ r h. by r h (p r) refl)))
      where
        once_more : (n : ℕ) → n * 1 ≡ n
        once_more n = omega arith

        some : (n : ℕ) → 1 ≤ n → 1 ≤ n * 1
        some n h = omega (arith, h)

        by : (r : Rec) → Contains st.records r → (b : Bool) → p r ≡ b → one_if b ≤ cond (is_wanted nets r) (leading_starts st in_new nets r * 1) 0
        by r h true is = let both = each r h is in subst (λ w. 1 ≤ cond w (leading_starts st in_new nets r * 1) 0) (sym both.0) (some (leading_starts st in_new nets r) both.1)
        by r h false is = omega arith

    are_kinds : 0 < starts_of kinds → AreKinds kinds
    are_kinds some = record { parts = parts_each cs; some = some; most = few_starts }

gap_some : (wanted : ℕ → Bool) (n slot : ℕ) → 1 ≤ gap wanted n slot
gap_some wanted n slot = by (idle_below wanted slot) (if idle_below wanted slot == slot then idle_below wanted n else 0)
  where
    by : (a b : ℕ) → 1 ≤ 1 + a + b
    by a b = omega arith

leads_new : (st : State) (nets : List ℕ) (r : Rec) → IsPlace r.place → is_tried r ≡ false → 1 ≤ leading_starts st true nets r
leads_new st nets r is_place is_new = by r.place is_place is_new
  where
    to : ℕ → ℕ
    to b = leading_slots st true nets b (new_slot st.places r.peer b)

    by : (place : Place) → IsPlace place → tried_by place ≡ false → 1 ≤ sum_by to (buckets_by place)
    by Tried is new = absurd (true≢false new)
    by (New buckets) is new =
        let each = sum_at_most (λ b. 1) to buckets (All-from_Contains (λ b. 1 ≤ to b) buckets (λ b c. gap_some (λ s. holds (is_wanted nets) (occupant_at st true b s)) 64 (new_slot st.places r.peer b))) in
        let long = sum_constant 1 buckets in
        let some = is.some in
        omega (arith, each, long, some)

leads_tried : (st : State) (nets : List ℕ) (r : Rec) → is_tried r ≡ true → 1 ≤ leading_starts st false nets r
leads_tried st nets r tried =
    let bucket = tried_bucket st.places r.peer in
    subst (λ b. 1 ≤ (if b then leading_slots st false nets bucket (tried_slot st.places r.peer bucket) else 0)) (sym tried)
    (gap_some (λ s. holds (is_wanted nets) (occupant_at st false bucket s)) 64 (tried_slot st.places r.peer bucket))

-- over the chances that there are
pub by_taken : (st : State) (in_new : Bool) (nets : List ℕ) (now factor : ℕ) (test : Rec → Bool) → IsSound st → words_for st in_new nets now factor test ≡ taken_by (kinds_of st in_new nets now test) factor
by_taken st in_new nets now factor test sound = taken_are st sound in_new nets now chances (once now) some_each test factor

pub by_refused : (st : State) (in_new : Bool) (nets : List ℕ) (now factor : ℕ) (test : Rec → Bool) → IsSound st → refusing_rounds st in_new nets now factor ≡ refused_by (kinds_of st in_new nets now test) factor
by_refused st in_new nets now factor test sound = refused_are st sound in_new nets now chances (once now) some_each test factor

pub by_whole : (st : State) (in_new : Bool) (nets : List ℕ) (now : ℕ) (test : Rec → Bool) → IsSound st
    → starts_of (kinds_of st in_new nets now test) * 2 ^ 30 + idle_rounds st in_new nets ≡ bucket_count in_new * (64 * 2 ^ 30)
by_whole st in_new nets now test sound = whole_is st sound in_new nets now chances (once now) some_each test

pub by_bound : (st : State) (in_new : Bool) (nets : List ℕ) (now busy left ahead factor : ℕ) (test : Rec → Bool) → IsSound st
    → most_of st in_new nets now test busy left ahead factor ≡ most_by (kinds_of st in_new nets now test) busy left ahead factor
by_bound st in_new nets now busy left ahead factor test sound = bound_is st sound in_new nets now chances (once now) some_each test busy ahead left factor

more_than : {a b : ℕ} → 0 < a → a ≤ b → 0 < b
more_than some less = omega (arith, some, less)

pub kinds_new : (st : State) (nets : List ℕ) (now : ℕ) (test : Rec → Bool) → IsSound st → 0 < wanted_new st nets → AreKinds (kinds_of st true nets now test)
kinds_new st nets now test sound some =
    are_kinds st sound true nets now chances (once now) some_each test (more_than some
    (at_least st sound true nets now chances (once now) some_each test (λ r. not (is_tried r) && is_wanted nets r) (λ r c is.
    let parts = and_parts (not (is_tried r)) (is_wanted nets r) is in
    (parts.1, leads_new st nets r (All-contains IsRec st.records r sound.records c).place (new_one (is_tried r) parts.0)))))
  where
    new_one : (b : Bool) → not b ≡ true → b ≡ false
    new_one false is = refl
    new_one true is = absurd (true≢false (sym is))

pub kinds_tried : (st : State) (nets : List ℕ) (now : ℕ) (test : Rec → Bool) → IsSound st → 0 < wanted_tried st nets → AreKinds (kinds_of st false nets now test)
kinds_tried st nets now test sound some =
    are_kinds st sound false nets now chances (once now) some_each test (more_than some
    (at_least st sound false nets now chances (once now) some_each test (λ r. is_tried r && is_wanted nets r) (λ r c is.
    let parts = and_parts (is_tried r) (is_wanted nets r) is in
    (parts.1, leads_tried st nets r parts.0))))
