-- Classes give the kinds of each group.
use Rattle.std.proofs.Common.{◌≡◌, ℕ, ◌+◌, ◌*◌, ◌/◌, ◌^◌, ◌≤◌, ◌<◌, min, Bool, true, false, cond, ◌&&◌, ◌==◌, nat_lt, List, [], ◌∷◌, ◌++◌, All, count_by, fold, get_or, length, map, take, sum_by, refl, sym, ap, subst, ◌∙◌, arith, if◌then◌else◌}
use Rattle.std.specs.List.{flat_map}
use Rattle.std.specs.Prelude.{bytes_eq}
use Rattle.std.proofs.Math.Nat.{min-le_right}
use Rattle.std.proofs.lemmas.Bool.Decides.{Decides-eqb}
use Rattle.std.proofs.lemmas.List.{append-nil, map-append, take_more}
use Rattle.std.proofs.lemmas.List.Concat.{flat_map-append}
use Rattle.std.proofs.lemmas.List.Elements.{All-cons, All-head, All-nil, All-weaker}
use Rattle.std.proofs.lemmas.List.Sums.{get_or-le-sum_by, sum_by-append, sum_by-cons, sum_by-take-le}
use Rattle.net_addr.specs.NetBits.{each_below}
use Rattle.peer_rec.specs.Rec.{IsPlace, IsRec, buckets_by, buckets_of, chance}
use Rattle.peer_rec.specs.declared.place.Place.{Place}
use Rattle.peer_rec.specs.declared.place.Place.TheVariants.{New, Tried}
use Rattle.peer_rec.specs.declared.rec.Rec.{Rec}
use Rattle.placing.specs.Places.{Places}
use Rattle.risk_laws.specs.Classes.{chance_after, chances}
use Rattle.risk_laws.proofs.Classed.{class_sums, sum_filter, sum_map}
use Rattle.risk_sum.specs.Kinds.{AreKinds, starts_of}
use Rattle.risk_sum.specs.declared.kinds.Kind.{Kind}
use Rattle.table_laws.proofs.BoundOf.{sum_at_most}
use Rattle.table_machine.specs.Sound.{IsSound}
use Rattle.table_machine.specs.State.{State}
use Rattle.table_machine.proofs.Lists.{All-from_Contains}
use Rattle.table_groups.proofs.Values.{after_visit, values-are}
use Rattle.table_groups.specs.Tally.{tally_of, value_in}
use Rattle.table_groups.specs.View.{View}
use Rattle.table_risk.specs.Grouping.{group_by, is_in}
use Rattle.table_risk.specs.Inside.{all_starts, class_by, class_value, class_visits, kind_in, plus, visits_for}
use Rattle.table_risk.specs.Occupants.{occupants_of, starts_for, starts_in}
use Rattle.table_risk.specs.Shares.{group_kinds, kind_for, kinds_for}
use Rattle.table_risk.specs.declared.classes.Class.{Class}
use Rattle.table_risk.specs.declared.classes.Search.{Search}
use Rattle.table_risk.specs.declared.occupants.Occupant.{Occupant}
use Rattle.table_risk.proofs.Slots.{few, none_plus, some_each, sum_flat}

-- the records of a sound state are in buckets of the new table
pub buckets_below : (st : State) → IsSound st → All (λ r. All (λ b. b < 1024) (buckets_of r)) st.records
buckets_below st sound = All-weaker IsRec (λ r. All (λ b. b < 1024) (buckets_of r)) (λ r is. by r.place is.place) st.records sound.records
  where
    by : (place : Place) → IsPlace place → All (λ b. b < 1024) (buckets_by place)
    by (New buckets) are = are.below
    by Tried are = λ k d low. absurd (omega (arith, low))

-- the starts of a group among some visits
abbrev of_group : List ℕ → List ℕ × ℕ → ℕ
of_group g v = cond (bytes_eq g v.0) v.1 0

folded_starts : (g : List ℕ) (vs : List (List ℕ × ℕ)) (n : ℕ) → fold (after_visit plus g) n vs ≡ n + sum_by (of_group g) vs
folded_starts g [] n = omega arith
folded_starts g (v ∷ vs) n = by (bytes_eq g v.0) (sum_by-cons (of_group g) v vs) (folded_starts g vs (n + v.1)) (folded_starts g vs n)
  where
    by : (b : Bool) → sum_by (of_group g) (v ∷ vs) ≡ cond b v.1 0 + sum_by (of_group g) vs → fold (after_visit plus g) (n + v.1) vs ≡ n + v.1 + sum_by (of_group g) vs
        → fold (after_visit plus g) n vs ≡ n + sum_by (of_group g) vs → fold (after_visit plus g) (cond b (n + v.1) n) vs ≡ n + sum_by (of_group g) (v ∷ vs)
    by true sum more same = more ∙ omega (arith, sum)
    by false sum more same = same ∙ omega (arith, sum)

value_is : (g : List ℕ) (vs : List (List ℕ × ℕ)) → value_in 0 (tally_of 0 plus vs) g ≡ sum_by (of_group g) vs
value_is g vs = values-are 0 plus vs g ∙ folded_starts g vs 0 ∙ none_plus (sum_by (of_group g) vs)

-- a group has no more starts than all
group_low : (g : List ℕ) (vs : List (List ℕ × ℕ)) → sum_by (of_group g) vs ≤ all_starts vs
group_low g [] = omega arith
group_low g (v ∷ vs) = by (bytes_eq g v.0) (sum_by-cons (of_group g) v vs) (sum_by-cons (λ w. w.1) v vs) (group_low g vs)
  where
    by : (b : Bool) → sum_by (of_group g) (v ∷ vs) ≡ cond b v.1 0 + sum_by (of_group g) vs → all_starts (v ∷ vs) ≡ v.1 + all_starts vs → sum_by (of_group g) vs ≤ all_starts vs
        → sum_by (of_group g) (v ∷ vs) ≤ all_starts (v ∷ vs)
    by true sum all low = omega (arith, sum, all, low)
    by false sum all low = omega (arith, sum, all, low)

pub value_low : (g : List ℕ) (vs : List (List ℕ × ℕ)) → value_in 0 (tally_of 0 plus vs) g ≤ all_starts vs
value_low g vs = omega (arith, value_is g vs, group_low g vs)

module _ (places : Places) (what : Search) (likely : ℕ) where
  all_each : (o : Occupant) → all_starts (visits_for places what likely o) ≡ cond (true && chance o.rec what.now == likely) o.starts 0
  all_each o = by (chance o.rec what.now == likely)
    where
      by : (b : Bool) → all_starts (if b then (group_by what.by places o.rec, o.starts) ∷ [] else []) ≡ cond b o.starts 0
      by true = none_plus o.starts
      by false = refl

  -- all starts
  pub all_is : (os : List Occupant) → all_starts (class_visits places what os likely) ≡ starts_for os (λ r. true) what.now likely
  unfolding class_visits
  all_is os =
      sum_flat (λ v. v.1) (visits_for places what likely) os
      ∙ (λ i. sum_by (λ o. all_each o i) os)
      ∙ sym (sum_filter (λ o. o.starts) (λ o. true && chance o.rec what.now == likely) os)

  group_each : (g : List ℕ) (o : Occupant) → sum_by (of_group g) (visits_for places what likely o)
      ≡ cond (is_in what.by places g o.rec && chance o.rec what.now == likely) o.starts 0
  group_each g o = by (chance o.rec what.now == likely) (is_in what.by places g o.rec) refl
    where
      by : (b e : Bool) → is_in what.by places g o.rec ≡ e
          → sum_by (of_group g) (if b then (group_by what.by places o.rec, o.starts) ∷ [] else [])
          ≡ cond (is_in what.by places g o.rec && b) o.starts 0
      by true true is = (λ i. 0 + cond (is i) o.starts 0) ∙ none_plus o.starts ∙ (λ i. cond (sym is i && true) o.starts 0)
      by true false is = (λ i. 0 + cond (is i) o.starts 0) ∙ (λ i. cond (sym is i && true) o.starts 0)
      by false true is = λ i. cond (sym is i && false) o.starts 0
      by false false is = λ i. cond (sym is i && false) o.starts 0

  -- those of a group
  pub group_is : (os : List Occupant) (g : List ℕ) → sum_by (of_group g) (class_visits places what os likely) ≡ starts_for os (is_in what.by places g) what.now likely
  unfolding class_visits
  group_is os g =
      sum_flat (of_group g) (visits_for places what likely) os
      ∙ (λ i. sum_by (λ o. group_each g o i) os)
      ∙ sym (sum_filter (λ o. o.starts) (λ o. is_in what.by places g o.rec && chance o.rec what.now == likely) os)

  pub kind_is : (os : List Occupant) (g : List ℕ) → kind_in g (class_by places what os likely) ≡ kind_for os what.now (is_in what.by places g) likely
  kind_is os g = λ i. record {
    chance = likely;
    all = all_is os i;
    theirs = (value_is g (class_visits places what os likely) ∙ group_is os g) i;
  }

map_map : {A B C : Type 0} (f : B → C) (g : A → B) (xs : List A) → map f (map g xs) ≡ map (λ x. f (g x)) xs
map_map f g [] = refl
map_map f g (x ∷ xs) = ap (λ ys. f (g x) ∷ ys) (map_map f g xs)

pub kinds_are : (view : View) (what : Search) (g : List ℕ) → map (kind_in g) (map (class_by view.places what (occupants_of view what.in_new)) chances) ≡ group_kinds view what g
kinds_are view what g =
    let os = occupants_of view what.in_new in
    map_map (kind_in g) (class_by view.places what os) chances ∙ (λ i. map (λ c. kind_is view.places what c os g i) chances)

-- ---- each record has one of the chances

few_tries : (attempts : ℕ) → min attempts 8 < 9
few_tries attempts = let low : min attempts 8 ≤ 8 = min-le_right attempts 8 in omega (arith, low)

pub once : (now : ℕ) (r : Rec) → count_by (λ c. chance r now == c) chances ≡ 1
once now r = by (nat_lt now (r.last_try + 600)) (min r.attempts 8) (few_tries r.attempts)
  where
    by : (late : Bool) (tries : ℕ) → tries < 9 → count_by (λ c. (if late then chance_after tries / 100 else chance_after tries) == c) chances ≡ 1
    by true tries low = (Decides-eqb (count_by (λ c. chance_after tries / 100 == c) chances) 1).0 (each_below (λ t. count_by (λ c. chance_after t / 100 == c) chances == 1) 9 refl tries low)
    by false tries low = (Decides-eqb (count_by (λ c. chance_after tries == c) chances) 1).0 (each_below (λ t. count_by (λ c. chance_after t == c) chances == 1) 9 refl tries low)

once_more : (n : ℕ) → n * 1 ≡ n
once_more n = omega arith

-- all classes together have all starts
pub starts_are : (os : List Occupant) (now : ℕ) (test : Rec → Bool) → starts_of (kinds_for os now test) ≡ starts_in os
starts_are os now test =
    sum_map (λ (k : Kind). k.all) (kind_for os now test) chances
    ∙ sym (λ i. sum_by (λ c. once_more (starts_for os (λ r. true) now c) i) chances)
    ∙ class_sums (λ (o : Occupant). o.starts) (λ o. true) (λ o. true) (λ o. chance o.rec now) chances (λ o. once now o.rec) (λ c. 1) os
    ∙ (λ i. sum_by (λ (o : Occupant). once_more o.starts i) os)

fewer : (os : List Occupant) (now : ℕ) (test : Rec → Bool) (c : ℕ) → starts_for os test now c ≤ starts_for os (λ r. true) now c
fewer os now test c =
    carried (sum_filter (λ (o : Occupant). o.starts) (λ o. test o.rec && chance o.rec now == c) os)
    (sum_filter (λ (o : Occupant). o.starts) (λ o. true && chance o.rec now == c) os)
    (sum_at_most (λ (o : Occupant). cond (test o.rec && chance o.rec now == c) o.starts 0) (λ o. cond (true && chance o.rec now == c) o.starts 0) os
    (All-from_Contains (λ (o : Occupant). cond (test o.rec && chance o.rec now == c) o.starts 0 ≤ cond (true && chance o.rec now == c) o.starts 0) os
    (λ o has. by (test o.rec) (chance o.rec now == c) o.starts)))
  where
    carried : {a b x y : ℕ} → a ≡ x → b ≡ y → x ≤ y → a ≤ b
    carried one two less = omega (arith, one, two, less)

    by : (t e : Bool) (n : ℕ) → cond (t && e) n 0 ≤ cond (true && e) n 0
    by true e n = omega arith
    by false e n = omega arith

parts_each : (os : List Occupant) (now : ℕ) (test : Rec → Bool) (cs : List ℕ) → All (λ k. k.theirs ≤ k.all) (map (kind_for os now test) cs)
parts_each os now test [] = All-nil (λ (k : Kind). k.theirs ≤ k.all)
parts_each os now test (c ∷ cs) = All-cons (λ (k : Kind). k.theirs ≤ k.all) (kind_for os now test c) (map (kind_for os now test) cs) (fewer os now test c) (parts_each os now test cs)

-- with records there are starts
some_starts : (os : List Occupant) → (length os == 0) ≡ false → All (λ o. 1 ≤ o.starts) os → 0 < starts_in os
some_starts [] is each = absurd (cc)
some_starts (o ∷ os) is each =
    let sum = sum_by-cons (λ (q : Occupant). q.starts) o os in
    let one : 1 ≤ o.starts = All-head (λ (q : Occupant). 1 ≤ q.starts) o os each in
    omega (arith, sum, one)

pub are_kinds : (view : View) (what : Search) (g : List ℕ) → (length (occupants_of view what.in_new) == 0) ≡ false → AreKinds (group_kinds view what g)
are_kinds view what g there =
    let os = occupants_of view what.in_new in
    let all = starts_are os what.now (is_in what.by view.places g) in
    let some = some_starts os there (some_each view what.in_new) in
    let most = few view what.in_new in
    record {
      parts = parts_each os what.now (is_in what.by view.places g) chances;
      some = omega (arith, all, some);
      most = omega (arith, all, most);
    }

-- no class has more starts than the table
pub few_starts : (places : Places) (what : Search) (os : List Occupant) (i : ℕ) → i < 18 → starts_in os ≤ 65536 → all_starts (class_visits places what os (get_or chances i 0)) ≤ 65536
few_starts places what os i low all =
    let starts : ℕ → ℕ = starts_for os (λ r. true) what.now in
    let sum : starts_of (kinds_for os what.now (λ r. true)) ≡ sum_by starts chances = sum_map (λ (k : Kind). k.all) (kind_for os what.now (λ r. true)) chances in
    below (all_is places what (get_or chances i 0) os) (get_or-le-sum_by starts chances i 0 low) (subst (λ n. n ≤ 65536) (sym (starts_are os what.now (λ r. true)) ∙ sum) all)
  where
    below : {a b c d : ℕ} → a ≡ b → b ≤ c → c ≤ d → a ≤ d
    below one two three = omega (arith, one, two, three)

-- one class more
pub classes_more : {H G : Type 0} (places : Places) (what : Search) (os : List Occupant) (i : ℕ) (old new : List (Class H G)) (class : Class H G) → i < 18
    → map class_value old ≡ map (class_by places what os) (take i chances) → class_value class ≡ class_by places what os (get_or chances i 0) → new ≡ old ++ class ∷ []
    → map class_value new ≡ map (class_by places what os) (take (i + 1) chances)
classes_more places what os i old new class low so_far made more =
    ap (map class_value) more ∙ map-append class_value old (class ∷ []) ∙ (λ j. so_far j ++ made j ∷ [])
    ∙ sym (ap (map (class_by places what os)) (take_more chances i 0 low) ∙ map-append (class_by places what os) (take i chances) (get_or chances i 0 ∷ []))

-- ---- one record more

pub sum_take_low : (places : Places) (what : Search) (likely i : ℕ) (os : List Occupant) → all_starts (flat_map (visits_for places what likely) (take i os)) ≤ all_starts (class_visits places what os likely)
unfolding class_visits
sum_take_low places what likely i os =
    omega (
      arith,
      sum_flat (λ v. v.1) (visits_for places what likely) (take i os),
      sum_flat (λ v. v.1) (visits_for places what likely) os,
      sum_by-take-le (λ o. all_starts (visits_for places what likely o)) os i,
    )

-- the visits of the records up to one, and of it
pub visits_more : (places : Places) (what : Search) (likely i : ℕ) (os : List Occupant) (o : Occupant) → i < length os → o ≡ get_or os i o
    → flat_map (visits_for places what likely) (take (i + 1) os) ≡ flat_map (visits_for places what likely) (take i os) ++ visits_for places what likely o
visits_more places what likely i os o within is =
    let visits : Occupant → List (List ℕ × ℕ) = visits_for places what likely in
    ap (flat_map visits) (take_more os i o within ∙ ap (λ (q : Occupant). take i os ++ q ∷ []) (sym is))
    ∙ flat_map-append visits (take i os) (o ∷ []) ∙ ap (λ (t : List (List ℕ × ℕ)). flat_map visits (take i os) ++ t) (append-nil (visits o))

module _ (places : Places) (what : Search) (likely i : ℕ) (os : List Occupant) (o : Occupant) (within : i < length os) (is : o ≡ get_or os i o) where
  abbrev before : List (List ℕ × ℕ)
  before = flat_map (visits_for places what likely) (take i os)

  abbrev after : List (List ℕ × ℕ)
  after = flat_map (visits_for places what likely) (take (i + 1) os)

  -- a record of the chance adds its starts
  pub with_record : (chance o.rec what.now == likely) ≡ true → after ≡ before ++ (group_by what.by places o.rec, o.starts) ∷ []
  with_record same =
      visits_more places what likely i os o within is
      ∙ (λ j. before ++ (if same j then (group_by what.by places o.rec, o.starts) ∷ [] else []))

pub starts_more : (vs : List (List ℕ × ℕ)) (g : List ℕ) (starts : ℕ) → all_starts (vs ++ (g, starts) ∷ []) ≡ all_starts vs + starts
starts_more vs g starts = sum_by-append (λ v. v.1) vs ((g, starts) ∷ []) ∙ ap (λ (n : ℕ). all_starts vs + n) (none_plus starts)

-- the starts so far and those of one record more are no more than all
pub sum_fits : (places : Places) (what : Search) (likely i : ℕ) (os : List Occupant) (o : Occupant) → i < length os → o ≡ get_or os i o → (chance o.rec what.now == likely) ≡ true
    → (sum : ℕ) → sum ≡ all_starts (flat_map (visits_for places what likely) (take i os))
    → all_starts (class_visits places what os likely) ≤ 65536 → sum + o.starts ≤ 65536
sum_fits places what likely i os o within is same sum so_far few =
    let vs : List (List ℕ × ℕ) = flat_map (visits_for places what likely) (take i os) in
    omega (
      arith,
      so_far,
      few,
      ap all_starts (with_record places what likely i os o within is same),
      starts_more vs (group_by what.by places o.rec) o.starts,
      sum_take_low places what likely (i + 1) os,
    )

pub group_fits : (vs es : List (List ℕ × ℕ)) (g : List ℕ) (sum starts : ℕ) → es ≡ tally_of 0 plus vs → sum ≡ all_starts vs → sum + starts ≤ 65536 → value_in 0 es g + starts < 2 ^ 32
group_fits vs es g sum starts are is few =
    let own : value_in 0 es g ≡ value_in 0 (tally_of 0 plus vs) g = ap (λ (t : List (List ℕ × ℕ)). value_in 0 t g) are in
    omega (arith, own, value_low g vs, is, few)
