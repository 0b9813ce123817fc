-- What a save gathers: the ids by rising number, the parts of a file, and the index of each record.
use Rattle.std.proofs.Common.{◌≡◌, ◌≢◌, ℕ, zero, suc, ◌+◌, ◌<◌, ◌≤◌, ◌==◌, Bool, true, false, cond, not, List, [], ◌∷◌, ◌++◌, map, filter, length, get_or, set, take, flat_map, All, AllPairs, Option, Some, None, refl, sym, ap, subst, ◌∙◌, inl, inr, arith, slice_get}
use Rattle.std.specs.Prelude.{unwrap_or, if◌then◌else◌, IsPermutation}
use Rattle.std.specs.List.{position_or_len, range_with_len}
use Rattle.std.specs.List.Sorted.{IsNonDecreasing, IsNonDecreasingBy}
use Rattle.std.proofs.lemmas.Bool.{cases_eq, eq-eqb, ne_eqb}
use Rattle.std.proofs.lemmas.List.{get_or-map, get_or_default, get_or-set_same, get_or-set_other, append-nil, append_assoc, length-map, map-append, take_more}
use Rattle.std.proofs.lemmas.List.Elements.{All-tail, filter_more}
use Rattle.std.proofs.lemmas.List.Kept.{AllPairs-from_increasing}
use Rattle.std.proofs.lemmas.List.Sorted.{All-permutation, IsPermutation-map}
use Rattle.std.proofs.lemmas.Option.{get_or_from_slice_get, slice_get-get_or}
use Rattle.peer_rec.specs.Rec.{is_tried}
use Rattle.peer_rec.specs.declared.file_rec.FileRec.{FileRec}
use Rattle.peer_rec.specs.declared.rec.Rec.{Rec}
use Rattle.peer_index.specs.Order.{Item, Order, IsOrder, ids, rec_of, records}
use Rattle.tables.specs.Filled.{blank}
use Rattle.table_machine.proofs.Grown.{range-push}
use Rattle.table_machine.proofs.Lists.{AllPairs-from_map, find-Some}
use Rattle.table_machine.proofs.Rising.{pairs_tail}
use Rattle.table_machine.proofs.SnapshotFits.{snapshot_fits}
use Rattle.table_machine.specs.Snapshot.{file_rec, index_in, new_records}
use Rattle.table_machine.specs.Sound.{IsSound}
use Rattle.table_machine.specs.State.{State, is_new_at, new_rec_at}
use Rattle.placing.specs.Places.{Places}
use Rattle.slot_grid.specs.Slots.{Slots, new_id}
use Rattle.table_plan.specs.declared.waiter.Waiter.{Waiter}
use Rattle.tables.specs.Inside.{AreNumbers, AreStored, record_at, records_below, state_with}
use Rattle.tables.proofs.Changes.{occupant-some, untried-at}
use Rattle.tables.specs.Saving.{AreIndexes, LeadTo, new_part, number_id, tried_part}
use Rattle.tables.proofs.Listing.{sorted-state}
use Rattle.tables.proofs.Records.{rec_of-each-item}
use Rattle.tables.proofs.Searches.{some_is}

-- one more of a range
pub flat_map-more : {Y : Type 0} (f : ℕ → List Y) (n : ℕ) → flat_map f (range_with_len 0 (n + 1)) ≡ flat_map f (range_with_len 0 n) ++ f n
flat_map-more f n =
    ap (flat_map f) (ap (range_with_len 0) (let next : n + 1 ≡ suc n = omega arith in next) ∙ sym (range-push 0 n n (omega arith)))
    ∙ flat_map-both (range_with_len 0 n)
  where
    flat_map-both : (xs : List ℕ) → flat_map f (xs ++ n ∷ []) ≡ flat_map f xs ++ f n
    flat_map-both [] = append-nil (f n)
    flat_map-both (x ∷ xs) = ap (λ ys. f x ++ ys) (flat_map-both xs) ∙ sym (append_assoc (f x) (flat_map f xs) (f n))

-- one more item of an order, as a pair
pub pairs-more : (order : Order) (ps : List (ℕ × ℕ)) (k id : ℕ) (r : Rec) → ps ≡ take k (map number_id order) → k < length order
    → slice_get (ids order) k ≡ Some id → rec_of order id ≡ slice_get (records order) k → rec_of order id ≡ Some r
    → ps ++ (r.number, id) ∷ [] ≡ take (k + 1) (map number_id order)
pairs-more order ps k id r same within at there found =
    let item : Item = record { id = id; rec = r } in
    let l = get_or order k item in
    let none : ℕ × ℕ = (0, 0) in
    let id-is : l.id ≡ id = sym (get_or-map (λ (m : Item). m.id) order k item 0 within) ∙ get_or_from_slice_get (ids order) k id 0 at in
    let rec-is : l.rec ≡ r = sym (get_or-map (λ (m : Item). m.rec) order k item r within) ∙ get_or_from_slice_get (records order) k r r (sym there ∙ found) in
    let inside : k < length (map number_id order) = omega (arith, length-map order number_id) in
    ap (λ (zs : List (ℕ × ℕ)). zs ++ (r.number, id) ∷ []) same
    ∙ (λ i. take k (map number_id order) ++ ((sym rec-is i).number, sym id-is i) ∷ [])
    ∙ ap (λ (q : ℕ × ℕ). take k (map number_id order) ++ q ∷ []) (sym (get_or-map number_id order k item none within))
    ∙ sym (take_more (map number_id order) k none inside)

-- the record that the id of a pair leads to
abbrev under : Order → ℕ × ℕ → Rec
under order p = unwrap_or (rec_of order p.1) blank

-- the id of the pair leads to the record of its number
record IsPair (order : Order) (p : ℕ × ℕ) : Type 0 where
  pub found : rec_of order p.1 ≡ Some (under order p)
  pub number : (under order p).number ≡ p.0

abbrev IsItem : Order → Item → Type 0
IsItem order l = rec_of order l.id ≡ Some l.rec

each-pair : (order qs : Order) → All (IsItem order) qs → All (IsPair order) (map number_id qs)
each-pair order qs all k d within =
    let item : Item = record { id = d.1; rec = blank } in
    let inside : k < length qs = omega (arith, length-map qs number_id, within) in
    let found = all k item inside in
    let same : under order (number_id (get_or qs k item)) ≡ (get_or qs k item).rec = ap (λ o. unwrap_or o blank) found in
    subst (IsPair order) (sym (get_or-map number_id qs k item d inside)) (record { found = found ∙ ap Some (sym same); number = ap (λ r. r.number) same })

recs-of : (order qs : Order) → All (IsItem order) qs → map (under order) (map number_id qs) ≡ map (λ l. l.rec) qs
recs-of order [] all = refl
recs-of order (l ∷ qs) all =
    let rest = recs-of order qs (All-tail (IsItem order) l qs all) in
    let head : under order (number_id l) ≡ l.rec = ap (λ o. unwrap_or o blank) (all 0 l (omega arith)) in
    λ i. head i ∷ rest i

leads : (order : Order) (ys : List (ℕ × ℕ)) → All (IsPair order) ys → map (rec_of order) (map (λ p. p.1) ys) ≡ map Some (map (under order) ys)
leads order [] each = refl
leads order (y ∷ ys) each =
    let rest = leads order ys (All-tail (IsPair order) y ys each) in
    let head = (each 0 y (omega arith)).found in
    λ i. head i ∷ rest i

-- the ids of an order, sorted by number, lead to the records of the state
pub lead-sorted : (order : Order) (next : ℕ) (ys : List (ℕ × ℕ)) → IsOrder order → AreNumbers order next
    → IsPermutation (map (λ r. r.number) (records_below (record_at order) next)) (map (λ r. r.number) (records order))
    → IsNonDecreasing (map (λ r. r.number) (records_below (record_at order) next))
    → IsPermutation (map number_id order) ys → IsNonDecreasingBy (λ p. p.0) ys → LeadTo order (records_below (record_at order) next) (map (λ p. p.1) ys)
lead-sorted order next ys is numbers same rising moved sorted =
    let items : All (IsItem order) order = rec_of-each-item order is in
    let each = All-permutation (IsPair order) (map number_id order) ys moved (each-pair order order items) in
    let recs : IsPermutation (records order) (map (under order) ys) =
    subst (λ rs. IsPermutation rs (map (under order) ys)) (recs-of order order items) (IsPermutation-map (under order) (map number_id order) ys moved) in
    let none : ℕ × ℕ = (0, 0) in
    let up : IsNonDecreasingBy (λ r. r.number) (map (under order) ys) = λ i j d less within.
    (let inside : j < length ys = omega (arith, length-map ys (under order), within) in
    let before : i < length ys = omega (arith, inside, less) in
    let first = ap (λ r. r.number) (get_or-map (under order) ys i none d before) ∙ (each i none before).number in
    let second = ap (λ r. r.number) (get_or-map (under order) ys j none d inside) ∙ (each j none inside).number in
    omega (arith, first, second, sorted i j none less inside)) in
    leads order ys each ∙ ap (map Some) (sorted-state order next (map (under order) ys) is numbers same rising recs up)

-- what the first records add to a part of the file, and one more
part-more : (p : Rec → Bool) (g : Rec → List FileRec) (recs : List Rec) (k : ℕ) (r : Rec) (out : List FileRec) → k < length recs → r ≡ get_or recs k r
    → g r ≡ map file_rec (cond (p r) (r ∷ []) []) → out ≡ map file_rec (filter p (take k recs)) → out ++ g r ≡ map file_rec (filter p (take (k + 1) recs))
part-more p g recs k r out within is own so_far =
    let before = filter p (take k recs) in
    (λ i. so_far i ++ own i)
    ∙ sym (map-append file_rec before (cond (p r) (r ∷ []) []))
    ∙ (λ i. map file_rec (before ++ cond (p (is i)) (is i ∷ []) []))
    ∙ ap (map file_rec) (sym (filter_more p recs k r within))

new-own : (r : Rec) → new_part r ≡ map file_rec (cond (not (is_tried r)) (r ∷ []) [])
new-own r = by (is_tried r)
  where
    by : (b : Bool) → (if b then [] else file_rec r ∷ []) ≡ map file_rec (cond (not b) (r ∷ []) [])
    by true = refl
    by false = refl

tried-own : (r : Rec) → tried_part r ≡ map file_rec (cond (is_tried r) (r ∷ []) [])
tried-own r = by (is_tried r)
  where
    by : (b : Bool) → (if b then file_rec r ∷ [] else []) ≡ map file_rec (cond b (r ∷ []) [])
    by true = refl
    by false = refl

pub new-more : (recs : List Rec) (k : ℕ) (r : Rec) (out : List FileRec) → k < length recs → r ≡ get_or recs k r
    → out ≡ map file_rec (filter (λ q. not (is_tried q)) (take k recs)) → out ++ new_part r ≡ map file_rec (filter (λ q. not (is_tried q)) (take (k + 1) recs))
new-more recs k r out within is so_far = part-more (λ q. not (is_tried q)) new_part recs k r out within is (new-own r) so_far

pub tried-more : (recs : List Rec) (k : ℕ) (r : Rec) (out : List FileRec) → k < length recs → r ≡ get_or recs k r
    → out ≡ map file_rec (filter is_tried (take k recs)) → out ++ tried_part r ≡ map file_rec (filter is_tried (take (k + 1) recs))
tried-more recs k r out within is so_far = part-more is_tried tried_part recs k r out within is (tried-own r) so_far

-- the first records have no more that pass than all have
few-first : (p : Rec → Bool) (recs : List Rec) (k : ℕ) → length (filter p (take k recs)) ≤ length (filter p recs)
few-first p [] zero = omega arith
few-first p [] (suc k) = omega arith
few-first p (r ∷ recs) zero = omega arith
few-first p (r ∷ recs) (suc k) = by (p r) (few-first p recs k)
  where
    by : (b : Bool) → length (filter p (take k recs)) ≤ length (filter p recs)
        → length (cond b (r ∷ filter p (take k recs)) (filter p (take k recs))) ≤ length (cond b (r ∷ filter p recs) (filter p recs))
    by true rest = omega (arith, rest)
    by false rest = rest

pub new-first : (st : State) (k : ℕ) (out : List FileRec) → IsSound st → out ≡ map file_rec (filter (λ q. not (is_tried q)) (take k st.records)) → length out ≤ 65536
new-first st k out sound is =
    let first = filter (λ (q : Rec). not (is_tried q)) (take k st.records) in
    omega (arith, ap length is, length-map first file_rec, few-first (λ q. not (is_tried q)) st.records k, (snapshot_fits st sound).few_new, length-map (new_records st) file_rec)

pub as-long : (order : Order) (recs : List Rec) (ids : List ℕ) → LeadTo order recs ids → length ids ≡ length recs
as-long order recs ids lead =
    omega (arith, length-map ids (rec_of order), ap length lead, length-map recs Some)

-- an id leads to the record of its position
pub lead-at : (order : Order) (recs : List Rec) (ids : List ℕ) → LeadTo order recs ids → (j : ℕ) (e : Rec) → j < length ids
    → rec_of order (get_or ids j 0) ≡ Some (get_or recs j e)
lead-at order recs ids lead j e within =
    let nothing : Option Rec = None in
    let inside : j < length recs = omega (arith, within, as-long order recs ids lead) in
    sym (get_or-map (rec_of order) ids j 0 nothing within)
    ∙ ap (λ (os : List (Option Rec)). get_or os j nothing) lead
    ∙ get_or-map Some recs j e nothing inside

rising-pairs : (st : State) → IsSound st → AllPairs (λ (r : Rec) (q : Rec). r.number < q.number) st.records
rising-pairs st sound = AllPairs-from_map (λ m n. m < n) (λ (r : Rec). r.number) st.records (AllPairs-from_increasing (map (λ r. r.number) st.records) sound.rising)

-- two positions have two ids
ids-apart : (order : Order) (st : State) (ids : List ℕ) → LeadTo order st.records ids → IsSound st → (j k : ℕ) → j < k → k < length ids
    → get_or ids j 0 ≢ get_or ids k 0
ids-apart order st ids lead sound j k before within same =
    let inside : k < length st.records = omega (arith, within, as-long order st.records ids lead) in
    let one : get_or st.records j blank ≡ get_or st.records k blank =
    some_is (get_or st.records j blank) (get_or st.records k blank) (sym (lead-at order st.records ids lead j blank (omega (arith, before, within))) ∙ ap (rec_of order) same ∙ lead-at order st.records ids lead k blank within) in
    let less = rising-pairs st sound j k blank before inside in
    omega (arith, less, ap (λ r. r.number) one)

-- by id, the index of each of the first records that is in the new table
abbrev pub AreKnown : List Rec → List ℕ → List ℕ → ℕ → Type 0
AreKnown recs ids indexes done =
    (j : ℕ) → j < done → is_tried (get_or recs j blank) ≡ false
    → get_or indexes (get_or ids j 0) 0 ≡ length (filter (λ q. not (is_tried q)) (take j recs))

module _ (order : Order) (st : State) (ids : List ℕ) (lead : LeadTo order st.records ids) (sound : IsSound st) (k : ℕ) (within : k < length ids) (r : Rec)
    (is : r ≡ get_or st.records k blank) (indexes : List ℕ) (known : AreKnown st.records ids indexes k) where
  pub known-tried : is_tried r ≡ true → AreKnown st.records ids indexes (k + 1)
  known-tried tried j less untried = elim (cases_eq j k) [
    | inl same ↦ absurd (let here : is_tried (get_or st.records k blank) ≡ false = ap (λ n. is_tried (get_or st.records n blank)) (sym same) ∙ untried in
        let there : is_tried (get_or st.records k blank) ≡ true = ap is_tried (sym is) ∙ tried in cc)
    | inr differs ↦ known j (omega (arith, less, differs)) untried
  ]

  pub known-new : (count : ℕ) → get_or ids k 0 < length indexes → count ≡ length (filter (λ q. not (is_tried q)) (take k st.records))
      → AreKnown st.records ids (set indexes (get_or ids k 0) count) (k + 1)
  known-new count room count-is j less untried = elim (cases_eq j k) [
    | inl same ↦
        ap (λ n. get_or (set indexes (get_or ids k 0) count) (get_or ids n 0) 0) same
        ∙ get_or-set_same indexes (get_or ids k 0) count 0 room
        ∙ count-is
        ∙ ap (λ n. length (filter (λ (q : Rec). not (is_tried q)) (take n st.records))) (sym same)
    | inr differs ↦
        let before : j < k = omega (arith, less, differs) in
        get_or-set_other indexes (get_or ids k 0) (get_or ids j 0) count 0 (ids-apart order st ids lead sound j k before within)
        ∙ known j before untried
  ]

-- the index of a record that passes is the number of those before it that pass
index-at : (p : Rec → Bool) (recs : List Rec) (j : ℕ) (e : Rec) → AllPairs (λ (r : Rec) (q : Rec). r.number < q.number) recs → j < length recs
    → p (get_or recs j e) ≡ true → length (filter p (take j recs)) ≡ position_or_len (λ q. q.number == (get_or recs j e).number) (filter p recs)
index-at p [] j e up within passes = absurd (omega arith)
index-at p (r ∷ recs) zero e up within passes = by (p r) passes
  where
    by : (b : Bool) → b ≡ true → 0 ≡ position_or_len (λ q. q.number == r.number) (cond b (r ∷ filter p recs) (filter p recs))
    by true h = sym (ap (λ b. if not b then 1 + position_or_len (λ q. q.number == r.number) (filter p recs) else 0) (eq-eqb r.number r.number refl))
    by false h = absurd (cc)
index-at p (r ∷ recs) (suc j) e up within passes =
    let inside : j < length recs = omega (arith, within) in
    let rest = index-at p recs j e (pairs_tail (λ (a : Rec) (b : Rec). a.number < b.number) r recs up) inside passes in
    let below = up 0 (suc j) e (omega arith) within in
    let differs : (r.number == (get_or recs j e).number) ≡ false = ne_eqb r.number (get_or recs j e).number (λ same. omega (arith, below, same)) in
    by (p r) rest differs
  where
    by : (b : Bool) → length (filter p (take j recs)) ≡ position_or_len (λ q. q.number == (get_or recs j e).number) (filter p recs)
        → (r.number == (get_or recs j e).number) ≡ false
        → length (cond b (r ∷ filter p (take j recs)) (filter p (take j recs))) ≡ position_or_len (λ q. q.number == (get_or recs j e).number) (cond b (r ∷ filter p recs) (filter p recs))
    by true rest differs = omega (arith, rest, ap (λ b. if not b then 1 + position_or_len (λ q. q.number == (get_or recs j e).number) (filter p recs) else 0) differs)
    by false rest differs = rest

-- once all records are gathered, each of the new table has its index
pub indexes-all : (order : Order) (next : ℕ) (st : State) (ids indexes : List ℕ) (done : ℕ) → AreNumbers order next → LeadTo order st.records ids → IsSound st
    → AreKnown st.records ids indexes done → length ids ≤ done → All (λ id. id < length indexes) ids → AreIndexes order st indexes
indexes-all order next st ids indexes done numbers lead sound known all below id r at there untried =
    let j = there.0 in
    let inside : j < length st.records = there.1 in
    let within : j < length ids = omega (arith, inside, as-long order st.records ids lead) in
    let is : get_or st.records j blank ≡ r = get_or_default st.records j blank r inside ∙ there.2 in
    let leads : rec_of order (get_or ids j 0) ≡ Some r = lead-at order st.records ids lead j blank within ∙ ap Some is in
    let one : get_or ids j 0 ≡ id = numbers.one (get_or ids j 0) id r r leads at refl in
    let new : is_tried (get_or st.records j blank) ≡ false = ap is_tried is ∙ untried in
    let room : id < length indexes = subst (λ n. n < length indexes) one (below j 0 within) in
    slice_get-get_or indexes id 0 room
    ∙ ap Some (ap (λ n. get_or indexes n 0) (sym one)
    ∙ known j (omega (arith, within, all)) new
    ∙ index-at (λ q. not (is_tried q)) st.records j blank (rising-pairs st sound) inside (ap not new)
    ∙ ap (index_in (new_records st)) is)

-- what is known of the record in a slot
pub slot-known : {ws : List Waiter} (places : Places) (order : Order) (slots : Slots) (next : ℕ) (clashes : List ℕ) (good : ℕ) (stored : AreStored places order slots next ws)
    (bucket slot id : ℕ) → bucket < 1024 → slot < 64 → new_id slots bucket slot ≡ Some id → (indexes : List ℕ) → AreIndexes order (state_with places order clashes good next) indexes
    → (r : Rec) × (new_rec_at (state_with places order clashes good next) bucket slot ≡ Some r)
    × (slice_get indexes id ≡ Some (index_in (new_records (state_with places order clashes good next)) r))
slot-known places order slots next clashes good stored bucket slot id low small at indexes known =
    let st = state_with places order clashes good next in
    let there = stored.grid.new_from bucket slot id low small at in
    let found = occupant-some places order slots next clashes good stored bucket slot id there.0 low small at there.1 in
    let in_state = (find-Some (is_new_at places bucket slot) st.records there.0 found).0 in
    (there.0, found, known id there.0 there.1 in_state (untried-at places bucket slot there.0 there.2))
