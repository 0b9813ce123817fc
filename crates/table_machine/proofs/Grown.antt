-- The records of a sound state are appended one after another: none of those in tried is lost.
use Rattle.std.proofs.Common.{◌≡◌, ◌≢◌, ℕ, zero, suc, ◌+◌, Bool, true, false, not, ◌||◌, List, [], ◌∷◌, ◌++◌, map, length, All, Contains, None, is_some, refl, sym, ap, subst, ◌∙◌, ⊎_elim, arith, true≢false, if◌then◌else◌, length-append}
use Rattle.std.specs.List.{range_with_len}
use Rattle.std.proofs.lemmas.Bool.{both_ways}
use Rattle.std.proofs.lemmas.List.{append-nil, append_assoc}
use Rattle.std.proofs.lemmas.List.Elements.{All-contains, Contains-append_cases, Contains-append_left, Contains-append_right}
use Rattle.std.proofs.lemmas.List.Kept.{AllPairs-filter}
use Rattle.net_addr.specs.Ranges.{is_valid}
use Rattle.placing.specs.Places.{Places, tried_bucket}
use Rattle.peer_rec.specs.Rec.{is_tried, tried_by}
use Rattle.peer_rec.specs.declared.rec.Rec.{Rec}
use Rattle.peer_rec.specs.declared.place.Place.{Place}
use Rattle.peer_rec.specs.declared.place.Place.TheVariants.{New, Tried}
use Rattle.table_machine.specs.State.{State, tried_occupant}
use Rattle.table_machine.specs.Entries.{with_last}
use Rattle.table_machine.specs.Sound.{IsSound}
use Rattle.table_machine.proofs.Counts.{numbers_apart}
use Rattle.table_machine.proofs.Lists.{All-from_Contains, Contains-from_filter, Contains-head, find_none_from, none_in_nil, Contains-cases, pairs_append_by}
use Rattle.table_machine.proofs.Records.{own_slot, same_record, tried_at-same, tried_at_from}
use Rattle.table_machine.proofs.SoundBut.{is_at_own}
use Rattle.table_machine.specs.Snapshot.{file_rec, new_records, snapshot_of, tried_records}
use Rattle.table_machine.specs.Restoring.{with_records, record_of, with_all_new, with_all_tried, with_tried}
use Rattle.table_machine.proofs.Part.{AreApart, at-Contains, entry, entry-tried, kept_place, part, part-append, part-cases}
use Rattle.table_machine.proofs.Rising.{filter_nothing, pairs_head, pairs_tail}

-- a state in the middle of a restart: these records, with the buckets that were placed
abbrev pub grown : Places → (ℕ → ℕ → Bool) → List Rec → State
grown places has rs = record {
  places = places;
  records = part has 0 rs;
  order = range_with_len 0 (length rs);
  collisions = [];
  last_good = 1;
  next_number = length rs;
}

abbrev pub none : ℕ → ℕ → Bool
none b n = false

-- the records in the order of a file
abbrev pub all_of : State → List Rec
all_of st = new_records st ++ tried_records st

pub range-push : (a n m : ℕ) → m ≡ a + n → range_with_len a n ++ m ∷ [] ≡ range_with_len a (suc n)
range-push a zero m is = ap (λ k. k ∷ []) (omega (arith, is))
range-push a (suc n) m is = ap (λ l. a ∷ l) (range-push (a + 1) n m (omega (arith, is)))

pub grown-push : (places : Places) (has : ℕ → ℕ → Bool) (rs : List Rec) (r q : Rec) → q ≡ entry has (length rs) r → with_last (grown places has rs) q ≡ grown places has (rs ++ r ∷ [])
grown-push places has rs r q is =
    let long : length (rs ++ r ∷ []) ≡ suc (length rs) = length-append rs (r ∷ []) ∙ omega arith in
    let records : part has 0 rs ++ q ∷ [] ≡ part has 0 (rs ++ r ∷ []) = ap (λ x. part has 0 rs ++ x ∷ []) is ∙ sym (part-append has 0 rs (r ∷ []) (length rs) (omega arith)) in
    let order : range_with_len 0 (length rs) ++ q.number ∷ [] ≡ range_with_len 0 (length (rs ++ r ∷ [])) =
    range-push 0 (length rs) q.number (ap (λ (x : Rec). x.number) is ∙ omega arith) ∙ ap (range_with_len 0) (sym long) in
    let next : length rs + 1 ≡ length (rs ++ r ∷ []) = omega (arith, long) in
    λ i. record { places = places; records = records i; order = order i; collisions = []; last_good = 1; next_number = next i }

untried-kept : (place : Place) → tried_by place ≡ false → New [] ≡ kept_place (λ b. false) place
untried-kept (New buckets) untried = ap New (sym (filter_nothing buckets))
untried-kept Tried untried = absurd (true≢false untried)

tried-kept : (p : ℕ → Bool) (place : Place) → tried_by place ≡ true → Tried ≡ kept_place p place
tried-kept p (New buckets) tried = absurd (true≢false (sym tried))
tried-kept p Tried tried = refl

pub grown-new : (places : Places) (rs qs : List Rec) → ((q : Rec) → Contains qs q → is_tried q ≡ false) → with_all_new (grown places none rs) (map file_rec qs) ≡ grown places none (rs ++ qs)
grown-new places rs [] untried = ap (grown places none) (sym (append-nil rs))
grown-new places rs (q ∷ qs) untried =
    ap (λ s. with_all_new s (map file_rec qs))
    (grown-push places none rs q (record_of (file_rec q) (length rs) (New []))
    (ap (record_of (file_rec q) (length rs)) (untried-kept q.place (untried q (Contains-head q qs)))))
    ∙ grown-new places (rs ++ q ∷ []) qs (λ p c. untried p (Contains-append_right (q ∷ []) qs p c))
    ∙ ap (grown places none) (append_assoc rs (q ∷ []) qs)

-- the tried slot of a record is empty as long as only others of a sound state were appended
occupant-none : (st : State) → IsSound st → (has : ℕ → ℕ → Bool) (rs : List Rec) → ((r : Rec) → Contains rs r → Contains st.records r) → (q : Rec) → Contains st.records q → is_tried q ≡ true
    → ((r : Rec) → Contains rs r → r.number ≢ q.number) → tried_occupant (grown st.places has rs) q.peer ≡ None
occupant-none st sound has rs from q there tried apart =
    find_none_from (is_at_own st.places q.peer) (part has 0 rs) (λ x c at.
    let bucket = tried_bucket st.places q.peer in
    let slot = own_slot st.places q.peer in
    let h = part-cases has 0 rs x c in
    let r = h.1 in
    let in_rs = at-Contains 0 rs h.0 r h.2 in
    let at_entry : is_at_own st.places q.peer (entry has h.0 r) ≡ true = subst (λ (t : Rec). is_at_own st.places q.peer t ≡ true) (sym h.3) at in
    let at_r : is_at_own st.places q.peer r ≡ true = tried_at-same st.places bucket slot (entry has h.0 r) r refl (λ is. sym (entry-tried has h.0 r) ∙ is) at_entry in
    let own : is_at_own st.places q.peer q ≡ true = tried_at_from st.places bucket slot q tried refl refl in
    apart r in_rs (sound.tried_slots bucket slot r q (from r in_rs) there at_r own))

-- in a list of records that differ, those before one differ from it
apart_before : (rs : List Rec) (q : Rec) (qs : List Rec) → AreApart (rs ++ q ∷ qs) → (r : Rec) → Contains rs r → r.number ≢ q.number
apart_before rs q qs apart r c same = absurd (by rs apart c)
  where
    by : (ps : List Rec) → AreApart (ps ++ q ∷ qs) → Contains ps r → ⊥
    by [] h has = none_in_nil r has
    by (p ∷ ps) h has =
        ⊎_elim
        (λ (is : p ≡ r). pairs_head (λ (s : Rec) (t : Rec). s.number ≢ t.number) p q (ps ++ q ∷ qs) h (Contains-append_right ps (q ∷ qs) q (Contains-head q qs)) (ap (λ (t : Rec). t.number) is ∙ same))
        (by ps (pairs_tail (λ (s : Rec) (t : Rec). s.number ≢ t.number) p (ps ++ q ∷ qs) h))
        (Contains-cases p ps r has)

pub grown-tried : (st : State) → IsSound st → (rs qs : List Rec) → ((r : Rec) → Contains (rs ++ qs) r → Contains st.records r) → AreApart (rs ++ qs)
    → ((q : Rec) → Contains qs q → is_tried q ≡ true) → with_all_tried (grown st.places none rs) (map file_rec qs) ≡ grown st.places none (rs ++ qs)
grown-tried st sound rs [] from apart tried = ap (grown st.places none) (sym (append-nil rs))
grown-tried st sound rs (q ∷ qs) from apart tried =
    let there = from q (Contains-append_right rs (q ∷ qs) q (Contains-head q qs)) in
    let is = tried q (Contains-head q qs) in
    let last = record_of (file_rec q) (length rs) Tried in
    let start = grown st.places none rs in
    let valid : not (is_valid q.peer.addr) ≡ false = ap not (All-contains (λ (r : Rec). is_valid r.peer.addr ≡ true) st.records q sound.valid there) in
    let empty = occupant-none st sound none rs (λ r c. from r (Contains-append_left rs (q ∷ qs) r c)) q there is (apart_before rs q qs apart) in
    let whole : rs ++ q ∷ [] ++ qs ≡ rs ++ q ∷ qs = append_assoc rs (q ∷ []) qs in
    let step : with_tried start (file_rec q) ≡ grown st.places none (rs ++ q ∷ []) =
    (λ i. if valid i || is_some (empty i) then start else with_last start last)
    ∙ grown-push st.places none rs q last (ap (record_of (file_rec q) (length rs)) (tried-kept (λ b. false) q.place is)) in
    ap (λ s. with_all_tried s (map file_rec qs)) step
    ∙ grown-tried st sound (rs ++ q ∷ []) qs (λ r c. from r (subst (λ l. Contains l r) whole c)) (subst AreApart (sym whole) apart)
    (λ p c. tried p (Contains-append_right (q ∷ []) qs p c))
    ∙ ap (grown st.places none) whole

-- the records in the order of a file are those of the state
pub all_of-from : (st : State) (r : Rec) → Contains (all_of st) r → Contains st.records r
all_of-from st r c =
    ⊎_elim (λ h. (Contains-from_filter (λ (q : Rec). not (is_tried q)) st.records r h).0) (λ h. (Contains-from_filter is_tried st.records r h).0)
    (Contains-append_cases (new_records st) (tried_records st) r c)

pub untried_there : (st : State) (r : Rec) → Contains (new_records st) r → is_tried r ≡ false
untried_there st r c = let h = (Contains-from_filter (λ (q : Rec). not (is_tried q)) st.records r c).1 in by (is_tried r) h
  where
    by : (b : Bool) → not b ≡ true → b ≡ false
    by true h = sym h
    by false h = refl

pub tried_there : (st : State) (r : Rec) → Contains (tried_records st) r → is_tried r ≡ true
tried_there st r c = (Contains-from_filter is_tried st.records r c).1

pub all_of-apart : (st : State) → IsSound st → AreApart (all_of st)
all_of-apart st sound =
    let differ = λ (r : Rec) (q : Rec). r.number ≢ q.number in
    pairs_append_by differ (new_records st) (tried_records st)
    (AllPairs-filter differ (λ (q : Rec). not (is_tried q)) st.records (numbers_apart st sound))
    (AllPairs-filter differ is_tried st.records (numbers_apart st sound))
    (All-from_Contains (λ (r : Rec). All (λ (q : Rec). r.number ≢ q.number) (tried_records st)) (new_records st) (λ r new.
    All-from_Contains (λ (q : Rec). r.number ≢ q.number) (tried_records st) (λ q tried same.
    let is = same_record st.records r q sound.rising (all_of-from st r (Contains-append_left (new_records st) (tried_records st) r new)) (all_of-from st q (Contains-append_right (new_records st) (tried_records st) q tried)) same in
    both_ways (is_tried r) (untried_there st r new) (ap is_tried is ∙ tried_there st q tried))))

-- what is appended from the file of a sound state: all its records, in no bucket
pub with_records-all : (st : State) → IsSound st → with_records (snapshot_of st) st.places ≡ grown st.places none (all_of st)
with_records-all st sound =
    ap (λ s. with_all_tried s (map file_rec (tried_records st))) (grown-new st.places [] (new_records st) (untried_there st))
    ∙ grown-tried st sound (new_records st) (tried_records st) (all_of-from st) (all_of-apart st sound) (tried_there st)
