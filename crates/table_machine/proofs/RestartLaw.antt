-- The restart law: what a save writes of a sound state, restored with the same map, is that state
-- after a restart, and no peer is there twice.
use Rattle.std.proofs.Common.{◌≡◌, ◌≢◌, ℕ, ◌+◌, ◌<◌, Bool, true, false, not, ◌==◌, ◌&&◌, ◌||◌, List, [], ◌∷◌, ◌++◌, map, length, All, AllPairs, Contains, Option, Some, None, refl, sym, ap, subst, ◌∙◌, inl, inr, ⊎_elim, arith, true≢false, if◌then◌else◌}
use Rattle.std.specs.List.{range_with_len}
use Rattle.std.proofs.lemmas.Bool.{both_ways, ne_eqb}
use Rattle.std.proofs.lemmas.Bool.Decides.{Decides-eqb}
use Rattle.std.proofs.lemmas.Slice.Eq.{bytes_eq-Decides}
use Rattle.std.proofs.lemmas.List.{append_assoc, length-map, map-append}
use Rattle.std.proofs.lemmas.List.Elements.{All-contains, Contains-append_left, Contains-append_right}
use Rattle.std.proofs.lemmas.List.Folds.{list_any-from_Any, list_any_none}
use Rattle.std.proofs.lemmas.List.FromFn.{get_or-range_with_len, length-range_with_len}
use Rattle.std.proofs.lemmas.List.Kept.{AllPairs-filter}
use Rattle.net_addr.specs.Ranges.{is_valid}
use Rattle.net_addr.specs.Same.{same_peer, same_peer-Decides}
use Rattle.placing.specs.Places.{sum_of}
use Rattle.peer_rec.specs.Rec.{IsPlace, IsRec, buckets_by, buckets_of, is_tried, tried_by}
use Rattle.peer_rec.specs.declared.rec.Rec.{Rec}
use Rattle.peer_rec.specs.declared.place.Place.{Place}
use Rattle.peer_rec.specs.declared.place.Place.TheVariants.{New, Tried}
use Rattle.table_machine.specs.State.{State, by_number}
use Rattle.table_machine.specs.Entries.{delete}
use Rattle.table_machine.specs.Sound.{IsSound}
use Rattle.table_machine.proofs.Lists.{All-from_Contains, AllPairs-map, Contains-cases, Contains-head, Contains-tail, none_in_nil, pairs_append_by}
use Rattle.table_machine.proofs.Records.{number_found, same_by_peer}
use Rattle.peer_rec.specs.declared.file_rec.FileRec.{FileRec}
use Rattle.table_machine.specs.Snapshot.{file_rec, listed_of, new_records, snapshot_of, tried_records}
use Rattle.table_machine.specs.Restoring.{drop_all, drop_record, duplicate, duplicate_from, is_repeated, place_all, restored, uses_buckets}
use Rattle.table_machine.specs.Restart.{restart}
use Rattle.table_machine.proofs.Part.{At, at-Contains, at_from, entry-buckets, part-cases, part-whole}
use Rattle.table_machine.proofs.Grown.{all_of, all_of-from, with_records-all, grown, none, tried_there, untried_there}
use Rattle.table_machine.proofs.Placed.{is_pair, place-all}
use Rattle.table_machine.proofs.Listed.{listed-all, listed-apart, listed-from}
use Rattle.table_machine.proofs.Rising.{filter_whole, pairs_head, pairs_tail}

-- the pairs of the file
abbrev placed : State → ℕ → ℕ → Bool
placed st b n = none b n || is_pair (listed_of st) b n

placed-all : (st : State) → IsSound st → (m : ℕ) (r : Rec) → At 0 (all_of st) m r → (b : ℕ) → Contains (buckets_of r) b → placed st b m ≡ true
placed-all st sound m r at b listed =
    let c = listed-all st sound m r at b listed in
    list_any-from_Any (λ (p : ℕ × ℕ). b == p.0 && m == p.1) (listed_of st)
    (c.0, (b, m), c.1, c.2, λ i. (Decides-eqb b b).1 refl i && (Decides-eqb m m).1 refl i)

uses : (st : State) → uses_buckets (snapshot_of st) st.places ≡ true
uses st = (bytes_eq-Decides (sum_of st.places) (sum_of st.places)).1 refl

-- a record of the first part of a list
at-left : (n : ℕ) (xs ys : List Rec) (m : ℕ) (r : Rec) → At n (xs ++ ys) m r → m < n + length xs → At n xs m r
at-left n [] ys m r at below = let from = at_from n ys m r at in absurd (omega arith)
at-left n (x ∷ xs) ys m r (inl h) below = inl h
at-left n (x ∷ xs) ys m r (inr rest) below = inr (at-left (n + 1) xs ys m r rest (omega arith))

-- if each record that is looked for has a bucket, nothing is deleted
drop-none : (s : State) (ns : List ℕ) → ((n : ℕ) → Contains ns n → (r : Rec) → by_number s n ≡ Some r → (length (buckets_of r) == 0) ≡ false) → drop_all s ns ≡ s
drop-none s [] some = refl
drop-none s (n ∷ ns) some = ap (λ x. drop_all x ns) (by (by_number s n) refl) ∙ drop-none s ns (λ m c. some m (Contains-tail n ns m c))
  where
    by : (o : Option Rec) → by_number s n ≡ o → drop_record s o ≡ s
    by None is = refl
    by (Some r) is = ap (λ b. if b then delete s r else s) (some n (Contains-head n ns) r is)

some_bucket : (place : Place) → IsPlace place → tried_by place ≡ false → 0 < length (buckets_by place)
some_bucket (New buckets) is untried = is.some
some_bucket Tried is untried = absurd (true≢false untried)

pub in_range-below : (n k : ℕ) → Contains (range_with_len 0 n) k → k < n
in_range-below n k c =
    let long = length-range_with_len 0 n in
    let within = c.1 in
    omega (arith, get_or-range_with_len 0 n c.0 k (omega arith), c.2)

kept : (st : State) → IsSound st → drop_all (grown st.places (placed st) (all_of st)) (range_with_len 0 (length (map file_rec (new_records st)))) ≡ grown st.places (placed st) (all_of st)
kept st sound =
    drop-none (grown st.places (placed st) (all_of st)) (range_with_len 0 (length (map file_rec (new_records st)))) (λ n c r found.
    let h = number_found (grown st.places (placed st) (all_of st)).records n r found in
    let e = part-cases (placed st) 0 (all_of st) r h.0 in
    let q = e.1 in
    let number : e.0 ≡ n = ap (λ (t : Rec). t.number) e.3 ∙ h.1 in
    let below = in_range-below (length (map file_rec (new_records st))) n c in
    let new = at-Contains 0 (new_records st) e.0 q (at-left 0 (new_records st) (tried_records st) e.0 q e.2 (omega (arith, number, length-map (new_records st) file_rec))) in
    let some = some_bucket q.place (All-contains IsRec st.records q sound.records (all_of-from st q (at-Contains 0 (all_of st) e.0 q e.2))).place (untried_there st q new) in
    let buckets : buckets_of r ≡ buckets_of q =
    ap buckets_of (sym e.3) ∙ entry-buckets (placed st) e.0 q ∙ filter_whole (λ b. placed st b e.0) (buckets_of q) (placed-all st sound e.0 q e.2) in
    ne_eqb (length (buckets_of r)) 0 (λ nothing. omega (arith, nothing, ap length buckets)))

pub restart_law : (st : State) → IsSound st → restored (snapshot_of st) st.places ≡ restart st
restart_law st sound =
    let numbers = range_with_len 0 (length (map file_rec (new_records st))) in
    (λ i. drop_all (place_all (uses st i) (with_records-all st sound i) (listed_of st)) numbers)
    ∙ ap (λ s. drop_all s numbers) (place-all st sound none (listed_of st) (listed-from st sound) (listed-apart st sound) (λ p c. refl))
    ∙ kept st sound
    ∙ (λ i. record (restart st) { records = part-whole (placed st) 0 (all_of st) (placed-all st sound) i })

-- no peer is in the file twice
peers_apart : (st : State) → IsSound st → AllPairs (λ (r : Rec) (q : Rec). r.peer ≢ q.peer) (all_of st)
peers_apart st sound =
    let differ = λ (r : Rec) (q : Rec). r.peer ≢ q.peer in
    pairs_append_by differ (new_records st) (tried_records st)
    (AllPairs-filter differ (λ (q : Rec). not (is_tried q)) st.records sound.peers)
    (AllPairs-filter differ is_tried st.records sound.peers)
    (All-from_Contains (λ (r : Rec). All (λ (q : Rec). r.peer ≢ q.peer) (tried_records st)) (new_records st) (λ r new.
    All-from_Contains (λ (q : Rec). r.peer ≢ q.peer) (tried_records st) (λ q tried same.
    let is = same_by_peer st.records r q sound.peers (all_of-from st r (Contains-append_left (new_records st) (tried_records st) r new)) (all_of-from st q (Contains-append_right (new_records st) (tried_records st) q tried)) same in
    both_ways (is_tried r) (untried_there st r new) (ap is_tried is ∙ tried_there st q tried))))

-- each element before another one is related to it
pub pairs_before : {X : Type 0} (R : X → X → Type 0) (xs : List X) (q : X) (qs : List X) → AllPairs R (xs ++ q ∷ qs) → (x : X) → Contains xs x → R x q
pairs_before R [] q qs apart x c = absurd (none_in_nil x c)
pairs_before {X} R (y ∷ ys) q qs apart x c =
    ⊎_elim (λ (is : y ≡ x). subst (λ (z : X). R z q) is (pairs_head R y q (ys ++ q ∷ qs) apart (Contains-append_right ys (q ∷ qs) q (Contains-head q qs))))
    (pairs_before R ys q qs (pairs_tail R y (ys ++ q ∷ qs) apart) x) (Contains-cases y ys x c)

pub and-no : (x y : Bool) → y ≡ false → (x && y) ≡ false
and-no true y h = h
and-no false y h = refl

peers_differ : (p q : FileRec) → p.peer ≢ q.peer → same_peer p.peer q.peer ≡ false
peers_differ p q differ = by (same_peer p.peer q.peer) refl
  where
    by : (b : Bool) → same_peer p.peer q.peer ≡ b → b ≡ false
    by true h = absurd (differ ((same_peer-Decides p.peer q.peer).0 h))
    by false h = refl

pub duplicate-none : (earlier : List FileRec) (index : ℕ) (rs : List FileRec) → AllPairs (λ (p : FileRec) (q : FileRec). p.peer ≢ q.peer) (earlier ++ rs) → duplicate_from earlier index rs ≡ None
duplicate-none earlier index [] apart = refl
duplicate-none earlier index (r ∷ rs) apart =
    let none_before : is_repeated earlier r ≡ false =
    and-no (is_valid r.peer.addr) _ (list_any_none (λ (q : FileRec). is_valid q.peer.addr && same_peer q.peer r.peer) earlier
    (All-from_Contains (λ (q : FileRec). (is_valid q.peer.addr && same_peer q.peer r.peer) ≡ false) earlier (λ q c.
    and-no (is_valid q.peer.addr) _ (peers_differ q r (pairs_before (λ (p : FileRec) (s : FileRec). p.peer ≢ s.peer) earlier r rs apart q c))))) in
    ap (λ b. if b then Some index else duplicate_from (earlier ++ r ∷ []) (index + 1) rs) none_before
    ∙ duplicate-none (earlier ++ r ∷ []) (index + 1) rs (subst (AllPairs (λ (p : FileRec) (q : FileRec). p.peer ≢ q.peer)) (sym (append_assoc earlier (r ∷ []) rs)) apart)

pub no_duplicate : (st : State) → IsSound st → duplicate (snapshot_of st) ≡ None
no_duplicate st sound =
    duplicate-none [] 0 (map file_rec (new_records st) ++ map file_rec (tried_records st))
    (subst (AllPairs (λ (p : FileRec) (q : FileRec). p.peer ≢ q.peer)) (map-append file_rec (new_records st) (tried_records st))
    (AllPairs-map (λ (p : FileRec) (q : FileRec). p.peer ≢ q.peer) file_rec (all_of st) (peers_apart st sound)))
