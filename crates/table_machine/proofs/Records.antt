-- Records by number, by peer and by slot, and what a change or a deletion of one leaves.
use Rattle.std.proofs.Common.{◌≡◌, ◌≢◌, ℕ, Bool, true, false, not, ◌&&◌, ◌==◌, List, [], ◌∷◌, map, AllPairs, Contains, filter, find, Some, None, refl, sym, ap, subst, ◌∙◌, inl, inr, ◌⊎◌, true≢false, if◌then◌else◌}
use Rattle.std.specs.List.{list_any}
use Rattle.std.specs.List.Sorted.{IsStrictlyIncreasing}
use Rattle.std.proofs.lemmas.Bool.{and_parts, and_from, both_ways}
use Rattle.std.proofs.lemmas.Bool.Decides.{Decides-eqb}
use Rattle.net_addr.specs.Same.{same_peer, same_peer-Decides}
use Rattle.net_addr.specs.declared.peer.Peer.{Peer}
use Rattle.placing.specs.Places.{Places, new_slot, tried_bucket, tried_slot}
use Rattle.peer_rec.specs.Rec.{buckets_of, is_tried}
use Rattle.peer_rec.specs.declared.rec.Rec.{Rec}
use Rattle.table_machine.specs.State.{is_new_at, is_tried_at}
use Rattle.table_machine.specs.Entries.{change_number}
use Rattle.table_machine.proofs.Lists.{Contains-from_map, Contains-map, Contains-from_filter, Contains-filter, find-Some, find-None, find_only, same_by_number, same_unless_related, Contains-head, Contains-tail, list_any-Contains, Contains-list_any}

abbrev pub numbers : List Rec → List ℕ
numbers records = map (λ r. r.number) records

-- two records of one number are one record
pub same_record : (records : List Rec) (r q : Rec) → IsStrictlyIncreasing (numbers records) → Contains records r → Contains records q → r.number ≡ q.number → r ≡ q
same_record records r q = same_by_number (λ (s : Rec). s.number) records r q

-- two records of one peer are one record
pub same_by_peer : (records : List Rec) (r q : Rec) → AllPairs (λ p s. p.peer ≢ s.peer) records → Contains records r → Contains records q → r.peer ≡ q.peer → r ≡ q
same_by_peer records r q apart c e same = same_unless_related (λ (p : Rec) (s : Rec). p.peer ≢ s.peer) records r q apart c e (λ differ. differ same) (λ differ. differ (sym same))

-- a record is found by its number
pub find-number : (records : List Rec) (r : Rec) → IsStrictlyIncreasing (numbers records) → Contains records r → find (λ q. q.number == r.number) records ≡ Some r
find-number records r rising c =
    find_only (λ q. q.number == r.number) records r c ((Decides-eqb r.number r.number).1 refl)
    (λ q has same. same_record records q r rising has c ((Decides-eqb q.number r.number).0 same))

-- a search by a number finds a record of that number
pub number_found : (records : List Rec) (n : ℕ) (r : Rec) → find (λ q. q.number == n) records ≡ Some r → Contains records r × (r.number ≡ n)
number_found records n r found =
    let h = find-Some (λ (q : Rec). q.number == n) records r found in
    (h.0, (Decides-eqb r.number n).0 h.1)

-- a search by a peer finds a record of that peer
pub peer_found : (records : List Rec) (peer : Peer) (r : Rec) → find (λ q. same_peer peer q.peer) records ≡ Some r → Contains records r × (peer ≡ r.peer)
peer_found records peer r found =
    let h = find-Some (λ (q : Rec). same_peer peer q.peer) records r found in
    (h.0, (same_peer-Decides peer r.peer).0 h.1)

-- if a search by a peer finds nothing, no record has the peer
pub peer_missing : (records : List Rec) (peer : Peer) (q : Rec) → find (λ r. same_peer peer r.peer) records ≡ None → Contains records q → q.peer ≢ peer
peer_missing records peer q none c same =
    let fails = find-None (λ (r : Rec). same_peer peer r.peer) records q none c in
    both_ways (same_peer peer q.peer) fails ((same_peer-Decides peer q.peer).1 (sym same))

-- after a change at a number, each record is the given one or one of another number
pub changed_cases : (n : ℕ) (r : Rec) (records : List Rec) (q : Rec) → Contains (change_number n r records) q → (r ≡ q) ⊎ (Contains records q × (q.number ≢ n))
changed_cases n r records q c =
    let from = Contains-from_map (λ (p : Rec). if p.number == n then r else p) records q c in
    by from.0 from.1 (from.0.number == n) refl from.2
  where
    by : (p : Rec) → Contains records p → (b : Bool) → (p.number == n) ≡ b → (if p.number == n then r else p) ≡ q → (r ≡ q) ⊎ (Contains records q × (q.number ≢ n))
    by p has true h is = inl (sym (ap (λ b. if b then r else p) h) ∙ is)
    by p has false h is =
        let same : p ≡ q = sym (ap (λ b. if b then r else p) h) ∙ is in
        inr (subst (Contains records) same has, subst (λ (s : Rec). s.number ≢ n) same (λ one. true≢false (sym ((Decides-eqb p.number n).1 one) ∙ h)))

-- the given record is there, and so are those of other numbers
pub changed_own : (n : ℕ) (r : Rec) (records : List Rec) (q : Rec) → Contains records q → q.number ≡ n → Contains (change_number n r records) r
changed_own n r records q c own =
    subst (Contains (change_number n r records)) (ap (λ b. if b then r else q) ((Decides-eqb q.number n).1 own))
    (Contains-map (λ (p : Rec). if p.number == n then r else p) records q c)

pub changed_other : (n : ℕ) (r : Rec) (records : List Rec) (q : Rec) → Contains records q → q.number ≢ n → Contains (change_number n r records) q
changed_other n r records q c other = by (q.number == n) refl
  where
    by : (b : Bool) → (q.number == n) ≡ b → Contains (change_number n r records) q
    by true h = absurd (other ((Decides-eqb q.number n).0 h))
    by false h =
        subst (Contains (change_number n r records)) (ap (λ b. if b then r else q) h)
        (Contains-map (λ (p : Rec). if p.number == n then r else p) records q c)

-- a value that the given record shares with those of its number is the same along the list
pub change_number-images : {Y : Type 0} (f : Rec → Y) (n : ℕ) (r : Rec) (records : List Rec) → ((q : Rec) → Contains records q → q.number ≡ n → f r ≡ f q) → map f (change_number n r records) ≡ map f records
change_number-images f n r [] same = refl
change_number-images {Y} f n r (q ∷ records) same =
    let rest = change_number-images f n r records (λ p has. same p (Contains-tail q records p has)) in
    λ i. by (q.number == n) refl i ∷ rest i
  where
    by : (b : Bool) → (q.number == n) ≡ b → f (if b then r else q) ≡ f q
    by true h = same q (Contains-head q records) ((Decides-eqb q.number n).0 h)
    by false h = refl

-- the records of other numbers
abbrev pub without_number : ℕ → List Rec → List Rec
without_number n records = filter (λ q. not (q.number == n)) records

pub without_number-cases : (n : ℕ) (records : List Rec) (q : Rec) → Contains (without_number n records) q → Contains records q × (q.number ≢ n)
without_number-cases n records q c =
    let h = Contains-from_filter (λ (p : Rec). not (p.number == n)) records q c in
    (h.0, λ same. both_ways (not (q.number == n)) (ap not ((Decides-eqb q.number n).1 same)) h.1)

pub without_number-keeps : (n : ℕ) (records : List Rec) (q : Rec) → Contains records q → q.number ≢ n → Contains (without_number n records) q
without_number-keeps n records q c other = by (q.number == n) refl
  where
    by : (b : Bool) → (q.number == n) ≡ b → Contains (without_number n records) q
    by true h = absurd (other ((Decides-eqb q.number n).0 h))
    by false h = Contains-filter (λ (p : Rec). not (p.number == n)) records q c (ap not h)

-- the slot of a peer in its own bucket of the tried table
abbrev pub own_slot : Places → Peer → ℕ
own_slot places peer = tried_slot places peer (tried_bucket places peer)

-- a record at a slot of the tried table is in the tried table
pub tried_at-is_tried : (places : Places) (bucket slot : ℕ) (r : Rec) → is_tried_at places bucket slot r ≡ true → is_tried r ≡ true
tried_at-is_tried places bucket slot r at =
    (and_parts (is_tried r) (tried_bucket places r.peer == bucket)
    (and_parts (is_tried r && tried_bucket places r.peer == bucket) (tried_slot places r.peer bucket == slot) at).0).0

-- a record is at a slot of the new table if it lists the bucket and the slot is the peer's there
pub new_at_parts : (places : Places) (bucket slot : ℕ) (r : Rec) → is_new_at places bucket slot r ≡ true → Contains (buckets_of r) bucket × (new_slot places r.peer bucket ≡ slot)
new_at_parts places bucket slot r at =
    let parts = and_parts (list_any (λ b. b == bucket) (buckets_of r)) (new_slot places r.peer bucket == slot) at in
    (list_any-Contains bucket (buckets_of r) parts.0, (Decides-eqb (new_slot places r.peer bucket) slot).0 parts.1)

pub new_at_from : (places : Places) (bucket slot : ℕ) (r : Rec) → Contains (buckets_of r) bucket → new_slot places r.peer bucket ≡ slot → is_new_at places bucket slot r ≡ true
new_at_from places bucket slot r listed is =
    and_from (list_any (λ b. b == bucket) (buckets_of r)) (new_slot places r.peer bucket == slot)
    (Contains-list_any bucket (buckets_of r) listed) ((Decides-eqb (new_slot places r.peer bucket) slot).1 is)

pub tried_at_from : (places : Places) (bucket slot : ℕ) (r : Rec) → is_tried r ≡ true → tried_bucket places r.peer ≡ bucket → tried_slot places r.peer bucket ≡ slot
    → is_tried_at places bucket slot r ≡ true
tried_at_from places bucket slot r tried in_bucket at =
    and_from (is_tried r && tried_bucket places r.peer == bucket) (tried_slot places r.peer bucket == slot)
    (and_from (is_tried r) (tried_bucket places r.peer == bucket) tried ((Decides-eqb (tried_bucket places r.peer) bucket).1 in_bucket))
    ((Decides-eqb (tried_slot places r.peer bucket) slot).1 at)

-- the bucket and slot of a record in the tried table are its peer's
pub tried_at_parts : (places : Places) (bucket slot : ℕ) (r : Rec) → is_tried_at places bucket slot r ≡ true
    → (tried_bucket places r.peer ≡ bucket) × (tried_slot places r.peer bucket ≡ slot)
tried_at_parts places bucket slot r at =
    let outer = and_parts (is_tried r && tried_bucket places r.peer == bucket) (tried_slot places r.peer bucket == slot) at in
    let inner = and_parts (is_tried r) (tried_bucket places r.peer == bucket) outer.0 in
    ((Decides-eqb (tried_bucket places r.peer) bucket).0 inner.1, (Decides-eqb (tried_slot places r.peer bucket) slot).0 outer.1)

-- whether a record is at a slot depends only on its peer and its place
pub tried_at-same : (places : Places) (bucket slot : ℕ) (r q : Rec) → r.peer ≡ q.peer → (is_tried r ≡ true → is_tried q ≡ true)
    → is_tried_at places bucket slot r ≡ true → is_tried_at places bucket slot q ≡ true
tried_at-same places bucket slot r q peer stays at =
    let parts = tried_at_parts places bucket slot r at in
    tried_at_from places bucket slot q (stays (tried_at-is_tried places bucket slot r at))
    (subst (λ (p : Peer). tried_bucket places p ≡ bucket) peer parts.0) (subst (λ (p : Peer). tried_slot places p bucket ≡ slot) peer parts.1)

pub new_at-same : (places : Places) (bucket slot : ℕ) (r q : Rec) → r.peer ≡ q.peer → (Contains (buckets_of r) bucket → Contains (buckets_of q) bucket)
    → is_new_at places bucket slot r ≡ true → is_new_at places bucket slot q ≡ true
new_at-same places bucket slot r q peer stays at =
    let parts = new_at_parts places bucket slot r at in
    new_at_from places bucket slot q (stays parts.0) (subst (λ (p : Peer). new_slot places p bucket ≡ slot) peer parts.1)
