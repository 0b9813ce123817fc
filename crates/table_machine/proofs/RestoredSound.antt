-- What is restored of any file without a peer twice is a sound state.
use Rattle.std.proofs.Common.{◌≡◌, ◌≢◌, ℕ, ◌+◌, ◌<◌, ◌≤◌, ◌^◌, Bool, true, false, not, ◌==◌, ◌&&◌, ◌||◌, nat_lt, get_or, List, [], ◌∷◌, ◌++◌, length, All, AllPairs, Contains, Option, Some, None, is_some, refl, sym, ap, subst, ◌∙◌, inl, inr, ⊎_elim, ◌⊎◌, arith, true≢false, if◌then◌else◌, length-append}
use Rattle.std.specs.List.{range_with_len}
use Rattle.std.specs.Prelude.{bytes_eq}
use Rattle.std.proofs.lemmas.Bool.{both_ways, and_parts, and_from, eqb-false, ltb-true, ltb-false}
use Rattle.std.proofs.lemmas.Bool.Decides.{Decides-eqb}
use Rattle.std.proofs.lemmas.List.{append-nil, append_assoc}
use Rattle.std.proofs.lemmas.List.Elements.{All-contains, All-head, All-tail, Contains-append_left, Contains-append_right, Contains-get_or, Contains-push_cases}
use Rattle.std.proofs.lemmas.List.Folds.{list_any-from_Any}
use Rattle.std.proofs.lemmas.List.Quantifiers.{all_pairs_push}
use Rattle.std.proofs.lemmas.List.Sorted.{IsPermutation-refl}
use Rattle.net_addr.specs.Ranges.{is_valid}
use Rattle.net_addr.specs.Same.{same_peer, same_peer-Decides}
use Rattle.net_addr.specs.declared.peer.Peer.{Peer}
use Rattle.placing.specs.Places.{IsPlaces, Places, new_bucket, new_slot, sum_of, tried_bucket, tried_slot}
use Rattle.peer_rec.specs.Rec.{IsRec, buckets_of}
use Rattle.peer_rec.specs.declared.rec.Rec.{Rec}
use Rattle.peer_rec.specs.declared.place.Place.TheVariants.{New, Tried}
use Rattle.table_machine.specs.State.{State, empty_state, by_number, is_tried_at, new_rec_at, tried_occupant}
use Rattle.table_machine.specs.Entries.{delete, with_last}
use Rattle.table_machine.specs.Sound.{IsSound}
use Rattle.table_machine.proofs.Buckets.{new_bucket-below}
use Rattle.table_machine.proofs.Lists.{Contains-cases, Contains-head, Contains-tail, find-None, none_in_nil}
use Rattle.table_machine.proofs.Records.{new_at_parts, number_found, own_slot, same_record, tried_at-is_tried, tried_at_parts, without_number-cases}
use Rattle.table_machine.proofs.SoundBut.{is_at_own}
use Rattle.peer_rec.specs.declared.file_rec.FileRec.{FileRec}
use Rattle.peer_rec.specs.Snapshot.{IsFileRec, Snapshot}
use Rattle.table_machine.specs.Restoring.{with_records, drop_all, drop_record, duplicate, duplicate_from, give_if_empty, give_or, is_repeated, place_all, place_pair, place_record, record_of, restored, uses_buckets, with_all_new, with_all_tried, with_new, with_tried}
use Rattle.table_machine.proofs.Filling.{IsFilling, IsPlaced, fill-delete, fill-give, fill-last, sound_from_filling}
use Rattle.table_machine.proofs.RestartLaw.{pairs_before}
use Rattle.table_machine.proofs.Listed.{in_range}

-- what a file meets that is restored: the records are few, their numbers and addresses are in the
-- ranges of the fields, and the listed buckets are below the count
pub record IsFile (snap : Snapshot) : Type 0 where
  pub few_new : length snap.new_recs ≤ 65536
  pub few_tried : length snap.tried_recs ≤ 16384
  pub new_recs : All IsFileRec snap.new_recs
  pub tried_recs : All IsFileRec snap.tried_recs
  pub buckets : All (λ pair. pair.0 < snap.bucket_count) snap.listed

-- the peer of a valid record is that of none before it
abbrev pub NotBefore : FileRec → FileRec → Type 0
NotBefore p q = is_valid q.peer.addr ≡ true → p.peer ≢ q.peer

pub duplicate-apart : (earlier : List FileRec) (index : ℕ) (rs : List FileRec) → duplicate_from earlier index rs ≡ None → AllPairs NotBefore earlier → AllPairs NotBefore (earlier ++ rs)
duplicate-apart earlier index [] found apart = subst (AllPairs NotBefore) (sym (append-nil earlier)) apart
duplicate-apart earlier index (r ∷ rs) found apart =
    by (is_repeated earlier r) refl (λ more. duplicate-apart (earlier ++ r ∷ []) (index + 1) rs more) found
  where
    repeated : is_valid r.peer.addr ≡ true → (q : FileRec) → Contains earlier q → q.peer ≡ r.peer → is_repeated earlier r ≡ true
    repeated valid q c same =
        and_from (is_valid r.peer.addr) _ valid
        (list_any-from_Any (λ (p : FileRec). is_valid p.peer.addr && same_peer p.peer r.peer) earlier
        (c.0, q, c.1, c.2, and_from (is_valid q.peer.addr) (same_peer q.peer r.peer) (subst (λ (t : Peer). is_valid t.addr ≡ true) (sym same) valid) ((same_peer-Decides q.peer r.peer).1 same)))

    by : (b : Bool) → is_repeated earlier r ≡ b → (duplicate_from (earlier ++ r ∷ []) (index + 1) rs ≡ None → AllPairs NotBefore (earlier ++ r ∷ []) → AllPairs NotBefore (earlier ++ r ∷ [] ++ rs))
        → (if b then Some index else duplicate_from (earlier ++ r ∷ []) (index + 1) rs) ≡ None → AllPairs NotBefore (earlier ++ r ∷ rs)
    by true h more none = absurd (cc)
    by false h more none =
        subst (AllPairs NotBefore) (append_assoc earlier (r ∷ []) rs)
        (more none (all_pairs_push NotBefore earlier r apart (λ k d within valid same.
        both_ways (is_repeated earlier r) h (repeated valid (get_or earlier k d) (Contains-get_or earlier k d within) same))))

-- where a fold over the records of a file has come to
pub record Progress (n : ℕ) (earlier : List FileRec) (st : State) : Type 0 where
  pub fill : IsFilling n st
  pub from : (q : Rec) → Contains st.records q → (f : FileRec) × Contains earlier f × (f.peer ≡ q.peer)
  pub few : st.next_number ≤ length earlier

fields-fit : (r : FileRec) (number : ℕ) → IsFileRec r → IsRec (record_of r number Tried)
fields-fit r number fits = record {
  addr = fits.addr;
  port = fits.port;
  source = fits.source;
  time = fits.time;
  services = fits.services;
  last_success = fits.last_success;
  last_try = omega arith;
  last_count = omega arith;
  attempts = fits.attempts;
  place = tt;
}

-- a step of either fold, by the record that it appends
module _ (n : ℕ) (earlier : List FileRec) (st : State) (r : FileRec) (rs : List FileRec) (so_far : Progress n earlier st) (apart : AllPairs NotBefore (earlier ++ r ∷ rs))
    (fits : IsFileRec r) (few : length earlier + 1 < 2 ^ 64) where
  fresh : is_valid r.peer.addr ≡ true → (q : Rec) → Contains st.records q → q.peer ≢ r.peer
  fresh valid q c same = let h = so_far.from q c in pairs_before NotBefore earlier r rs apart h.0 h.1 valid (h.2 ∙ same)

  next : st.next_number + 1 < 2 ^ 64
  next = let low = so_far.few in omega arith

  long : length (earlier ++ r ∷ []) ≡ length earlier + 1
  long = length-append earlier (r ∷ []) ∙ omega arith

  from-last : (q : Rec) → q.peer ≡ r.peer → (p : Rec) → Contains (with_last st q).records p → (f : FileRec) × Contains (earlier ++ r ∷ []) f × (f.peer ≡ p.peer)
  from-last q peer p c =
      ⊎_elim
      (λ old. let h = so_far.from p old in (h.0, Contains-append_left earlier (r ∷ []) h.0 h.1, h.2))
      (λ (is : q ≡ p). (r, Contains-append_right earlier (r ∷ []) r (Contains-head r []), sym peer ∙ ap (λ (t : Rec). t.peer) is))
      (Contains-push_cases st.records q p c)

  pub new-step : length earlier < n → Progress n (earlier ++ r ∷ []) (with_new st r)
  new-step below = record {
    fill = fill-last n st (record_of r st.next_number (New [])) so_far.fill refl next
        (λ bucket slot q c at other. absurd (none_in_nil bucket (new_at_parts st.places bucket slot (record_of r st.next_number (New [])) at).0))
        (λ bucket slot q c at other. absurd (true≢false (sym (tried_at-is_tried st.places bucket slot (record_of r st.next_number (New [])) at))))
        fresh
        record {
          fields = fields-fit r st.next_number fits;
          few = omega arith;
          below = λ k d within. absurd (omega arith);
          rising = λ k within. absurd (omega arith);
          valid = ⊎_elim (λ tried. absurd (true≢false (sym tried))) (λ some. absurd (omega arith));
        }
        (λ late. let low = so_far.few in absurd (omega arith));
    from = from-last (record_of r st.next_number (New [])) refl;
    few = let low = so_far.few in omega (arith, long);
  }

  -- a record that is lost
  pub lost : Progress n (earlier ++ r ∷ []) st
  lost = record {
    fill = so_far.fill;
    from = λ q c. let h = so_far.from q c in (h.0, Contains-append_left earlier (r ∷ []) h.0 h.1, h.2);
    few = let low = so_far.few in omega (arith, long);
  }

  pub tried-step : Progress n (earlier ++ r ∷ []) (with_tried st r)
  tried-step = by (is_valid r.peer.addr) (tried_occupant st r.peer) refl refl
    where
      last : Rec
      last = record_of r st.next_number Tried

      by : (valid : Bool) (o : Option Rec) → is_valid r.peer.addr ≡ valid → tried_occupant st r.peer ≡ o
          → Progress n (earlier ++ r ∷ []) (if not valid || is_some o then st else with_last st (record_of r st.next_number Tried))
      by false o is found = lost
      by true (Some q) is found = lost
      by true None is found = record {
        fill = fill-last n st (record_of r st.next_number Tried) so_far.fill refl next
            (λ bucket slot q c at other. absurd (none_in_nil bucket (new_at_parts st.places bucket slot (record_of r st.next_number Tried) at).0))
            (λ bucket slot q c at at_q.
            let parts = tried_at_parts st.places bucket slot (record_of r st.next_number Tried) at in
            let slots : slot ≡ own_slot st.places r.peer = sym parts.1 ∙ ap (tried_slot st.places r.peer) (sym parts.0) in
            let own : is_at_own st.places r.peer q ≡ true =
            subst (λ k. is_tried_at st.places (tried_bucket st.places r.peer) k q ≡ true) slots (subst (λ b. is_tried_at st.places b slot q ≡ true) (sym parts.0) at_q) in
            absurd (both_ways _ (find-None (is_at_own st.places r.peer) st.records q found c) own))
            fresh
            record {
              fields = fields-fit r st.next_number fits;
              few = omega arith;
              below = λ k d within. absurd (omega arith);
              rising = λ k within. absurd (omega arith);
              valid = λ p. is;
            }
            (λ late. inl refl);
        from = from-last (record_of r st.next_number Tried) refl;
        few = let low = so_far.few in omega (arith, long);
      }

pub all-new : (n : ℕ) (earlier : List FileRec) (st : State) (rs more : List FileRec) → Progress n earlier st → AllPairs NotBefore (earlier ++ rs ++ more) → All IsFileRec rs
    → length earlier + length rs ≤ n → n < 2 ^ 63 → Progress n (earlier ++ rs) (with_all_new st rs)
all-new n earlier st [] more so_far apart fits below few = subst (λ l. Progress n l st) (sym (append-nil earlier)) so_far
all-new n earlier st (r ∷ rs) more so_far apart fits below few =
    let step = new-step n earlier st r (rs ++ more) so_far (subst (AllPairs NotBefore) (append_assoc earlier (r ∷ rs) more) apart) (All-head IsFileRec r rs fits) (omega arith) (omega arith) in
    let whole : earlier ++ r ∷ [] ++ rs ≡ earlier ++ r ∷ rs = append_assoc earlier (r ∷ []) rs in
    subst (λ l. Progress n l (with_all_new (with_new st r) rs)) whole
    (all-new n (earlier ++ r ∷ []) (with_new st r) rs more step (subst (λ l. AllPairs NotBefore (l ++ more)) (sym whole) apart) (All-tail IsFileRec r rs fits)
    (omega (arith, length-append earlier (r ∷ []))) few)

pub all-tried : (n : ℕ) (earlier : List FileRec) (st : State) (rs : List FileRec) → Progress n earlier st → AllPairs NotBefore (earlier ++ rs) → All IsFileRec rs
    → length earlier + length rs < 2 ^ 63 → Progress n (earlier ++ rs) (with_all_tried st rs)
all-tried n earlier st [] so_far apart fits few = subst (λ l. Progress n l st) (sym (append-nil earlier)) so_far
all-tried n earlier st (r ∷ rs) so_far apart fits few =
    let step = tried-step n earlier st r rs so_far apart (All-head IsFileRec r rs fits) (omega arith) in
    let whole : earlier ++ r ∷ [] ++ rs ≡ earlier ++ r ∷ rs = append_assoc earlier (r ∷ []) rs in
    subst (λ l. Progress n l (with_all_tried (with_tried st r) rs)) whole
    (all-tried n (earlier ++ r ∷ []) (with_tried st r) rs step (subst (AllPairs NotBefore) (sym whole) apart) (All-tail IsFileRec r rs fits)
    (omega (arith, length-append earlier (r ∷ []))))

-- a record gets a bucket, or nothing happens
give-fill : (n : ℕ) (st : State) (r : Rec) (bucket : ℕ) (other : State) → IsFilling n st → Contains st.records r → is_valid r.peer.addr ≡ true → length (buckets_of r) ≢ 8 → bucket < 1024
    → IsFilling n other → IsFilling n (give_if_empty st r bucket other)
give-fill n st r bucket other fill has valid room below rest = by (new_rec_at st bucket (new_slot st.places r.peer bucket)) refl
  where
    by : (o : Option Rec) → new_rec_at st bucket (new_slot st.places r.peer bucket) ≡ o → IsFilling n (give_or st r bucket o other)
    by None empty = fill-give n st r bucket fill has valid room below empty
    by (Some q) is = rest

pair-fill : (n : ℕ) (same : Bool) (st : State) (pair : ℕ × ℕ) → IsFilling n st → (same ≡ true → pair.0 < 1024) → IsFilling n (place_pair same st pair)
pair-fill n same st pair fill below = by (by_number st pair.1) refl
  where
    place : (r : Rec) → Contains st.records r → (valid full s : Bool) → is_valid r.peer.addr ≡ valid → (length (buckets_of r) == 8) ≡ full → same ≡ s
        → IsFilling n (if not valid || full then st else (
        let by_source = give_if_empty st r (new_bucket st.places r.peer r.source) st in
        if s then give_if_empty st r pair.0 by_source else by_source))
    place r c false full s valid h is = fill
    place r c true true s valid h is = fill
    place r c true false true valid h is =
        give-fill n st r pair.0 _ fill c valid (eqb-false _ _ h) (below is)
        (give-fill n st r (new_bucket st.places r.peer r.source) st fill c valid (eqb-false _ _ h) (new_bucket-below st.places r.peer r.source) fill)
    place r c true false false valid h is =
        give-fill n st r (new_bucket st.places r.peer r.source) st fill c valid (eqb-false _ _ h) (new_bucket-below st.places r.peer r.source) fill

    by : (o : Option Rec) → by_number st pair.1 ≡ o → IsFilling n (place_record same st pair.0 o)
    by None is = fill
    by (Some r) is =
        place r (number_found st.records pair.1 r is).0 (is_valid r.peer.addr) (length (buckets_of r) == 8) same refl refl refl

place-fill : (n : ℕ) (same : Bool) (st : State) (pairs : List (ℕ × ℕ)) → IsFilling n st → (same ≡ true → (p : ℕ × ℕ) → Contains pairs p → p.0 < 1024) → IsFilling n (place_all same st pairs)
place-fill n same st [] fill below = fill
place-fill n same st (p ∷ ps) fill below =
    place-fill n same (place_pair same st p) ps (pair-fill n same st p fill (λ is. below is p (Contains-head p ps))) (λ is q c. below is q (Contains-tail p ps q c))

-- once those without a bucket are deleted, the state is sound
drop-sound : (n : ℕ) (st : State) (ns : List ℕ) → IsFilling n st → ((r : Rec) → Contains st.records r → Contains ns r.number ⊎ IsPlaced r) → IsSound (drop_all st ns)
drop-sound n st [] fill left = sound_from_filling n st fill (λ r c. ⊎_elim (λ none. absurd (none_in_nil r.number none)) (λ is. is) (left r c))
drop-sound n st (k ∷ ks) fill left = by (by_number st k) refl (λ s. drop-sound n s ks)
  where
    dropped : (q : Rec) → Contains st.records q → q.number ≡ k → (b : Bool) → (length (buckets_of q) == 0) ≡ b
        → ((s : State) → IsFilling n s → ((r : Rec) → Contains s.records r → Contains ks r.number ⊎ IsPlaced r) → IsSound (drop_all s ks))
        → IsSound (drop_all (if b then delete st q else st) ks)
    dropped q there number true none more =
        more (delete st q) (fill-delete n st q fill there) (λ r c.
        let h = without_number-cases q.number st.records r c in
        ⊎_elim (λ waits. ⊎_elim (λ (is : k ≡ r.number). absurd (h.1 (sym is ∙ sym number))) inl (Contains-cases k ks r.number waits)) inr (left r h.0))
    dropped q there number false some more =
        more st fill (λ r c.
        ⊎_elim (λ waits. ⊎_elim
        (λ (is : k ≡ r.number).
        let same = same_record st.records q r fill.rising there c (number ∙ is) in
        let has : length (buckets_of q) ≢ 0 = eqb-false _ _ some in
        inr (subst IsPlaced same (inr (omega (arith, has)))))
        inl (Contains-cases k ks r.number waits)) inr (left r c))

    by : (o : Option Rec) → by_number st k ≡ o → ((s : State) → IsFilling n s → ((r : Rec) → Contains s.records r → Contains ks r.number ⊎ IsPlaced r) → IsSound (drop_all s ks))
        → IsSound (drop_all (drop_record st o) ks)
    by None missing more =
        more st fill (λ r c.
        ⊎_elim (λ waits. ⊎_elim
        (λ (is : k ≡ r.number). absurd (both_ways (r.number == k) (find-None (λ (q : Rec). q.number == k) st.records r missing c) ((Decides-eqb r.number k).1 (sym is))))
        inl (Contains-cases k ks r.number waits)) inr (left r c))
    by (Some q) found more = let h = number_found st.records k q found in dropped q h.0 h.1 (length (buckets_of q) == 0) refl more

pub empty-filling : (n : ℕ) (places : Places) → IsPlaces places → IsFilling n (empty_state places)
empty-filling n places is = record {
  order = IsPermutation-refl [];
  rising = λ k within. absurd (omega arith);
  below_next = λ k d within. absurd (omega arith);
  places = is;
  next_number = omega arith;
  last_good = omega arith;
  nothing_waits = refl;
  new_slots = λ bucket slot r q c. absurd (none_in_nil r c);
  tried_slots = λ bucket slot r q c. absurd (none_in_nil r c);
  peers = λ r q c. absurd (none_in_nil r c);
  records = λ r c. absurd (none_in_nil r c);
  late = λ r c. absurd (none_in_nil r c);
}

pub restored_sound : (snap : Snapshot) (places : Places) → IsFile snap → IsPlaces places → duplicate snap ≡ None → IsSound (restored snap places)
restored_sound snap places is places_are none =
    let n = length snap.new_recs in
    let few_new = is.few_new in
    let few_tried = is.few_tried in
    let apart = duplicate-apart [] 0 (snap.new_recs ++ snap.tried_recs) none (λ i j d below within. absurd (omega arith)) in
    let start : Progress n [] (empty_state places) = record {
      fill = empty-filling n places places_are;
      from = λ q c. absurd (none_in_nil q c);
      few = omega arith;
    } in
    let new = all-new n [] (empty_state places) snap.new_recs snap.tried_recs start apart is.new_recs (omega arith) (omega arith) in
    let tried = all-tried n snap.new_recs (with_all_new (empty_state places) snap.new_recs) snap.tried_recs new apart is.tried_recs (omega arith) in
    let same = uses_buckets snap places in
    let filled = place-fill n same (with_records snap places) snap.listed tried.fill (λ uses p c.
    let count : snap.bucket_count ≡ 1024 = (Decides-eqb snap.bucket_count 1024).0 (and_parts (snap.bucket_count == 1024) (bytes_eq snap.sum (sum_of places)) uses).0 in
    let low = All-contains (λ (pair : ℕ × ℕ). pair.0 < snap.bucket_count) snap.listed p is.buckets c in
    omega (arith, count)) in
    drop-sound n (place_all same (with_records snap places) snap.listed) (range_with_len 0 n) filled (λ r c.
    ⊎_elim (λ below. inl (in_range n r.number below)) (λ above. inr (filled.late r c above)) (split r.number n))
  where
    split : (a b : ℕ) → (a < b) ⊎ (b ≤ a)
    split a b = by (nat_lt a b) refl
      where
        by : (x : Bool) → nat_lt a b ≡ x → (a < b) ⊎ (b ≤ a)
        by true h = inl (ltb-true a b h)
        by false h = inr (ltb-false a b h)
