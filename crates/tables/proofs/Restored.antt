-- Tables that are made of the parts of a state.
use Rattle.std.proofs.Common.{◌≡◌, ◌≢◌, ℕ, zero, suc, ◌+◌, ◌<◌, ◌≤◌, Bool, true, false, cond, ◌==◌, nat_lt, List, [], ◌∷◌, ◌++◌, length, map, filter, find, AllPairs, Contains, Option, Some, None, refl, sym, ap, subst, ◌∙◌, arith, true≢false}
use Rattle.std.specs.Option.{option_map, option_to_list}
use Rattle.std.proofs.lemmas.Bool.{eq-eqb, ltb-true, ltb-false}
use Rattle.std.proofs.lemmas.Bool.Decides.{Decides-eqb}
use Rattle.std.proofs.lemmas.List.Elements.{All-contains}
use Rattle.std.proofs.lemmas.List.Kept.{AllPairs-from_increasing}
use Rattle.std.proofs.lemmas.List.Sorted.{Contains-permutation, IsPermutation-sym}
use Rattle.placing.specs.Places.{Places}
use Rattle.peer_rec.specs.declared.rec.Rec.{Rec}
use Rattle.slot_grid.specs.Slots.{Slots, new_id, tried_id}
use Rattle.peer_index.specs.Order.{Item, Order, rec_of, records}
use Rattle.peer_index.proofs.Lookups.{same_peer_same_id}
use Rattle.table_machine.specs.State.{State, is_new_at, is_tried_at}
use Rattle.table_machine.specs.Sound.{IsSound}
use Rattle.table_machine.proofs.Lists.{AllPairs-from_map, Contains-map, Contains-tail, find-None, find-Some, find_none_from, find_only}
use Rattle.table_machine.proofs.Records.{same_record}
use Rattle.table_machine.proofs.Rising.{filter_whole, pairs_head, pairs_tail}
use Rattle.tables.specs.Restored.{ArePartsOf, rec_by}
use Rattle.table_plan.specs.declared.waiter.Waiter.{Waiter}
use Rattle.tables.specs.Inside.{AreSlots, AreStored, record_at, records_below, state_with}
use Rattle.tables.proofs.Searches.{some_is}

-- no number of the list is below one
above-none : (k : ℕ) (rs : List Rec) → ((q : Rec) → Contains rs q → k ≤ q.number) → filter (λ r. nat_lt r.number k) rs ≡ []
above-none k rs above = by rs above
  where
    by : (qs : List Rec) → ((q : Rec) → Contains qs q → k ≤ q.number) → filter (λ r. nat_lt r.number k) qs ≡ []
    by [] all = refl
    by (q ∷ qs) all =
        let high : k ≤ q.number = all q (0, (let within : 0 < suc (length qs) = omega arith in within), refl) in
        let late : nat_lt q.number k ≡ false = grind (arith, high) in
        ap (λ b. cond b (q ∷ filter (λ r. nat_lt r.number k) qs) (filter (λ r. nat_lt r.number k) qs)) late
        ∙ by qs (λ t c. all t (Contains-tail q qs t c))

-- the records below one more number, where numbers rise
filter-next : (k : ℕ) (rs : List Rec) → AllPairs (λ r q. r.number < q.number) rs
    → filter (λ r. nat_lt r.number (k + 1)) rs ≡ filter (λ r. nat_lt r.number k) rs ++ option_to_list (find (λ r. r.number == k) rs)
filter-next k [] rising = refl
filter-next k (r ∷ rs) rising = by (nat_lt r.number k) refl (r.number == k) refl (filter-next k rs (pairs_tail (λ (p : Rec) q. p.number < q.number) r rs rising))
  where
    by : (a : Bool) → nat_lt r.number k ≡ a → (b : Bool) → (r.number == k) ≡ b
        → filter (λ q. nat_lt q.number (k + 1)) rs ≡ filter (λ q. nat_lt q.number k) rs ++ option_to_list (find (λ q. q.number == k) rs)
        → cond (nat_lt r.number (k + 1)) (r ∷ filter (λ q. nat_lt q.number (k + 1)) rs) (filter (λ q. nat_lt q.number (k + 1)) rs)
        ≡ cond a (r ∷ filter (λ q. nat_lt q.number k) rs) (filter (λ q. nat_lt q.number k) rs) ++ option_to_list (cond b (Some r) (find (λ q. q.number == k) rs))
    by true h true e rest = let low = ltb-true r.number k h in let is = (Decides-eqb r.number k).0 e in absurd (omega (arith, low, is))
    by true h false e rest =
        let low = ltb-true r.number k h in
        let early : nat_lt r.number (k + 1) ≡ true = grind (arith, low) in
        ap (λ b. cond b (r ∷ filter (λ q. nat_lt q.number (k + 1)) rs) (filter (λ q. nat_lt q.number (k + 1)) rs)) early
        ∙ ap (λ qs. r ∷ qs) rest
    by false h true e rest =
        let is = (Decides-eqb r.number k).0 e in
        let early : nat_lt r.number (k + 1) ≡ true = grind (arith, is) in
        let above : (q : Rec) → Contains rs q → k + 1 ≤ q.number = λ q c. (let more = pairs_head (λ (p : Rec) t. p.number < t.number) r q rs rising c in omega (arith, more, is)) in
        ap (λ b. cond b (r ∷ filter (λ q. nat_lt q.number (k + 1)) rs) (filter (λ q. nat_lt q.number (k + 1)) rs)) early
        ∙ ap (λ qs. r ∷ qs) (above-none (k + 1) rs above)
        ∙ ap (λ qs. qs ++ r ∷ []) (sym (above-none k rs (λ q c. (let more = above q c in omega (arith, more)))))
    by false h false e rest =
        let high = ltb-false r.number k h in
        let differs : r.number ≢ k = λ is. true≢false (sym (eq-eqb r.number k is) ∙ e) in
        let late : nat_lt r.number (k + 1) ≡ false = grind (arith, high, differs) in
        ap (λ b. cond b (r ∷ filter (λ q. nat_lt q.number (k + 1)) rs) (filter (λ q. nat_lt q.number (k + 1)) rs)) late ∙ rest

-- the records of the numbers below one, found in a list of rising numbers
below-filter : (at : ℕ → Option Rec) (rs : List Rec) → ((n : ℕ) → at n ≡ find (λ r. r.number == n) rs) → AllPairs (λ r q. r.number < q.number) rs
    → (k : ℕ) → records_below at k ≡ filter (λ r. nat_lt r.number k) rs
below-filter at rs found rising zero = sym (above-none 0 rs (λ q c. omega arith))
below-filter at rs found rising (suc k) =
    let same : k + 1 ≡ suc k = omega arith in
    (λ i. below-filter at rs found rising k i ++ option_to_list (found k i))
    ∙ sym (filter-next k rs rising)
    ∙ ap (λ n. filter (λ r. nat_lt r.number n) rs) same

module _ (st : State) (placer : Places) (slots : Slots) (order : Order) (next : ℕ) (sound : IsSound st) (parts : ArePartsOf st placer slots order next) where
  -- the record under an id is one of the state's
  in-state : (id : ℕ) (r : Rec) → rec_of order id ≡ Some r → Contains st.records r
  in-state id r at = Contains-permutation (records order) st.records r (IsPermutation-sym st.records (records order) parts.recs) (by (find (λ l. l.id == id) order) refl)
    where
      by : (o : Option Item) → find (λ l. l.id == id) order ≡ o → Contains (records order) r
      by None none = absurd (let wrong : None ≡ Some r = sym (ap (option_map (λ (l : Item). l.rec)) none) ∙ at in cc)
      by (Some l) some =
          let is : l.rec ≡ r = some_is l.rec r (sym (ap (option_map (λ (m : Item). m.rec)) some) ∙ at) in
          subst (Contains (records order)) is (Contains-map (λ (m : Item). m.rec) order l (find-Some (λ m. m.id == id) order l some).0)

  one-record : (r q : Rec) → Contains st.records r → Contains st.records q → r.number ≡ q.number → r ≡ q
  one-record r q = same_record st.records r q sound.rising

  -- a search by number finds the state's record
  found-at : (n : ℕ) → record_at order n ≡ find (λ r. r.number == n) st.records
  found-at n = by (find (λ r. r.number == n) st.records) refl
    where
      back : (q : Rec) → Contains (records order) q → Contains st.records q
      back q = Contains-permutation (records order) st.records q (IsPermutation-sym st.records (records order) parts.recs)

      by : (o : Option Rec) → find (λ r. r.number == n) st.records ≡ o → record_at order n ≡ o
      by None none = find_none_from (λ r. r.number == n) (records order) (λ q c is. true≢false (sym is ∙ find-None (λ r. r.number == n) st.records q none (back q c)))
      by (Some r) some =
          let h = find-Some (λ q. q.number == n) st.records r some in
          find_only (λ q. q.number == n) (records order) r (Contains-permutation st.records (records order) r parts.recs h.0) h.1
          (λ q c is. one-record q r (back q c) h.0 ((Decides-eqb q.number n).0 is ∙ sym ((Decides-eqb r.number n).0 h.1)))

  records-are : records_below (record_at order) next ≡ st.records
  records-are =
      below-filter (record_at order) st.records found-at
      (AllPairs-from_map (λ m n. m < n) (λ (r : Rec). r.number) st.records (AllPairs-from_increasing (map (λ (r : Rec). r.number) st.records) sound.rising)) next
      ∙ filter_whole (λ r. nat_lt r.number next) st.records (λ r c. (let low : r.number < next = subst (λ n. r.number < n) parts.next (All-contains (λ (q : Rec). q.number < st.next_number) st.records r sound.below_next c) in grind (arith, low)))

  slot-from : (test : Rec → Bool) (o : Option ℕ) → rec_by order o ≡ find test st.records → (find test st.records ≡ None → o ≡ None) → (id : ℕ) → o ≡ Some id
      → (r : Rec) × (rec_of order id ≡ Some r) × (test r ≡ true)
  slot-from test o leads none id is = by (find test st.records) refl
    where
      at : rec_of order id ≡ find test st.records
      at = ap (rec_by order) (sym is) ∙ leads

      by : (f : Option Rec) → find test st.records ≡ f → (r : Rec) × (rec_of order id ≡ Some r) × (test r ≡ true)
      by None h = absurd (let wrong : None ≡ Some id = sym (none h) ∙ is in cc)
      by (Some r) h = (r, at ∙ h, (find-Some test st.records r h).1)

  slot-to : (test : Rec → Bool) (o : Option ℕ) → rec_by order o ≡ find test st.records
      → ((r q : Rec) → Contains st.records r → Contains st.records q → test r ≡ true → test q ≡ true → r.number ≡ q.number)
      → (id : ℕ) (r : Rec) → rec_of order id ≡ Some r → test r ≡ true → o ≡ Some id
  slot-to test o leads one id r at passes = by (find test st.records) refl
    where
      there : Contains st.records r
      there = in-state id r at

      led : (o : Option ℕ) (q : Rec) → rec_by order o ≡ Some q → r ≡ q → o ≡ Some id
      led None q h same = absurd (let wrong : None ≡ Some q = h in cc)
      led (Some j) q h same = ap Some (same_peer_same_id order j id q r parts.index h at (ap (λ (t : Rec). t.peer) (sym same)))

      by : (f : Option Rec) → find test st.records ≡ f → o ≡ Some id
      by None h = absurd (true≢false (sym passes ∙ find-None test st.records r h there))
      by (Some q) h =
          let found = find-Some test st.records q h in
          led o q (leads ∙ h) (one-record r q there found.0 (one r q there found.0 passes found.1))

  pub stored-parts : (ws : List Waiter) → ws ≡ [] → AreStored placer order slots next ws
  stored-parts ws empty = subst (λ xs. AreStored placer order slots next xs) (sym empty) (record {
    index = parts.index;
    numbers = record {
      one = λ i j r q at other same. (let is = one-record r q (in-state i r at) (in-state j q other) same in same_peer_same_id order i j r q parts.index at other (ap (λ (t : Rec). t.peer) is));
      below = λ id r at. subst (λ n. r.number < n) parts.next (All-contains (λ (q : Rec). q.number < st.next_number) st.records r sound.below_next (in-state id r at));
    };
    grid = subst (λ (p : Places). AreSlots p order slots) parts.places (record {
      new_from = λ b s id low small is. slot-from (is_new_at st.places b s) (new_id slots b s) (parts.new b s low small) (parts.new_none b s low small) id is;
      new_to = λ b s id r low small at passes. slot-to (is_new_at st.places b s) (new_id slots b s) (parts.new b s low small) (sound.new_slots b s) id r at passes;
      tried_from = λ b s id low small is. slot-from (is_tried_at st.places b s) (tried_id slots b s) (parts.tried b s low small) (parts.tried_none b s low small) id is;
      tried_to = λ b s id r low small at passes. slot-to (is_tried_at st.places b s) (tried_id slots b s) (parts.tried b s low small) (sound.tried_slots b s) id r at passes;
    });
    ids = λ k d within. absurd (omega arith);
  })

  pub state-parts : (clashes : List ℕ) → clashes ≡ [] → state_with placer order clashes 1 next ≡ st
  state-parts clashes empty = λ i. record {
    places = sym parts.places i;
    records = records-are i;
    order = parts.numbers i;
    collisions = (empty ∙ sym parts.nothing_waits) i;
    last_good = sym parts.last_good i;
    next_number = sym parts.next i;
  }
