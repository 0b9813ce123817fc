-- The index and the grid of a plan whose records were deleted belong to its state.
use Rattle.std.proofs.Common.{◌≡◌, ◌≢◌, ℕ, ◌<◌, ◌≤◌, Bool, true, false, not, ◌&&◌, ◌==◌, nat_lt, List, [], ◌∷◌, length, get_or, map, filter, find, All, Contains, Option, Some, None, refl, sym, ap, subst, ◌∙◌, arith, true≢false}
use Rattle.std.specs.Prelude.{AllPairs, IsPermutation}
use Rattle.std.proofs.lemmas.Bool.{ltb-true, ne_eqb}
use Rattle.std.specs.Option.{option_map}
use Rattle.std.proofs.lemmas.List.{get_or-map, length-map}
use Rattle.std.proofs.lemmas.List.Elements.{Contains-get_or}
use Rattle.std.proofs.lemmas.List.Sorted.{Contains-permutation, IsPermutation-map, IsPermutation-sym}
use Rattle.std.proofs.lemmas.Option.{get_or_from_slice_get}
use Rattle.placing.specs.Places.{Places}
use Rattle.peer_rec.specs.Rec.{buckets_of, is_tried}
use Rattle.peer_rec.specs.declared.rec.Rec.{Rec}
use Rattle.slot_grid.specs.Slots.{Slots, new_id, tried_id, renumbered}
use Rattle.peer_index.specs.Order.{Item, IsOrder, rec_of, records}
use Rattle.peer_index.proofs.Kept.{rec_of-at}
use Rattle.table_machine.specs.State.{State, is_new_at, is_tried_at}
use Rattle.table_machine.specs.Sound.{IsSound}
use Rattle.table_machine.proofs.Counts.{few_in_order}
use Rattle.table_machine.proofs.Lists.{Contains-filter, Contains-from_filter, Contains-from_map, Contains-head, Contains-map, Contains-tail, find-None, find-Some, find_none_from, find_only}
use Rattle.table_machine.proofs.Records.{new_at_parts, same_by_peer, same_record, tried_at-is_tried}
use Rattle.table_plan.specs.Planned.{IsPlan, dropping, stays}
use Rattle.tables.specs.Filled.{HasApart, blank, filled, item_of, rec_at}
use Rattle.tables.specs.Restored.{ArePartsOf, rec_by}
use Rattle.table_plan.proofs.Plans.{at-get, number-is, rising}

not-empty : (xs : List ℕ) (b : ℕ) → Contains xs b → (length xs == 0) ≡ false
not-empty [] b c = absurd (let within = c.1 in omega arith)
not-empty (x ∷ xs) b c = ne_eqb (length (x ∷ xs)) 0 (λ e. omega (arith, e))

module _ (places : Places) (recs : List Rec) (news : ℕ) (slots : Slots) (plan : IsPlan places recs news slots) (order : List ℕ)
    (sound : IsSound (dropping places recs news order)) where
  -- a record's number is its position
  own-number : (r : Rec) → Contains recs r → (r.number < length recs) × (rec_at recs r.number ≡ r)
  own-number r c =
      let at = at-get recs c.0 r c.1 (sym c.2) in
      let number = number-is places recs news slots plan c.0 r at in
      (subst (λ n. n < length recs) (sym number) c.1, ap (rec_at recs) number ∙ get_or_from_slice_get recs c.0 r blank at)

  -- each number of the order is that of a record that stays
  record-of : (n : ℕ) → Contains order n → (r : Rec) × Contains recs r × (stays news r ≡ true) × (r.number ≡ n)
  record-of n c =
      let moved = Contains-permutation order (map (λ (r : Rec). r.number) (filter (stays news) recs)) n
      (IsPermutation-sym (map (λ (r : Rec). r.number) (filter (stays news) recs)) order sound.order) c in
      let h = Contains-from_map (λ (r : Rec). r.number) (filter (stays news) recs) n moved in
      let there = Contains-from_filter (stays news) recs h.0 h.1 in
      (h.0, there.0, there.1, h.2)

  -- and the number of each that stays is in the order
  number-in : (r : Rec) → Contains recs r → stays news r ≡ true → Contains order r.number
  number-in r c stay =
      Contains-permutation (map (λ (q : Rec). q.number) (filter (stays news) recs)) order r.number sound.order
      (Contains-map (λ (q : Rec). q.number) (filter (stays news) recs) r (Contains-filter (stays news) recs r c stay))

  rec-of : (n : ℕ) → Contains order n → (n < length recs) × Contains recs (rec_at recs n) × (stays news (rec_at recs n) ≡ true) × ((rec_at recs n).number ≡ n)
  rec-of n c =
      let h = record-of n c in
      let own = own-number h.0 h.1 in
      let same : rec_at recs n ≡ h.0 = ap (rec_at recs) (sym h.3) ∙ own.1 in
      (subst (λ m. m < length recs) h.3 own.0, subst (Contains recs) (sym same) h.1, ap (stays news) same ∙ h.2, ap (λ (r : Rec). r.number) same ∙ h.3)

  pub within : All (λ n. n < length recs) order
  within k d inside = (rec-of (get_or order k d) (Contains-get_or order k d inside)).0

  pub few : length order ≤ 81920
  few = few_in_order (dropping places recs news order) sound

  pub apart : AllPairs (λ m n. m ≢ n) order → HasApart recs order
  apart distinct i j d before inside same =
      let m = get_or order i d in
      let n = get_or order j d in
      let left = rec-of m (Contains-get_or order i d (omega (arith, before))) in
      let right = rec-of n (Contains-get_or order j d inside) in
      let one : rec_at recs m ≡ rec_at recs n =
      same_by_peer (filter (stays news) recs) (rec_at recs m) (rec_at recs n) sound.peers
      (Contains-filter (stays news) recs (rec_at recs m) left.1 left.2) (Contains-filter (stays news) recs (rec_at recs n) right.1 right.2) same in
      distinct i j d before inside (sym left.3 ∙ ap (λ (r : Rec). r.number) one ∙ right.3)

  module _ (ids : List ℕ) (is-order : IsOrder (filled ids recs order)) where
    -- the id of a number of the order leads to its record
    leads : (n : ℕ) → Contains order n → rec_of (filled ids recs order) (get_or ids n n) ≡ Some (rec_at recs n)
    leads n c =
        let d = item_of ids recs n in
        let at : get_or (filled ids recs order) c.0 d ≡ d = get_or-map (item_of ids recs) order c.0 n d c.1 ∙ ap (item_of ids recs) c.2 in
        let long = length-map order (item_of ids recs) in
        let inside : c.0 < length (filled ids recs order) = let low = c.1 in omega (arith, long, low) in
        ap (λ (l : Item). rec_of (filled ids recs order) l.id) (sym at)
        ∙ rec_of-at (filled ids recs order) c.0 d (λ j before. is-order.ids j c.0 d before inside) inside
        ∙ ap (λ (l : Item). Some l.rec) at

    records-are : (ns : List ℕ) → records (filled ids recs ns) ≡ map (rec_at recs) ns
    records-are [] = refl
    records-are (n ∷ ns) = ap (λ rs. rec_at recs n ∷ rs) (records-are ns)

    by-numbers : (rs : List Rec) → ((r : Rec) → Contains rs r → Contains recs r) → map (rec_at recs) (map (λ r. r.number) rs) ≡ rs
    by-numbers [] all = refl
    by-numbers (r ∷ rs) all =
        let rest = by-numbers rs (λ q c. all q (Contains-tail r rs q c)) in
        λ i. (own-number r (all r (Contains-head r rs))).1 i ∷ rest i

    numbers-of : (ns : List ℕ) → ((n : ℕ) → Contains ns n → Contains order n) → map (λ (r : Rec). r.number) (map (rec_at recs) ns) ≡ ns
    numbers-of [] all = refl
    numbers-of (n ∷ ns) all =
        let rest = numbers-of ns (λ m c. all m (Contains-tail n ns m c)) in
        λ i. (rec-of n (all n (Contains-head n ns))).3 i ∷ rest i

    -- a slot before and after the ids are known
    module _ (test : Rec → Bool) (slot : Option ℕ) (is : slot ≡ option_map (λ r. r.number) (find test recs))
        (one : (r q : Rec) → Contains (filter (stays news) recs) r → Contains (filter (stays news) recs) q → test r ≡ true → test q ≡ true → r.number ≡ q.number)
        (placed : (r : Rec) → Contains recs r → test r ≡ true → stays news r ≡ true) where
      pub slot-is : rec_by (filled ids recs order) (renumbered ids slot) ≡ find test (filter (stays news) recs)
      slot-is = by (find test recs) refl
        where
          by : (o : Option Rec) → find test recs ≡ o → rec_by (filled ids recs order) (renumbered ids slot) ≡ find test (filter (stays news) recs)
          by None none =
              ap (λ o. rec_by (filled ids recs order) (renumbered ids o)) (is ∙ ap (option_map (λ r. r.number)) none)
              ∙ sym (find_none_from test (filter (stays news) recs) (λ q c passes. true≢false (sym passes ∙ find-None test recs q none (Contains-from_filter (stays news) recs q c).0)))
          by (Some r) some =
              let h = find-Some test recs r some in
              let stay = placed r h.0 h.1 in
              let kept = Contains-filter (stays news) recs r h.0 stay in
              ap (λ o. rec_by (filled ids recs order) (renumbered ids o)) (is ∙ ap (option_map (λ r. r.number)) some)
              ∙ leads r.number (number-in r h.0 stay)
              ∙ ap Some (own-number r h.0).1
              ∙ sym (find_only test (filter (stays news) recs) r kept h.1 (λ q c passes. same_record recs q r (rising places recs news slots plan) (Contains-from_filter (stays news) recs q c).0 h.0 (one q r c kept passes h.1)))

      pub slot-none : find test (filter (stays news) recs) ≡ None → renumbered ids slot ≡ None
      slot-none none = ap (renumbered ids) (is ∙ ap (option_map (λ r. r.number)) (find_none_from test recs (λ q c passes.
          true≢false (sym passes ∙ find-None test (filter (stays news) recs) q none (Contains-filter (stays news) recs q c (placed q c passes))))))

    -- records of either table stay
    new-stays : (bucket slot : ℕ) (r : Rec) → Contains recs r → is_new_at places bucket slot r ≡ true → stays news r ≡ true
    new-stays bucket slot r c passes =
        and-false (nat_lt r.number news) (length (buckets_of r) == 0) (not-empty (buckets_of r) bucket (new_at_parts places bucket slot r passes).0)
      where
        and-false : (x y : Bool) → y ≡ false → not (x && y) ≡ true
        and-false true y h = ap not h
        and-false false y h = refl

    tried-stays : (bucket slot : ℕ) (r : Rec) → Contains recs r → is_tried_at places bucket slot r ≡ true → stays news r ≡ true
    tried-stays bucket slot r c passes = by (nat_lt r.number news) refl
      where
        tried : is_tried r ≡ true
        tried = tried_at-is_tried places bucket slot r passes

        by : (b : Bool) → nat_lt r.number news ≡ b → not (b && length (buckets_of r) == 0) ≡ true
        by true h = absurd (true≢false (sym tried ∙ plan.untried r c (ltb-true r.number news h)))
        by false h = refl

    pub parts-of : (after : Slots) → ((bucket slot : ℕ) → new_id after bucket slot ≡ renumbered ids (new_id slots bucket slot))
        → ((bucket slot : ℕ) → tried_id after bucket slot ≡ renumbered ids (tried_id slots bucket slot))
        → ArePartsOf (dropping places recs news order) places after (filled ids recs order) (length recs)
    parts-of after news_are trieds_are = record {
      places = refl;
      next = refl;
      nothing_waits = refl;
      last_good = refl;
      belong = record {
        index = is-order;
        recs =
            subst (IsPermutation (filter (stays news) recs)) (sym (records-are order))
            (subst (λ rs. IsPermutation rs (map (rec_at recs) order)) (by-numbers (filter (stays news) recs) (λ r c. (Contains-from_filter (stays news) recs r c).0))
            (IsPermutation-map (rec_at recs) (map (λ (r : Rec). r.number) (filter (stays news) recs)) order sound.order));
        numbers = ap (map (λ (r : Rec). r.number)) (records-are order) ∙ numbers-of order (λ n c. c);
        new = λ b s low small. ap (rec_by (filled ids recs order)) (news_are b s)
            ∙ slot-is (is_new_at places b s) (new_id slots b s) (plan.new b s low small) (sound.new_slots b s) (new-stays b s);
        new_none = λ b s low small none. news_are b s
            ∙ slot-none (is_new_at places b s) (new_id slots b s) (plan.new b s low small) (sound.new_slots b s) (new-stays b s) none;
        tried = λ b s low small. ap (rec_by (filled ids recs order)) (trieds_are b s)
            ∙ slot-is (is_tried_at places b s) (tried_id slots b s) (plan.tried b s low small) (sound.tried_slots b s) (tried-stays b s);
        tried_none = λ b s low small none. trieds_are b s
            ∙ slot-none (is_tried_at places b s) (tried_id slots b s) (plan.tried b s low small) (sound.tried_slots b s) (tried-stays b s) none;
      };
    }

-- the state when all turns are over, by the order that is left
pub sound-left : (places : Places) (recs : List Rec) (news : ℕ) (order ns : List ℕ) (after : State) → dropping places recs news order ≡ after → ns ≡ order → IsSound after
    → IsSound (dropping places recs news ns)
sound-left places recs news order ns after is same = subst IsSound (sym (ap (dropping places recs news) same ∙ is))
