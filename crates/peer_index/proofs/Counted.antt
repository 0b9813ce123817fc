-- The counts of the records of an order after each change, and the sum of some of them.
use Rattle.std.proofs.Common.{◌≡◌, ◌≢◌, ℕ, suc, ◌+◌, ◌-◌, ◌<◌, ◌≤◌, ◌^◌, Bool, true, false, cond, not, ◌&&◌, ◌==◌, List, [], ◌∷◌, length, get_or, set, Option, Some, None, refl, sym, ap, subst, ◌∙◌, inl, inr, arith, true≢false, if◌then◌else◌}
use Rattle.std.specs.Prelude.{All, AllPairs, count_by, sum_by, swap, position, swap_remove, find, nat_lt, slice_get}
use Rattle.std.specs.List.{position_or_len}
use Rattle.std.specs.Option.{option_map, option_map_or}
use Rattle.std.proofs.lemmas.Bool.{cases_eq, lt-ltb}
use Rattle.std.proofs.lemmas.List.Edits.{length-swap}
use Rattle.std.proofs.lemmas.List.Folds.{find_at}
use Rattle.std.proofs.lemmas.Option.{slice_get_within, get_or_from_slice_get}
use Rattle.std.proofs.lemmas.Bool.Decides.{Decides-eqb}
use Rattle.std.proofs.lemmas.List.{get_or-set_same, get_or-set_other, length-map, length-append}
use Rattle.std.proofs.lemmas.List.Elements.{All-tail}
use Rattle.std.proofs.lemmas.List.Sums.{sum_by-cons, sum_by_push, sum_by-swap_remove, count_by-le-length}
use Rattle.std.proofs.lemmas.List.Sorted.{IsPermutation-swap, sum_by-IsPermutation}
use Rattle.net_addr.specs.Address.{net_number}
use Rattle.net_addr.specs.NetSet.{has, has_number}
use Rattle.net_addr.specs.declared.net.Net.{Net}
use Rattle.net_addr.specs.declared.net.Net.TheVariants.{Unroutable, Ipv4, Ipv6, Onion, I2p, Cjdns, Internal}
use Rattle.net_addr.specs.Same.{same_peer}
use Rattle.net_addr.specs.declared.peer.Peer.{Peer}
use Rattle.peer_rec.specs.Deletion.{without_position}
use Rattle.peer_rec.specs.Rec.{is_tried, network}
use Rattle.peer_rec.specs.declared.rec.Rec.{Rec}
use Rattle.peer_index.specs.Order.{Item, Order, IsOrder, id_of, rec_of, records, with_own_rec, with_rec, with_item, without}
use Rattle.peer_index.specs.Inside.{AreCounts, AreCountsOf, AreOneMore, IsOneMore, is_of, one_if, sum_over, taken}
use Rattle.peer_index.specs.declared.counts.Counts.{Counts}
use Rattle.peer_index.proofs.Kept.{rec_of-at}

-- one more in one place
more : (xs : List ℕ) (k : ℕ) → k < length xs → IsOneMore xs (set xs k (get_or xs k 0 + 1)) k true
more xs k within n small =
    elim (cases_eq k n) [
      | inl same ↦
          let here : get_or (set xs k (get_or xs k 0 + 1)) n 0 ≡ get_or xs n 0 + 1 =
          ap (λ m. get_or (set xs k (get_or xs k 0 + 1)) m 0) (sym same) ∙ get_or-set_same xs k (get_or xs k 0 + 1) 0 within ∙ ap (λ m. get_or xs m 0 + 1) same in
          here ∙ ap (λ b. get_or xs n 0 + one_if (b && true)) (sym ((Decides-eqb k n).1 same))
      | inr differs ↦ other xs k n (get_or xs k 0 + 1) (k == n) refl differs
    ]
  where
    other : (xs : List ℕ) (k n v : ℕ) (b : Bool) → (k == n) ≡ b → k ≢ n → get_or (set xs k v) n 0 ≡ get_or xs n 0 + one_if ((k == n) && true)
    other xs k n v true h differs = absurd (differs ((Decides-eqb k n).0 h))
    other xs k n v false h differs =
        let none : one_if ((k == n) && true) ≡ 0 = ap (λ c. one_if (c && true)) h in
        omega (arith, none, get_or-set_other xs k n v 0 (λ e. differs (sym e)))

pub one_more : (xs : List ℕ) (k own : ℕ) → k < length xs → k ≡ own → IsOneMore xs (set xs k (get_or xs k 0 + 1)) own true
one_more xs k own within same = subst (λ n. IsOneMore xs (set xs k (get_or xs k 0 + 1)) n true) same (more xs k within)

-- and one less
less : (xs : List ℕ) (k : ℕ) → k < length xs → 0 < get_or xs k 0 → IsOneMore (set xs k (get_or xs k 0 - 1)) xs k true
less xs k within some n small =
    elim (cases_eq k n) [
      | inl same ↦
          let v = get_or xs k 0 - 1 in
          let here : get_or (set xs k v) n 0 ≡ get_or xs k 0 - 1 = ap (λ m. get_or (set xs k v) m 0) (sym same) ∙ get_or-set_same xs k v 0 within in
          let is : get_or xs k 0 ≡ get_or xs n 0 = ap (λ m. get_or xs m 0) same in
          let one : one_if ((k == n) && true) ≡ 1 = ap (λ b. one_if (b && true)) ((Decides-eqb k n).1 same) in
          omega (arith, here, is, one, some)
      | inr differs ↦ other (k == n) refl differs
    ]
  where
    other : (b : Bool) → (k == n) ≡ b → k ≢ n → get_or xs n 0 ≡ get_or (set xs k (get_or xs k 0 - 1)) n 0 + one_if ((k == n) && true)
    other true h differs = absurd (differs ((Decides-eqb k n).0 h))
    other false h differs =
        let none : one_if ((k == n) && true) ≡ 0 = ap (λ c. one_if (c && true)) h in
        omega (arith, none, get_or-set_other xs k n (get_or xs k 0 - 1) 0 (λ e. differs (sym e)))

pub one_less : (xs : List ℕ) (k own : ℕ) → k < length xs → k ≡ own → 0 < get_or xs k 0 → IsOneMore (set xs k (get_or xs k 0 - 1)) xs own true
one_less xs k own within same some = subst (λ n. IsOneMore (set xs k (get_or xs k 0 - 1)) xs n true) same (less xs k within some)

-- a list that passes a test has at least one for each that it has
some-of : (test : Rec → Bool) (order : Order) (id : ℕ) (r : Rec) → rec_of order id ≡ Some r → one_if (test r) ≤ count_by test (records order)
some-of test [] id r at = absurd (cc)
some-of test (l ∷ order) id r at = by (l.id == id) at (some-of test order id r)
  where
    first : count_by test (records (l ∷ order)) ≡ one_if (test l.rec) + count_by test (records order)
    first = sum_by-cons (λ x. one_if (test x)) l.rec (records order)

    by : (b : Bool) → option_map (λ (m : Item). m.rec) (cond b (Some l) (find (λ m. m.id == id) order)) ≡ Some r
        → (rec_of order id ≡ Some r → one_if (test r) ≤ count_by test (records order)) → one_if (test r) ≤ count_by test (records (l ∷ order))
    by true h rest =
        let own : one_if (test l.rec) ≡ one_if (test r) = ap (λ o. option_map_or (λ x. one_if (test x)) o 0) h in
        omega (arith, own, first)
    by false h rest = omega (arith, first, rest h)

-- counting the records of an order is a sum over its items
abbrev share : (Rec → Bool) → Item → ℕ
share test l = one_if (test l.rec)

by_items : (test : Rec → Bool) (order : Order) → count_by test (records order) ≡ sum_by (share test) order
by_items test [] = refl
by_items test (l ∷ order) =
    sum_by-cons (λ x. one_if (test x)) l.rec (records order) ∙ ap (λ n. share test l + n) (by_items test order) ∙ sym (sum_by-cons (share test) l order)

-- one more record
count-last : (test : Rec → Bool) (order : Order) (id : ℕ) (rec : Rec) → count_by test (records (with_item order id rec)) ≡ count_by test (records order) + one_if (test rec)
count-last test order id rec =
    by_items test (with_item order id rec) ∙ sum_by_push (share test) order record { id = id; rec = rec } ∙ ap (λ n. n + one_if (test rec)) (sym (by_items test order))

-- another record under an id that no item has
unset : (order : Order) (id : ℕ) (rec : Rec) → All (λ l. l.id ≢ id) order → with_rec order id rec ≡ order
unset [] id rec others = refl
unset (l ∷ order) id rec others =
    let rest = unset order id rec (All-tail (λ (m : Item). m.id ≢ id) l order others) in
    λ i. by (l.id == id) refl i ∷ rest i
  where
    by : (b : Bool) → (l.id == id) ≡ b → (if b then record { id = id; rec = rec } else l) ≡ l
    by true h = absurd (others 0 l (omega arith) ((Decides-eqb l.id id).0 h))
    by false h = refl

-- another record under an id
count-set : (test : Rec → Bool) (order : Order) (id : ℕ) (old rec : Rec) → AllPairs (λ k l. k.id ≢ l.id) order → rec_of order id ≡ Some old
    → count_by test (records (with_rec order id rec)) + one_if (test old) ≡ count_by test (records order) + one_if (test rec)
count-set test [] id old rec apart at = absurd (cc)
count-set test (l ∷ order) id old rec apart at =
    by (l.id == id) refl at (count-set test order id old rec (λ i j d before within. apart (suc i) (suc j) d (omega arith) (omega arith)))
  where
    value : Rec → ℕ
    value r = one_if (test r)

    before : count_by test (records (l ∷ order)) ≡ one_if (test l.rec) + count_by test (records order)
    before = sum_by-cons (λ x. one_if (test x)) l.rec (records order)

    after : (b : Bool) → (l.id == id) ≡ b → count_by test (records (with_rec (l ∷ order) id rec)) ≡ one_if (test (if b then record { id = id; rec = rec } else l).rec) + count_by test (records (with_rec order id rec))
    after b h =
        sum_by-cons (λ x. one_if (test x)) (with_own_rec id rec l).rec (records (with_rec order id rec))
        ∙ ap (λ c. one_if (test (if c then record { id = id; rec = rec } else l).rec) + count_by test (records (with_rec order id rec))) h

    by : (b : Bool) → (l.id == id) ≡ b → option_map (λ (m : Item). m.rec) (cond b (Some l) (find (λ m. m.id == id) order)) ≡ Some old
        → (rec_of order id ≡ Some old → count_by test (records (with_rec order id rec)) + one_if (test old) ≡ count_by test (records order) + one_if (test rec))
        → count_by test (records (with_rec (l ∷ order) id rec)) + one_if (test old) ≡ count_by test (records (l ∷ order)) + one_if (test rec)
    by true h found rest =
        let own : one_if (test l.rec) ≡ one_if (test old) = ap (λ o. option_map_or (λ x. one_if (test x)) o 0) found in
        let same : l.id ≡ id = (Decides-eqb l.id id).0 h in
        let others : All (λ m. m.id ≢ id) order = λ k d within e. apart 0 (suc k) d (omega arith) (omega arith) (same ∙ sym e) in
        let kept : count_by test (records (with_rec order id rec)) ≡ count_by test (records order) = ap (λ o. count_by test (records o)) (unset order id rec others) in
        omega (arith, before, after true h, own, kept)
    by false h found rest = omega (arith, before, after false h, rest found)

-- two positions exchanged
count-swap : (test : Rec → Bool) (order : Order) (i j : ℕ) → i < length order → j < length order → count_by test (records (swap order i j)) ≡ count_by test (records order)
count-swap test order i j first second =
    by_items test (swap order i j)
    ∙ sum_by-IsPermutation (share test) order (swap order i j) (IsPermutation-swap order (swap order i j) i j first second refl)
    ∙ sym (by_items test order)

-- a record taken out
count-gone : (test : Rec → Bool) (order : Order) (peer : Peer) (m : Item) → find (λ l. same_peer peer l.rec.peer) order ≡ Some m
    → count_by test (records (without order peer)) + one_if (test m.rec) ≡ count_by test (records order)
count-gone test [] peer m found = absurd (cc)
count-gone test (l ∷ order) peer m found = by (nat_lt first (length xs)) refl
  where
    xs : Order
    xs = l ∷ order

    first : ℕ
    first = position_or_len (λ k. same_peer peer k.rec.peer) xs

    at : slice_get xs first ≡ Some m
    at = sym (find_at (λ k. same_peer peer k.rec.peer) xs) ∙ found

    within : first < length xs
    within = slice_get_within xs first m at

    by : (b : Bool) → nat_lt first (length xs) ≡ b
        → count_by test (records (without xs peer)) + one_if (test m.rec) ≡ count_by test (records xs)
    by false h = absurd (true≢false (sym (lt-ltb first (length xs) within) ∙ h))
    by true h =
        let there : position (λ k. same_peer peer k.rec.peer) xs ≡ Some first = ap (λ b. cond b (Some first) None) h in
        let left : without xs peer ≡ swap_remove xs first l = ap (λ o. option_map_or (without_position xs) o xs) there in
        let own : share test (get_or xs first l) ≡ one_if (test m.rec) = ap (share test) (get_or_from_slice_get xs first m l at) in
        omega (
          arith,
          ap (λ o. count_by test (records o)) left,
          by_items test (swap_remove xs first l),
          by_items test xs,
          sum_by-swap_remove (share test) xs first l within,
          own,
        )

pub number_below : (net : Net) → net_number net < 7
number_below Unroutable = omega arith
number_below Ipv4 = omega arith
number_below Ipv6 = omega arith
number_below Onion = omega arith
number_below I2p = omega arith
number_below Cjdns = omega arith
number_below Internal = omega arith

-- no count is more than the records, and that of a record is not 0
module _ (order : Order) (counts : Counts) (are : AreCounts (records order) counts) where
  few_of : (test : Rec → Bool) (xs : List ℕ) (number : ℕ) → AreCountsOf test (records order) xs → number < 7 → get_or xs number 0 ≤ 2 ^ 31
  few_of test xs number each small = omega (arith, each number small, count_by-le-length (is_of test number) (records order), are.few)

  pub few_new : (net : Net) → get_or counts.in_new (net_number net) 0 ≤ 2 ^ 31
  few_new net = few_of (λ r. not (is_tried r)) counts.in_new (net_number net) are.new (number_below net)

  pub few_tried : (net : Net) → get_or counts.in_tried (net_number net) 0 ≤ 2 ^ 31
  few_tried net = few_of is_tried counts.in_tried (net_number net) are.tried (number_below net)

  -- with which the record can be counted out
  pub some : (id : ℕ) (r : Rec) (net : Net) (in_tried : Bool) → rec_of order id ≡ Some r → net ≡ network r → in_tried ≡ is_tried r
      → 0 < cond in_tried (get_or counts.in_tried (net_number net) 0) (get_or counts.in_new (net_number net) 0)
  some id r net in_tried at is same =
      let P : Net → Type 0 = λ n. 0 < cond in_tried (get_or counts.in_tried (net_number n) 0) (get_or counts.in_new (net_number n) 0) in
      let own = net_number (network r) in
      let Q : Bool → Type 0 = λ b. 0 < cond b (get_or counts.in_tried own 0) (get_or counts.in_new own 0) in
      subst P (sym is) (subst Q (sym same) (by (is_tried r) refl))
    where
      one : (test : Rec → Bool) → test r ≡ true → one_if (is_of test (net_number (network r)) r) ≡ 1
      one test passes = λ i. one_if ((Decides-eqb (net_number (network r)) (net_number (network r))).1 refl i && passes i)

      by : (b : Bool) → is_tried r ≡ b → 0 < cond b (get_or counts.in_tried (net_number (network r)) 0) (get_or counts.in_new (net_number (network r)) 0)
      by true h =
          omega (arith, are.tried (net_number (network r)) (number_below (network r)), some-of (is_of is_tried (net_number (network r))) order id r at, one is_tried h)
      by false h =
          omega (arith, are.new (net_number (network r)) (number_below (network r)), some-of (is_of (λ x. not (is_tried x)) (net_number (network r))) order id r at, one (λ x. not (is_tried x)) (ap not h))

-- a record's share in the count of a network
abbrev mine : (Rec → Bool) → ℕ → Rec → ℕ
mine test number r = one_if (is_of test number r)

module _ (test : Rec → Bool) (order : Order) (xs ys : List ℕ) where
  last-of : (id : ℕ) (rec : Rec) → AreCountsOf test (records order) xs → IsOneMore xs ys (net_number (network rec)) (test rec)
      → AreCountsOf test (records (with_item order id rec)) ys
  last-of id rec each more n small = more n small ∙ ap (λ m. m + mine test n rec) (each n small) ∙ sym (count-last (is_of test n) order id rec)

  set-of : (between : List ℕ) (id : ℕ) (old rec : Rec) → AllPairs (λ k l. k.id ≢ l.id) order → rec_of order id ≡ Some old → AreCountsOf test (records order) xs
      → IsOneMore between xs (net_number (network old)) (test old) → IsOneMore between ys (net_number (network rec)) (test rec)
      → AreCountsOf test (records (with_rec order id rec)) ys
  set-of between id old rec apart at each less more n small =
      omega (arith, each n small, less n small, more n small, count-set (is_of test n) order id old rec apart at)

  gone-of : (peer : Peer) (m : Item) → find (λ l. same_peer peer l.rec.peer) order ≡ Some m → AreCountsOf test (records order) xs
      → IsOneMore ys xs (net_number (network m.rec)) (test m.rec) → AreCountsOf test (records (without order peer)) ys
  gone-of peer m found each less n small =
      omega (arith, each n small, less n small, count-gone (is_of test n) order peer m found)

all-counted : (rs : List Rec) → count_by (λ r. true) rs ≡ length rs
all-counted [] = refl
all-counted (r ∷ rs) = omega (arith, sum_by-cons (λ (x : Rec). 1) r rs, all-counted rs)

-- the first item of a peer is found by its id
found-by_id : (order : Order) (peer : Peer) (m : Item) → IsOrder order → find (λ l. same_peer peer l.rec.peer) order ≡ Some m → rec_of order m.id ≡ Some m.rec
found-by_id order peer m still found =
    let first = position_or_len (λ k. same_peer peer k.rec.peer) order in
    let at : slice_get order first ≡ Some m = sym (find_at (λ k. same_peer peer k.rec.peer) order) ∙ found in
    let within : first < length order = slice_get_within order first m at in
    let here : get_or order first m ≡ m = get_or_from_slice_get order first m m at in
    sym (ap (λ l. rec_of order l.id) here) ∙ rec_of-at order first m (λ j before. still.ids j first m before within) within ∙ ap (λ l. Some l.rec) here

module _ (order : Order) (counts : Counts) (are : AreCounts (records order) counts) where
  -- the counts after each change
  pub counted-last : (after : Counts) (id : ℕ) (rec : Rec) (net : Net) (in_tried : Bool) → length order < 2 ^ 31 → net ≡ network rec → in_tried ≡ is_tried rec
      → AreOneMore counts after (net_number net) in_tried → AreCounts (records (with_item order id rec)) after
  counted-last after id rec net in_tried room is same more = record {
    few = omega (arith, room, length-map (with_item order id rec) (λ l. l.rec), length-append order (record { id = id; rec = rec } ∷ []));
    new =
        last-of (λ r. not (is_tried r)) order counts.in_new after.in_new id rec are.new
        (subst (λ n. IsOneMore counts.in_new after.in_new (net_number n) (not (is_tried rec))) is (subst (λ b. IsOneMore counts.in_new after.in_new (net_number net) (not b)) same more.new));
    tried =
        last-of is_tried order counts.in_tried after.in_tried id rec are.tried
        (subst (λ n. IsOneMore counts.in_tried after.in_tried (net_number n) (is_tried rec)) is (subst (λ b. IsOneMore counts.in_tried after.in_tried (net_number net) b) same more.tried));
  }

  pub counted-set : (between after : Counts) (id : ℕ) (old rec : Rec) (net : Net) (was_tried in_tried : Bool) → AllPairs (λ k l. k.id ≢ l.id) order
      → rec_of order id ≡ Some old → old.peer ≡ rec.peer → net ≡ network rec → was_tried ≡ is_tried old → in_tried ≡ is_tried rec
      → AreOneMore between counts (net_number net) was_tried → AreOneMore between after (net_number net) in_tried → AreCounts (records (with_rec order id rec)) after
  counted-set between after id old rec net was_tried in_tried apart at peer is was same less more =
      let of_old : net ≡ network old = is ∙ ap (λ p. network (record rec { peer = p })) (sym peer) in
      record {
        few = omega (arith, are.few, length-map order (λ l. l.rec), length-map (with_rec order id rec) (λ l. l.rec), length-map order (with_own_rec id rec));
        new =
            set-of (λ r. not (is_tried r)) order counts.in_new after.in_new between.in_new id old rec apart at are.new
            (subst (λ n. IsOneMore between.in_new counts.in_new (net_number n) (not (is_tried old))) of_old (subst (λ b. IsOneMore between.in_new counts.in_new (net_number net) (not b)) was less.new))
            (subst (λ n. IsOneMore between.in_new after.in_new (net_number n) (not (is_tried rec))) is (subst (λ b. IsOneMore between.in_new after.in_new (net_number net) (not b)) same more.new));
        tried =
            set-of is_tried order counts.in_tried after.in_tried between.in_tried id old rec apart at are.tried
            (subst (λ n. IsOneMore between.in_tried counts.in_tried (net_number n) (is_tried old)) of_old (subst (λ b. IsOneMore between.in_tried counts.in_tried (net_number net) b) was less.tried))
            (subst (λ n. IsOneMore between.in_tried after.in_tried (net_number n) (is_tried rec)) is (subst (λ b. IsOneMore between.in_tried after.in_tried (net_number net) b) same more.tried));
      }

  pub counted-gone : (after : Counts) (peer : Peer) (id : ℕ) (old : Rec) (net : Net) (was_tried : Bool) → IsOrder order
      → id_of order peer ≡ Some id → rec_of order id ≡ Some old → net ≡ network old → was_tried ≡ is_tried old
      → AreOneMore after counts (net_number net) was_tried → AreCounts (records (without order peer)) after
  counted-gone after peer id old net was_tried still known at is was less =
      by (find (λ l. same_peer peer l.rec.peer) order) refl
    where
      by : (o : Option Item) → find (λ l. same_peer peer l.rec.peer) order ≡ o → AreCounts (records (without order peer)) after
      by None none = let absent : None ≡ Some id = ap (λ o. option_map (λ (l : Item). l.id) o) (sym none) ∙ known in absurd (cc)
      by (Some m) found =
          let own : m.id ≡ id = ap (λ o. option_map_or (λ x. x) o id) (sym (ap (λ o. option_map (λ (l : Item). l.id) o) found) ∙ known) in
          let there : rec_of order m.id ≡ Some m.rec = found-by_id order peer m still found in
          let same : m.rec ≡ old = ap (λ o. option_map_or (λ x. x) o old) (sym there ∙ ap (rec_of order) own ∙ at) in
          let of_item : net ≡ network m.rec = is ∙ ap network (sym same) in
          let table : was_tried ≡ is_tried m.rec = was ∙ ap is_tried (sym same) in
          record {
            few = omega (arith, are.few, count-gone (λ r. true) order peer m found, all-counted (records order), all-counted (records (without order peer)));
            new =
                gone-of (λ r. not (is_tried r)) order counts.in_new after.in_new peer m found are.new
                (subst (λ n. IsOneMore after.in_new counts.in_new (net_number n) (not (is_tried m.rec))) of_item (subst (λ b. IsOneMore after.in_new counts.in_new (net_number net) (not b)) table less.new));
            tried =
                gone-of is_tried order counts.in_tried after.in_tried peer m found are.tried
                (subst (λ n. IsOneMore after.in_tried counts.in_tried (net_number n) (is_tried m.rec)) of_item (subst (λ b. IsOneMore after.in_tried counts.in_tried (net_number net) b) table less.tried));
          }

  pub counted-swap : (i j : ℕ) → i < length order → j < length order → AreCounts (records (swap order i j)) counts
  counted-swap i j first second = record {
    few = omega (arith, are.few, length-map order (λ l. l.rec), length-map (swap order i j) (λ l. l.rec), length-swap order i j);
    new = λ n small. are.new n small ∙ sym (count-swap (is_of (λ r. not (is_tried r)) n) order i j first second);
    tried = λ n small. are.tried n small ∙ sym (count-swap (is_of is_tried n) order i j first second);
  }

-- of no records
pub counted-none : (counts : Counts) → ((n : ℕ) → get_or counts.in_new n 0 ≡ 0) → ((n : ℕ) → get_or counts.in_tried n 0 ≡ 0) → AreCounts [] counts
counted-none counts new tried = record { few = omega arith; new = λ n small. new n; tried = λ n small. tried n }

-- The counts of the networks of a set are the number of the records of these networks.
cond-plus : (b : Bool) (m n : ℕ) → taken b (m + n) ≡ taken b m + taken b n
cond-plus true m n = refl
cond-plus false m n = refl

-- the same sum, over any counts
abbrev sum_of : List ℕ → (ℕ → ℕ) → ℕ
sum_of nets count =
    taken (has_number nets 0) (count 0)
    + taken (has_number nets 1) (count 1)
    + taken (has_number nets 2) (count 2)
    + taken (has_number nets 3) (count 3)
    + taken (has_number nets 4) (count 4)
    + taken (has_number nets 5) (count 5)
    + taken (has_number nets 6) (count 6)

sum-plus : (nets : List ℕ) (f g : ℕ → ℕ) → sum_of nets (λ n. f n + g n) ≡ sum_of nets f + sum_of nets g
sum-plus nets f g =
    omega (
      arith,
      cond-plus (has_number nets 0) (f 0) (g 0),
      cond-plus (has_number nets 1) (f 1) (g 1),
      cond-plus (has_number nets 2) (f 2) (g 2),
      cond-plus (has_number nets 3) (f 3) (g 3),
      cond-plus (has_number nets 4) (f 4) (g 4),
      cond-plus (has_number nets 5) (f 5) (g 5),
      cond-plus (has_number nets 6) (f 6) (g 6),
    )

cond-zero : (b : Bool) → taken b 0 ≡ 0
cond-zero true = refl
cond-zero false = refl

cond-both : (b c : Bool) → taken b (one_if c) ≡ one_if (c && b)
cond-both true true = refl
cond-both true false = refl
cond-both false true = refl
cond-both false false = refl

-- one network is one of the seven
abbrev only : ℕ → Bool → ℕ → ℕ
only own passes n = one_if ((own == n) && passes)

sum-only : (nets : List ℕ) (net : Net) (passes : Bool) → sum_of nets (only (net_number net) passes) ≡ one_if (passes && has nets net)
sum-only nets net passes = by net
  where
    none : (n : ℕ) → taken (has_number nets n) 0 ≡ 0
    none n = cond-zero (has_number nets n)

    own : (n : ℕ) → taken (has_number nets n) (one_if passes) ≡ one_if (passes && has_number nets n)
    own n = cond-both (has_number nets n) passes

    by : (net : Net) → sum_of nets (only (net_number net) passes) ≡ one_if (passes && has nets net)
    by Unroutable = omega (arith, own 0, none 1, none 2, none 3, none 4, none 5, none 6)
    by Ipv4 = omega (arith, own 1, none 0, none 2, none 3, none 4, none 5, none 6)
    by Ipv6 = omega (arith, own 2, none 0, none 1, none 3, none 4, none 5, none 6)
    by Onion = omega (arith, own 3, none 0, none 1, none 2, none 4, none 5, none 6)
    by I2p = omega (arith, own 4, none 0, none 1, none 2, none 3, none 5, none 6)
    by Cjdns = omega (arith, own 5, none 0, none 1, none 2, none 3, none 4, none 6)
    by Internal = omega (arith, own 6, none 0, none 1, none 2, none 3, none 4, none 5)

sum-counts : (test : Rec → Bool) (nets : List ℕ) (rs : List Rec) → sum_of nets (λ n. count_by (is_of test n) rs) ≡ count_by (λ r. test r && has nets (network r)) rs
sum-counts test nets [] = omega (arith, cond-zero (has_number nets 0), cond-zero (has_number nets 1), cond-zero (has_number nets 2), cond-zero (has_number nets 3), cond-zero (has_number nets 4), cond-zero (has_number nets 5), cond-zero (has_number nets 6))
sum-counts test nets (r ∷ rs) =
    (λ i. sum_of nets (λ n. sum_by-cons (mine test n) r rs i))
    ∙ sum-plus nets (only (net_number (network r)) (test r)) (λ n. count_by (is_of test n) rs)
    ∙ (λ i. sum-only nets (network r) (test r) i + sum-counts test nets rs i)
    ∙ sym (sum_by-cons (λ x. one_if (test x && has nets (network x))) r rs)

pub sum-wanted : (test : Rec → Bool) (nets : List ℕ) (rs : List Rec) (counts : List ℕ) → AreCountsOf test rs counts
    → sum_over nets counts ≡ count_by (λ r. test r && has nets (network r)) rs
sum-wanted test nets rs counts each =
    (λ i. taken (has_number nets 0) (each 0 (omega arith) i)
    + taken (has_number nets 1) (each 1 (omega arith) i)
    + taken (has_number nets 2) (each 2 (omega arith) i)
    + taken (has_number nets 3) (each 3 (omega arith) i)
    + taken (has_number nets 4) (each 4 (omega arith) i)
    + taken (has_number nets 5) (each 5 (omega arith) i)
    + taken (has_number nets 6) (each 6 (omega arith) i))
    ∙ sum-counts test nets rs
