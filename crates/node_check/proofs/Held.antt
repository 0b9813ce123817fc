-- In a sound state each record is in as many slots as it says.
use Rattle.std.proofs.Common.{◌≡◌, ◌≢◌, ℕ, ◌+◌, ◌-◌, ◌<◌, Bool, true, false, cond, ◌&&◌, ◌||◌, ◌==◌, List, [], ◌∷◌, length, All, AllPairs, Contains, count_by, find, Option, Some, None, refl, sym, ap, subst, ◌∙◌, inl, inr, ◌⊎◌, arith}
use Rattle.std.specs.List.{list_any, range_with_len}
use Rattle.std.proofs.lemmas.Bool.{false_from_ne_true}
use Rattle.std.proofs.lemmas.Bool.Decides.{Decides-eqb, eqb_tells}
use Rattle.std.proofs.lemmas.List.Elements.{All-contains, All-head, All-tail}
use Rattle.std.proofs.lemmas.List.Kept.{AllPairs-from_increasing}
use Rattle.placing.specs.Places.{new_slot, tried_bucket, tried_slot}
use Rattle.peer_rec.specs.Rec.{IsPlace, IsRec, buckets_by, buckets_of, is_tried}
use Rattle.peer_rec.specs.declared.place.Place.{Place}
use Rattle.peer_rec.specs.declared.place.Place.TheVariants.{New, Tried}
use Rattle.peer_rec.specs.declared.rec.Rec.{Rec}
use Rattle.table_machine.specs.Sound.{AtMostOne, IsSound}
use Rattle.table_machine.specs.State.{State, is_new_at, is_tried_at, new_rec_at, tried_rec_at}
use Rattle.table_machine.proofs.Counts.{new_slot-below, tried_bucket-below, tried_slot-below}
use Rattle.table_machine.proofs.Lists.{find-None, find-Some, list_any-Contains}
use Rattle.table_machine.proofs.Records.{same_record}
use Rattle.table_machine.proofs.Rising.{pairs_head, pairs_tail}
use Rattle.table_laws.specs.Rounds.{holds}
use Rattle.table_laws.proofs.Balance.{one_if}
use Rattle.table_laws.proofs.Counts.{all_range, count_agree, count_append, count_cons, count_no, count_none, range_at, sum_agree}
use Rattle.node_check.specs.Check.{held}

-- a number is in a range once
one-in : (n k : ℕ) → k < n → count_by (λ i. k == i) (range_with_len 0 n) ≡ 1
one-in n k below =
    let before = count_no (λ i. k == i) (range_with_len 0 k) (all_range (λ i. (k == i) ≡ false) 0 k (λ i from to. false_from_ne_true (k == i) (λ is. let same = (Decides-eqb k i).0 is in omega (arith, same, to)))) in
    let after = count_no (λ i. k == i) (range_with_len (k + 1) (n - k - 1)) (all_range (λ i. (k == i) ≡ false) (k + 1) (n - k - 1) (λ i from to. false_from_ne_true (k == i) (λ is. let same = (Decides-eqb k i).0 is in omega (arith, same, from)))) in
    let here : ◌≡◌ {A = ℕ} (cond (k == k) 1 0) 1 = ap {B = ℕ} (λ b. cond b 1 0) ((Decides-eqb k k).1 refl) in
    let whole = count_append (λ i. k == i) (range_with_len 0 k) (k ∷ range_with_len (k + 1) (n - k - 1)) in
    let rest = count_cons (λ i. k == i) k (range_with_len (k + 1) (n - k - 1)) in
    ap (count_by (λ i. k == i)) (range_at n k below) ∙ omega (arith, before, after, here, whole, rest)

-- it is there once if a test passes, else not
pub one_place : (n : ℕ) (x : Bool) (k : ℕ) → k < n → count_by (λ i. x && (k == i)) (range_with_len 0 n) ≡ one_if x
one_place n true k below = one-in n k below
one_place n false k below = count_none (range_with_len 0 n)

-- two tests that exclude each other
count_either : (p q : ℕ → Bool) (ns : List ℕ) → ((n : ℕ) → p n ≡ true → q n ≡ true → ⊥) → count_by (λ n. p n || q n) ns ≡ count_by p ns + count_by q ns
count_either p q [] apart = refl
count_either p q (n ∷ ns) apart =
    let all = count_cons (λ m. p m || q m) n ns in
    let ps = count_cons p n ns in
    let qs = count_cons q n ns in
    let rest = count_either p q ns apart in
    let here = by (p n) (q n) (apart n) in
    omega (arith, all, ps, qs, rest, here)
  where
    by : (a b : Bool) → (a ≡ true → b ≡ true → ⊥) → ◌≡◌ {A = ℕ} (cond (a || b) 1 0) (cond a 1 0 + cond b 1 0)
    by true true never = absurd (never refl refl)
    by true false never = refl
    by false true never = refl
    by false false never = refl

-- distinct numbers below n
pub count_distinct : (n : ℕ) (bs : List ℕ) → AllPairs (λ x y. x ≢ y) bs → All (λ b. b < n) bs → count_by (λ i. list_any (λ b. b == i) bs) (range_with_len 0 n) ≡ length bs
count_distinct n [] apart below = count_none (range_with_len 0 n)
count_distinct n (b ∷ bs) apart below =
    let rest = count_distinct n bs (pairs_tail (λ x y. x ≢ y) b bs apart) (All-tail (λ x. x < n) b bs below) in
    let here = one-in n b (All-head (λ x. x < n) b bs below) in
    count_either (λ i. b == i) (λ i. list_any (λ x. x == i) bs) (range_with_len 0 n)
    (λ i same later. pairs_head (λ x y. x ≢ y) b i bs apart (list_any-Contains i bs later) ((Decides-eqb b i).0 same))
    ∙ omega (arith, rest, here)

buckets-fit : (place : Place) → IsPlace place → AllPairs (λ x y. x ≢ y) (buckets_by place) × All (λ b. b < 1024) (buckets_by place)
buckets-fit (New buckets) is =
    (λ i j d below within same. let rise = AllPairs-from_increasing buckets is.rising i j d below within in omega (arith, rise, same), is.below)
buckets-fit Tried is = (λ i j d below within. absurd (omega (arith, within)), λ k d within. absurd (omega (arith, within)))

module _ (st : State) (sound : IsSound st) (r : Rec) (has : Contains st.records r) where
  -- the record that a search finds at a slot is this one exactly if the slot is its own
  holds-at : (is_at : ℕ → ℕ → Rec → Bool) → AtMostOne is_at st.records → (bucket slot : ℕ) → holds (λ (q : Rec). q.number == r.number) (find (is_at bucket slot) st.records) ≡ is_at bucket slot r
  holds-at is_at one bucket slot = by (find (is_at bucket slot) st.records) refl
    where
      by : (o : Option Rec) → find (is_at bucket slot) st.records ≡ o → holds (λ (q : Rec). q.number == r.number) o ≡ is_at bucket slot r
      by None is = sym (find-None (is_at bucket slot) st.records r is has)
      by (Some q) is = same (find-Some (is_at bucket slot) st.records q is) (eqb_tells q.number r.number)
        where
          same : Contains st.records q × (is_at bucket slot q ≡ true) → (((q.number == r.number) ≡ true) × (q.number ≡ r.number)) ⊎ (((q.number == r.number) ≡ false) × (q.number ≢ r.number))
              → (q.number == r.number) ≡ is_at bucket slot r
          same h (inl k) = k.0 ∙ sym (subst (λ (x : Rec). is_at bucket slot x ≡ true) (same_record st.records q r sound.rising h.0 has k.1) h.1)
          same h (inr k) = k.0 ∙ sym (false_from_ne_true (is_at bucket slot r) (λ at. k.1 (one bucket slot q r h.0 has h.1 at)))

  pub held_new : held st true r.number ≡ length (buckets_of r)
  unfolding held
  held_new =
      let fit = buckets-fit r.place (All-contains IsRec st.records r sound.records has).place in
      sum_agree (λ b. count_by (λ s. holds (λ (q : Rec). q.number == r.number) (new_rec_at st b s)) (range_with_len 0 64)) (λ b. one_if (list_any (λ x. x == b) (buckets_of r))) (range_with_len 0 1024)
      (all_range (λ b. count_by (λ s. holds (λ (q : Rec). q.number == r.number) (new_rec_at st b s)) (range_with_len 0 64) ≡ one_if (list_any (λ x. x == b) (buckets_of r))) 0 1024 (λ b from to.
      count_agree (λ s. holds (λ (q : Rec). q.number == r.number) (new_rec_at st b s)) (is_new_at' b) (range_with_len 0 64)
      (all_range (λ s. holds (λ (q : Rec). q.number == r.number) (new_rec_at st b s) ≡ is_new_at' b s) 0 64 (λ s low high. holds-at (is_new_at st.places) sound.new_slots b s))
      ∙ one_place 64 (list_any (λ x. x == b) (buckets_of r)) (new_slot st.places r.peer b) (new_slot-below st.places r.peer b)))
      ∙ count_distinct 1024 (buckets_of r) fit.0 fit.1
    where
      is_new_at' : ℕ → ℕ → Bool
      is_new_at' b s = is_new_at st.places b s r

  pub held_tried : held st false r.number ≡ one_if (is_tried r)
  unfolding held
  held_tried =
      sum_agree (λ b. count_by (λ s. holds (λ (q : Rec). q.number == r.number) (tried_rec_at st b s)) (range_with_len 0 64)) (λ b. one_if (is_tried r && (tried_bucket st.places r.peer == b))) (range_with_len 0 256)
      (all_range (λ b. count_by (λ s. holds (λ (q : Rec). q.number == r.number) (tried_rec_at st b s)) (range_with_len 0 64) ≡ one_if (is_tried r && (tried_bucket st.places r.peer == b))) 0 256 (λ b from to.
      count_agree (λ s. holds (λ (q : Rec). q.number == r.number) (tried_rec_at st b s)) (is_tried_at' b) (range_with_len 0 64)
      (all_range (λ s. holds (λ (q : Rec). q.number == r.number) (tried_rec_at st b s) ≡ is_tried_at' b s) 0 64 (λ s low high. holds-at (is_tried_at st.places) sound.tried_slots b s))
      ∙ one_place 64 (is_tried r && (tried_bucket st.places r.peer == b)) (tried_slot st.places r.peer b) (tried_slot-below st.places r.peer b)))
      ∙ one_place 256 (is_tried r) (tried_bucket st.places r.peer) (tried_bucket-below st.places r.peer)
    where
      is_tried_at' : ℕ → ℕ → Bool
      is_tried_at' b s = is_tried_at st.places b s r
