-- Deletion of the records that are in no bucket, by rising number.
use Rattle.std.proofs.Common.{◌≡◌, ◌≢◌, ℕ, ◌+◌, Bool, true, false, cond, not, ◌==◌, ◌&&◌, nat_lt, if◌then◌else◌, List, [], ◌∷◌, ◌++◌, length, filter, Contains, Some, refl, sym, ap, ◌∙◌, arith, true≢false}
use Rattle.std.specs.Prelude.{slice_get}
use Rattle.std.specs.List.{range_with_len}
use Rattle.std.proofs.lemmas.Bool.{eq-eqb, ne_eqb}
use Rattle.std.proofs.lemmas.Bool.Decides.{Decides-eqb}
use Rattle.std.proofs.lemmas.Option.{slice_get_within, get_or_from_slice_get}
use Rattle.placing.specs.Places.{Places}
use Rattle.peer_rec.specs.Deletion.{without_first}
use Rattle.peer_rec.specs.Rec.{buckets_of}
use Rattle.peer_rec.specs.declared.rec.Rec.{Rec}
use Rattle.slot_grid.specs.Slots.{Slots}
use Rattle.table_machine.specs.State.{State, by_number}
use Rattle.table_machine.specs.Entries.{delete}
use Rattle.table_machine.specs.Restoring.{drop_all, drop_record}
use Rattle.table_machine.proofs.Lists.{Contains-filter, Contains-from_filter, find_only}
use Rattle.table_machine.proofs.Records.{same_record}
use Rattle.table_machine.proofs.Rising.{filter_same_at, filter_whole}
use Rattle.table_plan.specs.Planned.{IsPlan, dropping, state_of, stays}
use Rattle.table_plan.proofs.Plans.{number-is, rising}
use Rattle.table_machine.proofs.RestartLaw.{and-no}

filter-filter : {X : Type 0} (p q : X → Bool) (xs : List X) → filter p (filter q xs) ≡ filter (λ x. q x && p x) xs
filter-filter p q [] = refl
filter-filter {X} p q (x ∷ xs) = by (q x) (filter-filter p q xs)
  where
    by : (b : Bool) → filter p (filter q xs) ≡ filter (λ y. q y && p y) xs → filter p (cond b (x ∷ filter q xs) (filter q xs)) ≡ cond (b && p x) (x ∷ filter (λ y. q y && p y) xs) (filter (λ y. q y && p y) xs)
    by true rest = ap (λ ys. cond (p x) (x ∷ ys) ys) rest
    by false rest = rest

less-next : (a n : ℕ) → a ≢ n → nat_lt a (n + 1) ≡ nat_lt a n
less-next a n differs = grind (arith, differs)

and-yes : (x y : Bool) → y ≡ true → (x && y) ≡ x
and-yes true y h = h
and-yes false y h = refl

-- the turn of a record
module _ (places : Places) (recs : List Rec) (news : ℕ) (slots : Slots) (plan : IsPlan places recs news slots) (turn : ℕ) (r : Rec) (at : slice_get recs turn ≡ Some r)
    (order : List ℕ) where
  number : r.number ≡ turn
  number = number-is places recs news slots plan turn r at

  there : Contains recs r
  there = (turn, slice_get_within recs turn r at, get_or_from_slice_get recs turn r r at)

  one_of : (q : Rec) → Contains recs q → q.number ≡ turn → q ≡ r
  one_of q c is = same_record recs q r (rising places recs news slots plan) c there (is ∙ sym number)

  found : by_number (dropping places recs turn order) turn ≡ Some r
  found =
      find_only (λ q. q.number == turn) (filter (stays turn) recs) r
      (Contains-filter (stays turn) recs r there (ap (λ b. not (b && length (buckets_of r) == 0)) (let late : nat_lt r.number turn ≡ false = grind (arith, number) in late)))
      (eq-eqb r.number turn number)
      (λ q c is. one_of q (Contains-from_filter (stays turn) recs q c).0 ((Decides-eqb q.number turn).0 is))

  pub drop-bare : (length (buckets_of r) == 0) ≡ true
      → drop_record (dropping places recs turn order) (by_number (dropping places recs turn order) turn) ≡ dropping places recs (turn + 1) (without_first (λ n. n == turn) order)
  drop-bare bare =
      ap (drop_record (dropping places recs turn order)) found
      ∙ ap (λ b. if b then delete (dropping places recs turn order) r else dropping places recs turn order) bare
      ∙ (λ i. record (state_of places recs) { records = kept i; order = without_first (λ n. n == number i) order })
    where
      each : (q : Rec) → Contains recs q → (stays turn q && not (q.number == r.number)) ≡ stays (turn + 1) q
      each q c = by (q.number == turn) refl
        where
          by : (b : Bool) → (q.number == turn) ≡ b → (stays turn q && not (q.number == r.number)) ≡ stays (turn + 1) q
          by true h =
              let is = (Decides-eqb q.number turn).0 h in
              let same = one_of q c is in
              let gone : not (q.number == r.number) ≡ false = ap not (eq-eqb q.number r.number (is ∙ sym number)) in
              let late : nat_lt q.number (turn + 1) ≡ true = grind (arith, is) in
              let empty : (length (buckets_of q) == 0) ≡ true = ap (λ (t : Rec). length (buckets_of t) == 0) same ∙ bare in
              and-no (stays turn q) _ gone ∙ (λ i. not (sym late i && sym empty i))
          by false h =
              let differs : q.number ≢ turn = λ is. true≢false (sym (eq-eqb q.number turn is) ∙ h) in
              let other : not (q.number == r.number) ≡ true = ap not (ne_eqb q.number r.number (λ is. differs (is ∙ number))) in
              and-yes (stays turn q) _ other ∙ ap (λ b. not (b && length (buckets_of q) == 0)) (sym (less-next q.number turn differs))

      kept : filter (λ q. not (q.number == r.number)) (filter (stays turn) recs) ≡ filter (stays (turn + 1)) recs
      kept = filter-filter (λ q. not (q.number == r.number)) (stays turn) recs
          ∙ filter_same_at (λ q. stays turn q && not (q.number == r.number)) (stays (turn + 1)) recs each

  pub drop-listed : (length (buckets_of r) == 0) ≡ false
      → drop_record (dropping places recs turn order) (by_number (dropping places recs turn order) turn) ≡ dropping places recs (turn + 1) order
  drop-listed some =
      ap (drop_record (dropping places recs turn order)) found
      ∙ ap (λ b. if b then delete (dropping places recs turn order) r else dropping places recs turn order) some
      ∙ (λ i. record (state_of places recs) { records = filter_same_at (stays turn) (stays (turn + 1)) recs each i; order = order })
    where
      each : (q : Rec) → Contains recs q → stays turn q ≡ stays (turn + 1) q
      each q c = by (q.number == turn) refl
        where
          by : (b : Bool) → (q.number == turn) ≡ b → stays turn q ≡ stays (turn + 1) q
          by true h =
              let same = one_of q c ((Decides-eqb q.number turn).0 h) in
              let full : (length (buckets_of q) == 0) ≡ false = ap (λ (t : Rec). length (buckets_of t) == 0) same ∙ some in
              ap not (and-no _ _ full ∙ sym (and-no _ _ full))
          by false h =
              let differs : q.number ≢ turn = λ is. true≢false (sym (eq-eqb q.number turn is) ∙ h) in
              ap (λ b. not (b && length (buckets_of q) == 0)) (sym (less-next q.number turn differs))

-- before the first turn nothing is gone
pub drop-start : (places : Places) (recs : List Rec) (order : List ℕ) → order ≡ range_with_len 0 (length recs) → dropping places recs 0 order ≡ state_of places recs
drop-start places recs order is = λ i. record (state_of places recs) {
  records = filter_whole (stays 0) recs (λ q c. ap (λ b. not (b && length (buckets_of q) == 0)) (late q)) i;
  order = is i;
}
  where
    late : (q : Rec) → nat_lt q.number 0 ≡ false
    late q = grind arith

-- the turn of one more number
pub drop-more : (st : State) (ns : List ℕ) (n : ℕ) → drop_all st (ns ++ n ∷ []) ≡ drop_record (drop_all st ns) (by_number (drop_all st ns) n)
drop-more st [] n = refl
drop-more st (m ∷ ns) n = drop-more (drop_record st (by_number st m)) ns n
