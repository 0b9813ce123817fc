-- What a change of the plan leaves.
use Rattle.std.proofs.Common.{◌≡◌, ◌≢◌, ℕ, zero, suc, ◌⊎◌, ◌&&◌, ◌||◌, not, drop, is_some, true≢false, ⊎_elim, if◌then◌else◌, ◌+◌, ◌<◌, Bool, true, false, cond, ◌==◌, List, [], ◌∷◌, ◌++◌, map, length, find, set, get_or, Contains, Option, Some, None, refl, sym, ap, subst, ◌∙◌, inl, inr, arith, length-append}
use Rattle.std.specs.Prelude.{IsSomeAnd, slice_get}
use Rattle.std.specs.List.{list_any, range_with_len}
use Rattle.std.specs.Option.{option_map, option_or}
use Rattle.std.proofs.lemmas.Bool.{eq-eqb, ne_eqb}
use Rattle.std.proofs.lemmas.List.{length-map, map-append}
use Rattle.std.proofs.lemmas.Option.{slice_get_within, get_or_from_slice_get}
use Rattle.std.proofs.Math.ListN.{length-set}
use Rattle.std.proofs.lemmas.List.Elements.{Contains-push_cases}
use Rattle.std.proofs.lemmas.List.Folds.{find-append}
use Rattle.placing.specs.Places.{Places}
use Rattle.peer_rec.specs.declared.rec.Rec.{Rec}
use Rattle.std.specs.List.Sorted.{IsStrictlyIncreasing}
use Rattle.std.proofs.lemmas.Bool.{both_ways, cases_eq}
use Rattle.std.proofs.lemmas.Bool.Decides.{Decides-eqb}
use Rattle.net_addr.specs.Ranges.{is_valid}
use Rattle.placing.specs.Places.{new_bucket, new_slot, tried_bucket, tried_slot}
use Rattle.peer_rec.specs.Rec.{buckets_of, is_tried}
use Rattle.peer_rec.specs.Buckets.{with_bucket}
use Rattle.peer_rec.specs.declared.file_rec.FileRec.{FileRec}
use Rattle.peer_rec.specs.declared.place.Place.TheVariants.{New, Tried}
use Rattle.slot_grid.specs.Slots.{Slots, SameNew, SameTried, SameOtherNew, SameOtherTried, new_id, tried_id}
use Rattle.table_machine.specs.State.{State, is_new_at, is_tried_at, new_rec_at, tried_occupant}
use Rattle.table_machine.specs.Entries.{change_number, with_last}
use Rattle.table_machine.specs.Restoring.{give_if_empty, give_or, place_pair, place_record, record_of, with_new, with_tried}
use Rattle.table_machine.proofs.Buckets.{with_bucket-cases}
use Rattle.table_machine.proofs.Grown.{range-push}
use Rattle.table_machine.proofs.RestartLaw.{in_range-below}
use Rattle.table_machine.proofs.Lists.{Contains-map, Contains-head, Contains-tail, find-None, find_only}
use Rattle.table_machine.proofs.Part.{range_rising}
use Rattle.table_machine.proofs.Records.{changed_cases, changed_own, change_number-images, new_at_from, new_at_parts, same_record, tried_at_from, tried_at_parts}
use Rattle.table_machine.proofs.Rising.{with_bucket-has, with_bucket-keeps}
use Rattle.table_plan.specs.Planned.{HasSpace, IsPlan, give_listed, state_of}

-- a record that is appended has its position as its number
pub numbers-put : (recs : List Rec) (r : Rec) → map (λ q. q.number) recs ≡ range_with_len 0 (length recs) → r.number ≡ length recs
    → map (λ q. q.number) (recs ++ r ∷ []) ≡ range_with_len 0 (length (recs ++ r ∷ []))
numbers-put recs r are is =
    map-append (λ (q : Rec). q.number) recs (r ∷ [])
    ∙ (λ i. are i ++ r.number ∷ [])
    ∙ range-push 0 (length recs) r.number (omega (arith, is))
    ∙ ap (range_with_len 0) (let long : suc (length recs) ≡ length (recs ++ r ∷ []) = omega (arith, length-append recs (r ∷ [])) in long)

-- a search of one more that does not pass
pub find-put_no : (p : Rec → Bool) (recs : List Rec) (r : Rec) → p r ≡ false → find p (recs ++ r ∷ []) ≡ find p recs
find-put_no p recs r fails = find-append p recs (r ∷ []) ∙ by (find p recs)
  where
    by : (o : Option Rec) → option_or o (find p (r ∷ [])) ≡ o
    by None = ap (λ b. cond b (Some r) None) fails
    by (Some q) = refl

-- and of one more that is the first to pass
pub find-put_yes : (p : Rec → Bool) (recs : List Rec) (r : Rec) → p r ≡ true → find p recs ≡ None → find p (recs ++ r ∷ []) ≡ Some r
find-put_yes p recs r passes none = find-append p recs (r ∷ []) ∙ ap (λ o. option_or o (find p (r ∷ []))) none ∙ ap (λ b. cond b (Some r) None) passes

-- the record at a position has this number
pub at-number : (recs : List Rec) (n k : ℕ) (r : Rec) → map (λ q. q.number) recs ≡ range_with_len n (length recs) → slice_get recs k ≡ Some r → r.number ≡ n + k
at-number [] n k r are at = absurd (cc)
at-number (q ∷ qs) n zero r are at = let same : q ≡ r = cc in let first : q.number ≡ n = ap (λ ns. get_or ns 0 0) are in omega (arith, ap (λ (t : Rec). t.number) same)
at-number (q ∷ qs) n (suc k) r are at = let rest = at-number qs (n + 1) k r (ap (drop 1) are) at in omega arith

-- a search for a number finds the record at this position
pub found-at : (recs : List Rec) (n k : ℕ) → map (λ q. q.number) recs ≡ range_with_len n (length recs) → find (λ q. q.number == n + k) recs ≡ slice_get recs k
found-at [] n k are = refl
found-at (q ∷ qs) n zero are = let first : q.number ≡ n = ap (λ ns. get_or ns 0 0) are in ap (λ b. cond b (Some q) (find (λ p. p.number == n + 0) qs)) (eq-eqb q.number (n + 0) (omega (arith, first)))
found-at (q ∷ qs) n (suc k) are =
    let first : q.number ≡ n = ap (λ ns. get_or ns 0 0) are in
    ap (λ b. cond b (Some q) (find (λ p. p.number == n + suc k) qs)) (ne_eqb q.number (n + suc k) (λ e. omega (arith, first, e)))
    ∙ ap (λ m. find (λ p. p.number == m) qs) (omega arith)
    ∙ found-at qs (n + 1) k (ap (drop 1) are)

no_change : (recs : List Rec) (n m : ℕ) (r : Rec) → map (λ q. q.number) recs ≡ range_with_len n (length recs) → m < n → change_number m r recs ≡ recs
no_change [] n m r are below = refl
no_change (q ∷ qs) n m r are below =
    let first : q.number ≡ n = ap (λ ns. get_or ns 0 0) are in
    let here : (if q.number == m then r else q) ≡ q = ap (λ b. if b then r else q) (ne_eqb q.number m (λ e. omega (arith, first, e))) in
    let rest = no_change qs (n + 1) m r (ap (drop 1) are) (omega arith) in
    λ i. here i ∷ rest i

-- a change of the record of a number is one at this position
pub change-at : (recs : List Rec) (n k : ℕ) (r : Rec) → map (λ q. q.number) recs ≡ range_with_len n (length recs) → k < length recs → change_number (n + k) r recs ≡ set recs k r
change-at [] n k r are within = absurd (omega arith)
change-at (q ∷ qs) n zero r are within =
    let first : q.number ≡ n = ap (λ ns. get_or ns 0 0) are in
    let here : (if q.number == n + 0 then r else q) ≡ r = ap (λ b. if b then r else q) (eq-eqb q.number (n + 0) (omega (arith, first))) in
    let rest = no_change qs (n + 1) (n + 0) r (ap (drop 1) are) (omega arith) in
    λ i. here i ∷ rest i
change-at (q ∷ qs) n (suc k) r are within =
    let first : q.number ≡ n = ap (λ ns. get_or ns 0 0) are in
    let here : (if q.number == n + suc k then r else q) ≡ q = ap (λ b. if b then r else q) (ne_eqb q.number (n + suc k) (λ e. omega (arith, first, e))) in
    let same : n + suc k ≡ n + 1 + k = omega arith in
    let rest = ap (λ m. change_number m r qs) same ∙ change-at qs (n + 1) k r (ap (drop 1) are) (omega arith) in
    λ i. here i ∷ rest i

-- what the plan's numbers say of a number and of a position
module _ (places : Places) (recs : List Rec) (news : ℕ) (slots : Slots) (plan : IsPlan places recs news slots) where
  pub rising : IsStrictlyIncreasing (map (λ q. q.number) recs)
  rising = subst IsStrictlyIncreasing (sym plan.numbers) (range_rising 0 (length recs))

  pub number-is : (k : ℕ) (r : Rec) → slice_get recs k ≡ Some r → r.number ≡ k
  number-is k r at = let h = at-number recs 0 k r plan.numbers at in omega arith

  pub by-position : (k : ℕ) → find (λ q. q.number == k) recs ≡ slice_get recs k
  by-position k = ap (λ m. find (λ q. q.number == m) recs) (let same : k ≡ 0 + k = omega arith in same) ∙ found-at recs 0 k plan.numbers

  pub set-is : (k : ℕ) (r : Rec) → k < length recs → change_number k r recs ≡ set recs k r
  set-is k r within = ap (λ m. change_number m r recs) (let same : k ≡ 0 + k = omega arith in same) ∙ change-at recs 0 k r plan.numbers within

  -- a record in no bucket of the new table is appended
  new-put : (r : Rec) → buckets_of r ≡ [] → (b s : ℕ) → b < 1024 → s < 64
      → new_id slots b s ≡ option_map (λ q. q.number) (find (is_new_at places b s) (recs ++ r ∷ []))
  new-put r none b s low small =
      plan.new b s low small
      ∙ ap (option_map (λ q. q.number)) (sym (find-put_no (is_new_at places b s) recs r (ap (λ xs. list_any (λ x. x == b) xs && (new_slot places r.peer b == s)) none)))

  below : (q : Rec) → Contains recs q → q.number < length recs
  below q c = in_range-below (length recs) q.number (subst (λ ns. Contains ns q.number) plan.numbers (Contains-map (λ (t : Rec). t.number) recs q c))

  pub put-new : news ≡ length recs → (r : FileRec) → IsPlan places (recs ++ record_of r (length recs) (New []) ∷ []) (news + 1) slots
  put-new only r =
      let q = record_of r (length recs) (New []) in
      record {
        numbers = numbers-put recs q plan.numbers refl;
        new = new-put q refl;
        tried = λ b s low small. plan.tried b s low small ∙ ap (option_map (λ q. q.number)) (sym (find-put_no (is_tried_at places b s) recs q refl));
        most = let long = length-append recs (q ∷ []) in omega (arith, only);
        untried = λ t c less. ⊎_elim (λ old. plan.untried t old (let low = below t old in omega arith)) (λ is. ap is_tried (sym is)) (Contains-push_cases recs q t c);
      }

  appended : (q : Rec) → q.number ≡ length recs → state_of places (recs ++ q ∷ []) ≡ with_last (state_of places recs) q
  appended q is =
      let long : length (recs ++ q ∷ []) ≡ length recs + 1 = length-append recs (q ∷ []) ∙ omega arith in
      let count : suc (length recs) ≡ length recs + 1 = omega arith in
      let order : range_with_len 0 (length recs) ++ q.number ∷ [] ≡ range_with_len 0 (length (recs ++ q ∷ [])) =
      range-push 0 (length recs) q.number (omega (arith, is)) ∙ ap (range_with_len 0) (count ∙ sym long) in
      λ i. record (state_of places (recs ++ q ∷ [])) { order = sym order i; next_number = long i }

  pub put-new_state : (r : FileRec) → state_of places (recs ++ record_of r (length recs) (New []) ∷ []) ≡ with_new (state_of places recs) r
  put-new_state r = appended (record_of r (length recs) (New [])) refl

  -- a record of the tried table, by its slot
  module _ (r : FileRec) (bucket slot : ℕ) (bucket_is : bucket ≡ tried_bucket places r.peer) (slot_is : slot ≡ tried_slot places r.peer bucket)
      (bucket_fits : bucket < 256) (slot_fits : slot < 64) where
    occupant-is : tried_occupant (state_of places recs) r.peer ≡ find (is_tried_at places bucket slot) recs
    occupant-is = λ i. find (is_tried_at places (sym bucket_is i) (sym (slot_is ∙ ap (tried_slot places r.peer) bucket_is) i)) recs

    pub taken-tried : is_some (tried_id slots bucket slot) ≡ true → with_tried (state_of places recs) r ≡ state_of places recs
    taken-tried full = by (is_valid r.peer.addr) (find (is_tried_at places bucket slot) recs) refl
      where
        by : (valid : Bool) (o : Option Rec) → find (is_tried_at places bucket slot) recs ≡ o
            → (if not valid || is_some (tried_occupant (state_of places recs) r.peer) then state_of places recs else with_last (state_of places recs) (record_of r (length recs) Tried)) ≡ state_of places recs
        by false o found = refl
        by true None found = absurd (true≢false (sym full ∙ ap is_some (plan.tried bucket slot bucket_fits slot_fits ∙ ap (option_map (λ q. q.number)) found)))
        by true (Some q) found =
            ap (λ o. if is_some o then state_of places recs else with_last (state_of places recs) (record_of r (length recs) Tried)) (occupant-is ∙ found)

    module _ (empty : is_some (tried_id slots bucket slot) ≡ false) where
      none-there : find (is_tried_at places bucket slot) recs ≡ None
      none-there = by (find (is_tried_at places bucket slot) recs) refl
        where
          by : (o : Option Rec) → find (is_tried_at places bucket slot) recs ≡ o → o ≡ None
          by None found = refl
          by (Some q) found = absurd (true≢false (sym (ap is_some (plan.tried bucket slot bucket_fits slot_fits ∙ ap (option_map (λ p. p.number)) found)) ∙ empty))

      pub put-tried_state : is_valid r.peer.addr ≡ true → state_of places (recs ++ record_of r (length recs) Tried ∷ []) ≡ with_tried (state_of places recs) r
      put-tried_state valid =
          let q = record_of r (length recs) Tried in
          appended q refl
          ∙ (λ i. if not (sym valid i) || is_some (sym (occupant-is ∙ none-there) i) then state_of places recs else with_last (state_of places recs) q)

      pub put-tried : (after : Slots) → tried_id after bucket slot ≡ Some (length recs) → SameOtherTried slots after bucket slot → SameNew slots after
          → IsPlan places (recs ++ record_of r (length recs) Tried ∷ []) news after
      put-tried after written others same =
          let q = record_of r (length recs) Tried in
          record {
            numbers = numbers-put recs q plan.numbers refl;
            new = λ b s low small. same b s low small ∙ new-put q refl b s low small;
            tried = tried;
            most = let long = length-append recs (q ∷ []) in let few = plan.most in omega arith;
            untried = λ t c less. ⊎_elim (λ old. plan.untried t old less) (λ (is : q ≡ t). let number = ap (λ (u : Rec). u.number) is in let few = plan.most in absurd (omega arith)) (Contains-push_cases recs q t c);
          }
        where
          q : Rec
          q = record_of r (length recs) Tried

          tried : (b s : ℕ) → b < 256 → s < 64 → tried_id after b s ≡ option_map (λ p. p.number) (find (is_tried_at places b s) (recs ++ record_of r (length recs) Tried ∷ []))
          tried b s low small = by (is_tried_at places b s (record_of r (length recs) Tried)) refl (cases_eq b bucket) (cases_eq s slot)
            where
              same_slot : b ≡ bucket → s ≡ slot → tried_id after b s ≡ option_map (λ p. p.number) (find (is_tried_at places b s) (recs ++ record_of r (length recs) Tried ∷ []))
              same_slot one two =
                  let own : is_tried_at places bucket slot (record_of r (length recs) Tried) ≡ true =
                  tried_at_from places bucket slot (record_of r (length recs) Tried) refl (sym bucket_is) (sym slot_is) in
                  let here : tried_id after bucket slot ≡ option_map (λ p. p.number) (find (is_tried_at places bucket slot) (recs ++ record_of r (length recs) Tried ∷ [])) =
                  written ∙ ap (option_map (λ p. p.number)) (sym (find-put_yes (is_tried_at places bucket slot) recs (record_of r (length recs) Tried) own none-there)) in
                  subst (λ n. tried_id after n s ≡ option_map (λ p. p.number) (find (is_tried_at places n s) (recs ++ record_of r (length recs) Tried ∷ []))) (sym one)
                  (subst (λ m. tried_id after bucket m ≡ option_map (λ p. p.number) (find (is_tried_at places bucket m) (recs ++ record_of r (length recs) Tried ∷ []))) (sym two) here)

              away : (b ≢ bucket) ⊎ (s ≢ slot) → is_tried_at places b s (record_of r (length recs) Tried) ≡ false
                  → tried_id after b s ≡ option_map (λ p. p.number) (find (is_tried_at places b s) (recs ++ record_of r (length recs) Tried ∷ []))
              away other no_there =
                  others b s low small other ∙ plan.tried b s low small
                  ∙ ap (option_map (λ p. p.number)) (sym (find-put_no (is_tried_at places b s) recs (record_of r (length recs) Tried) no_there))

              by : (c : Bool) → is_tried_at places b s (record_of r (length recs) Tried) ≡ c → (b ≡ bucket) ⊎ (b ≢ bucket) → (s ≡ slot) ⊎ (s ≢ slot)
                  → tried_id after b s ≡ option_map (λ p. p.number) (find (is_tried_at places b s) (recs ++ record_of r (length recs) Tried ∷ []))
              by true h one two =
                  let parts = tried_at_parts places b s (record_of r (length recs) Tried) h in
                  let same_bucket : b ≡ bucket = sym parts.0 ∙ sym bucket_is in
                  same_slot same_bucket (sym parts.1 ∙ ap (tried_slot places r.peer) same_bucket ∙ sym slot_is)
              by false h (inr differs) two = away (inl differs) h
              by false h (inl one) (inr differs) = away (inr differs) h
              by false h (inl one) (inl two) = same_slot one two

-- a search of a list of which the record of one number is another
find-changed : (p : Rec → Bool) (n : ℕ) (s : Rec) (recs : List Rec) → ((q : Rec) → Contains recs q → q.number ≡ n → (p s ≡ p q) × (s.number ≡ q.number))
    → option_map (λ q. q.number) (find p (change_number n s recs)) ≡ option_map (λ q. q.number) (find p recs)
find-changed p n s [] same = refl
find-changed p n s (q ∷ qs) same = by (q.number == n) refl (find-changed p n s qs (λ t c. same t (Contains-tail q qs t c)))
  where
    by : (b : Bool) → (q.number == n) ≡ b → option_map (λ t. t.number) (find p (change_number n s qs)) ≡ option_map (λ t. t.number) (find p qs)
        → option_map (λ t. t.number) (find p ((if b then s else q) ∷ change_number n s qs)) ≡ option_map (λ t. t.number) (find p (q ∷ qs))
    by true h rest =
        let own = same q (Contains-head q qs) ((Decides-eqb q.number n).0 h) in
        by_test (p s) (p q) own.0 own.1 rest
      where
        by_test : (x y : Bool) → x ≡ y → s.number ≡ q.number → option_map (λ t. t.number) (find p (change_number n s qs)) ≡ option_map (λ t. t.number) (find p qs)
            → option_map (λ t. t.number) (cond x (Some s) (find p (change_number n s qs))) ≡ option_map (λ t. t.number) (cond y (Some q) (find p qs))
        by_test true true one number more = ap Some number
        by_test false false one number more = more
        by_test true false one number more = absurd (true≢false one)
        by_test false true one number more = absurd (true≢false (sym one))
    by false h rest = by_test (p q) rest
      where
        by_test : (y : Bool) → option_map (λ t. t.number) (find p (change_number n s qs)) ≡ option_map (λ t. t.number) (find p qs)
            → option_map (λ t. t.number) (cond y (Some q) (find p (change_number n s qs))) ≡ option_map (λ t. t.number) (cond y (Some q) (find p qs))
        by_test true more = refl
        by_test false more = more

same_bool : (a b : Bool) → (a ≡ true → b ≡ true) → (b ≡ true → a ≡ true) → a ≡ b
same_bool true b to back = sym (to refl)
same_bool false true to back = back refl
same_bool false false to back = refl

-- the record with one more bucket
abbrev pub with_one : Rec → ℕ → Rec
with_one r bucket = record r { place = New (with_bucket bucket (buckets_of r)) }

-- the record at a position gets a bucket whose slot is empty
module _ (places : Places) (recs : List Rec) (news : ℕ) (slots : Slots) (plan : IsPlan places recs news slots) (index bucket slot : ℕ) (r : Rec)
    (at : slice_get recs index ≡ Some r) (untried : is_tried r ≡ false) (slot_is : slot ≡ new_slot places r.peer bucket) (bucket_fits : bucket < 1024) (slot_fits : slot < 64) where
  occupant : new_rec_at (state_of places recs) bucket (new_slot places r.peer bucket) ≡ find (is_new_at places bucket slot) recs
  occupant = ap (λ k. find (is_new_at places bucket k) recs) (sym slot_is)

  pub taken-new : is_some (new_id slots bucket slot) ≡ true → (other : State) → give_if_empty (state_of places recs) r bucket other ≡ other
  taken-new full other = ap (λ o. give_or (state_of places recs) r bucket o other) occupant ∙ by (find (is_new_at places bucket slot) recs) refl
    where
      by : (o : Option Rec) → find (is_new_at places bucket slot) recs ≡ o → give_or (state_of places recs) r bucket o other ≡ other
      by None found = absurd (true≢false (sym full ∙ ap is_some (plan.new bucket slot bucket_fits slot_fits ∙ ap (option_map (λ q. q.number)) found)))
      by (Some q) found = refl

  module _ (empty : is_some (new_id slots bucket slot) ≡ false) where
    no_occupant : find (is_new_at places bucket slot) recs ≡ None
    no_occupant = by (find (is_new_at places bucket slot) recs) refl
      where
        by : (o : Option Rec) → find (is_new_at places bucket slot) recs ≡ o → o ≡ None
        by None found = refl
        by (Some q) found = absurd (true≢false (sym (ap is_some (plan.new bucket slot bucket_fits slot_fits ∙ ap (option_map (λ p. p.number)) found)) ∙ empty))

    number : r.number ≡ index
    number = number-is places recs news slots plan index r at

    within : index < length recs
    within = slice_get_within recs index r at

    there : Contains recs r
    there = (index, within, get_or_from_slice_get recs index r r at)

    whole : change_number r.number (with_one r bucket) recs ≡ set recs index (with_one r bucket)
    whole = ap (λ k. change_number k (with_one r bucket) recs) number
        ∙ set-is places recs news slots plan index (with_one r bucket) within

    pub give-new_state : (other : State) → state_of places (set recs index (with_one r bucket)) ≡ give_if_empty (state_of places recs) r bucket other
    give-new_state other =
        let long : length (set recs index (with_one r bucket)) ≡ length recs = length-set recs index (with_one r bucket) in
        (λ i. record (state_of places recs) { records = sym whole i; order = range_with_len 0 (long i); next_number = long i })
        ∙ sym (ap (λ o. give_or (state_of places recs) r bucket o other) (occupant ∙ no_occupant))

    pub give-new : (after : Slots) → new_id after bucket slot ≡ Some index → SameOtherNew slots after bucket slot → SameTried slots after
        → IsPlan places (set recs index (with_one r bucket)) news after
    give-new after written others same =
        subst (λ rs. IsPlan places rs news after) whole (record {
          numbers = images ∙ plan.numbers ∙ ap (range_with_len 0) (sym long);
          new = new;
          tried = λ b s low small. same b s low small ∙ plan.tried b s low small
              ∙ sym (find-changed (is_tried_at places b s) r.number (with_one r bucket) recs (λ q c is. (ap (λ t. t && (tried_bucket places q.peer == b) && (tried_slot places q.peer b == s)) (sym (ap is_tried (one_of q c is) ∙ untried)), sym is)));
          most = let few = plan.most in omega (arith, long);
          untried = λ t c less. ⊎_elim (λ is. ap is_tried (sym is)) (λ old. plan.untried t old.0 less) (changed_cases r.number (with_one r bucket) recs t c);
        })
      where
        long : length (change_number r.number (with_one r bucket) recs) ≡ length recs
        long = length-map recs (λ q. if q.number == r.number then with_one r bucket else q)

        one_of : (q : Rec) → Contains recs q → q.number ≡ r.number → q ≡ r
        one_of q c is = same_record recs q r (rising places recs news slots plan) c there is

        images : map (λ q. q.number) (change_number r.number (with_one r bucket) recs) ≡ map (λ q. q.number) recs
        images = change_number-images (λ (q : Rec). q.number) r.number (with_one r bucket) recs (λ q c is. sym is)

        new : (b s : ℕ) → b < 1024 → s < 64
            → new_id after b s ≡ option_map (λ q. q.number) (find (is_new_at places b s) (change_number r.number (with_one r bucket) recs))
        new b s low small = by (cases_eq b bucket) (cases_eq s slot)
          where
            Right : ℕ → ℕ → Type 0
            Right b s = new_id after b s ≡ option_map (λ q. q.number) (find (is_new_at places b s) (change_number r.number (with_one r bucket) recs))

            here : Right bucket slot
            here =
                let own : is_new_at places bucket slot (with_one r bucket) ≡ true =
                new_at_from places bucket slot (with_one r bucket) (with_bucket-has bucket (buckets_of r)) (sym slot_is) in
                written
                ∙ ap Some (sym number)
                ∙ ap (option_map (λ q. q.number)) (sym (find_only (is_new_at places bucket slot) (change_number r.number (with_one r bucket) recs) (with_one r bucket)
                (changed_own r.number (with_one r bucket) recs r there refl) own
                (λ q c at_q. ⊎_elim sym (λ old. absurd (both_ways _ (find-None (is_new_at places bucket slot) recs q no_occupant old.0) at_q)) (changed_cases r.number (with_one r bucket) recs q c))))

            away : (b ≢ bucket) ⊎ (s ≢ slot) → new_id after b s ≡ option_map (λ q. q.number) (find (is_new_at places b s) (change_number r.number (with_one r bucket) recs))
            away other =
                others b s low small other ∙ plan.new b s low small
                ∙ sym (find-changed (is_new_at places b s) r.number (with_one r bucket) recs (λ q c is. (stays ∙ ap (is_new_at places b s) (sym (one_of q c is)), sym is)))
              where
                stays : is_new_at places b s (with_one r bucket) ≡ is_new_at places b s r
                stays =
                    same_bool (is_new_at places b s (with_one r bucket)) (is_new_at places b s r)
                    (λ h.
                    let parts = new_at_parts places b s (with_one r bucket) h in
                    ⊎_elim
                    (λ (one : b ≡ bucket).
                    let two : s ≡ slot = sym parts.1 ∙ ap (new_slot places r.peer) one ∙ sym slot_is in
                    absurd (⊎_elim (λ differs. differs one) (λ differs. differs two) other))
                    (λ old. new_at_from places b s r old parts.1)
                    (with_bucket-cases bucket (buckets_of r) b parts.0))
                    (λ h.
                    let parts = new_at_parts places b s r h in
                    new_at_from places b s (with_one r bucket) (with_bucket-keeps bucket (buckets_of r) b parts.0) parts.1)

            by : (b ≡ bucket) ⊎ (b ≢ bucket) → (s ≡ slot) ⊎ (s ≢ slot) → Right b s
            by (inl one) (inl two) = subst (λ n. Right n s) (sym one) (subst (λ m. Right bucket m) (sym two) here)
            by (inr differs) two = away (inl differs)
            by (inl one) (inr differs) = away (inr differs)

-- the value that there is
pub some-of : (o : Option Rec) → IsSomeAnd o HasSpace → (r : Rec) × (o ≡ Some r) × HasSpace r
some-of None h = absurd h
some-of (Some r) h = (r, refl, h)

pub some-by : (o : Option Rec) (r : Rec) → o ≡ Some r → IsSomeAnd o HasSpace → is_tried r ≡ false
some-by o r is h = (subst (λ (x : Option Rec). IsSomeAnd x HasSpace) is h).untried

-- the record at a position, as a list is read
pub at-get : (recs : List Rec) (k : ℕ) (r : Rec) → k < length recs → r ≡ get_or recs k r → slice_get recs k ≡ Some r
at-get [] k r within is = absurd (omega arith)
at-get (q ∷ qs) zero r within is = ap Some (sym is)
at-get (q ∷ qs) (suc k) r within is = at-get qs k r (omega arith) is

-- the turn of a record that is placed, or passed over
module _ (places : Places) (recs : List Rec) (news : ℕ) (slots : Slots) (plan : IsPlan places recs news slots) (are_used : Bool) (bucket index : ℕ) (r : Rec)
    (below : index < news) (is : r ≡ get_or recs index r) where
  pub there-at : slice_get recs index ≡ Some r
  there-at = let few = plan.most in at-get recs index r (omega arith) is

  pub has-space : length (buckets_of r) < 8 → IsSomeAnd (slice_get recs index) HasSpace
  has-space room =
      let number = number-is places recs news slots plan index r there-at in
      let few = plan.most in
      subst (λ o. IsSomeAnd o HasSpace) (sym there-at) (record {
        untried = plan.untried r (index, (let within : index < length recs = omega arith in within), sym is) (omega (arith, number));
        room = room;
      })

  placed_by : place_pair are_used (state_of places recs) (bucket, index) ≡ place_record are_used (state_of places recs) bucket (Some r)
  placed_by = ap (place_record are_used (state_of places recs) bucket) (by-position places recs news slots plan index ∙ there-at)

  pub place-passed : not (not (is_valid r.peer.addr) || length (buckets_of r) == 8) ≡ false → state_of places recs ≡ place_pair are_used (state_of places recs) (bucket, index)
  place-passed passed = sym (placed_by ∙ ap (λ b. if b then state_of places recs else (
      let by_source = give_if_empty (state_of places recs) r (new_bucket places r.peer r.source) (state_of places recs) in
      if are_used then give_if_empty (state_of places recs) r bucket by_source else by_source)) (not-false _ passed))
    where
      not-false : (b : Bool) → not b ≡ false → b ≡ true
      not-false true h = refl
      not-false false h = absurd (true≢false h)

  pub place-turn : not (not (is_valid r.peer.addr) || length (buckets_of r) == 8) ≡ true
      → place_pair are_used (state_of places recs) (bucket, index)
      ≡ give_listed are_used (state_of places recs) r bucket (give_if_empty (state_of places recs) r (new_bucket places r.peer r.source) (state_of places recs))
  place-turn turn = placed_by ∙ ap (λ b. if b then state_of places recs else (
      let by_source = give_if_empty (state_of places recs) r (new_bucket places r.peer r.source) (state_of places recs) in
      if are_used then give_if_empty (state_of places recs) r bucket by_source else by_source)) (not-true _ turn)
    where
      not-true : (b : Bool) → not b ≡ true → b ≡ false
      not-true true h = absurd (true≢false (sym h))
      not-true false h = refl
