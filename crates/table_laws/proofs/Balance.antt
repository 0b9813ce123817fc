-- Records are as many as before, with those that were made, and without those that were lost.
use Rattle.std.proofs.Common.{◌≡◌, ℕ, ◌+◌, ◌<◌, ◌≤◌, Bool, true, false, cond, not, ◌==◌, nat_le, is_some, List, [], ◌∷◌, length, AllPairs, Contains, find, sum_by, count_by, Some, refl, sym, ap, ◌∙◌, arith, if◌then◌else◌}
use Rattle.std.proofs.lemmas.Bool.{false_from_ne_true, leb-false, leb-true}
use Rattle.std.proofs.lemmas.Bool.Decides.{Decides-eqb}
use Rattle.std.proofs.lemmas.List.Elements.{All-contains}
use Rattle.std.proofs.lemmas.List.Sums.{sum_by-cons}
use Rattle.peer_rec.specs.declared.rec.Rec.{Rec}
use Rattle.table_machine.specs.Sound.{IsSound}
use Rattle.table_machine.specs.State.{State, by_number}
use Rattle.table_machine.proofs.Counts.{numbers_apart}
use Rattle.table_machine.proofs.Kept.{KeepsPeers}
use Rattle.table_machine.proofs.Lists.{All-from_Contains, find-IsSome, find_none_from}
use Rattle.table_machine.proofs.Rising.{pairs_head, pairs_tail}
use Rattle.table_laws.specs.Losses.{lost_count, made_count}
use Rattle.table_laws.proofs.Counts.{count_cons, count_no, count_not, sum_agree}

pub sum_nothing : {X : Type 0} (xs : List X) → sum_by (λ x. 0) xs ≡ 0
sum_nothing [] = refl
sum_nothing (x ∷ xs) = sum_by-cons (λ y. 0) x xs ∙ omega (arith, sum_nothing xs)

pub sum_both : {X : Type 0} (f g : X → ℕ) (xs : List X) → sum_by (λ x. f x + g x) xs ≡ sum_by f xs + sum_by g xs
sum_both f g [] = refl
sum_both f g (x ∷ xs) =
    let all = sum_by-cons (λ y. f y + g y) x xs in
    let one = sum_by-cons f x xs in
    let two = sum_by-cons g x xs in
    let rest = sum_both f g xs in
    omega (arith, all, one, two, rest)

-- sums may be exchanged
pub sum_swap : {X Y : Type 0} (f : X → Y → ℕ) (xs : List X) (ys : List Y)
    → sum_by (λ x. sum_by (f x) ys) xs ≡ sum_by (λ y. sum_by (λ x. f x y) xs) ys
sum_swap {X} {Y} f [] ys = sym (sum_nothing ys)
sum_swap {X} {Y} f (x ∷ xs) ys =
    sum_by-cons (λ z. sum_by (f z) ys) x xs
    ∙ ap (λ k. sum_by (f x) ys + k) (sum_swap f xs ys)
    ∙ sym (sum_both (f x) (λ y. sum_by (λ z. f z y) xs) ys)
    ∙ sum_agree (λ y. f x y + sum_by (λ z. f z y) xs) (λ y. sum_by (λ z. f z y) (x ∷ xs)) ys
    (All-from_Contains (λ y. f x y + sum_by (λ z. f z y) xs ≡ sum_by (λ z. f z y) (x ∷ xs)) ys (λ y c. sym (sum_by-cons (λ z. f z y) x xs)))

abbrev pub one_if : Bool → ℕ
one_if b = cond b 1 0

-- of elements of which at most one passes, as many pass as a search finds
pub count_single : {X : Type 0} (t : X → Bool) (xs : List X) → AllPairs (λ x y. t x ≡ true → t y ≡ true → ⊥) xs
    → one_if (is_some (find t xs)) ≡ count_by t xs
count_single t [] apart = refl
count_single {X} t (x ∷ xs) apart = by (t x) refl (count_single t xs (pairs_tail (λ x y. t x ≡ true → t y ≡ true → ⊥) x xs apart)) (count_cons t x xs)
  where
    by : (b : Bool) → t x ≡ b → one_if (is_some (find t xs)) ≡ count_by t xs → count_by t (x ∷ xs) ≡ cond (t x) 1 0 + count_by t xs
        → one_if (is_some (if b then Some x else find t xs)) ≡ count_by t (x ∷ xs)
    by true is rest all =
        let none = count_no t xs (All-from_Contains (λ y. t y ≡ false) xs (λ y c. false_from_ne_true (t y) (pairs_head (λ x y. t x ≡ true → t y ≡ true → ⊥) x y xs apart c is))) in
        let one : ◌≡◌ {A = ℕ} (cond (t x) 1 0) 1 = ap {B = ℕ} (λ b. cond b 1 0) is in
        omega (arith, none, one, all)
    by false is rest all =
        let one : ◌≡◌ {A = ℕ} (cond (t x) 1 0) 0 = ap {B = ℕ} (λ b. cond b 1 0) is in
        rest ∙ omega (arith, one, all)

module _ (old new : State) (sound : IsSound old) (later : IsSound new) (keeps : KeepsPeers old new) where
  abbrev was : Rec → Bool
  was r = is_some (by_number new r.number)

  abbrev given : Rec → Bool
  given q = nat_le old.next_number q.number

  abbrev is_one : Rec → Rec → Bool
  is_one r q = q.number == r.number

  new_apart : (r : Rec) → AllPairs (λ x y. is_one r x ≡ true → is_one r y ≡ true → ⊥) new.records
  new_apart r i j d less within one two = numbers_apart new later i j d less within ((Decides-eqb _ r.number).0 one ∙ sym ((Decides-eqb _ r.number).0 two))

  old_apart : (q : Rec) → AllPairs (λ x y. is_one x q ≡ true → is_one y q ≡ true → ⊥) old.records
  old_apart q i j d less within one two = numbers_apart old sound i j d less within (sym ((Decides-eqb q.number _).0 one) ∙ (Decides-eqb q.number _).0 two)

  -- a record has an old number if it was there
  old_number : (q : Rec) → Contains new.records q → is_some (find (λ r. is_one r q) old.records) ≡ not (given q)
  old_number q has = by (given q) refl
    where
      by : (b : Bool) → given q ≡ b → is_some (find (λ r. is_one r q) old.records) ≡ not b
      by true is =
          ap is_some (find_none_from (λ r. is_one r q) old.records (λ r c same.
          let low = All-contains (λ p. p.number < old.next_number) old.records r sound.below_next c in
          let high = leb-true old.next_number q.number is in
          let one = (Decides-eqb q.number r.number).0 same in
          omega (arith, low, high, one)))
      by false is =
          let low = leb-false old.next_number q.number is in
          let p = keeps q has low in
          find-IsSome (λ r. is_one r q) old.records p.0 p.1 ((Decides-eqb q.number p.0.number).1 (sym p.2))

  -- as many records of before are there as records have old numbers
  same_count : count_by was old.records ≡ count_by (λ q. not (given q)) new.records
  same_count =
      sum_agree (λ r. one_if (was r)) (λ r. count_by (is_one r) new.records) old.records
      (All-from_Contains (λ r. one_if (was r) ≡ count_by (is_one r) new.records) old.records (λ r c. count_single (is_one r) new.records (new_apart r)))
      ∙ sum_swap (λ r q. one_if (is_one r q)) old.records new.records
      ∙ sum_agree (λ q. count_by (λ r. is_one r q) old.records) (λ q. one_if (not (given q))) new.records
      (All-from_Contains (λ q. count_by (λ r. is_one r q) old.records ≡ one_if (not (given q))) new.records (λ q c.
      sym (count_single (λ r. is_one r q) old.records (old_apart q)) ∙ ap one_if (old_number q c)))

  pub balance : length new.records + lost_count old new ≡ length old.records + made_count old new
  balance =
      let one = count_not was old.records in
      let two = count_not given new.records in
      let same = same_count in
      omega (arith, one, two, same)

-- without new numbers nothing was made
pub none_made : (old new : State) → IsSound new → new.next_number ≤ old.next_number → made_count old new ≡ 0
none_made old new later low =
    count_no (λ r. nat_le old.next_number r.number) new.records (All-from_Contains (λ r. nat_le old.next_number r.number ≡ false) new.records (λ r c.
    false_from_ne_true (nat_le old.next_number r.number) (λ is.
    let below = All-contains (λ p. p.number < new.next_number) new.records r later.below_next c in
    let high = leb-true old.next_number r.number is in
    omega (arith, below, high, low))))
