-- The words that select one of several records are those that select each.
use Rattle.std.proofs.Common.{◌≡◌, ◌≢◌, ℕ, ◌^◌, Bool, true, false, ◌&&◌, ◌==◌, is_some, List, filter, find, AllPairs, Contains, sum_by, count_by, Option, Some, None, refl, sym, ap, subst, ◌∙◌}
use Rattle.std.specs.List.{range_with_len}
use Rattle.std.proofs.lemmas.Bool.{both_ways}
use Rattle.std.proofs.lemmas.Bool.Decides.{Decides-eqb}
use Rattle.std.proofs.lemmas.List.Kept.{AllPairs-filter}
use Rattle.peer_rec.specs.declared.rec.Rec.{Rec}
use Rattle.table_machine.specs.Picks.{bucket_count, first_candidate, is_accepted, occupant_at, slots_from}
use Rattle.table_machine.specs.Sound.{IsSound}
use Rattle.table_machine.specs.State.{State, is_new_at, is_tried_at}
use Rattle.table_machine.proofs.Counts.{numbers_apart}
use Rattle.table_machine.proofs.Lists.{Contains-filter, Contains-from_filter, find-IsSome, find-Some, find_none_from}
use Rattle.table_machine.proofs.Records.{same_record}
use Rattle.table_laws.specs.Chances.{picking_words, picks, words_for}
use Rattle.table_laws.specs.Rounds.{holds}
use Rattle.table_laws.proofs.Balance.{count_single, one_if, sum_swap}
use Rattle.table_laws.proofs.Counts.{count_none}
use Rattle.table_laws.proofs.Picked.{found_at}

occupant-there : (st : State) (in_new : Bool) (bucket slot : ℕ) (q : Rec) → occupant_at st in_new bucket slot ≡ Some q → Contains st.records q
occupant-there st true bucket slot q is = (find-Some (is_new_at st.places bucket slot) st.records q is).0
occupant-there st false bucket slot q is = (find-Some (is_tried_at st.places bucket slot) st.records q is).0

-- a candidate is a record of the tables
pub candidate-there : (st : State) (in_new : Bool) (nets : List ℕ) (bucket start : ℕ) (q : Rec) → first_candidate st in_new nets bucket start ≡ Some q → Contains st.records q
candidate-there st in_new nets bucket start q is =
    let h = found_at (occupant_at st in_new bucket) nets (slots_from start) q is in
    occupant-there st in_new bucket h.0 q h.1

module _ (st : State) (sound : IsSound st) (now factor : ℕ) (test : Rec → Bool) where
  abbrev ones : List Rec
  ones = filter test st.records

  apart : (q : Rec) → AllPairs (λ x y. (q.number == x.number) ≡ true → (q.number == y.number) ≡ true → ⊥) ones
  apart q i j d less within one two =
      AllPairs-filter (λ (x : Rec) (y : Rec). x.number ≢ y.number) test st.records (numbers_apart st sound) i j d less within
      (sym ((Decides-eqb q.number _).0 one) ∙ (Decides-eqb q.number _).0 two)

  -- the record is one of those that pass if it passes
  one_of : (q : Rec) → Contains st.records q → is_some (find (λ r. q.number == r.number) ones) ≡ test q
  one_of q has = by (test q) refl
    where
      by : (b : Bool) → test q ≡ b → is_some (find (λ r. q.number == r.number) ones) ≡ b
      by true is = find-IsSome (λ r. q.number == r.number) ones q (Contains-filter test st.records q has is) ((Decides-eqb q.number q.number).1 refl)
      by false is =
          ap is_some (find_none_from (λ r. q.number == r.number) ones (λ r c same.
          let h = Contains-from_filter test st.records r c in
          let one : r ≡ q = same_record st.records r q sound.rising h.0 has (sym ((Decides-eqb q.number r.number).0 same)) in
          both_ways (test q) is (subst (λ (x : Rec). test x ≡ true) one h.1)))

  -- by one word: a candidate that passes and is accepted is one of those that pass
  by_word : (o : Option Rec) → ((q : Rec) → o ≡ Some q → Contains st.records q) → (word : ℕ)
      → one_if (holds (λ r. test r && is_accepted r now factor word) o) ≡ count_by (λ r. holds (λ q. q.number == r.number && is_accepted q now factor word) o) ones
  by_word None there word = sym (count_none ones)
  by_word (Some q) there word = by (is_accepted q now factor word)
    where
      no : (a : Bool) → (a && false) ≡ false
      no true = refl
      no false = refl

      yes : (a : Bool) → (a && true) ≡ a
      yes true = refl
      yes false = refl

      by : (a : Bool) → one_if (test q && a) ≡ count_by (λ r. q.number == r.number && a) ones
      by false = ap one_if (no (test q)) ∙ sym (count_none ones) ∙ sym (λ i. count_by (λ r. no (q.number == r.number) i) ones)
      by true =
          ap one_if (yes (test q)) ∙ ap one_if (sym (one_of q (there q refl))) ∙ count_single (λ r. q.number == r.number) ones (apart q)
          ∙ sym (λ i. count_by (λ r. yes (q.number == r.number) i) ones)

  module _ (in_new : Bool) (nets : List ℕ) where
    abbrev hit : ℕ → ℕ → ℕ → Rec → ℕ
    hit bucket start word r = one_if (picks st in_new nets now factor (λ q. q.number == r.number) bucket start word)

    -- over any buckets, starts and words
    over : (buckets starts words : List ℕ)
        → sum_by (λ b. sum_by (λ s. count_by (picks st in_new nets now factor test b s) words) starts) buckets
        ≡ sum_by (λ r. sum_by (λ b. sum_by (λ s. count_by (picks st in_new nets now factor (λ q. q.number == r.number) b s) words) starts) buckets) ones
    over buckets starts words =
        each buckets (λ b. sum_by (λ s. count_by (picks st in_new nets now factor test b s) words) starts) (λ b. sum_by (λ r. sum_by (λ s. sum_by (λ w. hit b s w r) words) starts) ones) (λ b.
        each starts (λ s. count_by (picks st in_new nets now factor test b s) words) (λ s. sum_by (λ r. sum_by (λ w. hit b s w r) words) ones) (λ s.
        each words (λ w. one_if (picks st in_new nets now factor test b s w)) (λ w. sum_by (hit b s w) ones) (λ w.
        by_word (first_candidate st in_new nets b s) (candidate-there st in_new nets b s) w)
        ∙ sum_swap (hit b s) words ones)
        ∙ sum_swap (λ s r. sum_by (λ w. hit b s w r) words) starts ones)
        ∙ sum_swap (λ b r. sum_by (λ s. sum_by (λ w. hit b s w r) words) starts) buckets ones
      where
        each : (xs : List ℕ) (f g : ℕ → ℕ) → ((x : ℕ) → f x ≡ g x) → sum_by f xs ≡ sum_by g xs
        each xs f g same i = sum_by (λ x. same x i) xs

    pub some_words : words_for st in_new nets now factor test ≡ sum_by (λ r. picking_words st in_new nets now factor r.number) ones
    some_words = over (range_with_len 0 (bucket_count in_new)) (range_with_len 0 64) (range_with_len 0 (2 ^ 30))
