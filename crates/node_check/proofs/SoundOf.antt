-- A sound state fails two tests at most.
use Rattle.std.proofs.Common.{◌≡◌, ℕ, Bool, true, false, ◌&&◌, not, ◌==◌, nat_lt, List, [], ◌∷◌, length, map, Contains, refl, sym, ap, ◌∙◌, arith, if◌then◌else◌}
use Rattle.std.specs.List.{list_any}
use Rattle.std.proofs.lemmas.Bool.{le-ltb, ne_eqb}
use Rattle.std.proofs.lemmas.Bool.Decides.{Decides-eqb}
use Rattle.std.proofs.lemmas.List.{length-map}
use Rattle.std.proofs.lemmas.List.Elements.{All-contains}
use Rattle.std.proofs.lemmas.List.Folds.{list_any_none}
use Rattle.std.proofs.lemmas.List.Sorted.{Contains-permutation, length_permutation}
use Rattle.peer_rec.specs.Rec.{IsPlace, IsRec, buckets_by, buckets_of, is_tried, tried_by}
use Rattle.peer_rec.specs.declared.place.Place.{Place}
use Rattle.peer_rec.specs.declared.place.Place.TheVariants.{New, Tried}
use Rattle.peer_rec.specs.declared.rec.Rec.{Rec}
use Rattle.table_machine.specs.Sound.{IsSound}
use Rattle.table_machine.specs.State.{State}
use Rattle.table_machine.proofs.Lists.{All-from_Contains, Contains-list_any, Contains-map}
use Rattle.table_machine.proofs.RestartLaw.{and-no}
use Rattle.table_laws.proofs.Balance.{one_if}
use Rattle.node_check.specs.Check.{check_code, code_if, first_code, held, is_found, is_in_order, is_zero, place_code, rec_code, some_new, some_tried}
use Rattle.node_check.specs.Laws.{lacks_success, sound_code}
use Rattle.node_check.proofs.Codes.{first_of, no_code, skip}
use Rattle.node_check.proofs.Held.{held_new, held_tried}

first_and_none : (code : ℕ) → first_code (code ∷ 0 ∷ []) ≡ code
first_and_none code = by (code == 0) refl
  where
    by : (b : Bool) → (code == 0) ≡ b → (if b then 0 else code) ≡ code
    by true is = sym ((Decides-eqb code 0).0 is)
    by false is = refl

place_code-is : (r : Rec) → IsPlace r.place → place_code r ≡ code_if (lacks_success r) 1
place_code-is r fits = by r.place fits
  where
    by : (place : Place) → IsPlace place →
        (if tried_by place
        then first_code (code_if (r.last_success == 0) 1 ∷ code_if (nat_lt 0 (length (buckets_by place))) 2 ∷ [])
        else first_code (code_if (nat_lt 8 (length (buckets_by place))) 3 ∷ code_if (length (buckets_by place) == 0) 4 ∷ []))
        ≡ code_if (tried_by place && r.last_success == 0) 1
    by Tried is = first_and_none (code_if (r.last_success == 0) 1)
    by (New buckets) is =
        let some = is.some in
        skip (code_if (nat_lt 8 (length buckets)) 3) (code_if (length buckets == 0) 4 ∷ []) (no_code (nat_lt 8 (length buckets)) 3 (le-ltb 8 (length buckets) is.most))
        ∙ skip (code_if (length buckets == 0) 4) [] (no_code (length buckets == 0) 4 (ne_eqb (length buckets) 0 (λ same. omega (arith, some, same))))

not-true : (b : Bool) → b ≡ true → not b ≡ false
not-true b is = ap not is

module _ (read : List Rec) (st : State) (sound : IsSound st) (found : (r : Rec) → Contains st.records r → is_found read r ≡ true) where
  abbrev numbers : List ℕ
  numbers = map (λ (r : Rec). r.number) st.records

  in_order : (r : Rec) → Contains st.records r → is_in_order st r ≡ true
  in_order r c = Contains-list_any r.number st.order (Contains-permutation numbers st.order r.number sound.order (Contains-map (λ (q : Rec). q.number) st.records r c))

  rec_code-is : (r : Rec) → Contains st.records r → rec_code read st r ≡ code_if (lacks_success r) 1
  rec_code-is r c =
      (λ i. first_code (place_code r ∷ no_code (not (is_found read r)) 5 (not-true (is_found read r) (found r c)) i ∷ no_code (not (is_in_order st r)) 14 (not-true (is_in_order st r) (in_order r c)) i ∷ []))
      ∙ by (place_code r)
      ∙ place_code-is r (All-contains IsRec st.records r sound.records c).place
    where
      by : (code : ℕ) → first_code (code ∷ 0 ∷ 0 ∷ []) ≡ code
      by code = first_and_none code

  order_long : not (length st.order == length st.records) ≡ false
  order_long =
      let one = length_permutation numbers st.order sound.order in
      not-true (length st.order == length st.records) ((Decides-eqb (length st.order) (length st.records)).1 (one ∙ length-map st.records (λ (r : Rec). r.number)))

  no_tried : (test : ℕ → Bool) → test 1 ≡ false → some_tried (λ (r : Rec). test (held st false r.number)) st ≡ false
  no_tried test fails =
      list_any_none (λ (r : Rec). is_tried r && test (held st false r.number)) st.records
      (All-from_Contains (λ (r : Rec). (is_tried r && test (held st false r.number)) ≡ false) st.records (λ r c.
      ap (λ k. is_tried r && test k) (held_tried st sound r c) ∙ by (is_tried r)))
    where
      by : (b : Bool) → (b && test (one_if b)) ≡ false
      by true = fails
      by false = refl

  no_new : (test : ℕ → ℕ → Bool) → ((n : ℕ) → test n n ≡ false) → some_new (λ (r : Rec). test (length (buckets_of r)) (held st true r.number)) st ≡ false
  no_new test fails =
      list_any_none (λ (r : Rec). not (is_tried r) && test (length (buckets_of r)) (held st true r.number)) st.records
      (All-from_Contains (λ (r : Rec). (not (is_tried r) && test (length (buckets_of r)) (held st true r.number)) ≡ false) st.records (λ r c.
      ap (λ k. not (is_tried r) && test (length (buckets_of r)) k) (held_new st sound r c) ∙ and-no (not (is_tried r)) (test (length (buckets_of r)) (length (buckets_of r))) (fails (length (buckets_of r)))))

  not_below : (n : ℕ) → nat_lt n n ≡ false
  not_below n = le-ltb n n (omega arith)

  pub check_sound : check_code read st ≡ sound_code st
  check_sound =
      (λ i. first_code (
      no_code (not (length st.order == length st.records)) 7 order_long i
      ∷ first_of lacks_success (rec_code read st) st.records rec_code-is i
      ∷ no_code (some_tried (λ (r : Rec). nat_lt 1 (held st false r.number)) st) 11 (no_tried (nat_lt 1) refl) i
      ∷ no_code (some_new (λ (r : Rec). nat_lt (length (buckets_of r)) (held st true r.number)) st) 12 (no_new nat_lt not_below) i
      ∷ no_code (some_tried (λ (r : Rec). held st false r.number == 0) st) 13 (no_tried (λ n. n == 0) refl) i
      ∷ no_code (some_new (λ (r : Rec). nat_lt (held st true r.number) (length (buckets_of r))) st) 15 (no_new (λ m n. nat_lt n m) not_below) i
      ∷ code_if (is_zero st.places.key) 16 ∷ []))
      ∙ by (list_any lacks_success st.records) (is_zero st.places.key)
    where
      by : (a b : Bool) → first_code (0 ∷ code_if a 1 ∷ 0 ∷ 0 ∷ 0 ∷ 0 ∷ code_if b 16 ∷ []) ≡ (if a then 1 else (if b then 16 else 0))
      by true b = refl
      by false true = refl
      by false false = refl
