-- How many random words of a round select a record.
use Rattle.std.proofs.Common.{◌≡◌, ℕ, ◌+◌, ◌-◌, ◌*◌, ◌/◌, ◌^◌, ◌<◌, ◌≤◌, min, Bool, true, false, ◌&&◌, ◌==◌, nat_lt, List, [], ◌∷◌, get_or, All, AllPairs, Contains, find, filter_map, sum_by, count_by, Option, Some, None, refl, sym, ap, subst, ◌∙◌, ⊎_elim, arith, if◌then◌else◌}
use Rattle.std.specs.List.{range_with_len, list_any}
use Rattle.std.proofs.lemmas.Bool.{and_from, and_parts, false_from_ne_true}
use Rattle.std.proofs.lemmas.Bool.Decides.{Decides-eqb}
use Rattle.std.proofs.lemmas.Nat.{mod_below}
use Rattle.std.proofs.lemmas.List.Elements.{All-contains, All-cons, All-nil, Contains-get_or}
use Rattle.std.proofs.lemmas.List.Kept.{AllPairs-from_increasing}
use Rattle.std.proofs.lemmas.List.Folds.{list_any_at}
use Rattle.peer_rec.specs.declared.place.Place.TheVariants.{New, Tried}
use Rattle.peer_rec.specs.Rec.{IsPlace, IsRec, buckets_by, buckets_of, chance, is_tried}
use Rattle.peer_rec.specs.declared.place.Place.{Place}
use Rattle.peer_rec.specs.declared.rec.Rec.{Rec}
use Rattle.placing.specs.Places.{new_slot, tried_bucket, tried_slot}
use Rattle.table_machine.specs.Picks.{is_accepted, is_wanted}
use Rattle.table_machine.specs.Sound.{IsSound}
use Rattle.table_machine.specs.State.{State, is_new_at, is_tried_at, new_rec_at, tried_rec_at}
use Rattle.table_laws.specs.Chances.{accepting_words, leading_slots, picking_words}
use Rattle.table_laws.specs.Rounds.{around, gap, holds}
use Rattle.table_laws.proofs.Counts.{all_range, count_agree, count_no, sum_agree}
use Rattle.table_laws.proofs.Draws.{count_low, count_pairs, low_word, sum_over, sum_times}
use Rattle.table_machine.proofs.Records.{same_record}
use Rattle.table_machine.proofs.Lists.{Contains-cases, Contains-head, find-Some, find_only, list_any-Contains, none_in_nil}
use Rattle.table_laws.proofs.Rounds.{count-gap}

-- of the first n words, so many accept a record
count_accepted : (r : Rec) (now factor n : ℕ) → n ≤ 2 ^ 30
    → count_by (is_accepted r now factor) (range_with_len 0 n) ≡ min ((chance r now * factor + (2 ^ 30 - 1)) / 2 ^ 30) n
count_accepted r now factor n le =
    count_agree (is_accepted r now factor) (λ w. nat_lt w ((chance r now * factor + (2 ^ 30 - 1)) / 2 ^ 30)) (range_with_len 0 n)
    (all_range (λ w. is_accepted r now factor w ≡ nat_lt w ((chance r now * factor + (2 ^ 30 - 1)) / 2 ^ 30)) 0 n (λ w low high. low_word (chance r now * factor) w (omega (arith, high, le))))
    ∙ count_low ((chance r now * factor + (2 ^ 30 - 1)) / 2 ^ 30) n

-- a candidate is at some slot
pub found_at : (at : ℕ → Option Rec) (nets slots : List ℕ) (q : Rec) → find (is_wanted nets) (filter_map at slots) ≡ Some q → (t : ℕ) × (at t ≡ Some q)
found_at at nets [] q is = absurd (cc)
found_at at nets (t ∷ slots) q is = by (at t) refl (found_at at nets slots q)
  where
    by : (o : Option Rec) → at t ≡ o → (find (is_wanted nets) (filter_map at slots) ≡ Some q → (u : ℕ) × (at u ≡ Some q)) → (u : ℕ) × (at u ≡ Some q)
    by None h later = let skip : find (is_wanted nets) (filter_map at (t ∷ slots)) ≡ find (is_wanted nets) (filter_map at slots) = rw h refl in later (sym skip ∙ is)
    by (Some x) h later = let here : find (is_wanted nets) (filter_map at (t ∷ slots)) ≡ (if is_wanted nets x then Some x else find (is_wanted nets) (filter_map at slots)) = rw h refl in wanted (is_wanted nets x) (sym here ∙ is)
      where
        wanted : (b : Bool) → (if b then Some x else find (is_wanted nets) (filter_map at slots)) ≡ Some q → (u : ℕ) × (at u ≡ Some q)
        wanted true e = (t, h ∙ e)
        wanted false e = later e

module _ (at : ℕ → ℕ → Option Rec) (nets : List ℕ) (now factor words : ℕ) (r : Rec) (slot_of : ℕ → ℕ) (buckets : List ℕ) (n : ℕ)
    (few : words ≤ 2 ^ 30) (wanted : is_wanted nets r ≡ true)
    (rising : AllPairs (λ x y. x < y) buckets) (below : All (λ b. b < n) buckets) (low : (b : ℕ) → slot_of b < 64)
    (own : (b : ℕ) → Contains buckets b → at b (slot_of b) ≡ Some r)
    (only : (b t : ℕ) (q : Rec) → at b t ≡ Some q → q.number ≡ r.number → (q ≡ r) × Contains buckets b × (t ≡ slot_of b)) where
  abbrev first : ℕ → ℕ → Option Rec
  first b start = find (is_wanted nets) (filter_map (at b) (around 64 start))

  abbrev is_it : Rec → Bool
  is_it q = q.number == r.number

  abbrev accepting : ℕ
  accepting = min ((chance r now * factor + (2 ^ 30 - 1)) / 2 ^ 30) words

  abbrev in_bucket : ℕ → ℕ
  in_bucket b = sum_by (λ start. count_by (λ word. holds (λ q. q.number == r.number && is_accepted q now factor word) (first b start)) (range_with_len 0 words)) (range_with_len 0 64)

  same : (b t : ℕ) (o : Option Rec) → at b t ≡ o → holds is_it o ≡ true → (o ≡ Some r) × Contains buckets b × (t ≡ slot_of b)
  same b t None is h = absurd (cc)
  same b t (Some q) is h = let k = only b t q is ((Decides-eqb q.number r.number).0 h) in (ap Some k.0, k.1, k.2)

  each : (b start : ℕ) (q : Rec) → first b start ≡ Some q → (q.number == r.number) ≡ true
      → count_by (λ word. is_accepted q now factor word) (range_with_len 0 words) ≡ accepting
  each b start q is number =
      let found = found_at (at b) nets (around 64 start) q is in
      let k = only b found.0 q found.1 ((Decides-eqb q.number r.number).0 number) in
      ap (λ (x : Rec). count_by (λ word. is_accepted x now factor word) (range_with_len 0 words)) k.0
      ∙ count_accepted r now factor words few

  pairs : (b : ℕ) → in_bucket b ≡ count_by (λ start. holds is_it (first b start)) (range_with_len 0 64) * accepting
  pairs b = count_pairs is_it (λ q word. is_accepted q now factor word) (first b) accepting (range_with_len 0 words) (each b) (range_with_len 0 64)

  inside : (b : ℕ) → Contains buckets b → in_bucket b ≡ gap (λ s. holds (is_wanted nets) (at b s)) 64 (slot_of b) * accepting
  inside b has =
      let here = own b has in
      let wants : holds (is_wanted nets) (at b (slot_of b)) ≡ true = ap (holds (is_wanted nets)) here ∙ wanted in
      let is : holds is_it (at b (slot_of b)) ≡ true = ap (holds is_it) here ∙ (Decides-eqb r.number r.number).1 refl in
      pairs b ∙ ap (λ k. k * accepting) (count-gap (at b) (is_wanted nets) is_it (slot_of b) wants is (λ t h. (same b t (at b t) refl h).2) 64 (low b))

  outside : (b : ℕ) → (Contains buckets b → ⊥) → in_bucket b ≡ 0
  outside b other =
      pairs b ∙ ap (λ k. k * accepting) (count_no (λ start. holds is_it (first b start)) (range_with_len 0 64) (all_range (λ start. holds is_it (first b start) ≡ false) 0 64 (λ start from to. none start (first b start) refl)))
      ∙ omega arith
    where
      none : (start : ℕ) (o : Option Rec) → first b start ≡ o → holds is_it o ≡ false
      none start None is = refl
      none start (Some q) is = false_from_ne_true (q.number == r.number) (λ number.
          let found = found_at (at b) nets (around 64 start) q is in
          other (only b found.0 q found.1 ((Decides-eqb q.number r.number).0 number)).1)

  pub in_buckets : sum_by in_bucket (range_with_len 0 n) ≡ sum_by (λ b. gap (λ s. holds (is_wanted nets) (at b s)) 64 (slot_of b)) buckets * accepting
  in_buckets =
      let whole : n ≡ n - 0 = omega arith in
      ap (λ k. sum_by in_bucket (range_with_len 0 k)) whole
      ∙ sum_over in_bucket buckets 0 n (omega arith) rising (λ k d within. omega arith) below (λ b from to other. outside b other)
      ∙ sum_agree in_bucket (λ b. gap (λ s. holds (is_wanted nets) (at b s)) 64 (slot_of b) * accepting) buckets (λ k d within. inside (get_or buckets k d) (Contains-get_or buckets k d within))
      ∙ sum_times (λ b. gap (λ s. holds (is_wanted nets) (at b s)) 64 (slot_of b)) accepting buckets

module _ (st : State) (sound : IsSound st) (nets : List ℕ) (now factor : ℕ) (r : Rec) (has : Contains st.records r) (wanted : is_wanted nets r ≡ true) where
  new_low : (b : ℕ) → new_slot st.places r.peer b < 64
  unfolding new_slot
  new_low b = mod_below _ 64 (omega arith)

  tried_low : (b : ℕ) → tried_slot st.places r.peer b < 64
  unfolding tried_slot
  tried_low b = mod_below _ 64 (omega arith)

  tried_bucket-below : tried_bucket st.places r.peer < 256
  unfolding tried_bucket
  tried_bucket-below = mod_below _ 256 (omega arith)

  new_parts : (b t : ℕ) (q : Rec) → is_new_at st.places b t q ≡ true → Contains (buckets_of q) b × (new_slot st.places q.peer b ≡ t)
  new_parts b t q is =
      let h = and_parts (list_any (λ x. x == b) (buckets_of q)) (new_slot st.places q.peer b == t) is in
      (list_any-Contains b (buckets_of q) h.0, (Decides-eqb (new_slot st.places q.peer b) t).0 h.1)

  -- the words that pick a record of the new table
  pub new_words : picking_words st true nets now factor r.number
      ≡ sum_by (λ b. leading_slots st true nets b (new_slot st.places r.peer b)) (buckets_of r) * accepting_words r now factor
  new_words =
      in_buckets (new_rec_at st) nets now factor (2 ^ 30) r (new_slot st.places r.peer) (buckets_of r) 1024 (omega arith) wanted (rising r.place is_rec.place) (below r.place is_rec.place) new_low own only
    where
      is_rec : IsRec r
      is_rec = All-contains IsRec st.records r sound.records has

      rising : (place : Place) → IsPlace place → AllPairs (λ x y. x < y) (buckets_by place)
      rising (New buckets) is = AllPairs-from_increasing buckets is.rising
      rising Tried is = λ i j d less within. absurd (omega (arith, less, within))

      below : (place : Place) → IsPlace place → All (λ b. b < 1024) (buckets_by place)
      below (New buckets) is = is.below
      below Tried is = λ k d within. absurd (omega (arith, within))

      passes : (b : ℕ) → Contains (buckets_of r) b → is_new_at st.places b (new_slot st.places r.peer b) r ≡ true
      passes b c =
          and_from (list_any (λ x. x == b) (buckets_of r)) (new_slot st.places r.peer b == new_slot st.places r.peer b)
          (list_any_at (λ x. x == b) (buckets_of r) c.0 b c.1 ((Decides-eqb (get_or (buckets_of r) c.0 b) b).1 c.2))
          ((Decides-eqb (new_slot st.places r.peer b) (new_slot st.places r.peer b)).1 refl)

      own : (b : ℕ) → Contains (buckets_of r) b → new_rec_at st b (new_slot st.places r.peer b) ≡ Some r
      own b c =
          let slot = new_slot st.places r.peer b in
          find_only (is_new_at st.places b (new_slot st.places r.peer b)) st.records r has (passes b c)
          (λ q there at. same_record st.records q r sound.rising there has (sound.new_slots b (new_slot st.places r.peer b) q r there has at (passes b c)))

      only : (b t : ℕ) (q : Rec) → new_rec_at st b t ≡ Some q → q.number ≡ r.number → (q ≡ r) × Contains (buckets_of r) b × (t ≡ new_slot st.places r.peer b)
      only b t q is number =
          let h = find-Some (is_new_at st.places b t) st.records q is in
          let one : q ≡ r = same_record st.records q r sound.rising h.0 has number in
          let parts = new_parts b t r (subst (λ (x : Rec). is_new_at st.places b t x ≡ true) one h.1) in
          (one, parts.0, sym parts.1)

  -- the words that pick a record of the tried table
  pub tried_words : is_tried r ≡ true
      → picking_words st false nets now factor r.number
      ≡ leading_slots st false nets (tried_bucket st.places r.peer) (tried_slot st.places r.peer (tried_bucket st.places r.peer)) * accepting_words r now factor
  tried_words tried =
      in_buckets (tried_rec_at st) nets now factor (2 ^ 30) r (tried_slot st.places r.peer) (bucket ∷ []) 256 (omega arith) wanted
      (λ i j d less within. absurd (omega (arith, less, within))) (All-cons (λ b. b < 256) bucket [] tried_bucket-below (All-nil (λ b. b < 256))) tried_low own only
      ∙ ap (λ k. k * accepting_words r now factor) alone
    where
      bucket : ℕ
      bucket = tried_bucket st.places r.peer

      alone : sum_by (λ b. leading_slots st false nets b (tried_slot st.places r.peer b)) (bucket ∷ []) ≡ leading_slots st false nets bucket (tried_slot st.places r.peer bucket)
      alone = omega arith

      tried_at : (b : ℕ) → bucket ≡ b → is_tried_at st.places b (tried_slot st.places r.peer b) r ≡ true
      tried_at b is =
          and_from (is_tried r && tried_bucket st.places r.peer == b) (tried_slot st.places r.peer b == tried_slot st.places r.peer b)
          (and_from (is_tried r) (tried_bucket st.places r.peer == b) tried ((Decides-eqb bucket b).1 is))
          ((Decides-eqb (tried_slot st.places r.peer b) (tried_slot st.places r.peer b)).1 refl)

      mine : (b : ℕ) → Contains (bucket ∷ []) b → bucket ≡ b
      mine b c = ⊎_elim (λ same. same) (λ rest. absurd (none_in_nil b rest)) (Contains-cases bucket [] b c)

      own : (b : ℕ) → Contains (bucket ∷ []) b → tried_rec_at st b (tried_slot st.places r.peer b) ≡ Some r
      own b c =
          find_only (is_tried_at st.places b (tried_slot st.places r.peer b)) st.records r has (tried_at b (mine b c))
          (λ q there at. same_record st.records q r sound.rising there has (sound.tried_slots b (tried_slot st.places r.peer b) q r there has at (tried_at b (mine b c))))

      only : (b t : ℕ) (q : Rec) → tried_rec_at st b t ≡ Some q → q.number ≡ r.number → (q ≡ r) × Contains (bucket ∷ []) b × (t ≡ tried_slot st.places r.peer b)
      only b t q is number =
          let h = find-Some (is_tried_at st.places b t) st.records q is in
          let one : q ≡ r = same_record st.records q r sound.rising h.0 has number in
          let at : is_tried_at st.places b t r ≡ true = subst (λ (x : Rec). is_tried_at st.places b t x ≡ true) one h.1 in
          let both = and_parts (is_tried r && tried_bucket st.places r.peer == b) (tried_slot st.places r.peer b == t) at in
          let where_in : bucket ≡ b = (Decides-eqb bucket b).0 (and_parts (is_tried r) (tried_bucket st.places r.peer == b) both.0).1 in
          (one, subst (Contains (bucket ∷ [])) where_in (Contains-head bucket []), sym ((Decides-eqb (tried_slot st.places r.peer b) t).0 both.1))
