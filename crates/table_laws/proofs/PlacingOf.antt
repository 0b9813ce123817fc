-- Records of a file get buckets, or another one is at their slots; and those with none are dropped.
use Rattle.std.proofs.Common.{◌≡◌, ◌≢◌, ℕ, zero, suc, ◌<◌, ◌≤◌, Bool, true, false, ◌||◌, not, ◌==◌, List, [], ◌∷◌, length, Contains, Option, Some, None, refl, sym, ap, subst, ◌∙◌, inl, inr, ⊎_elim, ◌⊎◌, arith, true≢false, if◌then◌else◌}
use Rattle.std.specs.Prelude.{⊤}
use Rattle.std.proofs.lemmas.Bool.Decides.{Decides-eqb, eqb_tells}
use Rattle.net_addr.specs.Ranges.{is_valid}
use Rattle.net_addr.specs.declared.peer.Peer.{Peer}
use Rattle.placing.specs.Places.{Places, new_bucket, new_slot}
use Rattle.peer_rec.specs.Buckets.{with_bucket}
use Rattle.peer_rec.specs.Rec.{buckets_of}
use Rattle.peer_rec.specs.declared.place.Place.TheVariants.{New}
use Rattle.peer_rec.specs.declared.rec.Rec.{Rec}
use Rattle.table_machine.specs.Entries.{delete, give_bucket}
use Rattle.table_machine.specs.Restoring.{drop_all, drop_record, give_if_empty, give_or, place_all, place_pair, place_record}
use Rattle.table_machine.specs.State.{State, by_number, is_new_at, new_rec_at}
use Rattle.table_machine.proofs.Buckets.{placed}
use Rattle.table_machine.proofs.Lists.{Contains-cases, find-Some, find_only, none_in_nil}
use Rattle.table_machine.proofs.Records.{changed_cases, changed_other, changed_own, new_at-same, new_at_parts, number_found, without_number-cases, without_number-keeps}
use Rattle.table_machine.proofs.Rising.{with_bucket-has, with_bucket-keeps}
use Rattle.table_laws.specs.Openings.{HasOther}

-- each number is that of one record
abbrev pub AreOnce : State → Type 0
AreOnce st = (r q : Rec) → Contains st.records r → Contains st.records q → r.number ≡ q.number → r ≡ q

-- The same record with perhaps more buckets; from the number n on it is the very same.
abbrev pub IsMore : ℕ → Rec → Rec → Type 0
IsMore n r q =
    (q ≡ placed r q.place) × ((b : ℕ) → Contains (buckets_of r) b → Contains (buckets_of q) b) × (n ≤ r.number → q ≡ r)

-- each record of either state is one of the other, with more buckets
pub record IsGrown (n : ℕ) (old new : State) : Type 0 where
  pub places : new.places ≡ old.places
  pub later : (r : Rec) → Contains old.records r → (q : Rec) × Contains new.records q × IsMore n r q
  pub earlier : (q : Rec) → Contains new.records q → (r : Rec) × Contains old.records r × IsMore n r q
  pub once : AreOnce new

more-same : (n : ℕ) (r : Rec) → IsMore n r r
more-same n r = (refl, λ b c. c, λ late. refl)

number_of : (r q : Rec) → q ≡ placed r q.place → q.number ≡ r.number
number_of r q is = ap (λ (x : Rec). x.number) is

peer_of : (r q : Rec) → q ≡ placed r q.place → q.peer ≡ r.peer
peer_of r q is = ap (λ (x : Rec). x.peer) is

placed-trans : (r q t : Rec) → q ≡ placed r q.place → t ≡ placed q t.place → t ≡ placed r t.place
placed-trans r q t one two = two ∙ ap (λ (x : Rec). placed x t.place) one

more-trans : (n : ℕ) (r q t : Rec) → IsMore n r q → IsMore n q t → IsMore n r t
more-trans n r q t one two =
    let same = number_of r q one.0 in
    (placed-trans r q t one.0 two.0, λ b c. two.1 b (one.1 b c), λ late. two.2 (omega (arith, late, same)) ∙ one.2 late)

grown-same : (n : ℕ) (st : State) → AreOnce st → IsGrown n st st
grown-same n st once = record { places = refl; later = λ r c. (r, c, more-same n r); earlier = λ q c. (q, c, more-same n q); once = once }

grown-trans : (n : ℕ) (a b c : State) → IsGrown n a b → IsGrown n b c → IsGrown n a c
grown-trans n a b c one two = record {
  places = two.places ∙ one.places;
  later = λ r has. let q = one.later r has in let t = two.later q.0 q.1 in (t.0, t.1, more-trans n r q.0 t.0 q.2 t.2);
  earlier = λ t has. let q = two.earlier t has in let r = one.earlier q.0 q.1 in (r.0, r.1, more-trans n r.0 q.0 t r.2 q.2);
  once = two.once;
}

other-grown : (n : ℕ) (old new : State) (number : ℕ) (peer : Peer) (bucket : ℕ) → IsGrown n old new → HasOther old number peer bucket → HasOther new number peer bucket
other-grown n old new number peer bucket grown h =
    let q = grown.later h.0 h.1 in
    let same = number_of h.0 q.0 q.2.0 in (
      q.0,
      q.1,
      λ is. h.2 (sym same ∙ is),
      subst (λ (p : Places). is_new_at p bucket (new_slot p peer bucket) q.0 ≡ true) (sym grown.places)
          (new_at-same old.places bucket (new_slot old.places peer bucket) h.0 q.0 (sym (peer_of h.0 q.0 q.2.0)) (q.2.1 bucket) h.3),
    )

-- a record gets a bucket
module _ (n : ℕ) (st : State) (r : Rec) (bucket : ℕ) (once : AreOnce st) (has : Contains st.records r) (early : r.number < n) where
  abbrev filled : Rec
  filled = placed r (New (with_bucket bucket (buckets_of r)))

  has_filled : Contains (give_bucket st r bucket).records filled
  has_filled = changed_own r.number filled st.records r has refl

  is_more : IsMore n r filled
  is_more = (refl, with_bucket-keeps bucket (buckets_of r), λ late. absurd (omega (arith, late, early)))

  give-grown : IsGrown n st (give_bucket st r bucket)
  give-grown = record {
    places = refl;
    later = λ x c. later x c (eqb_tells x.number r.number);
    earlier = λ q c. ⊎_elim (λ (is : filled ≡ q). (r, has, subst (IsMore n r) is is_more)) (λ h. (q, h.0, more-same n q)) (changed_cases r.number filled st.records q c);
    once = λ p q cp cq same. both p q same (changed_cases r.number filled st.records p cp) (changed_cases r.number filled st.records q cq);
  }
    where
      later : (x : Rec) → Contains st.records x → (((x.number == r.number) ≡ true) × (x.number ≡ r.number)) ⊎ (((x.number == r.number) ≡ false) × (x.number ≢ r.number))
          → (q : Rec) × Contains (give_bucket st r bucket).records q × IsMore n x q
      later x c (inl h) = (filled, has_filled, subst (λ (y : Rec). IsMore n y filled) (sym (once x r c has h.1)) is_more)
      later x c (inr h) = (x, changed_other r.number filled st.records x c h.1, more-same n x)

      both : (p q : Rec) → p.number ≡ q.number → (filled ≡ p) ⊎ (Contains st.records p × (p.number ≢ r.number)) → (filled ≡ q) ⊎ (Contains st.records q × (q.number ≢ r.number)) → p ≡ q
      both p q same (inl a) (inl b) = sym a ∙ b
      both p q same (inr a) (inr b) = once p q a.0 b.0 same
      both p q same (inl a) (inr b) = absurd (b.1 (sym same ∙ sym (ap (λ (x : Rec). x.number) a)))
      both p q same (inr a) (inl b) = absurd (a.1 (same ∙ sym (ap (λ (x : Rec). x.number) b)))

give_or-grown : (n : ℕ) (st : State) (r : Rec) (bucket : ℕ) (o : Option Rec) (other : State) → AreOnce st → Contains st.records r → r.number < n → IsGrown n st other → IsGrown n st (give_or st r bucket o other)
give_or-grown n st r bucket None other once has early also = give-grown n st r bucket once has early
give_or-grown n st r bucket (Some q) other once has early also = also

module _ (n : ℕ) (same : Bool) where
  -- a pair, by the record of its index
  pair-grown : (st : State) (bucket index : ℕ) → AreOnce st → index < n → IsGrown n st (place_record same st bucket (by_number st index))
  pair-grown st bucket index once low = by (by_number st index) refl
    where
      by : (o : Option Rec) → by_number st index ≡ o → IsGrown n st (place_record same st bucket o)
      by None is = grown-same n st once
      by (Some r) is = go (not (is_valid r.peer.addr) || length (buckets_of r) == 8) same
        where
          h : Contains st.records r × (r.number ≡ index)
          h = number_found st.records index r is

          early : r.number < n
          early = let number = h.1 in omega (arith, number, low)

          source : ℕ
          source = new_bucket st.places r.peer r.source

          own : IsGrown n st (give_if_empty st r source st)
          own = give_or-grown n st r source (new_rec_at st source (new_slot st.places r.peer source)) st once h.0 early (grown-same n st once)

          go : (stays used : Bool) → IsGrown n st (if stays then st else (if used then give_if_empty st r bucket (give_if_empty st r source st) else give_if_empty st r source st))
          go true used = grown-same n st once
          go false true = give_or-grown n st r bucket (new_rec_at st bucket (new_slot st.places r.peer bucket)) (give_if_empty st r source st) once h.0 early own
          go false false = own

  pub all-grown : (st : State) (pairs : List (ℕ × ℕ)) → AreOnce st → ((pair : ℕ × ℕ) → Contains pairs pair → pair.1 < n) → IsGrown n st (place_all same st pairs)
  all-grown st [] once low = grown-same n st once
  all-grown st (pair ∷ pairs) once low =
      let one = pair-grown st pair.0 pair.1 once (low pair (0, omega arith, refl)) in
      grown-trans n st (place_pair same st pair) (place_all same (place_pair same st pair) pairs) one
      (all-grown (place_pair same st pair) pairs one.once (λ p c. let within = c.1 in low p (suc c.0, omega (arith, within), c.2)))

  -- the record is there with a bucket
  abbrev pub IsPlaced : Rec → State → Type 0
  IsPlaced r st = (q : Rec) × Contains st.records q × (q ≡ placed r q.place) × (0 < length (buckets_of q))

  -- another one is at its slot in its source's bucket, and in this one if the file's are used
  abbrev pub IsFull : Rec → State → ℕ → Type 0
  IsFull r st bucket = HasOther st r.number r.peer (new_bucket st.places r.peer r.source) × (same ≡ true → HasOther st r.number r.peer bucket)

  pub contains_some : (xs : List ℕ) (b : ℕ) → Contains xs b → 0 < length xs
  contains_some xs b c = let within = c.1 in omega (arith, within)

  some_in : (xs : List ℕ) → 0 < length xs → (b : ℕ) × Contains xs b
  some_in [] long = absurd (omega (arith, long))
  some_in (x ∷ xs) long = (x, (0, long, refl))

  module _ (st : State) (r : Rec) (bucket : ℕ) (once : AreOnce st) (has : Contains st.records r) (early : r.number < n) (valid : is_valid r.peer.addr ≡ true) where
    found : by_number st r.number ≡ Some r
    found = find_only (λ q. q.number == r.number) st.records r has ((Decides-eqb r.number r.number).1 refl) (λ q c is. once q r c has ((Decides-eqb q.number r.number).0 is))

    -- a bucket for a record that has none
    settle : (b : ℕ) (other : State) (X : Type 0) → length (buckets_of r) ≡ 0 → IsPlaced r other ⊎ X
        → IsPlaced r (give_if_empty st r b other) ⊎ (HasOther st r.number r.peer b × X)
    settle b other X none rest = by (new_rec_at st b (new_slot st.places r.peer b)) refl
      where
        by : (o : Option Rec) → new_rec_at st b (new_slot st.places r.peer b) ≡ o → IsPlaced r (give_or st r b o other) ⊎ (HasOther st r.number r.peer b × X)
        by None is = inl (filled n st r b once has early, has_filled n st r b once has early, refl, contains_some (with_bucket b (buckets_of r)) b (with_bucket-has b (buckets_of r)))
        by (Some q) is =
            let h = find-Some (is_new_at st.places b (new_slot st.places r.peer b)) st.records q is in
            let listed = contains_some (buckets_of q) b (new_at_parts st.places b (new_slot st.places r.peer b) q h.1).0 in
            ⊎_elim inl (λ x. inr ((q, h.0, λ number. empty (subst (λ (y : Rec). 0 < length (buckets_of y)) (once q r h.0 has number) listed), h.1), x)) rest
          where
            empty : 0 < length (buckets_of r) → ⊥
            empty some = omega (arith, some, none)

    -- the pair of a bucket that lists it
    one_pair : IsPlaced r (place_record same st bucket (by_number st r.number)) ⊎ IsFull r st bucket
    one_pair = subst (λ o. IsPlaced r (place_record same st bucket o) ⊎ IsFull r st bucket) (sym found) (by (length (buckets_of r)) refl)
      where
        source : ℕ
        source = new_bucket st.places r.peer r.source

        go : (used : Bool) → length (buckets_of r) ≡ 0
            → IsPlaced r (if used then give_if_empty st r bucket (give_if_empty st r source st) else give_if_empty st r source st)
            ⊎ (HasOther st r.number r.peer source × (used ≡ true → HasOther st r.number r.peer bucket))
        go true none =
            ⊎_elim inl (λ h. inr (h.1.0, λ yes. h.0))
            (settle bucket (give_if_empty st r source st) (HasOther st r.number r.peer source × ⊤) none (settle source st ⊤ none (inr tt)))
        go false none = ⊎_elim inl (λ h. inr (h.0, λ yes. absurd (true≢false (sym yes)))) (settle source st ⊤ none (inr tt))

        by : (k : ℕ) → length (buckets_of r) ≡ k → IsPlaced r (place_record same st bucket (Some r)) ⊎ IsFull r st bucket
        by zero is =
            let open_to : (not (is_valid r.peer.addr) || length (buckets_of r) == 8) ≡ false = rw (valid, is) refl in
            subst (λ b. IsPlaced r (if b then st else (if same then give_if_empty st r bucket (give_if_empty st r source st) else give_if_empty st r source st)) ⊎ IsFull r st bucket) (sym open_to) (go same is)
        by (suc k) is =
            let grown = pair-grown st bucket r.number once early in
            let later = grown.later r has in
            inl (subst (λ o. IsPlaced r (place_record same st bucket o)) found (later.0, later.1, later.2.0, some later.0 later.2.1))
          where
            some : (q : Rec) → ((b : ℕ) → Contains (buckets_of r) b → Contains (buckets_of q) b) → 0 < length (buckets_of q)
            some q more = let one = some_in (buckets_of r) (omega (arith, is)) in contains_some (buckets_of q) one.0 (more one.0 one.1)

  -- all pairs
  pub settled : (st : State) (pairs : List (ℕ × ℕ)) (r : Rec) → AreOnce st → ((pair : ℕ × ℕ) → Contains pairs pair → pair.1 < n)
      → Contains st.records r → r.number < n → is_valid r.peer.addr ≡ true
      → IsPlaced r (place_all same st pairs) ⊎ ((bucket : ℕ) → Contains pairs (bucket, r.number) → IsFull r (place_all same st pairs) bucket)
  settled st [] r once low has early valid = inr (λ bucket c. absurd (none_in_nil (bucket, r.number) c))
  settled st (pair ∷ pairs) r once low has early valid =
      ⊎_elim (λ h. inl (h.0, h.1, placed-trans r later.0 h.0 later.2.0 h.2, h.3)) (λ rest. head rest (eqb_tells pair.1 r.number))
      (settled next pairs later.0 one.once low_rest later.1 (omega (arith, number, early)) (subst (λ (p : Peer). is_valid p.addr ≡ true) (sym peer) valid))
    where
      next : State
      next = place_pair same st pair

      low_rest : (p : ℕ × ℕ) → Contains pairs p → p.1 < n
      low_rest p c = let within = c.1 in low p (suc c.0, omega (arith, within), c.2)

      one : IsGrown n st next
      one = pair-grown st pair.0 pair.1 once (low pair (0, omega arith, refl))

      rest_grown : IsGrown n next (place_all same next pairs)
      rest_grown = all-grown next pairs one.once low_rest

      later : (q : Rec) × Contains next.records q × IsMore n r q
      later = one.later r has

      number : later.0.number ≡ r.number
      number = number_of r later.0 later.2.0

      peer : later.0.peer ≡ r.peer
      peer = peer_of r later.0 later.2.0

      final : State
      final = place_all same next pairs

      source : later.0.source ≡ r.source
      source = ap (λ (x : Rec). x.source) later.2.0

      as_before : (bucket : ℕ) → IsFull later.0 final bucket → IsFull r final bucket
      as_before bucket = subst (λ (x : Rec). IsFull (record later.0 { number = x.number; peer = x.peer; source = x.source }) final bucket → IsFull r final bucket) (sym later.2.0) (λ h. h)

      lifted : (bucket : ℕ) → IsFull r st bucket → IsFull r final bucket
      lifted bucket h =
          let whole = grown-trans n st next final one rest_grown in (
            subst (λ (p : Places). HasOther final r.number r.peer (new_bucket p r.peer r.source)) (sym whole.places) (other-grown n st final r.number r.peer (new_bucket st.places r.peer r.source) whole h.0),
            λ used. other-grown n st final r.number r.peer bucket whole (h.1 used),
          )

      kept : IsPlaced r next → IsPlaced r final
      kept h =
          let q = rest_grown.later h.0 h.1 in
          (q.0, q.1, placed-trans r h.0 q.0 h.2 q.2.0, some h.0 h.3 q.0 q.2.1)
        where
          some : (x : Rec) → 0 < length (buckets_of x) → (y : Rec) → ((b : ℕ) → Contains (buckets_of x) b → Contains (buckets_of y) b) → 0 < length (buckets_of y)
          some x long y more = let one = some_in (buckets_of x) long in contains_some (buckets_of y) one.0 (more one.0 one.1)

      join : ((bucket : ℕ) → Contains pairs (bucket, later.0.number) → IsFull later.0 final bucket) → ((bucket : ℕ) → pair ≡ (bucket, r.number) → IsFull r final bucket)
          → (bucket : ℕ) → Contains (pair ∷ pairs) (bucket, r.number) → IsFull r final bucket
      join rest first bucket c =
          ⊎_elim (first bucket) (λ l. as_before bucket (rest bucket (subst (λ k. Contains pairs (bucket, k)) (sym number) l))) (Contains-cases pair pairs (bucket, r.number) c)

      head : ((bucket : ℕ) → Contains pairs (bucket, later.0.number) → IsFull later.0 final bucket)
          → (((pair.1 == r.number) ≡ true) × (pair.1 ≡ r.number)) ⊎ (((pair.1 == r.number) ≡ false) × (pair.1 ≢ r.number))
          → IsPlaced r final ⊎ ((bucket : ℕ) → Contains (pair ∷ pairs) (bucket, r.number) → IsFull r final bucket)
      head rest (inr other) = inr (join rest (λ bucket is. absurd (other.1 (ap (λ p. p.1) is))))
      head rest (inl its) =
          ⊎_elim (λ h. inl (kept h)) (λ full. inr (join rest (λ bucket is. lifted bucket (subst (λ b. IsFull r st b) (ap (λ p. p.0) is) full))))
          (subst (λ k. IsPlaced r (place_record same st pair.0 (by_number st k)) ⊎ IsFull r st pair.0) (sym its.1) (one_pair st r pair.0 once has early valid))

-- dropped are records in no bucket with numbers below n
pub record IsKept (n : ℕ) (old new : State) : Type 0 where
  pub places : new.places ≡ old.places
  pub stays : (q : Rec) → Contains old.records q → (0 < length (buckets_of q)) ⊎ (n ≤ q.number) → Contains new.records q
  pub earlier : (q : Rec) → Contains new.records q → Contains old.records q

kept-same : (n : ℕ) (st : State) → IsKept n st st
kept-same n st = record { places = refl; stays = λ q c why. c; earlier = λ q c. c }

drop-kept : (n : ℕ) (st : State) (number : ℕ) → AreOnce st → number < n → IsKept n st (drop_record st (by_number st number))
drop-kept n st number once low = by (by_number st number) refl
  where
    gone : (r : Rec) (b : Bool) → Contains st.records r × (r.number ≡ number) → (length (buckets_of r) == 0) ≡ b → IsKept n st (if b then delete st r else st)
    gone r true h is = record {
      places = refl;
      stays = λ q c why. without_number-keeps r.number st.records q c (λ same. not_it (once q r c h.0 same) why);
      earlier = λ q c. (without_number-cases r.number st.records q c).0;
    }
      where
        not_it : {q : Rec} → q ≡ r → (0 < length (buckets_of q)) ⊎ (n ≤ q.number) → ⊥
        not_it {q} same (inl some) = let long = ap (λ (x : Rec). length (buckets_of x)) same in let none = (Decides-eqb (length (buckets_of r)) 0).0 is in omega (arith, some, long, none)
        not_it {q} same (inr late) = let is_number = ap (λ (x : Rec). x.number) same in let own = h.1 in omega (arith, late, is_number, own, low)
    gone r false h is = kept-same n st

    by : (o : Option Rec) → by_number st number ≡ o → IsKept n st (drop_record st o)
    by None is = kept-same n st
    by (Some r) is = gone r (length (buckets_of r) == 0) (number_found st.records number r is) refl

pub all-kept : (n : ℕ) (st : State) (numbers : List ℕ) → AreOnce st → ((k : ℕ) → Contains numbers k → k < n) → IsKept n st (drop_all st numbers)
all-kept n st [] once low = kept-same n st
all-kept n st (number ∷ numbers) once low =
    let one = drop-kept n st number once (low number (0, omega arith, refl)) in
    let rest = all-kept n (drop_record st (by_number st number)) numbers (λ r q cr cq same. once r q (one.earlier r cr) (one.earlier q cq) same)
    (λ k c. let within = c.1 in low k (suc c.0, omega (arith, within), c.2)) in
    record {
      places = rest.places ∙ one.places;
      stays = λ q c why. rest.stays q (one.stays q c why) why;
      earlier = λ q c. one.earlier q (rest.earlier q c);
    }
