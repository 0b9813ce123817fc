-- The records of a file as they are appended: which are there, and which tried ones are lost.
use Rattle.std.proofs.Common.{◌≡◌, ℕ, zero, suc, ◌+◌, ◌<◌, ◌≤◌, Bool, true, false, ◌||◌, not, is_some, List, [], ◌∷◌, length, Contains, slice_get, Option, Some, None, refl, sym, ap, subst, ◌∙◌, inl, inr, ⊎_elim, ◌⊎◌, arith, true≢false, if◌then◌else◌}
use Rattle.std.proofs.lemmas.List.Elements.{Contains-append_left, Contains-push, Contains-push_cases}
use Rattle.net_addr.specs.Ranges.{is_valid}
use Rattle.placing.specs.Places.{Places, tried_bucket, tried_slot}
use Rattle.peer_rec.specs.declared.file_rec.FileRec.{FileRec}
use Rattle.peer_rec.specs.declared.place.Place.TheVariants.{New, Tried}
use Rattle.peer_rec.specs.declared.rec.Rec.{Rec}
use Rattle.table_machine.specs.Entries.{with_last}
use Rattle.table_machine.specs.Restoring.{record_of, with_all_new, with_all_tried, with_new, with_tried}
use Rattle.table_machine.specs.State.{State, is_tried_at, tried_occupant}
use Rattle.table_machine.proofs.Lists.{Contains-cases, find-Some, none_in_nil}

-- numbers are below the next one, and each is the number of one record
pub record AreNumbered (st : State) : Type 0 where
  pub below : (r : Rec) → Contains st.records r → r.number < st.next_number
  pub once : (r q : Rec) → Contains st.records r → Contains st.records q → r.number ≡ q.number → r ≡ q

module _ (st : State) (r : Rec) where
  last-keeps : (q : Rec) → Contains st.records q → Contains (with_last st r).records q
  last-keeps q c = Contains-append_left st.records (r ∷ []) q c

  last-numbered : r.number ≡ st.next_number → AreNumbered st → AreNumbered (with_last st r)
  last-numbered number h = record {
    below = λ q c. ⊎_elim (λ old. let low = h.below q old in omega (arith, low)) (λ (is : r ≡ q). let same = ap (λ (x : Rec). x.number) is in omega (arith, number, same)) (Contains-push_cases st.records r q c);
    once = λ p q cp cq same. both p q same (Contains-push_cases st.records r p cp) (Contains-push_cases st.records r q cq);
  }
    where
      both : (p q : Rec) → p.number ≡ q.number → Contains st.records p ⊎ (r ≡ p) → Contains st.records q ⊎ (r ≡ q) → p ≡ q
      both p q same (inl a) (inl b) = h.once p q a b same
      both p q same (inr a) (inr b) = sym a ∙ b
      both p q same (inl a) (inr b) = let low = h.below p a in let is = ap (λ (x : Rec). x.number) b in absurd (omega (arith, low, is, same, number))
      both p q same (inr a) (inl b) = let low = h.below q b in let is = ap (λ (x : Rec). x.number) a in absurd (omega (arith, low, is, same, number))

-- the new ones
pub new-places : (st : State) (rs : List FileRec) → (with_all_new st rs).places ≡ st.places
new-places st [] = refl
new-places st (f ∷ rs) = new-places (with_new st f) rs

new-keeps : (st : State) (rs : List FileRec) (q : Rec) → Contains st.records q → Contains (with_all_new st rs).records q
new-keeps st [] q c = c
new-keeps st (f ∷ rs) q c = new-keeps (with_new st f) rs q (last-keeps st (record_of f st.next_number (New [])) q c)

pub new-numbered : (st : State) (rs : List FileRec) → AreNumbered st → AreNumbered (with_all_new st rs)
new-numbered st [] h = h
new-numbered st (f ∷ rs) h = new-numbered (with_new st f) rs (last-numbered st (record_of f st.next_number (New [])) refl h)

pub new-next : (st : State) (rs : List FileRec) → (with_all_new st rs).next_number ≡ st.next_number + length rs
new-next st [] = omega arith
new-next st (f ∷ rs) = let rest = new-next (with_new st f) rs in omega (arith, rest)

pub new-at : (st : State) (rs : List FileRec) (index : ℕ) (f : FileRec) → slice_get rs index ≡ Some f → Contains (with_all_new st rs).records (record_of f (st.next_number + index) (New []))
new-at st [] index f is = absurd (cc)
new-at st (g ∷ rs) zero f is =
    let same : g ≡ f = cc in
    let number : st.next_number ≡ st.next_number + 0 = omega arith in
    subst (λ n. Contains (with_all_new (with_new st g) rs).records (record_of f n (New []))) number
    (subst (λ (x : FileRec). Contains (with_all_new (with_new st g) rs).records (record_of x st.next_number (New []))) same
    (new-keeps (with_new st g) rs (record_of g st.next_number (New [])) (Contains-push st.records (record_of g st.next_number (New [])))))
new-at st (g ∷ rs) (suc index) f is =
    let number : st.next_number + 1 + index ≡ st.next_number + suc index = omega arith in
    subst (λ n. Contains (with_all_new (with_new st g) rs).records (record_of f n (New []))) number (new-at (with_new st g) rs index f is)

-- a record is one of before, or of the list
abbrev pub IsNewOf : State → List FileRec → Rec → Type 0
IsNewOf st rs q = (index : ℕ) × (f : FileRec) × (slice_get rs index ≡ Some f) × (q ≡ record_of f (st.next_number + index) (New []))

pub new-from : (st : State) (rs : List FileRec) (q : Rec) → Contains (with_all_new st rs).records q → Contains st.records q ⊎ IsNewOf st rs q
new-from st [] q c = inl c
new-from st (g ∷ rs) q c = ⊎_elim last later (new-from (with_new st g) rs q c)
  where
    first : ℕ → Rec
    first n = record_of g n (New [])

    last : Contains (with_new st g).records q → Contains st.records q ⊎ IsNewOf st (g ∷ rs) q
    last has = ⊎_elim inl (λ (is : first st.next_number ≡ q). let number : st.next_number ≡ st.next_number + 0 = omega arith in inr (0, g, refl, sym is ∙ ap first number)) (Contains-push_cases st.records (first st.next_number) q has)

    later : IsNewOf (with_new st g) rs q → Contains st.records q ⊎ IsNewOf st (g ∷ rs) q
    later h = let number : st.next_number + 1 + h.0 ≡ st.next_number + suc h.0 = omega arith in inr (suc h.0, h.1, h.2, h.3 ∙ ap (λ n. record_of h.1 n (New [])) number)

-- the tried ones
tried-step-is : (st : State) (f : FileRec) (b : Bool) → (not (is_valid f.peer.addr) || is_some (tried_occupant st f.peer)) ≡ b → with_tried st f ≡ (if b then st else with_last st (record_of f st.next_number Tried))
tried-step-is st f b is = ap (λ x. if x then st else with_last st (record_of f st.next_number Tried)) is

module _ (P : State → State → Type 0) (same : (st : State) → P st st) (then_more : (a b c : State) → P a b → P b c → P a c)
    (one : (st : State) (f : FileRec) → P st (with_last st (record_of f st.next_number Tried))) where
  -- what one record keeps all keep
  tried-along : (st : State) (rs : List FileRec) → P st (with_all_tried st rs)
  tried-along st [] = same st
  tried-along st (f ∷ rs) = then_more st (with_tried st f) (with_all_tried (with_tried st f) rs) (by (not (is_valid f.peer.addr) || is_some (tried_occupant st f.peer))) (tried-along (with_tried st f) rs)
    where
      by : (b : Bool) → P st (if b then st else with_last st (record_of f st.next_number Tried))
      by true = same st
      by false = one st f

pub tried-places : (st : State) (rs : List FileRec) → (with_all_tried st rs).places ≡ st.places
tried-places = tried-along (λ a b. b.places ≡ a.places) (λ st. refl) (λ a b c h k. k ∙ h) (λ st f. refl)

pub tried-keeps : (st : State) (rs : List FileRec) (q : Rec) → Contains st.records q → Contains (with_all_tried st rs).records q
tried-keeps =
    tried-along (λ a b. (q : Rec) → Contains a.records q → Contains b.records q) (λ st q c. c) (λ a b c h k q has. k q (h q has)) (λ st f. last-keeps st (record_of f st.next_number Tried))

pub tried-numbered : (st : State) (rs : List FileRec) → AreNumbered st → AreNumbered (with_all_tried st rs)
tried-numbered = tried-along (λ a b. AreNumbered a → AreNumbered b) (λ st h. h) (λ a b c h k x. k (h x)) (λ st f. last-numbered st (record_of f st.next_number Tried) refl)

-- a record is one of before, or of the list, with a later number
abbrev pub IsTriedOf : State → List FileRec → Rec → Type 0
IsTriedOf st rs q = (f : FileRec) × Contains rs f × (q ≡ record_of f q.number Tried) × (st.next_number ≤ q.number)

pub tried-from : (st : State) (rs : List FileRec) (q : Rec) → Contains (with_all_tried st rs).records q → Contains st.records q ⊎ IsTriedOf st rs q
tried-from st [] q c = inl c
tried-from st (f ∷ rs) q c = by (λ s has. tried-from s rs q has) (not (is_valid f.peer.addr) || is_some (tried_occupant st f.peer)) refl
  where
    more : (g : FileRec) → Contains rs g → Contains (f ∷ rs) g
    more g has = let within = has.1 in (suc has.0, omega (arith, within), has.2)

    by : ((s : State) → Contains (with_all_tried s rs).records q → Contains s.records q ⊎ IsTriedOf s rs q)
        → (b : Bool) → (not (is_valid f.peer.addr) || is_some (tried_occupant st f.peer)) ≡ b → Contains st.records q ⊎ IsTriedOf st (f ∷ rs) q
    by rest true is =
        ⊎_elim inl (λ h. inr (h.0, more h.0 h.1, h.2, h.3))
        (rest st (subst (λ (s : State). Contains (with_all_tried s rs).records q) (tried-step-is st f true is) c))
    by rest false is =
        ⊎_elim (λ has. ⊎_elim inl (λ (same : record_of f st.next_number Tried ≡ q). let number = ap (λ (x : Rec). x.number) same in
        inr (f, (0, omega arith, refl), sym same ∙ ap (λ n. record_of f n Tried) number, omega (arith, number))) (Contains-push_cases st.records (record_of f st.next_number Tried) q has))
        (λ h. let late = h.3 in inr (h.0, more h.0 h.1, h.2, omega (arith, late)))
        (rest (with_last st (record_of f st.next_number Tried)) (subst (λ (s : State). Contains (with_all_tried s rs).records q) (tried-step-is st f false is) c))

-- a tried record of the list is there, or its address is not valid, or one is at its slot
abbrev pub IsTriedOrLost : State → State → FileRec → Type 0
IsTriedOrLost st new f =
    ((number : ℕ) × Contains new.records (record_of f number Tried) × (st.next_number ≤ number))
    ⊎ ((is_valid f.peer.addr ≡ false)
    ⊎ ((q : Rec) × Contains new.records q × (is_tried_at st.places (tried_bucket st.places f.peer) (tried_slot st.places f.peer (tried_bucket st.places f.peer)) q ≡ true)))

module _ (st : State) (f : FileRec) (rs : List FileRec) where
  abbrev new : State
  new = with_all_tried (with_tried st f) rs

  first-tried : IsTriedOrLost st new f
  first-tried = by (not (is_valid f.peer.addr) || is_some (tried_occupant st f.peer)) refl
    where
      why : (v : Bool) (o : Option Rec) → is_valid f.peer.addr ≡ v → tried_occupant st f.peer ≡ o → (not v || is_some o) ≡ true → (with_tried st f ≡ st) → IsTriedOrLost st new f
      why false o invalid is full stays = inr (inl invalid)
      why true None valid is full stays = absurd (true≢false (sym full))
      why true (Some q) valid is full stays =
          let h = find-Some (is_tried_at st.places (tried_bucket st.places f.peer) (tried_slot st.places f.peer (tried_bucket st.places f.peer))) st.records q is in
          inr (inr (q, subst (λ (s : State). Contains (with_all_tried s rs).records q) (sym stays) (tried-keeps st rs q h.0), h.1))

      by : (b : Bool) → (not (is_valid f.peer.addr) || is_some (tried_occupant st f.peer)) ≡ b → IsTriedOrLost st new f
      by true is = why (is_valid f.peer.addr) (tried_occupant st f.peer) refl refl is (tried-step-is st f true is)
      by false is =
          inl (
            st.next_number,
            subst (λ (s : State). Contains (with_all_tried s rs).records (record_of f st.next_number Tried)) (sym (tried-step-is st f false is))
                (tried-keeps (with_last st (record_of f st.next_number Tried)) rs (record_of f st.next_number Tried) (Contains-push st.records (record_of f st.next_number Tried))),
            omega arith,
          )

step-next : (st : State) (f : FileRec) → st.next_number ≤ (with_tried st f).next_number
step-next st f = by (not (is_valid f.peer.addr) || is_some (tried_occupant st f.peer))
  where
    by : (b : Bool) → st.next_number ≤ (if b then st else with_last st (record_of f st.next_number Tried)).next_number
    by true = omega arith
    by false = omega arith

pub tried-at : (st : State) (rs : List FileRec) (f : FileRec) → Contains rs f → IsTriedOrLost st (with_all_tried st rs) f
tried-at st [] f c = absurd (none_in_nil f c)
tried-at st (g ∷ rs) f c =
    let rest = tried-at (with_tried st g) rs f in
    ⊎_elim (λ (is : g ≡ f). subst (IsTriedOrLost st (with_all_tried (with_tried st g) rs)) is (first-tried st g rs))
    (λ later. back (rest later)) (Contains-cases g rs f c)
  where
    same : (with_tried st g).places ≡ st.places
    same = tried-places st (g ∷ [])

    back : IsTriedOrLost (with_tried st g) (with_all_tried (with_tried st g) rs) f → IsTriedOrLost st (with_all_tried (with_tried st g) rs) f
    back (inl h) = let one = step-next st g in let two = h.2 in inl (h.0, h.1, omega (arith, one, two))
    back (inr (inl invalid)) = inr (inl invalid)
    back (inr (inr h)) =
        inr (inr (h.0, h.1, subst (λ (p : Places). is_tried_at p (tried_bucket p f.peer) (tried_slot p f.peer (tried_bucket p f.peer)) h.0 ≡ true) same h.2))
