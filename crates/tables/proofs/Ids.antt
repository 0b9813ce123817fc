-- The ids that are kept with collisions, after each change of the index.
use Rattle.std.proofs.Common.{◌≡◌, ◌≢◌, ℕ, ◌+◌, Bool, true, false, ◌==◌, List, [], ◌∷◌, ◌++◌, get_or, take, drop, length, All, Option, Some, None, refl, sym, ap, subst, ◌∙◌, inl, inr, arith, if◌then◌else◌}
use Rattle.std.specs.Prelude.{map, IsSomeAnd, unwrap_or}
use Rattle.std.specs.List.{refill}
use Rattle.std.proofs.lemmas.List.{length-map}
use Rattle.std.proofs.lemmas.Bool.{cases_eq, both_ways}
use Rattle.std.proofs.lemmas.Bool.Decides.{Decides-eqb}
use Rattle.std.proofs.lemmas.List.Elements.{All-append, All-cons, All-map}
use Rattle.peer_rec.specs.declared.rec.Rec.{Rec}
use Rattle.peer_index.specs.Order.{Order, SameOthers, SameRecs, rec_of}
use Rattle.table_plan.specs.declared.waiter.Waiter.{Waiter}
use Rattle.tables.specs.Inside.{AreNumbers, IsIdOf}
use Rattle.table_plan.specs.Waiters.{forget, id_without}
use Rattle.tables.proofs.Searches.{one_rec, some-of}
use Rattle.tables.proofs.Records.{HadNumbers}

-- `Some` is of one number
some-nat : (i j : ℕ) → Some i ≡ Some j → i ≡ j
some-nat i j is = ap (λ o. unwrap_or o i) is

-- each id has the number that it had
pub ids-had : (order new : Order) (next : ℕ) (ws : List Waiter) → HadNumbers order new → HadNumbers new order → All (IsIdOf order next) ws → All (IsIdOf new next) ws
ids-had order new next ws had has ids k d within = record {
  below = (ids k d within).below;
  found = λ j q at own. (let p = had j q at in (ids k d within).found j p.0 p.1 (p.2 ∙ own));
  live = λ j is. there j is;
}
  where
    w : Waiter
    w = get_or ws k d

    there : (j : ℕ) → w.id ≡ Some j → IsSomeAnd (rec_of new j) (λ r. r.number ≡ w.number)
    there j is =
        let o = some-of (λ r. r.number ≡ w.number) (rec_of order j) ((ids k d within).live j is) in
        let q = has j o.0 o.1 in
        subst (λ x. IsSomeAnd x (λ r. r.number ≡ w.number)) (sym q.1) (q.2 ∙ o.2)

-- each id leads to the record that it led to
pub ids-same : (order new : Order) (next : ℕ) (ws : List Waiter) → SameRecs order new → All (IsIdOf order next) ws → All (IsIdOf new next) ws
ids-same order new next ws same =
    ids-had order new next ws (λ j q at. (q, sym (same j) ∙ at, refl)) (λ j q at. (q, same j ∙ at, refl))

module _ (order new : Order) (id : ℕ) where
  -- one more record, of the next number
  pub ids-put : (next : ℕ) (rec : Rec) (ws : List Waiter) → rec_of order id ≡ None → rec_of new id ≡ Some rec → SameOthers order new id → rec.number ≡ next
      → All (IsIdOf order next) ws → All (IsIdOf new (next + 1)) ws
  ids-put next rec ws fresh at others own ids k d within = record { below = omega (arith, (ids k d within).below); found = found; live = live }
    where
      w : Waiter
      w = get_or ws k d

      was : IsIdOf order next w
      was = ids k d within

      found : (j : ℕ) (q : Rec) → rec_of new j ≡ Some q → q.number ≡ w.number → w.id ≡ Some j
      found j q here same = elim (cases_eq j id) [
        | inl one ↦
            let is : q ≡ rec = one_rec new j q rec here (ap (rec_of new) one ∙ at) in
            let number : q.number ≡ next = ap (λ r. r.number) is ∙ own in
            absurd (omega (arith, was.below, same, number))
        | inr differs ↦ was.found j q (sym (others j differs) ∙ here) same
      ]

      live : (j : ℕ) → w.id ≡ Some j → IsSomeAnd (rec_of new j) (λ r. r.number ≡ w.number)
      live j is = elim (cases_eq j id) [
        | inl one ↦ absurd (subst (λ o. IsSomeAnd o (λ r. r.number ≡ w.number)) (ap (rec_of order) one ∙ fresh) (was.live j is))
        | inr differs ↦ subst (λ o. IsSomeAnd o (λ r. r.number ≡ w.number)) (sym (others j differs)) (was.live j is)
      ]

  -- one less, whose id is kept no more
  pub ids-gone : (next : ℕ) (ws : List Waiter) → rec_of new id ≡ None → SameOthers order new id → All (IsIdOf order next) ws → All (IsIdOf new next) (map (forget id) ws)
  ids-gone next ws gone others ids = All-map (IsIdOf new next) (forget id) ws each
    where
      left-is : (own : Option ℕ) (j : ℕ) → own ≡ Some j → j ≢ id → id_without id own ≡ Some j
      left-is None j is differs = absurd (cc)
      left-is (Some i) j is differs = by (i == id) refl is
        where
          by : (b : Bool) → (i == id) ≡ b → Some i ≡ Some j → (if b then None else Some i) ≡ Some j
          by true h same = absurd (differs (sym (some-nat i j same) ∙ (Decides-eqb i id).0 h))
          by false h same = same

      left-from : (own : Option ℕ) (j : ℕ) → id_without id own ≡ Some j → (own ≡ Some j) × (j ≢ id)
      left-from None j is = absurd (cc)
      left-from (Some i) j is = by (i == id) refl is
        where
          by : (b : Bool) → (i == id) ≡ b → (if b then None else Some i) ≡ Some j → (Some i ≡ Some j) × (j ≢ id)
          by true h same = absurd (cc)
          by false h same = (same, λ e. both_ways (i == id) h ((Decides-eqb i id).1 (some-nat i j same ∙ e)))

      each : All (λ w. IsIdOf new next (forget id w)) ws
      each k d within = record {
        below = was.below;
        found = λ j q here same.
            (let differs : j ≢ id = λ one. (let none : rec_of new j ≡ None = ap (rec_of new) one ∙ gone in absurd (cc)) in
            left-is w.id j (was.found j q (sym (others j differs) ∙ here) same) differs);
        live = λ j is.
            (let from = left-from w.id j is in
            subst (λ o. IsSomeAnd o (λ r. r.number ≡ w.number)) (sym (others j from.1)) (was.live j from.0));
      }
        where
          w : Waiter
          w = get_or ws k d

          was : IsIdOf order next w
          was = ids k d within

-- a collision of a record from now on
pub id-own : (order : Order) (next id : ℕ) (r : Rec) → AreNumbers order next → rec_of order id ≡ Some r → IsIdOf order next record { number = r.number; id = Some id }
id-own order next id r numbers at = record {
  below = numbers.below id r at;
  found = λ j q here same. ap Some (numbers.one id j r q at here (sym same));
  live = λ j is. subst (λ i. IsSomeAnd (rec_of order i) (λ q. q.number ≡ r.number)) (some-nat id j is) (subst (λ o. IsSomeAnd o (λ q. q.number ≡ r.number)) (sym at) refl);
}

pub ids-more : (order : Order) (next : ℕ) (ws : List Waiter) (w : Waiter) → All (IsIdOf order next) ws → IsIdOf order next w → All (IsIdOf order next) (ws ++ w ∷ [])
ids-more order next ws w ids own =
    All-append (IsIdOf order next) ws (w ∷ []) ids (All-cons (IsIdOf order next) w [] own (λ k d within. absurd (omega arith)))

-- the numbers are the same without an id
pub numbers-forget : (gone : ℕ) (ws : List Waiter) → map (λ w. w.number) (map (forget gone) ws) ≡ map (λ w. w.number) ws
numbers-forget gone [] = refl
numbers-forget gone (w ∷ ws) = ap (λ ns. w.number ∷ ns) (numbers-forget gone ws)

-- a list that is written whole through its slice
cut-whole : (ws zs : List Waiter) → take (length ws) (ws ++ zs) ≡ ws
cut-whole [] zs = refl
cut-whole (w ∷ ws) zs = ap (λ xs. w ∷ xs) (cut-whole ws zs)

pub written : (gone : ℕ) (ws slice after : List Waiter) → after ≡ map (forget gone) slice → slice ≡ ws → refill (length ws) ws after ≡ map (forget gone) ws
written gone ws slice after is value =
    let left = map (forget gone) ws in
    ap (refill (length ws) ws) (is ∙ ap (map (forget gone)) value)
    ∙ ap (λ n. take n (left ++ drop (length left) ws)) (sym (length-map ws (forget gone)))
    ∙ cut-whole left (drop (length left) ws)
