-- What is found of a key after requests of it and of others.
use Rattle.std.proofs.Common.{◌≡◌, ◌≢◌, ℕ, ◌+◌, ◌<◌, nat_lt, ◌==◌, Bool, true, false, cond, not, List, [], ◌∷◌, ◌++◌, Some, None, if◌then◌else◌, refl, sym, ap, ◌∙◌, arith}
use Rattle.std.specs.Prelude.{◌&&◌, is_none}
use Rattle.std.specs.List.{AllByRecursion}
use Rattle.std.proofs.lemmas.Bool.{eqb-true, eqb-false, eq-eqb}
use Rattle.std.proofs.lemmas.Bool.Decides.{nat_tests}
use Rattle.addr_answers.specs.Answers.{Answer, is_of, is_current, answer_at, without, has_room, after_put, least_of, more_of}
use Rattle.addr_answers.specs.Runs.{Ask, is_made, made_answer, told, entries_of, after_ask, after_asks, IsWithin}

abbrev fits : ℕ → ℕ → Answer → Bool
fits key now a = is_of key a && is_current now a

-- what is dropped of another key is not found
pub find-without : (key now other : ℕ) (kept : List Answer) → key ≢ other
    → answer_at key now (without other kept) ≡ answer_at key now kept
find-without key now other [] differ = refl
find-without key now other (a ∷ kept) differ = by (a.key == other) refl (find-without key now other kept differ)
  where
    by : (b : Bool) → (a.key == other) ≡ b → answer_at key now (without other kept) ≡ answer_at key now kept
        → answer_at key now (if not b then a ∷ without other kept else without other kept) ≡ answer_at key now (a ∷ kept)
    by true is rest =
        let none : (a.key == key) ≡ false = grind (arith, nat_tests, is, differ) in
        rest ∙ ap (λ t. cond (t && is_current now a) (Some a) (answer_at key now kept)) (sym none)
    by false is rest = ap (λ found. cond (fits key now a) (Some a) found) rest

-- what is not of the key changes nothing at the end
pub find-last : (key now : ℕ) (kept : List Answer) (a : Answer) → a.key ≢ key
    → answer_at key now (kept ++ a ∷ []) ≡ answer_at key now kept
find-last key now [] a differ =
    let none : (a.key == key) ≡ false = grind (arith, nat_tests, differ) in
    ap (λ t. cond (t && is_current now a) (Some a) None) none
find-last key now (b ∷ kept) a differ = ap (λ found. cond (fits key now b) (Some b) found) (find-last key now kept a differ)

-- and the only one of the key is found
pub find-own : (now : ℕ) (kept : List Answer) (a : Answer) → is_current now a ≡ true
    → answer_at a.key now (without a.key kept ++ a ∷ []) ≡ Some a
find-own now [] a current = ap (λ t. cond (t && is_current now a) (Some a) None) (eq-eqb a.key a.key refl) ∙ ap (λ t. cond t (Some a) None) current
find-own now (b ∷ kept) a current = by (b.key == a.key) refl (find-own now kept a current)
  where
    by : (t : Bool) → (b.key == a.key) ≡ t → answer_at a.key now (without a.key kept ++ a ∷ []) ≡ Some a
        → answer_at a.key now ((if not t then b ∷ without a.key kept else without a.key kept) ++ a ∷ []) ≡ Some a
    by true is rest = rest
    by false is rest = ap (λ t. cond (t && is_current now b) (Some b) (answer_at a.key now (without a.key kept ++ a ∷ []))) is ∙ rest

pub find_other-put : (key now : ℕ) (a : Answer) (kept : List Answer) → key ≢ a.key
    → answer_at key now (after_put a kept) ≡ answer_at key now kept
find_other-put key now a kept differ = by (has_room a.key kept)
  where
    by : (b : Bool) → answer_at key now (if b then without a.key kept ++ a ∷ [] else kept) ≡ answer_at key now kept
    by true = find-last key now (without a.key kept) a (λ e. differ (sym e)) ∙ find-without key now a.key kept differ
    by false = refl

pub find_other-ask : (key now : ℕ) (ask : Ask) (kept : List Answer) → key ≢ ask.key
    → answer_at key now (after_ask kept ask) ≡ answer_at key now kept
find_other-ask key now ask kept differ = by (is_made kept ask)
  where
    by : (b : Bool) → answer_at key now (if b then after_put (made_answer ask) kept else kept) ≡ answer_at key now kept
    by true = find_other-put key now (made_answer ask) kept differ
    by false = refl

pub find_other-asks : (kept : List Answer) (key now : ℕ) (asks : List Ask) → AllByRecursion (λ a. a.key ≢ key) asks
    → answer_at key now (after_asks kept asks) ≡ answer_at key now kept
find_other-asks kept key now [] h = refl
find_other-asks kept key now (ask ∷ asks) h =
    find_other-asks (after_ask kept ask) key now asks h.1 ∙ find_other-ask key now ask kept (λ e. h.0 (sym e))

-- ---- an answer stays

-- at each time within the request's, the answer that was made for it is found
unfoldable pub Stays : Ask → List Answer → Type 0
Stays first kept = (now : ℕ) → IsWithin first now → answer_at first.key now kept ≡ Some (made_answer first)

within-current : (first : Ask) (now : ℕ) → IsWithin first now → is_current now (made_answer first) ≡ true
within-current first now near = by (least_of first.records) (more_of first.records first.word) near.0 near.1
  where
    by : (least more : ℕ) → first.now < now + least → now < first.now + least
        → (nat_lt now (first.now + least + more) && nat_lt first.now (now + least)) ≡ true
    by least more after before = grind (arith, nat_tests, after, before)

both : (a b : Bool) → (a && b) ≡ true → (a ≡ true) × (b ≡ true)
both true true h = (refl, refl)
both true false h = (refl, h)
both false b h = (h, absurd (not_true h))
  where
    not_true : false ≡ true → ⊥
    not_true e = cc e

pub made-stays : (first : Ask) (kept : List Answer) → is_made kept first ≡ true → Stays first (after_ask kept first)
unfolding Stays
made-stays first kept made now near =
    ap (λ b. answer_at first.key now (if b then after_put (made_answer first) kept else kept)) made
    ∙ ap (λ b. answer_at first.key now (if b then without first.key kept ++ made_answer first ∷ [] else kept))
    (both (is_none (answer_at first.key first.now kept)) (has_room first.key kept) made).1
    ∙ find-own now kept (made_answer first) (within-current first now near)

pub stays-ask : (first ask : Ask) (kept : List Answer) → (ask.key ≡ first.key → IsWithin first ask.now) → Stays first kept → Stays first (after_ask kept ask)
unfolding Stays
stays-ask first ask kept near stays now is_near = by (ask.key == first.key) refl
  where
    by : (b : Bool) → (ask.key == first.key) ≡ b → answer_at first.key now (after_ask kept ask) ≡ Some (made_answer first)
    by true is =
        let same : ask.key ≡ first.key = eqb-true ask.key first.key is in
        let found = ap (λ k. answer_at k ask.now kept) same ∙ stays ask.now (near same) in
        ap (λ o. answer_at first.key now (if is_none o && has_room ask.key kept then after_put (made_answer ask) kept else kept)) found ∙ stays now is_near
    by false is = find_other-ask first.key now ask kept (λ e. eqb-false ask.key first.key is (sym e)) ∙ stays now is_near

stays-asks : (first : Ask) (kept : List Answer) (asks : List Ask) → AllByRecursion (λ a. a.key ≡ first.key → IsWithin first a.now) asks
    → Stays first kept → Stays first (after_asks kept asks)
stays-asks first kept [] h stays = stays
stays-asks first kept (ask ∷ asks) h stays = stays-asks first (after_ask kept ask) asks h.1 (stays-ask first ask kept h.0 stays)

pub same_answer : (kept : List Answer) (first : Ask) (between : List Ask) (again : Ask)
    → is_made kept first ≡ true → again.key ≡ first.key
    → AllByRecursion (λ a. a.key ≡ first.key → IsWithin first a.now) between
    → IsWithin first again.now
    → told (after_asks (after_ask kept first) between) again ≡ first.fresh
unfolding Stays
same_answer kept first between again made same near is_near =
    let after = after_asks (after_ask kept first) between in
    let stays = stays-ask first again after (λ e. is_near) (stays-asks first (after_ask kept first) between near (made-stays first kept made)) in
    ap (λ k. entries_of (answer_at k again.now (after_ask after again))) same ∙ ap entries_of (stays again.now is_near)
