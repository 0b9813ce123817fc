-- Each answer is what was sampled at a request of its key.
use Rattle.std.proofs.Common.{◌≡◌, ◌⊎◌, ℕ, ◌==◌, Bool, true, false, cond, not, List, [], ◌∷◌, ◌++◌, Option, Some, None, IfSome, inl, inr, if◌then◌else◌, refl, subst}
use Rattle.std.specs.Prelude.{◌&&◌, Contains}
use Rattle.std.specs.List.{AllByRecursion}
use Rattle.std.proofs.lemmas.Bool.{eqb-true}
use Rattle.std.proofs.lemmas.List.Elements.{Contains-push, Contains-append_left, Contains-append_right}
use Rattle.addr_answers.specs.Answers.{Answer, is_current, answer_at, without, has_room, after_put}
use Rattle.addr_answers.specs.Runs.{Ask, is_made, made_answer, told, entries_of, after_ask, after_asks, IsOneOf}

-- the answer was made for one of the requests
abbrev IsFrom : List Ask → Answer → Type 0
IsFrom asks a = IsOneOf a.key asks a.entries

module _ (P : Answer → Type 0) where
  all-without : (key : ℕ) (kept : List Answer) → AllByRecursion P kept → AllByRecursion P (without key kept)
  all-without key [] h = h
  all-without key (a ∷ kept) h = by (not (a.key == key)) (all-without key kept h.1)
    where
      by : (b : Bool) → AllByRecursion P (without key kept) → AllByRecursion P (if b then a ∷ without key kept else without key kept)
      by true rest = (h.0, rest)
      by false rest = rest

  all-last : (kept : List Answer) (a : Answer) → AllByRecursion P kept → P a → AllByRecursion P (kept ++ a ∷ [])
  all-last [] a h p = (p, tt)
  all-last (b ∷ kept) a h p = (h.0, all-last kept a h.1 p)

  all-put : (a : Answer) (kept : List Answer) → AllByRecursion P kept → P a → AllByRecursion P (after_put a kept)
  all-put a kept h p = by (has_room a.key kept)
    where
      by : (b : Bool) → AllByRecursion P (if b then without a.key kept ++ a ∷ [] else kept)
      by true = all-last (without a.key kept) a (all-without a.key kept h) p
      by false = h

  all-ask : (ask : Ask) (kept : List Answer) → AllByRecursion P kept → P (made_answer ask) → AllByRecursion P (after_ask kept ask)
  all-ask ask kept h p = by (is_made kept ask)
    where
      by : (b : Bool) → AllByRecursion P (if b then after_put (made_answer ask) kept else kept)
      by true = all-put (made_answer ask) kept h p
      by false = h

  all-asks : (kept : List Answer) (asks : List Ask) → AllByRecursion (λ ask. P (made_answer ask)) asks → AllByRecursion P kept → AllByRecursion P (after_asks kept asks)
  all-asks kept [] h k = k
  all-asks kept (ask ∷ asks) h k = all-asks (after_ask kept ask) asks h.1 (all-ask ask kept k h.0)

  found : (key now : ℕ) (kept : List Answer) → AllByRecursion P kept → IfSome (answer_at key now kept) (λ a. P a × (a.key ≡ key))
  found key now [] h = tt
  found key now (a ∷ kept) h = by (a.key == key) refl (is_current now a) (found key now kept h.1)
    where
      by : (b : Bool) → (a.key == key) ≡ b → (t : Bool) → IfSome (answer_at key now kept) (λ a. P a × (a.key ≡ key))
          → IfSome (cond (b && t) (Some a) (answer_at key now kept)) (λ a. P a × (a.key ≡ key))
      by true is true rest = (h.0, eqb-true a.key key is)
      by true is false rest = rest
      by false is t rest = rest

-- each request is one of all
within : (all asks : List Ask) → ((ask : Ask) → Contains asks ask → Contains all ask) → AllByRecursion (λ ask. IsFrom all (made_answer ask)) asks
within all [] h = tt
within all (ask ∷ asks) h = (
  (ask, h ask (Contains-append_left (ask ∷ []) asks ask (Contains-push [] ask)), refl, refl),
  within all asks (λ a c. h a (Contains-append_right (ask ∷ []) asks a c)),
)

pub is_sample : (asks : List Ask) (ask : Ask)
    → (told (after_asks [] asks) ask ≡ []) ⊎ IsOneOf ask.key (asks ++ ask ∷ []) (told (after_asks [] asks) ask)
is_sample asks ask =
    let kept = after_asks [] asks in
    let all = asks ++ ask ∷ [] in
    let earlier = all-asks (IsFrom all) [] asks (within all asks (λ a c. Contains-append_left asks (ask ∷ []) a c)) tt in
    let now = all-ask (IsFrom all) ask kept earlier (ask, Contains-push asks ask, refl, refl) in
    by (answer_at ask.key ask.now (after_ask kept ask)) (found (IsFrom all) ask.key ask.now (after_ask kept ask) now)
  where
    by : (o : Option Answer) → IfSome o (λ a. IsFrom (asks ++ ask ∷ []) a × (a.key ≡ ask.key))
        → (entries_of o ≡ []) ⊎ IsOneOf ask.key (asks ++ ask ∷ []) (entries_of o)
    by (Some a) h = inr (subst (λ k. IsOneOf k (asks ++ ask ∷ []) a.entries) h.1 h.0)
    by None h = inl refl
