-- How far apart the samples are that the requests of a key show.
use Rattle.std.proofs.Common.{◌≡◌, ℕ, suc, ◌+◌, ◌-◌, ◌*◌, ◌<◌, ◌≤◌, ◌==◌, Bool, true, false, List, [], ◌∷◌, length, if◌then◌else◌, refl, sym, ap, ◌∙◌, subst, arith, nat_lt}
use Rattle.std.specs.Prelude.{◌&&◌, is_none}
use Rattle.std.specs.List.{AllByRecursion}
use Rattle.std.proofs.lemmas.Bool.{eqb-true}
use Rattle.std.proofs.lemmas.Bool.Decides.{nat_tests}
use Rattle.addr_answers.specs.Answers.{Answer, answer_at, has_room, least_of}
use Rattle.addr_answers.specs.Runs.{Ask, is_made, after_ask, IsWithin, makers, IsAfter, AreApart, IsBetween}
use Rattle.addr_answers.proofs.Apart.{Stays, made-stays, stays-ask}

-- the requests from a time on are after an answer that is over by then
over : (first : Ask) (key end : ℕ) (kept : List Answer) (start : ℕ) (asks : List Ask) → first.now + least_of first.records ≤ start → IsBetween start end asks
    → IsAfter first (makers key kept asks)
over first key end kept start [] late h = tt
over first key end kept start (ask ∷ asks) late h =
    by (ask.key == key && is_made kept ask) (over first key end (after_ask kept ask) ask.now asks later h.1)
  where
    later : first.now + least_of first.records ≤ ask.now
    later = omega (arith, late, h.0)

    by : (b : Bool) → IsAfter first (makers key (after_ask kept ask) asks) → IsAfter first (if b then ask ∷ makers key (after_ask kept ask) asks else makers key (after_ask kept ask) asks)
    by true rest = later
    by false rest = rest

-- of any answers that are kept
abbrev AnyKept : ℕ → List Ask → Type 0
AnyKept end asks = (key : ℕ) (kept : List Answer) (start : ℕ) → IsBetween start end asks → AreApart (makers key kept asks)

-- of answers of which one was made for a request
abbrev WithFirst : ℕ → List Ask → Type 0
WithFirst end asks = (first : Ask) (kept : List Answer) (start : ℕ) → Stays first kept → first.now ≤ start → IsBetween start end asks
    → AreApart (first ∷ makers first.key kept asks)

any-step : (end : ℕ) (ask : Ask) (asks : List Ask) → AnyKept end asks → WithFirst end asks → AnyKept end (ask ∷ asks)
any-step end ask asks any with_first key kept start h = by (ask.key == key) (is_made kept ask) refl refl
  where
    by : (a b : Bool) → (ask.key == key) ≡ a → is_made kept ask ≡ b
        → AreApart (if a && b then ask ∷ makers key (after_ask kept ask) asks else makers key (after_ask kept ask) asks)
    by true true is made =
        let same : ask.key ≡ key = eqb-true ask.key key is in
        subst (λ k. AreApart (ask ∷ makers k (after_ask kept ask) asks)) same
        (with_first ask (after_ask kept ask) ask.now (made-stays ask kept made) (omega arith) h.1)
    by true false is made = any key (after_ask kept ask) ask.now h.1
    by false b is made = any key (after_ask kept ask) ask.now h.1

first-step : (end : ℕ) (ask : Ask) (asks : List Ask) → AnyKept end (ask ∷ asks) → WithFirst end asks → WithFirst end (ask ∷ asks)
unfolding Stays
first-step end ask asks any with_first first kept start stays low h = by (nat_lt ask.now (first.now + least_of first.records)) refl
  where
    not_made : IsWithin first ask.now → (a : Bool) → (ask.key == first.key) ≡ a → (a && is_made kept ask) ≡ false
    not_made near true is =
        let same : ask.key ≡ first.key = eqb-true ask.key first.key is in
        ap (λ o. is_none o && has_room ask.key kept) (ap (λ k. answer_at k ask.now kept) same ∙ stays ask.now near)
    not_made near false is = refl

    some : (records : ℕ) → 0 + 1 ≤ least_of records
    some records = grind (arith, nat_tests)

    by : (b : Bool) → nat_lt ask.now (first.now + least_of first.records) ≡ b → AreApart (first ∷ makers first.key kept (ask ∷ asks))
    by true is =
        let near : IsWithin first ask.now = (omega (arith, low, h.0, some first.records), below ask.now (first.now + least_of first.records) is) in
        let none = not_made near (ask.key == first.key) refl in
        let rest = with_first first (after_ask kept ask) ask.now (stays-ask first ask kept (λ _. near) stays) (omega (arith, low, h.0)) h.1 in
        subst (λ b. AreApart (first ∷ (if b then ask ∷ makers first.key (after_ask kept ask) asks else makers first.key (after_ask kept ask) asks))) (sym none) rest
      where
        below : (a b : ℕ) → nat_lt a b ≡ true → a < b
        below a b e = grind (arith, nat_tests, e)
    by false is =
        let far : first.now + least_of first.records ≤ ask.now = above ask.now (first.now + least_of first.records) is in
        (over first first.key end kept ask.now (ask ∷ asks) far (omega arith, h.1), any first.key kept start h)
      where
        above : (a b : ℕ) → nat_lt a b ≡ false → b ≤ a
        above a b e = grind (arith, nat_tests, e)

both : (end : ℕ) (asks : List Ask) → AnyKept end asks × WithFirst end asks
both end [] = (λ key kept start h. tt, λ first kept start stays low h. (tt, tt))
both end (ask ∷ asks) =
    let rest = both end asks in
    let any = any-step end ask asks rest.0 rest.1 in
    (any, first-step end ask asks any rest.1)

pub are_apart : (kept : List Answer) (key start end : ℕ) (asks : List Ask) → IsBetween start end asks → AreApart (makers key kept asks)
are_apart kept key start end asks h = (both end asks).0 key kept start h

-- ---- how many there are

-- the requests that make an answer are in time order too
makers-between : (key end : ℕ) (kept : List Answer) (start : ℕ) (asks : List Ask) → IsBetween start end asks → IsBetween start end (makers key kept asks)
makers-between key end kept start [] h = h
makers-between key end kept start (ask ∷ asks) h =
    by (ask.key == key && is_made kept ask) (makers-between key end (after_ask kept ask) ask.now asks h.1)
  where
    by : (b : Bool) → IsBetween ask.now end (makers key (after_ask kept ask) asks) → IsBetween start end (if b then ask ∷ makers key (after_ask kept ask) asks else makers key (after_ask kept ask) asks)
    by true rest = (h.0, rest)
    by false rest = from (makers key (after_ask kept ask) asks) rest
      where
        from : (others : List Ask) → IsBetween ask.now end others → IsBetween start end others
        from [] k = omega (arith, h.0, k)
        from (o ∷ others) k = (omega (arith, h.0, k.0), k.1)

end-above : (end start : ℕ) (asks : List Ask) → IsBetween start end asks → start ≤ end
end-above end start [] h = h
end-above end start (ask ∷ asks) h = omega (arith, h.0, end-above end ask.now asks h.1)

-- requests that are so far apart are few
apart-few : (end seconds : ℕ) (start : ℕ) (asks : List Ask) → IsBetween start end asks → AllByRecursion (λ a. seconds ≤ least_of a.records) asks → AreApart asks
    → length asks * seconds ≤ (end - start) + seconds
apart-few end seconds start [] h least apart = omega arith
apart-few end seconds start (ask ∷ []) h least apart = omega arith
apart-few end seconds start (ask ∷ next ∷ asks) h least apart =
    let rest = apart-few end seconds next.now (next ∷ asks) (omega arith, h.1.1) least.1 apart.1 in
    let last = end-above end next.now asks h.1.1 in
    subst (λ n. n ≤ (end - start) + seconds) (sym (product (length (next ∷ asks)))) (joined (length (next ∷ asks) * seconds) rest last)
  where
    product : (n : ℕ) → suc n * seconds ≡ seconds + n * seconds
    product n = grind arith

    joined : (n : ℕ) → n ≤ (end - next.now) + seconds → next.now ≤ end → seconds + n ≤ (end - start) + seconds
    joined n few last = omega (arith, few, last, least.0, apart.0, h.0)

pub are_few : (kept : List Answer) (key start end seconds : ℕ) (asks : List Ask) → IsBetween start end asks
    → AllByRecursion (λ a. seconds ≤ least_of a.records) (makers key kept asks)
    → length (makers key kept asks) * seconds ≤ (end - start) + seconds
are_few kept key start end seconds asks h least =
    apart-few end seconds start (makers key kept asks) (makers-between key end kept start asks h) least (are_apart kept key start end asks h)
