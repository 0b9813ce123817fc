-- A search for a peer refuses at most 44 records: after that the factor outweighs even the least
-- chance.
use Rattle.std.proofs.Common.{◌≡◌, ℕ, zero, suc, ◌+◌, ◌*◌, ◌/◌, ◌%◌, ◌<◌, ◌≤◌, ◌^◌, min, nat_lt, Bool, true, false, List, [], ◌∷◌, length, refl, sym, subst, arith, ⊎_elim, if◌then◌else◌}
use Rattle.std.proofs.lemmas.Bool.{both_ways, lt-ltb, cases_order}
use Rattle.std.proofs.lemmas.Nat.{mod_below, mul-le}
use Rattle.peer_rec.specs.Rec.{chance, next_factor}
use Rattle.peer_rec.specs.declared.answers.Picked.TheVariants.{One, Exhausted}
use Rattle.peer_rec.specs.declared.rec.Rec.{Rec}
use Rattle.table_machine.specs.Picks.{first_accepted, first_factor, is_accepted}

-- the chance after some tries of which none was recent, in parts of 2^30
abbrev chance_after : ℕ → ℕ
chance_after tries = (2 ^ 30 * 66 ^ tries) / 100 ^ tries

-- the least that it and its hundredth can be, with at most eight tries
least_after : (tries : ℕ) → tries ≤ 8 → (386590 ≤ chance_after tries / 100) × (386590 ≤ chance_after tries)
least_after zero few = (omega arith, omega arith)
least_after (suc zero) few = (omega arith, omega arith)
least_after (suc (suc zero)) few = (omega arith, omega arith)
least_after (suc (suc (suc zero))) few = (omega arith, omega arith)
least_after (suc (suc (suc (suc zero)))) few = (omega arith, omega arith)
least_after (suc (suc (suc (suc (suc zero))))) few = (omega arith, omega arith)
least_after (suc (suc (suc (suc (suc (suc zero)))))) few = (omega arith, omega arith)
least_after (suc (suc (suc (suc (suc (suc (suc zero))))))) few = (omega arith, omega arith)
least_after (suc (suc (suc (suc (suc (suc (suc (suc zero)))))))) few = (omega arith, omega arith)
least_after (suc (suc (suc (suc (suc (suc (suc (suc (suc tries))))))))) few = absurd (omega arith)

least_chance : (r : Rec) (now : ℕ) → 386590 ≤ chance r now
least_chance r now =
    let least = least_after (min r.attempts 8) (omega arith) in
    elim (nat_lt now (r.last_try + 600)) as (λ recent. 386590 ≤ (if recent then chance_after (min r.attempts 8) / 100 else chance_after (min r.attempts 8)))
    [ true ↦ least.0 | false ↦ least.1 ]

-- the factor after some refusals
abbrev factor_after : ℕ → ℕ
factor_after zero = first_factor
factor_after (suc refused) = next_factor (factor_after refused)

after_all : factor_after 44 ≡ 3272462624709
after_all = refl

-- after 44 refusals each word accepts each record
accepts : (r : Rec) (now word : ℕ) → is_accepted r now (factor_after 44) word ≡ true
accepts r now word =
    lt-ltb ((word % 2 ^ 30) * 2 ^ 30) (chance r now * factor_after 44)
    (let low = mod_below word (2 ^ 30) (omega arith) in
    let high = mul-le 386590 3272462624709 (chance r now) (factor_after 44) (least_chance r now) (omega (arith, after_all)) in
    omega arith)

-- a search that has refused some records refuses at most 44 in all
bounded : (now refused : ℕ) (ms : List (Rec × ℕ)) → refused ≤ 44 → first_accepted now (factor_after refused) ms ≡ Exhausted → length ms + refused ≤ 44
bounded now refused [] few is = omega arith
bounded now refused (m ∷ ms) few is = by (is_accepted m.0 now (factor_after refused) m.1) refl is (bounded now (suc refused) ms)
  where
    by : (accepted : Bool) → is_accepted m.0 now (factor_after refused) m.1 ≡ accepted
        → (if accepted then One m.0.peer m.0.last_try else first_accepted now (next_factor (factor_after refused)) ms) ≡ Exhausted
        → (suc refused ≤ 44 → first_accepted now (next_factor (factor_after refused)) ms ≡ Exhausted → length ms + suc refused ≤ 44) → suc (length ms) + refused ≤ 44
    by true h is more = let apart : One m.0.peer m.0.last_try ≡ Exhausted = is in absurd (cc)
    by false h is more =
        let below : refused < 44 = ⊎_elim
        (λ (all : refused ≡ 44). absurd (both_ways (is_accepted m.0 now (factor_after refused) m.1) h (subst (λ k. is_accepted m.0 now (factor_after k) m.1 ≡ true) (sym all) (accepts m.0 now m.1))))
        (λ other. ⊎_elim (λ (low : refused < 44). low) (λ (high : 44 < refused). absurd (omega arith)) other) (cases_order refused 44) in
        let rest = more (omega arith) is in omega arith

pub few_refusals : (now : ℕ) (ms : List (Rec × ℕ)) → first_accepted now first_factor ms ≡ Exhausted → length ms ≤ 44
few_refusals now ms is = let few = bounded now 0 ms (omega arith) is in omega arith
