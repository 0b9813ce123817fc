-- Whether rows rise, by a look at each row and the next one.
use Rattle.std.proofs.Common.{◌≡◌, ℕ, zero, suc, ◌+◌, ◌<◌, ◌≤◌, ◌⊎◌, true, List, length, get_or, inl, inr, sym, ◌∙◌, subst, arith, add-one}
use Rattle.std.specs.Prelude.{AllPairs, nat_lt, nat_eq, ◌&&◌, ◌||◌}
use Rattle.std.proofs.lemmas.Bool.Decides.{nat_tests}
use Rattle.std.proofs.Math.Nat.{eq-or-lt_of_le}
use Rattle.prefix_table.specs.Rows.{Precedes}
use Rattle.prefix_table.specs.Inside.{precedes}
use Rattle.prefix_table.specs.declared.rows.Row.{Row}

precedes_by : (ab al bb bl : ℕ) → nat_lt ab bb || (nat_eq ab bb && nat_lt al bl) ≡ true → (ab < bb) ⊎ ((ab ≡ bb) × (al < bl))
precedes_by ab al bb bl h = grind (arith, nat_tests)

along : (a b c : Row) → Precedes a b → Precedes b c → Precedes a c
along a b c (inl h) (inl k) = inl (omega arith)
along a b c (inl h) (inr k) = inl (omega (arith, k.0))
along a b c (inr h) (inl k) = inl (omega (arith, h.0))
along a b c (inr h) (inr k) = inr (h.0 ∙ k.0, omega (arith, h.1, k.1))

abbrev Adjacent : List Row → Type 0
Adjacent rows = (k : ℕ) (d : Row) → k + 1 < length rows → Precedes (get_or rows k d) (get_or rows (k + 1) d)

pairs : (rows : List Row) → Adjacent rows → AllPairs Precedes rows
pairs rows next i zero d low high = absurd (omega arith)
pairs rows next i (suc j) d low high =
    let near : i ≤ j = omega arith in
    let last : Precedes (get_or rows j d) (get_or rows (suc j) d) = subst (λ k. Precedes (get_or rows j d) (get_or rows k d)) (add-one j) (next j d (omega arith)) in
    elim (eq-or-lt_of_le near) [
      | inl e ↦ subst (λ k. Precedes (get_or rows k d) (get_or rows (suc j) d)) (sym e) last
      | inr less ↦ along (get_or rows i d) (get_or rows j d) (get_or rows (suc j) d) (pairs rows next i j d less (omega arith)) last
    ]

-- rows rise if each precedes the next
pub rise : (rows : List Row) → ((k : ℕ) (d : Row) → k + 1 < length rows → precedes (get_or rows k d) (get_or rows (k + 1) d) ≡ true) → AllPairs Precedes rows
rise rows next =
    pairs rows (λ k d low.
    let a = get_or rows k d in
    let b = get_or rows (k + 1) d in
    precedes_by a.bits a.len b.bits b.len (next k d low))
