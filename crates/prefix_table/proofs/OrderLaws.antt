-- The order of the rows.
use Rattle.std.proofs.Common.{◌≡◌, ◌⊎◌, ℕ, ◌-◌, ◌<◌, ◌≤◌, true, false, List, length, get_or, ◌∙◌, ap, sym, subst, arith, inl, inr}
use Rattle.std.specs.Prelude.{AllPairs, Contains, nat_lt, nat_le, nat_eq, ◌&&◌, ◌||◌}
use Rattle.std.specs.List.Sorted.{IsPartitionedBy, IsPartitionPoint}
use Rattle.std.proofs.Math.Nat.{eq-or-lt_of_le}
use Rattle.std.proofs.lemmas.Bool.{cases_lt, false≢true}
use Rattle.std.proofs.lemmas.List.{get_or_default}
use Rattle.std.proofs.lemmas.Bool.Decides.{nat_tests}
use Rattle.prefix_table.specs.Rows.{Precedes}
use Rattle.prefix_table.specs.Inside.{is_up_to}
use Rattle.prefix_table.specs.declared.rows.Row.{Row}

-- a row before one that is up to these bits and this length is so too
up_to_before : (ab al bb bl bits len : ℕ) → (ab < bb) ⊎ ((ab ≡ bb) × (al < bl)) → nat_lt bb bits || (nat_eq bb bits && nat_le bl len) ≡ true → nat_lt ab bits || (nat_eq ab bits && nat_le al len) ≡ true
up_to_before ab al bb bl bits len before up_to = grind (arith, nat_tests)

pub partitioned : (rows : List Row) (bits len : ℕ) → AllPairs Precedes rows → IsPartitionedBy (is_up_to bits len) rows
partitioned rows bits len rising i j d ij within up_to = elim (eq-or-lt_of_le ij) [
  | inl e ↦ ap (λ k. is_up_to bits len (get_or rows k d)) e ∙ up_to
  | inr before ↦
      let a = get_or rows i d in
      let b = get_or rows j d in
      up_to_before a.bits a.len b.bits b.len bits len (rising i j d before within) up_to
]

-- a row that is up to these bits and this length is not after the last of those
pub not_after_last : (rows : List Row) (bits len count : ℕ) (d : Row) → AllPairs Precedes rows → IsPartitionPoint (λ row. is_up_to bits len row ≡ true) (λ row. is_up_to bits len row ≡ false) rows count → 0 < count → count ≤ length rows → (other : Row) → Contains rows other → is_up_to bits len other ≡ true → (other ≡ get_or rows (count - 1) d) ⊎ Precedes other (get_or rows (count - 1) d)
not_after_last rows bits len count d rising point some bound other (k, within, is) up_to =
    let at_k : get_or rows k d ≡ other = get_or_default rows k d other within ∙ is in
    elim (cases_lt k count) [
      | inl early ↦
          let near : k ≤ count - 1 = omega arith in
          elim (eq-or-lt_of_le near) [
            | inl e ↦ inl (sym at_k ∙ ap (λ i. get_or rows i d) e)
            | inr before ↦
                inr (subst (λ (row : Row). Precedes row (get_or rows (count - 1) d)) at_k (rising k (count - 1) d before (omega arith)))
          ]
      | inr late ↦ absurd (false≢true (sym (point.1 k other late within) ∙ ap (is_up_to bits len) is ∙ up_to))
    ]
