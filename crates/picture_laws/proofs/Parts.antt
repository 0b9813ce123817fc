-- The slots of the listed groups and those of the others are all that are occupied.
use Rattle.std.proofs.Common.{◌≡◌, ℕ, ◌+◌, ◌≤◌, List, sym, ap, ◌∙◌, arith}
use Rattle.std.specs.Prelude.{Option, Some, None, bytes_eq, is_some}
use Rattle.std.specs.List.{count_by, range_with_len, sum_by}
use Rattle.peer_rec.specs.declared.rec.Rec.{Rec}
use Rattle.placing.specs.Places.{Places, group}
use Rattle.table_groups.specs.Slots.{is_of, new_slots, tried_slots}
use Rattle.table_groups.proofs.Once.{sum-both, sum-none, sum-turned}
use Rattle.table_groups.proofs.Visits.{one_if}
use Rattle.picture_laws.specs.Slots.{is_other}
use Rattle.picture_laws.proofs.Listed.{there-or-not}
use Rattle.table_groups.specs.View.{View}

module _ (places : Places) (gs : List (List ℕ)) (once : (g : List ℕ) → count_by (bytes_eq g) gs ≤ 1) where
  -- a record is of one of the groups, or another one
  one-of : (o : Option Rec) → sum_by (λ g. one_if (is_of places g o)) gs + one_if (is_other places gs o) ≡ one_if (is_some o)
  one-of None = omega (arith, sum-none gs)
  one-of (Some r) = there-or-not (bytes_eq (group places r.source)) gs (once (group places r.source))

  module _ (rec_at : ℕ → ℕ → Option Rec) (slots : List ℕ) where
    of-bucket : (b : ℕ) → sum_by (λ g. count_by (λ s. is_of places g (rec_at b s)) slots) gs + count_by (λ s. is_other places gs (rec_at b s)) slots ≡ count_by (λ s. is_some (rec_at b s)) slots
    of-bucket b =
        ap (λ (n : ℕ). n + count_by (λ s. is_other places gs (rec_at b s)) slots) (sum-turned (λ g s. one_if (is_of places g (rec_at b s))) gs slots)
        ∙ sym (sum-both (λ s. sum_by (λ g. one_if (is_of places g (rec_at b s))) gs) (λ s. one_if (is_other places gs (rec_at b s))) slots)
        ∙ (λ i. sum_by (λ s. one-of (rec_at b s) i) slots)

    of-table : (buckets : List ℕ) → sum_by (λ g. sum_by (λ b. count_by (λ s. is_of places g (rec_at b s)) slots) buckets) gs + sum_by (λ b. count_by (λ s. is_other places gs (rec_at b s)) slots) buckets
        ≡ sum_by (λ b. count_by (λ s. is_some (rec_at b s)) slots) buckets
    of-table buckets =
        ap (λ (n : ℕ). n + sum_by (λ b. count_by (λ s. is_other places gs (rec_at b s)) slots) buckets) (sum-turned (λ g b. count_by (λ s. is_of places g (rec_at b s)) slots) gs buckets)
        ∙ sym (sum-both (λ b. sum_by (λ g. count_by (λ s. is_of places g (rec_at b s)) slots) gs) (λ b. count_by (λ s. is_other places gs (rec_at b s)) slots) buckets)
        ∙ (λ i. sum_by (λ b. of-bucket b i) buckets)

  pub new-parts : (view : View) → sum_by (λ g. new_slots (is_of places g) view) gs + new_slots (is_other places gs) view ≡ new_slots is_some view
  unfolding new_slots
  new-parts view = of-table (view.new) (range_with_len 0 64) (range_with_len 0 1024)

  pub tried-parts : (view : View) → sum_by (λ g. tried_slots (is_of places g) view) gs + tried_slots (is_other places gs) view ≡ tried_slots is_some view
  unfolding tried_slots
  tried-parts view = of-table (view.tried) (range_with_len 0 64) (range_with_len 0 256)
