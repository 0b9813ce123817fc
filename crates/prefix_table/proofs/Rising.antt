-- Rows in their order, by recursion.
use Rattle.std.proofs.Common.{zero, suc, Bool, true, false, List, [], ◌∷◌, filter, cond, get_or, subst, arith, Contains}
use Rattle.std.specs.Prelude.{AllPairs}
use Rattle.std.proofs.lemmas.List.Elements.{Contains-get_or}
use Rattle.prefix_table.specs.declared.rows.Row.{Row}
use Rattle.prefix_table.specs.Rows.{Precedes}
use Rattle.prefix_table.proofs.Items.{filter_item}

-- each row precedes all after it
unfoldable pub Rises : List Row → Type 0
Rises [] = Unit {0}
Rises (x ∷ xs) = ((y : Row) → Contains xs y → Precedes x y) × Rises xs

pub rises_from : (xs : List Row) → AllPairs Precedes xs → Rises xs
unfolding Rises
rises_from [] h = tt
rises_from (x ∷ xs) h = (
  λ y has. subst (Precedes x) has.2 (h 0 (suc has.0) y (omega arith) (omega (arith, has.1))),
  rises_from xs (λ i j d low high. h (suc i) (suc j) d (omega arith) (omega arith)),
)

pub pairs_from : (xs : List Row) → Rises xs → AllPairs Precedes xs
unfolding Rises
pairs_from [] h i j d low high = absurd (omega arith)
pairs_from (x ∷ xs) h zero zero d low high = absurd (omega arith)
pairs_from (x ∷ xs) h zero (suc j) d low high = h.0 (get_or xs j d) (Contains-get_or xs j d (omega arith))
pairs_from (x ∷ xs) h (suc i) zero d low high = absurd (omega arith)
pairs_from (x ∷ xs) h (suc i) (suc j) d low high = pairs_from xs h.1 i j d (omega arith) (omega arith)

rises_by : (p : Row → Bool) (x : Row) (xs : List Row) (b : Bool) → ((y : Row) → Contains xs y → Precedes x y) → Rises (filter p xs) → Rises (cond b (x ∷ filter p xs) (filter p xs))
unfolding Rises
rises_by p x xs true first rest = (λ y has. first y (filter_item p xs y has).0, rest)
rises_by p x xs false first rest = rest

rises_filter : (p : Row → Bool) (xs : List Row) → Rises xs → Rises (filter p xs)
unfolding Rises
rises_filter p [] h = tt
rises_filter p (x ∷ xs) h = rises_by p x xs (p x) h.0 (rises_filter p xs h.1)

-- what a filter leaves still rises
pub pairs_filter : (p : Row → Bool) (xs : List Row) → AllPairs Precedes xs → AllPairs Precedes (filter p xs)
pairs_filter p xs h = pairs_from (filter p xs) (rises_filter p xs (rises_from xs h))
