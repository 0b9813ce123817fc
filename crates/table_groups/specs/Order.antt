-- Which groups come first.
use Rattle.std.specs.Prelude.{List, [], ◌∷◌, Bool, fold, if◌then◌else◌}
use Rattle.std.specs.Cmp.Lexicographic.{slice_cmp}
use Rattle.std.specs.Ordering.{is_lt, nat_cmp, ordering_then}
use Rattle.std.specs.declared.cmp.Ordering.{Ordering}
use Rattle.table_groups.specs.declared.ranked_groups.Counted.{Counted}

-- the one with more slots comes first, and of two with as many the one with the lower bytes
abbrev pub rank_cmp : Counted → Counted → Ordering
rank_cmp a b =
    ordering_then (nat_cmp b.slots a.slots) (slice_cmp nat_cmp a.group.items b.group.items)

-- The group comes before another one.
abbrev pub comes_before : Counted → Counted → Bool
comes_before a b = is_lt (rank_cmp a b)

-- one group more, in an order by `comes_before`
abbrev pub placed : Counted → List Counted → List Counted
placed c [] = c ∷ []
placed c (d ∷ ds) = if comes_before c d then c ∷ d ∷ ds else d ∷ placed c ds

-- Groups in order: those with the most slots first.
abbrev pub in_order : List Counted → List Counted
in_order cs = fold (λ ds c. placed c ds) [] cs
