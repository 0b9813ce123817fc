-- The sets that a picture marks.
use Rattle.std.proofs.Common.{zero, suc, ◌≤◌, All, List, [], ◌∷◌, length, arith}
use Rattle.std.specs.List.{flat_map}
use Rattle.std.specs.Prelude.{Option, Some, None}
use Rattle.arguments.specs.Table.{AreProperSets}
use Rattle.risk_parts.specs.Sets.{IsProperSet}
use Rattle.risk_parts.specs.declared.addr_set.AddrSet.{AddrSet}
use Rattle.addrman_run.specs.Picture.{in_option}

pub few_sets : (sets : List (Option AddrSet)) → length (flat_map in_option sets) ≤ length sets
few_sets [] = omega arith
few_sets (None ∷ sets) = let more : length (flat_map in_option sets) ≤ length sets = few_sets sets in omega (arith, more)
few_sets (Some set ∷ sets) = let more : length (flat_map in_option sets) ≤ length sets = few_sets sets in omega (arith, more)

pub proper_sets : (sets : List (Option AddrSet)) → AreProperSets sets → All IsProperSet (flat_map in_option sets)
proper_sets [] are = λ k d within. absurd (omega (arith, within))
proper_sets (None ∷ sets) are = proper_sets sets are
proper_sets (Some set ∷ sets) are = first-proper set (flat_map in_option sets) are.0 (proper_sets sets are.1)
  where
    first-proper : (set : AddrSet) (sets : List AddrSet) → IsProperSet set → All IsProperSet sets → All IsProperSet (set ∷ sets)
    first-proper set sets is are zero d within = is
    first-proper set sets is are (suc k) d within = are k d (omega (arith, within))
