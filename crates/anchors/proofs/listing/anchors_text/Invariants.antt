use Rattle.std.proofs.Common.{◌≡◌, ◌++◌, length, take}
use Rattle.std.specs.Prelude.{codes, decimal}
use Rattle.std.specs.List.{flat_map, enumerate_from}
use Rattle.anchors.specs.Listing.{anchor_line}
use Rattle.anchors.proofs.listing.anchors_text.Given as goal

-- the first anchors are written
abbrev pub invariant-loop-index : goal.invariant-loop-index
invariant-loop-index l =
    l.text.items ≡ (codes "anchors " ++ decimal (length l.anchors) ++ codes "\n") ++ flat_map (λ p. anchor_line p.0 p.1) (enumerate_from 0 (take l.index l.anchors))
