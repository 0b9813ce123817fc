-- The word for each fault of an anchors.dat. What a fault carries is no part of its word.
use Rattle.std.specs.Prelude.{ℕ, List, codes}
use Rattle.anchors.specs.declared.fault.AnchorsFault.{AnchorsFault}
use Rattle.anchors.specs.declared.fault.AnchorsFault.TheVariants.{Truncated, BadMagic, BadSum, Count, TooMany, Anchor, Trailing, TooLarge, Memory}

-- The word of a fault.
abbrev pub anchors_fault_text : AnchorsFault → List ℕ
anchors_fault_text Truncated = codes "truncated"
anchors_fault_text BadMagic = codes "bad-magic"
anchors_fault_text BadSum = codes "bad-sum"
anchors_fault_text Count = codes "count"
anchors_fault_text (TooMany count) = codes "too-many"
anchors_fault_text (Anchor index cause) = codes "anchor"
anchors_fault_text Trailing = codes "trailing"
anchors_fault_text (TooLarge size) = codes "too-large"
anchors_fault_text Memory = codes "out of memory"
