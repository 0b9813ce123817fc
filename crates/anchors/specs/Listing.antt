-- The text that lists anchors, a line each.
use Rattle.std.specs.Prelude.{ℕ, List, ◌++◌, length, codes, decimal}
use Rattle.std.specs.List.{flat_map, enumerate_from}
use Rattle.net_addr.specs.Text.{peer_text}
use Rattle.net_addr.specs.declared.peer.Entry.{Entry}

-- an anchor and its index: the peer, when it was last seen, and which services it offers
abbrev pub anchor_line : ℕ → Entry → List ℕ
anchor_line i e =
    codes "anchor " ++ decimal i ++ codes " " ++ peer_text e.peer ++ codes " time "
    ++ decimal e.time ++ codes " services " ++ decimal e.services ++ codes "\n"

-- the number of anchors, and the anchors, counted from 0
abbrev pub anchors_text : List Entry → List ℕ
anchors_text es =
    codes "anchors " ++ decimal (length es) ++ codes "\n"
    ++ flat_map (λ p. anchor_line p.0 p.1) (enumerate_from 0 es)
