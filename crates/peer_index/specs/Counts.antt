-- How many records of each table are of some networks.
use Rattle.std.specs.Prelude.{ℕ, List, count_by, ◌&&◌, not}
use Rattle.net_addr.specs.NetSet.{has}
use Rattle.peer_rec.specs.Rec.{is_tried, network}
use Rattle.peer_rec.specs.declared.rec.Rec.{Rec}

-- The number of records of the new table whose network is in the set.
abbrev pub count_new : List ℕ → List Rec → ℕ
count_new nets rs = count_by (λ r. not (is_tried r) && has nets (network r)) rs

-- The number of records of the tried table whose network is in the set.
abbrev pub count_tried : List ℕ → List Rec → ℕ
count_tried nets rs = count_by (λ r. is_tried r && has nets (network r)) rs
