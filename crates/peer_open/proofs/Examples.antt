-- Worked examples of the definitions, each computed.
use Rattle.std.specs.Prelude.{◌≡◌, ℕ, List, [], ◌∷◌, true, false, refl}
use Rattle.net_addr.specs.OldForm.{address}
use Rattle.net_addr.specs.Same.{same_address}
use Rattle.net_addr.specs.declared.net.Net.TheVariants.{Ipv4}
use Rattle.net_addr.specs.declared.peer.Peer.{Peer}
use Rattle.peer_open.specs.Groups.{Outbound, groups, has_group, is_open, with_peer, without_peer}
use Rattle.peer_open.specs.Verdicts.{judge, judge_feeler}
use Rattle.peer_open.specs.declared.outbound.Verdict.TheVariants.{Take, SameGroup, Recent}

abbrev peer : ℕ → ℕ → Peer
peer first port = record { addr = address Ipv4 (first ∷ 8 ∷ 8 ∷ 8 ∷ []); port = port }

-- the group of such a peer without an asmap: its network, and the first two bytes
abbrev group : ℕ → List ℕ
group first = 1 ∷ first ∷ 8 ∷ []

-- three peers of IPv4, opened in this order
abbrev three : List Outbound
three = with_peer (peer 9 8333) (group 9) (with_peer (peer 7 8333) (group 7) (with_peer (peer 8 8333) (group 8) []))

last_in_the_order : groups three ≡ group 8 ∷ group 7 ∷ group 9 ∷ []
last_in_the_order = refl

-- one more peer of IPv4, in a group of its own
other_group : judge three (group 6) 0 1000 1 ≡ Take
other_group = refl

same_group : judge three (group 7) 0 1000 1 ≡ SameGroup
same_group = refl

-- a group counts before a recent try
same_group_first : judge three (group 7) 1000 1000 1 ≡ SameGroup
same_group_first = refl

-- and in late tries too
same_group_later : judge three (group 7) 0 1000 100 ≡ SameGroup
same_group_later = refl

-- 599 and 600 seconds
recent : judge three (group 6) 401 1000 30 ≡ Recent
recent = refl

not_recent : judge three (group 6) 400 1000 30 ≡ Take
not_recent = refl

-- tries 30 and 31
early : judge [] (group 6) 1000 1000 30 ≡ Recent
early = refl

late : judge [] (group 6) 1000 1000 31 ≡ Take
late = refl

-- a try that is ahead of the clock
ahead : judge [] (group 6) 2000 1000 30 ≡ Recent
ahead = refl

feeler : judge_feeler 401 1000 30 ≡ Recent
feeler = refl

late_feeler : judge_feeler 401 1000 31 ≡ Take
late_feeler = refl

-- closed from the middle: the others stay in their order, and its group is free again
from_the_middle : groups (without_peer (peer 7 8333) three) ≡ group 8 ∷ group 9 ∷ []
unfolding same_address
from_the_middle = refl

group_free : has_group (group 7) (without_peer (peer 7 8333) three) ≡ false
unfolding same_address
group_free = refl

-- another port is another peer
other_port : is_open (peer 7 8334) three ≡ false
unfolding same_address
other_port = refl

open_one : is_open (peer 7 8333) three ≡ true
unfolding same_address
open_one = refl
