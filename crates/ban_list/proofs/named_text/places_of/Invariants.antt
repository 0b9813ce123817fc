use Rattle.std.proofs.Common.{◌≡◌, take}
use Rattle.ban_list.specs.OldFile.{places_at, places_of}
use Rattle.ban_list.specs.declared.subnet.Subnet.{Subnet}
use Rattle.ban_list.proofs.named_text.places_of.Given as goal

-- the elements before this one
abbrev pub invariant-loop-i : goal.invariant-loop-i
invariant-loop-i l = (subnet : Subnet) → places_at l.places.entries subnet ≡ places_of subnet (take l.i l.subnets)
