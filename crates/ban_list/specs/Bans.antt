-- A list of bans, and what is done with it.
use Rattle.std.specs.Prelude.{◌≡◌, ℕ, ◌≤◌, ◌==◌, Bool, false, ◌&&◌, not, nat_lt, nat_le, List, [], ◌∷◌, All, AllPairs, Option, Some, None, filter, find, length, if◌then◌else◌}
use Rattle.net_addr.specs.Address.{Address}
use Rattle.net_addr.specs.Same.{same_address}
use Rattle.ban_list.specs.Subnet.{IsProper, covers}
use Rattle.ban_list.specs.declared.subnet.Subnet.{Subnet}
use Rattle.ban_list.specs.declared.ban.Ban.{Ban}
use Rattle.ban_list.specs.declared.ban.BanRule.{BanRule}
use Rattle.ban_list.specs.declared.ban.BanRule.TheVariants.{Labels, Names}
use Rattle.ban_list.specs.declared.bans.BanReply.{BanReply}
use Rattle.ban_list.specs.declared.bans.BanReply.TheVariants.{Added, Kept, Full}
use Rattle.ban_list.specs.declared.bans.TheConstants.{MAX_BANS}

-- the two are one subnet: what `==` computes
abbrev pub same_subnet : Subnet → Subnet → Bool
same_subnet s t = same_address s.addr t.addr && s.len == t.len

-- the ban is of the subnet
abbrev pub is_of : Subnet → Ban → Bool
is_of subnet ban = same_subnet ban.subnet subnet

-- the ban covers the address and is not over
abbrev pub stops : Address → ℕ → Ban → Bool
stops addr now ban = covers ban.subnet addr && nat_lt now ban.until

-- the bans of a list: each of a proper subnet, no two of one, and no more than a list has
pub record AreBans (bans : List Ban) : Type 0 where
  pub proper : All (λ ban. IsProper ban.subnet) bans
  pub distinct : AllPairs (λ a b. is_of b.subnet a ≡ false) bans
  pub few : length bans ≤ MAX_BANS

-- The ban of a subnet between these two times.
abbrev pub ban_of : Subnet → ℕ → ℕ → Ban
ban_of subnet created until = record { subnet = subnet; created = created; until = until }

-- the ban of a subnet
abbrev pub listed : Subnet → List Ban → Option Ban
listed subnet bans = find (is_of subnet) bans

-- the ban is not over: it is over at its end, or by Bitcoin Core's rule after it
-- (`BanMan::SweepBanned` in banman.cpp)
abbrev pub lasts : BanRule → ℕ → Ban → Bool
lasts Labels now ban = nat_lt now ban.until
lasts Names now ban = nat_le now ban.until

-- the bans that are not over by a rule
abbrev pub current_by : BanRule → ℕ → List Ban → List Ban
current_by rule now bans = filter (lasts rule now) bans

-- the bans that are not over
abbrev pub current : ℕ → List Ban → List Ban
current now bans = current_by Labels now bans

-- the bans of other subnets
abbrev pub without_ban : Subnet → List Ban → List Ban
without_ban subnet bans = filter (λ ban. not (is_of subnet ban)) bans

-- the ban in the place of the ban of its subnet, or last if there is none
unfoldable pub put : Ban → List Ban → List Ban
put new [] = new ∷ []
put new (ban ∷ bans) = if is_of new.subnet ban then new ∷ bans else ban ∷ put new bans

-- a reply and the list after it
pub record Outcome : Type 0 where
  pub reply : BanReply
  pub bans : List Ban

-- What a new ban does to the list, by the ban of its subnet that is listed: a ban that ends later
-- replaces it, and a full list takes no other subnet.
abbrev pub outcome_by : Option Ban → Ban → List Ban → Outcome
outcome_by (Some old) new bans =
    if nat_le new.until old.until then record { reply = Kept; bans = bans }
    else record { reply = Added; bans = put new bans }
outcome_by None new bans =
    if nat_le MAX_BANS (length bans) then record { reply = Full; bans = bans }
    else record { reply = Added; bans = put new bans }

-- a ban besides those that are not over: the answer is `Kept` if its subnet is listed until that
-- time or later, and `Full` if it is not listed and there is no room
abbrev pub reply_outcome : Ban → List Ban → Outcome
reply_outcome new bans = outcome_by (listed new.subnet bans) new bans

-- the bans that are over by a rule are dropped first
abbrev pub after_ban_by : BanRule → Ban → List Ban → Outcome
after_ban_by rule new bans = reply_outcome new (current_by rule new.created bans)

-- the bans that are over are dropped first
abbrev pub after_ban : Ban → List Ban → Outcome
after_ban new bans = after_ban_by Labels new bans
