-- What `listbanned` of Bitcoin Core returns (rpc/net.cpp): the bans that are not over.
use Rattle.std.specs.Prelude.{ℕ, ◌-◌, List, [], ◌∷◌, codes, map}
use Rattle.json.specs.Json.{Json, string}
use Rattle.ban_list.specs.Bans.{current_by}
use Rattle.ban_list.specs.SubnetText.{subnet_name}
use Rattle.ban_list.specs.declared.ban.Ban.{Ban}
use Rattle.ban_list.specs.declared.ban.BanRule.{BanRule}
use Rattle.node_json.specs.Value.{Member, array_of, json_number, object_of}

-- the members of a ban, in the order of `listbanned`
abbrev pub ban_members : ℕ → Ban → List Member
ban_members now ban =
    (codes "address", string (subnet_name ban.subnet))
    ∷ (codes "ban_created", json_number ban.created)
    ∷ (codes "banned_until", json_number ban.until)
    ∷ (codes "ban_duration", json_number (ban.until - ban.created))
    ∷ (codes "time_remaining", json_number (ban.until - now)) ∷ []

-- A ban as an object.
abbrev pub ban_json : ℕ → Ban → Json
ban_json now ban = object_of (ban_members now ban)

-- the bans that are not over by a rule, in the order of the list
unfoldable pub bans_json : BanRule → ℕ → List Ban → Json
bans_json rule now bans = array_of (map (ban_json now) (current_by rule now bans))
