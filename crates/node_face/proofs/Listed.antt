-- A ban of a list is of a proper subnet.
use Rattle.std.proofs.Common.{◌≡◌, ℕ, Some, slice_get, subst}
use Rattle.std.proofs.lemmas.List.Elements.{All-get_or}
use Rattle.std.proofs.lemmas.Option.{slice_get_within, get_or_from_slice_get}
use Rattle.std.specs.Prelude.{List}
use Rattle.ban_list.specs.Subnet.{IsProper}
use Rattle.ban_list.specs.Bans.{AreBans}
use Rattle.ban_list.specs.declared.ban.Ban.{Ban}

pub listed_proper : (bans : List Ban) (i : ℕ) (ban : Ban) → AreBans bans → slice_get bans i ≡ Some ban → IsProper ban.subnet
listed_proper bans i ban are at =
    subst (λ b. IsProper b.subnet) (get_or_from_slice_get bans i ban ban at)
    (All-get_or (λ b. IsProper b.subnet) bans i ban (slice_get_within bans i ban at) are.proper)
