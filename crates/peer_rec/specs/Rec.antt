-- What a record says of its peer.
use Rattle.std.specs.Prelude.{ℕ, ◌+◌, ◌<◌, ◌≤◌, ◌*◌, ◌/◌, ◌^◌, min, if◌then◌else◌, List, [], length, Bool, true, false, ◌&&◌, ◌||◌, not, ◌==◌, nat_lt, nat_le, All}
use Rattle.std.specs.List.Sorted.{IsStrictlyIncreasing}
use Rattle.net_addr.specs.Address.{IsAddress}
use Rattle.net_addr.specs.Ranges.{is_routable}
use Rattle.net_addr.specs.declared.net.Net.{Net}
use Rattle.net_addr.specs.declared.net.Net.TheVariants.{Unroutable}
use Rattle.slot_grid.specs.declared.sizes.TheConstants.{NEW_BUCKETS}
use Rattle.peer_rec.specs.declared.buckets.TheConstants.{MAX_LISTS}
use Rattle.peer_rec.specs.declared.file_rec.TheConstants.{MAX_ATTEMPTS}
use Rattle.peer_rec.specs.declared.rec.Rec.{Rec}
use Rattle.peer_rec.specs.declared.place.Place.{Place}
use Rattle.peer_rec.specs.declared.place.Place.TheVariants.{New, Tried}

-- The buckets of the new table that a place has; none if it is in the tried table.
abbrev pub buckets_by : Place → List ℕ
buckets_by (New buckets) = buckets
buckets_by Tried = []

-- the buckets of the new table that list the record
abbrev pub buckets_of : Rec → List ℕ
buckets_of r = buckets_by r.place

-- The place is in the tried table.
abbrev pub tried_by : Place → Bool
tried_by (New buckets) = false
tried_by Tried = true

-- The record is in the tried table.
abbrev pub is_tried : Rec → Bool
is_tried r = tried_by r.place

-- the network of the record's address; `Unroutable` if that is not routable
abbrev pub network : Rec → Net
network r = if is_routable r.peer.addr then r.peer.addr.net else Unroutable

-- some buckets of the new table, at most `MAX_LISTS`, which rise
pub record AreBuckets (buckets : List ℕ) : Type 0 where
  pub some : 0 < length buckets
  pub most : length buckets ≤ MAX_LISTS
  pub below : All (λ b. b < NEW_BUCKETS) buckets
  pub rising : IsStrictlyIncreasing buckets

-- The place is one that a record can have.
abbrev pub IsPlace : Place → Type 0
IsPlace (New buckets) = AreBuckets buckets
IsPlace Tried = Unit {0}

-- what fits the fields of a record
pub record IsRec (r : Rec) : Type 0 where
  pub addr : IsAddress r.peer.addr
  pub port : r.peer.port < 2 ^ 16
  pub source : IsAddress r.source
  pub time : r.time < 2 ^ 32
  pub services : r.services < 2 ^ 64
  pub last_success : r.last_success < 2 ^ 32
  pub last_try : r.last_try < 2 ^ 32
  pub last_count : r.last_count < 2 ^ 32
  pub attempts : r.attempts ≤ MAX_ATTEMPTS
  pub place : IsPlace r.place

-- A record that is not worth keeping (`AddrInfo::IsTerrible`): never one tried in the last minute
-- or ahead of the clock, but one seen more than ten minutes ahead, one not seen for more than
-- thirty days, one that failed three times or more and never succeeded, and one that failed ten
-- times or more with no success for more than a week.
abbrev pub is_terrible : Rec → ℕ → Bool
is_terrible r now =
    not (nat_le now (r.last_try + 60)) && (
    nat_lt (now + 600) r.time ||
    nat_lt (r.time + 2592000) now ||
    (r.last_success == 0 && nat_le 3 r.attempts) ||
    (nat_lt (r.last_success + 604800) now && nat_le 10 r.attempts))

-- How likely a record is to be picked (`AddrInfo::GetChance`), here in parts of 2^30: 66 in 100 to
-- the power of the tries since the last success, of which eight count at most, rounded down once;
-- and of that a hundredth, rounded down again, for one tried less than ten minutes ago.
abbrev pub chance : Rec → ℕ → ℕ
chance r now =
    let tries = min r.attempts 8 in
    let parts = (2 ^ 30 * 66 ^ tries) / 100 ^ tries in
    if nat_lt now (r.last_try + 600) then parts / 100 else parts

-- the factor that a search multiplies chances with grows by a fifth after each record that it
-- refuses (`AddrManImpl::Select_`)
abbrev pub next_factor : ℕ → ℕ
next_factor factor = min (factor + factor / 5) (2 ^ 60)
