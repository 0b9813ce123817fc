-- A record fits with other values of some fields if these values fit.
use Rattle.std.proofs.Common.{ℕ, ◌<◌, ◌≤◌, ◌^◌}
use Rattle.peer_rec.specs.Rec.{IsPlace, IsRec}
use Rattle.peer_rec.specs.declared.rec.Rec.{Rec}
use Rattle.peer_rec.specs.declared.place.Place.{Place}

pub IsRec-with : (r : Rec) (time services success try count attempts : ℕ) (place : Place) → IsRec r → time < 2 ^ 32 → services < 2 ^ 64
    → success < 2 ^ 32 → try < 2 ^ 32 → count < 2 ^ 32 → attempts ≤ 2147483647 → IsPlace place
    → IsRec (record r { time = time; services = services; last_success = success; last_try = try; last_count = count; attempts = attempts; place = place })
IsRec-with r time services success try count attempts place is time_fits services_fits success_fits try_fits count_fits few place_fits = record {
  addr = is.addr;
  port = is.port;
  source = is.source;
  time = time_fits;
  services = services_fits;
  last_success = success_fits;
  last_try = try_fits;
  last_count = count_fits;
  attempts = few;
  place = place_fits;
}
