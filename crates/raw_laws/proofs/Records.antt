-- What is printed of a record says it.
use Rattle.std.proofs.Common.{◌==◌, ℕ, Bool, true, false, List, [], ◌∷◌, ◌++◌, codes, refl, arith}
use Rattle.std.specs.Prelude.{if◌then◌else◌}
use Rattle.json.specs.Json.{string}
use Rattle.names.specs.Name.{name_text}
use Rattle.node_json.specs.Raw.{class_name, record_members}
use Rattle.node_json.specs.Value.{Member, json_number, object_of}
use Rattle.peer_rec.specs.declared.rec.Rec.{Rec}
use Rattle.placing.specs.Places.{Places, asn}
use Rattle.raw_read.specs.Fields.{IsRec}
use Rattle.raw_laws.specs.Printed.{IsPrintable, printed_rec}
use Rattle.raw_laws.proofs.Addresses.{name_rereads}

-- the members with or without the AS numbers
abbrev members_by : Bool → Bool → ℕ → ℕ → Rec → List Member
members_by unmapped lone n m r =
    (codes "address", string (name_text r.peer.addr)) ∷ []
    ++ (if unmapped then [] else (codes "mapped_as", json_number n) ∷ [])
    ++ (codes "port", json_number r.peer.port) ∷ (codes "services", json_number r.services)
    ∷ (codes "time", json_number r.time) ∷ (codes "network", string (class_name r.peer.addr)) ∷ []
    ++ (codes "source", string (name_text r.source))
    ∷ (codes "source_network", string (class_name r.source)) ∷ []
    ++ (if lone then [] else (codes "source_mapped_as", json_number m) ∷ [])

rec_by : (unmapped lone : Bool) (n m : ℕ) (r : Rec) → IsPrintable r → IsRec (object_of (members_by unmapped lone n m r)) (printed_rec r)
rec_by true true n m r h = record {
  address = record { text = name_text r.peer.addr; found = refl; named = name_rereads r.peer.addr h.addr };
  port = record { below = omega (arith, h.port); digits = refl };
  services = record { below = omega (arith, h.services); digits = refl };
  time = record { below = omega (arith, h.time); digits = refl };
  source = record { text = name_text r.source; found = refl; named = name_rereads r.source h.source };
  last_success = refl;
  attempts = refl;
}
rec_by true false n m r h = record {
  address = record { text = name_text r.peer.addr; found = refl; named = name_rereads r.peer.addr h.addr };
  port = record { below = omega (arith, h.port); digits = refl };
  services = record { below = omega (arith, h.services); digits = refl };
  time = record { below = omega (arith, h.time); digits = refl };
  source = record { text = name_text r.source; found = refl; named = name_rereads r.source h.source };
  last_success = refl;
  attempts = refl;
}
rec_by false true n m r h = record {
  address = record { text = name_text r.peer.addr; found = refl; named = name_rereads r.peer.addr h.addr };
  port = record { below = omega (arith, h.port); digits = refl };
  services = record { below = omega (arith, h.services); digits = refl };
  time = record { below = omega (arith, h.time); digits = refl };
  source = record { text = name_text r.source; found = refl; named = name_rereads r.source h.source };
  last_success = refl;
  attempts = refl;
}
rec_by false false n m r h = record {
  address = record { text = name_text r.peer.addr; found = refl; named = name_rereads r.peer.addr h.addr };
  port = record { below = omega (arith, h.port); digits = refl };
  services = record { below = omega (arith, h.services); digits = refl };
  time = record { below = omega (arith, h.time); digits = refl };
  source = record { text = name_text r.source; found = refl; named = name_rereads r.source h.source };
  last_success = refl;
  attempts = refl;
}

pub rec_is : (places : Places) (r : Rec) → IsPrintable r → IsRec (object_of (record_members places r)) (printed_rec r)
unfolding record_members
rec_is places r h =
    rec_by (asn places.map r.peer.addr == 0) (asn places.map r.source == 0) (asn places.map r.peer.addr) (asn places.map r.source) r h
