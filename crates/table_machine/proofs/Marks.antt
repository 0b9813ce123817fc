-- The states after a try, a connection and new services of a peer are sound.
use Rattle.std.proofs.Common.{◌≡◌, ℕ, ◌+◌, ◌<◌, ◌^◌, min, Bool, true, false, ◌&&◌, nat_lt, Option, Some, None, refl, arith, if◌then◌else◌}
use Rattle.std.proofs.lemmas.List.Elements.{All-contains}
use Rattle.net_addr.specs.declared.peer.Peer.{Peer}
use Rattle.peer_rec.specs.Rec.{IsRec}
use Rattle.peer_rec.specs.declared.rec.Rec.{Rec}
use Rattle.table_machine.specs.State.{State, find_peer}
use Rattle.table_machine.specs.Sound.{IsSound}
use Rattle.table_machine.specs.Tried.{after_try, attempt, connected, mark, set_services, still_connected, with_services}
use Rattle.table_machine.proofs.Added.{mark-sound}
use Rattle.table_machine.proofs.Fields.{IsRec-with}
use Rattle.table_machine.proofs.Records.{peer_found}

-- a change of a record, except for its number, peer and place
pub record IsMark (change : Rec → Rec) : Type 0 where
  pub number : (r : Rec) → (change r).number ≡ r.number
  pub peer : (r : Rec) → (change r).peer ≡ r.peer
  pub place : (r : Rec) → (change r).place ≡ r.place

-- if each record fits after the change, the state stays sound
marked-sound : (change : Rec → Rec) (st : State) (peer : Peer) → IsMark change → ((r : Rec) → IsRec r → IsRec (change r)) → IsSound st
    → IsSound (mark change st (find_peer st peer)).state
marked-sound change st peer is fits sound = by (find_peer st peer) refl
  where
    by : (o : Option Rec) → find_peer st peer ≡ o → IsSound (mark change st o).state
    by None missing = sound
    by (Some r) found =
        let has = (peer_found st.records peer r found).0 in
        mark-sound st r (change r) sound has (is.number r) (is.peer r) (is.place r) (fits r (All-contains IsRec st.records r sound.records has))

-- a failed try, and one that is not counted
abbrev failed : ℕ → Rec → Rec
failed now r = record r { last_try = now; last_count = now; attempts = min (r.attempts + 1) 2147483647 }

abbrev tried : ℕ → Rec → Rec
tried now r = record r { last_try = now }

failed-fits : (now : ℕ) (r : Rec) → now < 2 ^ 32 → IsRec r → IsRec (failed now r)
failed-fits now r low is =
    IsRec-with r _ _ _ _ _ _ _ is is.time is.services is.last_success low low (omega arith) is.place

tried-fits : (now : ℕ) (r : Rec) → now < 2 ^ 32 → IsRec r → IsRec (tried now r)
tried-fits now r low is =
    IsRec-with r _ _ _ _ _ _ _ is is.time is.services is.last_success low is.last_count is.attempts is.place

try-fits : (last_good now : ℕ) (counted : Bool) → now < 2 ^ 32 → (r : Rec) → IsRec r → IsRec (after_try last_good now counted r)
try-fits last_good now counted low r is =
    elim (counted && nat_lt r.last_count last_good) as (λ b. IsRec (if b then failed now r else tried now r)) [
      | true ↦ failed-fits now r low is
      | false ↦ tried-fits now r low is
    ]

pub try-marks : (last_good now : ℕ) (counted : Bool) → IsMark (after_try last_good now counted)
try-marks last_good now counted = record {
  number = λ r. elim (counted && nat_lt r.last_count last_good) as (λ b. (if b then failed now r else tried now r).number ≡ r.number) [ true ↦ refl | false ↦ refl ];
  peer = λ r. elim (counted && nat_lt r.last_count last_good) as (λ b. (if b then failed now r else tried now r).peer ≡ r.peer) [ true ↦ refl | false ↦ refl ];
  place = λ r. elim (counted && nat_lt r.last_count last_good) as (λ b. (if b then failed now r else tried now r).place ≡ r.place) [ true ↦ refl | false ↦ refl ];
}

-- a record of a peer that was seen now
abbrev seen : ℕ → Rec → Rec
seen now r = record r { time = now }

seen-fits : (now : ℕ) (r : Rec) → now < 2 ^ 32 → IsRec r → IsRec (seen now r)
seen-fits now r low is =
    IsRec-with r _ _ _ _ _ _ _ is low is.services is.last_success is.last_try is.last_count is.attempts is.place

connected-fits : (now : ℕ) → now < 2 ^ 32 → (r : Rec) → IsRec r → IsRec (still_connected now r)
connected-fits now low r is = elim (nat_lt (r.time + 1200) now) as (λ b. IsRec (if b then seen now r else r)) [ true ↦ seen-fits now r low is | false ↦ is ]

pub connected-marks : (now : ℕ) → IsMark (still_connected now)
connected-marks now = record {
  number = λ r. elim (nat_lt (r.time + 1200) now) as (λ b. (if b then seen now r else r).number ≡ r.number) [ true ↦ refl | false ↦ refl ];
  peer = λ r. elim (nat_lt (r.time + 1200) now) as (λ b. (if b then seen now r else r).peer ≡ r.peer) [ true ↦ refl | false ↦ refl ];
  place = λ r. elim (nat_lt (r.time + 1200) now) as (λ b. (if b then seen now r else r).place ≡ r.place) [ true ↦ refl | false ↦ refl ];
}

services-fits : (services : ℕ) → services < 2 ^ 64 → (r : Rec) → IsRec r → IsRec (with_services services r)
services-fits services low r is =
    IsRec-with r _ _ _ _ _ _ _ is is.time low is.last_success is.last_try is.last_count is.attempts is.place

pub services-marks : (services : ℕ) → IsMark (with_services services)
services-marks services = record { number = λ r. refl; peer = λ r. refl; place = λ r. refl }

pub attempt-sound : (st : State) (now : ℕ) (peer : Peer) (counted : Bool) → IsSound st → now < 2 ^ 32 → IsSound (attempt st now peer counted).state
attempt-sound st now peer counted sound low =
    marked-sound (after_try st.last_good now counted) st peer (try-marks st.last_good now counted) (try-fits st.last_good now counted low) sound

pub connected-sound : (st : State) (now : ℕ) (peer : Peer) → IsSound st → now < 2 ^ 32 → IsSound (connected st now peer).state
connected-sound st now peer sound low = marked-sound (still_connected now) st peer (connected-marks now) (connected-fits now low) sound

pub services-sound : (st : State) (peer : Peer) (services : ℕ) → IsSound st → services < 2 ^ 64 → IsSound (set_services st peer services).state
services-sound st peer services sound low = marked-sound (with_services services) st peer (services-marks services) (services-fits services low) sound
