-- The state after a success is sound.
use Rattle.std.proofs.Common.{◌≡◌, ℕ, ◌<◌, ◌^◌, Bool, true, false, ◌&&◌, length, nat_lt, Contains, is_some, IsSome, IfSome, Option, Some, None, refl, sym, subst, arith, if◌then◌else◌}
use Rattle.std.proofs.lemmas.Bool.{and_parts, ltb-true}
use Rattle.std.proofs.lemmas.List.Elements.{All-contains}
use Rattle.net_addr.specs.declared.peer.Peer.{Peer}
use Rattle.peer_rec.specs.Rec.{IsRec, is_tried}
use Rattle.peer_rec.specs.Buckets.{with_bucket}
use Rattle.peer_rec.specs.declared.rec.Rec.{Rec}
use Rattle.peer_rec.specs.declared.answers.Good.TheVariants.{Already, Clash, Moved}
use Rattle.table_machine.specs.State.{State, by_number, find_peer, tried_occupant, outcome}
use Rattle.table_machine.specs.Entries.{with_record}
use Rattle.table_machine.specs.Sound.{IsSound}
use Rattle.table_machine.specs.Tried.{after_success, good, good_by, good_known, move_to_tried, wait}
use Rattle.table_machine.proofs.Added.{mark-sound}
use Rattle.table_machine.proofs.Fields.{IsRec-with}
use Rattle.table_machine.proofs.Moved.{move-sound}
use Rattle.table_machine.proofs.Records.{changed_own, find-number, peer_found}
use Rattle.table_machine.proofs.Waiting.{last_good-sound, wait-sound}

-- the record of a peer that was reached now fits
after_success-fits : (r : Rec) (now : ℕ) → IsRec r → now < 2 ^ 32 → IsRec (after_success r now)
after_success-fits r now fits low =
    IsRec-with r _ _ _ _ _ _ _ fits fits.time fits.services low low fits.last_count (omega arith) fits.place

-- a record whose tried slot is occupied becomes a collision, if there are fewer than ten
pub waits-sound : (st : State) (r : Rec) → IsSound st → Contains st.records r → IsSome (tried_occupant st r.peer) → IsSound (wait st r.number)
waits-sound st r sound has occupied = by (nat_lt (length st.collisions) 10) refl
  where
    found : by_number st r.number ≡ Some r
    found = find-number st.records r sound.rising has

    by : (few : Bool) → nat_lt (length st.collisions) 10 ≡ few → IsSound (if few then record st { collisions = with_bucket r.number st.collisions } else st)
    by true few =
        wait-sound st r.number sound (ltb-true (length st.collisions) 10 few)
        (All-contains (λ q. q.number < st.next_number) st.records r sound.below_next has)
        (subst (λ o. IfSome o (λ q. IsSome (tried_occupant st q.peer))) (sym found) occupied)
    by false many = sound

-- a known peer was reached
good_known-sound : (st : State) (r : Rec) (testing : Bool) → IsSound st → Contains st.records r → IsSound (good_known st r testing).state
good_known-sound st r testing sound has = by (is_tried r) (testing && is_some (tried_occupant st r.peer)) refl refl
  where
    by : (tried blocked : Bool) → is_tried r ≡ tried → (testing && is_some (tried_occupant st r.peer)) ≡ blocked
        → IsSound (if tried then outcome Already st else if blocked then outcome Clash (wait st r.number) else outcome Moved (move_to_tried st r)).state
    by true blocked tried h = sound
    by false true untried h = waits-sound st r sound has (and_parts testing (is_some (tried_occupant st r.peer)) h).1
    by false false untried h = move-sound st r sound has untried

-- a peer was reached
pub good-sound : (st : State) (now : ℕ) (peer : Peer) (testing : Bool) → IsSound st → now < 2 ^ 32 → IsSound (good st now peer testing).state
good-sound st now peer testing sound fits = by (find_peer later peer) refl
  where
    later : State
    later = record st { last_good = now }

    sound_later : IsSound later
    sound_later = last_good-sound st now sound fits

    by : (o : Option Rec) → find_peer later peer ≡ o → IsSound (good_by o later now testing).state
    by None missing = sound_later
    by (Some r) found =
        let has = (peer_found later.records peer r found).0 in
        let s = after_success r now in
        good_known-sound (with_record later s) s testing
        (mark-sound later r s sound_later has refl refl refl (after_success-fits r now (All-contains IsRec later.records r sound_later.records has) fits))
        (changed_own s.number s later.records r has refl)
