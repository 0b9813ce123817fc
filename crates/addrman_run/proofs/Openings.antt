-- How a replay opens its tables.
use Rattle.std.proofs.Common.{◌≡◌, ℕ, ◌+◌, ◌≤◌, List, [], ◌∷◌, length, Bool, true, false, refl, sym, ◌∙◌, subst, arith, inl, inr}
use Rattle.std.specs.Prelude.{Option, Some, None, Result, Ok, Err, IfOk, IfErr, MatchOption, if◌then◌else◌, not, ◌||◌, is_some}
use Rattle.std.specs.List.{range_with_len}
use Rattle.host_io.specs.Past.{Past}
use Rattle.host_io.specs.declared.name.Name.TheVariants as name
use Rattle.asmap_vm.specs.Asmap.{Asmap}
use Rattle.placing.specs.Places.{Places, new_bucket, new_slot}
use Rattle.net_addr.specs.Ranges.{is_valid}
use Rattle.peer_rec.specs.declared.place.Place.TheVariants.{Tried}
use Rattle.peer_rec.specs.Snapshot.{Snapshot}
use Rattle.peer_rec.specs.declared.rec.Rec.{Rec}
use Rattle.peer_rec.specs.declared.file_rec.FileRec.{FileRec}
use Rattle.peers_file.specs.Layout.{IsFile}
use Rattle.peers_file.specs.declared.chain.Chain.{Chain}
use Rattle.arguments.specs.declared.file_kind.FileKind.{FileKind}
use Rattle.table_machine.specs.State.{State, by_number, empty_state, new_rec_at, tried_occupant}
use Rattle.table_machine.specs.Entries.{with_last}
use Rattle.table_machine.specs.Restoring.{drop_all, drop_record, give_if_empty, give_or, place_all, place_pair, place_record, record_of, restored, uses_buckets, with_all_new, with_all_tried, with_new, with_tried}
use Rattle.addrman_run.specs.InFolder.{IsAbsent}
use Rattle.addrman_run.specs.Inside.{IsKeyless, IsLoaded, IsLoadFault, IsNoSnapshot, IsNotOpened, IsNotRestored, OpensWith}
use Rattle.addrman_run.specs.Log.{LogOutcome}
use Rattle.addrman_run.specs.Opening.{HasMap, IsUnopened, Opens}
use Rattle.addrman_run.specs.Opening.Opens.{from_file, from_key}
use Rattle.addrman_run.specs.declared.input.Input.TheVariants as input
use Rattle.addrman_run.specs.declared.peers_fault.PeersFault.TheVariants.{Duplicate, File}
use Rattle.addrman_run.specs.declared.status.Status.{Status}
use Rattle.addrman_run.specs.declared.status.Status.TheVariants.{AsmapRefused, DiskFault, Memory, NoKey, PeersRefused}
use Rattle.addrman_run.specs.Replay.{IsUntouched, NotOpened}
use Rattle.host_io.specs.Outside.{Outside}
use Rattle.log_run.specs.declared.run.LogEnd.{LogEnd}
use Rattle.addrman_run.proofs.Showing.{too_large}

-- ---- the number of the next record

-- either branch of a test
split : (b : Bool) (s t : State) (P : State → Type 0) → P s → P t → P (if b then s else t)
split true s t P p q = p
split false s t P p q = q

next_new : (st : State) (rs : List FileRec) → (with_all_new st rs).next_number ≡ st.next_number + length rs
next_new st [] = omega arith
next_new st (r ∷ rs) = omega (arith, next_new (with_new st r) rs)

next_tried : (st : State) (rs : List FileRec) → (with_all_tried st rs).next_number ≤ st.next_number + length rs
next_tried st [] = omega arith
next_tried st (r ∷ rs) = omega (arith, next_tried (with_tried st r) rs, one st r)
  where
    one : (st : State) (r : FileRec) → (with_tried st r).next_number ≤ st.next_number + 1
    one st r = split (not (is_valid r.peer.addr) || is_some (tried_occupant st r.peer)) st (with_last st (record_of r st.next_number Tried)) (λ s. s.next_number ≤ st.next_number + 1) (omega arith) (omega arith)

give_next : (st other : State) (r : Rec) (bucket n : ℕ) (o : Option Rec) → st.next_number ≡ n → other.next_number ≡ n
    → (give_or st r bucket o other).next_number ≡ n
give_next st other r bucket n None is same = is
give_next st other r bucket n (Some q) is same = same

give_empty_next : (st other : State) (r : Rec) (bucket n : ℕ) → st.next_number ≡ n → other.next_number ≡ n
    → (give_if_empty st r bucket other).next_number ≡ n
give_empty_next st other r bucket n is same = give_next st other r bucket n (new_rec_at st bucket (new_slot st.places r.peer bucket)) is same

place_next : (same : Bool) (st : State) (bucket : ℕ) (o : Option Rec) → (place_record same st bucket o).next_number ≡ st.next_number
place_next same st bucket None = refl
place_next same st bucket (Some r) =
    let n = st.next_number in
    let own = give_empty_next st st r (new_bucket st.places r.peer r.source) n refl refl in
    split _ _ _ (λ s. s.next_number ≡ n) refl
    (split same _ _ (λ s. s.next_number ≡ n) (give_empty_next st _ r bucket n refl own) own)

place_all_next : (same : Bool) (st : State) (pairs : List (ℕ × ℕ)) → (place_all same st pairs).next_number ≡ st.next_number
place_all_next same st [] = refl
place_all_next same st (pair ∷ pairs) =
    place_all_next same (place_pair same st pair) pairs ∙ place_next same st pair.0 (by_number st pair.1)

drop_next : (st : State) (o : Option Rec) → (drop_record st o).next_number ≡ st.next_number
drop_next st None = refl
drop_next st (Some r) = split _ _ _ (λ s. s.next_number ≡ st.next_number) refl refl

drop_all_next : (st : State) (numbers : List ℕ) → (drop_all st numbers).next_number ≡ st.next_number
drop_all_next st [] = refl
drop_all_next st (number ∷ numbers) = drop_all_next (drop_record st (by_number st number)) numbers ∙ drop_next st (by_number st number)

-- it is at most the number of records in the file
pub restored_next : (snap : Snapshot) (places : Places) → (restored snap places).next_number ≤ length snap.new_recs + length snap.tried_recs
restored_next snap places =
    let news = with_all_new (empty_state places) snap.new_recs in
    let all = with_all_tried news snap.tried_recs in
    let placed = place_all (uses_buckets snap places) all snap.listed in
    omega (
      arith,
      drop_all_next placed (range_with_len 0 (length snap.new_recs)),
      place_all_next (uses_buckets snap places) all snap.listed,
      next_tried news snap.tried_recs,
      next_new (empty_state places) snap.new_recs,
    )

-- ---- what the folder's file opens

pub opens : (key : Option (List ℕ)) (kind : FileKind) (past : Option Past) (file : Option (List ℕ)) (map : Option Asmap) (st : State)
    → MatchOption file (IsAbsent name.Peers past) (IsLoaded input.Peers past) → OpensWith key kind file map st → Opens key kind past map st
opens key kind past None map st found with_key = from_key with_key.0 found with_key.1 with_key.2
opens key kind past (Some bytes) map st found with_file =
    from_file with_file.0 (bytes, found.1, with_file.1) with_file.2 with_file.3

-- ---- why the folder opens no tables

module _ (key : Option (List ℕ)) (chain : Chain) (past : Option Past) where
  -- the folder's asmap is not loaded
  pub no_asmap : (status : Status) → IsLoadFault input.Asmap past status → IsUnopened key chain past status
  no_asmap status (inl is) = subst (IsUnopened key chain past) (sym is) tt
  no_asmap status (inr (inl is)) = subst (IsUnopened key chain past) (sym is) tt
  no_asmap status (inr (inr is)) = subst (IsUnopened key chain past) (sym is.1) is.2

  module _ (map : HasMap past) where
    keyless : (status : Status) → IsAbsent name.Peers past → IsKeyless key status → IsUnopened key chain past status
    keyless NoKey absent is = (map, (is, absent))
    keyless Memory absent is = tt
    keyless other absent is = absurd is

    no_snapshot : (bytes : List ℕ) (status : Status) → IsLoaded input.Peers past bytes → IsNoSnapshot chain bytes status → IsUnopened key chain past status
    no_snapshot bytes (PeersRefused (File fault)) found is = (map, (is.0, (bytes, found.1, is.1)))
    no_snapshot bytes Memory found is = tt
    no_snapshot bytes other found is = absurd is

    not_restored : (bytes : List ℕ) (snap : Snapshot) (status : Status) → IsLoaded input.Peers past bytes → IsFile chain bytes snap → IsNotRestored snap status
        → IsUnopened key chain past status
    not_restored bytes snap (PeersRefused (Duplicate index)) found file is = (map, (snap, (bytes, found.1, file), is))
    not_restored bytes snap Memory found file is = tt
    not_restored bytes snap other found file is = absurd is

    -- the bytes of peers.dat open none
    pub not_opened : (file : Option (List ℕ)) (status : Status) → MatchOption file (IsAbsent name.Peers past) (IsLoaded input.Peers past)
        → IsNotOpened key chain file status → IsUnopened key chain past status
    not_opened None status found is = keyless status found is
    not_opened (Some bytes) status found (inl is) = no_snapshot bytes status found is
    not_opened (Some bytes) status found (inr is) = not_restored bytes is.0 status found is.1 is.2

    -- peers.dat is not loaded
    pub no_peers : (status : Status) → IsLoadFault input.Peers past status → IsUnopened key chain past status
    no_peers status (inl is) = subst (IsUnopened key chain past) (sym is) tt
    no_peers status (inr (inl is)) = subst (IsUnopened key chain past) (sym is) tt
    no_peers status (inr (inr is)) = subst (IsUnopened key chain past) (sym is.1) (map, too_large chain past is.0 is.2)

-- what holds of a result
pub ok_both : {A E : Type 0} (P Q R : A → Type 0) (r : Result A E) → ((x : A) → P x → Q x → R x) → IfOk r P → IfOk r Q → IfOk r R
ok_both P Q R (Ok x) f is and = f x is and
ok_both P Q R (Err e) f is and = tt

pub err_so : {A E : Type 0} (P Q : E → Type 0) (r : Result A E) → ((e : E) → P e → Q e) → IfErr r P → IfErr r Q
err_so P Q (Ok x) f is = tt
err_so P Q (Err e) f is = f e is

-- where no tables are opened, the log is not run
pub not_run : (ran : LogEnd → Type 0) (key : Option (List ℕ)) (chain : Chain) (old new : Outside) (status : Status)
    → IsUnopened key chain old.past status → IsUntouched old new → LogOutcome ran (NotOpened key chain old new) status
not_run ran key chain old new (AsmapRefused fault) is same = (is, same)
not_run ran key chain old new (PeersRefused fault) is same = (is, same)
not_run ran key chain old new NoKey is same = (is, same)
not_run ran key chain old new DiskFault is same = (is, same)
not_run ran key chain old new Memory is same = inl (is, same)
not_run ran key chain old new other is same = absurd is

-- what was loaded, where the folder has the same past
pub found_before : (past before : Option Past) (file : Option (List ℕ)) → past ≡ before
    → MatchOption file (IsAbsent name.Peers past) (IsLoaded input.Peers past) → MatchOption file (IsAbsent name.Peers before) (IsLoaded input.Peers before)
found_before past before file same found = subst (λ p. MatchOption file (IsAbsent name.Peers p) (IsLoaded input.Peers p)) same found
