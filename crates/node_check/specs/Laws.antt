-- Which files a node of Bitcoin Core loads.
use Rattle.std.specs.Prelude.{◌≡◌, ◌≢◌, ℕ, ◌<◌, ◌≤◌, length, All, Bool, true, false, ◌&&◌, ◌==◌, Option, Some, None, IfSome, if◌then◌else◌}
use Rattle.std.specs.List.{list_any}
use Rattle.asmap_vm.specs.Asmap.{Asmap, IsAsmap}
use Rattle.peer_rec.specs.Rec.{is_tried}
use Rattle.peer_rec.specs.Snapshot.{IsFileRec, Snapshot}
use Rattle.peer_rec.specs.declared.rec.Rec.{Rec}
use Rattle.peer_rec.specs.declared.snapshot.TheConstants.{MAX_NEW, MAX_TRIED}
use Rattle.placing.specs.declared.sum.SumRule.{SumRule}
use Rattle.table_laws.specs.Restarts.{IsReopened}
use Rattle.table_machine.specs.Picks.{occupant_at}
use Rattle.table_machine.specs.Restart.{restart}
use Rattle.table_machine.specs.Snapshot.{snapshot_of}
use Rattle.table_machine.specs.State.{State}
use Rattle.node_check.specs.Check.{is_zero}
use Rattle.node_check.specs.declared.refusal.Refusal.{Refusal}
use Rattle.node_check.specs.declared.refusal.Refusal.TheVariants.{NoSuccess, ZeroKey}
use Rattle.node_check.specs.Loading.{load_code, loaded}

-- What is read of bytes that have no fault: few records, with values that fit their fields.
pub record IsReadable (snap : Snapshot) : Type 0 where
  pub key_length : length snap.key ≡ 32
  pub key_bytes : All (λ b. b < 256) snap.key
  pub few_new : length snap.new_recs ≤ MAX_NEW
  pub few_tried : length snap.tried_recs ≤ MAX_TRIED
  pub new_recs : All IsFileRec snap.new_recs
  pub tried_recs : All IsFileRec snap.tried_recs
  pub buckets : All (λ pair. pair.0 < snap.bucket_count) snap.listed
  pub indexes : All (λ pair. pair.1 < length snap.new_recs) snap.listed

-- A tried record was reached once.
abbrev pub IsReached : Rec → Type 0
IsReached r = is_tried r ≡ true → r.last_success ≢ 0

-- A tried record that was never reached.
abbrev pub lacks_success : Rec → Bool
lacks_success r = is_tried r && r.last_success == 0

-- What a sound state fails: nothing but these two tests.
abbrev pub sound_code : State → ℕ
sound_code st =
    if list_any lacks_success st.records then 1 else (if is_zero st.places.key then 16 else 0)

-- A file that a node loads, whatever its asmap is.
abbrev pub Loads : Snapshot → Type 0
Loads snap =
    (map : Option Asmap) (rule : SumRule) → IfSome map IsAsmap → load_code snap map rule ≡ 0

-- The two conditions, of a file.
pub record IsLoadable (snap : Snapshot) : Type 0 where
  pub key : is_zero snap.key ≡ false
  pub successes : All (λ f. f.last_success ≢ 0) snap.tried_recs

-- A node loads what a save writes. With the asmap of the save, it has these tables after a restart:
-- each slot has the record that it had, or none as before.
pub record LoadsAsSaved (st : State) : Type 0 where
  pub loads : IsLoadable (snapshot_of st) → Loads (snapshot_of st)
  pub code : load_code (snapshot_of st) st.places.map st.places.rule ≡ sound_code (restart st)
  pub tables : loaded (snapshot_of st) st.places.map st.places.rule ≡ restart st
  pub slots : (in_new : Bool) (bucket slot : ℕ)
      → IsReopened (occupant_at st in_new bucket slot)
      (occupant_at (loaded (snapshot_of st) st.places.map st.places.rule) in_new bucket slot)

-- Why a node may refuse a file: the first of the two conditions that it lacks.
abbrev pub refusal_of : Snapshot → Option Refusal
refusal_of snap =
    if list_any (λ f. f.last_success == 0) snap.tried_recs then Some NoSuccess
    else if is_zero snap.key then Some ZeroKey
    else None
