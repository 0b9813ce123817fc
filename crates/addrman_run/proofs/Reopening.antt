-- What a save wrote, opened again.
use Rattle.std.proofs.Common.{◌≡◌, ℕ, List, [], length, Some, None, Ok, refl, sym, ap, ◌∙◌, subst}
use Rattle.std.specs.Prelude.{Option, Result}
use Rattle.std.proofs.lemmas.List.{append-nil}
use Rattle.sha2.proofs.Facts256.{length-sha256}
use Rattle.sha2.specs.Sha256.{sha256}
use Rattle.asmap_vm.specs.Asmap.{Asmap}
use Rattle.placing.specs.Places.{double_sha256, sum_input, sum_by}
use Rattle.placing.specs.declared.sum.SumRule.{SumRule}
use Rattle.peer_rec.specs.Snapshot.{Snapshot}
use Rattle.peers_file.specs.Inside.{IsWritten}
use Rattle.peers_file.specs.Layout.{IsFile, between}
use Rattle.peers_file.specs.Readings.{body_at}
use Rattle.peers_file.specs.declared.chain.Chain.{Chain}
use Rattle.arguments.specs.declared.file_kind.FileKind.{FileKind}
use Rattle.peers_file.specs.declared.fault.FileFault.{FileFault}
use Rattle.peers_file.proofs.FileLaws.{Reads-body}
use Rattle.peers_file.proofs.WholeLaws.{is_file}
use Rattle.session_saves.specs.Files.{file_of}
use Rattle.table_machine.specs.Restart.{restart}
use Rattle.table_machine.specs.Snapshot.{snapshot_of}
use Rattle.table_machine.specs.Sound.{IsSound}
use Rattle.table_machine.specs.State.{State}
use Rattle.table_machine.proofs.RestartLaw.{no_duplicate, restart_law}
use Rattle.table_machine.proofs.SnapshotFits.{few_pairs, snapshot_fits, snapshot_is_file}
use Rattle.addrman_run.specs.Opening.{Opens, tables_of}
use Rattle.addrman_run.specs.Opening.Opens.{from_file, from_key}
use Rattle.addrman_run.specs.Replay.{ReopensAs}

length-sum : (rule : SumRule) (map : Option Asmap) → length (sum_by rule map) ≡ 32
unfolding double_sha256
length-sum rule None = refl
length-sum rule (Some m) = length-sha256 (sha256 (sum_input rule m.file))

-- a snapshot of sound tables can be written
written : (st : State) → IsSound st → IsWritten (snapshot_of st)
written st sound =
    let fits = snapshot_fits st sound in
    let files = snapshot_is_file st sound in
    record {
      snapshot = record {
        key_length = sound.places.key_length;
        sum_length = length-sum st.places.rule st.places.map;
        few_new = fits.few_new;
        few_tried = fits.few_tried;
        new_attempts = fits.new_attempts;
        tried_attempts = fits.tried_attempts;
        few_buckets = fits.few_buckets;
        buckets = fits.buckets;
        indexes = fits.indexes;
        rising = fits.rising;
      };
      new_recs = files.new_recs;
      tried_recs = files.tried_recs;
      buckets = refl;
      few_listed = few_pairs st;
    }

read_as : (chain : Chain) (bytes : List ℕ) (snap : Snapshot) → IsFile chain bytes snap → body_at (between bytes) ≡ Ok (snap, [])
read_as chain bytes snap file =
    Reads-body.only (between bytes) snap [] (record { front = between bytes; joined = sym (append-nil (between bytes)); spelled = file.1 })

value_of : Snapshot → Result (Snapshot × List ℕ) FileFault → Snapshot
value_of other (Ok read) = read.0
value_of other err = other

-- bytes are the file of one snapshot only
one_snapshot : (chain : Chain) (bytes : List ℕ) (a b : Snapshot) → IsFile chain bytes a → IsFile chain bytes b → a ≡ b
unfolding value_of
one_snapshot chain bytes a b one two = ap (value_of a) (sym (read_as chain bytes a one) ∙ read_as chain bytes b two)

bytes_of : Option (List ℕ) → List ℕ
bytes_of None = []
bytes_of (Some bytes) = bytes

same_bytes : (a b : List ℕ) → Some a ≡ Some b → a ≡ b
unfolding bytes_of
same_bytes a b is = ap bytes_of is

pub reopens : (kind : FileKind) (map : Option Asmap) (st : State) → IsSound st → st.places.map ≡ map → st.places.rule ≡ kind.rule → ReopensAs kind map st
reopens kind map st sound same rule past key has =
    let saved = snapshot_of st in
    let its_file = is_file kind.chain saved (written st sound) in
    let law : tables_of kind.rule saved map ≡ restart st =
    ap (λ m. tables_of kind.rule saved m) (sym same)
    ∙ ap (λ r. tables_of r saved st.places.map) (sym rule)
    ∙ restart_law st sound in
    (from_file saved (file_of kind.chain st, has, its_file) (no_duplicate st sound) (sym law), λ found opens. by found opens law its_file)
  where
    by : (found : State) → Opens key kind (Some past) map found → tables_of kind.rule (snapshot_of st) map ≡ restart st
        → IsFile kind.chain (file_of kind.chain st) (snapshot_of st) → found ≡ restart st
    by found (from_file snap (bytes, is_there, file) apart is) law its_file =
        is ∙ ap (λ s. tables_of kind.rule s map) (one_snapshot kind.chain (file_of kind.chain st) snap (snapshot_of st)
        (subst (λ b. IsFile kind.chain b snap) (same_bytes bytes (file_of kind.chain st) (sym is_there ∙ has)) file) its_file) ∙ law
    by found (from_key given absent is_key is) law its_file = absurd (cc (has, absent))
