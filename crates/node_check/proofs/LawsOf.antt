-- Which files a node loads.
use Rattle.std.proofs.Common.{◌≡◌, ◌≢◌, Bool, true, false, ◌==◌, All, Contains, Option, Some, None, refl, sym, ap, subst, ◌∙◌, true≢false, if◌then◌else◌}
use Rattle.std.specs.Prelude.{IfSome}
use Rattle.std.specs.List.{list_any}
use Rattle.std.proofs.lemmas.Bool.{and_parts, both_ways, false_from_ne_true}
use Rattle.std.proofs.lemmas.Bool.Decides.{Decides-eqb}
use Rattle.std.proofs.lemmas.List.Elements.{All-contains, All-map}
use Rattle.std.proofs.lemmas.List.Folds.{list_any-from_Any, list_any_none}
use Rattle.asmap_vm.specs.Asmap.{Asmap, IsAsmap}
use Rattle.peer_rec.specs.Rec.{is_tried}
use Rattle.peer_rec.specs.Snapshot.{Snapshot}
use Rattle.peer_rec.specs.declared.file_rec.FileRec.{FileRec}
use Rattle.peer_rec.specs.declared.rec.Rec.{Rec}
use Rattle.placing.specs.Places.{IsPlaces, Places}
use Rattle.placing.specs.declared.sum.SumRule.{SumRule}
use Rattle.table_machine.specs.Picks.{occupant_at}
use Rattle.table_machine.specs.Restoring.{duplicate, with_records}
use Rattle.table_machine.specs.Snapshot.{file_rec, snapshot_of, tried_records}
use Rattle.table_machine.specs.Sound.{IsSound}
use Rattle.table_machine.specs.State.{State}
use Rattle.table_machine.proofs.EachRec.{EachRec}
use Rattle.table_machine.proofs.Lists.{All-from_Contains, Contains-from_filter}
use Rattle.table_machine.proofs.RestartLaw.{no_duplicate, restart_law}
use Rattle.table_machine.proofs.RestoredSound as sound
use Rattle.table_machine.proofs.SnapshotFits.{snapshot_fits, snapshot_is_file}
use Rattle.table_laws.specs.Restarts.{IsReopened}
use Rattle.table_laws.proofs.Restarted.{keeps_over_restart}
use Rattle.node_check.specs.Check.{is_zero}
use Rattle.node_check.specs.Laws.{IsLoadable, IsReached, IsReadable, Loads, LoadsAsSaved, lacks_success, refusal_of, sound_code}
use Rattle.node_check.specs.declared.refusal.Refusal.TheVariants.{NoSuccess, ZeroKey}
use Rattle.node_check.specs.Loading.{load_code, loaded, node_places}
use Rattle.node_check.proofs.LoadedEach.{loaded_each}
use Rattle.node_check.proofs.ReadOf.{left_places, read_once}
use Rattle.node_check.proofs.SoundOf.{check_sound}

file-of : (snap : Snapshot) → IsReadable snap → sound.IsFile snap
file-of snap is = record {
  few_new = is.few_new;
  few_tried = is.few_tried;
  new_recs = is.new_recs;
  tried_recs = is.tried_recs;
  buckets = is.buckets;
}

places-of : (snap : Snapshot) (map : Option Asmap) (rule : SumRule) → IsReadable snap → IfSome map IsAsmap → IsPlaces (node_places snap map rule)
places-of snap map rule is accepted = record { key_length = is.key_length; key_bytes = is.key_bytes; map = accepted }

pub code_is : (snap : Snapshot) (map : Option Asmap) (rule : SumRule) → IsReadable snap → duplicate snap ≡ None → IfSome map IsAsmap
    → load_code snap map rule ≡ sound_code (loaded snap map rule)
code_is snap map rule is single accepted =
    let places = node_places snap map rule in
    let fits = places-of snap map rule is accepted in
    let whole = sound.restored_sound snap places (file-of snap is) fits single in
    check_sound (with_records snap places).records (loaded snap map rule) whole
    (read_once snap places (file-of snap is) fits single is.indexes whole)

pub loads_if : (snap : Snapshot) → IsReadable snap → duplicate snap ≡ None → IsLoadable snap → Loads snap
loads_if snap is single can map rule accepted =
    code_is snap map rule is single accepted
    ∙ (λ i. if no_failure i then 1 else (if no_zero i then 16 else 0))
  where
    each : (r : Rec) → Contains (loaded snap map rule).records r → IsReached r
    each =
        loaded_each IsReached (λ r buckets tried. absurd (true≢false (sym tried))) snap (node_places snap map rule)
        (λ f c number tried. All-contains (λ (g : FileRec). g.last_success ≢ 0) snap.tried_recs f can.successes c)

    no_failure : list_any lacks_success (loaded snap map rule).records ≡ false
    no_failure =
        list_any_none lacks_success (loaded snap map rule).records
        (All-from_Contains (λ (r : Rec). lacks_success r ≡ false) (loaded snap map rule).records (λ r c.
        false_from_ne_true (lacks_success r) (λ lacks. let parts = and_parts (is_tried r) (r.last_success == 0) lacks in each r c parts.0 ((Decides-eqb r.last_success 0).0 parts.1))))

    no_zero : is_zero (loaded snap map rule).places.key ≡ false
    no_zero =
        ap (λ (p : Places). is_zero p.key) (left_places snap (node_places snap map rule) (file-of snap is) (places-of snap map rule is accepted) single is.indexes)
        ∙ can.key

readable : (st : State) → IsSound st → IsReadable (snapshot_of st)
readable st sound =
    let fits = snapshot_fits st sound in
    let file = snapshot_is_file st sound in
    record {
      key_length = sound.places.key_length;
      key_bytes = sound.places.key_bytes;
      few_new = file.few_new;
      few_tried = file.few_tried;
      new_recs = file.new_recs;
      tried_recs = file.tried_recs;
      buckets = file.buckets;
      indexes = fits.indexes;
    }

-- the conditions of a file, of the state that it saves
pub loadable_from : (st : State) → is_zero st.places.key ≡ false → EachRec IsReached st.records → IsLoadable (snapshot_of st)
loadable_from st key all = record {
  key = key;
  successes = All-map (λ (f : FileRec). f.last_success ≢ 0) file_rec (tried_records st)
      (All-from_Contains (λ (r : Rec). r.last_success ≢ 0) (tried_records st) (λ r c. let h = Contains-from_filter is_tried st.records r c in all r h.0 h.1));
}

pub as_saved : (st : State) → IsSound st → LoadsAsSaved st
as_saved st sound = record {
  loads = loads_if (snapshot_of st) (readable st sound) (no_duplicate st sound);
  code = code_is (snapshot_of st) st.places.map st.places.rule (readable st sound) (no_duplicate st sound) sound.places.map ∙ ap sound_code (restart_law st sound);
  tables = restart_law st sound;
  slots = λ in_new bucket slot.
      subst (λ (s : State). IsReopened (occupant_at st in_new bucket slot) (occupant_at s in_new bucket slot)) (sym (restart_law st sound))
      ((keeps_over_restart st sound).slots in_new bucket slot);
}

-- a file of which nothing is said meets the two conditions
pub exact : (snap : Snapshot) → refusal_of snap ≡ None → IsLoadable snap
exact snap none = by (list_any (λ (f : FileRec). f.last_success == 0) snap.tried_recs) (is_zero snap.key) refl refl none
  where
    each : list_any (λ (f : FileRec). f.last_success == 0) snap.tried_recs ≡ false → All (λ (f : FileRec). f.last_success ≢ 0) snap.tried_recs
    each fails =
        All-from_Contains (λ (f : FileRec). f.last_success ≢ 0) snap.tried_recs (λ f c zero.
        both_ways (list_any (λ (g : FileRec). g.last_success == 0) snap.tried_recs) fails
        (list_any-from_Any (λ (g : FileRec). g.last_success == 0) snap.tried_recs (c.0, f, c.1, c.2, (Decides-eqb f.last_success 0).1 zero)))

    by : (a b : Bool) → list_any (λ (f : FileRec). f.last_success == 0) snap.tried_recs ≡ a → is_zero snap.key ≡ b
        → (if a then Some NoSuccess else (if b then Some ZeroKey else None)) ≡ None → IsLoadable snap
    by true b is key some = absurd (cc)
    by false true is key some = absurd (cc)
    by false false is key some = record { key = key; successes = each is }
