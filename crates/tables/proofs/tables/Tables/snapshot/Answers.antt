use Rattle.std.proofs.Common.{rules, ℕ, ◌≡◌, ◌<◌, ◌≤◌, ◌∙◌, List, All, AllPairs, ap, length, map, subst, sym}
use Rattle.placing.specs.Places.{sum_of}
use Rattle.peer_rec.specs.Snapshot.{Snapshot, snapshot}
use Rattle.peer_rec.specs.declared.file_rec.FileRec.{FileRec}
use Rattle.table_machine.specs.State.{State}
use Rattle.table_machine.specs.Sound.{IsSound}
use Rattle.table_machine.specs.Restart.{restart}
use Rattle.table_machine.specs.Restoring.{duplicate, restored}
use Rattle.table_machine.specs.Snapshot.{file_rec, listed_of, new_records, tried_records}
use Rattle.table_machine.proofs.RestartLaw.{no_duplicate, restart_law}
use Rattle.table_machine.proofs.SnapshotFits.{snapshot_fits}
use Rattle.tables.proofs.tables.Tables.snapshot.Goals as goal

pub make-requires-clause-few_new : goal.make-requires-clause-few_new
make-requires-clause-few_new g c =
    let st : State = c.args.self.now in
    let sound : IsSound st = subst IsSound c.self.view_is c.self.invariant.sound in
    let news : c.of-new_recs.result ≡ map file_rec (new_records st) = c.of-new_recs.ensures ∙ c.in_ok-gathered.ensures.new ∙ ap (λ t. map file_rec (new_records t)) c.self.view_is in
    subst (λ (rs : List FileRec). length rs ≤ 65536) (sym news) (snapshot_fits st sound).few_new

pub make-requires-clause-few_tried : goal.make-requires-clause-few_tried
make-requires-clause-few_tried g c =
    let st : State = c.args.self.now in
    let sound : IsSound st = subst IsSound c.self.view_is c.self.invariant.sound in
    let trieds : c.of-tried_recs.result ≡ map file_rec (tried_records st) = c.of-tried_recs.ensures ∙ c.in_ok-gathered.ensures.tried ∙ ap (λ t. map file_rec (tried_records t)) c.self.view_is in
    subst (λ (rs : List FileRec). length rs ≤ 16384) (sym trieds) (snapshot_fits st sound).few_tried

pub make-requires-clause-new_attempts : goal.make-requires-clause-new_attempts
make-requires-clause-new_attempts g c =
    let st : State = c.args.self.now in
    let sound : IsSound st = subst IsSound c.self.view_is c.self.invariant.sound in
    let news : c.of-new_recs.result ≡ map file_rec (new_records st) = c.of-new_recs.ensures ∙ c.in_ok-gathered.ensures.new ∙ ap (λ t. map file_rec (new_records t)) c.self.view_is in
    subst (All (λ (r : FileRec). r.attempts ≤ 2147483647)) (sym news) (snapshot_fits st sound).new_attempts

pub make-requires-clause-tried_attempts : goal.make-requires-clause-tried_attempts
make-requires-clause-tried_attempts g c =
    let st : State = c.args.self.now in
    let sound : IsSound st = subst IsSound c.self.view_is c.self.invariant.sound in
    let trieds : c.of-tried_recs.result ≡ map file_rec (tried_records st) = c.of-tried_recs.ensures ∙ c.in_ok-gathered.ensures.tried ∙ ap (λ t. map file_rec (tried_records t)) c.self.view_is in
    subst (All (λ (r : FileRec). r.attempts ≤ 2147483647)) (sym trieds) (snapshot_fits st sound).tried_attempts

pub make-requires-clause-buckets : goal.make-requires-clause-buckets
make-requires-clause-buckets g c =
    let st : State = c.args.self.now in
    let sound : IsSound st = subst IsSound c.self.view_is c.self.invariant.sound in
    let listed : c.of-listed.result ≡ listed_of st = c.of-listed.ensures ∙ c.in_ok-listed.ensures.found ∙ ap listed_of c.self.view_is in
    let count : c.from.result ≡ 1024 = search rules in
    subst (λ n. All (λ (p : ℕ × ℕ). p.0 < n) c.of-listed.result) (sym count)
    (subst (All (λ (p : ℕ × ℕ). p.0 < 1024)) (sym listed) (snapshot_fits st sound).buckets)

pub make-requires-clause-indexes : goal.make-requires-clause-indexes
make-requires-clause-indexes g c =
    let st : State = c.args.self.now in
    let sound : IsSound st = subst IsSound c.self.view_is c.self.invariant.sound in
    let news : c.of-new_recs.result ≡ map file_rec (new_records st) = c.of-new_recs.ensures ∙ c.in_ok-gathered.ensures.new ∙ ap (λ t. map file_rec (new_records t)) c.self.view_is in
    let listed : c.of-listed.result ≡ listed_of st = c.of-listed.ensures ∙ c.in_ok-listed.ensures.found ∙ ap listed_of c.self.view_is in
    subst (λ (rs : List FileRec). All (λ (p : ℕ × ℕ). p.1 < length rs) c.of-listed.result) (sym news)
    (subst (All (λ (p : ℕ × ℕ). p.1 < length (map file_rec (new_records st)))) (sym listed) (snapshot_fits st sound).indexes)

pub make-requires-clause-rising : goal.make-requires-clause-rising
make-requires-clause-rising g c =
    let st : State = c.args.self.now in
    let sound : IsSound st = subst IsSound c.self.view_is c.self.invariant.sound in
    let listed : c.of-listed.result ≡ listed_of st = c.of-listed.ensures ∙ c.in_ok-listed.ensures.found ∙ ap listed_of c.self.view_is in
    subst (AllPairs (λ (p : ℕ × ℕ) (q : ℕ × ℕ). p.0 ≤ q.0)) (sym listed) (snapshot_fits st sound).rising

pub returns-clause-found : goal.returns-clause-found
returns-clause-found g c =
    let st : State = c.args.self.now in
    let news : c.of-new_recs.result ≡ map file_rec (new_records st) = c.of-new_recs.ensures ∙ c.in_ok-gathered.ensures.new ∙ ap (λ t. map file_rec (new_records t)) c.self.view_is in
    let trieds : c.of-tried_recs.result ≡ map file_rec (tried_records st) = c.of-tried_recs.ensures ∙ c.in_ok-gathered.ensures.tried ∙ ap (λ t. map file_rec (tried_records t)) c.self.view_is in
    let listed : c.of-listed.result ≡ listed_of st = c.of-listed.ensures ∙ c.in_ok-listed.ensures.found ∙ ap listed_of c.self.view_is in
    let count : c.from.result ≡ 1024 = search rules in
    let key : c.key-key.result ≡ st.places.key = c.key-key.ensures.value ∙ ap (λ (t : State). t.places.key) c.self.view_is in
    let sum : c.sum-sum.result ≡ sum_of st.places = c.sum-sum.ensures ∙ ap (λ (t : State). sum_of t.places) c.self.view_is in
    c.make.ensures ∙ (λ i. snapshot (key i) (news i) (trieds i) (count i) (listed i) (sum i))

pub returns-clause-restart : goal.returns-clause-restart
returns-clause-restart g c =
    let st : State = c.args.self.now in
    let sound : IsSound st = subst IsSound c.self.view_is c.self.invariant.sound in
    subst (λ (s : Snapshot). restored s st.places ≡ restart st) (sym (returns-clause-found g c)) (restart_law st sound)

pub returns-clause-no_duplicate : goal.returns-clause-no_duplicate
returns-clause-no_duplicate g c =
    let st : State = c.args.self.now in
    let sound : IsSound st = subst IsSound c.self.view_is c.self.invariant.sound in
    ap duplicate (returns-clause-found g c) ∙ no_duplicate st sound
