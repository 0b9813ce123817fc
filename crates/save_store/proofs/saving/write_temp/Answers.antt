use Rattle.std.proofs.Common.{◌∙◌, ap}
use Rattle.std.specs.Prelude.{[], length}
use Rattle.host_io.specs.Calls.{with_call}
use Rattle.host_io.specs.declared.call.Action.TheVariants.{Append, Sync}
use Rattle.host_io.specs.Disk.{appended, created, synced}
use Rattle.host_io.specs.Past.{Always}
use Rattle.host_io.specs.PerName.{under}
use Rattle.save_store.specs.Saves.{KeepsOthers}
use Rattle.save_store.proofs.Asked.{append_err, append_ok, create_err, create_ok, sync_by, then}
use Rattle.save_store.proofs.Results.{either, ok_then}
use Rattle.save_store.proofs.Temp.{appended_reads, changed, created_reads, failed, failed_append, is_synced, unchanged, written_safe}
use Rattle.save_store.proofs.saving.write_temp.Goals as goal

pub returns-in_err-create-clause-any_moment : goal.returns-in_err-create-clause-any_moment
returns-in_err-create-clause-any_moment g c =
    let P = g.F.Folder.past in
    let old = P c.args.folder.now in
    failed c.args.temp (λ _. created) old old (P c.create.new.self)
    (unchanged c.args.temp old) c.in_err-create.ensures.err

pub returns-in_err-append-clause-any_moment : goal.returns-in_err-append-clause-any_moment
returns-in_err-append-clause-any_moment g c =
    let P = g.F.Folder.past in
    let old = P c.args.folder.now in
    failed_append c.args.temp c.args.bytes.now old (P c.create.new.self) (P c.append.new.self)
    (changed c.args.temp (λ _. created) old old (P c.create.new.self)
    (unchanged c.args.temp old) c.in_ok-create.ensures.ok)
    c.in_err-append.ensures.err

pub returns-clause-any_moment : goal.returns-clause-any_moment
returns-clause-any_moment g c =
    let P = g.F.Folder.past in
    let old = P c.args.folder.now in
    let one = changed c.args.temp (λ _. created) old old (P c.create.new.self)
    (unchanged c.args.temp old) c.in_ok-create.ensures.ok in
    let two = changed c.args.temp (λ d. appended c.args.bytes.now (under d c.args.temp))
    old (P c.create.new.self) (P c.append.new.self) one c.in_ok-append.ensures.ok in
    either c.sync.result _ _ (Always old (P c.sync.new.self) (KeepsOthers c.args.temp))
    c.sync.ensures.ok c.sync.ensures.err
    (changed c.args.temp (λ d. synced (under d c.args.temp)) old (P c.append.new.self) (P c.sync.new.self) two)
    (failed c.args.temp (λ d. synced (under d c.args.temp)) old (P c.append.new.self) (P c.sync.new.self) two)

pub returns-clause-safe : goal.returns-clause-safe
returns-clause-safe g c =
    let P = g.F.Folder.past in
    ok_then c.sync.result _ _ c.sync.ensures.ok
    (written_safe c.args.temp c.args.bytes.now (P c.args.folder.now) (P c.create.new.self)
    (P c.append.new.self) (P c.sync.new.self) c.in_ok-create.ensures.ok c.in_ok-append.ensures.ok)

pub returns-clause-synced : goal.returns-clause-synced
returns-clause-synced g c =
    let P = g.F.Folder.past in
    ok_then c.sync.result _ _ c.sync.ensures.ok
    (is_synced c.args.temp c.args.bytes.now (P c.append.new.self) (P c.sync.new.self)
    (appended_reads c.args.temp [] c.args.bytes.now (P c.create.new.self) (P c.append.new.self)
    (created_reads c.args.temp (P c.args.folder.now) (P c.create.new.self) c.in_ok-create.ensures.ok)
    c.in_ok-append.ensures.ok))

pub returns-in_err-create-clause-asks : goal.returns-in_err-create-clause-asks
returns-in_err-create-clause-asks g c name =
    create_err c.args.temp name _ _ c.in_err-create.ensures.tried

pub returns-in_err-append-clause-asks : goal.returns-in_err-append-clause-asks
returns-in_err-append-clause-asks g c name =
    then c.args.temp name _ _ _ (create_ok c.args.temp name _ _ c.in_ok-create.ensures.asked)
    (append_err c.args.temp name (length c.args.bytes.now) _ _ c.in_err-append.ensures.tried)

pub returns-clause-asks : goal.returns-clause-asks
returns-clause-asks g c name =
    then c.args.temp name _ _ _ (create_ok c.args.temp name _ _ c.in_ok-create.ensures.asked)
    (then c.args.temp name _ _ _
    (append_ok c.args.temp name (length c.args.bytes.now) _ _ c.in_ok-append.ensures.asked)
    (sync_by c.args.temp name c.sync.result _ _ c.sync.ensures.asked c.sync.ensures.tried))

pub returns-clause-order : goal.returns-clause-order
returns-clause-order g c =
    ok_then c.sync.result _ _ c.sync.ensures.asked
    (λ last. last ∙ ap (with_call (Sync c.args.temp))
    (c.in_ok-append.ensures.asked
    ∙ ap (with_call (Append c.args.temp (length c.args.bytes.now))) c.in_ok-create.ensures.asked))
