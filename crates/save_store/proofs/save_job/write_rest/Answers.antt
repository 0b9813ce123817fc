use Rattle.std.proofs.Common.{◌++◌, ◌∙◌, ap, length}
use Rattle.host_io.specs.Calls.{with_call}
use Rattle.host_io.specs.declared.call.Action.TheVariants.{Sync}
use Rattle.host_io.specs.Disk.{appended, synced}
use Rattle.host_io.specs.Past.{Always}
use Rattle.host_io.specs.PerName.{under}
use Rattle.save_store.specs.Saves.{KeepsOthers}
use Rattle.save_store.proofs.Results.{either, ok_then}
use Rattle.save_store.proofs.Temp.{appended_reads, changed, failed, failed_append, is_synced, unchanged}
use Rattle.save_store.proofs.Asked.{append_err, append_ok, sync_by, then}
use Rattle.save_store.proofs.save_job.write_rest.Goals as goal

pub returns-in_err-append-clause-any_moment : goal.returns-in_err-append-clause-any_moment
returns-in_err-append-clause-any_moment g c =
    let P = g.F.Folder.past in
    let old = P c.args.folder.now in
    failed_append c.args.temp c.args.bytes.now old old (P c.append.new.self)
    (unchanged c.args.temp old) c.in_err-append.ensures.err

pub returns-clause-any_moment : goal.returns-clause-any_moment
returns-clause-any_moment g c =
    let P = g.F.Folder.past in
    let old = P c.args.folder.now in
    let one = changed c.args.temp (λ d. appended c.args.bytes.now (under d c.args.temp))
    old old (P c.append.new.self) (unchanged c.args.temp old) c.in_ok-append.ensures.ok in
    either c.sync.result _ _ (Always old (P c.sync.new.self) (KeepsOthers c.args.temp))
    c.sync.ensures.ok c.sync.ensures.err
    (changed c.args.temp (λ d. synced (under d c.args.temp)) old (P c.append.new.self) (P c.sync.new.self) one)
    (failed c.args.temp (λ d. synced (under d c.args.temp)) old (P c.append.new.self) (P c.sync.new.self) one)

pub returns-clause-synced : goal.returns-clause-synced
returns-clause-synced g c written reads =
    let P = g.F.Folder.past in
    ok_then c.sync.result _ _ c.sync.ensures.ok
    (is_synced c.args.temp (written ++ c.args.bytes.now) (P c.append.new.self) (P c.sync.new.self)
    (appended_reads c.args.temp written c.args.bytes.now (P c.args.folder.now) (P c.append.new.self)
    reads c.in_ok-append.ensures.ok))

pub returns-clause-order : goal.returns-clause-order
returns-clause-order g c =
    ok_then c.sync.result _ _ c.sync.ensures.asked
    (λ last. last ∙ ap (with_call (Sync c.args.temp)) c.in_ok-append.ensures.asked)

pub returns-in_err-append-clause-asks : goal.returns-in_err-append-clause-asks
returns-in_err-append-clause-asks g c name =
    append_err c.args.temp name (length c.args.bytes.now) _ _ c.in_err-append.ensures.tried

pub returns-clause-asks : goal.returns-clause-asks
returns-clause-asks g c name =
    then c.args.temp name _ _ _
    (append_ok c.args.temp name (length c.args.bytes.now) _ _ c.in_ok-append.ensures.asked)
    (sync_by c.args.temp name c.sync.result _ _ c.sync.ensures.asked c.sync.ensures.tried)
