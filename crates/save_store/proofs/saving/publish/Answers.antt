use Rattle.std.proofs.Common.{◌∙◌, ap}
use Rattle.host_io.specs.Calls.{with_call}
use Rattle.host_io.specs.declared.call.Action.TheVariants.{SyncDir}
use Rattle.save_store.proofs.Asked.{rename_err, rename_ok, sync_dir_by, then}
use Rattle.save_store.proofs.Published.{freed, stored}
use Rattle.save_store.proofs.Results.{ok_then}
use Rattle.save_store.proofs.saving.publish.Goals as goal

pub returns-clause-stored : goal.returns-clause-stored
returns-clause-stored g c = λ bytes synced.
    let P = g.F.Folder.past in
    ok_then c.sync_dir.result _ _ c.sync_dir.ensures.ok
    (stored c.args.temp c.args.name bytes (P c.args.folder.now) (P c.rename.new.self)
    (P c.sync_dir.new.self) c.requires.apart synced c.in_ok-rename.ensures.ok)

pub returns-in_err-rename-clause-asks : goal.returns-in_err-rename-clause-asks
returns-in_err-rename-clause-asks g c =
    rename_err c.args.temp c.args.name _ _ c.in_err-rename.ensures.tried

pub returns-clause-asks : goal.returns-clause-asks
returns-clause-asks g c =
    then c.args.temp c.args.name _ _ _ (rename_ok c.args.temp c.args.name _ _ c.in_ok-rename.ensures.asked)
    (sync_dir_by c.args.temp c.args.name c.sync_dir.result _ _ c.sync_dir.ensures.asked
    c.sync_dir.ensures.tried)

pub returns-clause-order : goal.returns-clause-order
returns-clause-order g c =
    ok_then c.sync_dir.result _ _ c.sync_dir.ensures.asked
    (λ last. last ∙ ap (with_call SyncDir) c.in_ok-rename.ensures.asked)

pub returns-clause-free : goal.returns-clause-free
returns-clause-free g c =
    ok_then c.sync_dir.result _ _ c.sync_dir.ensures.ok
    (freed c.args.temp c.args.name _ _ _ c.in_ok-rename.ensures.ok)
