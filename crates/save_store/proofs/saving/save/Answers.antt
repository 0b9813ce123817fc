use Rattle.std.proofs.Common.{◌∙◌, ap}
use Rattle.host_io.specs.Calls.{calls_to_publish}
use Rattle.save_store.proofs.Asked.{then}
use Rattle.save_store.proofs.Results.{ok_then}
use Rattle.save_store.proofs.Published.{not_written, written_first}
use Rattle.save_store.proofs.Temp.{some_synced}
use Rattle.save_store.proofs.saving.save.Goals as goal

pub returns-in_err-write_temp-clause-any_moment : goal.returns-in_err-write_temp-clause-any_moment
returns-in_err-write_temp-clause-any_moment g c =
    let P = g.F.Folder.past in
    not_written c.args.temp c.args.name c.args.bytes.now (P c.args.folder.now)
    (P c.write_temp.new.folder) c.requires.apart c.write_temp.ensures.any_moment

pub publish-requires-clause-synced : goal.publish-requires-clause-synced
publish-requires-clause-synced g c =
    some_synced c.args.temp c.args.bytes.now (g.F.Folder.past c.write_temp.new.folder)
    c.in_ok-write_temp.ensures.synced

pub returns-clause-any_moment : goal.returns-clause-any_moment
returns-clause-any_moment g c =
    let P = g.F.Folder.past in
    written_first c.args.temp c.args.name c.args.bytes.now (P c.args.folder.now)
    (P c.write_temp.new.folder) (P c.publish.new.folder) c.requires.apart
    c.write_temp.ensures.any_moment
    (c.publish.ensures.any_moment c.args.bytes.now
    c.in_ok-write_temp.ensures.synced)

pub returns-clause-stored : goal.returns-clause-stored
returns-clause-stored g c =
    c.publish.ensures.stored c.args.bytes.now
    c.in_ok-write_temp.ensures.synced

pub returns-in_err-write_temp-clause-asks : goal.returns-in_err-write_temp-clause-asks
returns-in_err-write_temp-clause-asks g c = c.write_temp.ensures.asks c.args.name

pub returns-clause-asks : goal.returns-clause-asks
returns-clause-asks g c =
    then c.args.temp c.args.name _ _ _ (c.write_temp.ensures.asks c.args.name)
    c.publish.ensures.asks

pub returns-clause-order : goal.returns-clause-order
returns-clause-order g c =
    ok_then c.publish.result _ _ c.publish.ensures.order
    (λ last. last ∙ ap (calls_to_publish c.args.temp c.args.name) c.in_ok-write_temp.ensures.order)
