use Rattle.std.proofs.Common.{◌++◌, ◌∙◌, ap}
use Rattle.host_io.specs.Calls.{calls_to_publish}
use Rattle.save_store.proofs.Published.{not_written, written_first}
use Rattle.save_store.proofs.Asked.{then}
use Rattle.save_store.proofs.Results.{ok_then}
use Rattle.save_store.proofs.save_job.finish.Goals as goal

pub returns-in_err-write_rest-clause-any_moment : goal.returns-in_err-write_rest-clause-any_moment
returns-in_err-write_rest-clause-any_moment g c written reads =
    let P = g.F.Folder.past in
    not_written c.args.temp c.args.name (written ++ c.args.bytes.now) (P c.args.folder.now)
    (P c.write_rest.new.folder) c.requires.apart c.write_rest.ensures.any_moment

pub returns-clause-any_moment : goal.returns-clause-any_moment
returns-clause-any_moment g c written reads =
    let P = g.F.Folder.past in
    let bytes = written ++ c.args.bytes.now in
    written_first c.args.temp c.args.name bytes (P c.args.folder.now) (P c.write_rest.new.folder)
    (P c.publish.new.folder) c.requires.apart c.write_rest.ensures.any_moment
    (c.publish.ensures.any_moment bytes (c.in_ok-write_rest.ensures.synced written reads))

pub returns-clause-stored : goal.returns-clause-stored
returns-clause-stored g c written reads =
    c.publish.ensures.stored (written ++ c.args.bytes.now)
    (c.in_ok-write_rest.ensures.synced written reads)

pub returns-clause-order : goal.returns-clause-order
returns-clause-order g c =
    ok_then c.publish.result _ _ c.publish.ensures.order
    (λ last. last ∙ ap (calls_to_publish c.args.temp c.args.name) c.in_ok-write_rest.ensures.order)

pub returns-in_err-write_rest-clause-asks : goal.returns-in_err-write_rest-clause-asks
returns-in_err-write_rest-clause-asks g c = c.write_rest.ensures.asks c.args.name

pub returns-clause-asks : goal.returns-clause-asks
returns-clause-asks g c =
    then c.args.temp c.args.name _ _ _ (c.write_rest.ensures.asks c.args.name) c.publish.ensures.asks
