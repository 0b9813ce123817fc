use Rattle.std.proofs.Common.{◌++◌, ◌∙◌, ap, length, subst}
use Rattle.host_io.specs.Calls.{with_call}
use Rattle.host_io.specs.declared.call.Action.TheVariants.{Append}
use Rattle.host_io.specs.Disk.{appended}
use Rattle.host_io.specs.PerName.{under}
use Rattle.save_store.specs.Job.{ReadsAs}
use Rattle.save_store.proofs.Temp.{appended_reads, changed, failed_append, unchanged}
use Rattle.save_store.proofs.Asked.{append_err, append_ok}
use Rattle.save_store.proofs.save_job.write_next.Goals as goal

pub returns-in_err-append-clause-any_moment : goal.returns-in_err-append-clause-any_moment
returns-in_err-append-clause-any_moment g c =
    let P = g.F.Folder.past in
    let old = P c.args.folder.now in
    failed_append c.args.temp c.first_of-next.result.now old old (P c.append.new.self)
    (unchanged c.args.temp old) c.in_err-append.ensures.err

pub returns-clause-any_moment : goal.returns-clause-any_moment
returns-clause-any_moment g c =
    let P = g.F.Folder.past in
    let old = P c.args.folder.now in
    changed c.args.temp (λ d. appended c.first_of-next.result.now (under d c.args.temp))
    old old (P c.append.new.self) (unchanged c.args.temp old) c.in_ok-append.ensures.ok

pub returns-clause-reads : goal.returns-clause-reads
returns-clause-reads g c written reads =
    let P = g.F.Folder.past in
    subst (λ bytes. ReadsAs c.args.temp (written ++ bytes) (P c.append.new.self)) c.first_of-next.ensures
    (appended_reads c.args.temp written c.first_of-next.result.now (P c.args.folder.now)
    (P c.append.new.self) reads c.in_ok-append.ensures.ok)

pub returns-clause-order : goal.returns-clause-order
returns-clause-order g c =
    c.in_ok-append.ensures.asked
    ∙ ap (λ next. with_call (Append c.args.temp (length next)) (g.F.Folder.calls c.args.folder.now))
    c.first_of-next.ensures

pub returns-in_err-append-clause-asks : goal.returns-in_err-append-clause-asks
returns-in_err-append-clause-asks g c name =
    append_err c.args.temp name (length c.first_of-next.result.now) _ _ c.in_err-append.ensures.tried

pub returns-clause-asks : goal.returns-clause-asks
returns-clause-asks g c name =
    append_ok c.args.temp name (length c.first_of-next.result.now) _ _ c.in_ok-append.ensures.asked
