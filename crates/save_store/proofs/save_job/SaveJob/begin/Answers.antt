use Rattle.host_io.specs.Disk.{created}
use Rattle.save_store.proofs.Temp.{changed, created_reads, failed, unchanged}
use Rattle.save_store.proofs.Asked.{create_err, create_ok}
use Rattle.save_store.proofs.save_job.SaveJob.begin.Goals as goal

pub returns-in_err-create-clause-any_moment : goal.returns-in_err-create-clause-any_moment
returns-in_err-create-clause-any_moment g c =
    let P = g.F.Folder.past in
    let old = P c.args.folder.now in
    failed c.args.temp (λ _. created) old old (P c.create.new.self)
    (unchanged c.args.temp old) c.in_err-create.ensures.err

pub returns-clause-any_moment : goal.returns-clause-any_moment
returns-clause-any_moment g c =
    let P = g.F.Folder.past in
    let old = P c.args.folder.now in
    changed c.args.temp (λ _. created) old old (P c.create.new.self)
    (unchanged c.args.temp old) c.in_ok-create.ensures.ok

pub returns-clause-reads : goal.returns-clause-reads
returns-clause-reads g c =
    let P = g.F.Folder.past in
    created_reads c.args.temp (P c.args.folder.now) (P c.create.new.self) c.in_ok-create.ensures.ok

pub returns-in_err-create-clause-asks : goal.returns-in_err-create-clause-asks
returns-in_err-create-clause-asks g c name =
    create_err c.args.temp name _ _ c.in_err-create.ensures.tried

pub returns-clause-asks : goal.returns-clause-asks
returns-clause-asks g c name = create_ok c.args.temp name _ _ c.in_ok-create.ensures.asked
