use Rattle.addrman_run.proofs.Compiling.{kept, old_or_new}
use Rattle.addrman_run.proofs.compile.compile_table.Goals as goal

pub returns-in-Err-clause-any_moment : goal.returns-in-Err-clause-any_moment
returns-in-Err-clause-any_moment g c =
    kept (g.F.Folder.past c.args.folder.now) (g.F.Folder.past c.load_present.new.folder) c.load_present.ensures.same

pub returns-in-Ok-new_asmap-clause-any_moment : goal.returns-in-Ok-new_asmap-clause-any_moment
returns-in-Ok-new_asmap-clause-any_moment g c =
    let P = g.F.Folder.past in
    let old = P c.args.folder.now in
    old_or_new old (P c.load_present.new.folder) (P c.save_then_write.new.folder) c.code-file.result.now c.in-Ok-new_asmap.made.file.bytes
    c.in-Ok-new_asmap.made.line.items c.load_present.ensures.same c.code-file.ensures
    (c.in-Ok-new_asmap.ensures.found old c.in-Ok.ensures.found) c.save_then_write.ensures.any_moment

pub returns-in-Err-new_asmap-clause-any_moment : goal.returns-in-Err-new_asmap-clause-any_moment
returns-in-Err-new_asmap-clause-any_moment g c =
    kept (g.F.Folder.past c.args.folder.now) (g.F.Folder.past c.load_present.new.folder) c.load_present.ensures.same
