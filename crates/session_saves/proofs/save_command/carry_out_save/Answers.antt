use Rattle.std.proofs.Common.{subst, sym}
use Rattle.host_io.specs.Past.{Always}
use Rattle.session_saves.proofs.Effects.{no_event, still_moments}
use Rattle.session_saves.specs.Files.{file_of}
use Rattle.session_saves.specs.Folders.{AtMost}
use Rattle.session_saves.proofs.save_command.carry_out_save.Goals as goal

pub returns-in_default-clause-any_moment : goal.returns-in_default-clause-any_moment
returns-in_default-clause-any_moment g c =
    let P = g.F.Folder.past in
    let none = no_event (file_of c.args.chain c.args.tables.now) c.args.job.now c.args.command.now
    c.in_default.not-Save c.in_default.not-SaveBegin c.in_default.not-SaveStep c.in_default.not-SaveEnd in
    subst (λ o. Always (P c.args.folder.now) (P c.args.folder.now) (AtMost o)) (sym none.1) (still_moments (P c.args.folder.now))
