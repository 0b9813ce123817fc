use Rattle.std.proofs.Common.{rules, ◌∙◌, subst, sym}
use Rattle.std.specs.Prelude.{None}
use Rattle.host_io.specs.declared.name.Name.TheVariants.{Peers}
use Rattle.log_lines.specs.declared.reply.Reply.TheVariants.{NotSaved}
use Rattle.session_saves.specs.Events.{save_step}
use Rattle.session_saves.specs.Folders.{Effect}
use Rattle.session_saves.proofs.Effects.{asks_of, save_stepped, step_failed}
use Rattle.session_saves.proofs.events.step_line.Goals as goal

pub returns-in-Ok-clause-effect : goal.returns-in-Ok-clause-effect
returns-in-Ok-clause-effect g c =
    let P = g.F.Folder.past in
    save_stepped c.args.count _ c.args.job.now c.in-Some.open c.in-Ok.next (P c.args.folder.now) (P c.step.new.folder) _ _
    (sym c.take.ensures.value ∙ c.in-Some.is) (search rules) (search rules) (search rules) c.step.ensures.any_moment (search rules)

pub returns-in-Err-clause-effect : goal.returns-in-Err-clause-effect
returns-in-Err-clause-effect g c =
    let P = g.F.Folder.past in
    let job = c.args.job.now in
    subst (λ left. Effect (save_step c.args.count job) None NotSaved left (P c.args.folder.now) (P c.step.new.folder)
    (g.F.Folder.faults c.args.folder.now) (g.F.Folder.faults c.step.new.folder)) (sym c.take.ensures.after)
    (step_failed c.args.count job c.in-Some.open (P c.args.folder.now) (P c.step.new.folder) _ _
    (sym c.take.ensures.value ∙ c.in-Some.is) (search rules) c.step.ensures.any_moment c.in-Err.ensures.cause)

pub returns-in-Ok-clause-asks : goal.returns-in-Ok-clause-asks
returns-in-Ok-clause-asks g c = asks_of c.in-Some.open.temp _ _ (search rules) (c.step.ensures.asks Peers)

pub returns-in-Err-clause-asks : goal.returns-in-Err-clause-asks
returns-in-Err-clause-asks g c = asks_of c.in-Some.open.temp _ _ (search rules) (c.step.ensures.asks Peers)
