use Rattle.std.proofs.Common.{rules, ◌∙◌, subst, sym}
use Rattle.std.specs.Option.{option_map}
use Rattle.log_lines.specs.declared.reply.Reply.TheVariants.{NotSaved, Saved}
use Rattle.save_store.specs.Job.{whole}
use Rattle.session_saves.specs.Events.{save_end}
use Rattle.session_saves.specs.Folders.{Effect}
use Rattle.session_saves.proofs.Effects.{asks_of, job_failed, job_saved}
use Rattle.session_saves.proofs.events.end_line.Goals as goal

pub returns-in-Ok-clause-effect : goal.returns-in-Ok-clause-effect
returns-in-Ok-clause-effect g c =
    let P = g.F.Folder.past in
    let job = c.args.job.now in
    subst (λ left. Effect (save_end job) (option_map whole job) Saved left (P c.args.folder.now) (P c.end.new.folder)
    (g.F.Folder.faults c.args.folder.now) (g.F.Folder.faults c.end.new.folder)) (sym c.take.ensures.after)
    (job_saved job c.in-Some.open (P c.args.folder.now) (P c.end.new.folder) _ _ (sym c.take.ensures.value ∙ c.in-Some.is) (search rules)
    c.end.ensures.any_moment (search rules))

pub returns-in-Err-clause-effect : goal.returns-in-Err-clause-effect
returns-in-Err-clause-effect g c =
    let P = g.F.Folder.past in
    let job = c.args.job.now in
    subst (λ left. Effect (save_end job) (option_map whole job) NotSaved left (P c.args.folder.now) (P c.end.new.folder)
    (g.F.Folder.faults c.args.folder.now) (g.F.Folder.faults c.end.new.folder)) (sym c.take.ensures.after)
    (job_failed job c.in-Some.open (P c.args.folder.now) (P c.end.new.folder) _ _ (sym c.take.ensures.value ∙ c.in-Some.is) (search rules)
    c.end.ensures.any_moment c.in-Err.ensures.cause)

pub returns-in-Ok-clause-asks : goal.returns-in-Ok-clause-asks
returns-in-Ok-clause-asks g c = asks_of c.in-Some.open.temp _ _ (search rules) c.end.ensures.asks

pub returns-in-Err-clause-asks : goal.returns-in-Err-clause-asks
returns-in-Err-clause-asks g c = asks_of c.in-Some.open.temp _ _ (search rules) c.end.ensures.asks
