-- What a line does to the machine.
use Rattle.std.proofs.Common.{◌≡◌, ℕ, List, sym, ap, subst, inl, inr, ⊎_elim, ◌⊎◌}
use Rattle.log_lines.specs.Spelling.{SpellsCommand}
use Rattle.log_lines.specs.declared.command.Command.{Command}
use Rattle.log_lines.specs.declared.reply.Reply.{Reply}
use Rattle.log_lines.specs.Replies.{reply_text}
use Rattle.manager.specs.Step as manager
use Rattle.session.specs.History.{History, HistoryStep}
use Rattle.session.specs.State.{CommandStep, SessionState}

-- a line leaves the machine as it is, or spells a command by which it moves
pub line_moves : (old : History) (line text : List ℕ) (new : History) → HistoryStep old line text new
    → (new.now.machine ≡ old.now.machine)
    ⊎ ((asked : Command) × (answer : Reply) × SpellsCommand line asked × manager.Step old.now.machine asked answer new.now.machine)
line_moves old line text new step = ⊎_elim (λ passed. inl (ap (λ (s : SessionState). s.machine) passed.2)) carried step.1
  where
    carried : ((asked : Command) × (answer : Reply) × SpellsCommand line asked × CommandStep old.now asked answer new.now step.0 × (text ≡ reply_text answer))
        → (new.now.machine ≡ old.now.machine) ⊎ ((asked : Command) × (answer : Reply) × SpellsCommand line asked × manager.Step old.now.machine asked answer new.now.machine)
    carried h =
        ⊎_elim (λ job. inl (ap (λ (s : SessionState). s.machine) job.2))
        (λ made. inr (h.0, h.1, h.2, subst (λ (s : SessionState). manager.Step old.now.machine h.0 h.1 s.machine) (sym made.2) made.1)) h.3
