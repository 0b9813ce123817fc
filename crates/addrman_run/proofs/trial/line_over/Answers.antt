use Rattle.std.proofs.Common.{◌≡◌, ap, ◌∙◌}
use Rattle.session.specs.State as session
use Rattle.addrman_run.specs.Trial.{IsTrial, sizes_text, with_counts, with_sum}
use Rattle.addrman_run.proofs.Trials.{few_lines, is_trial, ok_weaker}
use Rattle.addrman_run.proofs.trial.line_over.Goals as goal

pub replies_to-requires-clause-few : goal.replies_to-requires-clause-few
replies_to-requires-clause-few g c = few_lines c.args.start c.args.lines c.make.result c.make.ensures c.requires.few

pub replies_to-requires-clause-empty : goal.replies_to-requires-clause-empty
replies_to-requires-clause-empty g c = ap (λ (s : session.SessionState). s.machine.tables.next_number) c.requires.begins

pub replies_to-requires-clause-is_open : goal.replies_to-requires-clause-is_open
replies_to-requires-clause-is_open g c = ap (λ (s : session.SessionState). s.job) c.requires.begins

pub returns : goal.returns
returns g c =
    ok_weaker c.line_of.result (λ line. line.items ≡ with_sum (with_counts (sizes_text c.args.lines c.in_ok-replies.replies.bytes) c.counts-counts.result) c.in_ok-replies.replies.sum)
    (λ line. IsTrial c.args.start c.args.lines line.items)
    (λ line is. is_trial c.args.start c.args.lines c.in_ok-replies.replies.bytes c.in_ok-replies.replies.sum line.items c.make.result _ c.replies_to.new.session c.tables.result.now c.counts-counts.result
    c.requires.begins
    c.make.ensures c.in_ok-replies.ensures (c.lines_spell_commands.ensures.cut c.args.start c.args.lines c.requires.few) (c.tables.ensures ∙ ap (λ m. m.tables) c.manager.ensures)
    c.counts-counts.ensures.new c.counts-counts.ensures.tried c.counts-counts.ensures.clashes is)
    c.line_of.ensures
