use Rattle.std.proofs.Common.{rules}
use Rattle.peer_open.specs.declared.outbound.Verdict.TheVariants.{SameGroup}
use Rattle.peer_open.proofs.Judged.{judged_so}
use Rattle.peer_open.proofs.opener.Opener.judge.Goals as goal

pub returns-then-has_group-clause-same_group : goal.returns-then-has_group-clause-same_group
returns-then-has_group-clause-same_group c = (judged_so SameGroup c.args.self.now c.args.group.now c.args.last_try c.args.now c.args.tries (search rules)).0

pub returns-then-has_group-clause-recent : goal.returns-then-has_group-clause-recent
returns-then-has_group-clause-recent c = (judged_so SameGroup c.args.self.now c.args.group.now c.args.last_try c.args.now c.args.tries (search rules)).1

pub returns-else-has_group-clause-same_group : goal.returns-else-has_group-clause-same_group
returns-else-has_group-clause-same_group c = (judged_so c.judge_feeler.result c.args.self.now c.args.group.now c.args.last_try c.args.now c.args.tries (search rules)).0

pub returns-else-has_group-clause-recent : goal.returns-else-has_group-clause-recent
returns-else-has_group-clause-recent c = (judged_so c.judge_feeler.result c.args.self.now c.args.group.now c.args.last_try c.args.now c.args.tries (search rules)).1
