use Rattle.std.proofs.lemmas.Bool.{ne_eqb}
use Rattle.risk_parts.proofs.Sums.{below_whole, is_share, whole}
use Rattle.risk_parts.proofs.parts.share_within.Goals as goal

pub returns-then-share-lt-WHOLE-clause-is : goal.returns-then-share-lt-WHOLE-clause-is
returns-then-share-lt-WHOLE-clause-is c =
    below_whole c.args.kinds.now c.args.wanted c.most-share.result (ne_eqb c.args.wanted 0 c.if-wanted-eq0.false)
    (is_share c.args.kinds.now c.most-share.result c.most-share.ensures) c.if-share-lt-WHOLE.true

pub returns-else-share-lt-WHOLE-clause-is : goal.returns-else-share-lt-WHOLE-clause-is
returns-else-share-lt-WHOLE-clause-is c =
    whole c.args.kinds.now c.args.wanted c.most-share.result (ne_eqb c.args.wanted 0 c.if-wanted-eq0.false)
    (is_share c.args.kinds.now c.most-share.result c.most-share.ensures) c.if-share-lt-WHOLE.false
