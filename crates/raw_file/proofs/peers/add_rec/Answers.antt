use Rattle.std.proofs.Common.{rules}
use Rattle.raw_file.proofs.Facts.{is_known_peer, is_new_peer}
use Rattle.raw_file.proofs.peers.add_rec.Goals as goal

pub returns-then-is_new-clause-differs : goal.returns-then-is_new-clause-differs
returns-then-is_new-clause-differs c = is_new_peer c.args.recs.now.items c.args.rec c.in_ok-at.is_new (search rules) c.if-is_new.true

pub returns-clause-differs : goal.returns-clause-differs
returns-clause-differs c =
    is_known_peer c.args.recs.now.items c.args.rec c.index.result.now c.in_ok-at.at c.in_ok-at.is_new c.says_same.result
    (search rules) (search rules) c.if-is_new.false c.index.ensures c.says_same.ensures
