use Rattle.std.proofs.Common.{rules}
use Rattle.tables.proofs.Scans.{are-more, is-old}
use Rattle.tables.proofs.duplicates.is_repeated.Goals as goal

pub returns-clause-repeated : goal.returns-clause-repeated
returns-clause-repeated g c earlier are =
    is-old earlier c.args.peers.now c.args.rec c.in_ok-is_new.is_new are (search rules) c.in_ok-is_new.ensures.new

pub returns-clause-all : goal.returns-clause-all
returns-clause-all g c earlier are fresh =
    are-more earlier c.args.peers.now c.add.new.self c.args.rec are (search rules) c.in_ok-is_new.ensures.peers
