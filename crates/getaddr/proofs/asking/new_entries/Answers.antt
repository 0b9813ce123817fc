use Rattle.getaddr.proofs.Told.{changes_order}
use Rattle.getaddr.proofs.asking.new_entries.Goals as goal

pub returns-in_err-entries_of-clause-order : goal.returns-in_err-entries_of-clause-order
returns-in_err-entries_of-clause-order g c =
    changes_order c.args.tables.now c.sample_by.new.tables 1000 23 c.told_nets.result c.args.words c.args.now c.in_ok-peers.ensures.state

pub returns-clause-order : goal.returns-clause-order
returns-clause-order g c =
    changes_order c.args.tables.now c.sample_by.new.tables 1000 23 c.told_nets.result c.args.words c.args.now c.in_ok-peers.ensures.state
