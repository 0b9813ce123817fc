use Rattle.std.proofs.Common.{◌∙◌, sym}
use Rattle.node_calls.proofs.Found.{picked-known, picked-record}
use Rattle.node_calls.proofs.picks.select.Goals as goal

pub returns-clause-record : goal.returns-clause-record
returns-clause-record g c = λ peer last_try is.
    picked-record c.args.tables.now c.args.nets c.args.new_only c.args.words.now c.args.now peer last_try (sym c.count_select.ensures.picked ∙ is)

pub returns-clause-known : goal.returns-clause-known
returns-clause-known g c = λ peer last_try is.
    picked-known c.args.tables.now c.args.nets peer last_try
    (picked-record c.args.tables.now c.args.nets c.args.new_only c.args.words.now c.args.now peer last_try (sym c.count_select.ensures.picked ∙ is))
