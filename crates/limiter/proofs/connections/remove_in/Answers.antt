use Rattle.std.proofs.Common.{ap, sym, ◌∙◌, subst, is_some}
use Rattle.limiter.specs.Inside.{AreEntries}
use Rattle.limiter.proofs.Entries.{lookup-is, gone-is}
use Rattle.limiter.proofs.Removed.{removed-entries}
use Rattle.limiter.proofs.connections.remove_in.Goals as goal

pub returns-clause-answer : goal.returns-clause-answer
returns-clause-answer g c = c.is_some.ensures ∙ ap is_some (c.swap_remove.ensures.value ∙ lookup-is c.args.number c.args.conns.now.entries c.requires)

pub returns-clause-entries : goal.returns-clause-entries
returns-clause-entries g c = subst AreEntries (sym c.swap_remove.ensures.entries) (removed-entries c.args.number c.args.conns.now.entries c.requires)

pub returns-clause-out : goal.returns-clause-out
returns-clause-out g c =
    gone-is c.args.number c.args.conns.now.entries c.swap_remove.new.self.entries c.requires
    (subst AreEntries (sym c.swap_remove.ensures.entries) (removed-entries c.args.number c.args.conns.now.entries c.requires))
    c.swap_remove.ensures.updates.0
