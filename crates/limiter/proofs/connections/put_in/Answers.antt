use Rattle.std.proofs.Common.{subst, sym}
use Rattle.limiter.specs.Inside.{AreEntries}
use Rattle.limiter.proofs.Entries.{insert-entries, put-is}
use Rattle.limiter.proofs.Written.{new_is}
use Rattle.limiter.proofs.connections.put_in.Goals as goal

pub returns-in-Ok-clause-entries : goal.returns-in-Ok-clause-entries
returns-in-Ok-clause-entries g c =
    subst AreEntries (sym c.in-Ok.ensures.entries) (insert-entries _ c.args.conns.now.entries c.requires (new_is c.args.number c.args.addr c.args.unlimited c.args.now))

pub returns-in-Ok-clause-put : goal.returns-in-Ok-clause-put
returns-in-Ok-clause-put g c =
    put-is _ c.args.conns.now.entries c.insert.new.self.entries c.requires
    (subst AreEntries (sym c.in-Ok.ensures.entries) (insert-entries _ c.args.conns.now.entries c.requires (new_is c.args.number c.args.addr c.args.unlimited c.args.now)))
    c.in-Ok.ensures.updates.0
