use Rattle.std.proofs.Common.{◌≡◌, IfSome, sym, ◌∙◌, subst}
use Rattle.limiter.specs.Inside.{IsConn}
use Rattle.limiter.proofs.Entries.{lookup-is, found-both}
use Rattle.limiter.proofs.Written.{of_copied, second}
use Rattle.limiter.proofs.connections.find_in.Goals as goal

pub returns-clause-found : goal.returns-clause-found
returns-clause-found g c = c.get.ensures.value ∙ lookup-is c.args.number c.args.conns.now.entries c.requires

pub returns-clause-conn : goal.returns-clause-conn
returns-clause-conn g c =
    of_copied IsConn c.get.result (second c.args.number _ (subst (λ o. IfSome o (λ d. (d.number ≡ c.args.number) × IsConn d)) (sym c.get.ensures.value) (found-both c.args.number c.args.conns.now.entries c.requires)))
