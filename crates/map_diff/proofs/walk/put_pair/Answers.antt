use Rattle.std.proofs.Common.{◌≡◌, List, Bool, Option, Some, None, subst}
use Rattle.map_diff.specs.Diff.{Part}
use Rattle.map_diff.specs.Inside.{IsRead}
use Rattle.map_diff.specs.declared.changed.ChangedPrefix.{ChangedPrefix}
use Rattle.map_diff.specs.declared.walk.Pair.{Pair}
use Rattle.map_diff.proofs.Results.{on_ok}
use Rattle.map_diff.proofs.Joins.{mixed_put, pair_put}
use Rattle.map_diff.proofs.walk.put_pair.Goals as goal

-- what was read, by the pair that it is known to be
read_by : (p : List Bool) (whole : Part) (rows between : List ChangedPrefix) (pair known : Option Pair) → pair ≡ known → IsRead p whole rows between pair → IsRead p whole rows between known
read_by p whole rows between pair known e h = subst (λ x. IsRead p whole rows between x) e h

pub returns-in-Some-clause-put : goal.returns-in-Some-clause-put
returns-in-Some-clause-put c =
    on_ok c.put_change.result _ _ (λ put p whole rows long first h.
    pair_put p whole c.in-Some.pair rows c.args.rows.now.items c.put_change.new.rows.items (read_by p whole rows _ c.args.pair (Some c.in-Some.pair) c.in-Some.is h) (put p long first))
    c.put_change.ensures.put

pub returns-in-None-clause-put : goal.returns-in-None-clause-put
returns-in-None-clause-put c = λ p whole rows long first h.
    mixed_put p whole rows c.args.rows.now.items (read_by p whole rows _ c.args.pair None c.in-None.is h)
