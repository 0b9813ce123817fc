use Rattle.std.proofs.Common.{Contains, [], ◌∷◌, ◌++◌, sym, subst}
use Rattle.peer_open.specs.Groups.{AreApart, groups}
use Rattle.peer_open.proofs.Apart.{apart-with_peer}
use Rattle.peer_open.proofs.opener.Opener.add_counted.Goals as goal

pub invariant_of-self : goal.invariant_of-self
invariant_of-self c =
    let before = c.self.inside.open_peers.items in
    subst AreApart (sym c.push.ensures.items)
    (subst (λ o. AreApart (before ++ o ∷ [])) (sym c.of.ensures)
    (apart-with_peer c.args.peer c.args.group.items before c.self.invariant
    (subst (λ os. ¬ Contains (groups os) c.args.group.items) (sym c.self.view_is) c.requires.group)))
