use Rattle.std.proofs.Common.{◌≡◌, ◌↔◌, ◌∙◌, IsTrue, Contains, not, ap, rules, sym, subst}
use Rattle.arrayvec.proofs.ArrayVecLemmas.{filter-from_retain}
use Rattle.net_addr.specs.Same.{same_peer}
use Rattle.peer_open.specs.Groups.{AreApart, peers, without_peer}
use Rattle.peer_open.proofs.Apart.{apart-without_peer, is_open-Decides}
use Rattle.peer_open.proofs.opener.Opener.close_peer.Goals as goal

left : (c : goal.After-retain) → c.retain.new.self.items ≡ without_peer c.args.peer.now c.self.inside.open_peers.items
left c = filter-from_retain _ (λ o. not (same_peer o.peer c.args.peer.now)) _ (λ x b f' y called. search rules) _ _ c.retain.ensures.filtered

pub invariant_of-self : goal.invariant_of-self
invariant_of-self c = subst AreApart (sym (left c)) (apart-without_peer c.args.peer.now c.self.inside.open_peers.items c.self.invariant)

pub returns-clause-without : goal.returns-clause-without
returns-clause-without c = left c ∙ ap (without_peer c.args.peer.now) c.self.view_is

pub returns-clause-known : goal.returns-clause-known
returns-clause-known c =
    subst (λ b. IsTrue b ↔ Contains (peers c.args.self.now) c.args.peer.now) (sym c.is_open-was_open.ensures) (is_open-Decides c.args.peer.now c.args.self.now)
