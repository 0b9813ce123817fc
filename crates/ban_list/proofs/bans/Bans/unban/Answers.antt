use Rattle.std.proofs.Common.{◌≡◌, not, ap, ◌∙◌, subst, sym}
use Rattle.std.specs.Prelude.{is_some}
use Rattle.ban_list.specs.Bans.{AreBans, is_of, listed}
use Rattle.ban_list.specs.declared.ban.Ban.{Ban}
use Rattle.ban_list.proofs.BanLaws.{AreBans-filter}
use Rattle.ban_list.proofs.bans.Bans.unban.Goals as goal

pub invariant_of-self : goal.invariant_of-self
invariant_of-self c = subst AreBans (sym c.drop_subnet.ensures) (AreBans-filter (λ (ban : Ban). not (is_of c.args.subnet.now ban)) c.self.inside.bans.items c.self.invariant)

pub returns-clause-found : goal.returns-clause-found
returns-clause-found c =
    let same : c.deref.result.now ≡ c.self.inside.bans.items = c.deref.ensures.value in
    c.is_some-found.ensures ∙ c.index_of.ensures.listed
    ∙ ap (λ bs. is_some (listed c.args.subnet.now bs)) (same ∙ c.self.view_is)
