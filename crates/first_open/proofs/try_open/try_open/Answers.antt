use Rattle.std.proofs.Common.{rules, ◌≡◌, ◌∙◌, Contains, ap, inr, refl, subst, sym}
use Rattle.std.specs.Prelude.{ℕ, List, false, ⊤}
use Rattle.net_addr.specs.NetSet.{all}
use Rattle.net_addr.specs.declared.peer.Peer.{Peer}
use Rattle.placing.specs.Places.{Places, group}
use Rattle.peer_rec.specs.declared.answers.Picked.{Picked}
use Rattle.peer_rec.specs.declared.answers.Picked.TheVariants.{One}
use Rattle.table_machine.specs.Picks.{select}
use Rattle.peer_open.specs.Groups.{AreApart, Outbound, groups, with_peer}
use Rattle.peer_open.specs.Verdicts.{judge}
use Rattle.peer_open.specs.declared.outbound.Verdict.TheVariants.{Take}
use Rattle.peer_open.proofs.Apart.{apart-with_peer}
use Rattle.first_open.specs.Taken.{IsTaken}
use Rattle.first_open.proofs.try_open.try_open.Goals as goal

pub returns-clause-taken : goal.returns-clause-taken
returns-clause-taken g c =
    let a = c.args in
    let picked : select a.tables.now false all a.words.now a.now ≡ One c.in-One.peer c.in-One.last_try =
    sym (ap (λ nets. select a.tables.now false nets a.words.now a.now) c.all.ensures) ∙ sym c.in-One.ensures.picked in
    let judged : judge a.opener.now (group a.placer.now c.in-One.peer.addr) c.in-One.last_try a.now a.tries ≡ Take = search rules in
    record { last_try = c.in-One.last_try; picked = picked; judged = judged }

pub returns-clause-apart : goal.returns-clause-apart
returns-clause-apart g c =
    let its_group = c.group-group.result.items in
    let none : ¬ Contains (groups c.args.opener.now) its_group = search rules in
    subst AreApart {x = with_peer c.in-One.peer its_group c.args.opener.now} (sym c.add_peer.ensures)
    (apart-with_peer c.in-One.peer its_group c.args.opener.now c.len.ensures.apart none)

pub returns-in_default : goal.returns-in_default
returns-in_default g c =
    let a = c.args in
    let none : (peer : Peer) → IsTaken a.tables.now a.placer.now a.opener.now a.words.now a.now a.tries peer → ⊥ =
    λ peer t. c.in_default.not-One peer t.last_try (c.select.ensures.picked ∙ ap (λ nets. select a.tables.now false nets a.words.now a.now) c.all.ensures ∙ t.picked) in
    record { taken = tt; «open» = tt; same = refl; none = inr none; apart = c.len.ensures.apart }

abbrev IsJudged : List Outbound → Places → ℕ → ℕ → Picked → Type 0
IsJudged open_peers places now tries (One peer last_try) =
    judge open_peers (group places peer.addr) last_try now tries ≡ Take
IsJudged open_peers places now tries other = ⊤

pub returns-then-ne-clause-none : goal.returns-then-ne-clause-none
returns-then-ne-clause-none g c =
    let a = c.args in
    let picked : select a.tables.now false all a.words.now a.now ≡ One c.in-One.peer c.in-One.last_try =
    sym (ap (λ nets. select a.tables.now false nets a.words.now a.now) c.all.ensures) ∙ sym c.in-One.ensures.picked in
    inr (λ peer t.
    let same : One peer t.last_try ≡ One c.in-One.peer c.in-One.last_try = sym t.picked ∙ picked in
    let judged : judge a.opener.now (group a.placer.now c.in-One.peer.addr) c.in-One.last_try a.now a.tries ≡ Take = subst (IsJudged a.opener.now a.placer.now a.now a.tries) same t.judged in
    let refused : judge a.opener.now (group a.placer.now c.in-One.peer.addr) c.in-One.last_try a.now a.tries ≡ Take → ⊥ = search rules in
    refused judged)
