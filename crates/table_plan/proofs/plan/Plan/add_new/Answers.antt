use Rattle.std.proofs.Common.{rules, ◌≡◌, ◌+◌, ◌∙◌, [], ◌∷◌, ◌++◌, List, ap, sym, subst, length}
use Rattle.peer_rec.specs.declared.rec.Rec.{Rec}
use Rattle.peer_rec.specs.declared.place.Place.TheVariants.{New}
use Rattle.table_machine.specs.Restoring.{record_of}
use Rattle.table_plan.specs.Planned.{IsPlan, state_of}
use Rattle.table_plan.proofs.Plans.{put-new, put-new_state}
use Rattle.table_plan.proofs.plan.Plan.add_new.Goals as goal

pub returns-clause-plan : goal.returns-clause-plan
returns-clause-plan c =
    let s = c.args.self.now in
    let long : c.len-number.result ≡ length s.recs.items = search rules in
    let whole : c.push.new.self.items ≡ s.recs.items ++ record_of c.args.rec.now (length s.recs.items) (New []) ∷ [] =
    c.in_ok-push.ensures.items ∙ ap (λ q. s.recs.items ++ q ∷ []) (c.of.ensures ∙ (λ i. record_of c.args.rec.now (long i) (New (c.none.ensures i)))) in
    subst (λ (rs : List Rec). IsPlan s.placer rs (s.news + 1) s.grid) (sym whole) (put-new s.placer s.recs.items s.news s.grid c.requires.plan c.requires.only c.args.rec.now)

pub returns-clause-state : goal.returns-clause-state
returns-clause-state c =
    let s = c.args.self.now in
    let long : c.len-number.result ≡ length s.recs.items = search rules in
    let whole : c.push.new.self.items ≡ s.recs.items ++ record_of c.args.rec.now (length s.recs.items) (New []) ∷ [] =
    c.in_ok-push.ensures.items ∙ ap (λ q. s.recs.items ++ q ∷ []) (c.of.ensures ∙ (λ i. record_of c.args.rec.now (long i) (New (c.none.ensures i)))) in
    ap (state_of s.placer) whole ∙ put-new_state s.placer s.recs.items s.news s.grid c.requires.plan c.args.rec.now
