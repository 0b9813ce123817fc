use Rattle.std.proofs.Common.{rules, ◌≡◌, ◌∙◌, [], ◌∷◌, ◌++◌, List, ap, sym, subst, length, is_some, true, Some}
use Rattle.net_addr.specs.Ranges.{is_valid}
use Rattle.peer_rec.specs.declared.rec.Rec.{Rec}
use Rattle.peer_rec.specs.declared.place.Place.TheVariants.{Tried}
use Rattle.table_machine.specs.Restoring.{record_of}
use Rattle.table_plan.specs.Planned.{IsPlan, state_of}
use Rattle.table_plan.proofs.Plans.{put-tried, put-tried_state}
use Rattle.table_plan.proofs.plan.Plan.add_tried.Goals as goal

pub returns-clause-plan : goal.returns-clause-plan
returns-clause-plan g c =
    let s = c.args.self.now in
    let bucket = c.tried_bucket-bucket.ensures in
    let slot = c.tried_slot-slot.ensures in
    let long : c.len-number.result ≡ length s.recs.items = search rules in
    let whole : c.push.new.self.items ≡ s.recs.items ++ record_of c.args.rec.now (length s.recs.items) Tried ∷ [] =
    c.in_ok-push.ensures.items
    ∙ ap (λ q. s.recs.items ++ q ∷ []) (c.of.ensures ∙ (λ i. record_of c.args.rec.now (long i) Tried)) in
    subst (λ (rs : List Rec). IsPlan s.placer rs s.news c.set_tried.new.self) (sym whole)
    (put-tried s.placer s.recs.items s.news s.grid c.requires.plan c.args.rec.now c.tried_bucket-bucket.result c.tried_slot-slot.result bucket.value slot.value bucket.below slot.below
    (ap is_some (sym c.tried_at.ensures.id) ∙ sym c.is_some.ensures ∙ c.if-is_some.false)
    c.set_tried.new.self (c.set_tried.ensures.written ∙ ap Some long) c.set_tried.ensures.others c.set_tried.ensures.new)

pub returns-clause-state : goal.returns-clause-state
returns-clause-state g c =
    let s = c.args.self.now in
    let bucket = c.tried_bucket-bucket.ensures in
    let slot = c.tried_slot-slot.ensures in
    let long : c.len-number.result ≡ length s.recs.items = search rules in
    let valid : is_valid c.args.rec.now.peer.addr ≡ true = search rules in
    ap (state_of s.placer) (c.in_ok-push.ensures.items
    ∙ ap (λ q. s.recs.items ++ q ∷ []) (c.of.ensures ∙ (λ i. record_of c.args.rec.now (long i) Tried)))
    ∙ put-tried_state s.placer s.recs.items s.news s.grid c.requires.plan c.args.rec.now c.tried_bucket-bucket.result c.tried_slot-slot.result bucket.value slot.value bucket.below slot.below
    (ap is_some (sym c.tried_at.ensures.id) ∙ sym c.is_some.ensures ∙ c.if-is_some.false) valid
