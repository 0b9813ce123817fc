use Rattle.std.proofs.Common.{refl, ◌≡◌, ◌∙◌, ap, sym, subst, is_some, false, set}
use Rattle.std.specs.Prelude.{slice_get}
use Rattle.std.proofs.lemmas.Option.{get_or_from_slice_get}
use Rattle.net_addr.specs.declared.peer.Peer.{Peer}
use Rattle.placing.specs.Places.{new_slot}
use Rattle.slot_grid.specs.Slots.{new_id}
use Rattle.peer_rec.specs.Rec.{is_tried}
use Rattle.peer_rec.specs.declared.rec.Rec.{Rec}
use Rattle.table_plan.specs.Planned.{IsPlan, state_of}
use Rattle.table_plan.proofs.Plans.{give-new, give-new_state, some-by, some-of, with_one}
use Rattle.table_plan.proofs.plan.Plan.give_if_empty.Goals as goal

-- the record at the index
pub returns-clause-plan : goal.returns-clause-plan
returns-clause-plan g c =
    let s = c.args.self.now in
    let h = some-of (slice_get s.recs.items c.args.index) c.requires.room in
    let r = h.0 in
    let is : c.index-rec.result.now ≡ r = c.index-rec.ensures ∙ get_or_from_slice_get s.recs.items c.args.index r c.index-rec.result.now h.1 in
    let own : c.index_mut.result.now ≡ r = c.index_mut.ensures.value ∙ get_or_from_slice_get s.recs.items c.args.index r c.index_mut.result.now h.1 in
    let same : c.give_bucket.new.self ≡ with_one r c.args.bucket = c.give_bucket.ensures ∙ ap (λ (q : Rec). with_one q c.args.bucket) own in
    let empty : is_some (new_id s.grid c.args.bucket c.new_slot-slot.result) ≡ false = ap is_some (sym c.new_at.ensures.id) ∙ sym c.is_some.ensures ∙ c.if-is_some.false in
    let slot_is : c.new_slot-slot.result ≡ new_slot s.placer r.peer c.args.bucket = c.new_slot-slot.ensures.value ∙ ap (λ (p : Peer). new_slot s.placer p c.args.bucket) (c.peer.ensures ∙ ap (λ (q : Rec). q.peer) is) in
    subst (λ (q : Rec). IsPlan s.placer (set s.recs.items c.args.index q) s.news c.set_new.new.self) (sym same)
    (give-new s.placer s.recs.items s.news s.grid c.requires.plan c.args.index c.args.bucket c.new_slot-slot.result r h.1 h.2.untried slot_is c.requires.bucket c.new_slot-slot.ensures.below empty
    c.set_new.new.self c.set_new.ensures.written c.set_new.ensures.others c.set_new.ensures.tried)

pub returns-clause-given : goal.returns-clause-given
returns-clause-given g c r other at yes_is =
    let s = c.args.self.now in
    let is : c.index-rec.result.now ≡ r = c.index-rec.ensures ∙ get_or_from_slice_get s.recs.items c.args.index r c.index-rec.result.now at in
    let own : c.index_mut.result.now ≡ r = c.index_mut.ensures.value ∙ get_or_from_slice_get s.recs.items c.args.index r c.index_mut.result.now at in
    let same : c.give_bucket.new.self ≡ with_one r c.args.bucket = c.give_bucket.ensures ∙ ap (λ (q : Rec). with_one q c.args.bucket) own in
    let empty : is_some (new_id s.grid c.args.bucket c.new_slot-slot.result) ≡ false = ap is_some (sym c.new_at.ensures.id) ∙ sym c.is_some.ensures ∙ c.if-is_some.false in
    let slot_is : c.new_slot-slot.result ≡ new_slot s.placer r.peer c.args.bucket = c.new_slot-slot.ensures.value ∙ ap (λ (p : Peer). new_slot s.placer p c.args.bucket) (c.peer.ensures ∙ ap (λ (q : Rec). q.peer) is) in
    let untried : is_tried r ≡ false = some-by (slice_get s.recs.items c.args.index) r at c.requires.room in
    ap (λ (q : Rec). state_of s.placer (set s.recs.items c.args.index q)) same
    ∙ give-new_state s.placer s.recs.items s.news s.grid c.requires.plan c.args.index c.args.bucket c.new_slot-slot.result r at untried slot_is c.requires.bucket c.new_slot-slot.ensures.below empty other

pub returns-clause-state : goal.returns-clause-state
returns-clause-state g c r at = returns-clause-given g c r (state_of c.args.self.now.placer c.args.self.now.recs.items) at refl
