use Rattle.std.proofs.Common.{rules, ◌≡◌, ◌∙◌, true, false, ap, sym, subst, slice_get, IsSomeAnd}
use Rattle.placing.specs.Places.{new_bucket}
use Rattle.table_machine.specs.Restoring.{give_if_empty}
use Rattle.table_plan.specs.Planned.{HasSpace, state_of}
use Rattle.table_plan.proofs.Plans.{has-space, place-passed, place-turn, there-at}
use Rattle.table_plan.proofs.plan.Plan.place.Goals as goal

pub returns-then-not-is_placeable-clause-state : goal.returns-then-not-is_placeable-clause-state
returns-then-not-is_placeable-clause-state g c =
    let s = c.args.self.now in
    let passed : c.is_placeable.result ≡ false = search rules in
    place-passed s.placer s.recs.items s.news s.grid c.requires.plan c.args.are_used c.args.bucket c.args.index c.index-rec.result.now c.requires.index c.index-rec.ensures
    (sym c.is_placeable.ensures.value ∙ passed)

pub give_listed-requires-clause-room : goal.give_listed-requires-clause-room
give_listed-requires-clause-room g c =
    let s = c.args.self.now in
    let turn : c.is_placeable.result ≡ true = search rules in
    has-space s.placer s.recs.items s.news s.grid c.requires.plan c.args.are_used c.args.bucket c.args.index c.index-rec.result.now c.requires.index c.index-rec.ensures
    (c.is_placeable.ensures.room turn)

pub returns-then-give_listed-clause-state : goal.returns-then-give_listed-clause-state
returns-then-give_listed-clause-state g c =
    let s = c.args.self.now in
    let r = c.index-rec.result.now in
    let turn : c.is_placeable.result ≡ true = search rules in
    let given : c.give_listed.result ≡ true = search rules in
    let st = state_of s.placer s.recs.items in
    c.give_listed.ensures.given r (give_if_empty st r (new_bucket s.placer r.peer r.source) st)
    (there-at s.placer s.recs.items s.news s.grid c.requires.plan c.args.are_used c.args.bucket c.args.index r c.requires.index c.index-rec.ensures) given
    ∙ sym (place-turn s.placer s.recs.items s.news s.grid c.requires.plan c.args.are_used c.args.bucket c.args.index r c.requires.index c.index-rec.ensures
    (sym c.is_placeable.ensures.value ∙ turn))

pub give_if_empty-requires-clause-room : goal.give_if_empty-requires-clause-room
give_if_empty-requires-clause-room g c =
    let s = c.args.self.now in
    let turn : c.is_placeable.result ≡ true = search rules in
    let same = c.give_listed.ensures.same (let none : c.give_listed.result ≡ false = search rules in none) in
    let room = has-space s.placer s.recs.items s.news s.grid c.requires.plan c.args.are_used c.args.bucket c.args.index c.index-rec.result.now c.requires.index c.index-rec.ensures
    (c.is_placeable.ensures.room turn) in
    subst (λ p. IsSomeAnd (slice_get p.recs.items c.args.index) HasSpace) (sym same) room

pub returns-clause-state : goal.returns-clause-state
returns-clause-state g c =
    let s = c.args.self.now in
    let r = c.index-rec.result.now in
    let turn : c.is_placeable.result ≡ true = search rules in
    let none : c.give_listed.result ≡ false = search rules in
    let same = c.give_listed.ensures.same none in
    let at = there-at s.placer s.recs.items s.news s.grid c.requires.plan c.args.are_used c.args.bucket c.args.index r c.requires.index c.index-rec.ensures in
    let st = state_of s.placer s.recs.items in
    let own = new_bucket s.placer r.peer r.source in
    c.give_if_empty.ensures.state r (ap (λ p. slice_get p.recs.items c.args.index) same ∙ at)
    ∙ (λ i. give_if_empty (state_of (same i).placer (same i).recs.items) r c.new_bucket-own.result (state_of (same i).placer (same i).recs.items))
    ∙ ap (λ b. give_if_empty st r b st) (c.new_bucket-own.ensures.value ∙ (λ i. new_bucket (same i).placer (c.peer.ensures i) (c.source.ensures i)))
    ∙ sym (c.give_listed.ensures.taken r (give_if_empty st r own st) at none)
    ∙ sym (place-turn s.placer s.recs.items s.news s.grid c.requires.plan c.args.are_used c.args.bucket c.args.index r c.requires.index c.index-rec.ensures
    (sym c.is_placeable.ensures.value ∙ turn))
