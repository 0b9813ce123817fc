use Rattle.std.proofs.Common.{rules, ◌≡◌, ◌∙◌, ◌+◌, ◌<◌, ◌≤◌, ◌^◌, Bool, true, false, All, map, filter, not, take, get_or, length, ap, sym, subst, refl, arith}
use Rattle.std.specs.Prelude.{vec_len}
use Rattle.std.proofs.lemmas.List.{get_or_default, length-map, take_all}
use Rattle.peer_rec.specs.Rec.{is_tried}
use Rattle.tables.specs.Filled.{blank}
use Rattle.table_machine.specs.Snapshot.{file_rec}
use Rattle.tables.specs.Inside.{state_of}
use Rattle.tables.proofs.Gathered.{AreKnown, as-long, indexes-all, known-new, known-tried, lead-at, new-first, new-more, tried-more}
use Rattle.tables.proofs.Searches.{some_is}
use Rattle.tables.proofs.store.Store.gather.Goals as goal

pub get-requires : goal.get-requires
get-requires g c =
    let s = c.args.self.now in
    let l = c.loop-id in
    let within : l.id-index < length c.args.ids.now = search rules in
    let found = lead-at s.index (state_of s).records c.args.ids.now c.requires.lead l.id-index blank within in
    search (rules, found)

pub add-requires-clause-id : goal.add-requires-clause-id
add-requires-clause-id g c =
    let l = c.loop-id in
    let within : l.id-index < length c.args.ids.now = search rules in
    let below = c.requires.below l.id-index 0 within in
    omega (arith, l.invariant.size, below)

pub add-requires-clause-few : goal.add-requires-clause-few
add-requires-clause-few g c =
    let l = c.loop-id in
    let few = new-first (state_of c.args.self.now) l.id-index l.gathered.new_recs.items c.requires.sound l.invariant.new in
    let long : length l.gathered.new_recs.items < 2 ^ 32 = omega (arith, few) in
    search (rules, long)

pub loop-id-init : goal.loop-id-init
loop-id-init g c = record {
  new = c.requires.new;
  tried = c.requires.tried;
  known = λ j less. absurd (omega arith);
  size = refl;
  steps = omega arith;
}

pub loop-id-preserved : goal.loop-id-preserved
loop-id-preserved g c =
    let s = c.args.self.now in
    let st = state_of s in
    let l = c.loop-id in
    let k = l.id-index in
    let ids = c.args.ids.now in
    let r = c.get.result.now in
    let within : k < length ids = search rules in
    let inside : k < length st.records = omega (arith, within, as-long s.index st.records ids c.requires.lead) in
    let is : r ≡ get_or st.records k blank =
    some_is r (get_or st.records k blank) (sym c.get.ensures.found ∙ lead-at s.index st.records ids c.requires.lead k blank within) in
    let own : r ≡ get_or st.records k r = is ∙ get_or_default st.records k blank r inside in
    record {
      new = c.in_ok-add.ensures.new ∙ new-more st.records k r l.gathered.new_recs.items inside own l.invariant.new;
      tried = c.in_ok-add.ensures.tried ∙ tried-more st.records k r l.gathered.tried_recs.items inside own l.invariant.tried;
      known = by is within (is_tried r) refl;
      size = c.add.ensures.size ∙ l.invariant.size;
      steps = omega (arith, l.invariant.steps, c.get.ensures.steps);
    }
  where
    by : c.get.result.now ≡ get_or (state_of c.args.self.now).records c.loop-id.id-index blank
        → c.loop-id.id-index < length c.args.ids.now
        → (b : Bool) → is_tried c.get.result.now ≡ b
        → AreKnown (state_of c.args.self.now).records c.args.ids.now c.add.new.self.indexes.items (c.loop-id.id-index + 1)
    by is within true tried =
        subst (λ v. AreKnown (state_of c.args.self.now).records c.args.ids.now v.items (c.loop-id.id-index + 1)) (sym (c.add.ensures.same tried))
        (known-tried c.args.self.now.index (state_of c.args.self.now) c.args.ids.now c.requires.lead c.requires.sound c.loop-id.id-index within c.get.result.now is
        c.loop-id.gathered.indexes.items c.loop-id.invariant.known tried)
    by is within false untried =
        let size : length c.loop-id.gathered.indexes.items ≡ vec_len c.args.gathered.now.indexes = let same = c.loop-id.invariant.size in search (rules, same) in
        let below = c.requires.below c.loop-id.id-index 0 within in
        subst (λ v. AreKnown (state_of c.args.self.now).records c.args.ids.now v (c.loop-id.id-index + 1)) (sym (c.add.ensures.indexes untried))
        (known-new c.args.self.now.index (state_of c.args.self.now) c.args.ids.now c.requires.lead c.requires.sound c.loop-id.id-index within c.get.result.now is
        c.loop-id.gathered.indexes.items c.loop-id.invariant.known (length c.loop-id.gathered.new_recs.items) (omega (arith, size, below))
        (ap length c.loop-id.invariant.new ∙ length-map (filter (λ q. not (is_tried q)) (take c.loop-id.id-index (state_of c.args.self.now).records)) file_rec))

pub returns-clause-new : goal.returns-clause-new
returns-clause-new g c =
    let s = c.args.self.now in
    let recs = (state_of s).records in
    let l = c.loop-id in
    let all : length c.args.ids.now ≤ l.id-index = search rules in
    l.invariant.new
    ∙ ap (λ rs. map file_rec (filter (λ r. not (is_tried r)) rs)) (take_all l.id-index recs (omega (arith, all, as-long s.index recs c.args.ids.now c.requires.lead)))

pub returns-clause-tried : goal.returns-clause-tried
returns-clause-tried g c =
    let s = c.args.self.now in
    let recs = (state_of s).records in
    let l = c.loop-id in
    let all : length c.args.ids.now ≤ l.id-index = search rules in
    l.invariant.tried
    ∙ ap (λ rs. map file_rec (filter is_tried rs)) (take_all l.id-index recs (omega (arith, all, as-long s.index recs c.args.ids.now c.requires.lead)))

pub returns-clause-indexes : goal.returns-clause-indexes
returns-clause-indexes g c =
    let s = c.args.self.now in
    let l = c.loop-id in
    let all : length c.args.ids.now ≤ l.id-index = search rules in
    let size : length l.gathered.indexes.items ≡ vec_len c.args.gathered.now.indexes = let same = l.invariant.size in search (rules, same) in
    let below : All (λ n. n < length l.gathered.indexes.items) c.args.ids.now =
    λ k d within. let low = c.requires.below k d within in omega (arith, size, low) in
    indexes-all s.index s.next_number (state_of s) c.args.ids.now l.gathered.indexes.items l.id-index c.requires.stored.numbers c.requires.lead c.requires.sound l.invariant.known all below
