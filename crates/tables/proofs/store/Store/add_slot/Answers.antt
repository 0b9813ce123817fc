use Rattle.std.proofs.Common.{rules, ◌≡◌, ◌∙◌, ◌++◌, ◌∷◌, [], ap, sym}
use Rattle.std.proofs.lemmas.List.{append-nil}
use Rattle.std.proofs.lemmas.Option.{slice_get_within}
use Rattle.table_machine.specs.Snapshot.{index_in, new_records, pair_of}
use Rattle.tables.specs.Inside.{state_of}
use Rattle.tables.proofs.Changes.{occupant-none}
use Rattle.tables.proofs.Gathered.{slot-known}
use Rattle.tables.proofs.Searches.{some_is}
use Rattle.tables.proofs.store.Store.add_slot.Goals as goal

pub index_at-index-requires : goal.index_at-index-requires
index_at-index-requires g c =
    let s = c.args.self.now in
    let known = slot-known s.placer s.index s.grid s.next_number s.clashes.items s.last_good c.requires.stored c.args.bucket c.args.slot c.in-Some.id c.requires.bucket c.requires.slot
    (sym c.new_at.ensures.id ∙ c.in-Some.is) c.args.indexes.now c.requires.indexes in
    slice_get_within c.args.indexes.now c.in-Some.id (index_in (new_records (state_of s)) known.0) known.2

pub returns-in_ok-push-in-Some-clause-added : goal.returns-in_ok-push-in-Some-clause-added
returns-in_ok-push-in-Some-clause-added g c =
    let s = c.args.self.now in
    let before = c.args.listed.now.items in
    let bucket = c.args.bucket in
    let known = slot-known s.placer s.index s.grid s.next_number s.clashes.items s.last_good c.requires.stored bucket c.args.slot c.in-Some.id c.requires.bucket c.requires.slot
    (sym c.new_at.ensures.id ∙ c.in-Some.is) c.args.indexes.now c.requires.indexes in
    let index : c.index_at-index.result ≡ index_in (new_records (state_of s)) known.0 =
    some_is c.index_at-index.result (index_in (new_records (state_of s)) known.0) (sym c.index_at-index.ensures ∙ known.2) in
    let own : c.from.result ≡ bucket = search rules in
    c.in_ok-push-in-Some.ensures.items
    ∙ (λ i. before ++ (own i, index i) ∷ [])
    ∙ ap (λ o. before ++ pair_of (state_of s) bucket o) (sym known.1)

pub returns-in-None-clause-added : goal.returns-in-None-clause-added
returns-in-None-clause-added g c =
    let s = c.args.self.now in
    let before = c.args.listed.now.items in
    let none = occupant-none s.placer s.index s.grid s.next_number s.clashes.items s.last_good c.requires.stored c.args.bucket c.args.slot c.requires.bucket c.requires.slot
    (sym c.new_at.ensures.id ∙ c.in-None.is) in
    sym (append-nil before) ∙ ap (λ o. before ++ pair_of (state_of s) c.args.bucket o) (sym none)
