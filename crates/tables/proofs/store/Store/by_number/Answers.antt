use Rattle.std.proofs.Common.{rules, ◌≡◌, ◌∙◌, ℕ, ap, length, map, subst, sym}
use Rattle.std.specs.Prelude.{IsPermutation}
use Rattle.std.proofs.lemmas.List.{length-map}
use Rattle.std.proofs.lemmas.List.Sorted.{IsNonDecreasingBy-from_sort_by_key, length_permutation}
use Rattle.tables.specs.Inside.{state_of}
use Rattle.tables.specs.Saving.{LeadTo, number_id}
use Rattle.tables.proofs.Gathered.{lead-sorted}
use Rattle.tables.proofs.Listing.{rising-numbers}
use Rattle.tables.proofs.store.Store.by_number.Goals as goal

pub returns-clause-lead : goal.returns-clause-lead
returns-clause-lead g c =
    let store = c.args.self.now in
    let ys = c.sort_unstable_by_key.new.self.items in
    let moved : IsPermutation (map number_id store.index) ys =
    subst (λ xs. IsPermutation xs ys) c.in_ok-pairs.ensures.listed c.sort_unstable_by_key.ensures.permutation in
    let own : c.in_ok-ids.ids.items ≡ map (λ (p : ℕ × ℕ). p.1) ys = search rules in
    subst (LeadTo store.index (state_of store).records) (sym own)
    (lead-sorted store.index store.next_number ys c.requires.stored.index c.requires.stored.numbers c.requires.sound.order
    (rising-numbers (state_of store).records c.requires.sound.rising) moved
    (IsNonDecreasingBy-from_sort_by_key (λ p. p.0) ys c.sort_unstable_by_key.ensures.sorted (λ a r q k. search rules)))

pub returns-clause-count : goal.returns-clause-count
returns-clause-count g c =
    let store = c.args.self.now in
    let ys = c.sort_unstable_by_key.new.self.items in
    let moved : IsPermutation (map number_id store.index) ys =
    subst (λ xs. IsPermutation xs ys) c.in_ok-pairs.ensures.listed c.sort_unstable_by_key.ensures.permutation in
    let own : c.in_ok-ids.ids.items ≡ map (λ (p : ℕ × ℕ). p.1) ys = search rules in
    ap length own
    ∙ length-map ys (λ (p : ℕ × ℕ). p.1)
    ∙ length_permutation (map number_id store.index) ys moved
    ∙ length-map store.index number_id
