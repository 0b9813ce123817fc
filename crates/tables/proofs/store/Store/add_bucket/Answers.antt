use Rattle.std.proofs.Common.{◌≡◌, ◌∙◌, ◌++◌, flat_map, ap, sym, append_assoc, arith}
use Rattle.std.specs.List.{range_with_len}
use Rattle.std.proofs.lemmas.List.{append-nil}
use Rattle.table_machine.specs.Snapshot.{listed_in, pair_at}
use Rattle.tables.specs.Inside.{state_of}
use Rattle.tables.proofs.Gathered.{flat_map-more}
use Rattle.tables.proofs.store.Store.add_bucket.Goals as goal

pub slots-init : goal.slots-init
slots-init g c = record {
  so_far = sym (append-nil c.args.listed.now.items);
  steps = omega arith;
}

pub slots-preserved : goal.slots-preserved
slots-preserved g c =
    let f = pair_at (state_of c.args.self.now) c.args.bucket in
    let before = c.args.listed.now.items in
    let slot = c.slots.slot in
    record {
      so_far =
          c.in_ok-add_slot.ensures.added
          ∙ ap (λ xs. xs ++ f slot) c.slots.invariant.so_far
          ∙ append_assoc before (flat_map f (range_with_len 0 slot)) (f slot)
          ∙ ap (λ xs. before ++ xs) (sym (flat_map-more f slot));
      steps = omega (arith, c.slots.invariant.steps, c.add_slot.ensures.steps);
    }

pub returns-clause-added : goal.returns-clause-added
unfolding listed_in
returns-clause-added g c =
    let done : c.slots.slot ≡ 64 = omega arith in
    c.slots.invariant.so_far
    ∙ ap (λ n. c.args.listed.now.items ++ flat_map (pair_at (state_of c.args.self.now) c.args.bucket) (range_with_len 0 n)) done
