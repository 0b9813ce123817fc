use Rattle.std.proofs.Common.{◌≡◌, ◌∙◌, ◌++◌, flat_map, ap, sym, arith}
use Rattle.std.specs.List.{range_with_len}
use Rattle.table_machine.specs.Snapshot.{listed_in, listed_of}
use Rattle.tables.specs.Inside.{state_of}
use Rattle.tables.proofs.Gathered.{flat_map-more}
use Rattle.tables.proofs.store.Store.listed.Goals as goal

pub buckets-preserved : goal.buckets-preserved
buckets-preserved g c =
    let f = listed_in (state_of c.args.self.now) in
    let bucket = c.buckets.bucket in
    record {
      so_far =
          c.in_ok-add_bucket.ensures.added
          ∙ ap (λ xs. xs ++ f bucket) c.buckets.invariant.so_far
          ∙ sym (flat_map-more f bucket);
      steps = omega (arith, c.buckets.invariant.steps, c.add_bucket.ensures.steps);
    }

pub returns-clause-found : goal.returns-clause-found
unfolding listed_of
returns-clause-found g c =
    let done : c.buckets.bucket ≡ 1024 = omega arith in
    c.buckets.invariant.so_far ∙ ap (λ n. flat_map (listed_in (state_of c.args.self.now)) (range_with_len 0 n)) done
