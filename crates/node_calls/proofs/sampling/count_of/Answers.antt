use Rattle.std.proofs.Common.{map, arith}
use Rattle.std.proofs.lemmas.List.{length-map}
use Rattle.std.proofs.lemmas.List.Sorted.{length_permutation}
use Rattle.peer_rec.specs.declared.rec.Rec.{Rec}
use Rattle.node_calls.proofs.sampling.count_of.Goals as goal

-- the order names each record once
pub returns-clause-records : goal.returns-clause-records
returns-clause-records g c =
    let st = c.args.tables.now in
    let numbers = map (λ (r : Rec). r.number) st.records in
    omega (
      arith,
      c.counts-counts.ensures.total,
      length_permutation numbers st.order c.counts-counts.ensures.sound.order,
      length-map st.records (λ (r : Rec). r.number),
    )
