use Rattle.std.proofs.Common.{◌≡◌, ◌++◌, ◌∷◌, [], ◌-◌, ◌∙◌, sym, ap, arith, rules}
use Rattle.std.specs.Int.{w32}
use Rattle.std.proofs.lemmas.List.{append-nil}
use Rattle.wire_num.specs.Readings.{times_at, le_at}
use Rattle.wire_num.proofs.LoopLaws.{goes_on, stops, is_done, starts, with_front}
use Rattle.peers_file.specs.Layout.{pairs_with}
use Rattle.peers_file.specs.Readings.{field_at}
use Rattle.peers_file.proofs.BucketLaws.{ReadIndexes, pair_added, pair_passed, none_paired, all_paired}
use Rattle.peers_file.proofs.repeated.take_pairs.Goals as goal
use Rattle.peers_file.proofs.repeated.take_pairs.Goals.{then-index-new_count+in_ok-push, else-index-new_count}

pub loop-init : goal.loop-init
loop-init c =
    let all : ReadIndexes = times_at 0 c.args.count (λ _. field_at (le_at w32)) c.args.bytes.now in
    let whole : c.args.count - 0 ≡ c.args.count = omega arith in
    ([], sym (append-nil c.args.listed.now.items), ap (λ k. with_front [] (times_at 0 k (λ _. field_at (le_at w32)) c.args.bytes.now)) whole ∙ starts all)

pub returns-in-Err : goal.returns-in-Err
returns-in-Err c = λ _.
    (let all : ReadIndexes = times_at 0 c.args.count (λ _. field_at (le_at w32)) c.args.bytes.now in
    let front = c.loop.invariant.0 in
    none_paired c.args.new_count c.args.bucket all c.in-Err.fault
    (stops (λ _. field_at (le_at w32)) front c.args.count c.loop.counter c.loop.rest.now c.in-Err.fault all c.loop-test.true c.in-Err.ensures c.loop.invariant.2))

pub loop-preserved : goal.loop-preserved
loop-preserved c =
    let all : ReadIndexes = times_at 0 c.args.count (λ _. field_at (le_at w32)) c.args.bytes.now in
    let front = c.loop.invariant.0 in
    let i = c.in-Ok.found.0 in (
      front ++ i ∷ [],
      elim c.if-index-new_count.branch [
        | then-index-new_count+in_ok-push w ↦ pair_added c.args.new_count c.args.bucket i front c.args.listed.now.items c.loop.listed.items c.if-index-new_count.listed.items c.loop.invariant.1 (search rules) (search rules)
        | else-index-new_count w ↦ pair_passed c.args.new_count c.args.bucket i front c.args.listed.now.items c.loop.listed.items c.if-index-new_count.listed.items c.loop.invariant.1 (search rules) (search rules)
      ],
      goes_on (λ _. field_at (le_at w32)) front c.args.count c.loop.counter c.loop.rest.now i c.in-Ok.found.1.now all c.loop-test.true c.in-Ok.ensures c.loop.invariant.2,
    )

pub returns : goal.returns
returns c =
    let all : ReadIndexes = times_at 0 c.args.count (λ _. field_at (le_at w32)) c.args.bytes.now in
    let front = c.loop.invariant.0 in (
      pairs_with c.args.new_count c.args.bucket front,
      c.loop.invariant.1,
      all_paired c.args.new_count c.args.bucket all front c.loop.rest.now
          (is_done (λ _. field_at (le_at w32)) front c.args.count c.loop.counter c.loop.rest.now all c.loop-test.false c.loop.invariant.2),
    )
