use Rattle.std.proofs.Common.{arith, ◌≡◌, ◌++◌, ◌∷◌, []}
use Rattle.wire_num.proofs.LoopLaws.{goes_on, stops, is_done}
use Rattle.wire_num.specs.Readings.{times_at}
use Rattle.addr_codecs.specs.Inside.{entry_at}
use Rattle.addr_codecs.proofs.message.take_entries.Goals as goal

pub returns-in-Err-clause-found : goal.returns-in-Err-clause-found
returns-in-Err-clause-found c = λ _. stops (λ _. entry_at c.args.form) c.loop.entries.items c.args.count c.loop.counter c.loop.rest.now c.in-Err.fault (times_at 0 c.args.count (λ _. entry_at c.args.form) c.args.bytes.now) c.loop-test.true c.in-Err.ensures c.loop.invariant.told

pub loop-preserved : goal.loop-preserved
loop-preserved c =
    let pushed : c.push.new.self.items ≡ c.loop.entries.items ++ c.in-Ok.found.0 ∷ [] = c.in_ok-push.ensures.items in
    record {
      told = rw pushed (goes_on (λ _. entry_at c.args.form) c.loop.entries.items c.args.count c.loop.counter c.loop.rest.now c.in-Ok.found.0 c.in-Ok.found.1.now (times_at 0 c.args.count (λ _. entry_at c.args.form) c.args.bytes.now) c.loop-test.true c.in-Ok.ensures c.loop.invariant.told);
      counted = omega (arith, c.loop.invariant.counted, c.in_ok-push.ensures.len);
    }

pub returns-clause-found : goal.returns-clause-found
returns-clause-found c = is_done (λ _. entry_at c.args.form) c.loop.entries.items c.args.count c.loop.counter c.loop.rest.now (times_at 0 c.args.count (λ _. entry_at c.args.form) c.args.bytes.now) c.loop-test.false c.loop.invariant.told
