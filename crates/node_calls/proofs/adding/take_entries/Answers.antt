use Rattle.std.proofs.Common.{◌≡◌, ◌+◌, ◌<◌, ◌≤◌, ◌∙◌, length, get_or, None, refl, ap, Bool, true, false, cond, ℕ, arith}
use mir.Val.{bool_byte}
use Rattle.std.proofs.lemmas.List.{get_or_default}
use Rattle.taking.proofs.Prefixes.{next_state, next_count}
use Rattle.node_calls.proofs.adding.take_entries.Goals as goal

-- a truth value as a number
sum_of : (b : Bool) (count more : ℕ) → more ≡ bool_byte b → count + more ≡ count + cond b 1 0
sum_of true count more e = ap (λ n. count + n) e
sum_of false count more e = ap (λ n. count + n) e

fewer : (b : Bool) (count i more : ℕ) → more ≡ bool_byte b → count ≤ i → count + more ≤ i + 1
fewer true count i more e h = omega (arith, e, h)
fewer false count i more e h = omega (arith, e, h)

pub loop-i-preserved : goal.loop-i-preserved
loop-i-preserved g c =
    let i = c.loop-i.i in
    let inv = c.loop-i.invariant in
    let entry = c.index-entries-i.result in
    let word = get_or c.args.words.now i 0 in
    let below : i < length c.args.entries.now = omega (arith, c.loop-i-test.true) in
    let at = c.index-entries-i.is ∙ get_or_default c.args.entries.now i entry None below in
    let a = c.args in
    record {
      count = next_count a.tables.now c.loop-i.tables a.now a.entries.now a.source.now a.words.now i c.loop-i.count (c.loop-i.count + c.from-count.result) c.in_ok-answer.answer entry word
          inv.state inv.count c.in_ok-answer.ensures.answer (sum_of c.in_ok-answer.answer c.loop-i.count c.from-count.result c.from-count.ensures) at refl below c.requires.words;
      state = next_state a.tables.now c.loop-i.tables c.take_entry.new.tables a.now a.entries.now a.source.now a.words.now i entry word
          inv.state c.in_ok-answer.ensures.state at refl below c.requires.words;
      numbers = omega (arith, inv.numbers, c.in_ok-answer.ensures.numbers);
      few = fewer c.in_ok-answer.answer c.loop-i.count i c.from-count.result c.from-count.ensures inv.few;
    }
