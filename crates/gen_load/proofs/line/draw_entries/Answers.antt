use Rattle.std.proofs.Common.{◌≡◌, ◌<◌, ℕ, suc, ◌+◌, ◌-◌, List, [], ◌∷◌, ◌++◌, length, take, sym, ap, ◌∙◌, arith, append_assoc}
use Rattle.std.proofs.Common.{append-nil}
use Rattle.std.proofs.lemmas.List.{length-set, take_more_set}
use Rattle.net_addr.specs.declared.peer.Entry.{Entry}
use Rattle.gen_load.specs.declared.position.Position.{Position}
use Rattle.gen_load.specs.Log.{past, draw_entry, draw_entries, past_entries}
use Rattle.gen_load.proofs.line.draw_entries.Goals as goal

-- an entry more, and one less to come
entry_more : (es more : List Entry) (at next : Position) (entry : Entry) (left less : ℕ) (all : List Entry) → es ++ draw_entries left at ≡ all → left ≡ suc less →
    more ≡ es ++ entry ∷ [] → entry ≡ draw_entry at → next ≡ past (past at) → more ++ draw_entries less next ≡ all
entry_more es more at next entry left less all whole e items is moved =
    ap (λ xs. xs ++ draw_entries less next) items
    ∙ append_assoc es (entry ∷ []) (draw_entries less next)
    ∙ (λ i. es ++ is i ∷ draw_entries less (moved i))
    ∙ ap (λ n. es ++ draw_entries n at) (sym e)
    ∙ whole

position_more : (at next end : Position) (left less : ℕ) → past_entries left at ≡ end → left ≡ suc less → next ≡ past (past at) → past_entries less next ≡ end
position_more at next end left less whole e moved = ap (past_entries less) moved ∙ ap (λ n. past_entries n at) (sym e) ∙ whole

-- nothing is to come
all_entries : (es all : List Entry) (at : Position) (left : ℕ) → es ++ draw_entries left at ≡ all → left ≡ 0 → es ≡ all
all_entries es all at left whole none = sym (append-nil es) ∙ ap (λ n. es ++ draw_entries n at) (sym none) ∙ whole

at_end : (at end : Position) (left : ℕ) → past_entries left at ≡ end → left ≡ 0 → at ≡ end
at_end at end left whole none = ap (λ n. past_entries n at) (sym none) ∙ whole

pub loop-i-init : goal.loop-i-init
loop-i-init c = record {
  late = c.requires.past_day;
  whole = ap (λ n. draw_entries n c.args.position.now) none;
  end = ap (λ n. past_entries n c.args.position.now) none;
  size = cc;
}
  where
    none : c.args.count - 0 ≡ c.args.count
    none = omega arith

pub draw_entry-requires : goal.draw_entry-requires
draw_entry-requires c = c.loop-i.invariant.late

pub loop-i-preserved : goal.loop-i-preserved
loop-i-preserved c = record {
  late = omega (arith, c.loop-i.invariant.late, c.draw_entry.ensures.time);
  whole = entry_more (take c.loop-i.i c.loop-i.entries) _ c.loop-i.position c.draw_entry.new.self c.draw_entry.result (c.args.count - c.loop-i.i) (c.args.count - (c.loop-i.i + 1))
      _ c.loop-i.invariant.whole less (take_more_set c.loop-i.entries c.loop-i.i c.draw_entry.result inside) c.draw_entry.ensures.value c.draw_entry.ensures.past;
  end = position_more c.loop-i.position c.draw_entry.new.self _ (c.args.count - c.loop-i.i) (c.args.count - (c.loop-i.i + 1)) c.loop-i.invariant.end less c.draw_entry.ensures.past;
  size = length-set c.loop-i.entries c.loop-i.i c.draw_entry.result ∙ c.loop-i.invariant.size;
}
  where
    less : c.args.count - c.loop-i.i ≡ suc (c.args.count - (c.loop-i.i + 1))
    less = omega (arith, c.loop-i-test.true)

    inside : c.loop-i.i < length c.loop-i.entries
    inside = omega (arith, c.loop-i-test.true, c.requires.room, c.loop-i.invariant.size)

pub returns-clause-entries : goal.returns-clause-entries
returns-clause-entries c = ap (λ n. take n c.loop-i.entries) (sym at_count) ∙ all_entries (take c.loop-i.i c.loop-i.entries) _ c.loop-i.position (c.args.count - c.loop-i.i) c.loop-i.invariant.whole (omega (arith, at_count))
  where
    at_count : c.loop-i.i ≡ c.args.count
    at_count = omega (arith, c.loop-i-test.false, c.loop-i.auto.i-end)

pub returns-clause-after : goal.returns-clause-after
returns-clause-after c = at_end c.loop-i.position _ (c.args.count - c.loop-i.i) c.loop-i.invariant.end (omega (arith, c.loop-i-test.false, c.loop-i.auto.i-end))
