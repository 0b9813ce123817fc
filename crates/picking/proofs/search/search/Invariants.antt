use Rattle.std.proofs.Common.{◌≡◌, ◌+◌, ◌*◌, ◌≤◌, ◌^◌, ◌++◌, [], length, option_to_list, IfNone}
use Rattle.table_machine.specs.Picks.{candidates, first_accepted, first_factor}
use Rattle.picking.proofs.search.search.Given as goal

-- the words that are left find what all words find
abbrev pub invariant-loop-next : goal.invariant-loop-next
invariant-loop-next g l = record {
  rest : first_accepted l.now l.factor (candidates l.tables l.in_new l.nets (option_to_list l.next ++ l.rest))
      ≡ first_accepted l.now first_factor (candidates l.tables l.in_new l.nets l.fn.words);
  ended : IfNone l.next (l.rest ≡ []);
  max : l.factor ≤ 2 ^ 60;
  steps : l.steps + 65 * length (option_to_list l.next ++ l.rest) ≤ l.fn.steps + 65 * length l.fn.words;
}

abbrev pub decreases-loop-next : goal.decreases-loop-next
decreases-loop-next g l = length (option_to_list l.next ++ l.rest)
