use Rattle.std.proofs.Common.{All, ◌≤◌, take}
use Rattle.tables.proofs.saving.past_ids.Given as goal

abbrev pub invariant-loop-id : goal.invariant-loop-id
invariant-loop-id l = All (λ n. n ≤ l.last) (take l.id-index l.ids)
