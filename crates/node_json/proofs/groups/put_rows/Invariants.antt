use Rattle.std.proofs.Common.{◌≡◌, ◌++◌, take}
use Rattle.node_json.specs.Inside.{rows_tokens}
use Rattle.node_json.proofs.groups.put_rows.Given as goal

-- the objects of the rows before this one
abbrev pub invariant-loop-row : goal.invariant-loop-row
invariant-loop-row l = l.json ≡ l.fn.json ++ rows_tokens l.placer (take l.row-index l.rows)
