use Rattle.std.proofs.Common.{◌≡◌, map, take}
use Rattle.raw_read.specs.Inside.{member_view}
use Rattle.raw_read.specs.Rows.{AreRows, next_slot}
use Rattle.raw_read.proofs.rows.read_table.Given as goal

-- the rows of the members before this one, and the number after the last one
abbrev pub invariant-loop-member : goal.invariant-loop-member
invariant-loop-member l = record {
  read : AreRows l.table 0 (map member_view (take l.member-index l.members)) l.rows.items;
  next : l.from ≡ next_slot 0 l.rows.items;
}
