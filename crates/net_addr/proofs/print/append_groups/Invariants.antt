use Rattle.std.proofs.Common.{◌≡◌, ◌≤◌, ◌+◌, ◌*◌, ◌∷◌, ◌++◌, get_or, take}
use Rattle.arrayvec.specs.ArrayVec.{array_vec_len}
use Rattle.std.specs.Net.Text.{groups_text}
use Rattle.net_addr.proofs.print.append_groups.Given as goal

-- the groups so far
abbrev pub invariant-loop-segment : goal.invariant-loop-segment
invariant-loop-segment g l = record {
  items : l.out.items ≡ l.fn.out.items ++ groups_text (get_or l.segments 0 0 ∷ take l.segment-index l.rest);
  short : array_vec_len l.out ≤ array_vec_len l.fn.out + 4 + 5 * l.segment-index;
}
