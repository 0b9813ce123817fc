use Rattle.std.proofs.Common.{◌≡◌, ◌≤◌, length, vec_len, vec_capacity}
use Rattle.table_machine.specs.Picks.{sample_from}
use Rattle.table_machine.specs.Sound.{IsSound}
use Rattle.picking.proofs.Drawn.{left}
use Rattle.picking.proofs.drawing.fill_by.Given as goal

-- the peers already picked, and then those of the words that are left, are the sample
abbrev pub invariant-loop-position : goal.invariant-loop-position
invariant-loop-position g l = record {
  rest : left l.classes l.now l.limit l.tables l.peers.items l.position l.rest ≡ sample_from l.fn.tables l.classes l.now 0 l.limit l.fn.words;
  few : vec_len l.peers ≤ l.limit;
  room : l.limit ≤ vec_capacity l.peers;
  order : length l.tables.order ≡ length l.fn.tables.order;
  end : l.position-end ≡ length l.tables.order;
  sound : IsSound l.tables;
}
