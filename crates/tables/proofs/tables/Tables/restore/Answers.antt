use Rattle.std.proofs.Common.{sym, subst}
use Rattle.table_machine.specs.Sound.{IsSound}
use Rattle.table_machine.specs.Restoring.{restored}
use Rattle.tables.proofs.Restored.{state-parts, stored-parts}
use Rattle.tables.proofs.Waiters.{waiters-none}
use Rattle.tables.specs.Inside.{state_with}
use Rattle.tables.proofs.tables.Tables.restore.Goals as goal

pub invariant_of-result : goal.invariant_of-result
invariant_of-result g c =
    let p = c.in_ok-parts.parts in
    let st = restored c.args.snap.now c.args.placer in
    let sound = c.in_ok-parts.ensures.sound in
    let parts = c.in_ok-parts.ensures.parts in
    record {
      stored = stored-parts st p.placer p.grid p.index p.next_number sound parts c.new-2.result.items c.new-2.ensures;
      sound = subst IsSound (sym (state-parts st p.placer p.grid p.index p.next_number sound parts c.new.result.items c.new.ensures)) sound;
      reach = c.none.ensures p.placer;
      waiters = waiters-none (state_with p.placer p.index c.new.result.items 1 p.next_number) c.new-2.result.items c.new.ensures c.new-2.ensures;
    }

pub returns-clause-state : goal.returns-clause-state
returns-clause-state g c =
    let p = c.in_ok-parts.parts in
    state-parts (restored c.args.snap.now c.args.placer) p.placer p.grid p.index p.next_number c.in_ok-parts.ensures.sound c.in_ok-parts.ensures.parts c.new.result.items c.new.ensures

pub returns-clause-sound : goal.returns-clause-sound
returns-clause-sound g c = (invariant_of-result g c).sound
