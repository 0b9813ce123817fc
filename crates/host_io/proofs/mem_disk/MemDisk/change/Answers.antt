use Rattle.std.proofs.Common.{◌∙◌, ap, [], ◌∷◌, ◌++◌}
use Rattle.host_io.proofs.Changes.{entries_with}
use Rattle.host_io.proofs.mem_disk.MemDisk.change.Goals as goal

pub invariant_of-self-2 : goal.invariant_of-self-2
invariant_of-self-2 c =
    entries_with c.self.inside.first c.self.inside.changes.items c.push_reserved.new.self.items
    c.args.change c.self.inside.entries c.make_change.new.entries
    c.self.invariant c.in_ok-make_change.ensures.ok
    (c.push_reserved.ensures.items ∙ ap (λ xs. xs ++ c.args.change ∷ []) c.reserve.ensures.items)
