use Rattle.std.proofs.Common.{◌≡◌, ◌++◌, take}
use Rattle.std.specs.List.{flat_map}
use Rattle.arguments.specs.Help.{entry_text}
use Rattle.arguments.proofs.help.put_entries.Given as goal

-- the entries of the first commands are written
abbrev pub invariant-loop-name : goal.invariant-loop-name
invariant-loop-name l = l.out.items ≡ l.initial.out.items ++ flat_map (λ name. entry_text name) (take l.name-index l.names)
