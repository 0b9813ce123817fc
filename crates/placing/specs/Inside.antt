-- How a placer is stored.
use Rattle.std.specs.Prelude.{Option, Some, None, option_map}
use Rattle.asmap_vm.specs.Asmap.{Asmap}
use Rattle.asmap_vm.specs.Held.{bytes_held, tree_held}
use Rattle.asmap_vm.specs.declared.sane.Sane.{Sane}
use Rattle.placing.specs.declared.placer.Map.{Map}
use Rattle.placing.specs.declared.placer.Map.TheVariants as own

-- the asmap that a checked file holds
abbrev pub asmap_of : Sane → Asmap
asmap_of s = record { file = bytes_held s; tree = tree_held s }

-- The asmap of a checked file, if there is one.
abbrev pub map_of : Option Sane → Option Asmap
map_of s = option_map asmap_of s

-- The asmap that a placer stores: none, one of a borrowed file, or its own.
abbrev pub map_in : Map → Option Asmap
map_in own.None = None
map_in (own.Lent s) = Some (asmap_of s)
map_in (own.Owned s) = Some s
