-- What a checked file holds.
use Rattle.std.specs.Prelude.{ℕ, List}
use Rattle.asmap_vm.specs.Code.{Tree}
use Rattle.asmap_vm.specs.TreeOf.{tree_of}
use Rattle.asmap_vm.specs.declared.sane.Sane.{Sane}

-- its bytes
abbrev pub bytes_held : Sane → List ℕ
bytes_held s = s.code.now

-- its tree
abbrev pub tree_held : Sane → Tree
tree_held s = tree_of (bytes_held s)
