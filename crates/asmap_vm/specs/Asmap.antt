-- An asmap that a node uses.
use Rattle.std.specs.Prelude.{ℕ, List, refl}
use Rattle.std.specs.Coded.{Coded, code_by, coded×, coded_ℕ, coded_list}
use Rattle.asmap_vm.specs.Code.{Tree, IsSaneFile}
use Rattle.asmap_vm.specs.CodedTree.{tree_code}

-- the bytes of its file, and the tree that they are the file of
pub record Asmap : Type 0 where
  pub file : List ℕ
  pub tree : Tree

-- The file of the asmap is the sane file of its tree.
abbrev pub IsAsmap : Asmap → Type 0
IsAsmap m = IsSaneFile m.tree m.file

-- an asmap is stored as the two
abbrev pub coded_asmap : Coded Asmap
coded_asmap =
    code_by (List ℕ × Tree) (coded× (coded_list coded_ℕ) tree_code) (λ m. (m.file, m.tree))
    (λ p. record { file = p.0; tree = p.1 }) (λ _. refl)
