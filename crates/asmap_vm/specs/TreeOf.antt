-- The tree of a file. No two sane trees have the same file, so a sane file has one tree.
use Prim.Native.Nat.{zero, suc}
use Rattle.std.specs.Prelude.{◌≡◌, ℕ, Bool, true, false, List, ◌∷◌, Option, Some, None, option_and_then, length}
use Rattle.bit_code.specs.Coder.{file_bits}
use Rattle.bit_code.specs.Reading.{read_value}
use Rattle.bit_code.specs.declared.coder.Coder.TheVariants as coders
use Rattle.asmap_vm.specs.Code.{Tree, Return, Jump, Match, Default, IsSaneFile}
use Rattle.asmap_vm.specs.Matches.{match_bits}

infixl 10 ◌>>=◌
-- One step and then another, as `do` writes it; None ends it.
abbrev pub ◌>>=◌ : {A B : Type 0} → Option A → (A → Option B) → Option B
o >>= f = option_and_then f o

-- the tree, of at most this depth, that the bits begin with, and the bits after it
unfoldable pub read_tree : ℕ → List Bool → Option (Tree × List Bool)
read_tree zero bits = None
read_tree (suc depth) (false ∷ bits) = do
  asn ← read_value coders.Asn bits
  Some (Return asn.0, asn.1)
read_tree (suc depth) (true ∷ false ∷ bits) = do
  over ← read_value coders.Jump bits
  left ← read_tree depth over.1
  right ← read_tree depth left.1
  Some (Jump left.0 right.0, right.1)
read_tree (suc depth) (true ∷ true ∷ false ∷ bits) = do
  wanted ← read_value coders.Match bits
  next ← read_tree depth wanted.1
  Some (Match (match_bits wanted.0) next.0, next.1)
read_tree (suc depth) (true ∷ true ∷ true ∷ bits) = do
  asn ← read_value coders.Asn bits
  next ← read_tree depth asn.1
  Some (Default asn.0 next.0, next.1)
read_tree (suc depth) bits = None

-- the tree that was read
abbrev pub tree_read : Option (Tree × List Bool) → Tree
tree_read None = Return 0
tree_read (Some read) = read.0

-- the tree of a file
unfoldable pub tree_of : List ℕ → Tree
tree_of bytes = tree_read (read_tree (length (file_bits bytes)) (file_bits bytes))

-- no two sane trees have the same file
abbrev pub FilesHaveOneTree : Type 0
FilesHaveOneTree = (t u : Tree) (bytes : List ℕ) → IsSaneFile t bytes → IsSaneFile u bytes → t ≡ u
