-- The asmap that a table of prefixes compiles to: a tree by paths. A path is a list of address
-- bits, high bit first. The instructions are those of Bitcoin Core's util/asmap.cpp. The choice
-- of a tree for a table is our own.
use Prim.Native.Nat.{zero, suc}
use Rattle.std.specs.Prelude.{◌==◌, ℕ, Bool, true, false, not, ◌&&◌, List, [], ◌∷◌, ◌++◌, filter, take, drop, nat_lt}
use Rattle.std.specs.List.{list_any}
use Rattle.bit_code.specs.Prefixes.{begins_with}
use Rattle.asmap_vm.specs.Code.{Tree, Return, Jump, Match, Default}
use Rattle.prefix_table.specs.declared.rows.Row.{Row}
use Rattle.prefix_table.specs.Rows.{path, number_at}

-- the rows that are shorter than this many bits
abbrev pub shorter_than : ℕ → List Row → List Row
shorter_than len rows = filter (λ row. nat_lt row.len len) rows

-- whether a row stays: the longest row that is a proper prefix of it has another number, or there
-- is no such row
unfoldable pub stays : List Row → Row → Bool
stays rows row = not (number_at (shorter_than row.len rows) (path row) == row.asn)

-- the rows that stay
abbrev pub rows_kept : List Row → List Row
rows_kept rows = filter (stays rows) rows

-- whether the path is a row
unfoldable pub is_row : List Row → List Bool → Bool
is_row rows p = list_any (λ row. begins_with (path row) p && begins_with p (path row)) rows

-- whether a row extends the path, and has this bit next
unfoldable pub goes_on : List Row → List Bool → Bool → Bool
goes_on rows p side = list_any (λ row. begins_with (path row) (p ++ side ∷ [])) rows

-- How rows extend a path properly: at an end not at all, at a single path through one next bit, at
-- a forked one through both.
pub data Onward : Type 0 where
  End : Onward
  Single : (side : Bool) → Onward
  Forked : Onward

-- by whether rows extend it through a zero-bit, and through a one-bit
abbrev pub onward_by : Bool → Bool → Onward
onward_by false false = End
onward_by true false = Single false
onward_by false true = Single true
onward_by true true = Forked

-- Where the rows below a path go on.
abbrev pub onward : List Row → List Bool → Onward
onward rows p = onward_by (goes_on rows p false) (goes_on rows p true)

-- The bits from a path to the first path that is a row or is forked, which it may be itself. At
-- most `left` bits can follow.
unfoldable pub stretch : ℕ → List Row → List Bool → List Bool
stretch zero rows p = []
stretch (suc left) rows p = elim (is_row rows p) [
  | true ↦ []
  | false ↦ elim (onward rows p) [
    | End ↦ []
    | Single side ↦ side ∷ stretch left rows (p ++ side ∷ [])
    | Forked ↦ []
  ]
]

-- the bits as matches before a tree: eight bits in each, and in the last the one to eight that are
-- left over; at most `count` matches
unfoldable pub matches : ℕ → List Bool → Tree → Tree
matches zero bits t = t
matches (suc count) [] t = t
matches (suc count) (b ∷ bits) t = Match (take 8 (b ∷ bits)) (matches count (drop 8 (b ∷ bits)) t)

-- the tree under a default, if another one holds before it
unfoldable pub under_default : ℕ → ℕ → Tree → Tree
under_default default before t = elim (default == before) [ true ↦ t | false ↦ Default default t ]

-- The tree of a path, if this default holds before it. At most `left` bits can follow. An end
-- returns the path's number. At a fork the next bit is taken, and the default stays. From a single
-- path on the default is the path's number, and the bits up to the next row or fork are matched.
unfoldable pub tree_at : ℕ → List Row → List Bool → ℕ → Tree
tree_at zero rows p default = Return (number_at rows p)
tree_at (suc left) rows p default = elim (onward rows p) [
  | End ↦ Return (number_at rows p)
  | Single side ↦
      let bits = side ∷ stretch left rows (p ++ side ∷ []) in
      under_default (number_at rows p) default
      (matches 16 bits (tree_at left rows (p ++ bits) (number_at rows p)))
  | Forked ↦
      Jump (tree_at left rows (p ++ false ∷ []) default)
      (tree_at left rows (p ++ true ∷ []) default)
]

-- the tree of a table: of the rows that stay, from the empty path on, with the default 0
unfoldable pub compiled : List Row → Tree
compiled rows = tree_at 128 (rows_kept rows) [] 0
