-- The difference of two maps of addresses to numbers, as prefixes: `diff` of
-- contrib/asmap/asmap-tool.py in Bitcoin Core. A map is a function of the address bits, high bit
-- first. The prefixes are the largest on which both maps are constant and differ.
use Rattle.std.specs.Prelude.{◌≡◌, ◌==◌, ◌&&◌, ℕ, zero, suc, ◌-◌, ◌^◌, Bool, true, false, List, [], ◌∷◌, ◌++◌, ◌+◌, map, length, Option, Some, None, if◌then◌else◌, ⊤}
use Rattle.bit_code.specs.Prefixes.{begins_with}
use Rattle.asmap_vm.specs.Code.{Tree, meaning}
use Rattle.asmap_back.specs.Back.{first_at}
use Rattle.map_diff.specs.declared.changed.ChangedPrefix.{ChangedPrefix}

-- a prefix, and the two numbers that all its addresses have
pub record Change : Type 0 where
  pub path : List Bool
  pub old : ℕ
  pub new : ℕ

-- what two maps say under a prefix: one pair of numbers for all addresses, or else the changes
pub data Part : Type 0 where
  Same : (old new : ℕ) → Part
  Mixed : (changes : List Change) → Part

-- a map of the addresses that begin with this bit
abbrev pub after_bit : Bool → (List Bool → ℕ) → List Bool → ℕ
after_bit b f bits = f (b ∷ bits)

-- the change with one bit more before its prefix
abbrev pub under_bit : Bool → Change → Change
under_bit b c = record { path = b ∷ c.path; old = c.old; new = c.new }

-- all addresses, if their two numbers differ
unfoldable pub unless_equal : ℕ → ℕ → List Change
unless_equal a b = if a == b then [] else record { path = []; old = a; new = b } ∷ []

-- the changes of a part
unfoldable pub changes_of : Part → List Change
changes_of (Same a b) = unless_equal a b
changes_of (Mixed cs) = cs

-- Two pairs of numbers, an old and a new one each, are equal.
abbrev pub same_pair : ℕ → ℕ → ℕ → ℕ → Bool
same_pair a b c d = (a == c) && (b == d)

-- two sides that are not one pair
abbrev pub both : Part → Part → Part
both l r = Mixed (map (under_bit false) (changes_of l) ++ map (under_bit true) (changes_of r))

-- a part by its two sides
unfoldable pub joined : Part → Part → Part
joined (Same a b) (Same c d) =
    if same_pair a b c d then Same a b else both (Same a b) (Same c d)
joined (Same a b) (Mixed cs) = both (Same a b) (Mixed cs)
joined (Mixed cs) r = both (Mixed cs) r

-- the part of two maps of addresses of n bits
unfoldable pub part : ℕ → (List Bool → ℕ) → (List Bool → ℕ) → Part
part zero f g = Same (f []) (g [])
part (suc n) f g =
    joined (part n (after_bit false f) (after_bit false g))
    (part n (after_bit true f) (after_bit true g))

-- the changes of two maps of addresses of n bits, in the order of their prefixes
abbrev pub changes : ℕ → (List Bool → ℕ) → (List Bool → ℕ) → List Change
changes n f g = changes_of (part n f g)

-- the numbers of the first change that covers an address
unfoldable pub first_over : List Change → List Bool → Option (ℕ × ℕ)
first_over [] bits = None
first_over (c ∷ cs) bits =
    if begins_with bits c.path then Some (c.old, c.new) else first_over cs bits

-- two numbers, unless they are equal
unfoldable pub if_differing : ℕ → ℕ → Option (ℕ × ℕ)
if_differing a b = if a == b then None else Some (a, b)

-- both maps are constant on the prefix of the change, and differ there
pub record IsChange (n : ℕ) (f g : List Bool → ℕ) (c : Change) : Type 0 where
  pub differ : (c.old == c.new) ≡ false
  pub constant : (bits : List Bool) → length bits ≡ n → begins_with bits c.path ≡ true
      → (f bits ≡ c.old) × (g bits ≡ c.new)

-- each of the changes is one of the two maps
abbrev pub EachIsChange : ℕ → (List Bool → ℕ) → (List Bool → ℕ) → List Change → Type 0
EachIsChange n f g [] = ⊤
EachIsChange n f g (c ∷ cs) = IsChange n f g c × EachIsChange n f g cs

-- changes of two maps, which cover each address to which these give two numbers
pub record AreChanges (n : ℕ) (f g : List Bool → ℕ) (cs : List Change) : Type 0 where
  pub each : EachIsChange n f g cs
  pub all : (bits : List Bool) → length bits ≡ n → (f bits == g bits) ≡ false
      → (first_over cs bits ≡ None) → ⊥

-- how many addresses of n bits begin with the prefix of the change
abbrev pub span_of : ℕ → Change → ℕ
span_of n c = 2 ^ (n - length c.path)

-- how many addresses of n bits the two maps give two numbers
unfoldable pub differing : ℕ → (List Bool → ℕ) → (List Bool → ℕ) → ℕ
differing zero f g = if f [] == g [] then 0 else 1
differing (suc n) f g =
    differing n (after_bit false f) (after_bit false g)
    + differing n (after_bit true f) (after_bit true g)

-- the map of a tree
abbrev pub map_of : Tree → List Bool → ℕ
map_of t bits = meaning t bits 0

-- a change below a path
abbrev pub changed_at : List Bool → Change → ChangedPrefix
changed_at p c = record {
  bits = first_at (p ++ c.path);
  len = length (p ++ c.path);
  old = c.old;
  new = c.new;
}

-- the changed prefixes from the tree of one asmap to that of another one
abbrev pub changed_prefixes : Tree → Tree → List ChangedPrefix
changed_prefixes old new = map (changed_at []) (changes 128 (map_of old) (map_of new))
