-- Values of JSON whose members have a stated order, and their text.
use Rattle.std.specs.Prelude.{◌≡◌, ℕ, List, [], ◌∷◌, ◌++◌, Some, decimal, codes, ◌==◌, if◌then◌else◌, IsUtf8}
use Rattle.json.specs.Json.{Json, Items, Members, number, object, array, no_members, member, no_items, item, document}
use Rattle.json.specs.Layout.{pretty}
use Rattle.json.specs.Tree.{json_tokens}

-- a name and a value
abbrev pub Member : Type 0
Member = List ℕ × Json

-- The members of an object, in this order.
abbrev pub members_of : List Member → Members
members_of [] = no_members
members_of (m ∷ ms) = member m.0 m.1 (members_of ms)

-- The elements of an array, in this order.
abbrev pub items_of : List Json → Items
items_of [] = no_items
items_of (j ∷ js) = item j (items_of js)

-- the object with these members, in this order
abbrev pub object_of : List Member → Json
object_of ms = object (members_of ms)

-- The array with these elements, in this order.
abbrev pub array_of : List Json → Json
array_of js = array (items_of js)

-- a whole number
abbrev pub json_number : ℕ → Json
json_number n = number (decimal n)

-- a member with a number, left out if it is 0
abbrev pub unless_zero : List ℕ → ℕ → List Member
unless_zero name n = if n == 0 then [] else (name, json_number n) ∷ []

-- the text of a value: a line for each member, indented by two spaces a level, and a line feed at
-- the end
abbrev pub json_text : Json → List ℕ
json_text value = pretty (json_tokens value) ++ codes "\n"

-- The text of a value, which is UTF-8, and without its line feed reads as the value, by the grammar
-- of RFC 8259.
pub record IsJsonText (value : Json) (text : List ℕ) : Type 0 where
  pub whole : text ≡ json_text value
  pub utf8 : IsUtf8 (pretty (json_tokens value))
  pub reads : document (pretty (json_tokens value)) ≡ Some value
