-- Documents of XML 1.0 in which nothing is escaped: the text of one tree of elements.
use Rattle.std.specs.Prelude.{◌≡◌, ℕ, ◌==◌, ◌&&◌, ◌||◌, not, nat_le, Bool, true, false, List, [], ◌∷◌, ◌++◌, bytes_eq, codes}
use Rattle.std.specs.List.{list_all, list_any}
pub use Rattle.table_groups.specs.Plain.{IsPlain, is_plain}

-- character data: the same, and line feeds
abbrev pub is_character : ℕ → Bool
is_character b = is_plain b || b == 10

-- A letter of ASCII.
abbrev pub is_letter : ℕ → Bool
is_letter b = nat_le 97 b && nat_le b 122 || nat_le 65 b && nat_le b 90

-- a name: a letter, and after it letters and hyphens
abbrev pub is_name : List ℕ → Bool
is_name [] = false
is_name (b ∷ bs) = is_letter b && list_all (λ c. is_letter c || c == 45) bs

-- an attribute: its name and its value
abbrev pub Attribute : Type 0
Attribute = List ℕ × List ℕ

-- A name and a value that may stand in a tag.
abbrev pub is_attribute : Attribute → Bool
is_attribute a = is_name a.0 && list_all is_plain a.1

-- no attribute name appears more than once in the same tag
abbrev pub are_unique : List Attribute → Bool
are_unique [] = true
are_unique (a ∷ more) = not (list_any (λ b. bytes_eq a.0 b.0) more) && are_unique more

-- a start-tag or an empty-element tag
abbrev pub is_tag : List ℕ → List Attribute → Bool
is_tag name attributes = is_name name && (list_all is_attribute attributes && are_unique attributes)

-- attributes, each a name and a value, and the text after them
abbrev pub attributes_text : List Attribute → List ℕ → List ℕ
attributes_text [] rest = rest
attributes_text (a ∷ more) rest =
    codes " " ++ (a.0 ++ (codes "=\"" ++ (a.1 ++ (codes "\"" ++ attributes_text more rest))))

-- an element with what is in it, and the text after it
abbrev pub element : List ℕ → List Attribute → List ℕ → List ℕ → List ℕ
element name attributes inner rest =
    codes "<" ++ (name ++ attributes_text attributes
    (codes ">" ++ (inner ++ (codes "</" ++ (name ++ (codes ">" ++ rest))))))

-- an element with nothing in it, and the text after it
abbrev pub single : List ℕ → List Attribute → List ℕ → List ℕ
single name attributes rest = codes "<" ++ (name ++ attributes_text attributes (codes "/>" ++ rest))

-- the content of an element: character data and elements, each with what comes after it
pub data Content : Type 0 where
  end : Content
  characters : (text : List ℕ) → (after : Content) → Content
  empty : (name : List ℕ) → (attributes : List Attribute) → (after : Content) → Content
  nested : (name : List ℕ) → (attributes : List Attribute) → (inner after : Content)
      → Content

-- All names, attributes and character data in a content are in form.
abbrev pub is_content : Content → Bool
is_content Content.end = true
is_content (Content.characters text after) = list_all is_character text && is_content after
is_content (Content.empty name attributes after) = is_tag name attributes && is_content after
is_content (Content.nested name attributes inner after) =
    is_tag name attributes && (is_content inner && is_content after)

-- The text of a content.
abbrev pub content_text : Content → List ℕ
content_text Content.end = []
content_text (Content.characters text after) = text ++ content_text after
content_text (Content.empty name attributes after) = single name attributes (content_text after)
content_text (Content.nested name attributes inner after) =
    element name attributes (content_text inner) (content_text after)

-- A document: one root element of this name, and a line feed.
pub record IsTree (root text : List ℕ) : Type 0 where
  pub attributes : List Attribute
  pub content : Content
  pub tag : is_tag root attributes ≡ true
  pub inside : is_content content ≡ true
  pub whole : text ≡ element root attributes (content_text content) (codes "\n")
