-- Texts of the content of an element, put together.
use Rattle.std.proofs.Common.{◌≡◌, ◌⊎◌, inl, inr, ℕ, ◌==◌, ◌&&◌, ◌||◌, Bool, true, List, [], ◌∷◌, ◌++◌, codes, refl, sym, ap, ◌∙◌, append_assoc}
use Rattle.std.specs.List.{list_all}
use Rattle.std.proofs.lemmas.Bool.{and_from, and_parts}
use Rattle.std.proofs.lemmas.List.{append-nil}
use Rattle.picture_text.specs.Markup.{Attribute, Content, IsPlain, IsTree, are_unique, attributes_text, content_text, element, is_attribute, is_character, is_content, is_name, is_plain, is_tag, single}

-- a text of some content
pub record IsContent (text : List ℕ) : Type 0 where
  pub content : Content
  pub proper : is_content content ≡ true
  pub is : content_text content ≡ text

-- ---- one content after another

abbrev joined : Content → Content → Content
joined Content.end d = d
joined (Content.characters text after) d = Content.characters text (joined after d)
joined (Content.empty name attributes after) d = Content.empty name attributes (joined after d)
joined (Content.nested name attributes inner after) d = Content.nested name attributes inner (joined after d)

attributes-append : (attributes : List Attribute) (x y : List ℕ) → attributes_text attributes x ++ y ≡ attributes_text attributes (x ++ y)
attributes-append [] x y = refl
attributes-append (a ∷ more) x y =
    ap (λ (t : List ℕ). codes " " ++ t) (append_assoc a.0 (codes "=\"" ++ (a.1 ++ (codes "\"" ++ attributes_text more x))) y
    ∙ ap (λ (t : List ℕ). a.0 ++ (codes "=\"" ++ t)) (append_assoc a.1 (codes "\"" ++ attributes_text more x) y
    ∙ ap (λ (t : List ℕ). a.1 ++ (codes "\"" ++ t)) (attributes-append more x y)))

single-append : (name : List ℕ) (attributes : List Attribute) (x y : List ℕ) → single name attributes x ++ y ≡ single name attributes (x ++ y)
single-append name attributes x y =
    ap (λ (t : List ℕ). codes "<" ++ t) (append_assoc name (attributes_text attributes (codes "/>" ++ x)) y
    ∙ ap (λ (t : List ℕ). name ++ t) (attributes-append attributes (codes "/>" ++ x) y))

element-append : (name : List ℕ) (attributes : List Attribute) (inner x y : List ℕ) → element name attributes inner x ++ y ≡ element name attributes inner (x ++ y)
element-append name attributes inner x y =
    ap (λ (t : List ℕ). codes "<" ++ t) (append_assoc name (attributes_text attributes (codes ">" ++ (inner ++ (codes "</" ++ (name ++ (codes ">" ++ x)))))) y
    ∙ ap (λ (t : List ℕ). name ++ t) (attributes-append attributes (codes ">" ++ (inner ++ (codes "</" ++ (name ++ (codes ">" ++ x))))) y
    ∙ ap (λ (t : List ℕ). attributes_text attributes (codes ">" ++ t)) (append_assoc inner (codes "</" ++ (name ++ (codes ">" ++ x))) y
    ∙ ap (λ (t : List ℕ). inner ++ (codes "</" ++ t)) (append_assoc name (codes ">" ++ x) y))))

joined-text : (c d : Content) → content_text (joined c d) ≡ content_text c ++ content_text d
joined-text Content.end d = refl
joined-text (Content.characters text after) d = ap (λ (t : List ℕ). text ++ t) (joined-text after d) ∙ sym (append_assoc text (content_text after) (content_text d))
joined-text (Content.empty name attributes after) d =
    ap (λ (t : List ℕ). single name attributes t) (joined-text after d) ∙ sym (single-append name attributes (content_text after) (content_text d))
joined-text (Content.nested name attributes inner after) d =
    ap (λ (t : List ℕ). element name attributes (content_text inner) t) (joined-text after d)
    ∙ sym (element-append name attributes (content_text inner) (content_text after) (content_text d))

joined-proper : (c d : Content) → is_content c ≡ true → is_content d ≡ true → is_content (joined c d) ≡ true
joined-proper Content.end d p q = q
joined-proper (Content.characters text after) d p q =
    let parts = and_parts (list_all is_character text) (is_content after) p in
    and_from (list_all is_character text) (is_content (joined after d)) parts.0 (joined-proper after d parts.1 q)
joined-proper (Content.empty name attributes after) d p q =
    let parts = and_parts (is_tag name attributes) (is_content after) p in
    and_from (is_tag name attributes) (is_content (joined after d)) parts.0 (joined-proper after d parts.1 q)
joined-proper (Content.nested name attributes inner after) d p q =
    let parts = and_parts (is_tag name attributes) (is_content inner && is_content after) p in
    let more = and_parts (is_content inner) (is_content after) parts.1 in
    and_from (is_tag name attributes) (is_content inner && is_content (joined after d)) parts.0
    (and_from (is_content inner) (is_content (joined after d)) more.0 (joined-proper after d more.1 q))

-- ---- texts

pub nothing : IsContent []
nothing = record { content = Content.end; proper = refl; is = refl }

plain-characters : (text : List ℕ) → IsPlain text → list_all is_character text ≡ true
plain-characters [] plain = refl
plain-characters (b ∷ bs) plain =
    let parts = and_parts (is_plain b) (list_all is_plain bs) plain in
    and_from (is_character b) (list_all is_character bs) (ap (λ (p : Bool). p || b == 10) parts.0) (plain-characters bs parts.1)

pub characters : (text : List ℕ) → IsPlain text → IsContent text
characters text plain = record {
  content = Content.characters text Content.end;
  proper = and_from (list_all is_character text) true (plain-characters text plain) refl;
  is = append-nil text;
}

pub line_feed : IsContent (10 ∷ [])
line_feed = record { content = Content.characters (10 ∷ []) Content.end; proper = refl; is = refl }

pub beside : (left right : List ℕ) → IsContent left → IsContent right → IsContent (left ++ right)
beside left right p q = record {
  content = joined p.content q.content;
  proper = joined-proper p.content q.content p.proper q.proper;
  is = joined-text p.content q.content ∙ (λ i. p.is i ++ q.is i);
}

-- ---- elements

-- no line feed, or one
abbrev pub IsBreak : List ℕ → Type 0
IsBreak text = (text ≡ []) ⊎ (text ≡ 10 ∷ [])

broken : (rest : List ℕ) → IsBreak rest → IsContent rest
broken rest (inl none) = record { content = Content.end; proper = refl; is = sym none }
broken rest (inr one) = record { content = Content.characters (10 ∷ []) Content.end; proper = refl; is = sym one }

-- attributes with names and plain values
abbrev pub AreAttributes : List Attribute → Type 0
AreAttributes attributes = list_all is_attribute attributes ≡ true

tagged : (name : List ℕ) (attributes : List Attribute) → is_name name ≡ true → are_unique attributes ≡ true → AreAttributes attributes → is_tag name attributes ≡ true
tagged name attributes named unique each =
    and_from (is_name name) (list_all is_attribute attributes && are_unique attributes) named (and_from (list_all is_attribute attributes) (are_unique attributes) each unique)

pub nested : (name : List ℕ) (attributes : List Attribute) (inner rest : List ℕ) → is_name name ≡ true → are_unique attributes ≡ true → AreAttributes attributes
    → IsContent inner → IsBreak rest → IsContent (element name attributes inner rest)
nested name attributes inner rest named unique each inside break =
    let after = broken rest break in
    record {
      content = Content.nested name attributes inside.content after.content;
      proper = and_from (is_tag name attributes) (is_content inside.content && is_content after.content) (tagged name attributes named unique each)
          (and_from (is_content inside.content) (is_content after.content) inside.proper after.proper);
      is = (λ i. element name attributes (inside.is i) (after.is i));
    }

pub empty : (name : List ℕ) (attributes : List Attribute) (rest : List ℕ) → is_name name ≡ true → are_unique attributes ≡ true → AreAttributes attributes
    → IsBreak rest → IsContent (single name attributes rest)
empty name attributes rest named unique each break =
    let after = broken rest break in
    record {
      content = Content.empty name attributes after.content;
      proper = and_from (is_tag name attributes) (is_content after.content) (tagged name attributes named unique each) after.proper;
      is = ap (λ (t : List ℕ). single name attributes t) after.is;
    }

-- the root, and the line feed after it
pub rooted : (name : List ℕ) (attributes : List Attribute) (inner : List ℕ) → is_name name ≡ true → are_unique attributes ≡ true → AreAttributes attributes
    → IsContent inner → IsTree name (element name attributes inner (codes "\n"))
rooted name attributes inner named unique each inside = record {
  attributes = attributes;
  content = inside.content;
  tag = tagged name attributes named unique each;
  inside = inside.proper;
  whole = ap (λ (t : List ℕ). element name attributes t (codes "\n")) (sym inside.is);
}
