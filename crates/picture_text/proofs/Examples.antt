-- Worked examples: what is a tree of elements and what is none, computed over the definitions.
use Rattle.std.proofs.Common.{◌≡◌, ℕ, ◌&&◌, true, false, List, [], ◌∷◌, ◌++◌, codes, get_or, drop, refl, sym, ap, ◌∙◌, arith, append_assoc}
use Rattle.std.specs.List.{list_all}
use Rattle.std.proofs.lemmas.Bool.{and_parts, both_ways}
use Rattle.picture_text.specs.Markup.{Attribute, Content, IsTree, attributes_text, content_text, is_attribute, is_character, is_content, is_letter, is_name, is_tag, are_unique, element}

-- <a x="1"><b/>c</a>
small : IsTree (codes "a") (codes "<a x=\"1\"><b/>c</a>\n")
small = record {
  attributes = (codes "x", codes "1") ∷ [];
  content = Content.empty (codes "b") [] (Content.characters (codes "c") Content.end);
  tag = refl;
  inside = refl;
  whole = refl;
}

-- an attribute twice in a tag
twice : is_tag (codes "a") ((codes "x", codes "1") ∷ (codes "y", codes "2") ∷ (codes "x", codes "3") ∷ []) ≡ false
twice = refl

-- the same name in two elements
apart : is_content (Content.empty (codes "a") ((codes "x", codes "1") ∷ []) (Content.empty (codes "b") ((codes "x", codes "1") ∷ []) Content.end)) ≡ true
apart = refl

-- empty names
unnamed : is_tag [] [] ≡ false
unnamed = refl

nameless : is_tag (codes "a") (([], codes "1") ∷ []) ≡ false
nameless = refl

-- what has to be escaped
bracket : is_content (Content.characters (codes "a<b") Content.end) ≡ false
bracket = refl

mark : is_tag (codes "a") ((codes "x", codes "1\"2") ∷ []) ≡ false
mark = refl

-- an end-tag is no content
letter : (b : ℕ) (bs : List ℕ) (attributes : List Attribute) → is_tag (b ∷ bs) attributes ≡ true → is_letter b ≡ true
letter b bs attributes tag =
    (and_parts (is_letter b) _ (and_parts (is_name (b ∷ bs)) (list_all is_attribute attributes && are_unique attributes) tag).0).0

no_tag : (name : List ℕ) (attributes : List Attribute) (behind text : List ℕ) → is_tag name attributes ≡ true → 60 ∷ (name ++ behind) ≡ 60 ∷ 47 ∷ text → ⊥
no_tag [] attributes behind text tag same = both_ways false refl tag
no_tag (b ∷ bs) attributes behind text tag same =
    both_ways (is_letter b) (ap is_letter (ap (λ (xs : List ℕ). get_or xs 1 0) same)) (letter b bs attributes tag)

no_end : (c : Content) (rest text : List ℕ) → is_content c ≡ true → content_text c ++ rest ≡ 60 ∷ 47 ∷ text → content_text c ≡ []
no_end Content.end rest text proper same = refl
no_end (Content.characters [] after) rest text proper same = no_end after rest text proper same
no_end (Content.characters (b ∷ bs) after) rest text proper same =
    let first : is_character b ≡ true = (and_parts (is_character b) (list_all is_character bs) (and_parts (list_all is_character (b ∷ bs)) (is_content after) proper).0).0 in
    absurd (both_ways (is_character b) (ap is_character (ap (λ (xs : List ℕ). get_or xs 0 0) same)) first)
no_end (Content.empty name attributes after) rest text proper same =
    let behind : List ℕ = attributes_text attributes (codes "/>" ++ content_text after) in
    absurd (no_tag name attributes (behind ++ rest) text (and_parts (is_tag name attributes) (is_content after) proper).0
    (sym (ap (λ (t : List ℕ). 60 ∷ t) (append_assoc name behind rest)) ∙ same))
no_end (Content.nested name attributes inner after) rest text proper same =
    let behind : List ℕ = attributes_text attributes (codes ">" ++ (content_text inner ++ (codes "</" ++ (name ++ (codes ">" ++ content_text after))))) in
    absurd (no_tag name attributes (behind ++ rest) text (and_parts (is_tag name attributes) (is_content inner && is_content after) proper).0
    (sym (ap (λ (t : List ℕ). 60 ∷ t) (append_assoc name behind rest)) ∙ same))

-- two roots
two_roots : IsTree (codes "a") (codes "<a></a><a></a>\n") → ⊥
two_roots tree = by tree.attributes tree.content tree.inside tree.whole
  where
    by : (attributes : List Attribute) (c : Content) → is_content c ≡ true → codes "<a></a><a></a>\n" ≡ element (codes "a") attributes (content_text c) (codes "\n") → ⊥
    by [] c inside whole =
        let rest : codes "</a><a></a>\n" ≡ content_text c ++ codes "</a>\n" = ap (λ (xs : List ℕ). drop 3 xs) whole in
        let nothing : content_text c ≡ [] = no_end c (codes "</a>\n") (codes "a><a></a>\n") inside (sym rest) in
        let last : 60 ≡ 10 = ap (λ (xs : List ℕ). get_or xs 4 0) (rest ∙ ap (λ (t : List ℕ). t ++ codes "</a>\n") nothing) in
        omega (arith, last)
    by (a ∷ more) c inside whole =
        let third : 62 ≡ 32 = ap (λ (xs : List ℕ). get_or xs 2 0) whole in
        omega (arith, third)
