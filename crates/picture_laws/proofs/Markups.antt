-- The picture is the text of a tree of elements.
use Rattle.std.proofs.Common.{◌≡◌, ℕ, zero, suc, ◌+◌, ◌-◌, ◌*◌, ◌==◌, ◌&&◌, Bool, true, false, cond, List, [], ◌∷◌, ◌++◌, length, refl, sym, ap, subst, ◌∙◌, inl, inr, append_assoc}
use Rattle.std.specs.Prelude.{All, codes, decimal}
use Rattle.std.specs.List.{flat_map, list_all, range_with_len}
use Rattle.std.proofs.lemmas.Bool.{and_from, and_parts}
use Rattle.std.proofs.lemmas.List.Elements.{All-append, All-from_recursion, All-head, All-nil, All-tail}
use Rattle.picture_text.specs.Elements.{colour, count_text, ground, label, name_text, new_title, row_text, swatch, tried_title, wide_text}
use Rattle.picture_text.specs.Head.{Label, head_text, labels, labels_text, meaning, opening_text, styles, svg_attributes, tile, tile_attributes}
use Rattle.picture_text.specs.Maps.{ground_text, map_opening, map_text, map_with, name_at, path_element, paths_text}
use Rattle.picture_text.specs.Markup.{Attribute, IsPlain, IsTree, are_unique, element, is_attribute, is_name, is_plain}
use Rattle.picture_text.specs.Notes.{first_note, honest_text, notes_by, second_note}
use Rattle.picture_text.specs.Picture.{body_text, free_row, group_row, group_rows, listed_in, maps_text, maps_with, mark_row, names_of, others_name, others_of, others_row, others_text, picture_text, rest_name, rows_text, sets_in, sets_rows, source_at, spread_body, spread_name, titles_text, top_of}
use Rattle.picture_text.specs.Spread.{spread_of}
use Rattle.picture_text.specs.declared.by.By.{By}
use Rattle.picture_text.specs.declared.by.By.TheVariants.{Network, Source as BySource, Group, Age}
use Rattle.table_groups.specs.declared.sources.Source.{Source}
use Rattle.dot_runs.specs.Tables.{path_text}
use Rattle.picture_laws.proofs.Contents.{AreAttributes, IsBreak, IsContent, beside, characters, empty, line_feed, nested, nothing, rooted}
use Rattle.picture_laws.proofs.Plain.{plain-append, plain-colour, plain-decimal, plain-numbered, plain-path}

-- attributes with values that need no escapes
abbrev IsAttribute : Attribute → Type 0
IsAttribute a = (is_name a.0 ≡ true) × IsPlain a.1

attribute : (a : Attribute) → IsAttribute a → is_attribute a ≡ true
attribute a p = and_from (is_name a.0) (list_all is_plain a.1) p.0 p.1

more : (a : Attribute) (attributes : List Attribute) → IsAttribute a → AreAttributes attributes → AreAttributes (a ∷ attributes)
more a attributes p each = and_from (is_attribute a) (list_all is_attribute attributes) (attribute a p) each

none : AreAttributes []
none = refl

two : (a b : Attribute) → IsAttribute a → IsAttribute b → AreAttributes (a ∷ b ∷ [])
two a b p q = more a (b ∷ []) p (more b [] q none)

three : (a b c : Attribute) → IsAttribute a → IsAttribute b → IsAttribute c → AreAttributes (a ∷ b ∷ c ∷ [])
three a b c p q r = more a (b ∷ c ∷ []) p (two b c q r)

four : (a b c d : Attribute) → IsAttribute a → IsAttribute b → IsAttribute c → IsAttribute d → AreAttributes (a ∷ b ∷ c ∷ d ∷ [])
four a b c d p q r s = more a (b ∷ c ∷ d ∷ []) p (three b c d q r s)

five : (a b c d e : Attribute) → IsAttribute a → IsAttribute b → IsAttribute c → IsAttribute d → IsAttribute e → AreAttributes (a ∷ b ∷ c ∷ d ∷ e ∷ [])
five a b c d e p q r s t = more a (b ∷ c ∷ d ∷ e ∷ []) p (four b c d e q r s t)

feed : IsBreak (codes "\n")
feed = inr refl

-- a number among texts in an element
numbered : (before : List ℕ) (n : ℕ) (after rest : List ℕ) → IsPlain before → IsPlain after → IsContent (before ++ (decimal n ++ after))
numbered before n after rest p q = characters (before ++ (decimal n ++ after)) (plain-numbered before n after p q)

pub label-markup : (x y class text : List ℕ) → IsPlain x → IsPlain y → IsPlain class → IsPlain text → IsContent (label x y class text)
label-markup x y class text p q r s =
    nested (codes "text") ((codes "x", x) ∷ (codes "y", y) ∷ (codes "class", class) ∷ []) text (codes "\n") refl refl
    (three (codes "x", x) (codes "y", y) (codes "class", class) (refl, p) (refl, q) (refl, r)) (characters text s) feed

count-markup : (x y n : ℕ) → IsContent (count_text x y n)
unfolding count_text
count-markup x y n =
    nested (codes "text") ((codes "x", decimal x) ∷ (codes "y", decimal y) ∷ (codes "class", codes "n") ∷ []) (decimal n) (codes "\n") refl refl
    (three (codes "x", decimal x) (codes "y", decimal y) (codes "class", codes "n") (refl, plain-decimal x) (refl, plain-decimal y) (refl, refl))
    (characters (decimal n) (plain-decimal n)) feed

name-markup : (y : ℕ) (name : List ℕ) → IsPlain name → IsContent (name_text y name)
unfolding name_text
name-markup y name plain =
    nested (codes "text") ((codes "x", codes "712") ∷ (codes "y", decimal y) ∷ []) name (codes "\n") refl refl
    (two (codes "x", codes "712") (codes "y", decimal y) (refl, refl) (refl, plain-decimal y)) (characters name plain) feed

swatch-markup : (y : ℕ) (fill : List ℕ) → IsPlain fill → IsContent (swatch y fill)
unfolding swatch
swatch-markup y fill plain =
    empty (codes "rect") ((codes "x", codes "694") ∷ (codes "y", decimal y) ∷ (codes "width", codes "11") ∷ (codes "height", codes "11") ∷ (codes "fill", fill) ∷ []) (codes "\n") refl refl
    (five (codes "x", codes "694") (codes "y", decimal y) (codes "width", codes "11") (codes "height", codes "11") (codes "fill", fill) (refl, refl) (refl, plain-decimal y) (refl, refl) (refl, refl) (refl, plain)) feed

row-markup : (y : ℕ) (fill name : List ℕ) (slots tried : ℕ) → IsPlain fill → IsPlain name → IsContent (row_text y fill name slots tried)
unfolding row_text
row-markup y fill name slots tried p q =
    beside (swatch y fill) (name_text (y + 10) name ++ (count_text 896 (y + 10) slots ++ count_text 970 (y + 10) tried)) (swatch-markup y fill p)
    (beside (name_text (y + 10) name) (count_text 896 (y + 10) slots ++ count_text 970 (y + 10) tried) (name-markup (y + 10) name q)
    (beside (count_text 896 (y + 10) slots) (count_text 970 (y + 10) tried) (count-markup 896 (y + 10) slots) (count-markup 970 (y + 10) tried)))

-- a text of a number between two texts, in an element
between : (before after : List ℕ) (n : ℕ) (attributes : List Attribute) → IsPlain before → IsPlain after → are_unique attributes ≡ true → AreAttributes attributes
    → IsContent (element (codes "text") attributes (before ++ (decimal n ++ after)) (codes "\n"))
between before after n attributes p q unique named =
    nested (codes "text") attributes (before ++ (decimal n ++ after)) (codes "\n") refl unique named (characters (before ++ (decimal n ++ after)) (plain-numbered before n after p q)) feed

-- the same with the text behind it in one piece
rejoin : (a : List ℕ → List ℕ) (d b c e : List ℕ) → b ++ c ≡ e → IsContent (a ((d ++ b) ++ c)) → IsContent (a (d ++ e))
rejoin a d b c e same m = subst (λ (t : List ℕ). IsContent (a t)) (append_assoc d b c ∙ ap (λ (t : List ℕ). d ++ t) same) m

new-title-markup : (n : ℕ) → IsContent (new_title n)
unfolding new_title
new-title-markup n =
    rejoin (λ t. codes "<text x=\"56\" y=\"88\" class=\"b\">New table: " ++ t) (decimal n) (codes " of 65536 slots are occupied") (codes "</text>\n") (codes " of 65536 slots are occupied</text>\n") refl
    (between (codes "New table: ") (codes " of 65536 slots are occupied") n ((codes "x", codes "56") ∷ (codes "y", codes "88") ∷ (codes "class", codes "b") ∷ []) refl refl refl refl)

tried-title-markup : (n : ℕ) → IsContent (tried_title n)
unfolding tried_title
tried-title-markup n =
    rejoin (λ t. codes "<text x=\"694\" y=\"88\" class=\"b\">Tried table: " ++ t) (decimal n) (codes " of 16384 slots are occupied") (codes "</text>\n") (codes " of 16384 slots are occupied</text>\n") refl
    (between (codes "Tried table: ") (codes " of 16384 slots are occupied") n ((codes "x", codes "694") ∷ (codes "y", codes "88") ∷ (codes "class", codes "b") ∷ []) refl refl refl refl)

wide-markup : (n : ℕ) → IsContent (wide_text n)
unfolding wide_text
wide-markup n =
    rejoin (λ t. codes "<text x=\"694\" y=\"644\">Groups in more than 32 of the 1024 new buckets: " ++ t) (decimal n) [] (codes "</text>\n") (codes "</text>\n") refl
    (between (codes "Groups in more than 32 of the 1024 new buckets: ") [] n ((codes "x", codes "694") ∷ (codes "y", codes "644") ∷ []) refl refl refl refl)

-- texts of rising numbers
each-markup : (f : ℕ → List ℕ) (a n : ℕ) → ((k : ℕ) → IsContent (f k)) → IsContent (flat_map f (range_with_len a n))
each-markup f a zero each = nothing
each-markup f a (suc n) each = beside (f a) (flat_map f (range_with_len (a + 1) n)) (each a) (each-markup f (a + 1) n each)

path-markup : (marks : List ℕ) (side : ℕ) (name : List ℕ) (index : ℕ) → IsPlain name → IsContent (path_element marks side name index)
unfolding path_element
path-markup marks side name index plain =
    let d : List ℕ = path_text (index + 1) side marks in
    let title : List ℕ = element (codes "title") [] name [] in
    let attributes : List Attribute = (codes "fill", colour index) ∷ (codes "d", d) ∷ [] in
    subst (λ (t : List ℕ). IsContent (codes "<path fill=\"" ++ (colour index ++ (codes "\" d=\"" ++ (d ++ (codes "\"><title>" ++ t))))))
    (append_assoc name (codes "</title>") (codes "</path>\n"))
    (nested (codes "path") attributes title (codes "\n") refl refl
    (two (codes "fill", colour index) (codes "d", d) (refl, plain-colour index) (refl, plain-path (index + 1) side marks))
    (nested (codes "title") [] name [] refl refl none (characters name plain) (inl refl)) feed)

-- the name at an index
plain-name : (names : List (List ℕ)) (index : ℕ) → All IsPlain names → IsPlain (name_at names index)
plain-name [] index each = refl
plain-name (n ∷ ns) zero each = All-head IsPlain n ns each
plain-name (n ∷ ns) (suc index) each = plain-name ns index (All-tail IsPlain n ns each)

paths-markup : (marks : List ℕ) (side : ℕ) (names : List (List ℕ)) → All IsPlain names → IsContent (paths_text marks side names)
unfolding paths_text
paths-markup marks side names each =
    each-markup (λ index. path_element marks side (name_at names index) index) 0 (length names) (λ index. path-markup marks side (name_at names index) index (plain-name names index each))

ground-markup : (size : ℕ) → IsContent (ground_text size)
unfolding ground_text
ground-markup size =
    empty (codes "rect") ((codes "width", decimal size) ∷ (codes "height", decimal size) ∷ (codes "fill", codes "url(#free)") ∷ []) (codes "\n") refl refl
    (three (codes "width", decimal size) (codes "height", decimal size) (codes "fill", codes "url(#free)") (refl, plain-decimal size) (refl, plain-decimal size) (refl, refl)) feed

map-markup : (x side : ℕ) (marks : List ℕ) (names : List (List ℕ)) → All IsPlain names → IsContent (map_text x side marks names)
unfolding map_text map_opening
map-markup x side marks names each =
    let inner : List ℕ = ground_text (9 * side) ++ paths_text marks side names in
    let value : List ℕ = codes "translate(" ++ (decimal x ++ codes " 98) scale(2)") in
    let attributes : List Attribute = (codes "transform", value) ∷ (codes "shape-rendering", codes "crispEdges") ∷ [] in
    subst IsContent
    (ap (λ (t : List ℕ). codes "<g transform=\"translate(" ++ t)
    (append_assoc (decimal x) (codes " 98) scale(2)") (codes "\" shape-rendering=\"crispEdges\">\n" ++ (inner ++ codes "</g>\n"))
    ∙ ap (λ (t : List ℕ). decimal x ++ (codes " 98) scale(2)\" shape-rendering=\"crispEdges\">\n" ++ t)) (append_assoc (ground_text (9 * side)) (paths_text marks side names) (codes "</g>\n"))
    ∙ sym (append_assoc (decimal x) (codes " 98) scale(2)\" shape-rendering=\"crispEdges\">\n") (ground_text (9 * side) ++ (paths_text marks side names ++ codes "</g>\n")))))
    (nested (codes "g") attributes (codes "\n" ++ inner) (codes "\n") refl refl
    (two (codes "transform", value) (codes "shape-rendering", codes "crispEdges") (refl, plain-numbered (codes "translate(") x (codes " 98) scale(2)") refl refl) (refl, refl))
    (beside (codes "\n") inner line_feed (beside (ground_text (9 * side)) (paths_text marks side names) (ground-markup (9 * side)) (paths-markup marks side names each))) feed)

map-with-markup : (x side : ℕ) (marks : List ℕ) (names : List (List ℕ)) (over : List ℕ) (index : ℕ) (name : List ℕ) → IsPlain name → All IsPlain names
    → IsContent (map_with x side marks names over index name)
unfolding map_with map_opening
map-with-markup x side marks names over index name plain each =
    let paths : List ℕ = paths_text marks side names ++ path_element over side name index in
    let inner : List ℕ = ground_text (9 * side) ++ paths in
    let value : List ℕ = codes "translate(" ++ (decimal x ++ codes " 98) scale(2)") in
    let attributes : List Attribute = (codes "transform", value) ∷ (codes "shape-rendering", codes "crispEdges") ∷ [] in
    subst IsContent
    (ap (λ (t : List ℕ). codes "<g transform=\"translate(" ++ t)
    (append_assoc (decimal x) (codes " 98) scale(2)") (codes "\" shape-rendering=\"crispEdges\">\n" ++ (inner ++ codes "</g>\n"))
    ∙ ap (λ (t : List ℕ). decimal x ++ (codes " 98) scale(2)\" shape-rendering=\"crispEdges\">\n" ++ t))
    (append_assoc (ground_text (9 * side)) paths (codes "</g>\n")
    ∙ ap (λ (t : List ℕ). ground_text (9 * side) ++ t) (append_assoc (paths_text marks side names) (path_element over side name index) (codes "</g>\n")))
    ∙ sym (append_assoc (decimal x) (codes " 98) scale(2)\" shape-rendering=\"crispEdges\">\n")
    (ground_text (9 * side) ++ (paths_text marks side names ++ (path_element over side name index ++ codes "</g>\n"))))))
    (nested (codes "g") attributes (codes "\n" ++ inner) (codes "\n") refl refl
    (two (codes "transform", value) (codes "shape-rendering", codes "crispEdges") (refl, plain-numbered (codes "translate(") x (codes " 98) scale(2)") refl refl) (refl, refl))
    (beside (codes "\n") inner line_feed (beside (ground_text (9 * side)) paths (ground-markup (9 * side))
    (beside (paths_text marks side names) (path_element over side name index) (paths-markup marks side names each) (path-markup over side name index plain)))) feed)

pub maps-with-markup : (marks : List ℕ) (names : List (List ℕ)) (over : List ℕ) (index : ℕ) (name : List ℕ) → IsPlain name → All IsPlain names
    → IsContent (maps_with marks names over index name)
unfolding maps_with
maps-with-markup marks names over index name plain each =
    beside _ _ (map-with-markup 56 32 _ names _ index name plain each) (map-with-markup 694 16 _ names _ index name plain each)

plain-others : (n : ℕ) → IsPlain (others_name n)
unfolding others_name
plain-others n = plain-append (codes "other groups: ") (decimal n) refl (plain-decimal n)

group-markup : (s : Source) (name : List ℕ) (index : ℕ) → IsPlain name → IsContent (group_row s name index)
unfolding group_row
group-markup s name index plain = beside _ _ (row-markup (top_of index) (colour index) name _ _ (plain-colour index) plain) (count-markup 1056 (top_of index + 10) _)

mark-row-markup : (marks : List ℕ) (mark index : ℕ) (name : List ℕ) → IsPlain name → IsContent (mark_row marks mark index name)
unfolding mark_row
mark-row-markup marks mark index name plain = row-markup (top_of index) (colour (mark - 1)) name _ _ (plain-colour (mark - 1)) plain

others-text-markup : (marks : List ℕ) (others : ℕ) → IsContent (others_text marks others)
others-text-markup marks others = mark-row-markup marks 7 6 (others_name others) (plain-others others)

others-markup : (marks : List ℕ) (others : ℕ) → IsContent (others_row marks others)
others-markup marks others = by (others == 0)
  where
    by : (b : Bool) → IsContent (cond b [] (others_text marks others))
    by true = nothing
    by false = others-text-markup marks others

free-markup : (marks : List ℕ) (index : ℕ) → IsContent (free_row marks index)
unfolding free_row
free-markup marks index = row-markup (top_of index) ground (codes "free") _ _ refl refl

groups-markup : (listed : List Source) (names : List (List ℕ)) → All IsPlain names → IsContent (group_rows listed names)
unfolding group_rows
groups-markup listed names each =
    each-markup (λ index. group_row (source_at listed index) (name_at names index) index) 0 (length listed) (λ index. group-markup (source_at listed index) (name_at names index) index (plain-name names index each))

rows-markup : (listed : List Source) (marks : List ℕ) (names : List (List ℕ)) (others : ℕ) → All IsPlain names → IsContent (rows_text listed marks names others)
unfolding rows_text
rows-markup listed marks names others each =
    beside _ _ (groups-markup listed names each) (beside _ _ (others-markup marks others) (free-markup marks (length names)))

pub titles-markup : (marks : List ℕ) → IsContent (titles_text marks)
unfolding titles_text
titles-markup marks = beside _ _ (new-title-markup _) (tried-title-markup _)

pub body-markup : (sources : List Source) (marks : List ℕ) (names : List (List ℕ)) → All IsPlain names → IsContent (body_text sources marks names)
unfolding body_text maps_text
body-markup sources marks names each =
    beside _ _ (titles-markup marks)
    (beside _ _ (beside _ _ (map-markup 56 32 _ names each) (map-markup 694 16 _ names each))
    (beside _ _ (rows-markup (listed_in sources) marks names (others_of sources) each) (wide-markup _)))

-- ---- where some of the other groups spread

plain-spread : (n : ℕ) → IsPlain (spread_name n)
unfolding spread_name
plain-spread n = plain-append (codes "spread groups: ") (decimal n) refl (plain-decimal n)

plain-honest : (what : By) → IsPlain (honest_text what)
plain-honest Network = refl
plain-honest BySource = refl
plain-honest Group = refl
plain-honest Age = refl

notes-markup : (what : By) → IsContent (notes_by what)
unfolding first_note second_note
notes-markup what =
    beside first_note (second_note what)
    (label-markup (codes "694") (codes "682") (codes "k") (codes "In more new buckets than as many slots taken at random") refl refl refl refl)
    (label-markup (codes "694") (codes "698") (codes "k") (honest_text what) refl refl refl (plain-honest what))

pub spread-markup : (what : By) (sources : List Source) (marks : List ℕ) (names : List (List ℕ)) (over : List ℕ) → All IsPlain names → IsContent (spread_body what sources marks names over)
unfolding spread_body
spread-markup what sources marks names over each =
    let name : List ℕ = spread_name (spread_of what sources) in
    beside _ _ (titles-markup marks)
    (beside _ _ (maps-with-markup marks names over 7 name (plain-spread (spread_of what sources)) each)
    (beside _ _ (rows-markup (listed_in sources) marks names (others_of sources) each)
    (beside _ _ (wide-markup _) (beside _ _ (mark-row-markup over 8 9 name (plain-spread (spread_of what sources))) (notes-markup what)))))

-- ---- where colours go by sets

pub sets-rows-markup : (marks : List ℕ) (names : List (List ℕ)) → All IsPlain names → IsContent (sets_rows marks names)
unfolding sets_rows
sets-rows-markup marks names each =
    beside _ _ (groups-markup (sets_in marks (length names)) names each)
    (beside _ _ (mark-row-markup marks 7 (length names) rest_name refl) (free-markup marks (length names + 1)))

-- ---- what each picture has

head-markup : IsContent head_text
unfolding head_text
head-markup =
    beside _ _ (nested (codes "title") [] (codes "The tables of peers.dat") (codes "\n") refl refl none (characters _ refl) feed)
    (beside _ _ (nested (codes "desc") [] meaning (codes "\n") refl refl none (characters _ refl) feed)
    (beside _ _ (nested (codes "style") [] styles (codes "\n") refl refl none (characters _ refl) feed)
    (beside _ _ (nested (codes "pattern") tile_attributes tile (codes "\n") refl refl refl
    (empty (codes "path") ((codes "fill", codes "#eceff2") ∷ (codes "d", codes "M0 0h8v8h-8z") ∷ []) [] refl refl refl (inl refl)) feed)
    (empty (codes "rect") ((codes "width", codes "1080") ∷ (codes "height", codes "712") ∷ (codes "fill", codes "#fff") ∷ []) (codes "\n") refl refl refl feed))))

abbrev pub is_plain_label : Label → Bool
is_plain_label l = list_all is_plain l.x && (list_all is_plain l.y && (list_all is_plain l.class && list_all is_plain l.text))

pub each-label : (ls : List Label) → list_all is_plain_label ls ≡ true → IsContent (flat_map (λ l. label l.x l.y l.class l.text) ls)
each-label [] all = nothing
each-label (l ∷ ls) all =
    let parts = and_parts (is_plain_label l) (list_all is_plain_label ls) all in
    let x = and_parts (list_all is_plain l.x) (list_all is_plain l.y && (list_all is_plain l.class && list_all is_plain l.text)) parts.0 in
    let y = and_parts (list_all is_plain l.y) (list_all is_plain l.class && list_all is_plain l.text) x.1 in
    let class = and_parts (list_all is_plain l.class) (list_all is_plain l.text) y.1 in
    beside (label l.x l.y l.class l.text) (flat_map (λ l. label l.x l.y l.class l.text) ls) (label-markup l.x l.y l.class l.text x.0 y.0 class.0 class.1) (each-label ls parts.1)

labels-markup : IsContent labels_text
unfolding labels_text
labels-markup = each-label labels refl

pub plain-names : (others : ℕ) (names : List (List ℕ)) → All IsPlain names → All IsPlain (names_of others names)
plain-names others names each = All-append IsPlain names (cond (others == 0) [] (others_name others ∷ [])) each (by (others == 0))
  where
    by : (b : Bool) → All IsPlain (cond b [] (others_name others ∷ []))
    by true = All-nil IsPlain
    by false = All-from_recursion IsPlain (others_name others ∷ []) (plain-others others, tt)

-- the whole picture
pub picture-tree : (sources : List Source) (marks : List ℕ) (names : List (List ℕ)) → All IsPlain names → IsTree (codes "svg") (picture_text sources marks names)
unfolding picture_text opening_text
picture-tree sources marks names each =
    let shown : List (List ℕ) = names_of (others_of sources) names in
    let body : List ℕ = body_text sources marks shown in
    let inner : List ℕ = codes "\n" ++ (head_text ++ (labels_text ++ body)) in
    subst (IsTree (codes "svg"))
    (ap (λ (t : List ℕ). codes "<svg xmlns=\"http://www.w3.org/2000/svg\" viewBox=\"0 0 1080 712\" role=\"img\">\n" ++ t)
    (append_assoc head_text (labels_text ++ body) (codes "</svg>\n") ∙ ap (λ (t : List ℕ). head_text ++ t) (append_assoc labels_text body (codes "</svg>\n"))))
    (rooted (codes "svg") svg_attributes inner refl refl refl
    (beside (codes "\n") (head_text ++ (labels_text ++ body)) line_feed (beside head_text (labels_text ++ body) head-markup (beside labels_text body labels-markup (body-markup sources marks shown (plain-names (others_of sources) names each))))))
