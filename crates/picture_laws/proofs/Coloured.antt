-- A picture whose colours go by something is the text of a tree of elements.
use Rattle.std.proofs.Common.{◌≡◌, ℕ, List, [], ◌∷◌, ◌++◌, refl, sym, ap, subst, ◌∙◌, inl, inr, append_assoc}
use Rattle.std.specs.Prelude.{All, codes}
use Rattle.picture_text.specs.By.{axes_text, axis_labels, colour_meaning, dark_styles, description, dots, facts_label, grounds_text, head_with, light_styles, list_label, list_title, meaning_label, sets_meaning, sets_title, title_text}
use Rattle.picture_text.specs.Elements.{label}
use Rattle.picture_text.specs.Head.{opening_text, styles, svg_attributes, tile, tile_attributes}
use Rattle.picture_text.specs.Markup.{IsPlain, IsTree}
use Rattle.picture_text.specs.Picture.{body_text, maps_with, names_of, others_of, picture_by_text, rest_name, sets_picture, sets_rows, spread_body, spread_picture, titles_text}
use Rattle.picture_text.specs.declared.by.By.{By}
use Rattle.picture_text.specs.declared.by.By.TheVariants.{Network, Source, Group, Age}
use Rattle.table_groups.specs.declared.sources.Source.{Source as OneSource}
use Rattle.picture_laws.proofs.Contents.{IsBreak, IsContent, beside, characters, empty, line_feed, nested, rooted}
use Rattle.picture_laws.proofs.Markups.{body-markup, each-label, label-markup, maps-with-markup, plain-names, sets-rows-markup, spread-markup, titles-markup}
use Rattle.picture_laws.proofs.Plain.{plain-append}

feed : IsBreak (codes "\n")
feed = inr refl

meaning-plain : (what : By) → IsPlain (colour_meaning what)
meaning-plain Network = refl
meaning-plain Source = refl
meaning-plain Group = refl
meaning-plain Age = refl

title-plain : (what : By) → IsPlain (list_title what)
title-plain Network = refl
title-plain Source = refl
title-plain Group = refl
title-plain Age = refl

said-plain : (meaning : List ℕ) → IsPlain meaning → IsPlain (dots ++ meaning)
said-plain meaning plain = plain-append dots meaning refl plain

-- a text of two parts with what is after it in one piece
rejoined : (a : List ℕ → List ℕ) (d e : List ℕ) (after : List ℕ) → IsContent (a ((d ++ e) ++ after)) → IsContent (a (d ++ (e ++ after)))
rejoined a d e after m = subst (λ (t : List ℕ). IsContent (a t)) (append_assoc d e after) m

description-markup : (meaning : List ℕ) → IsPlain meaning → IsContent (description meaning)
unfolding description
description-markup meaning plain =
    rejoined (λ t. codes "<desc>" ++ t) dots meaning (codes "</desc>\n")
    (nested (codes "desc") [] (dots ++ meaning) (codes "\n") refl refl refl (characters (dots ++ meaning) (said-plain meaning plain)) feed)

meaning-markup : (meaning : List ℕ) → IsPlain meaning → IsContent (meaning_label meaning)
unfolding meaning_label
meaning-markup meaning plain =
    rejoined (λ t. codes "<text x=\"24\" y=\"58\" class=\"k\">" ++ t) dots meaning (codes "</text>\n")
    (label-markup (codes "24") (codes "58") (codes "k") (dots ++ meaning) refl refl refl (said-plain meaning plain))

list-markup : (title : List ℕ) → IsPlain title → IsContent (list_label title)
unfolding list_label
list-markup title plain = label-markup (codes "694") (codes "422") (codes "b") title refl refl refl plain

facts-markup : (facts : List ℕ) → IsPlain facts → IsContent (facts_label facts)
unfolding facts_label
facts-markup facts plain = label-markup (codes "1056") (codes "36") (codes "n k") facts refl refl refl plain

title-markup : IsContent title_text
unfolding title_text
title-markup = nested (codes "title") [] (codes "The tables of peers.dat") (codes "\n") refl refl refl (characters (codes "The tables of peers.dat") refl) feed

grounds-markup : IsContent grounds_text
unfolding grounds_text
grounds-markup =
    beside _ _ (nested (codes "style") [] (styles ++ (light_styles ++ dark_styles)) (codes "\n") refl refl refl (characters (styles ++ (light_styles ++ dark_styles)) refl) feed)
    (beside _ _ (nested (codes "pattern") tile_attributes tile (codes "\n") refl refl refl
    (empty (codes "path") ((codes "fill", codes "#eceff2") ∷ (codes "d", codes "M0 0h8v8h-8z") ∷ []) [] refl refl refl (inl refl)) feed)
    (empty (codes "rect") ((codes "width", codes "1080") ∷ (codes "height", codes "712") ∷ (codes "fill", codes "#fff") ∷ []) (codes "\n") refl refl refl feed))

axes-markup : IsContent axes_text
unfolding axes_text
axes-markup = each-label axis_labels refl

head-markup : (meaning title facts : List ℕ) → IsPlain meaning → IsPlain title → IsPlain facts → IsContent (head_with meaning title facts)
unfolding head_with
head-markup meaning title facts said named plain =
    beside _ _ title-markup (beside _ _ (description-markup meaning said) (beside _ _ grounds-markup
    (beside _ _ (meaning-markup meaning said) (beside _ _ (facts-markup facts plain) (beside _ _ axes-markup (list-markup title named))))))

-- what is between the tags of the root
whole : (head body : List ℕ) → IsContent head → IsContent body → IsTree (codes "svg") (opening_text ++ (head ++ (body ++ codes "</svg>\n")))
unfolding opening_text
whole head body p q =
    subst (IsTree (codes "svg"))
    (ap (λ (t : List ℕ). codes "<svg xmlns=\"http://www.w3.org/2000/svg\" viewBox=\"0 0 1080 712\" role=\"img\">\n" ++ t) (append_assoc head body (codes "</svg>\n")))
    (rooted (codes "svg") svg_attributes (codes "\n" ++ (head ++ body)) refl refl refl
    (beside (codes "\n") (head ++ body) line_feed (beside head body p q)))

-- THE PICTURES

pub picture-by-tree : (what : By) (facts : List ℕ) (sources : List OneSource) (marks : List ℕ) (names : List (List ℕ)) → IsPlain facts → All IsPlain names
    → IsTree (codes "svg") (picture_by_text what facts sources marks names)
unfolding picture_by_text
picture-by-tree what facts sources marks names plain each =
    let shown : List (List ℕ) = names_of (others_of sources) names in
    whole (head_with (colour_meaning what) (list_title what) facts) (body_text sources marks shown)
    (head-markup (colour_meaning what) (list_title what) facts (meaning-plain what) (title-plain what) plain)
    (body-markup sources marks shown (plain-names (others_of sources) names each))

pub spread-tree : (what : By) (facts : List ℕ) (sources : List OneSource) (marks : List ℕ) (names : List (List ℕ)) (over : List ℕ) → IsPlain facts → All IsPlain names
    → IsTree (codes "svg") (spread_picture what facts sources marks names over)
unfolding spread_picture
spread-tree what facts sources marks names over plain each =
    let shown : List (List ℕ) = names_of (others_of sources) names in
    whole (head_with (colour_meaning what) (list_title what) facts) (spread_body what sources marks shown over)
    (head-markup (colour_meaning what) (list_title what) facts (meaning-plain what) (title-plain what) plain)
    (spread-markup what sources marks shown over (plain-names (others_of sources) names each))

pub sets-tree : (facts marks : List ℕ) (names : List (List ℕ)) → IsPlain facts → All IsPlain names → IsTree (codes "svg") (sets_picture facts marks names)
unfolding sets_picture
sets-tree facts marks names plain each =
    let head : List ℕ = head_with sets_meaning sets_title facts in
    subst (λ (t : List ℕ). IsTree (codes "svg") (opening_text ++ (head ++ t)))
    (append_assoc (titles_text marks) (maps_with marks names marks 6 rest_name ++ sets_rows marks names) (codes "</svg>\n")
    ∙ ap (λ (t : List ℕ). titles_text marks ++ t) (append_assoc (maps_with marks names marks 6 rest_name) (sets_rows marks names) (codes "</svg>\n")))
    (whole head (titles_text marks ++ (maps_with marks names marks 6 rest_name ++ sets_rows marks names))
    (head-markup sets_meaning sets_title facts refl refl plain)
    (beside (titles_text marks) (maps_with marks names marks 6 rest_name ++ sets_rows marks names) (titles-markup marks)
    (beside (maps_with marks names marks 6 rest_name) (sets_rows marks names) (maps-with-markup marks names marks 6 rest_name refl each) (sets-rows-markup marks names each))))
