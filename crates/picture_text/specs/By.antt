-- What the colours of a picture go by, as its texts say it. The colours on a dark ground are those
-- of a media query (Media Queries 5).
use Rattle.std.specs.Prelude.{ℕ, List, [], ◌∷◌, ◌++◌, codes}
use Rattle.std.specs.List.{flat_map}
use Rattle.picture_text.specs.Elements.{label}
use Rattle.picture_text.specs.Head.{Label, at, styles, tile, tile_attributes}
use Rattle.picture_text.specs.Markup.{element, single}
use Rattle.picture_text.specs.declared.by.By.{By}
use Rattle.picture_text.specs.declared.by.By.TheVariants.{Network, Source, Group, Age}

-- what a colour says of the peer in a slot
abbrev pub colour_meaning : By → List ℕ
colour_meaning Network = codes "the network of the peer."
colour_meaning Source = codes "the group of the source that first announced the peer."
colour_meaning Group = codes "the group of the peer."
colour_meaning Age = codes "how much older the time of the peer is than the newest one."

-- what is listed
abbrev pub list_title : By → List ℕ
list_title Network = codes "Networks with the most slots"
list_title Source = codes "Source groups with the most slots"
list_title Group = codes "Groups of peers with the most slots"
list_title Age = codes "Ages with the most slots"

-- the same where colours go by sets of addresses
abbrev pub sets_meaning : List ℕ
sets_meaning = codes "the first set in the list that has the peer."

-- The title of the list of sets.
abbrev pub sets_title : List ℕ
sets_title = codes "Sets of peers"

-- how all pictures begin their description
abbrev pub dots : List ℕ
dots = codes "A square is a bucket, and a dot in it is an occupied slot. Its colour is "

-- a description of the picture, for readers who cannot see it
unfoldable pub description : List ℕ → List ℕ
description meaning = codes "<desc>" ++ (dots ++ (meaning ++ codes "</desc>\n"))

-- The colours of the marks on a light ground, each by what its text ends with.
abbrev pub light_styles : List ℕ
light_styles =
    codes "[fill$=e00]{fill:#652c01}[fill$=b2]{fill:#00396f}[fill$=e73]{fill:#49a97a}"
    ++ (codes "[fill$=a7]{fill:#b61b50}[fill$=f00]{fill:#d8a810}[fill$=e9]{fill:#8a4fbf}"
    ++ codes "[fill$=a]{fill:#8b949e}")

-- The colours of the marks on a dark ground, if the reader prefers that.
abbrev pub dark_styles : List ℕ
dark_styles =
    codes "@media(prefers-color-scheme:dark){text{fill:#e6e9ed}.k{fill:#9aa4af}"
    ++ (codes "[fill$=fff]{fill:#14171b}[fill$=f2]{fill:#20262c}[fill$=e00]{fill:#ed7c27}"
    ++ (codes "[fill$=b2]{fill:#3d80eb}[fill$=e73]{fill:#4bc488}[fill$=a7]{fill:#c498b0}"
    ++ (codes "[fill$=f00]{fill:#ffe260}[fill$=e9]{fill:#e2daff}[fill$=a]{fill:#6c7479}"
    ++ codes "[fill$=d]{fill:#cc2211}}")))

-- the styles and the grounds
unfoldable pub grounds_text : List ℕ
grounds_text =
    element (codes "style") [] (styles ++ (light_styles ++ dark_styles)) (codes "\n")
    ++ (element (codes "pattern") tile_attributes tile (codes "\n")
    ++ single (codes "rect")
    ((codes "width", codes "1080") ∷ (codes "height", codes "712")
    ∷ (codes "fill", codes "#fff") ∷ []) (codes "\n"))

-- the title, which is also that of the document
unfoldable pub title_text : List ℕ
title_text = element (codes "title") [] (codes "The tables of peers.dat") (codes "\n")

-- the labels before the list, but for what a colour says
abbrev pub axis_labels : List Label
axis_labels =
    at (codes "24") (codes "36") (codes "h") (codes "The tables of peers.dat")
    ∷ at (codes "50") (codes "110") (codes "n k") (codes "0")
    ∷ at (codes "50") (codes "182") (codes "n k") (codes "128")
    ∷ at (codes "50") (codes "254") (codes "n k") (codes "256")
    ∷ at (codes "50") (codes "326") (codes "n k") (codes "384")
    ∷ at (codes "50") (codes "398") (codes "n k") (codes "512")
    ∷ at (codes "50") (codes "470") (codes "n k") (codes "640")
    ∷ at (codes "50") (codes "542") (codes "n k") (codes "768")
    ∷ at (codes "50") (codes "614") (codes "n k") (codes "896")
    ∷ at (codes "688") (codes "110") (codes "n k") (codes "0")
    ∷ at (codes "688") (codes "182") (codes "n k") (codes "64")
    ∷ at (codes "688") (codes "254") (codes "n k") (codes "128")
    ∷ at (codes "688") (codes "326") (codes "n k") (codes "192")
    ∷ at (codes "712") (codes "444") (codes "k") (codes "group")
    ∷ at (codes "896") (codes "444") (codes "n k") (codes "slots")
    ∷ at (codes "970") (codes "444") (codes "n k") (codes "tried")
    ∷ at (codes "1056") (codes "444") (codes "n k") (codes "new buckets")
    ∷ []

-- The labels of the axes.
unfoldable pub axes_text : List ℕ
axes_text = flat_map (λ l. label l.x l.y l.class l.text) axis_labels

-- what a colour says, below the title
unfoldable pub meaning_label : List ℕ → List ℕ
meaning_label meaning =
    codes "<text x=\"24\" y=\"58\" class=\"k\">"
    ++ (dots ++ (meaning ++ codes "</text>\n"))

-- the title of the list
unfoldable pub list_label : List ℕ → List ℕ
list_label title = label (codes "694") (codes "422") (codes "b") title

-- which tables they are, beside the title
unfoldable pub facts_label : List ℕ → List ℕ
facts_label facts = label (codes "1056") (codes "36") (codes "n k") facts

-- what comes before the titles of the maps: what a colour says, the title of the list, and which
-- tables they are
unfoldable pub head_with : List ℕ → List ℕ → List ℕ → List ℕ
head_with meaning title facts =
    title_text ++ (description meaning ++ (grounds_text
    ++ (meaning_label meaning ++ (facts_label facts ++ (axes_text ++ list_label title)))))

-- The head of a picture, by what its colours show.
abbrev pub head_by : By → List ℕ → List ℕ
head_by by facts = head_with (colour_meaning by) (list_title by) facts

-- The head of a picture whose colours show sets of addresses.
abbrev pub sets_head : List ℕ → List ℕ
sets_head facts = head_with sets_meaning sets_title facts
