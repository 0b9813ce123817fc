-- The tokens of members, one after another.
use Rattle.std.specs.Prelude.{ℕ, ◌-◌, List, [], ◌∷◌, ◌++◌, codes}
use Rattle.std.specs.List.{flat_map}
use Rattle.ban_list.specs.declared.ban.Ban.{Ban}
use Rattle.json.specs.Json.{Json, string}
use Rattle.json.specs.Token.{Token}
use Rattle.json.specs.Tree.{json_tokens}
use Rattle.names.specs.Name.{name_text}
use Rattle.placing.specs.Places.{Places, asn}
use Rattle.peer_rec.specs.declared.rec.Rec.{Rec}
use Rattle.node_json.specs.Groups.{row_items}
use Rattle.node_json.specs.Raw.{class_name}
use Rattle.table_groups.specs.declared.ranked_groups.Row.{Row}
use Rattle.node_json.specs.Value.{Member, json_number, unless_zero}

-- The tokens of some members.
abbrev pub tokens_of : List Member → List Token
tokens_of [] = []
tokens_of (m ∷ ms) = Token.key m.0 ∷ (json_tokens m.1 ++ tokens_of ms)

-- the members of a record that say where the peer is and what is known of it
unfoldable pub peer_tokens : Places → Rec → List Token
peer_tokens places r =
    tokens_of ((codes "address", string (name_text r.peer.addr)) ∷ [])
    ++ tokens_of (unless_zero (codes "mapped_as") (asn places.map r.peer.addr))
    ++ tokens_of ((codes "port", json_number r.peer.port) ∷ [])
    ++ tokens_of ((codes "services", json_number r.services) ∷ [])
    ++ tokens_of ((codes "time", json_number r.time) ∷ [])
    ++ tokens_of ((codes "network", string (class_name r.peer.addr)) ∷ [])

-- the members that say who announced it
unfoldable pub source_tokens : Places → Rec → List Token
source_tokens places r =
    tokens_of ((codes "source", string (name_text r.source)) ∷ [])
    ++ tokens_of ((codes "source_network", string (class_name r.source)) ∷ [])
    ++ tokens_of (unless_zero (codes "source_mapped_as") (asn places.map r.source))

-- when a ban was made, when it is over, how long it lasts, and for how long still
unfoldable pub span_tokens : ℕ → ℕ → ℕ → ℕ → List Token
span_tokens created until duration remaining =
    tokens_of ((codes "ban_created", json_number created) ∷ [])
    ++ tokens_of ((codes "banned_until", json_number until) ∷ [])
    ++ tokens_of ((codes "ban_duration", json_number duration) ∷ [])
    ++ tokens_of ((codes "time_remaining", json_number remaining) ∷ [])

-- the times of a ban
abbrev pub time_tokens : ℕ → Ban → List Token
time_tokens now ban =
    span_tokens ban.created ban.until (ban.until - ban.created) (ban.until - now)

-- the tokens of items, one after another
abbrev pub items_tokens_of : List Json → List Token
items_tokens_of [] = []
items_tokens_of (j ∷ js) = json_tokens j ++ items_tokens_of js

-- the tokens of the objects of some rows
abbrev pub rows_tokens : Places → List Row → List Token
rows_tokens places rows = flat_map (λ row. items_tokens_of (row_items places row)) rows
