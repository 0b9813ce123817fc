-- Definitions for private contracts.
use Rattle.std.specs.Prelude.{ℕ, ◌≤◌, ◌+◌, ◌*◌, List, Bool, true, false, ◌++◌, [], ◌∷◌, codes, decimal}
use Rattle.hex.specs.Hex.{encode_lower}
use Rattle.net_addr.specs.declared.peer.Entry.{Entry}
use Rattle.addr_codecs.specs.Texts.{message_text, addr_entry_text}
use Rattle.gen_load.specs.declared.position.Position.{Position}
use Rattle.gen_load.specs.Log.{drawn_line, drawn_lines, whole_log}

-- the lines that are to come, after the first line or before it
abbrev pub lines_left : Bool → ℕ → Position → List (List ℕ)
lines_left true left at = drawn_lines left at
lines_left false left at = whole_log left at

-- The next line: the drawn one, or the first of the log, which sets the clock.
abbrev pub line_with : Bool → Position → List ℕ
line_with true at = (drawn_line at).text ++ 10 ∷ []
line_with false at = codes "now " ++ decimal at.time ++ 10 ∷ []

-- The position after the next line.
abbrev pub position_with : Bool → Position → Position
position_with true at = (drawn_line at).after
position_with false at = at

-- the clock is late enough for the times of entries, and early enough for the lines to come
pub record IsInTime (time left : ℕ) : Type 0 where
  pub late : 1700000000 ≤ time
  pub early : time + 600 * left ≤ 1760000000

-- The hexadecimal digits of an `addr` message with these entries.
abbrev pub payload_text : List Entry → List ℕ
payload_text entries = encode_lower (message_text addr_entry_text entries)
