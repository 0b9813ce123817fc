-- The text of each answer, with its line feed.
use Rattle.std.specs.Prelude.{ℕ, List, ◌++◌, Bool, true, false, codes, decimal}
use Rattle.hex.specs.Hex.{encode_lower}
use Rattle.net_addr.specs.Text.{peer_text}
use Rattle.net_addr.specs.declared.peer.Peer.{Peer}
use Rattle.log_lines.specs.Replies.{reply_text}
use Rattle.opener_lines.specs.State.{Answer, Full, Opened, Tested, NoPeer, GaveUp, Closed, Told}

-- how many tries a peer took
abbrev pub tries_text : ℕ → List ℕ
tries_text tries = codes " tries " ++ decimal tries ++ codes "\n"

-- A peer that was opened, with its group in hexadecimal digits and the number of tries.
abbrev pub opened_text : Peer → List ℕ → ℕ → List ℕ
opened_text peer group tries =
    codes "outbound " ++ peer_text peer ++ codes " group " ++ encode_lower group ++ tries_text tries

-- A peer that a feeler tests, with the number of tries.
abbrev pub tested_text : Peer → ℕ → List ℕ
tested_text peer tries = codes "feeler " ++ peer_text peer ++ tries_text tries

-- Whether a peer that was to be closed was open.
abbrev pub closed_text : Bool → List ℕ
closed_text true = codes "closed\n"
closed_text false = codes "unknown\n"

-- The text of an answer.
abbrev pub answer_text : Answer → List ℕ
answer_text Full = codes "full\n"
answer_text (Opened peer group tries) = opened_text peer group tries
answer_text (Tested peer tries) = tested_text peer tries
answer_text NoPeer = codes "none\n"
answer_text GaveUp = codes "gave-up\n"
answer_text (Closed was_open) = closed_text was_open
answer_text (Told reply) = reply_text reply
