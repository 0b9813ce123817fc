-- A request with the random words of a slice, and why one has no answer.
use Rattle.std.specs.Prelude.{◌≡◌, ◌<◌, ◌≤◌, ◌+◌, ℕ, Bool, ◌&&◌, not, true, List, length, get_or, drop, is_none}
use Rattle.ban_list.specs.declared.ban.Ban.{Ban}
use Rattle.table_machine.specs.State.{State}
use Rattle.addr_answers.specs.Answers.{Answer, answer_at, has_room}
use Rattle.addr_answers.specs.Runs.{Ask}
use Rattle.getaddr.specs.Fresh.{ask_of, tables_after}
use Rattle.getaddr.specs.declared.requests.RequestFault.{RequestFault}
use Rattle.getaddr.specs.declared.requests.RequestFault.TheVariants.{NoRoom, ShortWords, Memory}
use Rattle.getaddr.specs.declared.times.Times.{Times}

-- the first word selects how long a new answer is kept and its time, the others the peers
abbrev pub request : State → List Ban → Times → ℕ → ℕ → List ℕ → Ask
request st bans times key now words =
    ask_of st bans times key now (get_or words 0 0) (drop 1 words)

-- the tables after it
abbrev pub tables_after_request : List Answer → Ask → State → List ℕ → State
tables_after_request kept ask st words = tables_after kept ask st (drop 1 words)

-- the key has no answer, and there is no room for one
abbrev pub lacks_room : List Answer → ℕ → ℕ → Bool
lacks_room kept key now = is_none (answer_at key now kept) && not (has_room key kept)

-- a new answer is wanted, and there is room for it
abbrev pub wants_answer : List Answer → ℕ → ℕ → Bool
wants_answer kept key now = is_none (answer_at key now kept) && has_room key kept

-- Why there is no answer: no room for one; or fewer random words than one, and one for each record,
-- though a new one is wanted; and then the tables are as before. Or no memory.
abbrev pub IsRequestFault : State → List Answer → ℕ → ℕ → List ℕ → RequestFault → State → Type 0
IsRequestFault st kept key now words NoRoom st_after =
    (lacks_room kept key now ≡ true) × (st_after ≡ st)
IsRequestFault st kept key now words (ShortWords need) st_after =
    (wants_answer kept key now ≡ true) × (length words ≤ length st.order)
    × (need ≡ length st.order + 1) × (st_after ≡ st)
IsRequestFault st kept key now words Memory st_after =
    (wants_answer kept key now ≡ true) × (length st.order < length words)
