-- What the calls on answers to `getaddr` return, write and leave.
use Rattle.std.specs.Prelude.{◌≡◌, ◌⊎◌, ℕ, ◌+◌, ◌<◌, ◌≤◌, List, [], length, map, filter, Bool, true, false, Option, Some, None}
use Rattle.addr_answers.specs.Answers.{Answer, key_of}
use Rattle.addr_answers.specs.Runs.{Ask, is_made, after_ask, told}
use Rattle.addr_codecs.specs.Layout.{IsMessage}
use Rattle.addr_codecs.specs.declared.form.Form.{Form}
use Rattle.ban_list.specs.declared.ban.Ban.{Ban}
use Rattle.getaddr.specs.Messages.{fits}
use Rattle.getaddr.specs.Requests.{request, tables_after_request, lacks_room, wants_answer}
use Rattle.getaddr.specs.declared.times.Times.{Times}
use Rattle.getaddr.specs.declared.times.Times.TheVariants.{Hidden, Own}
use Rattle.net_addr.specs.declared.peer.Entry.{Entry}
use Rattle.net_addr.specs.declared.net.Net.{Net}
use Rattle.table_machine.specs.State.{State}
use Rattle.c_handles.specs.declared.answers_handle.KeptAnswers.{KeptAnswers}
use Rattle.c_handles.specs.declared.bans_handle.KeptBans.{KeptBans}
use Rattle.c_handles.specs.declared.handle.Kept.{Kept}
use Rattle.c_values.specs.declared.code.TheConstants.{OK, CLOSED, MEMORY, ARGUMENT, SHORT_WORDS, NONE}
use Rattle.c_values.specs.Values.{IsPut}

-- no answers are kept yet, or the handle is closed
abbrev pub NewCall : ℕ → Option KeptAnswers → Type 0
NewCall code None = code ≡ MEMORY
NewCall code (Some kept) = (code ≡ OK) × (kept.answers ≡ [])

-- the answers are dropped; a closed handle stays closed
abbrev pub ForgetCall : Option KeptAnswers → ℕ → Option KeptAnswers → Type 0
ForgetCall None code new = (code ≡ CLOSED) × (new ≡ None)
ForgetCall (Some kept) code None = ⊥
ForgetCall (Some kept) code (Some after) = (code ≡ OK) × (after.answers ≡ [])

-- What the three handles keep before the call, the code, and what they keep after. If all are open,
-- they stay open, and answers, tables and bans before and after are as the call says; it changes
-- neither the outbound peers nor the bans. If one is closed, all are as they were.
abbrev pub OnThree : Option KeptAnswers → Option Kept → Option KeptBans → ℕ → Option KeptAnswers
    → Option Kept → Option KeptBans
    → (List Answer → State → List Ban → List Answer → State → Type 0) → Type 0
OnThree (Some answers) (Some kept) (Some bans) code new_answers new_kept new_bans Call =
    (after : KeptAnswers) × (tables : State)
    × (new_answers ≡ Some after) × (new_kept ≡ Some (record kept { tables = tables }))
    × (new_bans ≡ Some bans)
    × Call answers.answers kept.tables bans.bans after.answers tables
OnThree answers kept bans code new_answers new_kept new_bans Call =
    (code ≡ CLOSED) × (new_answers ≡ answers) × (new_kept ≡ kept) × (new_bans ≡ bans)

-- which times the entries have
abbrev pub times_of : Bool → Times
times_of false = Hidden
times_of true = Own

-- the message of this form of the entries that it has a form for, written whole or not at all
abbrev pub IsWritten : Form → List Entry → ℕ → List ℕ → List ℕ → ℕ → Type 0
IsWritten form entries code old new count =
    (bytes : List ℕ) × IsMessage form bytes (map Some (filter (fits form) entries))
    × IsPut bytes old code count new

-- the message, or there is no memory for it
abbrev pub PutAnswer : Form → List Entry → ℕ → List ℕ → List ℕ → ℕ → Type 0
PutAnswer form entries code old new count =
    ((code ≡ MEMORY) × (new ≡ old)) ⊎ IsWritten form entries code old new count

-- What a request is answered, if there is room for an answer of its key and, should one be made,
-- the words suffice: the answer that is kept of the key after it, which is new if there was none.
-- If memory runs out while a new answer is made, the answers are as they were, and of the tables at
-- most the order has changed. If it runs out later, answers and tables are those after the request,
-- so they are as they were if an answer was kept.
abbrev pub TellCall : Form → Ask → List ℕ → List Answer → State → ℕ → List ℕ → List ℕ → ℕ
    → List Answer → State → Type 0
TellCall form ask words kept st code old new count kept_after st_after =
    ((is_made kept ask ≡ true) × (code ≡ MEMORY) × (new ≡ old) × (kept_after ≡ kept)
    × (st_after ≡ record st { order = st_after.order }))
    ⊎ ((kept_after ≡ after_ask kept ask) × (st_after ≡ tables_after_request kept ask st words)
    × PutAnswer form (told kept ask) code old new count)

-- nothing changes, for the reason that the code says
abbrev pub Unanswered : ℕ → List Answer → State → ℕ → List ℕ → List ℕ → List Answer → State → Type 0
Unanswered reason kept st code old new kept_after st_after =
    (code ≡ reason) × (new ≡ old) × (kept_after ≡ kept) × (st_after ≡ st)

-- A request of a key. It has no answer exactly if there is no room for one, or if a new one is
-- wanted and there are fewer random words than one, and one for each record.
abbrev pub KeyCall : ℕ → Form → Times → ℕ → List ℕ → List Answer → State → List Ban → ℕ → List ℕ
    → List ℕ → ℕ → List Answer → State → Type 0
KeyCall key form times now words kept st bans code old new count kept_after st_after =
    ((lacks_room kept key now ≡ true) × Unanswered NONE kept st code old new kept_after st_after)
    ⊎ (((wants_answer kept key now ≡ true) × (length words ≤ length st.order)
    × (count ≡ length st.order + 1)
    × Unanswered SHORT_WORDS kept st code old new kept_after st_after)
    ⊎ ((lacks_room kept key now ≡ false)
    × (wants_answer kept key now ≡ true → length st.order < length words)
    × TellCall form (request st bans times key now words) words kept st code old new count
    kept_after st_after))

-- a request of a network class that came in on a local socket; None is no network
abbrev pub AnswerCall : Option Net → ℕ → Form → Times → ℕ → List ℕ → List Answer → State → List Ban
    → ℕ → List ℕ → List ℕ → ℕ → List Answer → State → Type 0
AnswerCall None socket form times now words kept st bans code old new count kept_after st_after =
    Unanswered ARGUMENT kept st code old new kept_after st_after
AnswerCall (Some net) socket form times now words kept st bans code old new count kept_after
    st_after =
    KeyCall (key_of net socket) form times now words kept st bans code old new count kept_after
    st_after
