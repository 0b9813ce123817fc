-- A request for addresses whose random words are drawn of a generator.
use Rattle.std.specs.Prelude.{ℕ, ◌+◌, List, [], length, if◌then◌else◌}
use Rattle.rand_core.specs.Stream.{Stream}
use Rattle.ban_list.specs.declared.ban.Ban.{Ban}
use Rattle.table_machine.specs.State.{State}
use Rattle.addr_answers.specs.Answers.{Answer}
use Rattle.addr_answers.specs.Runs.{Ask}
use Rattle.getaddr.specs.Requests.{request, tables_after_request, wants_answer}
use Rattle.getaddr.specs.declared.times.Times.{Times}
use Rattle.node_face.specs.Sampling.{next_words}

-- the words for a request of a key: if a new answer is wanted, one, and one for each record
abbrev pub words_for : Stream → List Answer → State → ℕ → ℕ → List ℕ
words_for stream kept st key now =
    if wants_answer kept key now then next_words (length st.order + 1) stream else []

-- the request
abbrev pub request_by : Stream → List Answer → State → List Ban → ℕ → Times → ℕ → Ask
request_by stream kept st bans key times now =
    request st bans times key now (words_for stream kept st key now)

-- the tables after it
abbrev pub tables_by : Stream → List Answer → State → List Ban → ℕ → Times → ℕ → State
tables_by stream kept st bans key times now =
    tables_after_request kept (request_by stream kept st bans key times now) st
    (words_for stream kept st key now)
