-- What the calls on the limit of received addresses return, write and leave.
use Rattle.std.specs.Prelude.{◌≡◌, ◌⊎◌, ℕ, ◌<◌, ◌≤◌, List, [], Bool, is_none, Option, Some, None, MatchOption}
use Rattle.net_addr.specs.Address.{Address}
use Rattle.addr_codecs.specs.declared.message.TheConstants.{MAX_ENTRIES}
use Rattle.limiter.specs.State.{find_conn, new_conn}
use Rattle.limiter.specs.Tokens.{refill, intake_count}
use Rattle.limiter.specs.Calls.{after_open, after_taking}
use Rattle.limiter.specs.declared.limiter.Conn.{Conn}
use Rattle.limiter.specs.declared.limiter.Asked.{Asked}
use Rattle.limiter.specs.declared.limiter.Asked.TheVariants.{Unknown, Already, Granted}
use Rattle.c_values.specs.declared.code.TheConstants.{OK, CLOSED, MEMORY, ARGUMENT, NONE}
use Rattle.c_handles.specs.declared.limiter_handle.KeptLimiter.{KeptLimiter}
use Rattle.c_values.specs.declared.structs.AddrmanLimits.{AddrmanLimits}
use Rattle.c_values.specs.Values.{bit}

-- A closed handle stays closed. An open one stays open, and its connections before and after are as
-- the call says.
abbrev pub OnLimiter : Option KeptLimiter → ℕ → Option KeptLimiter
    → (List Conn → List Conn → Type 0) → Type 0
OnLimiter None code new Call = (code ≡ CLOSED) × (new ≡ None)
OnLimiter (Some kept) code None Call = ⊥
OnLimiter (Some kept) code (Some after) Call = Call kept.limiter after.limiter

-- a limit without connections is opened, or the handle is closed
abbrev pub StartCall : ℕ → Option KeptLimiter → Type 0
StartCall code None = code ≡ MEMORY
StartCall code (Some kept) = (code ≡ OK) × (kept.limiter ≡ [])

-- a connection is opened, unless its number has one; None is no address
abbrev pub ConnectCall : Option Address → ℕ → Bool → ℕ → List Conn → ℕ → ℕ → List Conn → Type 0
ConnectCall None number unlimited now old code is_new new = (code ≡ ARGUMENT) × (new ≡ old)
ConnectCall (Some addr) number unlimited now old code is_new new =
    ((code ≡ MEMORY) × (new ≡ old))
    ⊎ ((code ≡ OK) × (is_new ≡ bit (is_none (find_conn number old)))
    × (new ≡ after_open (new_conn number addr unlimited now) old))

-- the number of an answer in the header
abbrev pub asked_number : Asked → ℕ
asked_number Unknown = 0
asked_number Already = 1
asked_number Granted = 2

-- How many entries of a message are admitted. A count above the maximum of a message is refused,
-- and a number may have no connection.
abbrev pub AdmitCall : ℕ → ℕ → Option Conn → List Conn → ℕ → ℕ → List Conn → Type 0
AdmitCall count now found old code admitted new =
    ((MAX_ENTRIES < count) × (code ≡ ARGUMENT) × (new ≡ old))
    ⊎ ((count ≤ MAX_ENTRIES) × (new ≡ after_taking now count found old)
    × MatchOption found (code ≡ NONE)
    (λ c. (code ≡ OK) × (admitted ≡ intake_count (refill now c) count)))

-- the struct has the fields of the connection
pub record IsLimits (out : AddrmanLimits) (c : Conn) : Type 0 where
  pub tenths : out.tenths ≡ c.tenths
  pub moment : out.moment ≡ c.moment
  pub processed : out.processed ≡ c.processed
  pub limited : out.limited ≡ c.limited
  pub asked : out.asked ≡ bit c.asked
  pub unlimited : out.unlimited ≡ bit c.unlimited

-- what is known of a connection
abbrev pub StatCall : Option Conn → ℕ → AddrmanLimits → Type 0
StatCall found code out = MatchOption found (code ≡ NONE) (λ c. (code ≡ OK) × IsLimits out c)
