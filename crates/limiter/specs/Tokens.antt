-- How a connection gets tokens and spends them (`ProcessAddrs` in net_processing.cpp of Bitcoin
-- Core, which counts fractions of a token; here tenths are counted).
use Rattle.std.specs.Prelude.{ℕ, ◌+◌, ◌-◌, ◌*◌, ◌/◌, ◌^◌, min, List, [], ◌∷◌, Bool, true, ◌||◌, nat_lt, nat_le, if◌then◌else◌}
use Rattle.limiter.specs.declared.limiter.Conn.{Conn}

-- A tenth for each second since the connection's last message that was neither refused nor short,
-- or since it was opened, up to a thousand tokens. A connection that has more keeps them. A clock
-- that went back adds nothing.
abbrev pub refill : ℕ → Conn → Conn
refill now c = record c {
  tenths = if nat_lt c.tenths 10000 then min 10000 (c.tenths + (now - c.moment)) else c.tenths;
  moment = now;
}

-- a count that stays at its maximum
abbrev pub count_up : ℕ → ℕ
count_up n = min (n + 1) (2 ^ 32 - 1)

-- an entry is admitted if there is a token for it, or if the connection is unlimited
abbrev pub admits : Conn → Bool
admits c = c.unlimited || nat_le 10 c.tenths

-- the connection after an entry, which costs a token if there is one; the entry is counted as
-- admitted or as dropped
abbrev pub after_entry : Conn → Conn
after_entry c = record c {
  tenths = if nat_le 10 c.tenths then c.tenths - 10 else c.tenths;
  processed = if admits c then count_up c.processed else c.processed;
  limited = if admits c then c.limited else count_up c.limited;
}

-- the connection after entries in order
abbrev pub after_entries : {E : Type 0} → Conn → List E → Conn
after_entries c [] = c
after_entries c (e ∷ es) = after_entries (after_entry c) es

-- the entries that are admitted
abbrev pub intake : {E : Type 0} → Conn → List E → List E
intake c [] = []
intake c (e ∷ es) = if admits c then e ∷ intake (after_entry c) es else intake (after_entry c) es

-- the connection after getaddr: a thousand tokens, once
abbrev pub after_getaddr : Conn → Conn
after_getaddr c = if c.asked then c else record c { tenths = c.tenths + 10000; asked = true }

-- how many of this many entries are admitted
abbrev pub intake_count : Conn → ℕ → ℕ
intake_count c count = if c.unlimited then count else min count (c.tenths / 10)

-- the connection after this many entries
abbrev pub admit_conn : Conn → ℕ → Conn
admit_conn c count = record c {
  tenths = c.tenths - 10 * min count (c.tenths / 10);
  processed = min (c.processed + intake_count c count) (2 ^ 32 - 1);
  limited = min (c.limited + (count - intake_count c count)) (2 ^ 32 - 1);
}
