-- When a record leaves the tried table. That a record is tested before it makes way
-- (`AddrManImpl::ResolveCollisions_` in addrman.cpp of Bitcoin Core) is a defence of Heilman et
-- al., "Eclipse Attacks on Bitcoin's Peer-to-Peer Network" (2015).
use Rattle.std.specs.Prelude.{◌≡◌, ◌≢◌, ◌⊎◌, ℕ, ◌+◌, ◌≤◌, List, false, true, Contains}
use Rattle.placing.specs.Places.{tried_bucket, tried_slot}
use Rattle.peer_rec.specs.Rec.{is_tried}
use Rattle.peer_rec.specs.declared.rec.Rec.{Rec}
use Rattle.log_lines.specs.Spelling.{SpellsCommand}
use Rattle.log_lines.specs.declared.command.Command.{Command}
use Rattle.log_lines.specs.declared.command.Command.TheVariants as command
use Rattle.manager.specs.Machine.{Machine}
use Rattle.table_machine.specs.State.{State}

-- the record of this number and peer is in the tried table
abbrev pub StaysTried : State → Rec → Type 0
StaysTried st r =
    (q : Rec) × Contains st.records q × (q.number ≡ r.number) × (q.peer ≡ r.peer)
    × (is_tried q ≡ true)

-- another record is in the tried table, in the slot of the record's peer
pub record TakesSlot (st : State) (r q : Rec) : Type 0 where
  pub has : Contains st.records q
  pub tried : is_tried q ≡ true
  pub bucket : tried_bucket st.places q.peer ≡ tried_bucket st.places r.peer
  pub slot : tried_slot st.places q.peer (tried_bucket st.places q.peer)
      ≡ tried_slot st.places r.peer (tried_bucket st.places r.peer)
  pub other : q.number ≢ r.number

-- The commands by which q may take the slot of r: a connection to the peer of q succeeded and the
-- occupant is not to be tested; or all collisions are decided, and the last connection to the peer
-- of r is at least four hours old.
abbrev pub MayDisplace : Machine → Command → Rec → Rec → Type 0
MayDisplace old (command.Good peer testing) r q = (peer ≡ q.peer) × (testing ≡ false)
MayDisplace old command.Resolve r q = r.last_success + 14400 ≤ old.clock
MayDisplace old other r q = ⊥

-- a record leaves the tried table in this line, for another one of its slot
abbrev pub IsDisplaced : Machine → List ℕ → Machine → Rec → Type 0
IsDisplaced old line new r =
    (asked : Command) × SpellsCommand line asked
    × ((q : Rec) × TakesSlot new.tables r q × MayDisplace old asked r q)

-- each tried record stays in the tried table over a line, unless it is displaced
abbrev pub KeepsTried : Machine → List ℕ → Machine → Type 0
KeepsTried old line new =
    (r : Rec) → Contains old.tables.records r → is_tried r ≡ true
    → StaysTried new.tables r ⊎ IsDisplaced old line new r
