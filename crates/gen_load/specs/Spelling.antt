-- What it means that a log can be replayed: what each of its lines parses as.
use Rattle.std.specs.Prelude.{◌≡◌, ◌≢◌, ℕ, ◌-◌, ◌≤◌, List, [], ◌∷◌, ◌++◌, length, take, All, true, Contains, Option, Some, ⊤}
use Rattle.net_addr.specs.Ranges.{is_routable}
use Rattle.net_addr.specs.declared.peer.Entry.{Entry}
use Rattle.addr_codecs.specs.Layout.{IsAddrMessage}
use Rattle.log_lines.specs.Spelling.{SpellsCommand}
use Rattle.log_lines.specs.declared.command.Command.{Command}
use Rattle.log_lines.specs.declared.command.Command.TheVariants as command
use Rattle.gen_load.specs.declared.generated.TheConstants.{MAX_LENGTH}

-- the peers of a message are routable
abbrev pub HasRoutablePeers : List ℕ → Type 0
HasRoutablePeers payload =
    (entries : List (Option Entry)) → IsAddrMessage payload entries → (e : Entry)
    → Contains entries (Some e) → is_routable e.peer.addr ≡ true

-- a command of one of the eight kinds that logs have, of which none saves; its source and its peers
-- are routable
abbrev pub IsDrawn : Command → Type 0
IsDrawn (command.Now time) = ⊤
IsDrawn (command.Addr source payload words) = (is_routable source ≡ true) × HasRoutablePeers payload
IsDrawn (command.Good peer testing) = is_routable peer.addr ≡ true
IsDrawn (command.Attempt peer count) = is_routable peer.addr ≡ true
IsDrawn (command.Connected peer) = is_routable peer.addr ≡ true
IsDrawn (command.Select new_only nets words) = ⊤
IsDrawn (command.Clash word) = ⊤
IsDrawn command.Resolve = ⊤
IsDrawn other = ⊥

-- a line of a generated log: it ends with its only line feed, is short, and parses as exactly one
-- command, one of those that are generated
pub record IsGenLine (line : List ℕ) : Type 0 where
  pub text : List ℕ
  pub whole : line ≡ text ++ 10 ∷ []
  pub one_line : All (λ b. b ≢ 10) text
  pub short : length line ≤ MAX_LENGTH
  pub command : Command
  pub spells : SpellsCommand text command
  pub only : (other : Command) → SpellsCommand text other → other ≡ command
  pub drawn : IsDrawn command

-- a line without its line feed
abbrev pub without_feed : List ℕ → List ℕ
without_feed line = take (length line - 1) line

-- Each line is one that a generated log can have.
abbrev pub AreLines : List (List ℕ) → Type 0
AreLines [] = ⊤
AreLines (line ∷ lines) = IsGenLine line × AreLines lines
