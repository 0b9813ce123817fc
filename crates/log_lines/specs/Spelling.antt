-- Which line parses as which command, and what is wrong in a line that parses as none.
use Rattle.std.specs.Prelude.{◌≡◌, ◌^◌, ◌-◌, ℕ, List, [], ◌∷◌, map, codes}
use Rattle.grammar.specs.Fields.{u32_field, u64_field, Kind, Number, OfAddr, OfPeer, Hex, Random, Either, Nets, Classes, Value, AllMean, TheNumber, TheAddr, ThePeer, TheBytes, TheWords, TheChoice, TheNets}
use Rattle.grammar.specs.Reading.{Says}
use Rattle.grammar.specs.Table.{Table, kinds_after, ValuesAfter, FaultAfter}
use Rattle.grammar.specs.Words.{fields_of}
use Rattle.host_io.specs.Lines.{IsPassedOver}
use Rattle.log_lines.specs.declared.command.Command.{Command}
use Rattle.log_lines.specs.declared.command.Command.TheVariants as c
use Rattle.grammar.specs.declared.fault.LineFault.{LineFault}
use Rattle.log_lines.specs.declared.word.CommandWord.{CommandWord}
use Rattle.log_lines.specs.declared.word.CommandWord.TheVariants as v

-- the first word of a line
abbrev pub word_of : CommandWord → List ℕ
word_of v.Now = codes "now"
word_of v.Addr = codes "addr"
word_of v.Addr2 = codes "addrv2"
word_of v.Good = codes "good"
word_of v.Attempt = codes "attempt"
word_of v.Connected = codes "connected"
word_of v.Services = codes "services"
word_of v.Find = codes "find"
word_of v.Size = codes "size"
word_of v.Select = codes "select"
word_of v.Sample = codes "sample"
word_of v.Resolve = codes "resolve"
word_of v.Clash = codes "clash"
word_of v.Dump = codes "dump"
word_of v.Save = codes "save"
word_of v.SaveBegin = codes "save-begin"
word_of v.SaveStep = codes "save-step"
word_of v.SaveEnd = codes "save-end"

-- the kinds of the fields after the first word
abbrev pub kinds_of : CommandWord → List Kind
kinds_of v.Now = u32_field ∷ []
kinds_of v.Addr = OfAddr ∷ Hex ∷ Random ∷ []
kinds_of v.Addr2 = OfAddr ∷ Hex ∷ Random ∷ []
kinds_of v.Good = OfPeer ∷ Either (codes "test") (codes "force") ∷ []
kinds_of v.Attempt = OfPeer ∷ Either (codes "count") (codes "nocount") ∷ []
kinds_of v.Connected = OfPeer ∷ []
kinds_of v.Services = OfPeer ∷ u64_field ∷ []
kinds_of v.Find = OfPeer ∷ []
kinds_of v.Size = []
kinds_of v.Select = Either (codes "new") (codes "any") ∷ Nets ∷ Random ∷ []
kinds_of v.Sample = u32_field ∷ Number 0 100 ∷ Classes ∷ Random ∷ []
kinds_of v.Resolve = []
kinds_of v.Clash = u64_field ∷ []
kinds_of v.Dump = []
kinds_of v.Save = []
kinds_of v.SaveBegin = []
kinds_of v.SaveStep = Number 1 (2 ^ 32 - 1) ∷ []
kinds_of v.SaveEnd = []

-- the first word of the lines that parse as a command
abbrev pub verb_of : Command → CommandWord
verb_of (c.Now time) = v.Now
verb_of (c.Addr source payload words) = v.Addr
verb_of (c.Addr2 source payload words) = v.Addr2
verb_of (c.Good peer testing) = v.Good
verb_of (c.Attempt peer count) = v.Attempt
verb_of (c.Connected peer) = v.Connected
verb_of (c.Services peer services) = v.Services
verb_of (c.Find peer) = v.Find
verb_of c.Size = v.Size
verb_of (c.Select new_only nets words) = v.Select
verb_of (c.Sample max pct classes words) = v.Sample
verb_of c.Resolve = v.Resolve
verb_of (c.Clash word) = v.Clash
verb_of c.Dump = v.Dump
verb_of c.Save = v.Save
verb_of c.SaveBegin = v.SaveBegin
verb_of (c.SaveStep count) = v.SaveStep
verb_of c.SaveEnd = v.SaveEnd

-- the values of the other fields
abbrev pub command_values : Command → List Value
command_values (c.Now time) = TheNumber time ∷ []
command_values (c.Addr source payload words) =
    TheAddr source ∷ TheBytes payload ∷ TheWords words ∷ []
command_values (c.Addr2 source payload words) =
    TheAddr source ∷ TheBytes payload ∷ TheWords words ∷ []
command_values (c.Good peer testing) = ThePeer peer ∷ TheChoice testing ∷ []
command_values (c.Attempt peer count) = ThePeer peer ∷ TheChoice count ∷ []
command_values (c.Connected peer) = ThePeer peer ∷ []
command_values (c.Services peer services) = ThePeer peer ∷ TheNumber services ∷ []
command_values (c.Find peer) = ThePeer peer ∷ []
command_values c.Size = []
command_values (c.Select new_only nets words) =
    TheChoice new_only ∷ TheNets nets ∷ TheWords words ∷ []
command_values (c.Sample max pct classes words) =
    TheNumber max ∷ TheNumber pct ∷ TheNets classes ∷ TheWords words ∷ []
command_values c.Resolve = []
command_values (c.Clash word) = TheNumber word ∷ []
command_values c.Dump = []
command_values c.Save = []
command_values c.SaveBegin = []
command_values (c.SaveStep count) = TheNumber count ∷ []
command_values c.SaveEnd = []

-- the table of the log: each keyword, and the kinds of the fields after it
abbrev pub verbs : List CommandWord
verbs =
    v.Now ∷ v.Addr ∷ v.Addr2 ∷ v.Good ∷ v.Attempt ∷ v.Connected ∷ v.Services ∷ v.Find ∷ v.Size
    ∷ v.Select ∷ v.Sample ∷ v.Resolve ∷ v.Clash ∷ v.Dump ∷ v.Save ∷ v.SaveBegin ∷ v.SaveStep
    ∷ v.SaveEnd ∷ []

-- The keywords as words, each with the kinds of its fields.
abbrev pub table : Table
table = map (λ verb. (word_of verb, kinds_of verb)) verbs

-- the fields after a keyword parse as the command
abbrev pub SpellsBy : CommandWord → List (List ℕ) → Command → Type 0
SpellsBy verb texts command =
    (verb_of command ≡ verb) × AllMean (kinds_of verb) texts (command_values command)

-- a first word and the fields after it parse as the command
abbrev pub SpellsAfter : List ℕ → List (List ℕ) → Command → Type 0
SpellsAfter word texts command =
    (word ≡ word_of (verb_of command))
    × ValuesAfter (kinds_after table word) texts (command_values command)

-- what is wrong in a first word and the fields after it
abbrev pub HasFaultAfter : List ℕ → List (List ℕ) → LineFault → Type 0
HasFaultAfter word texts f = FaultAfter (kinds_after table word) texts f

-- the line parses as the command
abbrev pub SpellsCommand : List ℕ → Command → Type 0
SpellsCommand line command = Says SpellsAfter (fields_of line) command

-- what is wrong in a line that is not passed over
abbrev pub HasCommandFault : List ℕ → LineFault → Type 0
HasCommandFault line f = ¬ IsPassedOver line × Says HasFaultAfter (fields_of line) f
