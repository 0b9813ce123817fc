-- The texts of the help.
use Rattle.std.specs.Prelude.{ℕ, List, ◌++◌, codes, Option, Some, None}
use Rattle.std.specs.List.{flat_map}
use Rattle.arguments.specs.declared.name.CommandName.{CommandName}
use Rattle.arguments.specs.declared.name.CommandName.TheVariants as name
use Rattle.arguments.specs.declared.name.TheConstants.{NAMES}
use Rattle.arguments.specs.declared.pages.TheConstants as pages

-- the help of a command: its form, what it does, and the rest of its page
pub record Page : Type 0 where
  pub form : List ℕ
  pub sentence : List ℕ
  pub details : List ℕ

-- a text of the program's own
abbrev pub Text : Type 0
Text = record { now : List ℕ }

-- The page with these three texts.
abbrev pub page_in : Text × Text × Text → Page
page_in texts = record { form = texts.0.now; sentence = texts.1.now; details = texts.2.now }

-- the help of each command; `src/pages.rt` has the texts
abbrev pub page_of : CommandName → Page
page_of name.Replay = page_in pages.REPLAY
page_of name.Opener = page_in pages.OPENER
page_of name.Limit = page_in pages.LIMIT
page_of name.Show = page_in pages.SHOW
page_of name.Picture = page_in pages.PICTURE
page_of name.Raw = page_in pages.RAW
page_of name.Info = page_in pages.INFO
page_of name.Groups = page_in pages.GROUPS
page_of name.Risk = page_in pages.RISK
page_of name.FromRaw = page_in pages.FROM_RAW
page_of name.Compile = page_in pages.COMPILE
page_of name.Decompile = page_in pages.DECOMPILE
page_of name.Diff = page_in pages.DIFF
page_of name.Check = page_in pages.CHECK
page_of name.Lookup = page_in pages.LOOKUP
page_of name.Address = page_in pages.ADDRESS
page_of name.Ban = page_in pages.BAN
page_of name.Unban = page_in pages.UNBAN
page_of name.Banned = page_in pages.BANNED
page_of name.Bans = page_in pages.BANS
page_of name.Gen = page_in pages.GEN
page_of name.Trial = page_in pages.TRIAL
page_of name.Help = page_in pages.HELP
page_of name.Version = page_in pages.VERSION

-- the form of a command, and what it does
unfoldable pub entry_text : CommandName → List ℕ
entry_text name = (page_of name).form ++ codes "\n    " ++ (page_of name).sentence ++ codes "\n"

-- the page of a command
unfoldable pub page_text : CommandName → List ℕ
page_text name = codes "addrman " ++ entry_text name ++ codes "\n" ++ (page_of name).details

-- the page of a command, or the list of all
abbrev pub help_text : Option CommandName → List ℕ
help_text None = pages.HEAD.now ++ flat_map (λ name. entry_text name) NAMES ++ pages.TAIL.now
help_text (Some name) = page_text name
