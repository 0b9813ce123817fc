-- What `help` and `version` write, and how they end.
use Rattle.std.specs.Prelude.{◌≡◌, ℕ, List, Option}
use Rattle.arguments.specs.Help.{help_text}
use Rattle.arguments.specs.declared.name.CommandName.{CommandName}
use Rattle.host_io.specs.Outside.{Outside}
use Rattle.addrman_run.specs.OneText.{OneTextEnds}
use Rattle.addrman_run.specs.declared.help.TheConstants.{VERSION}
use Rattle.addrman_run.specs.declared.status.Status.{Status}

-- the page of a command, or the list of all
abbrev pub IsHelp : Option CommandName → List ℕ → Type 0
IsHelp command text = text ≡ help_text command

-- How `help` ends: it writes the page of the command, or the list of all.
abbrev pub HelpEnds : Option CommandName → Outside → Outside → Status → Type 0
HelpEnds command = OneTextEnds (IsHelp command)

-- the version and the toolchain
abbrev pub IsVersion : List ℕ → Type 0
IsVersion text = text ≡ VERSION.now

-- How `version` ends: it writes the version.
abbrev pub VersionEnds : Outside → Outside → Status → Type 0
VersionEnds = OneTextEnds IsVersion
