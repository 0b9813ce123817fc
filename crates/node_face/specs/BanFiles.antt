-- The list of bans that the banlist.json of a folder has.
use Rattle.std.specs.Prelude.{◌≡◌, ◌≢◌, ℕ, ◌<◌, List, length, Option, Some, IfSome, ⊤}
use Rattle.std.specs.Option.{option_map}
use Rattle.host_io.specs.Files.{Files}
use Rattle.host_io.specs.PerName.{under}
use Rattle.host_io.specs.declared.name.Name.TheVariants as name
use Rattle.ban_list.specs.BanFile.{IsBanFile, HasBanFault}
use Rattle.ban_list.specs.declared.ban.Ban.{Ban}
use Rattle.ban_list.specs.declared.fault.BanFault.TheVariants as ban
use Rattle.ban_list.specs.declared.read_file.TheConstants.{MAX_FILE}
use Rattle.node_face.specs.declared.ban_files.ListFault.{ListFault}
use Rattle.node_face.specs.declared.ban_files.ListFault.TheVariants.{Disk, TooLarge, File, Memory}

-- the bytes are those of the folder's banlist.json, if contracts know its files
abbrev pub AreBytesOf : Option Files → List ℕ → Type 0
AreBytesOf known bytes = IfSome known (λ files. under files name.Bans ≡ Some bytes)

-- the list of the folder's banlist.json
abbrev pub IsListOf : Option Files → List Ban → Type 0
IsListOf known bans = (bytes : List ℕ) × AreBytesOf known bytes × IsBanFile bytes bans

-- why the folder's banlist.json has no list: the folder or memory, its size, or what is wrong with
-- its bytes
abbrev pub IsListFault : Option Files → ListFault → Type 0
IsListFault known Disk = ⊤
IsListFault known Memory = ⊤
IsListFault known (TooLarge size) =
    (MAX_FILE < size)
    × IfSome known (λ files. option_map length (under files name.Bans) ≡ Some size)
IsListFault known (File why) =
    (bytes : List ℕ) × AreBytesOf known bytes × HasBanFault bytes why × (why ≢ ban.Memory)
