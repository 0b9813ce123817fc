-- The lines about the records of peers.dat whose group changes from one asmap to another.
use Rattle.std.specs.Prelude.{ℕ, ◌+◌, Bool, List, [], ◌++◌, Some, bytes_eq, codes, count_by, decimal, length, not, if◌then◌else◌}
use Rattle.std.specs.List.{flat_map}
use Rattle.asmap_vm.specs.Asmap.{Asmap}
use Rattle.hex.specs.Hex.{encode_lower}
use Rattle.net_addr.specs.Address.{Address}
use Rattle.net_addr.specs.Text.{peer_text}
use Rattle.net_addr.specs.declared.peer.Peer.{Peer}
use Rattle.net_group.specs.Group.{group_of}
use Rattle.peer_rec.specs.Snapshot.{Snapshot}
use Rattle.peer_rec.specs.declared.file_rec.FileRec.{FileRec}
use Rattle.placing.specs.Places.{asn}

-- the group that an address has under an asmap
abbrev pub group_under : Asmap → Address → List ℕ
group_under map a = group_of a (asn (Some map) a)

-- the record's peer has two groups
abbrev pub changes_group : Asmap → Asmap → FileRec → Bool
changes_group old new r =
    not (bytes_eq (group_under old r.peer.addr) (group_under new r.peer.addr))

-- a peer, the group that it has, and the one that it had
abbrev pub groups_text : Peer → List ℕ → List ℕ → List ℕ
groups_text peer group old_group =
    codes "# " ++ peer_text peer ++ codes " group " ++ encode_lower group ++ codes " was "
    ++ encode_lower old_group ++ codes "\n"

-- the line about a record, none if its group is the same
unfoldable pub change_line : Asmap → Asmap → FileRec → List ℕ
change_line old new r =
    if changes_group old new r
    then groups_text r.peer (group_under new r.peer.addr) (group_under old r.peer.addr)
    else []

-- how many records there are, and the group of how many changes
abbrev pub totals_line : ℕ → ℕ → List ℕ
totals_line changes records =
    codes "# " ++ decimal changes ++ codes " of " ++ decimal records
    ++ codes " records change their group\n"

-- the lines about the records of a table
abbrev pub change_lines : Asmap → Asmap → List FileRec → List ℕ
change_lines old new recs = flat_map (change_line old new) recs

-- how many records of a table change their group
abbrev pub changes_of : Asmap → Asmap → List FileRec → ℕ
changes_of old new recs = count_by (changes_group old new) recs

-- the records of a file, those of the new table first, and how many they are
unfoldable pub group_changes_text : Asmap → Asmap → Snapshot → List ℕ
group_changes_text old new snap =
    change_lines old new snap.new_recs ++ change_lines old new snap.tried_recs
    ++ totals_line (changes_of old new snap.new_recs + changes_of old new snap.tried_recs)
    (length snap.new_recs + length snap.tried_recs)
