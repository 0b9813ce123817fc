-- What reading a file from the start gives, field by field.
use Rattle.std.specs.Prelude.{◌≡◌, ◌≢◌, ℕ, ◌/◌, ◌^◌, List, Result, Ok, Err, ◌==◌, nat_le}
use Rattle.std.specs.Int.{w16, w32}
use Rattle.net_addr.specs.declared.peer.Entry.{Entry}
use Rattle.wire_num.specs.Readings.{then_at, value_at, check_at, times_at, map_fault_at, le_at, be_at, compact_at}
use Rattle.addr_codecs.specs.Layout.{entry}
use Rattle.addr_codecs.specs.Readings.{address_at}
use Rattle.anchors.specs.Faults.{of_address, of_count, of_number}
use Rattle.anchors.specs.Layout.{or_zero}
use Rattle.anchors.specs.declared.fault.AnchorCause.TheVariants as cause
use Rattle.anchors.specs.declared.fault.AnchorsFault.{AnchorsFault}
use Rattle.anchors.specs.declared.fault.AnchorsFault.TheVariants.{TooMany, Anchor, Memory}
use Rattle.anchors.specs.declared.read.TheConstants.{MAX_ANCHORS}

-- what reading some bytes gives: a value and the bytes after it, or the fault
abbrev pub Read : Type 0 → Type 0
Read A = List ℕ → Result (A × List ℕ) AnchorsFault

-- Reads the layout of an anchor: the version of the client that wrote it, of which only the high
-- bits count.
unfoldable pub layout_at : ℕ → Read ℕ
layout_at i =
    then_at (map_fault_at (of_number i) (le_at w32))
    (λ n. check_at (n / 2 ^ 19 == 2 ^ 10) (Anchor i cause.Version) n)

-- Reads an anchor: layout, time, services, address and port.
unfoldable pub anchor_at : ℕ → Read Entry
anchor_at i =
    then_at (layout_at i) (λ _.
    then_at (map_fault_at (of_number i) (le_at w32)) (λ time.
    then_at (map_fault_at (of_number i) compact_at) (λ services.
    then_at (map_fault_at (of_address i) address_at) (λ addr.
    then_at (map_fault_at (of_number i) (be_at w16)) (λ port.
    value_at (entry time services port (or_zero addr)))))))

-- Reads the number of anchors, up to a limit.
unfoldable pub count_at : Read ℕ
count_at =
    then_at (map_fault_at of_count compact_at)
    (λ n. check_at (nat_le n MAX_ANCHORS) (TooMany n) n)

-- Reads what is between the magic and the checksum of the file.
unfoldable pub body_at : Read (List Entry)
body_at = then_at count_at (λ count. times_at 0 count anchor_at)

-- The view of an answer is what the reading gives, unless memory ran out.
abbrev pub GivesUnlessMemory : {X Y : Type 0} → (X → Y) → Result X AnchorsFault
    → Result Y AnchorsFault → Type 0
GivesUnlessMemory view (Ok x) read = read ≡ Ok (view x)
GivesUnlessMemory view (Err e) read = e ≢ Memory → read ≡ Err e
