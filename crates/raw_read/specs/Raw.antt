-- What `getrawaddrman` of Bitcoin Core prints (rpc/net.cpp): an object with an object for the new
-- and one for the tried table, which have a member for each occupied slot.
use Rattle.std.specs.Prelude.{◌≡◌, ◌⊎◌, ◌≢◌, ℕ, List, ◌++◌, codes, Option, Some, option_map, option_and_then, IsUtf8}
use Rattle.json.specs.Json.{Json, document}
use Rattle.json.specs.Find.{get, as_object}
use Rattle.raw_read.specs.Rows.{AreRows, HasTableFault, Member, list_of}
use Rattle.raw_read.specs.declared.raw.RawFault.{RawFault}
use Rattle.raw_read.specs.declared.raw.RawFault.TheVariants.{Json as no_json, Form}
use Rattle.raw_read.specs.declared.raw.Raw.{Raw}
use Rattle.raw_read.specs.declared.raw.RawRow.{RawRow}
use Rattle.raw_read.specs.declared.raw.RawTable.TheVariants.{New, Tried}

-- the text without the line feed at its end, if it has one
abbrev pub IsWithoutEnd : List ℕ → List ℕ → Type 0
IsWithoutEnd text line =
    (text ≡ line ++ codes "\n")
    ⊎ ((text ≡ line) × ((stem : List ℕ) → text ≢ stem ++ codes "\n"))

-- the bytes are JSON text of this value (RFC 8259), nested at most 128 deep
pub record IsJson (bytes : List ℕ) (j : Json) : Type 0 where
  pub line : List ℕ
  pub without_end : IsWithoutEnd bytes line
  pub utf8 : IsUtf8 line
  pub value : document line ≡ Some j

-- the members of the object under a name
abbrev pub members_at : List ℕ → Json → Option (List Member)
members_at name j = option_map list_of (option_and_then as_object (get name j))

-- the value is an object with these members of both tables
pub record HasTables (j : Json) (new tried : List Member) : Type 0 where
  pub of_new : members_at (codes "new") j ≡ Some new
  pub of_tried : members_at (codes "tried") j ≡ Some tried

-- the bytes are a text of these slots and records
pub record IsRaw (bytes : List ℕ) (raw : Raw) : Type 0 where
  pub value : Json
  pub json : IsJson bytes value
  pub new : List Member
  pub tried : List Member
  pub tables : HasTables value new tried
  pub new_rows : AreRows New 0 new raw.new
  pub tried_rows : AreRows Tried 0 tried raw.tried

-- no object, or one that lacks a table
pub record HasNoForm (bytes : List ℕ) : Type 0 where
  pub value : Json
  pub json : IsJson bytes value
  pub none : (new tried : List Member) → ¬ HasTables value new tried

-- the fault is the first one of the members: of the new table, or else of the tried one
pub record HasMemberFault (bytes : List ℕ) (fault : RawFault) : Type 0 where
  pub value : Json
  pub json : IsJson bytes value
  pub new : List Member
  pub tried : List Member
  pub tables : HasTables value new tried
  pub first : HasTableFault New new fault
      ⊎ ((rows : List RawRow) × AreRows New 0 new rows × HasTableFault Tried tried fault)

-- the fault of the bytes; `TooLarge` and `Memory` are none of a member
abbrev pub HasRawFault : List ℕ → RawFault → Type 0
HasRawFault bytes no_json = (j : Json) → ¬ IsJson bytes j
HasRawFault bytes Form = HasNoForm bytes
HasRawFault bytes other = HasMemberFault bytes other
