-- The numbers of the picture are counts of slots and buckets of the view.
use Rattle.std.specs.Prelude.{◌≡◌, ℕ, ◌+◌, ◌≤◌, List, [], ◌++◌, length, All, codes, if◌then◌else◌, is_some, bytes_eq, nat_lt, slice_index_or}
use Rattle.std.specs.List.{count_by, flat_map, range_with_len, sum_by}
use Rattle.picture_text.specs.Elements.{colour, count_text, ground, new_title, row_text, tried_title, wide_text}
use Rattle.picture_text.specs.Maps.{name_at}
use Rattle.picture_text.specs.Picture.{free_row, group_rows, others_name, others_text, titles_text, top_of, wide_of}
use Rattle.picture_laws.specs.Slots.{is_free, is_unlisted, listed_groups}
use Rattle.table_groups.specs.Sources.{sources_of}
use Rattle.table_picture.specs.Picture.{listed_of, marks_of}
use Rattle.table_groups.specs.Slots.{all_slots, is_of, new_buckets, new_slots, tried_slots}
use Rattle.table_groups.specs.View.{View}

-- the row of a group: its slots in both tables, those in the tried one, and its buckets of the new
abbrev pub counted_row : View → List (List ℕ) → List ℕ → ℕ → List ℕ
counted_row view names g index =
    row_text (top_of index) (colour index) (name_at names index)
    (all_slots (is_of view.places g) view) (tried_slots (is_of view.places g) view)
    ++ count_text 1056 (top_of index + 10) (new_buckets (is_of view.places g) view)

-- the row of the listed group at an index
abbrev pub row_at : View → List (List ℕ) → ℕ → List ℕ
row_at view names index =
    counted_row view names (slice_index_or (listed_groups view) index []) index

-- Each number of the titles and of the list is a count of slots or buckets. The rows of the listed
-- groups and of the others have each occupied slot once: each group is listed once, and the sums
-- are all slots with a record.
pub record CountsSlots (view : View) : Type 0 where
  pub titles : titles_text (marks_of view)
      ≡ new_title (new_slots is_some view) ++ tried_title (tried_slots is_some view)
  pub groups : (names : List (List ℕ)) → group_rows (listed_of view) names
      ≡ flat_map (row_at view names) (range_with_len 0 (length (listed_groups view)))
  pub others : (count : ℕ) → others_text (marks_of view) count
      ≡ row_text (top_of 6) (colour 6) (others_name count)
      (all_slots (is_unlisted view) view) (tried_slots (is_unlisted view) view)
  pub free : (index : ℕ) → free_row (marks_of view) index
      ≡ row_text (top_of index) ground (codes "free")
      (all_slots is_free view) (tried_slots is_free view)
  pub few : length (listed_groups view) ≤ 6
  pub once : (g : List ℕ) → count_by (λ h. bytes_eq h g) (listed_groups view) ≤ 1
  pub new_sum : sum_by (λ g. new_slots (is_of view.places g) view) (listed_groups view)
      + new_slots (is_unlisted view) view ≡ new_slots is_some view
  pub tried_sum : sum_by (λ g. tried_slots (is_of view.places g) view) (listed_groups view)
      + tried_slots (is_unlisted view) view ≡ tried_slots is_some view

-- six groups are listed, and none of them has fewer slots than this one
pub record IsBehind (view : View) (g : List ℕ) : Type 0 where
  pub six : length (listed_groups view) ≡ 6
  pub most : All (λ l. all_slots (is_of view.places g) view ≤ all_slots (is_of view.places l) view)
      (listed_groups view)

-- The line below the list counts these groups: each group that is in more than 32 buckets of the
-- new table is one of them, once, and no other group is.
pub record CountsWide (view : View) : Type 0 where
  pub groups : List (List ℕ)
  pub each : (g : List ℕ) → count_by (λ h. bytes_eq h g) groups
      ≡ (if nat_lt 32 (new_buckets (is_of view.places g) view) then 1 else 0)
  pub line : wide_text (wide_of (sources_of view)) ≡ wide_text (length groups)
