use Rattle.std.proofs.Common.{◌≡◌, ℕ, List, take}
use Rattle.std.specs.Prelude.{filter}
use Rattle.picture_text.specs.Spread.{is_spread}
use Rattle.table_groups.specs.Tally.{by_bytes, value_in}
use Rattle.table_picture.specs.Slots.{spread_mark}
use Rattle.table_picture.proofs.marks_by_rule.spread_in.Given as goal

-- the groups before this one that spread have the mark, and no others
abbrev pub invariant-loop-source : goal.invariant-loop-source
invariant-loop-source g l =
    (h : List ℕ) → value_in 0 (by_bytes l.spread.entries) h ≡ spread_mark (filter (is_spread l.by) (take l.source-index l.unlisted)) h
