-- What one instruction does to what is missing.
use Rattle.std.proofs.Common.{◌≡◌, ◌≢◌, ℕ, ◌+◌, ◌-◌, ◌<◌, ◌≤◌, ◌↔◌, Bool, true, false, IsTrue, if◌then◌else◌, subst, List, [], ◌∷◌, ◌++◌, length, drop, refl, arith, length-drop}
use Rattle.asmap_vm.specs.Instructions.{IsNext, head, tail}
use Rattle.asmap_vm.specs.Matches.{match_size}
use Rattle.asmap_vm.specs.Scanning.{IsPart, IsPadding, Follow, Completes, IsUnderWay, Advances, IsStuckAt, after_match, start}
use Rattle.asmap_vm.specs.declared.instruction.Instruction.{Instruction}
use Rattle.asmap_vm.specs.declared.instruction.Instruction.TheVariants as instructions
use Rattle.asmap_vm.specs.declared.scan.Before.TheVariants as befores
use Rattle.asmap_vm.specs.declared.scan.Scan.{Scan}
use Rattle.asmap_vm.specs.declared.scan.Step.{Step}
use Rattle.asmap_vm.specs.declared.scan.Step.TheVariants as steps
use Rattle.asmap_vm.specs.declared.stack.RightPart.{RightPart}
use Rattle.asmap_vm.proofs.PartLaws.{Opened, part_next, opens, closes, split_return, join_return, split_default, join_default, split_jump, join_jump, JumpParts, split_match, join_match, MatchPart, DefaultPart}
use Rattle.asmap_vm.proofs.MatchLaws.{match_range}

-- the instruction at an offset, and the offset after it
pub record Reads (bits : List Bool) (offset : ℕ) (i : Instruction) (next : ℕ) : Type 0 where
  pub further : offset < next
  pub within : next ≤ length bits
  pub is_next : IsNext i (drop offset bits) (drop next bits)
  pub only : (j : Instruction) (r : List Bool) → IsNext j (drop offset bits) r → (i ≡ j) × (drop next bits ≡ r)

module _ (bits : List Bool) (s : Scan) (next : ℕ) where
  opened : (i : Instruction) → Reads bits s.offset i next → (rest : List Bool) → IsPart s.before s.left (drop s.offset bits) rest → Opened i s.before s.left (drop next bits) rest
  opened i reads rest part = opens i s.before s.left (drop s.offset bits) (drop next bits) rest reads.only part

  closed : (i : Instruction) → Reads bits s.offset i next → (rest : List Bool) → Opened i s.before s.left (drop next bits) rest → IsPart s.before s.left (drop s.offset bits) rest
  closed i reads rest part = closes i s.before s.left (drop s.offset bits) (drop next bits) rest reads.is_next part

-- a default
abbrev defaulted : Scan → ℕ → Scan
defaulted s next = record { offset = next; left = s.left; before = befores.Default; pending = s.pending }

module _ (bits : List Bool) (s : Scan) (next n : ℕ) (reads : Reads bits s.offset (instructions.Default n) next) where
  default_part : Completes bits s → (rest : List Bool) × DefaultPart s.before s.left (drop next bits) rest × Follow (length bits) s.pending rest
  unfolding Completes
  default_part c =
      let o = opened bits s next (instructions.Default n) reads c.0 c.1 in
      (c.0, split_default o.tree n s.before s.left (drop next bits) c.0 o.head_is o.sane o.suits o.tail_is, c.2)

  pub no_default : (s.before ≢ befores.Default → ⊥) → Completes bits s → ⊥
  no_default refused c = refused (default_part c).1.first

  default_completes : Completes bits s → Completes bits (defaulted s next)
  unfolding Completes
  default_completes c = let d = default_part c in (d.0, d.1.part, d.2)

  default_sound : s.before ≢ befores.Default → Completes bits (defaulted s next) → Completes bits s
  unfolding Completes
  default_sound first c =
      (c.0, closed bits s next (instructions.Default n) reads c.0 (join_default n s.before s.left (drop next bits) c.0 reads.is_next.value (record { first = first; part = c.1 })), c.2)

  pub default_advances : s.before ≢ befores.Default → IsUnderWay bits s → Advances bits s (defaulted s next)
  default_advances first under_way =
      record {
        under_way = record { offset = reads.within; open_jumps = under_way.open_jumps; apart = under_way.apart };
        further = reads.further;
        sound = default_sound first;
        complete = default_completes;
      }

-- a match
abbrev matched : Scan → ℕ → ℕ → Scan
matched s next n =
    record { offset = next; left = s.left - match_size n; before = after_match (match_size n); pending = s.pending }

module _ (bits : List Bool) (s : Scan) (next n : ℕ) (reads : Reads bits s.offset (instructions.Match n) next) where
  match_part : Completes bits s → (rest : List Bool) × MatchPart n s.before s.left (drop next bits) rest × Follow (length bits) s.pending rest
  unfolding Completes
  match_part c =
      let o = opened bits s next (instructions.Match n) reads c.0 c.1 in
      (c.0, split_match o.tree n s.before s.left (drop next bits) c.0 o.head_is o.sane o.suits o.tail_is, c.2)

  pub no_match : ((match_size n ≤ s.left) × (match_size n < 8 → s.before ≢ befores.ShortMatch) → ⊥) → Completes bits s → ⊥
  no_match refused c = let m = (match_part c).1 in refused (m.fits, m.joined)

  match_completes : Completes bits s → Completes bits (matched s next n)
  unfolding Completes
  match_completes c = let m = match_part c in (m.0, m.1.part, m.2)

  match_sound : match_size n ≤ s.left → (match_size n < 8 → s.before ≢ befores.ShortMatch) → Completes bits (matched s next n) → Completes bits s
  unfolding Completes
  match_sound fits joined c =
      let range = match_range n reads.is_next.value in
      (c.0, closed bits s next (instructions.Match n) reads c.0 (join_match n s.before s.left (drop next bits) c.0 range.0 range.1 (record { fits = fits; joined = joined; part = c.1 })), c.2)

  pub match_advances : match_size n ≤ s.left → (match_size n < 8 → s.before ≢ befores.ShortMatch) → IsUnderWay bits s → Advances bits s (matched s next n)
  match_advances fits joined under_way =
      record {
        under_way = record { offset = reads.within; open_jumps = omega (arith, under_way.open_jumps); apart = under_way.apart };
        further = reads.further;
        sound = match_sound fits joined;
        complete = match_completes;
      }

-- a jump
abbrev jumped : Scan → ℕ → ℕ → Scan
jumped s next over =
    record {
      offset = next;
      left = s.left - 1;
      before = befores.Nothing;
      pending = record { begins = next + over; left = s.left - 1 } ∷ s.pending;
    }

module _ (bits : List Bool) (s : Scan) (next over : ℕ) (reads : Reads bits s.offset (instructions.Jump over) next) where
  jump_parts : Completes bits s → (rest : List Bool) × JumpParts over s.left (drop next bits) rest × Follow (length bits) s.pending rest
  unfolding Completes
  jump_parts c =
      let o = opened bits s next (instructions.Jump over) reads c.0 c.1 in
      (c.0, split_jump o.tree over s.left (drop next bits) c.0 o.head_is o.sane o.tail_is, c.2)

  pub no_jump : s.left ≡ 0 → Completes bits s → ⊥
  no_jump e c = omega (arith, (jump_parts c).1.room)

  jump_completes : Completes bits s → Completes bits (jumped s next over)
  unfolding Completes Follow
  jump_completes c =
      let j = jump_parts c in
      let begins : next + over + length j.1.middle ≡ length bits = omega (arith, j.1.over_is, length-drop next bits, reads.within) in
      (j.1.middle, j.1.left_part, (begins, (j.0, j.1.right_part, j.2)))

  jump_sound : 0 < s.left → Completes bits (jumped s next over) → Completes bits s
  unfolding Completes Follow
  jump_sound room c =
      let parts : JumpParts over s.left (drop next bits) c.2.1.0 =
      record {
        room = room;
        middle = c.0;
        left_part = c.1;
        right_part = c.2.1.1;
        over_is = omega (arith, c.2.0, length-drop next bits, reads.within);
      } in
      (c.2.1.0, closed bits s next (instructions.Jump over) reads c.2.1.0 (join_jump over s.before s.left (drop next bits) c.2.1.0 reads.is_next.value parts), c.2.1.2)

  pub jump_advances : 0 < s.left → IsUnderWay bits s → Advances bits s (jumped s next over)
  jump_advances room under_way =
      record {
        under_way = record { offset = reads.within; open_jumps = omega (arith, under_way.open_jumps); apart = (omega (arith, under_way.open_jumps), under_way.apart) };
        further = reads.further;
        sound = jump_sound room;
        complete = jump_completes;
      }

-- ---- what follows a part

ended : (total : ℕ) (pending : List RightPart) (bits : List Bool) → pending ≡ [] → IsPadding bits → Follow total pending bits
unfolding Follow
ended total [] bits e padding = padding
ended total (part ∷ more) bits e padding = cc

stuck_at : (bits : List Bool) (pending : List RightPart) (offset : ℕ) → offset ≤ length bits → IsStuckAt bits offset pending → Follow (length bits) pending (drop offset bits) → ⊥
unfolding Follow
stuck_at bits [] offset within stuck padding = stuck padding
stuck_at bits (part ∷ more) offset within stuck follow = stuck (omega (arith, follow.0, length-drop offset bits))

resumed : (bits : List Bool) (part : RightPart) (more : List RightPart) (offset : ℕ) → Follow (length bits) (part ∷ more) (drop offset bits) → Completes bits (record { offset = offset; left = part.left; before = befores.Nothing; pending = more })
unfolding Follow Completes
resumed bits part more offset follow = follow.1

waited : (bits : List Bool) (part : RightPart) (more : List RightPart) (offset : ℕ) → part.begins ≡ offset → offset ≤ length bits → Completes bits (record { offset = offset; left = part.left; before = befores.Nothing; pending = more }) → Follow (length bits) (part ∷ more) (drop offset bits)
unfolding Follow Completes
waited bits part more offset here within c = (omega (arith, here, length-drop offset bits), c)

-- a return
module _ (bits : List Bool) (s : Scan) (next n : ℕ) (reads : Reads bits s.offset (instructions.Return n) next) where
  return_part : Completes bits s → (s.before ≢ befores.Default) × Follow (length bits) s.pending (drop next bits)
  unfolding Completes
  return_part c =
      let o = opened bits s next (instructions.Return n) reads c.0 c.1 in
      let p = split_return o.tree n s.before (drop next bits) c.0 o.head_is o.suits o.tail_is in
      (p.0, rw p.1 c.2)

  pub no_return : s.before ≡ befores.Default → Completes bits s → ⊥
  no_return e c = (return_part c).0 e

  return_sound : s.before ≢ befores.Default → Follow (length bits) s.pending (drop next bits) → Completes bits s
  unfolding Completes
  return_sound first follow =
      (drop next bits, closed bits s next (instructions.Return n) reads (drop next bits) (join_return n s.before s.left (drop next bits) reads.is_next.value first), follow)

  pub return_ends : s.before ≢ befores.Default → s.pending ≡ [] → IsPadding (drop next bits) → Completes bits s
  return_ends first none padding = return_sound first (ended (length bits) s.pending (drop next bits) none padding)

  pub return_stuck : IsStuckAt bits next s.pending → Completes bits s → ⊥
  return_stuck stuck c = stuck_at bits s.pending next reads.within stuck (return_part c).1

  module _ (part : RightPart) (more : List RightPart) (waits : s.pending ≡ part ∷ more) (here : part.begins ≡ next) where
    abbrev returned : Scan
    returned = record { offset = next; left = part.left; before = befores.Nothing; pending = more }

    return_completes : Completes bits s → Completes bits returned
    return_completes c = resumed bits part more next (rw waits at (return_part c).1)

    return_goes_on : s.before ≢ befores.Default → Completes bits returned → Completes bits s
    return_goes_on first c = return_sound first (rw waits (waited bits part more next here reads.within c))

    pub return_advances : s.before ≢ befores.Default → IsUnderWay bits s → Advances bits s returned
    return_advances first under_way =
        let apart = rw waits at under_way.apart in
        record {
          under_way = record { offset = reads.within; open_jumps = omega (arith, apart.0); apart = apart.1 };
          further = reads.further;
          sound = return_goes_on first;
          complete = return_completes;
        }

-- without an instruction there is no part
pub no_instruction : (bits : List Bool) (s : Scan) → ((i : Instruction) (r : List Bool) → IsNext i (drop s.offset bits) r → ⊥) → Completes bits s → ⊥
unfolding Completes
no_instruction bits s none c =
    none (head c.1.tree) (tail c.1.tree ++ c.0) (part_next s.before s.left (drop s.offset bits) c.0 c.1)

-- what a reader of instructions answered, at the instruction that it was
pub reads_as : (bits : List Bool) (offset : ℕ) (i j : Instruction) (next : ℕ) → i ≡ j → (offset < next) × (next ≤ length bits) → IsNext i (drop offset bits) (drop next bits) → ((k : Instruction) (r : List Bool) → IsNext k (drop offset bits) r → (i ≡ k) × (drop next bits ≡ r)) → Reads bits offset j next
reads_as bits offset i j next e p found only =
    subst (λ k. Reads bits offset k next) e (record { further = p.0; within = p.1; is_next = found; only = only })

pub more_true : (b : Bool) (step : Step) → step ≡ (if b then steps.More else steps.Insane) → step ≡ steps.More → b ≡ true
more_true true step e h = refl
more_true false step e h = cc

pub insane_false : (b : Bool) (step : Step) → step ≡ (if b then steps.More else steps.Insane) → step ≡ steps.Insane → b ≡ false
insane_false true step e h = cc
insane_false false step e h = refl

-- a test that decides P failed, so P is false
pub fails : {P : Type 0} (b : Bool) → b ≡ false → IsTrue b ↔ P → P → ⊥
fails b e h p = let t : b ≡ true = h.1 p in cc

-- the reading goes on, and the file is sane exactly when the rest is what has to follow
pub record IsOnTheWay (bits : List Bool) (s : Scan) : Type 0 where
  pub under_way : IsUnderWay bits s
  pub sound : Completes bits s → Completes bits start
  pub complete : Completes bits start → Completes bits s

pub IsOnTheWay-start : (bits : List Bool) → IsOnTheWay bits start
IsOnTheWay-start bits =
    record {
      under_way = record { offset = omega arith; open_jumps = omega arith; apart = tt };
      sound = λ c. c;
      complete = λ c. c;
    }

pub IsOnTheWay-step : (bits : List Bool) (s next : Scan) → IsOnTheWay bits s → Advances bits s next → IsOnTheWay bits next
IsOnTheWay-step bits s next way step =
    record {
      under_way = step.under_way;
      sound = λ c. way.sound (step.sound c);
      complete = λ c. step.complete (way.complete c);
    }
