-- What one instruction does to a lookup.
use Rattle.std.proofs.Common.{◌≡◌, ℕ, suc, ◌+◌, ◌-◌, ◌<◌, ◌≤◌, Bool, true, false, List, ◌∷◌, ◌++◌, length, drop, replicate, refl, ap, sym, subst, ◌∙◌, arith, append_assoc, length-append, length-drop}
use Rattle.std.proofs.Math.Seq.{drop-append_seam}
use Rattle.std.proofs.lemmas.List.{drop-drop}
use Rattle.bit_code.specs.Coder.{has_bit, digits, file_bits}
use Rattle.bit_code.specs.Prefixes.{begins_with}
use Rattle.asmap_vm.specs.Code.{Tree, Return, Jump, Match, Default, code, IsSaneWithin, IsSaneFile, meaning, asn_of}
use Rattle.asmap_vm.specs.Instructions.{IsNext, head, tail}
use Rattle.asmap_vm.specs.Matches.{match_size, match_bits}
use Rattle.asmap_vm.specs.Walking.{Answers, set_out}
use Rattle.asmap_vm.specs.TreeOf.{tree_of}
use Rattle.asmap_vm.specs.declared.instruction.Instruction.{Instruction}
use Rattle.asmap_vm.specs.declared.instruction.Instruction.TheVariants as instructions
use Rattle.asmap_vm.specs.declared.scan.Before.TheVariants as befores
use Rattle.asmap_vm.specs.declared.walk.Walk.{Walk}
use Rattle.asmap_vm.proofs.MatchLaws.{match_size-wanted, match_bits-wanted}
use Rattle.asmap_vm.proofs.PartLaws.{part_next, has_head}
use Rattle.asmap_vm.proofs.StepLaws.{Reads}
use Rattle.bit_code.proofs.DigitLaws.{digits_cons}
use Rattle.asmap_vm.proofs.AddressLaws.{digits_past}

-- the part at an offset, by its first instruction
pub record Opened (bits : List Bool) (address left default next : ℕ) (i : Instruction) (answer : ℕ) : Type 0 where
  pub tree : Tree
  pub rest : List Bool
  pub sane : IsSaneWithin left tree
  pub head_is : head tree ≡ i
  pub tail_is : drop next bits ≡ tail tree ++ rest
  pub room : left ≤ 128
  pub gives : meaning tree (digits left address) default ≡ answer

-- before an answer there is an instruction
pub next_ahead : (bits : List Bool) (address : ℕ) (w : Walk) (answer : ℕ) (a : Answers bits address w answer) → IsNext (head a.tree) (drop w.offset bits) (tail a.tree ++ a.rest)
next_ahead bits address w answer a =
    part_next befores.Nothing w.left (drop w.offset bits) a.rest (record { tree = a.tree; sane = a.sane; suits = tt; spelled = a.spelled })

pub opened : (bits : List Bool) (address : ℕ) (w : Walk) (next : ℕ) (i : Instruction) (answer : ℕ) → Reads bits w.offset i next → Answers bits address w answer → Opened bits address w.left w.default next i answer
opened bits address w next i answer reads a =
    let same = reads.only (head a.tree) (tail a.tree ++ a.rest) (next_ahead bits address w answer a) in
    record { tree = a.tree; rest = a.rest; sane = a.sane; head_is = sym same.0; tail_is = same.1; room = a.left; gives = a.gives }

module _ (bits : List Bool) (address left default next answer : ℕ) where
  -- the same with another form of the tree
  as_tree : (i : Instruction) (o : Opened bits address left default next i answer) (t : Tree) → o.tree ≡ t → IsSaneWithin left t × (drop next bits ≡ tail t ++ o.rest) × (meaning t (digits left address) default ≡ answer)
  as_tree i o t is =
      (subst (IsSaneWithin left) is o.sane, o.tail_is ∙ ap (λ u. tail u ++ o.rest) is, subst (λ u. meaning u (digits left address) default ≡ answer) is o.gives)

  pub return_answers : (n : ℕ) → Opened bits address left default next (instructions.Return n) answer → n ≡ answer
  unfolding meaning
  return_answers n o = (as_tree _ o (Return n) (has_head o.tree (instructions.Return n) o.head_is)).2

  pub default_answers : (n : ℕ) → Opened bits address left default next (instructions.Default n) answer → Answers bits address (record { offset = next; left = left; default = n }) answer
  unfolding meaning IsSaneWithin
  default_answers n o =
      let d = has_head o.tree (instructions.Default n) o.head_is in
      let t = as_tree _ o (Default n d.0) d.1 in
      record { tree = d.0; rest = o.rest; sane = t.0.2; spelled = t.1; left = o.room; gives = t.2 }

  jump_bits : 0 < left → digits left address ≡ has_bit address (left - 1) ∷ digits (left - 1) address
  jump_bits h = let e : left ≡ suc (left - 1) = omega arith in ap (λ n. digits n address) e ∙ digits_cons (left - 1) address

  -- what a jump says of the two sides
  pub record Sides (over : ℕ) : Type 0 where
    pub taken : 0 < left
    pub within : next ≤ length bits → next + over ≤ length bits
    pub zero : has_bit address (left - 1) ≡ false → Answers bits address (record { offset = next; left = left - 1; default = default }) answer
    pub one : has_bit address (left - 1) ≡ true → Answers bits address (record { offset = next + over; left = left - 1; default = default }) answer

  pub jump_answers : (over : ℕ) → Opened bits address left default next (instructions.Jump over) answer → Sides over
  unfolding meaning IsSaneWithin
  jump_answers over o =
      let j = has_head o.tree (instructions.Jump over) o.head_is in
      let l = j.0 in
      let r = j.1 in
      let size = j.3 in
      let rest = o.rest in
      let t = as_tree _ o (Jump l r) j.2 in
      let parts : drop next bits ≡ code l ++ (code r ++ rest) = t.1 ∙ append_assoc (code l) (code r) rest in
      let long : length (drop next bits) ≡ over + length (code r ++ rest) = omega (arith, ap length parts, length-append (code l) (code r ++ rest), size) in
      let past : drop (next + over) bits ≡ code r ++ rest = sym (drop-drop over next bits) ∙ ap (drop over) parts ∙ ap (λ n. drop n (code l ++ (code r ++ rest))) (sym size) ∙ drop-append_seam (code l) (code r ++ rest) in
      record {
        taken = t.0.0;
        within = λ inside. omega (arith, long, length-drop next bits);
        zero = λ b. record { tree = l; rest = code r ++ rest; sane = t.0.2; spelled = parts; left = omega (arith, o.room); gives = rw (jump_bits t.0.0, b) at t.2 };
        one = λ b. record { tree = r; rest = rest; sane = t.0.3; spelled = past; left = omega (arith, o.room); gives = rw (jump_bits t.0.0, b) at t.2 };
      }

  -- what a match says of the bits that are left
  pub record Matching (n : ℕ) : Type 0 where
    pub fits : match_size n ≤ left
    pub same : begins_with (digits left address) (match_bits n) ≡ true → Answers bits address (record { offset = next; left = left - match_size n; default = default }) answer
    pub differs : begins_with (digits left address) (match_bits n) ≡ false → default ≡ answer

  pub match_answers : (n : ℕ) → Opened bits address left default next (instructions.Match n) answer → Matching n
  unfolding meaning IsSaneWithin
  match_answers n o =
      let m = has_head o.tree (instructions.Match n) o.head_is in
      let wanted = m.0 in
      let t = as_tree _ o (Match wanted m.1) m.2 in
      let size : match_size n ≡ length wanted = rw m.3 at (match_size-wanted wanted t.0.0.most) in
      let want : match_bits n ≡ wanted = rw m.3 at (match_bits-wanted wanted t.0.0.most) in
      let back : drop (length wanted) (digits left address) ≡ digits (left - length wanted) address = digits_past (length wanted) left address t.0.1 in
      record {
        fits = rw size t.0.1;
        same = λ b. rw size (record { tree = m.1; rest = o.rest; sane = t.0.2; spelled = t.1; left = omega (arith, o.room); gives = rw (rw want at b, back) at t.2 });
        differs = λ b. rw (rw want at b) at t.2;
      }

-- the lookup goes on, with the answer ahead that was ahead at first
pub record IsFollowing (bits : List Bool) (address : ℕ) (w : Walk) : Type 0 where
  pub offset : w.offset ≤ length bits
  pub ahead : (answer : ℕ) × Answers bits address w answer
  pub same : (answer : ℕ) → Answers bits address set_out answer → Answers bits address w answer

pub IsFollowing-start : (bits : List Bool) (address : ℕ) → ((answer : ℕ) × Answers bits address set_out answer) → IsFollowing bits address set_out
IsFollowing-start bits address ahead = record { offset = omega arith; ahead = ahead; same = λ answer a. a }

pub IsFollowing-step : (bits : List Bool) (address : ℕ) (w next : Walk) → IsFollowing bits address w → next.offset ≤ length bits → ((answer : ℕ) → Answers bits address w answer → Answers bits address next answer) → IsFollowing bits address next
IsFollowing-step bits address w next f offset gives =
    record {
      offset = offset;
      ahead = (f.ahead.0, gives f.ahead.0 f.ahead.1);
      same = λ answer a. gives answer (f.same answer a);
    }

-- what is ahead at the start of a sane file
pub sane_ahead : (bytes : List ℕ) (address : ℕ) → IsSaneFile (tree_of bytes) bytes → Answers (file_bits bytes) address set_out (asn_of (tree_of bytes) address)
unfolding asn_of
sane_ahead bytes address h =
    record {
      tree = tree_of bytes;
      rest = replicate (length (file_bits bytes) - length (code (tree_of bytes))) false;
      sane = h.sane;
      spelled = h.file.spelled;
      left = omega arith;
      gives = refl;
    }
