-- What one instruction does to the parts that are still to be read.
use Rattle.std.proofs.Common.{◌≡◌, ℕ, ◌+◌, ◌-◌, ◌*◌, ◌^◌, ◌<◌, ◌≤◌, Bool, true, false, List, [], ◌∷◌, ◌++◌, length, drop, map, replicate, refl, ap, sym, ◌∙◌, subst, arith, append_assoc, append-nil, length-append}
use Rattle.std.specs.Prelude.{Option, Some, option_to_list}
use Rattle.bit_code.specs.Coder.{number_of, file_bits}
use Rattle.asmap_vm.specs.Code.{Tree, Return, Jump, Match, Default, code, IsSaneWithin, IsSaneFile}
use Rattle.asmap_vm.specs.Instructions.{head, tail, HasTree}
use Rattle.asmap_vm.specs.Matches.{match_size}
use Rattle.asmap_vm.specs.Held.{bytes_held, tree_held}
use Rattle.asmap_vm.specs.declared.sane.Sane.{Sane}
use Rattle.asmap_vm.specs.declared.instruction.Instruction.{Instruction}
use Rattle.asmap_vm.specs.declared.instruction.Instruction.TheVariants as instructions
use Rattle.asmap_vm.proofs.PartLaws.{HasHead, has_head}
use Rattle.asmap_vm.proofs.MatchLaws.{match_size-wanted, match_value, match_range, number_of_wanted}
use Rattle.prefix_table.specs.declared.rows.Row.{Row}
use Rattle.asmap_back.specs.Back.{first_at, row_at, unless_same, rows_of, rows_back}
use Rattle.asmap_back.specs.Ahead.{Ahead, part_of, IsSaneAhead, AreSane, AreDeep, rows_ahead, code_ahead, AreAhead}
use Rattle.asmap_back.specs.Inside.{Gives, whole_part, zero_side, one_side, after_match, row_of}
use Rattle.asmap_back.specs.declared.part.Part.{Part}
use Rattle.asmap_back.proofs.PathRows.{span, first_longer, below_top, number_zero, number_one}
use Rattle.prefix_table.proofs.PrintLaws.{row_with}

-- the first instruction was read
pub record Reads (bits : List Bool) (at next : ℕ) (i : Instruction) : Type 0 where
  pub first : (left : ℕ) (t : Tree) (rest : List Bool) → HasTree left t (drop at bits) rest → (i ≡ head t) × (drop next bits ≡ tail t ++ rest)

-- the first part, by its instruction
pub record Opened (bits : List Bool) (next : ℕ) (i : Instruction) (part : Part) (more : List Part) (left : List Row) : Type 0 where
  pub tree : Tree
  pub path : List Bool
  pub ahead : List Ahead
  pub rest : List Bool
  pub bits_are : first_at path ≡ part.bits
  pub len_is : length path ≡ part.len
  pub are : map part_of ahead ≡ more
  pub short : length path ≤ 128
  pub sane : IsSaneWithin (128 - length path) tree
  pub sane_more : AreSane ahead
  pub few : length more ≤ part.len
  pub deep : AreDeep more
  pub head_is : HasHead i tree
  pub tail_is : drop next bits ≡ tail tree ++ (code_ahead ahead ++ rest)
  pub rows_are : left ≡ rows_of tree path part.default part.last ++ rows_ahead ahead

-- some tree is at the offset
pub record First (bits : List Bool) (at : ℕ) : Type 0 where
  pub left : ℕ
  pub tree : Tree
  pub rest : List Bool
  pub has : HasTree left tree (drop at bits) rest

has_first : (bits : List Bool) (at : ℕ) (a : Ahead) (ahead : List Ahead) (rest : List Bool) → IsSaneAhead a → drop at bits ≡ code_ahead (a ∷ ahead) ++ rest → HasTree (128 - length a.path) a.tree (drop at bits) (code_ahead ahead ++ rest)
unfolding code_ahead
has_first bits at a ahead rest sane spelled = record { sane = sane.sane; spelled = spelled ∙ append_assoc (code a.tree) (code_ahead ahead) rest }

first_by : (bits : List Bool) (at : ℕ) (part : Part) (more : List Part) (ahead : List Ahead) (rest : List Bool) → map part_of ahead ≡ part ∷ more → AreSane ahead → drop at bits ≡ code_ahead ahead ++ rest → First bits at
first_by bits at part more [] rest are sane spelled = absurd (omega (arith, ap length are))
first_by bits at part more (a ∷ ahead) rest are sane spelled =
    record { left = 128 - length a.path; tree = a.tree; rest = code_ahead ahead ++ rest; has = has_first bits at a ahead rest sane.0 spelled }

pub first_ahead : (bits : List Bool) (at : ℕ) (part : Part) (more : List Part) (left : List Row) → AreAhead bits at (part ∷ more) left → First bits at
first_ahead bits at part more left h = first_by bits at part more h.ahead h.rest h.are h.sane h.spelled

opened_by : (bits : List Bool) (at next : ℕ) (i : Instruction) (part : Part) (more : List Part) (left : List Row) → Reads bits at next i → (ahead : List Ahead) (rest : List Bool) → map part_of ahead ≡ part ∷ more → AreSane ahead → AreDeep (part ∷ more) → drop at bits ≡ code_ahead ahead ++ rest → left ≡ rows_ahead ahead → Opened bits next i part more left
unfolding rows_ahead
opened_by bits at next i part more left reads [] rest are sane deep spelled rows_are = absurd (omega (arith, ap length are))
opened_by bits at next i part more left reads (a ∷ ahead) rest are sane deep spelled rows_are =
    let own : part_of a ≡ part = cc in
    let read = reads.first (128 - length a.path) a.tree (code_ahead ahead ++ rest) (has_first bits at a ahead rest sane.0 spelled) in
    record {
      tree = a.tree;
      path = a.path;
      ahead = ahead;
      rest = rest;
      bits_are = ap (λ (p : Part). p.bits) own;
      len_is = ap (λ (p : Part). p.len) own;
      are = ap (λ (xs : List Part). drop 1 xs) are;
      short = sane.0.short;
      sane = sane.0.sane;
      sane_more = sane.1;
      few = deep.0;
      deep = deep.1;
      head_is = has_head a.tree i (sym read.0);
      tail_is = read.1;
      rows_are =
          rows_are ∙ ap (λ n. rows_of a.tree a.path n a.last ++ rows_ahead ahead) (ap (λ (p : Part). p.default) own)
          ∙ ap (λ n. rows_of a.tree a.path part.default n ++ rows_ahead ahead) (ap (λ (p : Part). p.last) own);
    }

pub opened : (bits : List Bool) (at next : ℕ) (i : Instruction) (part : Part) (more : List Part) (left : List Row) → Reads bits at next i → AreAhead bits at (part ∷ more) left → Opened bits next i part more left
opened bits at next i part more left reads h = opened_by bits at next i part more left reads h.ahead h.rest h.are h.sane h.deep h.spelled h.rows_are

abbrev made : ℕ → ℕ → ℕ → ℕ → Part
made bits len default last = record { bits = bits; len = len; default = default; last = last }

-- the same with another form of the tree
record Formed (bits : List Bool) (next : ℕ) (part : Part) (left : List Row) (path : List Bool) (ahead : List Ahead) (rest : List Bool) (t : Tree) : Type 0 where
  sane : IsSaneWithin (128 - length path) t
  tail_is : drop next bits ≡ tail t ++ (code_ahead ahead ++ rest)
  rows_are : left ≡ rows_of t path part.default part.last ++ rows_ahead ahead

formed : (bits : List Bool) (next : ℕ) (i : Instruction) (part : Part) (more : List Part) (left : List Row) (o : Opened bits next i part more left) (t : Tree) → o.tree ≡ t → Formed bits next part left o.path o.ahead o.rest t
formed bits next i part more left o t e =
    record {
      sane = subst (IsSaneWithin (128 - length o.path)) e o.sane;
      tail_is = o.tail_is ∙ ap (λ u. tail u ++ (code_ahead o.ahead ++ o.rest)) e;
      rows_are = o.rows_are ∙ ap (λ u. rows_of u o.path part.default part.last ++ rows_ahead o.ahead) e;
    }

pub after_return : (bits : List Bool) (next asn : ℕ) (part : Part) (more : List Part) (left : List Row) → Opened bits next (instructions.Return asn) part more left → Gives bits next more (unless_same (row_of part asn) part.last) left
unfolding rows_of
after_return bits next asn part more left o =
    let f = formed bits next (instructions.Return asn) part more left o (Return asn) o.head_is in
    let same : row_at o.path asn ≡ row_of part asn = λ i. row_with (o.bits_are i) (o.len_is i) asn in
    record {
      after = rows_ahead o.ahead;
      rows_are = f.rows_are ∙ ap (λ (r : Row). unless_same r part.last ++ rows_ahead o.ahead) same;
      ahead = record {
        ahead = o.ahead;
        are = o.are;
        sane = o.sane_more;
        deep = o.deep;
        rest = o.rest;
        spelled = f.tail_is;
        rows_are = refl;
      };
    }

pub after_default : (bits : List Bool) (next asn : ℕ) (part : Part) (more : List Part) (left : List Row) → Opened bits next (instructions.Default asn) part more left → Gives bits next (record part { default = asn } ∷ more) [] left
unfolding rows_of IsSaneWithin code_ahead rows_ahead
after_default bits next asn part more left o =
    let u = o.head_is.0 in
    let f = formed bits next (instructions.Default asn) part more left o (Default asn u) o.head_is.1 in
    record {
      after = left;
      rows_are = refl;
      ahead = record {
        ahead = record { tree = u; path = o.path; default = asn; last = part.last } ∷ o.ahead;
        are = λ i. made (o.bits_are i) (o.len_is i) asn part.last ∷ o.are i;
        sane = (record { short = o.short; sane = f.sane.2 }, o.sane_more);
        deep = (o.few, o.deep);
        rest = o.rest;
        spelled = f.tail_is ∙ sym (append_assoc (code u) (code_ahead o.ahead) o.rest);
        rows_are = f.rows_are;
      };
    }

pub longer : (p : List Bool) (side : Bool) → length (p ++ side ∷ []) ≡ length p + 1
longer p side = length-append p (side ∷ [])

pub first_zero : (p : List Bool) → length p < 128 → first_at (p ++ false ∷ []) ≡ first_at p
first_zero p low =
    omega (arith, first_longer p (false ∷ []) (omega arith), ap (λ n. n * span (length (p ++ false ∷ []))) number_zero)

pub first_one : (p : List Bool) → length p < 128 → first_at (p ++ true ∷ []) ≡ first_at p + 2 ^ (127 - length p)
first_one p low =
    let e : 128 - length (p ++ true ∷ []) ≡ 127 - length p = omega (arith, longer p true) in
    omega (arith, first_longer p (true ∷ []) (omega arith), ap (λ n. n * span (length (p ++ true ∷ []))) number_one, ap (λ n. 2 ^ n) e)

-- where a jump may stand
pub record JumpFits (part : Part) : Type 0 where
  pub len : part.len < 128
  pub room : part.bits + 2 ^ (127 - part.len) < 2 ^ 128

one_of : (p : List Bool) (part : Part) → first_at p ≡ part.bits → length p ≡ part.len → length p < 128 → first_at (p ++ true ∷ []) ≡ part.bits + 2 ^ (127 - part.len)
one_of p part bits len low = first_one p low ∙ (λ i. bits i + 2 ^ (127 - len i))

pub jump_fits : (bits : List Bool) (next over : ℕ) (part : Part) (more : List Part) (left : List Row) → Opened bits next (instructions.Jump over) part more left → JumpFits part
unfolding IsSaneWithin
jump_fits bits next over part more left o =
    let f = formed bits next (instructions.Jump over) part more left o (Jump o.head_is.0 o.head_is.1) o.head_is.2 in
    let low : length o.path < 128 = omega (arith, f.sane.0) in
    let top = below_top (o.path ++ true ∷ []) (omega (arith, longer o.path true)) in
    record { len = omega (arith, low, o.len_is); room = omega (arith, top, one_of o.path part o.bits_are o.len_is low) }

pub after_jump : (bits : List Bool) (next over : ℕ) (part : Part) (more : List Part) (left : List Row) → Opened bits next (instructions.Jump over) part more left → Gives bits next (zero_side part ∷ one_side part ∷ more) [] left
unfolding rows_of IsSaneWithin code_ahead rows_ahead
after_jump bits next over part more left o =
    let l = o.head_is.0 in
    let r = o.head_is.1 in
    let p = o.path in
    let f = formed bits next (instructions.Jump over) part more left o (Jump l r) o.head_is.2 in
    let low : length p < 128 = omega (arith, f.sane.0) in
    let fewer : (side : Bool) → 128 - length p - 1 ≡ 128 - length (p ++ side ∷ []) = λ side. omega (arith, longer p side) in
    let long : (side : Bool) → length (p ++ side ∷ []) ≡ part.len + 1 = λ side. longer p side ∙ ap (λ n. n + 1) o.len_is in
    let zero = first_zero p low ∙ o.bits_are in
    let one = one_of p part o.bits_are o.len_is low in
    let first = rows_of l (p ++ false ∷ []) part.default part.last in
    let second = rows_of r (p ++ true ∷ []) part.default part.last in
    record {
      after = left;
      rows_are = refl;
      ahead = record {
        ahead = record { tree = l; path = p ++ false ∷ []; default = part.default; last = part.last } ∷ record { tree = r; path = p ++ true ∷ []; default = part.default; last = part.last } ∷ o.ahead;
        are = λ i. made (zero i) (long false i) part.default part.last ∷ made (one i) (long true i) part.default part.last ∷ o.are i;
        sane = (
          record { short = omega (arith, low, longer p false); sane = subst (λ n. IsSaneWithin n l) (fewer false) f.sane.2 },
          (record { short = omega (arith, low, longer p true); sane = subst (λ n. IsSaneWithin n r) (fewer true) f.sane.3 }, o.sane_more),
        );
        deep = (omega (arith, o.few), (omega (arith, o.few), o.deep));
        rest = o.rest;
        spelled =
            f.tail_is ∙ append_assoc (code l) (code r) (code_ahead o.ahead ++ o.rest)
            ∙ ap (λ xs. code l ++ xs) (sym (append_assoc (code r) (code_ahead o.ahead) o.rest))
            ∙ sym (append_assoc (code l) (code r ++ code_ahead o.ahead) o.rest);
        rows_are = f.rows_are ∙ append_assoc first second (rows_ahead o.ahead);
      };
    }

-- what a match with this number wants
record Wanted (part : Part) (path wanted : List Bool) (number : ℕ) : Type 0 where
  size : match_size number ≡ length wanted
  bits : first_at (path ++ wanted) ≡ (after_match part number).bits
  len : length (path ++ wanted) ≡ (after_match part number).len
  short : length (path ++ wanted) ≤ 128

wanted_by : (part : Part) (path wanted : List Bool) (number : ℕ) → first_at path ≡ part.bits → length path ≡ part.len → length wanted ≤ 8 → length path + length wanted ≤ 128 → number_of (true ∷ wanted) ≡ number → Wanted part path wanted number
wanted_by part path wanted number bits len few short e =
    let size : match_size number ≡ length wanted = ap match_size (sym e) ∙ match_size-wanted wanted few in
    let long : length (path ++ wanted) ≡ part.len + match_size number = length-append path wanted ∙ (λ i. len i + sym size i) in
    let digits : number_of wanted ≡ number - 2 ^ match_size number = omega (arith, e, number_of_wanted wanted, ap (λ n. 2 ^ n) size) in
    record {
      size = size;
      bits = first_longer path wanted short ∙ (λ i. bits i + digits i * 2 ^ (128 - long i));
      len = long;
      short = omega (arith, length-append path wanted, short);
    }

-- where a match may stand
pub record MatchFits (part : Part) (number : ℕ) : Type 0 where
  pub low : 2 ≤ number
  pub high : number < 512
  pub len : part.len + match_size number ≤ 128
  pub room : (after_match part number).bits < 2 ^ 128

pub match_fits : (bits : List Bool) (next number : ℕ) (part : Part) (more : List Part) (left : List Row) → Opened bits next (instructions.Match number) part more left → MatchFits part number
unfolding IsSaneWithin
match_fits bits next number part more left o =
    let wanted = o.head_is.0 in
    let f = formed bits next (instructions.Match number) part more left o (Match wanted o.head_is.1) o.head_is.2 in
    let w = wanted_by part o.path wanted number o.bits_are o.len_is f.sane.0.most (omega (arith, f.sane.1, o.short)) o.head_is.3 in
    let range = match_range (number_of (true ∷ wanted)) (match_value wanted f.sane.0.some f.sane.0.most) in
    let top = below_top (o.path ++ wanted) w.short in
    record {
      low = omega (arith, range.0, o.head_is.3);
      high = omega (arith, range.1, o.head_is.3);
      len = omega (arith, w.len, w.short);
      room = subst (λ n. n < 2 ^ 128) w.bits top;
    }

pub after_match_bits : (bits : List Bool) (next number : ℕ) (part : Part) (more : List Part) (left : List Row) → Opened bits next (instructions.Match number) part more left → Gives bits next (after_match part number ∷ more) (unless_same (row_of part part.default) part.last) left
unfolding rows_of IsSaneWithin code_ahead rows_ahead
after_match_bits bits next number part more left o =
    let wanted = o.head_is.0 in
    let u = o.head_is.1 in
    let f = formed bits next (instructions.Match number) part more left o (Match wanted u) o.head_is.2 in
    let w = wanted_by part o.path wanted number o.bits_are o.len_is f.sane.0.most (omega (arith, f.sane.1, o.short)) o.head_is.3 in
    let fewer : 128 - length o.path - length wanted ≡ 128 - length (o.path ++ wanted) = omega (arith, length-append o.path wanted) in
    let own = unless_same (row_of part part.default) part.last in
    let same : row_at o.path part.default ≡ row_of part part.default = λ i. row_with (o.bits_are i) (o.len_is i) part.default in
    let later = rows_of u (o.path ++ wanted) part.default part.default in
    record {
      after = later ++ rows_ahead o.ahead;
      rows_are =
          f.rows_are ∙ ap (λ (r : Row). (unless_same r part.last ++ later) ++ rows_ahead o.ahead) same
          ∙ append_assoc own later (rows_ahead o.ahead);
      ahead = record {
        ahead = record { tree = u; path = o.path ++ wanted; default = part.default; last = part.default } ∷ o.ahead;
        are = λ i. made (w.bits i) (w.len i) part.default part.default ∷ o.are i;
        sane = (record { short = w.short; sane = subst (λ n. IsSaneWithin n u) fewer f.sane.2 }, o.sane_more);
        deep = (omega (arith, o.few), o.deep);
        rest = o.rest;
        spelled = f.tail_is ∙ sym (append_assoc (code u) (code_ahead o.ahead) o.rest);
        rows_are = refl;
      };
    }

none_by : (ahead : List Ahead) (left : List Row) → map part_of ahead ≡ [] → left ≡ rows_ahead ahead → left ≡ []
unfolding rows_ahead
none_by [] left are e = e
none_by (a ∷ ahead) left are e = absurd (omega (arith, ap length are))

-- with no part left, no row is
pub none_left : (bits : List Bool) (at : ℕ) (left : List Row) → AreAhead bits at [] left → left ≡ []
none_left bits at left h = none_by h.ahead left h.are h.rows_are

-- and none comes later
pub none_after : (bits : List Bool) (at : ℕ) (left : List Row) → AreAhead bits at [] left → AreAhead bits at [] []
none_after bits at left h = subst (AreAhead bits at []) (none_left bits at left h) h

pub first_none : first_at [] ≡ 0
unfolding number_of
first_none = refl

-- the whole tree is ahead at first
all_ahead : (t : Tree) (bytes : List ℕ) → IsSaneFile t bytes → AreAhead (file_bits bytes) 0 (whole_part ∷ []) (rows_back t)
unfolding rows_ahead code_ahead
all_ahead t bytes file =
    let rest = replicate (length (file_bits bytes) - length (code t)) false in
    record {
      ahead = record { tree = t; path = []; default = 0; last = 0 } ∷ [];
      are = λ i. made (first_none i) 0 0 0 ∷ [];
      sane = (record { short = omega arith; sane = file.sane }, tt);
      deep = (omega arith, tt);
      rest = rest;
      spelled = file.file.spelled ∙ ap (λ xs. xs ++ rest) (sym (append-nil (code t)));
      rows_are = sym (append-nil (rows_of t [] 0 0));
    }

-- what the reader of instructions says
pub reads_as : (bits : List Bool) (at : ℕ) (read : Instruction × ℕ) (i : Instruction) → read.0 ≡ i → ((left : ℕ) (t : Tree) (rest : List Bool) → HasTree left t (drop at bits) rest → (read.0 ≡ head t) × (drop read.1 bits ≡ tail t ++ rest)) → Reads bits at read.1 i
reads_as bits at read i e first =
    record { first = λ left t rest has. let both = first left t rest has in (sym e ∙ both.0, both.1) }

-- the whole tree of a checked file is ahead at first
pub held_ahead : (s : Sane) (bits : List Bool) (bytes : List ℕ) → bytes ≡ bytes_held s → bits ≡ file_bits bytes → IsSaneFile (tree_held s) (bytes_held s) → AreAhead bits 0 (whole_part ∷ []) (rows_back (tree_held s))
held_ahead s bits bytes e f file = subst (λ (b : List Bool). AreAhead b 0 (whole_part ∷ []) (rows_back (tree_held s))) (sym (f ∙ ap file_bits e)) (all_ahead (tree_held s) (bytes_held s) file)

-- the same parts by other names
pub moved : (bits : List Bool) (at to : ℕ) (parts others : List Part) (left : List Row) → at ≡ to → parts ≡ others → AreAhead bits at parts left → AreAhead bits to others left
moved bits at to parts others left a p h =
    subst (λ (ps : List Part). AreAhead bits to ps left) p (subst (λ n. AreAhead bits n parts left) a h)

-- the same parts and rows by other names
pub given_as : (bits : List Bool) (at : ℕ) (parts others : List Part) (now these left : List Row) → parts ≡ others → now ≡ these → Gives bits at parts now left → Gives bits at others these left
given_as bits at parts others now these left p n h =
    subst (λ (ps : List Part). Gives bits at ps these left) p (subst (λ (rs : List Row). Gives bits at parts rs left) n h)

-- after any part there is room for one more
pub part_fits : (bits : List Bool) (next : ℕ) (i : Instruction) (part : Part) (more : List Part) (left : List Row) → Opened bits next i part more left → length more < 129
part_fits bits next i part more left o = omega (arith, o.few, o.len_is, o.short)

-- the sides of a jump were put before the other parts
pub sides_first : (new mid more : List Part) (zero one part : Part) → new ≡ zero ∷ mid → mid ≡ one ∷ more → zero ≡ zero_side part → one ≡ one_side part → zero_side part ∷ one_side part ∷ more ≡ new
sides_first new mid more zero one part n m z o = sym (n ∙ (λ i. z i ∷ (m ∙ (λ j. o j ∷ more)) i))

-- the row that came
pub given_row : (bits : List Bool) (at : ℕ) (parts : List Part) (given : Option Row) (row : Row) (left : List Row) → given ≡ Some row → Gives bits at parts (option_to_list given) left → Gives bits at parts (row ∷ []) left
given_row bits at parts given row left e h = subst (λ (o : Option Row). Gives bits at parts (option_to_list o) left) e h
