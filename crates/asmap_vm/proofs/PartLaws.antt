-- A part of a file by its first instruction.
use Rattle.std.proofs.Common.{◌≡◌, ◌≢◌, ℕ, ◌+◌, ◌-◌, ◌<◌, ◌≤◌, Bool, true, List, ◌∷◌, ◌++◌, length, refl, ap, sym, subst, ◌∙◌, inl, inr, arith, append_assoc, append-nil, length-append}
use Rattle.std.proofs.lemmas.Bool.{cases_lt, lt-ltb, le-ltb}
use Rattle.bit_code.specs.Coder.{number_of, spelling, HasValue}
use Rattle.bit_code.specs.declared.coder.Coder.TheVariants as coders
use Rattle.bit_code.proofs.DigitLaws.{length-digits}
use Rattle.asmap_vm.specs.Code.{Tree, Return, Jump, Match, Default, code, IsSaneWithin, IsMatch, IsNoShortMatch, TakesDefault}
use Rattle.asmap_vm.specs.Instructions.{kind_of, coder_of, number_in, IsNext, HasTree, head, tail}
use Rattle.asmap_vm.specs.Matches.{match_size, match_bits}
use Rattle.asmap_vm.specs.Scanning.{Suits, IsPart, after_match}
use Rattle.asmap_vm.specs.declared.instruction.Instruction.{Instruction}
use Rattle.asmap_vm.specs.declared.instruction.Instruction.TheVariants as instructions
use Rattle.asmap_vm.specs.declared.scan.Before.{Before}
use Rattle.asmap_vm.specs.declared.scan.Before.TheVariants as befores
use Rattle.asmap_vm.proofs.MatchLaws.{match_size-wanted, match_value, number_of-match_bits, leads_at}

-- a tree is spelled by its first instruction and the parts after it
code_is : (t : Tree) → code t ≡ spelling coders.Kind (kind_of (head t)) ++ (spelling (coder_of (head t)) (number_in (head t)) ++ tail t)
unfolding code
code_is (Return n) = simp append-nil
code_is (Jump l r) = simp append_assoc
code_is (Match wanted t) = simp append_assoc
code_is (Default n t) = simp append_assoc

head_value : (left : ℕ) (t : Tree) → IsSaneWithin left t → HasValue (coder_of (head t)) (number_in (head t))
unfolding IsSaneWithin
head_value left (Return n) h = h
head_value left (Jump l r) h = h.1
head_value left (Match wanted t) h = match_value wanted h.0.some h.0.most
head_value left (Default n t) h = h.0

-- the first instruction of a tree is the next one
pub first_next : (left : ℕ) (t : Tree) (bits rest : List Bool) → HasTree left t bits rest → IsNext (head t) bits (tail t ++ rest)
first_next left t bits rest has =
    record {
      value = head_value left t has.sane;
      spelled = has.spelled ∙ ap (λ x. x ++ rest) (code_is t) ∙ simp append_assoc;
    }

-- the tree begins with the instruction
abbrev pub HasHead : Instruction → Tree → Type 0
HasHead (instructions.Return n) t = t ≡ Return n
HasHead (instructions.Jump over) t = (l : Tree) × (r : Tree) × (t ≡ Jump l r) × (length (code l) ≡ over)
HasHead (instructions.Match n) t = (wanted : List Bool) × (u : Tree) × (t ≡ Match wanted u) × (number_of (true ∷ wanted) ≡ n)
HasHead (instructions.Default n) t = (u : Tree) × (t ≡ Default n u)

own_head : (t : Tree) → HasHead (head t) t
own_head (Return n) = refl
own_head (Jump l r) = (l, r, refl, refl)
own_head (Match wanted t) = (wanted, t, refl, refl)
own_head (Default n t) = (t, refl)

pub has_head : (t : Tree) (i : Instruction) → head t ≡ i → HasHead i t
has_head t i e = subst (λ j. HasHead j t) e (own_head t)

-- a part whose first instruction was read
pub record Opened (i : Instruction) (before : Before) (left : ℕ) (after rest : List Bool) : Type 0 where
  pub tree : Tree
  pub sane : IsSaneWithin left tree
  pub suits : Suits before tree
  pub head_is : head tree ≡ i
  pub tail_is : after ≡ tail tree ++ rest

-- the first instruction of a part is the next one
pub part_next : (before : Before) (left : ℕ) (bits rest : List Bool) (part : IsPart before left bits rest) → IsNext (head part.tree) bits (tail part.tree ++ rest)
part_next before left bits rest part = first_next left part.tree bits rest (record { sane = part.sane; spelled = part.spelled })

module _ (i : Instruction) (before : Before) (left : ℕ) (bits after rest : List Bool) where
  pub opens : ((j : Instruction) (r : List Bool) → IsNext j bits r → (i ≡ j) × (after ≡ r)) → IsPart before left bits rest → Opened i before left after rest
  opens only part =
      let same = only (head part.tree) (tail part.tree ++ rest) (part_next before left bits rest part) in
      record { tree = part.tree; sane = part.sane; suits = part.suits; head_is = sym same.0; tail_is = same.1 }

  pub closes : IsNext i bits after → Opened i before left after rest → IsPart before left bits rest
  closes is_next part =
      let whole : spelling coders.Kind (kind_of i) ++ (spelling (coder_of i) (number_in i) ++ (tail part.tree ++ rest)) ≡ code part.tree ++ rest =
      rw (← part.head_is, code_is part.tree) (simp append_assoc) in
      record { tree = part.tree; sane = part.sane; suits = part.suits; spelled = is_next.spelled ∙ (rw part.tail_is whole) }

-- a return is not after a default, and nothing of its tree follows it
suits_return : (before : Before) (n : ℕ) → Suits before (Return n) → before ≢ befores.Default
suits_return befores.Nothing n h e = cc
suits_return befores.ShortMatch n h e = cc
suits_return befores.Default n h e = h

suits_default : (before : Before) (n : ℕ) (t : Tree) → Suits before (Default n t) → before ≢ befores.Default
suits_default befores.Nothing n t h e = cc
suits_default befores.ShortMatch n t h e = cc
suits_default befores.Default n t h e = h

return_suits : (before : Before) (n : ℕ) → before ≢ befores.Default → Suits before (Return n)
return_suits befores.Nothing n h = tt
return_suits befores.ShortMatch n h = tt
return_suits befores.Default n h = absurd (h refl)

default_suits : (before : Before) (n : ℕ) (t : Tree) → before ≢ befores.Default → Suits before (Default n t)
default_suits befores.Nothing n t h = tt
default_suits befores.ShortMatch n t h = tt
default_suits befores.Default n t h = absurd (h refl)

jump_suits : (before : Before) (l r : Tree) → Suits before (Jump l r)
jump_suits befores.Nothing l r = tt
jump_suits befores.ShortMatch l r = tt
jump_suits befores.Default l r = tt

-- a short match is not after a short match
suits_match : (before : Before) (wanted : List Bool) (t : Tree) → Suits before (Match wanted t) → length wanted < 8 → before ≢ befores.ShortMatch
suits_match befores.Nothing wanted t h short e = cc
suits_match befores.ShortMatch wanted t h short e = omega arith
suits_match befores.Default wanted t h short e = cc

match_suits : (before : Before) (wanted : List Bool) (t : Tree) → (length wanted < 8 → before ≢ befores.ShortMatch) → Suits before (Match wanted t)
match_suits befores.Nothing wanted t h = tt
match_suits befores.ShortMatch wanted t h = elim (cases_lt (length wanted) 8) [ inl short ↦ absurd (h short refl) | inr long ↦ long ]
match_suits befores.Default wanted t h = tt

after_suits : (size : ℕ) (t : Tree) → (size < 8 → IsNoShortMatch t) → Suits (after_match size) t
after_suits size t h =
    elim (cases_lt size 8) [ inl short ↦ rw (lt-ltb size 8 short) (h short) | inr long ↦ rw (le-ltb size 8 long) tt ]

suits_after : (size : ℕ) (t : Tree) → Suits (after_match size) t → size < 8 → IsNoShortMatch t
suits_after size t h short = rw (lt-ltb size 8 short) at h

-- ---- what makes a tree sane, and the parts of each instruction

sane_return : (left n : ℕ) → HasValue coders.Asn n → IsSaneWithin left (Return n)
unfolding IsSaneWithin
sane_return left n value = value

sane_default : (left n : ℕ) (t : Tree) → HasValue coders.Asn n → TakesDefault t → IsSaneWithin left t → IsSaneWithin left (Default n t)
unfolding IsSaneWithin
sane_default left n t value takes sane = (value, takes, sane)

sane_jump : (left : ℕ) (l r : Tree) → 0 < left → HasValue coders.Jump (length (code l)) → IsSaneWithin (left - 1) l → IsSaneWithin (left - 1) r → IsSaneWithin left (Jump l r)
unfolding IsSaneWithin
sane_jump left l r room value sane_l sane_r = (room, value, sane_l, sane_r)

sane_match : (left : ℕ) (wanted : List Bool) (t : Tree) → IsMatch wanted t → length wanted ≤ left → IsSaneWithin (left - length wanted) t → IsSaneWithin left (Match wanted t)
unfolding IsSaneWithin
sane_match left wanted t m fits sane = (m, fits, sane)

pub split_return : (t : Tree) (n : ℕ) (before : Before) (after rest : List Bool) → head t ≡ instructions.Return n → Suits before t → after ≡ tail t ++ rest → (before ≢ befores.Default) × (after ≡ rest)
split_return t n before after rest e s h =
    let is = has_head t (instructions.Return n) e in
    (suits_return before n (subst (Suits before) is s), h ∙ ap (λ u. tail u ++ rest) is)

pub join_return : (n : ℕ) (before : Before) (left : ℕ) (after : List Bool) → HasValue coders.Asn n → before ≢ befores.Default → Opened (instructions.Return n) before left after after
join_return n before left after value h =
    record { tree = Return n; sane = sane_return left n value; suits = return_suits before n h; head_is = refl; tail_is = refl }

pub record DefaultPart (before : Before) (left : ℕ) (after rest : List Bool) : Type 0 where
  pub first : before ≢ befores.Default
  pub part : IsPart befores.Default left after rest

pub split_default : (t : Tree) (n : ℕ) (before : Before) (left : ℕ) (after rest : List Bool) → head t ≡ instructions.Default n → IsSaneWithin left t → Suits before t → after ≡ tail t ++ rest → DefaultPart before left after rest
unfolding IsSaneWithin
split_default t n before left after rest e sane s h =
    let d = has_head t (instructions.Default n) e in
    let within : IsSaneWithin left (Default n d.0) = subst (IsSaneWithin left) d.1 sane in
    record {
      first = suits_default before n d.0 (subst (Suits before) d.1 s);
      part = record { tree = d.0; sane = within.2; suits = within.1; spelled = h ∙ ap (λ u. tail u ++ rest) d.1 };
    }

pub join_default : (n : ℕ) (before : Before) (left : ℕ) (after rest : List Bool) → HasValue coders.Asn n → DefaultPart before left after rest → Opened (instructions.Default n) before left after rest
join_default n before left after rest value d =
    record {
      tree = Default n d.part.tree;
      sane = sane_default left n d.part.tree value d.part.suits d.part.sane;
      suits = default_suits before n d.part.tree d.first;
      head_is = refl;
      tail_is = d.part.spelled;
    }

pub record JumpParts (over left : ℕ) (after rest : List Bool) : Type 0 where
  pub room : 0 < left
  pub middle : List Bool
  pub left_part : IsPart befores.Nothing (left - 1) after middle
  pub right_part : IsPart befores.Nothing (left - 1) middle rest
  pub over_is : over + length middle ≡ length after

pub split_jump : (t : Tree) (over left : ℕ) (after rest : List Bool) → head t ≡ instructions.Jump over → IsSaneWithin left t → after ≡ tail t ++ rest → JumpParts over left after rest
unfolding IsSaneWithin
split_jump t over left after rest e sane h =
    let j = has_head t (instructions.Jump over) e in
    let l = j.0 in
    let r = j.1 in
    let size = j.3 in
    let within : IsSaneWithin left (Jump l r) = subst (IsSaneWithin left) j.2 sane in
    let parts : after ≡ code l ++ (code r ++ rest) = h ∙ ap (λ u. tail u ++ rest) j.2 ∙ append_assoc (code l) (code r) rest in
    record {
      room = within.0;
      middle = code r ++ rest;
      left_part = record { tree = l; sane = within.2; suits = tt; spelled = parts };
      right_part = record { tree = r; sane = within.3; suits = tt; spelled = refl };
      over_is = rw parts (omega (arith, size, length-append (code l) (code r ++ rest)));
    }

pub join_jump : (over : ℕ) (before : Before) (left : ℕ) (after rest : List Bool) → HasValue coders.Jump over → JumpParts over left after rest → Opened (instructions.Jump over) before left after rest
join_jump over before left after rest value p =
    let l = p.left_part.tree in
    let r = p.right_part.tree in
    let size : length (code l) ≡ over = omega (arith, p.over_is, ap length p.left_part.spelled, length-append (code l) p.middle) in
    record {
      tree = Jump l r;
      sane = sane_jump left l r p.room (rw size value) p.left_part.sane p.right_part.sane;
      suits = jump_suits before l r;
      head_is = ap instructions.Jump size;
      tail_is = p.left_part.spelled ∙ (rw (p.right_part.spelled) (sym (append_assoc (code l) (code r) rest)));
    }

pub record MatchPart (n : ℕ) (before : Before) (left : ℕ) (after rest : List Bool) : Type 0 where
  pub fits : match_size n ≤ left
  pub joined : match_size n < 8 → before ≢ befores.ShortMatch
  pub part : IsPart (after_match (match_size n)) (left - match_size n) after rest

pub split_match : (t : Tree) (n : ℕ) (before : Before) (left : ℕ) (after rest : List Bool) → head t ≡ instructions.Match n → IsSaneWithin left t → Suits before t → after ≡ tail t ++ rest → MatchPart n before left after rest
unfolding IsSaneWithin
split_match t n before left after rest e sane s h =
    let m = has_head t (instructions.Match n) e in
    let wanted = m.0 in
    let within : IsSaneWithin left (Match wanted m.1) = subst (IsSaneWithin left) m.2 sane in
    let size : match_size n ≡ length wanted = rw m.3 at (match_size-wanted wanted within.0.most) in
    record {
      fits = rw size within.1;
      joined = rw size (suits_match before wanted m.1 (subst (Suits before) m.2 s));
      part = rw size (record { tree = m.1; sane = within.2; suits = after_suits (length wanted) m.1 within.0.joined; spelled = h ∙ ap (λ u. tail u ++ rest) m.2 });
    }

pub join_match : (n : ℕ) (before : Before) (left : ℕ) (after rest : List Bool) → 2 ≤ n → n < 512 → MatchPart n before left after rest → Opened (instructions.Match n) before left after rest
join_match n before left after rest low high p =
    let size : length (match_bits n) ≡ match_size n = unfold match_bits in length-digits (match_size n) n in
    let lead = leads_at n low high in
    record {
      tree = Match (match_bits n) p.part.tree;
      sane = sane_match left (match_bits n) p.part.tree
          (record { some = rw size lead.some; most = rw size lead.most; joined = rw size (suits_after (match_size n) p.part.tree p.part.suits) })
          (rw size p.fits) (rw size p.part.sane);
      suits = match_suits before (match_bits n) p.part.tree (rw size p.joined);
      head_is = ap instructions.Match (number_of-match_bits n low high);
      tail_is = p.part.spelled;
    }
