-- What a cursor stands for after an instruction was read, and after an address bit.
use Rattle.std.proofs.Common.{◌≡◌, ℕ, suc, ◌+◌, ◌-◌, ◌<◌, ◌≤◌, Bool, true, false, List, [], ◌∷◌, ◌++◌, length, drop, refl, ap, sym, ◌∙◌, subst, arith, append_assoc, length-append}
use Rattle.std.proofs.lemmas.List.{drop-drop, length-drop}
use Rattle.bit_code.specs.Coder.{digits, has_bit, number_of}
use Rattle.bit_code.specs.Prefixes.{begins_with}
use Rattle.asmap_vm.specs.Code.{Tree, Return, Jump, Match, Default, code, meaning, IsSaneWithin}
use Rattle.asmap_vm.specs.Instructions.{tail}
use Rattle.asmap_vm.specs.Matches.{match_size, match_bits}
use Rattle.asmap_vm.specs.declared.instruction.Instruction.{Instruction}
use Rattle.asmap_vm.specs.declared.instruction.Instruction.TheVariants as instructions
use Rattle.asmap_vm.proofs.PartLaws.{HasHead, has_head}
use Rattle.asmap_vm.proofs.MatchLaws.{match_size-wanted, match_bits-wanted, match_value, match_range}
use Rattle.asmap_back.proofs.Steps.{Reads}
use Rattle.map_diff.specs.Diff.{after_bit}
use Rattle.map_diff.specs.Inside.{IsTree, IsFork, matching, IsMatching}

-- a tree of this form is at the offset
record Formed (bits : List Bool) (n next default : ℕ) (f : List Bool → ℕ) (t : Tree) : Type 0 where
  rest : List Bool
  sane : IsSaneWithin n t
  tail_is : drop next bits ≡ tail t ++ rest
  map_is : f ≡ (λ address. meaning t address default)

formed : (bits : List Bool) (n at next default : ℕ) (f : List Bool → ℕ) (i : Instruction) (h : IsTree bits n at default f) → Reads bits at next i → (t : Tree) → h.tree ≡ t → Formed bits n next default f t
formed bits n at next default f i h reads t e =
    let read = reads.first n h.tree h.rest h.has in
    record {
      rest = h.rest;
      sane = subst (IsSaneWithin n) e h.has.sane;
      tail_is = read.1 ∙ ap (λ u. tail u ++ h.rest) e;
      map_is = h.map_is ∙ (λ i address. meaning (e i) address default);
    }

head_of : (bits : List Bool) (n at next default : ℕ) (f : List Bool → ℕ) (i : Instruction) (h : IsTree bits n at default f) → Reads bits at next i → HasHead i h.tree
head_of bits n at next default f i h reads = has_head h.tree i (sym (reads.first n h.tree h.rest h.has).0)

pub at_return : (bits : List Bool) (n at next default asn : ℕ) (f : List Bool → ℕ) → IsTree bits n at default f → Reads bits at next (instructions.Return asn) → f ≡ (λ address. asn)
unfolding meaning
at_return bits n at next default asn f h reads =
    (formed bits n at next default f (instructions.Return asn) h reads (Return asn) (head_of bits n at next default f (instructions.Return asn) h reads)).map_is

pub at_default : (bits : List Bool) (n at next default asn : ℕ) (f : List Bool → ℕ) → IsTree bits n at default f → Reads bits at next (instructions.Default asn) → next ≤ length bits → IsTree bits n next asn f
unfolding meaning IsSaneWithin
at_default bits n at next default asn f h reads within =
    let i = instructions.Default asn in
    let own = head_of bits n at next default f i h reads in
    let t = formed bits n at next default f i h reads (Default asn own.0) own.1 in
    record { within = within; tree = own.0; rest = t.rest; has = record { sane = t.sane.2; spelled = t.tail_is }; map_is = t.map_is }

drop_length : (xs ys : List Bool) → drop (length xs) (xs ++ ys) ≡ ys
drop_length [] ys = refl
drop_length (x ∷ xs) ys = drop_length xs ys

drop_more : (next over : ℕ) (bits : List Bool) → drop (next + over) bits ≡ drop over (drop next bits)
drop_more next over bits = sym (drop-drop over next bits)

pub at_jump : (bits : List Bool) (n at next default over : ℕ) (f : List Bool → ℕ) → IsTree bits n at default f → Reads bits at next (instructions.Jump over) → next ≤ length bits → IsFork bits n next (next + over) default f
unfolding meaning IsSaneWithin
at_jump bits n at next default over f h reads within =
    let i = instructions.Jump over in
    let own = head_of bits n at next default f i h reads in
    let l = own.0 in
    let r = own.1 in
    let t = formed bits n at next default f i h reads (Jump l r) own.2 in
    let parts : drop next bits ≡ code l ++ (code r ++ t.rest) = t.tail_is ∙ append_assoc (code l) (code r) t.rest in
    record {
      some = t.sane.0;
      zero = record {
        within = within;
        tree = l;
        rest = code r ++ t.rest;
        has = record { sane = t.sane.2; spelled = parts };
        map_is = λ j address. t.map_is j (false ∷ address);
      };
      one = record {
        within = omega (arith, within, own.3, ap length parts, length-append (code l) (code r ++ t.rest), length-drop next bits);
        tree = r;
        rest = t.rest;
        has = record {
          sane = t.sane.3;
          spelled = drop_more next over bits ∙ (λ j. drop (sym own.3 j) (parts j)) ∙ drop_length (code l) (code r ++ t.rest);
        };
        map_is = λ j address. t.map_is j (true ∷ address);
      };
    }

-- what a match wants, by its number
record Wants (wanted : List Bool) (number : ℕ) : Type 0 where
  size : match_size number ≡ length wanted
  digits_are : digits (match_size number) number ≡ wanted

wants : (wanted : List Bool) (number : ℕ) → length wanted ≤ 8 → number_of (true ∷ wanted) ≡ number → Wants wanted number
unfolding match_bits
wants wanted number few e =
    record {
      size = ap match_size (sym e) ∙ match_size-wanted wanted few;
      digits_are = ap (λ n. digits (match_size n) n) (sym e) ∙ match_bits-wanted wanted few;
    }

pub at_match : (bits : List Bool) (n at next default number size : ℕ) (f : List Bool → ℕ) → IsTree bits n at default f → Reads bits at next (instructions.Match number) → next ≤ length bits → size ≡ match_size number → IsMatching bits n number size next default f
unfolding meaning IsSaneWithin
at_match bits n at next default number size f h reads within e =
    let i = instructions.Match number in
    let own = head_of bits n at next default f i h reads in
    let wanted = own.0 in
    let u = own.1 in
    let t = formed bits n at next default f i h reads (Match wanted u) own.2 in
    let w = wants wanted number t.sane.0.most own.3 in
    let long : length wanted ≡ size = sym w.size ∙ sym e in
    let map_u = λ (address : List Bool). meaning u address default in
    record {
      some = omega (arith, long, t.sane.0.some);
      most = omega (arith, long, t.sane.0.most);
      fits = omega (arith, long, t.sane.1);
      next = map_u;
      tree = record {
        within = within;
        tree = u;
        rest = t.rest;
        has = record { sane = subst (λ k. IsSaneWithin (n - k) u) long t.sane.2; spelled = t.tail_is };
        map_is = refl;
      };
      map_is = t.map_is ∙ ap (λ w. matching w map_u default) (sym w.digits_are ∙ ap (λ k. digits k number) (sym e));
    }

-- how large a match may be
pub match_fits : (bits : List Bool) (n at next default number : ℕ) (f : List Bool → ℕ) → IsTree bits n at default f → Reads bits at next (instructions.Match number) → number < 512
unfolding IsSaneWithin
match_fits bits n at next default number f h reads =
    let i = instructions.Match number in
    let own = head_of bits n at next default f i h reads in
    let t = formed bits n at next default f i h reads (Match own.0 own.1) own.2 in
    subst (λ k. k < 512) own.3 (match_range (number_of (true ∷ own.0)) (match_value own.0 t.sane.0.some t.sane.0.most)).1

-- ---- after an address bit

matched : (b : Bool) (ws : List Bool) (next : List Bool → ℕ) (default : ℕ) (address : List Bool) → matching (b ∷ ws) next default (b ∷ address) ≡ matching ws next default address
unfolding begins_with
matched true ws next default address = refl
matched false ws next default address = refl

unmatched : (b c : Bool) (ws : List Bool) (next : List Bool → ℕ) (default : ℕ) (address : List Bool) → (b ≡ c → ⊥) → matching (b ∷ ws) next default (c ∷ address) ≡ default
unfolding begins_with
unmatched true true ws next default address other = absurd (other refl)
unmatched false false ws next default address other = absurd (other refl)
unmatched true false ws next default address other = refl
unmatched false true ws next default address other = refl

-- the map of a match, whose size is k + 1
more_digits : (bits : List Bool) (n number k offset default : ℕ) (f : List Bool → ℕ) (h : IsMatching bits n number (suc k) offset default f) → f ≡ matching (has_bit number k ∷ digits k number) h.next default
unfolding digits
more_digits bits n number k offset default f h = h.map_is

after_wanted : (bits : List Bool) (n number k offset default : ℕ) (f : List Bool → ℕ) (h : IsMatching bits n number (suc k) offset default f) → after_bit (has_bit number k) f ≡ matching (digits k number) h.next default
after_wanted bits n number k offset default f h =
    (λ i address. more_digits bits n number k offset default f h i (has_bit number k ∷ address))
    ∙ (λ i address. matched (has_bit number k) (digits k number) h.next default address i)

other_bit : (bits : List Bool) (n number k offset default : ℕ) (f : List Bool → ℕ) (c : Bool) → IsMatching bits n number (suc k) offset default f → (has_bit number k ≡ c → ⊥) → after_bit c f ≡ (λ address. default)
other_bit bits n number k offset default f c h other =
    (λ i address. more_digits bits n number k offset default f h i (c ∷ address))
    ∙ (λ i address. unmatched (has_bit number k) c (digits k number) h.next default address other i)

one_less : (bits : List Bool) (n number size offset default : ℕ) (f : List Bool → ℕ) → IsMatching bits n number size offset default f → IsMatching bits n number (suc (size - 1)) offset default f
one_less bits n number size offset default f h =
    let e : size ≡ suc (size - 1) = omega (arith, h.some) in
    subst (λ s. IsMatching bits n number s offset default f) e h

-- an address that goes on with another bit
pub after_other : (bits : List Bool) (n number size offset default : ℕ) (f : List Bool → ℕ) (c : Bool) → IsMatching bits n number size offset default f → (has_bit number (size - 1) ≡ c → ⊥) → after_bit c f ≡ (λ address. default)
after_other bits n number size offset default f c h other =
    other_bit bits n number (size - 1) offset default f c (one_less bits n number size offset default f h) other

none_wanted : (number : ℕ) (next : List Bool → ℕ) (default : ℕ) (address : List Bool) → matching (digits 0 number) next default address ≡ next address
unfolding digits begins_with
none_wanted number next default address = refl

last_bit : (bits : List Bool) (n number k offset default : ℕ) (f : List Bool → ℕ) → k ≡ 0 → IsMatching bits n number (suc k) offset default f → IsTree bits (n - 1) offset default (after_bit (has_bit number k) f)
last_bit bits n number k offset default f none h =
    let same : after_bit (has_bit number k) f ≡ h.next =
    after_wanted bits n number k offset default f h ∙ ap (λ j. matching (digits j number) h.next default) none ∙ (λ i address. none_wanted number h.next default address i) in
    let left : n - suc k ≡ n - 1 = omega (arith, none) in
    subst (λ g. IsTree bits (n - 1) offset default g) (sym same) (subst (λ m. IsTree bits m offset default h.next) left h.tree)

-- the last wanted bit: the tree follows
pub after_last : (bits : List Bool) (n number size offset default : ℕ) (f : List Bool → ℕ) → size ≡ 1 → IsMatching bits n number size offset default f → IsTree bits (n - 1) offset default (after_bit (has_bit number (size - 1)) f)
after_last bits n number size offset default f e h =
    last_bit bits n number (size - 1) offset default f (omega (arith, e)) (one_less bits n number size offset default f h)

next_bit : (bits : List Bool) (n number k offset default : ℕ) (f : List Bool → ℕ) → 0 < k → IsMatching bits n number (suc k) offset default f → IsMatching bits (n - 1) number k offset default (after_bit (has_bit number k) f)
next_bit bits n number k offset default f some h =
    let left : n - suc k ≡ n - 1 - k = omega arith in
    record {
      some = some;
      most = omega (arith, h.most);
      fits = omega (arith, h.fits);
      next = h.next;
      tree = subst (λ m. IsTree bits m offset default h.next) left h.tree;
      map_is = after_wanted bits n number k offset default f h;
    }

-- more bits are wanted
pub after_first : (bits : List Bool) (n number size offset default : ℕ) (f : List Bool → ℕ) → (size ≡ 1 → ⊥) → IsMatching bits n number size offset default f → IsMatching bits (n - 1) number (size - 1) offset default (after_bit (has_bit number (size - 1)) f)
after_first bits n number size offset default f more h =
    let some : 0 < size - 1 = omega (arith, more, h.some) in
    next_bit bits n number (size - 1) offset default f some (one_less bits n number size offset default f h)
