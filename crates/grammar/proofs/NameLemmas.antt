-- Names of networks with commas between them, and the set of the networks that are named.
use Rattle.std.proofs.Common.{Bor, ◌≡◌, ◌≢◌, ℕ, suc, ◌<◌, Bool, true, false, ◌||◌, ◌&&◌, All, AllPairs, List, [], ◌∷◌, ◌++◌, length, get_or, drop, map, fold, refl, sym, ap, subst, ◌∙◌, arith, append_assoc, inl, inr}
use Rattle.std.specs.Prelude.{◌==◌, if◌then◌else◌, not, codes, Option, Some, None}
use Rattle.std.specs.List.{slice_split, join_with_byte, list_all}
use Rattle.std.proofs.lemmas.Bool.{ne_eqb, eq-eqb, true≢false}
use Rattle.std.proofs.lemmas.List.{map-append, append-nil}
use Rattle.std.proofs.lemmas.List.Elements.{All-nil, All-cons, All-head, All-tail, All-weaker}
use Rattle.std.proofs.lemmas.List.Quantifiers.{all_pairs_push}
use Rattle.std.proofs.lemmas.List.Splits.{slice_split_at, slice_split_none, join_with_byte-slice_split, length-slice_split}
use Rattle.std.proofs.lemmas.List.Sums.{fold-append, AllPass-from_list_all}
use Rattle.net_addr.specs.Address.{net_number}
use Rattle.net_addr.specs.Text.{net_name}
use Rattle.net_addr.specs.NetSet.{all, none, with_net, has, has_number}
use Rattle.net_addr.specs.declared.net.Net.{Net}
use Rattle.net_addr.specs.declared.net.Net.TheVariants.{Unroutable, Ipv4, Ipv6, Onion, I2p, Cjdns, Internal}
use Rattle.net_addr.proofs.NetSets.{has_number-filter}
use Rattle.grammar.specs.Fields.{Nets, Classes, set_of, AreNames, AreClasses, AreNets, IsInForm}
use Rattle.grammar.specs.Words.{pieces_after}

-- ---- one network

-- the network of a name, by its first and its fourth letter
net_by : ℕ → ℕ → Net
net_by first fourth =
    if fourth == 52 then Ipv4
    else if fourth == 54 then Ipv6
    else if fourth == 0 then I2p
    else if fourth == 110 then Cjdns
    else if fourth == 101 then Internal
    else if first == 117 then Unroutable
    else Onion

net_in : List ℕ → Net
net_in name = net_by (get_or name 0 0) (get_or name 3 0)

net_back : (net : Net) → net_in (net_name net) ≡ net
unfolding net_in net_by
net_back Unroutable = refl
net_back Ipv4 = refl
net_back Ipv6 = refl
net_back Onion = refl
net_back I2p = refl
net_back Cjdns = refl
net_back Internal = refl

-- networks with the same name are one
pub same_net : (a b : Net) → net_name a ≡ net_name b → a ≡ b
same_net a b e = sym (net_back a) ∙ ap net_in e ∙ net_back b

net_at : ℕ → Net
net_at number =
    if number == 0 then Unroutable
    else if number == 1 then Ipv4
    else if number == 2 then Ipv6
    else if number == 3 then Onion
    else if number == 4 then I2p
    else if number == 5 then Cjdns
    else Internal

net_at_back : (net : Net) → net_at (net_number net) ≡ net
unfolding net_at
net_at_back Unroutable = refl
net_at_back Ipv4 = refl
net_at_back Ipv6 = refl
net_at_back Onion = refl
net_at_back I2p = refl
net_at_back Cjdns = refl
net_at_back Internal = refl

same_number : (a b : Net) → net_number a ≡ net_number b → a ≡ b
same_number a b e = sym (net_at_back a) ∙ ap net_at e ∙ net_at_back b

no_all : (net : Net) → codes "all" ≡ net_name net → ⊥
no_all Unroutable e = omega (arith, ap (λ t. get_or t 0 0) e)
no_all Ipv4 e = omega (arith, ap (λ t. get_or t 0 0) e)
no_all Ipv6 e = omega (arith, ap (λ t. get_or t 0 0) e)
no_all Onion e = omega (arith, ap (λ t. get_or t 0 0) e)
no_all I2p e = omega (arith, ap (λ t. get_or t 0 0) e)
no_all Cjdns e = omega (arith, ap (λ t. get_or t 0 0) e)
no_all Internal e = omega (arith, ap (λ t. get_or t 0 0) e)

no_comma : (net : Net) → list_all (λ b. not (b == 44)) (net_name net) ≡ true
no_comma Unroutable = refl
no_comma Ipv4 = refl
no_comma Ipv6 = refl
no_comma Onion = refl
no_comma I2p = refl
no_comma Cjdns = refl
no_comma Internal = refl

not_true : (b : Bool) → not b ≡ true → b ≡ false
not_true true h = sym h
not_true false h = refl

name_lacks : (net : Net) → All (λ b. (b == 44) ≡ false) (net_name net)
name_lacks net =
    All-weaker (λ b. not (b == 44) ≡ true) (λ b. (b == 44) ≡ false) (λ b h. not_true (b == 44) h) (net_name net)
    (AllPass-from_list_all (λ b. not (b == 44)) (net_name net) (no_comma net))

-- ---- several

pieces_of_names : (nets : List Net) → nets ≢ [] → slice_split (λ b. b == 44) (join_with_byte 44 (map net_name nets)) ≡ map net_name nets
pieces_of_names [] some = absurd (some refl)
pieces_of_names (n ∷ []) some = slice_split_none (λ b. b == 44) (net_name n) (name_lacks n)
pieces_of_names (n ∷ m ∷ nets) some =
    slice_split_at (λ b. b == 44) (net_name n) 44 (join_with_byte 44 (map net_name (m ∷ nets))) (name_lacks n) refl
    ∙ ap (λ ps. net_name n ∷ ps) (pieces_of_names (m ∷ nets) (λ none. omega (arith, ap length none)))

-- the pieces of a text of names
pub names_cut : (text : List ℕ) (nets : List Net) → AreNames text nets → slice_split (λ b. b == 44) text ≡ map net_name nets
names_cut text nets is = ap (slice_split (λ b. b == 44)) is.names ∙ pieces_of_names nets is.some

-- the first piece after some names is a name too
pub next_name : (xs ys : List Net) (piece : List ℕ) (more : List (List ℕ)) → map net_name ys ≡ map net_name xs ++ piece ∷ more → (net : Net) × (piece ≡ net_name net)
next_name [] [] piece more e = absurd (omega (arith, ap length e))
next_name [] (y ∷ ys) piece more e = (y, sym (ap (λ ps. get_or ps 0 []) e))
next_name (x ∷ xs) [] piece more e = absurd (omega (arith, ap length e))
next_name (x ∷ xs) (y ∷ ys) piece more e = next_name xs ys piece more (ap (drop 1) e)

same_nets : (xs ys : List Net) → map net_name xs ≡ map net_name ys → xs ≡ ys
same_nets [] [] e = refl
same_nets [] (y ∷ ys) e = absurd (omega (arith, ap length e))
same_nets (x ∷ xs) [] e = absurd (omega (arith, ap length e))
same_nets (x ∷ xs) (y ∷ ys) e =
    let heads = same_net x y (ap (λ ps. get_or ps 0 []) e) in
    let tails = same_nets xs ys (ap (drop 1) e) in
    λ i. heads i ∷ tails i

-- a text names one list of networks
pub one_names : (text : List ℕ) (xs ys : List Net) → AreNames text xs → AreNames text ys → xs ≡ ys
one_names text xs ys h k = same_nets xs ys (sym (names_cut text xs h) ∙ names_cut text ys k)

-- the networks after some names and one more
shape : (xs ys : List Net) (net : Net) (more : List (List ℕ)) → map net_name ys ≡ map net_name xs ++ net_name net ∷ more → (later : List Net) × (ys ≡ xs ++ net ∷ later)
shape [] [] net more e = absurd (omega (arith, ap length e))
shape [] (y ∷ ys) net more e = let head = same_net y net (ap (λ ps. get_or ps 0 []) e) in (ys, λ i. head i ∷ ys)
shape (x ∷ xs) [] net more e = absurd (omega (arith, ap length e))
shape (x ∷ xs) (y ∷ ys) net more e =
    let head = same_net y x (ap (λ ps. get_or ps 0 []) e) in
    let rest = shape xs ys net more (ap (drop 1) e) in
    (rest.0, λ i. head i ∷ rest.1 i)

after_these : (xs later : List Net) (net d : Net) → (get_or (xs ++ net ∷ later) (length xs) d ≡ net) × (length xs < length (xs ++ net ∷ later))
after_these [] later net d = (refl, omega arith)
after_these (x ∷ xs) later net d = let rest = after_these xs later net d in (rest.0, omega (arith, rest.1))

apart : (xs later : List Net) (net : Net) → AllPairs (λ a b. a ≢ b) (xs ++ net ∷ later) → All (λ n. n ≢ net) xs
apart [] later net h = All-nil (λ n. n ≢ net)
apart (x ∷ xs) later net h =
    let there = after_these xs later net x in
    All-cons (λ n. n ≢ net) x xs
    (λ e. h 0 (suc (length xs)) x (omega arith) (omega (arith, there.1)) (e ∙ sym there.0))
    (apart xs later net (λ i j d less within. h (suc i) (suc j) d (omega (arith, less)) (omega (arith, within))))

-- ---- sets

has-all : (net : Net) → has_number all (net_number net) ≡ true
has-all Unroutable = refl
has-all Ipv4 = refl
has-all Ipv6 = refl
has-all Onion = refl
has-all I2p = refl
has-all Cjdns = refl
has-all Internal = refl

has-with : (set : List ℕ) (n m : Net) → has (with_net set n) m ≡ (has set m || (net_number m == net_number n))
has-with set n m =
    has_number-filter (λ k. has_number set k || (k == net_number n)) (net_number m) all
    ∙ ap (λ b. b && (has_number set (net_number m) || (net_number m == net_number n))) (has-all m)

or_false : (a b : Bool) → (a || b) ≡ false → (a ≡ false) × (b ≡ false)
or_false true b h = absurd (true≢false h)
or_false false b h = (refl, h)

-- what the set of some networks lacks is none of them
pub set_lacks : (nets : List Net) (set : List ℕ) (net : Net) → has (fold with_net set nets) net ≡ false → (has set net ≡ false) × All (λ n. n ≢ net) nets
set_lacks [] set net h = (h, All-nil (λ n. n ≢ net))
set_lacks (n ∷ nets) set net h =
    let rest = set_lacks nets (with_net set n) net h in
    let parts = or_false (has set net) (net_number net == net_number n) (sym (has-with set n net) ∙ rest.0) in
    (parts.0, All-cons (λ m. m ≢ net) n nets (λ e. true≢false (sym (eq-eqb (net_number net) (net_number n) (ap net_number (sym e))) ∙ parts.1)) rest.1)

-- and the other way round
pub lacks_others : (nets : List Net) (set : List ℕ) (net : Net) → has set net ≡ false → All (λ n. n ≢ net) nets → has (fold with_net set nets) net ≡ false
lacks_others [] set net h others = h
lacks_others (n ∷ nets) set net h others =
    let apart = ne_eqb (net_number net) (net_number n) (λ e. All-head (λ m. m ≢ net) n nets others (same_number n net (sym e))) in
    lacks_others nets (with_net set n) net
    (has-with set n net ∙ ap (λ b. b || (net_number net == net_number n)) h ∙ apart)
    (All-tail (λ m. m ≢ net) n nets others)

-- ---- a reading of names

-- the names before the rest of a text, and their set
pub record SoFar (text : List ℕ) (rest : Option (Bor (List ℕ))) (set : List ℕ) : Type 0 where
  pub nets : List Net
  pub pieces : slice_split (λ b. b == 44) text ≡ map net_name nets ++ pieces_after 44 rest
  pub once : AllPairs (λ a b. a ≢ b) nets
  pub same : set ≡ set_of nets

pub so_far_none : (text : Bor (List ℕ)) → SoFar text.now (Some text) none
so_far_none text = record {
  nets = [];
  pieces = refl;
  once = λ i j d less within. absurd (omega (arith, within));
  same = refl;
}

-- one name more
pub so_far_next : (text : List ℕ) (rest after : Option (Bor (List ℕ))) (set name : List ℕ) (net : Net) → SoFar text rest set →
    pieces_after 44 rest ≡ name ∷ pieces_after 44 after → name ≡ net_name net → has set net ≡ false → SoFar text after (with_net set net)
so_far_next text rest after set name net s cut is lacks = record {
  nets = s.nets ++ net ∷ [];
  pieces = s.pieces
      ∙ ap (λ ps. map net_name s.nets ++ ps) (cut ∙ ap (λ n. n ∷ pieces_after 44 after) is)
      ∙ sym (append_assoc (map net_name s.nets) (net_name net ∷ []) (pieces_after 44 after))
      ∙ ap (λ ps. ps ++ pieces_after 44 after) (sym (map-append net_name s.nets (net ∷ [])));
  once = all_pairs_push (λ a b. a ≢ b) s.nets net s.once (set_lacks s.nets none net (subst (λ t. has t net ≡ false) s.same lacks)).1;
  same = ap (λ t. with_net t net) s.same ∙ sym (fold-append with_net none s.nets (net ∷ []));
}

pieces_too : (text : List ℕ) (rest after : Option (Bor (List ℕ))) (set name : List ℕ) (ys : List Net) → (s : SoFar text rest set) →
    pieces_after 44 rest ≡ name ∷ pieces_after 44 after → AreNames text ys → map net_name ys ≡ map net_name s.nets ++ name ∷ pieces_after 44 after
pieces_too text rest after set name ys s cut is = sym (names_cut text ys is) ∙ s.pieces ∙ ap (λ ps. map net_name s.nets ++ ps) cut

-- a piece that is no name
pub not_named : (text : List ℕ) (rest after : Option (Bor (List ℕ))) (set name : List ℕ) → SoFar text rest set →
    pieces_after 44 rest ≡ name ∷ pieces_after 44 after → ((net : Net) → name ≢ net_name net) → (ys : List Net) → ¬ AreNames text ys
not_named text rest after set name s cut unknown ys is =
    let next = next_name s.nets ys name (pieces_after 44 after) (pieces_too text rest after set name ys s cut is) in
    unknown next.0 next.1

-- a name that was there before
pub named_twice : (text : List ℕ) (rest after : Option (Bor (List ℕ))) (set name : List ℕ) (net : Net) → SoFar text rest set →
    pieces_after 44 rest ≡ name ∷ pieces_after 44 after → name ≡ net_name net → has set net ≡ true → (ys : List Net) → ¬ AreNames text ys
named_twice text rest after set name net s cut known has_it ys is =
    let pieces = pieces_too text rest after set name ys s cut is in
    let parts = shape s.nets ys net (pieces_after 44 after) (pieces ∙ ap (λ n. map net_name s.nets ++ n ∷ pieces_after 44 after) known) in
    let others = apart s.nets parts.0 net (subst (AllPairs (λ a b. a ≢ b)) parts.1 is.once) in
    let lacks = lacks_others s.nets none net refl others in
    true≢false (sym has_it ∙ ap (λ t. has t net) s.same ∙ lacks)

-- the whole text
pub all_named : (text : List ℕ) (rest : Option (Bor (List ℕ))) (set : List ℕ) → rest ≡ None → SoFar text rest set → (nets : List Net) × AreNames text nets × (set ≡ set_of nets)
all_named text rest set ended s =
    let pieces = s.pieces ∙ ap (λ r. map net_name s.nets ++ pieces_after 44 r) ended ∙ append-nil (map net_name s.nets) in (
      s.nets,
      record {
        some = λ none. omega (arith, ap length pieces, ap (λ ns. length (map net_name ns)) none, length-slice_split (λ b. b == 44) text);
        once = s.once;
        names = sym (join_with_byte-slice_split 44 text) ∙ ap (join_with_byte 44) pieces;
      },
      s.same,
    )

-- ---- texts that are in no form

pub no_classes : (text : List ℕ) → text ≢ codes "all" → ((nets : List Net) → ¬ AreNames text nets) → ¬ IsInForm Classes text
no_classes text apart unnamed form = elim form.1.2 [ inl h ↦ apart h.0 | inr h ↦ unnamed h.0 h.1 ]

pub no_nets : (text : List ℕ) → text ≢ codes "all" → ((nets : List Net) → AreNames text nets → ¬ All (λ net. net ≢ Unroutable) nets) → ¬ IsInForm Nets text
no_nets text apart unnamed form = elim form.1.2 [ inl h ↦ apart h.0 | inr h ↦ unnamed h.0 h.1 h.2 ]

-- a text whose set has `unroutable` names something that is no network
pub some_unroutable : (text set : List ℕ) (nets : List Net) → AreNames text nets → set ≡ set_of nets → has set Unroutable ≡ true →
    (ys : List Net) → AreNames text ys → ¬ All (λ net. net ≢ Unroutable) ys
some_unroutable text set nets named is has_it ys others routable =
    let lacks = lacks_others ys none Unroutable refl routable in
    true≢false (sym has_it ∙ ap (λ t. has t Unroutable) (is ∙ ap set_of (one_names text nets ys named others)) ∙ lacks)

-- ---- one set

-- `all` is no name
pub not_all : (text : List ℕ) (nets : List Net) → text ≡ codes "all" → ¬ AreNames text nets
not_all text nets e is =
    let pieces = sym (names_cut text nets is) ∙ ap (slice_split (λ b. b == 44)) e in
    let name = next_name [] nets (codes "all") [] pieces in
    no_all name.0 name.1

pub one_classes : (text s t : List ℕ) → AreClasses text s → AreClasses text t → s ≡ t
one_classes text s t (inl h) (inl k) = h.1 ∙ sym k.1
one_classes text s t (inl h) (inr k) = absurd (not_all text k.0 h.0 k.1)
one_classes text s t (inr h) (inl k) = absurd (not_all text h.0 k.0 h.1)
one_classes text s t (inr h) (inr k) = h.2 ∙ ap set_of (one_names text h.0 k.0 h.1 k.1) ∙ sym k.2

pub one_nets : (text s t : List ℕ) → AreNets text s → AreNets text t → s ≡ t
one_nets text s t (inl h) (inl k) = h.1 ∙ sym k.1
one_nets text s t (inl h) (inr k) = absurd (not_all text k.0 h.0 k.1)
one_nets text s t (inr h) (inl k) = absurd (not_all text h.0 k.0 h.1)
one_nets text s t (inr h) (inr k) = h.3 ∙ ap set_of (one_names text h.0 k.0 h.1 k.1) ∙ sym k.3
