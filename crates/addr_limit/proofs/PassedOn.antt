-- The entries of a message that are passed on.
use Rattle.std.proofs.Common.{◌≡◌, ◌≢◌, ℕ, suc, ◌+◌, ◌≤◌, ◌<◌, List, [], ◌∷◌, ◌++◌, length, get_or, take, map, All, Option, Some, None, option_map, Ok, nat_lt, if◌then◌else◌, Bool, true, false, true≢false, refl, sym, ◌∙◌, ap, subst, arith}
use Rattle.std.specs.List.{zip, filter_map, cons_option}
use Rattle.std.proofs.lemmas.List.{take_more, map-append, append-nil, length-take}
use Rattle.std.proofs.lemmas.Bool.Decides.{nat_tests}
use Rattle.std.proofs.lemmas.List.Elements.{filter_map-append, All-nil, All-cons}
use Rattle.std.proofs.lemmas.Slice.Zip.{length-zip, get_or-zip}
use Rattle.net_addr.specs.declared.peer.Entry.{Entry}
use Rattle.net_addr.specs.declared.net.Net.{Net}
use Rattle.net_addr.specs.declared.net.Net.TheVariants.{Internal}
use Rattle.limiter.specs.declared.limiter.Conn.{Conn}
use Rattle.limiter.specs.Tokens.{refill, intake, intake_count}
use Rattle.addr_limit.specs.Steps.{Outcome, is_internal, unless_hidden, for_output, message_line, limit_message}
use Rattle.limiter.proofs.Tokens.{intake-first}
use Rattle.addr_limit.specs.Inside.{ArePassing}

abbrev pub passing : List (Option Entry) → List ℕ → ℕ → List (Entry × ℕ)
passing es ws n = filter_map for_output (take n (zip es ws))

-- one more pair
one_more : (es : List (Option Entry)) (ws : List ℕ) (i : ℕ) → i < length es → length es ≤ length ws →
    passing es ws (i + 1) ≡ passing es ws i ++ cons_option (for_output (get_or es i None, get_or ws i 0)) []
one_more es ws i lt enough =
    let many = length-zip es ws in
    let inside : i < length (zip es ws) = omega (arith, many, lt, enough) in
    ap (filter_map for_output) (take_more (zip es ws) i (None, 0) inside)
    ∙ filter_map-append for_output (take i (zip es ws)) (get_or (zip es ws) i (None, 0) ∷ [])
    ∙ ap (λ p. passing es ws i ++ cons_option (for_output p) []) (get_or-zip es ws i (None, 0) lt (omega (arith, lt, enough)))

module _ (es : List (Option Entry)) (ws : List ℕ) (i : ℕ) (lt : i < length es) (enough : length es ≤ length ws) where
  pub kept : (e : Entry) → unless_hidden (get_or es i None) ≡ Some e → passing es ws (i + 1) ≡ passing es ws i ++ (e, get_or ws i 0) ∷ []
  kept e is = one_more es ws i lt enough ∙ ap (λ o. passing es ws i ++ cons_option (option_map (λ d. (d, get_or ws i 0)) o) []) is

  pub left_out : unless_hidden (get_or es i None) ≡ None → passing es ws (i + 1) ≡ passing es ws i
  left_out is = one_more es ws i lt enough ∙ ap (λ o. passing es ws i ++ cons_option (option_map (λ d. (d, get_or ws i 0)) o) []) is ∙ append-nil (passing es ws i)

  pub first_kept : (e : Entry) → unless_hidden (get_or es i None) ≡ Some e → map (λ p. p.0) (passing es ws i) ++ e ∷ [] ≡ map (λ p. p.0) (passing es ws (i + 1))
  first_kept e is = sym (map-append (λ p. p.0) (passing es ws i) ((e, get_or ws i 0) ∷ [])) ∙ ap (map (λ p. p.0)) (sym (kept e is))

  pub word_kept : (e : Entry) → unless_hidden (get_or es i None) ≡ Some e → map (λ p. p.1) (passing es ws i) ++ get_or ws i 0 ∷ [] ≡ map (λ p. p.1) (passing es ws (i + 1))
  word_kept e is = sym (map-append (λ p. p.1) (passing es ws i) ((e, get_or ws i 0) ∷ [])) ∙ ap (map (λ p. p.1)) (sym (kept e is))

-- ---- what is passed on can be written

abbrev IsPublic : Entry → Type 0
IsPublic e = e.peer.addr.net ≢ Internal

not_internal : (net : Net) → is_internal net ≡ false → net ≢ Internal
not_internal net h e = true≢false (sym (ap is_internal e) ∙ h)

all_public : (ps : List (Option Entry × ℕ)) → All IsPublic (map (λ p. p.0) (filter_map for_output ps))
all_public [] = All-nil IsPublic
all_public ((None, w) ∷ ps) = all_public ps
all_public ((Some e, w) ∷ ps) = by (is_internal e.peer.addr.net) refl (all_public ps)
  where
    by : (b : Bool) → is_internal e.peer.addr.net ≡ b → All IsPublic (map (λ p. p.0) (filter_map for_output ps)) →
        All IsPublic (map (λ p. p.0) (cons_option (option_map (λ d. (d, w)) (if b then None else Some e)) (filter_map for_output ps)))
    by true at rest = rest
    by false at rest = All-cons IsPublic e (map (λ p. p.0) (filter_map for_output ps)) (not_internal e.peer.addr.net at) rest

no_more : (ps : List (Option Entry × ℕ)) → length (map (λ p. p.0) (filter_map for_output ps)) ≤ length ps
no_more [] = omega arith
no_more ((None, w) ∷ ps) = omega (arith, no_more ps)
no_more ((Some e, w) ∷ ps) = by (is_internal e.peer.addr.net) (no_more ps)
  where
    by : (b : Bool) → length (map (λ p. p.0) (filter_map for_output ps)) ≤ length ps →
        length (map (λ p. p.0) (cons_option (option_map (λ d. (d, w)) (if b then None else Some e)) (filter_map for_output ps))) ≤ suc (length ps)
    by true rest = omega (arith, rest)
    by false rest = omega (arith, rest)

pub are_passing : (es : List (Option Entry)) (ws : List ℕ) (n : ℕ) (entries : List Entry) → n ≤ 1000 → entries ≡ map (λ p. p.0) (passing es ws n) → ArePassing entries
are_passing es ws n entries few is = record {
  count = omega (arith, few, ap length is, no_more (take n (zip es ws)), length-take n (zip es ws));
  networks = subst (All IsPublic) (sym is) (all_public (take n (zip es ws)));
}

-- ---- the output line of a message

same_line : (now : ℕ) (c : Conn) (ps : List (Entry × ℕ)) → message_line c ps ≡ message_line (refill now c) ps
same_line now c [] = refl
same_line now c (p ∷ ps) = refl

pub message_line-is : (now : ℕ) (c : Conn) (es : List (Option Entry)) (ws : List ℕ) (n : ℕ) → n ≡ intake_count (refill now c) (length es) → nat_lt (length ws) (length es) ≡ false →
    message_line c (passing es ws n) ≡ (limit_message now c (Ok es) ws).text
message_line-is now c es ws n is enough =
    same_line now c (passing es ws n) ∙ ap (λ ps. message_line (refill now c) (filter_map for_output ps)) (sym first) ∙ sym (by (nat_lt (length ws) (length es)) _ _ enough)
  where
    all : length (zip es ws) ≡ length es
    all = grind (arith, nat_tests, enough, length-zip es ws)

    first : intake (refill now c) (zip es ws) ≡ take n (zip es ws)
    first = intake-first (refill now c) (zip es ws) ∙ ap (λ m. take m (zip es ws)) (ap (intake_count (refill now c)) all ∙ sym is)

    by : (b : Bool) (o p : Outcome) → b ≡ false → (if b then o else p).text ≡ p.text
    by true o p fails = absurd cc
    by false o p fails = refl
