-- The tokens that are written are those of the value, and its text reads back.
use Rattle.std.proofs.Common.{◌≡◌, Result, Ok, Err, ℕ, ◌+◌, ◌≤◌, ◌==◌, Bool, true, false, cond, List, [], ◌∷◌, ◌++◌, Some, option_and_then, refl, ap, sym, ◌∙◌, arith, append_assoc}
use Rattle.std.specs.Prelude.{IfOk, OnOk}
use Rattle.std.specs.List.{flat_map, range_with_len}
use Rattle.std.proofs.Math.Nat.{max-le}
use Rattle.std.proofs.lemmas.List.{append-nil}
use Rattle.json.specs.Token.{Token}
use Rattle.json.specs.Lex.{tokens}
use Rattle.json.specs.Json.{Json, document, if_last, value}
use Rattle.json.specs.Tree.{json_tokens, members_tokens, depth, members_depth}
use Rattle.json.proofs.Printed.Trees.{value-json_tokens}
use Rattle.tables.proofs.Gathered.{flat_map-more}
use Rattle.node_json.specs.Inside.{tokens_of}
use Rattle.node_json.specs.Value.{Member, members_of, object_of, unless_zero}

pub tokens_of-append : (xs ys : List Member) → tokens_of (xs ++ ys) ≡ tokens_of xs ++ tokens_of ys
tokens_of-append [] ys = refl
tokens_of-append (x ∷ xs) ys =
    ap (λ ts. Token.key x.0 ∷ ts) (ap (λ ts. json_tokens x.1 ++ ts) (tokens_of-append xs ys) ∙ sym (append_assoc (json_tokens x.1) (tokens_of xs) (tokens_of ys)))

-- the tokens of an object are those of its members between brackets
members_end : (ms : List Member) → members_tokens (members_of ms) ≡ tokens_of ms ++ Token.end_object ∷ []
members_end [] = refl
members_end (m ∷ ms) =
    ap (λ ts. Token.key m.0 ∷ ts) (ap (λ ts. json_tokens m.1 ++ ts) (members_end ms) ∙ sym (append_assoc (json_tokens m.1) (tokens_of ms) (Token.end_object ∷ [])))

pub object_tokens : (ms : List Member) → json_tokens (object_of ms) ≡ Token.begin_object ∷ (tokens_of ms ++ Token.end_object ∷ [])
object_tokens ms = ap (λ ts. Token.begin_object ∷ ts) (members_end ms)

-- an object under a name, written piece by piece
pub object_written : (name : List ℕ) (ms : List Member) (old begun inside new : List Token) → begun ≡ old ++ Token.key name ∷ Token.begin_object ∷ [] → inside ≡ begun ++ tokens_of ms → new ≡ inside ++ Token.end_object ∷ [] → new ≡ old ++ tokens_of ((name, object_of ms) ∷ [])
object_written name ms old begun inside new b i n =
    n ∙ ap (λ ts. ts ++ Token.end_object ∷ []) (i ∙ ap (λ ts. ts ++ tokens_of ms) b)
    ∙ ap (λ ts. ts ++ Token.end_object ∷ []) (append_assoc old (Token.key name ∷ Token.begin_object ∷ []) (tokens_of ms))
    ∙ append_assoc old (Token.key name ∷ Token.begin_object ∷ tokens_of ms) (Token.end_object ∷ [])
    ∙ ap (λ ts. old ++ Token.key name ∷ ts) (sym (object_tokens ms) ∙ sym (append-nil (json_tokens (object_of ms))))

-- an object without a name
pub object_value : (ms : List Member) (old begun inside new : List Token) → begun ≡ old ++ Token.begin_object ∷ [] → inside ≡ begun ++ tokens_of ms → new ≡ inside ++ Token.end_object ∷ [] → new ≡ old ++ json_tokens (object_of ms)
object_value ms old begun inside new b i n =
    n ∙ ap (λ ts. ts ++ Token.end_object ∷ []) (i ∙ ap (λ ts. ts ++ tokens_of ms) b)
    ∙ ap (λ ts. ts ++ Token.end_object ∷ []) (append_assoc old (Token.begin_object ∷ []) (tokens_of ms))
    ∙ append_assoc old (Token.begin_object ∷ tokens_of ms) (Token.end_object ∷ [])
    ∙ ap (λ ts. old ++ ts) (sym (object_tokens ms))

-- two parts of a text, and three
pub two_parts : (old a b x new : List Token) → x ≡ old ++ a → new ≡ x ++ b → new ≡ old ++ (a ++ b)
two_parts old a b x new e f = f ∙ ap (λ ts. ts ++ b) e ∙ append_assoc old a b

pub three_parts : (old a b c x y new : List Token) → x ≡ old ++ a → y ≡ x ++ b → new ≡ y ++ c → new ≡ old ++ (a ++ b ++ c)
three_parts old a b c x y new e f g = g ∙ ap (λ ts. ts ++ c) (two_parts old a b x y e f) ∙ append_assoc old (a ++ b) c

-- the members of one index more
pub one_more : (f : ℕ → List Member) (n : ℕ) (first now next : List Token) → now ≡ first ++ tokens_of (flat_map f (range_with_len 0 n)) → next ≡ now ++ tokens_of (f n) → next ≡ first ++ tokens_of (flat_map f (range_with_len 0 (n + 1)))
one_more f n first now next so_far more =
    let before = flat_map f (range_with_len 0 n) in
    more ∙ ap (λ ts. ts ++ tokens_of (f n)) so_far ∙ append_assoc first (tokens_of before) (tokens_of (f n))
    ∙ ap (λ ts. first ++ ts) (sym (ap tokens_of (flat_map-more f n) ∙ tokens_of-append before (f n)))

-- a text with the tokens of a value is read as the value
pub reads_of : (j : Json) (text : List ℕ) → tokens text ≡ json_tokens j → depth j ≤ 128 → document text ≡ Some j
reads_of j text e h =
    ap (λ ts. option_and_then (λ p. if_last p.0 p.1) (value 128 ts)) (e ∙ sym (append-nil (json_tokens j)))
    ∙ ap (option_and_then (λ p. if_last p.0 p.1)) (value-json_tokens j 128 [] h)

-- members whose values are at most so deep
abbrev pub AreShallow : ℕ → List Member → Type 0
AreShallow k [] = Unit {0}
AreShallow k (m ∷ ms) = (depth m.1 ≤ k) × AreShallow k ms

pub shallow-append : (k : ℕ) (xs ys : List Member) → AreShallow k xs → AreShallow k ys → AreShallow k (xs ++ ys)
shallow-append k [] ys h l = l
shallow-append k (x ∷ xs) ys h l = (h.0, shallow-append k xs ys h.1 l)

pub shallow-flat_map : (k : ℕ) (f : ℕ → List Member) (ns : List ℕ) → ((n : ℕ) → AreShallow k (f n)) → AreShallow k (flat_map f ns)
shallow-flat_map k f [] h = tt
shallow-flat_map k f (n ∷ ns) h = shallow-append k (f n) (flat_map f ns) (h n) (shallow-flat_map k f ns h)

shallow_members : (k : ℕ) (ms : List Member) → AreShallow k ms → members_depth (members_of ms) ≤ k
shallow_members k [] h = omega arith
shallow_members k (m ∷ ms) h = max-le h.0 (shallow_members k ms h.1)

pub shallow_object : (k : ℕ) (ms : List Member) → AreShallow k ms → depth (object_of ms) ≤ k + 1
shallow_object k ms h = omega (arith, shallow_members k ms h)

unless_by : (b : Bool) (name : List ℕ) (j : Json) → depth j ≤ 0 → AreShallow 0 (cond b [] ((name, j) ∷ []))
unless_by true name j h = tt
unless_by false name j h = (h, tt)

pub shallow_unless : (name : List ℕ) (n : ℕ) → AreShallow 0 (unless_zero name n)
shallow_unless name n = unless_by (n == 0) name _ (omega arith)

-- a property of a value, weakened
pub if_ok : {A E : Type 0} (P Q : A → Type 0) (r : Result A E) → ((x : A) → P x → Q x) → IfOk r P → IfOk r Q
if_ok P Q (Ok x) f h = f x h
if_ok P Q (Err e) f h = tt

-- one member more
pub member_more : (ms : List Member) (m : Member) (first now next : List Token) → now ≡ first ++ tokens_of ms → next ≡ now ++ tokens_of (m ∷ []) → next ≡ first ++ tokens_of (ms ++ m ∷ [])
member_more ms m first now next e f =
    f ∙ ap (λ ts. ts ++ tokens_of (m ∷ [])) e ∙ append_assoc first (tokens_of ms) (tokens_of (m ∷ [])) ∙ ap (λ ts. first ++ ts) (sym (tokens_of-append ms (m ∷ [])))

pub no_member : (first : List Token) → first ≡ first ++ tokens_of []
no_member first = sym (append-nil first)

-- what holds if a call succeeds, weakened
pub on_ok : {A E : Type 0} (P Q : Type 0) (r : Result A E) → (P → Q) → OnOk r P → OnOk r Q
on_ok P Q (Ok x) f h = f h
on_ok P Q (Err e) f h = tt
