-- What is found, put back, changes nothing.
use Rattle.std.proofs.Common.{◌≡◌, ℕ, List, [], ◌∷◌, map, not, Option, Some, None, nat_lt, unwrap_or, if◌then◌else◌, ◌==◌, Bool, true, false, refl, sym, ◌∙◌, ap, subst, arith}
use Rattle.std.specs.List.{AllByRecursion}
use Rattle.std.specs.List.Sorted.{IsStrictlySortedBy}
use Rattle.std.specs.Ordering.{nat_cmp}
use Rattle.std.proofs.lemmas.Bool.{eqb-true}
use Rattle.std.proofs.lemmas.Bool.Decides.{nat_tests}
use Rattle.limiter.specs.declared.limiter.Conn.{Conn}
use Rattle.limiter.specs.State.{find_conn, with_conn, without_conn, set_conn, AreRising}

pub without-none : (number : ℕ) (conns : List Conn) → find_conn number conns ≡ None → without_conn number conns ≡ conns
without-none number [] h = refl
without-none number (c ∷ conns) h = by (c.number == number) h (without-none number conns)
  where
    by : (b : Bool) → (if b then Some c else find_conn number conns) ≡ None → (find_conn number conns ≡ None → without_conn number conns ≡ conns) →
        (if not b then c ∷ without_conn number conns else without_conn number conns) ≡ c ∷ conns
    by true e rest = absurd cc
    by false e rest = ap (λ cs. c ∷ cs) (rest e)

-- the numbers of all connections after the first are greater
above : (c : Conn) (conns : List Conn) (d : Conn) (number : ℕ) → AllByRecursion (λ k. nat_cmp c.number k ≡ nat_cmp 0 1) (map (λ e. e.number) conns) → find_conn number conns ≡ Some d → nat_lt c.number number ≡ true
above c [] d number h e = absurd cc
above c (x ∷ conns) d number h e = by (x.number == number) refl e (above c conns d number h.1)
  where
    by : (b : Bool) → (x.number == number) ≡ b → (if b then Some x else find_conn number conns) ≡ Some d → (find_conn number conns ≡ Some d → nat_lt c.number number ≡ true) → nat_lt c.number number ≡ true
    by true at e rest = grind (arith, nat_tests, h.0, at)
    by false at e rest = rest e

with-found : (c : Conn) (conns : List Conn) → AreRising conns → find_conn c.number conns ≡ Some c → with_conn c conns ≡ conns
unfolding IsStrictlySortedBy
with-found c [] rising h = absurd cc
with-found c (d ∷ conns) rising h = by (d.number == c.number) refl h (with-found c conns rising.1)
  where
    by : (b : Bool) → (d.number == c.number) ≡ b → (if b then Some d else find_conn c.number conns) ≡ Some c → (find_conn c.number conns ≡ Some c → with_conn c conns ≡ conns) → with_conn c (d ∷ conns) ≡ d ∷ conns
    by true at e rest =
        let same : d ≡ c = cc in
        grind (arith, nat_tests, at, same)
    by false at e rest = grind (arith, nat_tests, at, above d conns c c.number rising.0 e, rest e)

-- what is found has the number
found-number : (number : ℕ) (conns : List Conn) (c : Conn) → find_conn number conns ≡ Some c → c.number ≡ number
found-number number [] c h = absurd cc
found-number number (d ∷ conns) c h = by (d.number == number) refl h (found-number number conns c)
  where
    by : (b : Bool) → (d.number == number) ≡ b → (if b then Some d else find_conn number conns) ≡ Some c → (find_conn number conns ≡ Some c → c.number ≡ number) → c.number ≡ number
    by true at e rest = ap (λ o. (unwrap_or o d).number) (sym e) ∙ eqb-true d.number number at
    by false at e rest = rest e

-- what is found, put back, changes nothing
pub set-found : (number : ℕ) (conns : List Conn) → AreRising conns → set_conn number (find_conn number conns) conns ≡ conns
set-found number conns rising = by (find_conn number conns) refl
  where
    by : (o : Option Conn) → find_conn number conns ≡ o → set_conn number o conns ≡ conns
    by None e = without-none number conns e
    by (Some c) e = with-found c conns rising (subst (λ n. find_conn n conns ≡ Some c) (sym (found-number number conns c e)) e)
