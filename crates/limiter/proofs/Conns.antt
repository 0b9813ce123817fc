-- What is at a number after a change at one.
use Rattle.std.proofs.Common.{◌≡◌, ◌≢◌, ℕ, List, [], ◌∷◌, Option, Some, None, IfSome, if◌then◌else◌, ◌==◌, Bool, true, false, refl, ◌∙◌, subst, arith}
use Rattle.std.proofs.lemmas.Bool.{eqb-true}
use Rattle.std.proofs.lemmas.Bool.Decides.{nat_tests}
use Rattle.limiter.specs.declared.limiter.Conn.{Conn}
use Rattle.limiter.specs.State.{find_conn, with_conn, without_conn, set_conn}

-- a connection of this number, if there is one
abbrev pub HasNumber : ℕ → Option Conn → Type 0
HasNumber number found = IfSome found (λ c. c.number ≡ number)

pub find_conn-number : (number : ℕ) (conns : List Conn) → HasNumber number (find_conn number conns)
find_conn-number number [] = tt
find_conn-number number (c ∷ conns) = by (c.number == number) refl (find_conn-number number conns)
  where
    by : (b : Bool) → (c.number == number) ≡ b → HasNumber number (find_conn number conns) → HasNumber number (if b then Some c else find_conn number conns)
    by true h rest = eqb-true c.number number h
    by false h rest = rest

pub find-with_conn : (c : Conn) (conns : List Conn) → find_conn c.number (with_conn c conns) ≡ Some c
find-with_conn c [] = grind (arith, nat_tests)
find-with_conn c (d ∷ conns) = grind (arith, nat_tests, find-with_conn c conns)

pub find_other-with_conn : (number : ℕ) (c : Conn) (conns : List Conn) → number ≢ c.number → find_conn number (with_conn c conns) ≡ find_conn number conns
find_other-with_conn number c [] differ = grind (arith, nat_tests)
find_other-with_conn number c (d ∷ conns) differ = grind (arith, nat_tests, find_other-with_conn number c conns differ)

pub find-without_conn : (number : ℕ) (conns : List Conn) → find_conn number (without_conn number conns) ≡ None
find-without_conn number [] = refl
find-without_conn number (c ∷ conns) = grind (arith, nat_tests, find-without_conn number conns)

pub find_other-without_conn : (number other : ℕ) (conns : List Conn) → number ≢ other → find_conn number (without_conn other conns) ≡ find_conn number conns
find_other-without_conn number other [] differ = refl
find_other-without_conn number other (c ∷ conns) differ = grind (arith, nat_tests, find_other-without_conn number other conns differ)

-- what was set is there
pub find-set_conn : (number : ℕ) (o : Option Conn) (conns : List Conn) → HasNumber number o → find_conn number (set_conn number o conns) ≡ o
find-set_conn number None conns h = find-without_conn number conns
find-set_conn number (Some c) conns h = subst (λ n. find_conn n (with_conn c conns) ≡ Some c) h (find-with_conn c conns)

-- and every other number has what it had
pub find_other-set_conn : (number other : ℕ) (o : Option Conn) (conns : List Conn) → HasNumber other o → number ≢ other →
    find_conn number (set_conn other o conns) ≡ find_conn number conns
find_other-set_conn number other None conns h differ = find_other-without_conn number other conns differ
find_other-set_conn number other (Some c) conns h differ = find_other-with_conn number c conns (λ e. differ (e ∙ h))
