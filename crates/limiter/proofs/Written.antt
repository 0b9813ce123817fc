-- What a change through a borrow of one connection leaves of all.
use Rattle.std.proofs.Common.{◌≡◌, ℕ, ◌+◌, if◌then◌else◌, List, [], ◌∷◌, nat_eq, ◌++◌, Option, Some, None, IfSome, IsSome, Bool, true, false, Result, Ok, Err, refl, sym, ◌∙◌, ap, subst, arith}
use Rattle.std.specs.Borrow.{Bor}
use Rattle.std.specs.Prelude.{IfOk, OnOk, OnErr}
use Rattle.std.specs.Option.{option_copied}
use Rattle.std.proofs.lemmas.Bool.Decides.{nat_tests}
use Rattle.std.specs.Map.{lookup, set_value}
use Rattle.limiter.specs.declared.limiter.Conn.{Conn}
use Rattle.net_addr.specs.Address.{Address}
use Rattle.limiter.specs.State.{new_conn, find_conn, with_conn, set_conn}
use Rattle.limiter.specs.Inside.{conns_of, AreEntries, IsConn, IsKept}
use Rattle.limiter.specs.Tokens.{after_getaddr}
use Rattle.limiter.specs.Calls.{after_asking}
use Rattle.limiter.proofs.Found.{set-found}
use Rattle.limiter.proofs.Entries.{Finds, lookup-is, put-is, set-entries, found-both, are_rising}

-- what is borrowed has what the value has
pub of_copied : (P : Conn → Type 0) (o : Option (Bor Conn)) → IfSome (option_copied o) P → IfSome o (λ c. P c.now)
of_copied P None h = tt
of_copied P (Some c) h = h

module _ (number : ℕ) (old : List (ℕ × Conn)) (c : Conn) (kept : AreEntries old) (found : Some c ≡ lookup (nat_eq number) old) where
  pub number_is : c.number ≡ number
  number_is = (subst (λ o. IfSome o (λ d. (d.number ≡ number) × IsConn d)) (sym found) (found-both number old kept)).0

  pub conn_is : IsConn c
  conn_is = (subst (λ o. IfSome o (λ d. (d.number ≡ number) × IsConn d)) (sym found) (found-both number old kept)).1

  pub find_is : find_conn number (conns_of old) ≡ Some c
  find_is = sym (lookup-is number old kept) ∙ sym found

  module _ (new : List (ℕ × Conn)) (next : Conn) (written : new ≡ set_value (nat_eq number) old next) (same : IsKept c next) where
    at : next.number ≡ number
    at = same.number ∙ number_is

    pub written-entries : AreEntries new
    written-entries = subst AreEntries (sym (written ∙ ap (λ n. set_value (nat_eq n) old next) (sym at))) (set-entries next old kept same.conn)

    pub written-is : Finds number (Some next) old new → conns_of new ≡ with_conn next (conns_of old)
    written-is finds = put-is next old new kept written-entries (subst (λ n. Finds n (Some next) old new) (sym at) finds)

pub second : (number : ℕ) (o : Option Conn) → IfSome o (λ c. (c.number ≡ number) × IsConn c) → IfSome o IsConn
second number None h = tt
second number (Some c) h = h.1

-- a new connection has few enough tokens
pub new_is : (number : ℕ) (addr : Address) (unlimited : Bool) (now : ℕ) → IsConn (new_conn number addr unlimited now)
new_is number addr unlimited now = record { tenths = omega arith; processed = omega arith; limited = omega arith }

pub none_is : (number : ℕ) (es : List (ℕ × Conn)) → AreEntries es → None ≡ lookup (nat_eq number) es → find_conn number (conns_of es) ≡ None
none_is number es kept absent = sym (lookup-is number es kept) ∙ sym absent

pub found_conn : (number : ℕ) (es : List (ℕ × Conn)) → AreEntries es → (c : Conn) → find_conn number (conns_of es) ≡ Some c → IsConn c
found_conn number es kept c found = conn_is number es c kept (sym found ∙ sym (lookup-is number es kept))

pub some_found : {A : Type 0} (x : A) (o : Option A) → Some x ≡ o → IsSome o
some_found x o is = subst IsSome is refl

-- a connection that was asked before stays as it was
pub asking_is : (number : ℕ) (c : Conn) (es : List (ℕ × Conn)) → find_conn number (conns_of es) ≡ Some c → with_conn (after_getaddr c) (conns_of es) ≡ after_asking (Some c) (conns_of es)
asking_is number c es found = by c.asked
  where
    same : with_conn c (conns_of es) ≡ conns_of es
    same = ap (λ o. set_conn number o (conns_of es)) (sym found) ∙ set-found number (conns_of es) (are_rising es)

    by : (b : Bool) → with_conn (if b then c else record c { tenths = c.tenths + 10000; asked = true }) (conns_of es)
        ≡ (if b then conns_of es else with_conn (if b then c else record c { tenths = c.tenths + 10000; asked = true }) (conns_of es))
    by true = same
    by false = refl
