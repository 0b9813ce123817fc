-- The calls of `Limiter` change the connections as the events say.
use Rattle.std.proofs.Common.{◌≡◌, ℕ, ◌+◌, ◌≤◌, List, [], ◌∷◌, length, map, not, Option, Some, None, is_none, nat_lt, unwrap_or, if◌then◌else◌, ◌==◌, Bool, true, false, Result, Ok, Err, inl, inr, refl, sym, ◌∙◌, ap, subst, arith}
use Rattle.std.specs.List.{AllByRecursion, zip}
use Rattle.std.specs.List.Sorted.{IsStrictlySortedBy}
use Rattle.std.specs.Ordering.{nat_cmp}
use Rattle.std.proofs.lemmas.Bool.{eqb-true}
use Rattle.std.proofs.lemmas.Bool.Decides.{nat_tests}
use Rattle.std.proofs.lemmas.Slice.Zip.{length-zip}
use Rattle.net_addr.specs.Address.{Address}
use Rattle.net_addr.specs.declared.peer.Entry.{Entry}
use Rattle.addr_codecs.specs.declared.fault.MsgFault.{MsgFault}
use Rattle.limiter.specs.declared.limiter.Conn.{Conn}
use Rattle.addr_limit.specs.declared.command.LimitCommand.{LimitCommand}
use Rattle.addr_limit.specs.declared.command.LimitCommand.TheVariants.{Open, Close, GetAddr, Message, Stat}
use Rattle.limiter.specs.State.{find_conn, with_conn, without_conn, set_conn, AreRising, new_conn}
use Rattle.limiter.specs.Tokens.{refill, after_entry, after_entries}
use Rattle.addr_limit.specs.Steps.{Outcome, serve, serve_none, limit_entries}
use Rattle.limiter.specs.Calls.{after_open, after_asking, after_message}
use Rattle.limiter.proofs.Found.{set-found, without-none}

-- ---- as many entries and pairs

entries-length : {E F : Type 0} (c : Conn) (es : List E) (fs : List F) → length es ≡ length fs → after_entries c es ≡ after_entries c fs
entries-length c [] [] h = refl
entries-length c [] (f ∷ fs) h = absurd (omega (arith, h))
entries-length c (e ∷ es) [] h = absurd (omega (arith, h))
entries-length c (e ∷ es) (f ∷ fs) h = entries-length (after_entry c) es fs (omega (arith, h))

pub entries-pairs : (c : Conn) (entries : List (Option Entry)) (words : List ℕ) → nat_lt (length words) (length entries) ≡ false → after_entries c entries ≡ after_entries c (zip entries words)
entries-pairs c entries words enough = entries-length c entries (zip entries words) (grind (arith, nat_tests, enough, length-zip entries words))

-- ---- the requests

pub close-is : (now number : ℕ) (conns : List Conn) → without_conn number conns ≡ set_conn number (serve now number (find_conn number conns) Close).conn conns
close-is now number conns = by (find_conn number conns)
  where
    by : (o : Option Conn) → without_conn number conns ≡ set_conn number (serve now number o Close).conn conns
    by None = refl
    by (Some c) = refl

pub enough_words : (m n : ℕ) → m ≤ n → nat_lt n m ≡ false
enough_words m n h = grind (arith, nat_tests, h)

module _ (now number : ℕ) (conns : List Conn) (rising : AreRising conns) where
  abbrev Next : LimitCommand → List Conn
  Next request = set_conn number (serve now number (find_conn number conns) request).conn conns

  pub open-is : (addr : Address) (unlimited : Bool) → after_open (new_conn number addr unlimited now) conns ≡ Next (Open addr unlimited)
  open-is addr unlimited = by (find_conn number conns) (set-found number conns rising)
    where
      by : (o : Option Conn) → set_conn number o conns ≡ conns → (if is_none o then with_conn (new_conn number addr unlimited now) conns else conns) ≡ set_conn number (serve now number o (Open addr unlimited)).conn conns
      by None same = refl
      by (Some c) same = sym same

  pub getaddr-is : after_asking (find_conn number conns) conns ≡ Next GetAddr
  getaddr-is = by (find_conn number conns) (set-found number conns rising)
    where
      asked_or_not : (c : Conn) (b : Bool) → set_conn number (Some c) conns ≡ conns → (if b then conns else with_conn (if b then c else record c { tenths = c.tenths + 10000; asked = true }) conns)
          ≡ with_conn (if b then c else record c { tenths = c.tenths + 10000; asked = true }) conns
      asked_or_not c true same = sym same
      asked_or_not c false same = refl

      by : (o : Option Conn) → set_conn number o conns ≡ conns → after_asking o conns ≡ set_conn number (serve now number o GetAddr).conn conns
      by None same = sym same
      by (Some c) same = asked_or_not c c.asked same

  pub taken-is : (entries : List (Option Entry)) (words : List ℕ) → nat_lt (length words) (length entries) ≡ false →
      after_message now entries (find_conn number conns) conns ≡ Next (Message (Ok entries) words)
  taken-is entries words enough = by (find_conn number conns) (set-found number conns rising)
    where
      by_test : (b : Bool) (o p : Outcome) → b ≡ false → (if b then o else p).conn ≡ p.conn
      by_test true o p fails = absurd cc
      by_test false o p fails = refl

      by : (o : Option Conn) → set_conn number o conns ≡ conns → after_message now entries o conns ≡ set_conn number (serve now number o (Message (Ok entries) words)).conn conns
      by None same = sym same
      by (Some c) same =
          ap (λ d. with_conn d conns) (entries-pairs (refill now c) entries words enough)
          ∙ sym (ap (λ o. set_conn number o conns) (by_test (nat_lt (length words) (length entries)) _ (limit_entries (refill now c) (zip entries words)) enough))

  pub stat-is : conns ≡ Next Stat
  stat-is = by (find_conn number conns) (set-found number conns rising)
    where
      by : (o : Option Conn) → set_conn number o conns ≡ conns → conns ≡ set_conn number (serve now number o Stat).conn conns
      by None same = sym same
      by (Some c) same = sym same

  pub refused-is : (fault : MsgFault) (words : List ℕ) → conns ≡ Next (Message (Err fault) words)
  refused-is fault words = by (find_conn number conns) (set-found number conns rising)
    where
      by : (o : Option Conn) → set_conn number o conns ≡ conns → conns ≡ set_conn number (serve now number o (Message (Err fault) words)).conn conns
      by None same = sym same
      by (Some c) same = sym same

  pub short-is : (entries : List (Option Entry)) (words : List ℕ) → nat_lt (length words) (length entries) ≡ true → conns ≡ Next (Message (Ok entries) words)
  short-is entries words short = by (find_conn number conns) (set-found number conns rising)
    where
      by_test : (b : Bool) (o p : Outcome) → b ≡ true → (if b then o else p).conn ≡ o.conn
      by_test true o p is = refl
      by_test false o p is = absurd cc

      by : (o : Option Conn) → set_conn number o conns ≡ conns → conns ≡ set_conn number (serve now number o (Message (Ok entries) words)).conn conns
      by None same = sym same
      by (Some c) same =
          sym same ∙ sym (ap (λ o. set_conn number o conns) (by_test (nat_lt (length words) (length entries)) _ (limit_entries (refill now c) (zip entries words)) short))
