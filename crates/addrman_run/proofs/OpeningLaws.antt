-- A folder opens in one way.
use Rattle.std.proofs.Common.{◌≡◌, ◌<◌, ◌⊎◌, ℕ, List, All, Option, Some, None, refl, sym, ap, subst, ◌∙◌, inl, inr}
use Rattle.std.specs.Prelude.{IfSome, unwrap_or}
use Rattle.host_io.specs.Disk.{files_on}
use Rattle.host_io.specs.Past.{Past}
use Rattle.host_io.specs.PerName.{under}
use Rattle.host_io.specs.declared.name.Name.TheVariants as name
use Rattle.asmap_vm.specs.Asmap.{Asmap}
use Rattle.peer_rec.specs.Snapshot.{Snapshot}
use Rattle.table_machine.specs.State.{State, empty_state}
use Rattle.table_machine.specs.Restoring.{duplicate}
use Rattle.peers_file.specs.Layout.{IsFile, HasFileFault, HasOneMeaning}
use Rattle.peers_file.specs.declared.chain.Chain.{Chain}
use Rattle.arguments.specs.declared.file_kind.FileKind.{FileKind}
use Rattle.peers_file.specs.declared.fault.FileFault.{FileFault}
use Rattle.addrman_run.specs.Diff.{HaveTooMany, RefusesRecords}
use Rattle.addrman_run.specs.Opening.{Opens, OpensOnce, RefusesTables, LacksKey, places_of, tables_of}
use Rattle.addrman_run.specs.Opening.Opens.{from_file, from_key}
use Rattle.addrman_run.specs.Peers.{IsSnapshotIn, RefusesPeers}
use Rattle.addrman_run.specs.declared.peers_fault.PeersFault.{PeersFault}
use Rattle.addrman_run.specs.declared.peers_fault.PeersFault.TheVariants.{File, Duplicate}

-- the bytes of peers.dat
abbrev pub file_of : Past → Option (List ℕ)
file_of past = under (files_on past.now) name.Peers

none_or_some : {T : Type 0} (o : Option T) (x : T) → o ≡ None → o ≡ Some x → ⊥
none_or_some o x none some = cc

one_of : {T : Type 0} (o : Option T) (x y : T) → o ≡ Some x → o ≡ Some y → x ≡ y
one_of {T = T} o x y first second = ap (λ (p : Option T). unwrap_or p x) (sym first ∙ second)

-- ---- there is no file

-- the tables are empty, under the only key
empty_under : (key : Option (List ℕ)) (kind : FileKind) (past : Past) (map : Option Asmap) (st : State) → file_of past ≡ None → Opens key kind (Some past) map st →
    (given : List ℕ) × (key ≡ Some given) × (st ≡ empty_state (places_of kind.rule given map))
empty_under key kind past map st none (from_file snap file once is) = absurd (none_or_some (file_of past) file.0 none file.1)
empty_under key kind past map st none (from_key given absent has is) = (given, has, is)

unrefused : (chain : Chain) (past : Past) (f : PeersFault) → file_of past ≡ None → RefusesTables chain (Some past) f → ⊥
unrefused chain past (File fault) none refused = none_or_some (file_of past) refused.1.0 none refused.1.1
unrefused chain past (Duplicate index) none refused = none_or_some (file_of past) refused.1.0 none refused.1.1

by_key : (key : Option (List ℕ)) (kind : FileKind) (past : Past) (map : Option Asmap) → file_of past ≡ None →
    ((st : State) × Opens key kind (Some past) map st) ⊎ (((fault : PeersFault) × RefusesTables kind.chain (Some past) fault) ⊎ LacksKey key (Some past))
by_key None kind past map none = inr (inr (refl, none))
by_key (Some given) kind past map none = inl (empty_state (places_of kind.rule given map), from_key given none refl refl)

without_file : (key : Option (List ℕ)) (kind : FileKind) (past : Past) (map : Option Asmap) → file_of past ≡ None → OpensOnce key kind (Some past) map
without_file key kind past map none = record {
  some = by_key key kind past map none;
  one_state = λ a b one two.
      let first = empty_under key kind past map a none one in
      let second = empty_under key kind past map b none two in
      first.2 ∙ ap (λ (given : List ℕ). empty_state (places_of kind.rule given map)) (one_of key first.0 second.0 first.1 second.1) ∙ sym second.2;
  one_fault = λ f g one two. absurd (unrefused kind.chain past f none one);
  not_refused = λ a f opens refused. unrefused kind.chain past f none refused;
  no_lack = λ a opens lacks. none_or_some key (empty_under key kind past map a none opens).0 lacks.0 (empty_under key kind past map a none opens).1;
  no_file_lacks = λ f refused lacks. unrefused kind.chain past f none refused;
}

-- ---- there is one

-- the snapshot of the file
has_snapshot : (chain : Chain) (past : Past) (bytes : List ℕ) (snap : Snapshot) → file_of past ≡ Some bytes → IsSnapshotIn chain (Some past) snap → IsFile chain bytes snap
has_snapshot chain past bytes snap is file = subst (λ b. IsFile chain b snap) (one_of (file_of past) file.0 bytes file.1 is) file.2

-- the fault of the file
has_fault : (chain : Chain) (past : Past) (bytes : List ℕ) (f : FileFault) → file_of past ≡ Some bytes → RefusesPeers chain (Some past) f → HasFileFault chain bytes f
has_fault chain past bytes f is refused = subst (λ b. HasFileFault chain b f) (one_of (file_of past) refused.1.0 bytes refused.1.1 is) refused.1.2

-- the tables are those of the file
tables_from : (key : Option (List ℕ)) (kind : FileKind) (past : Past) (map : Option Asmap) (bytes : List ℕ) (st : State) → file_of past ≡ Some bytes → Opens key kind (Some past) map st →
    (snap : Snapshot) × IsFile kind.chain bytes snap × (duplicate snap ≡ None) × (st ≡ tables_of kind.rule snap map)
tables_from key kind past map bytes st is (from_file snap file once same) = (snap, has_snapshot kind.chain past bytes snap is file, once, same)
tables_from key kind past map bytes st is (from_key given absent has same) = absurd (none_or_some (file_of past) bytes absent is)

by_duplicate : (key : Option (List ℕ)) (kind : FileKind) (past : Past) (map : Option Asmap) (snap : Snapshot) (o : Option ℕ) → IsSnapshotIn kind.chain (Some past) snap → duplicate snap ≡ o →
    ((st : State) × Opens key kind (Some past) map st) ⊎ (((fault : PeersFault) × RefusesTables kind.chain (Some past) fault) ⊎ LacksKey key (Some past))
by_duplicate key kind past map snap None file once = inl (tables_of kind.rule snap map, from_file snap file once refl)
by_duplicate key kind past map snap (Some index) file repeated = inr (inl (Duplicate index, (snap, file, repeated)))

by_meaning : (key : Option (List ℕ)) (kind : FileKind) (past : Past) (map : Option Asmap) (bytes : List ℕ) → file_of past ≡ Some bytes → HasOneMeaning kind.chain bytes →
    ((st : State) × Opens key kind (Some past) map st) ⊎ (((fault : PeersFault) × RefusesTables kind.chain (Some past) fault) ⊎ LacksKey key (Some past))
by_meaning key kind past map bytes is m =
    elim m.some [
      | inl file ↦ by_duplicate key kind past map file.0 (duplicate file.0) (bytes, is, file.1) refl
      | inr fault ↦ inr (inl (File fault.0, (λ same. m.no_memory (subst (HasFileFault kind.chain bytes) same fault.1), (bytes, is, fault.1))))
    ]

same_refusal : (chain : Chain) (past : Past) (bytes : List ℕ) (f g : PeersFault) → file_of past ≡ Some bytes → HasOneMeaning chain bytes →
    RefusesTables chain (Some past) f → RefusesTables chain (Some past) g → f ≡ g
same_refusal chain past bytes (File f) (File g) is m one two = ap File (m.one_fault f g (has_fault chain past bytes f is one) (has_fault chain past bytes g is two))
same_refusal chain past bytes (File f) (Duplicate j) is m one two = absurd (m.never_both two.0 f (has_snapshot chain past bytes two.0 is two.1) (has_fault chain past bytes f is one))
same_refusal chain past bytes (Duplicate i) (File g) is m one two = absurd (m.never_both one.0 g (has_snapshot chain past bytes one.0 is one.1) (has_fault chain past bytes g is two))
same_refusal chain past bytes (Duplicate i) (Duplicate j) is m one two =
    let same = m.one_snapshot one.0 two.0 (has_snapshot chain past bytes one.0 is one.1) (has_snapshot chain past bytes two.0 is two.1) in
    ap Duplicate (one_of (duplicate two.0) i j (sym (ap duplicate same) ∙ one.2) two.2)

opened_or_refused : (chain : Chain) (past : Past) (bytes : List ℕ) (snap : Snapshot) (f : PeersFault) → file_of past ≡ Some bytes → HasOneMeaning chain bytes →
    IsFile chain bytes snap → duplicate snap ≡ None → RefusesTables chain (Some past) f → ⊥
opened_or_refused chain past bytes snap (File f) is m file once refused = m.never_both snap f file (has_fault chain past bytes f is refused)
opened_or_refused chain past bytes snap (Duplicate i) is m file once refused =
    let same = m.one_snapshot snap refused.0 file (has_snapshot chain past bytes refused.0 is refused.1) in
    none_or_some (duplicate snap) i once (ap duplicate same ∙ refused.2)

with_file : (key : Option (List ℕ)) (kind : FileKind) (past : Past) (map : Option Asmap) (bytes : List ℕ) → file_of past ≡ Some bytes → HasOneMeaning kind.chain bytes → OpensOnce key kind (Some past) map
with_file key kind past map bytes is m = record {
  some = by_meaning key kind past map bytes is m;
  one_state = λ a b one two.
      let first = tables_from key kind past map bytes a is one in
      let second = tables_from key kind past map bytes b is two in
      first.3 ∙ ap (λ (snap : Snapshot). tables_of kind.rule snap map) (m.one_snapshot first.0 second.0 first.1 second.1) ∙ sym second.3;
  one_fault = λ f g one two. same_refusal kind.chain past bytes f g is m one two;
  not_refused = λ a f opens refused.
      let tables = tables_from key kind past map bytes a is opens in
      opened_or_refused kind.chain past bytes tables.0 f is m tables.1 tables.2 refused;
  no_lack = λ a opens lacks. none_or_some (file_of past) bytes lacks.1 is;
  no_file_lacks = λ f refused lacks. none_or_some (file_of past) bytes lacks.1 is;
}

pub opens_once : (key : Option (List ℕ)) (kind : FileKind) (past : Past) (map : Option Asmap) (o : Option (List ℕ)) → file_of past ≡ o → IfSome o (All (λ b. b < 256)) →
    ((bytes : List ℕ) → All (λ b. b < 256) bytes → HasOneMeaning kind.chain bytes) → OpensOnce key kind (Some past) map
opens_once key kind past map None is fits law = without_file key kind past map is
opens_once key kind past map (Some bytes) is fits law = with_file key kind past map bytes is (law bytes fits)

-- ---- the records of a difference

never_refused : (chain : Chain) (past : Past) (f : FileFault) (o : Option (List ℕ)) → file_of past ≡ o → IfSome o (All (λ b. b < 256)) →
    ((bytes : List ℕ) → All (λ b. b < 256) bytes → HasOneMeaning chain bytes) → (snap : Snapshot) → IsSnapshotIn chain (Some past) snap → RefusesPeers chain (Some past) f → ⊥
never_refused chain past f None is fits law snap file refused = none_or_some (file_of past) file.0 is file.1
never_refused chain past f (Some bytes) is fits law snap file refused =
    (law bytes fits).never_both snap f (has_snapshot chain past bytes snap is file) (has_fault chain past bytes f is refused)

pub counted_last : (peers : Option Chain) (past : Past) (fault : PeersFault) → IfSome (file_of past) (All (λ b. b < 256)) →
    ((chain : Chain) (bytes : List ℕ) → All (λ b. b < 256) bytes → HasOneMeaning chain bytes) → HaveTooMany peers (Some past) → RefusesRecords peers (Some past) fault → ⊥
counted_last peers past (Duplicate i) fits law many refused = refused
counted_last None past (File f) fits law many (chain, is, why) = none_or_some None chain refl is
counted_last (Some chain) past (File f) fits law (old, new, maps, more, (records, (snap, file, text))) (other, is, why) =
    let same : chain ≡ other = ap (λ o. unwrap_or o chain) is in
    never_refused chain past f (file_of past) refl fits (law chain) snap file (subst (λ c. RefusesPeers c (Some past) f) (sym same) why)
