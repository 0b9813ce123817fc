-- What is written of anchors is the file of them.
use Rattle.std.proofs.Common.{◌≡◌, ℕ, suc, ◌+◌, ◌<◌, ◌≤◌, ◌^◌, Bool, true, List, [], ◌∷◌, ◌++◌, length, get_or, take, Some, All, refl, sym, ap, subst, ◌∙◌, append_assoc, arith}
use Rattle.std.specs.List.{flat_map}
use Rattle.std.specs.Int.{w16, w32, to_le_bytes, to_be_bytes}
use Rattle.std.proofs.lemmas.Bool.{le-leb}
use Rattle.std.proofs.lemmas.List.{append-nil, take_more, take_all, flat_map_more}
use Rattle.std.proofs.lemmas.List.Elements.{All-head, All-more, All-tail}
use Rattle.net_addr.specs.Address.{Address, IsAddress}
use Rattle.net_addr.specs.declared.peer.Entry.{Entry}
use Rattle.wire_num.specs.CompactSize.{compact_size}
use Rattle.wire_num.specs.Format.{Format, sequence, value, check, times, map_fault}
use Rattle.wire_num.specs.Fields.{le, be, compact}
use Rattle.wire_num.proofs.WritingLaws.{spells-then, spells-value, spells-check, spells-map_fault, spells-number, spells-compact}
use Rattle.addr_codecs.specs.Entries.{IsEntry}
use Rattle.addr_codecs.specs.Layout.{addrv2_address}
use Rattle.addr_codecs.specs.Texts.{address_text}
use Rattle.addr_codecs.proofs.AddressLaws.{spells-address}
use Rattle.anchors.specs.Faults.{of_address, of_count, of_number}
use Rattle.anchors.specs.Layout.{layout_field, anchor_format, count_field, body}
use Rattle.anchors.specs.Texts.{anchor_text, body_text}
use Rattle.anchors.specs.declared.fault.AnchorsFault.{AnchorsFault}

-- the bytes spell the value
pub record Spells {F A : Type 0} (p : Format F A) (bytes : List ℕ) (a : A) : Type 0 where
  pub is : p.spells bytes a

both : {F A B : Type 0} {p : Format F A} (q : A → Format F B) {x y : List ℕ} {a : A} {b : B} → Spells p x a → Spells (q a) y b → Spells (sequence p q) (x ++ y) b
both {p = p} q {x = x} {y = y} {a = a} {b = b} one two = record { is = spells-then p q x y a b one.is two.is }

of_nothing : {A : Type 0} (a : A) → Spells (value {F = AnchorsFault} a) [] a
of_nothing a = record { is = spells-value AnchorsFault a }

of_test : {A : Type 0} (passes : Bool) (fault : AnchorsFault) (a : A) → passes ≡ true → Spells (check passes fault a) [] a
of_test passes fault a h = record { is = spells-check passes fault a h }

of_le32 : (i n : ℕ) → n < 2 ^ 32 → Spells (map_fault (of_number i) (le w32)) (to_le_bytes w32 n) n
of_le32 i n h = record { is = spells-number (of_number i) w32 (to_le_bytes w32) n h }

of_port : (i n : ℕ) → n < 2 ^ 16 → Spells (map_fault (of_number i) (be w16)) (to_be_bytes w16 n) n
of_port i n h = record { is = spells-number (of_number i) w16 (to_be_bytes w16) n h }

of_services : (i n : ℕ) → n < 2 ^ 64 → Spells (map_fault (of_number i) compact) (compact_size n) n
of_services i n h = record { is = spells-compact (of_number i) n h }

of_addr : (i : ℕ) (a : Address) → IsAddress a → Spells (map_fault (of_address i) addrv2_address) (address_text a) (Some a)
of_addr i a is = record { is = spells-map_fault (of_address i) addrv2_address (address_text a) (Some a) (spells-address a is) }

of_layout : (i : ℕ) → Spells (layout_field i) (to_le_bytes w32 0x20035b60) 0x20035b60
unfolding layout_field
of_layout i = both _ (of_le32 i 0x20035b60 (omega arith)) (of_test _ _ _ refl)

regrouped : (a b c d e : List ℕ) → a ++ (b ++ (c ++ (d ++ (e ++ [])))) ≡ (a ++ b) ++ (c ++ (d ++ e))
regrouped a b c d e = simp (append_assoc, append-nil)

of_anchor : (i : ℕ) (e : Entry) → IsEntry e → Spells (anchor_format i) (anchor_text e) e
unfolding anchor_format anchor_text
of_anchor i e is =
    subst (λ t. Spells (anchor_format i) t e) (regrouped (to_le_bytes w32 0x20035b60) (to_le_bytes w32 e.time) (compact_size e.services) (address_text e.peer.addr) (to_be_bytes w16 e.peer.port))
    (both _ (of_layout i) (both _ (of_le32 i e.time is.time) (both _ (of_services i e.services is.services) (both _ (of_addr i e.peer.addr is.addr)
    (both _ (of_port i e.peer.port is.port) (of_nothing e))))))

of_anchors : (i : ℕ) (es : List Entry) → All IsEntry es → Spells (times i (length es) anchor_format) (flat_map anchor_text es) es
unfolding times
of_anchors i [] all = of_nothing []
of_anchors i (e ∷ es) all =
    let rest = of_anchors (i + 1) es (All-tail IsEntry e es all) in
    subst (λ t. Spells (times i (suc (length es)) anchor_format) (anchor_text e ++ t) (e ∷ es)) (append-nil (flat_map anchor_text es))
    (both _ (of_anchor i e (All-head IsEntry e es all)) (both _ rest (of_nothing (e ∷ es))))

of_count_field : (n : ℕ) → n ≤ 1000 → Spells count_field (compact_size n) n
unfolding count_field
of_count_field n few =
    subst (λ t. Spells count_field t n) (append-nil (compact_size n))
    (both _ (record { is = spells-compact of_count n (omega arith) }) (of_test _ _ _ (le-leb n 1000 few)))

-- what is written between the magic and the sum
pub of_body : (es : List Entry) → length es ≤ 1000 → All IsEntry es → Spells body (body_text es) es
unfolding body body_text
of_body es few all = both _ (of_count_field (length es) few) (of_anchors 0 es all)

-- ---- appending the parts one after another

pub one_more : (head : List ℕ) (es : List Entry) (i : ℕ) (e : Entry) (old new : List ℕ) → i < length es → e ≡ get_or es i e → old ≡ head ++ flat_map anchor_text (take i es) → new ≡ old ++ anchor_text e
    → new ≡ head ++ flat_map anchor_text (take (i + 1) es)
one_more head es i e old new lt is so_far more =
    let taken : take (i + 1) es ≡ take i es ++ e ∷ [] = take_more es i e lt ∙ ap (λ (x : Entry). take i es ++ x ∷ []) (sym is) in
    more ∙ ap (λ (t : List ℕ). t ++ anchor_text e) so_far ∙ flat_map_more anchor_text head (take i es) e ∙ ap (λ (xs : List Entry). head ++ flat_map anchor_text xs) (sym taken)

pub one_more_fits : (es : List Entry) (i : ℕ) (e : Entry) → i < length es → e ≡ get_or es i e → All IsEntry (take i es) → IsEntry e → All IsEntry (take (i + 1) es)
one_more_fits es i e lt is so_far h = All-more IsEntry es i e lt so_far (subst IsEntry is h)

pub all_written : (old : List ℕ) (es : List Entry) (i : ℕ) (mid out : List ℕ) → length es ≤ i → mid ≡ old ++ compact_size (length es) → out ≡ mid ++ flat_map anchor_text (take i es) → out ≡ old ++ body_text es
unfolding body_text
all_written old es i mid out le counted so_far =
    so_far ∙ ap (λ (xs : List Entry). mid ++ flat_map anchor_text xs) (take_all i es le) ∙ ap (λ (t : List ℕ). t ++ flat_map anchor_text es) counted ∙ append_assoc old (compact_size (length es)) (flat_map anchor_text es)

pub all_fit : (es : List Entry) (i : ℕ) → length es ≤ i → All IsEntry (take i es) → All IsEntry es
all_fit es i le h = subst (λ (xs : List Entry). All IsEntry xs) (take_all i es le) h
