-- A text is the name of one address at most.
use Rattle.std.proofs.Common.{◌≡◌, ℕ, List, ◌++◌, codes, length, map, refl, replicate, take, ◌-◌, sym, ap, ◌∙◌, arith}
use Rattle.std.specs.Char.{to_ascii_lowercase}
use Rattle.std.specs.Int.{w128, to_be_bytes}
use Rattle.std.proofs.Math.Seq.{take-append_seam}
use Rattle.std.proofs.lemmas.List.{length-append, length-replicate}
use Rattle.net_addr.specs.Address.{Address}
use Rattle.net_addr.specs.OldForm.{from_v1}
use Rattle.net_addr.specs.Text.IsAddrText.{dotted as dotted_addr, bracketed}
use Rattle.net_addr.specs.declared.net.Net.{Net}
use Rattle.net_addr.proofs.OneReading.{one_address}
use Rattle.names.specs.Name.{HasLetters, IsColonText, IsLettered, IsName, flipped}
use Rattle.names.specs.Name.IsName.{dotted, colons, lettered}
use Rattle.names.proofs.Forms.{colons_apart, dotted_apart, dotted_dots, letters_only}
use Rattle.names.proofs.Letters.{few_letters, letters_address}

one_colons : (text : List ℕ) (a b : Address) → IsColonText text a → IsColonText text b → a ≡ b
one_colons text a b h k =
    let first = from_v1 (to_be_bytes w128 h.bits) in
    let second = from_v1 (to_be_bytes w128 k.bits) in
    let same = one_address (codes "[" ++ text ++ codes "]") first second
    (bracketed (record { inner = text; bits = h.bits; spelled = refl; bits_text = h.bits_text; address = refl }))
    (bracketed (record { inner = text; bits = k.bits; spelled = refl; bits_text = k.bits_text; address = refl })) in
    h.address ∙ ap flipped same ∙ sym k.address

one_letters : (net : Net) (L : List ℕ) (a b : Address) → IsLettered net → HasLetters net L a → HasLetters net L b → a ≡ b
one_letters net L a b l h k =
    let zeros : List ℕ = replicate (64 - length L) 0 in
    let few = few_letters net a L l h in
    let whole : length (L ++ zeros) ≡ 64 = omega (arith, length-append L zeros, length-replicate {A = ℕ} (64 - length L) 0, few) in
    let seam : take (length L) (L ++ zeros) ≡ L = take-append_seam L zeros in
    sym (letters_address net a L (L ++ zeros) _ (length L) l h seam few whole refl)
    ∙ letters_address net b L (L ++ zeros) _ (length L) l k seam few whole refl

pub one_name : (text : List ℕ) (a b : Address) → IsName text a → IsName text b → a ≡ b
one_name text a b (dotted h) (dotted k) = one_address text a b (dotted_addr h) (dotted_addr k)
one_name text a b (dotted h) (colons k) = absurd (dotted_dots text a b h k)
one_name text a b (dotted h) (lettered net l k) = absurd (dotted_apart net text k.stem k.end a l k.spelled k.suffix h)
one_name text a b (colons h) (dotted k) = absurd (dotted_dots text b a k h)
one_name text a b (colons h) (colons k) = one_colons text a b h k
one_name text a b (colons h) (lettered net l k) = absurd (colons_apart net text k.stem k.end a l k.spelled k.suffix h)
one_name text a b (lettered net l h) k =
    one_letters net (map to_ascii_lowercase h.stem) a b l h.stem_letters (letters_only net text h.stem h.end b l h.spelled h.suffix k)
