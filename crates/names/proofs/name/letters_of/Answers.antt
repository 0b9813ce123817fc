use Rattle.std.proofs.Common.{◌∷◌, [], ◌++◌, ap, sym, ◌∙◌}
use Rattle.names.specs.Base32.{base32}
use Rattle.names.specs.Name.{checksum}
use Rattle.names.proofs.Letters.{encoded_onion}
use Rattle.names.proofs.name.letters_of.Goals as goal

pub returns-in-Onion-clause-letters : goal.returns-in-Onion-clause-letters
returns-in-Onion-clause-letters c =
    let bytes = c.bytes-bytes.ensures.value in
    c.encode.ensures ∙ ap base32 (c.as_slice.ensures.value ∙ c.with_checksum.ensures ∙ ap (λ k. k ++ checksum k ++ 3 ∷ []) bytes ∙ sym (encoded_onion c.args.addr.now.net c.args.addr.now.bytes (sym c.net.ensures ∙ c.in-Onion.is)))
