use Rattle.std.proofs.Common.{◌≡◌, ◌++◌, length, ap, sym, ◌∙◌}
use Rattle.bit_code.specs.Coder.{file_bits, low_digits}
use Rattle.bit_code.proofs.FileEnds.{written_over}
use Rattle.bit_code.proofs.bit_front.BitFront.into_bytes.Goals as goal

pub returns : goal.returns
returns c =
    let o = c.self.inside in
    let e : file_bits c.shift_in-rest.new.bytes ++ low_digits o.rest_len c.shift_in-rest.result ≡ c.args.self = c.shift_in-rest.ensures.bits ∙ ap (λ xs. low_digits o.rest_len o.rest ++ file_bits xs) (c.deref_mut.ensures.value ∙ c.reverse.ensures.items) ∙ c.self.view_is in
    let bytes = written_over c.reverse.new.self.len c.shift_in-rest.new.bytes c.reverse.new.self.items (c.shift_in-rest.auto.bytes ∙ c.deref_mut.ensures.len) (sym (ap length c.deref_mut.ensures.value) ∙ c.deref_mut.ensures.len) in
    c.closed.ensures c.args.self (rw bytes e)
