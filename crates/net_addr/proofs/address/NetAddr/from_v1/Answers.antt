use Rattle.std.proofs.Common.{subst, ◌∙◌, sym}
use Rattle.net_addr.specs.Address.{IsAddress}
use Rattle.net_addr.proofs.Bytes.{All_bytes, IsAddress-from_v1, from_v1-mapped, from_v1-internal, from_v1-ipv6}
use Rattle.net_addr.proofs.address.NetAddr.from_v1.Goals as goal

pub returns-then-starts_with-clause-value : goal.returns-then-starts_with-clause-value
returns-then-starts_with-clause-value c =
    from_v1-mapped c.args.bytes.now c.array_of.result c.told-bytes (sym c.starts_with.ensures.value ∙ c.if-starts_with.true) c.array_of.ensures

pub invariant_of-result : goal.invariant_of-result
invariant_of-result c =
    subst IsAddress (sym (from_v1-mapped c.args.bytes.now c.array_of.result c.told-bytes (sym c.starts_with.ensures.value ∙ c.if-starts_with.true) c.array_of.ensures)) (IsAddress-from_v1 c.args.bytes.now c.told-bytes (All_bytes _ c.fits-bytes))

pub returns-then-starts_with-clause-address : goal.returns-then-starts_with-clause-address
returns-then-starts_with-clause-address c = invariant_of-result c

pub invariant_of-result-then-starts_with-2 : goal.invariant_of-result-then-starts_with-2
invariant_of-result-then-starts_with-2 c =
    subst IsAddress (sym (from_v1-internal c.args.bytes.now c.array_of-then-starts_with-2.result c.told-bytes (sym c.starts_with.ensures.value ∙ c.if-starts_with.false) (sym c.starts_with-2.ensures.value ∙ c.if-starts_with-2.true) c.array_of-then-starts_with-2.ensures)) (IsAddress-from_v1 c.args.bytes.now c.told-bytes (All_bytes _ c.fits-bytes))

pub returns-then-starts_with-2-clause-address : goal.returns-then-starts_with-2-clause-address
returns-then-starts_with-2-clause-address c = invariant_of-result-then-starts_with-2 c

pub invariant_of-result-2 : goal.invariant_of-result-2
invariant_of-result-2 c =
    subst IsAddress (sym (from_v1-ipv6 c.args.bytes.now (sym c.starts_with.ensures.value ∙ c.if-starts_with.false) (sym c.starts_with-2.ensures.value ∙ c.if-starts_with-2.false) (sym c.starts_with-3.ensures.value ∙ c.if-starts_with-3.false))) (IsAddress-from_v1 c.args.bytes.now c.told-bytes (All_bytes _ c.fits-bytes))

pub returns-clause-address : goal.returns-clause-address
returns-clause-address c = invariant_of-result-2 c
