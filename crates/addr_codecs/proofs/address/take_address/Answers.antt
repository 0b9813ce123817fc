use Rattle.addr_codecs.proofs.Addresses.{long_enough}
use Rattle.addr_codecs.proofs.address.take_address.Goals as goal

pub address-requires-clause-length : goal.address-requires-clause-length
address-requires-clause-length c = long_enough c.network-network.result c.in_ok-id.rest.now c.in_ok-length.length c.in_ok-length.rest.now c.in_ok-part.part.now c.in_ok-part.rest.now c.in_ok-length.ensures c.in_ok-part.ensures
