use Rattle.std.proofs.Common.{None}
use Rattle.encode_state.proofs.PlaceLemmas.{absent_net, place_at}
use Rattle.encode_state.proofs.places.place_of.Goals as goal

pub returns-in-None : goal.returns-in-None
returns-in-None c = λ nets are. absent_net c.args.names.now nets c.args.name.now are.known c.in-None.ensures.absent
