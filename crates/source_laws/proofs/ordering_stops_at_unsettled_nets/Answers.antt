use Rattle.source_laws.proofs.Order.{exact, first_unsettled}
use Rattle.source_laws.proofs.ordering_stops_at_unsettled_nets.Goals as goal

pub returns : goal.returns
returns c = record { exact = λ file library m order left one o over others. exact file library m one order left o over others; first = λ file library m left ns n are e. first_unsettled file library m left are ns n e }
