use Rattle.source_nets.proofs.CatalogLemmas.{means_model, model_within}
use Rattle.source_nets.proofs.catalog.Catalog.meaning.Goals as goal

pub returns-in-Some-clause-means : goal.returns-in-Some-clause-means
returns-in-Some-clause-means c = λ file library is. means_model file library c.args.self.now is c.args.name.now c.in-Some.place c.in-Some.ensures.place

pub returns-in-Some-clause-within : goal.returns-in-Some-clause-within
returns-in-Some-clause-within c = λ file library is. model_within file library c.args.self.now is c.args.name.now c.in-Some.place c.in-Some.ensures.place
