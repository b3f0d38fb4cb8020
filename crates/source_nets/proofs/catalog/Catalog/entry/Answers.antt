use Rattle.source_nets.proofs.CatalogLemmas.{means_table, means_linear, means_nothing, table_within, linear_within}
use Rattle.source_nets.proofs.catalog.Catalog.entry.Goals as goal

pub returns-in-Some-clause-means : goal.returns-in-Some-clause-means
returns-in-Some-clause-means c = λ file library is. means_table file library c.args.self.now is c.args.name.now c.in-Some.place c.requires c.in-Some.ensures.place

pub returns-in-Some-clause-within : goal.returns-in-Some-clause-within
returns-in-Some-clause-within c = λ file library is. table_within file library c.args.self.now is c.args.name.now c.in-Some.place c.in-Some.ensures.place

pub returns-in-Some-find-clause-means : goal.returns-in-Some-find-clause-means
returns-in-Some-find-clause-means c = λ file library is.
    means_linear file library c.args.self.now is c.args.name.now c.in-Some-find.place c.requires c.in-None.ensures.absent c.in-Some-find.ensures.place

pub returns-in-Some-find-clause-within : goal.returns-in-Some-find-clause-within
returns-in-Some-find-clause-within c = λ file library is. linear_within file library c.args.self.now is c.args.name.now c.in-Some-find.place c.in-Some-find.ensures.place

pub returns-in-None-find-clause-means : goal.returns-in-None-find-clause-means
returns-in-None-find-clause-means c = λ file library is.
    means_nothing file library c.args.self.now is c.args.name.now c.requires c.in-None.ensures.absent c.in-None-find.ensures.absent
