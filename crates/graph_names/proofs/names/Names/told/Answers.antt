use Rattle.std.proofs.Common.{sym, ◌∙◌}
use Rattle.graph_names.proofs.NameLemmas.{device_told, claims_told, no_device_told, no_claims_told}
use Rattle.graph_names.proofs.names.Names.told.Goals as goal

pub returns-in-Some-clause-device : goal.returns-in-Some-clause-device
returns-in-Some-clause-device c = c.device.ensures ∙ device_told c.args.self.now c.args.name.now c.in-Some.id (sym c.find.ensures ∙ c.in-Some.is)

pub returns-in-Some-clause-claims : goal.returns-in-Some-clause-claims
returns-in-Some-clause-claims c = c.claims.ensures ∙ claims_told c.args.self.now c.args.name.now c.in-Some.id (sym c.find.ensures ∙ c.in-Some.is)

pub returns-in-None-clause-device : goal.returns-in-None-clause-device
returns-in-None-clause-device c = no_device_told c.args.self.now c.args.name.now (sym c.find.ensures ∙ c.in-None.is)

pub returns-in-None-clause-claims : goal.returns-in-None-clause-claims
returns-in-None-clause-claims c = no_claims_told c.args.self.now c.args.name.now (sym c.find.ensures ∙ c.in-None.is)
