-- names keep few claims
use Rattle.std.proofs.Common.{ℕ, ◌<◌, ◌≤◌, List, length, Option}
use Rattle.std.proofs.lemmas.List.Elements.{All-set, All-get_or}
use Rattle.kern_model.specs.declared.object.Device.{Device}
use Rattle.graph_rules.specs.State.{Named}
use Rattle.graph_rules.specs.After.{name_at, no_name, with_device, with_claims}
use Rattle.graph_counts.specs.Told.{HasFewClaims}

pub few_with_device : (ns : List Named) (id : ℕ) (d : Option Device) → id < length ns → HasFewClaims ns → HasFewClaims (with_device ns id d)
few_with_device ns id d within h = All-set (λ (n : Named). n.claims ≤ 1024) ns id (record (name_at ns id) { device = d }) (All-get_or (λ (n : Named). n.claims ≤ 1024) ns id no_name within h) h

pub few_with_claims : (ns : List Named) (id claims : ℕ) → claims ≤ 1024 → HasFewClaims ns → HasFewClaims (with_claims ns id claims)
few_with_claims ns id claims few h = All-set (λ (n : Named). n.claims ≤ 1024) ns id (record (name_at ns id) { claims = claims }) few h
