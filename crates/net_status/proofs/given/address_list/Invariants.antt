use Rattle.std.proofs.Common.{◌≡◌, ◌++◌, map, drop}
use Rattle.std.specs.Prelude.{filter}
use Rattle.serde_json.specs.View.{view}
use Rattle.net_status.specs.Given.{is_of_family, address_item}
use Rattle.net_status.proofs.given.address_list.Given as goal

-- the items so far, and those of the others
abbrev pub invariant-loop-cidr : goal.invariant-loop-cidr
invariant-loop-cidr l = map view l.items.items ++ map address_item (filter (λ cidr. is_of_family l.family cidr.0) (drop l.cidr-index l.addresses)) ≡ map address_item (filter (λ cidr. is_of_family l.family cidr.0) l.addresses)
