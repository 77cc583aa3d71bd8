use Rattle.std.proofs.Common.{map, drop}
use Rattle.kern_model.specs.declared.object.Object.TheVariants as object
use Rattle.gift_places.proofs.MoreLemmas.{IsLeft}
use Rattle.gift_places.proofs.expecting.expect_addresses.Given as goal

-- places lack for the other addresses
abbrev pub invariant-loop-cidr : goal.invariant-loop-cidr
invariant-loop-cidr l = IsLeft l.initial.gifts l.gifts (map (object.Address l.dev) l.addresses) (map (object.Address l.dev) (drop l.cidr-index l.addresses))
