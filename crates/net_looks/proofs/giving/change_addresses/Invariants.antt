use Rattle.std.proofs.Common.{map, drop}
use Rattle.kern_model.specs.declared.object.Object.TheVariants as object
use Rattle.net_looks.proofs.GivingLemmas.{IsLeft}
use Rattle.net_looks.proofs.giving.change_addresses.Given as goal

-- what is left is of the other addresses
abbrev pub invariant-loop-cidr : goal.invariant-loop-cidr
invariant-loop-cidr l = IsLeft l.change l.initial.gifts l.gifts (map (object.Address l.dev) l.addresses) (map (object.Address l.dev) (drop l.cidr-index l.addresses))
