-- The keys of objects. A kernel holds one object of a key at most.
use Rattle.std.specs.Prelude.{ℕ}
use Rattle.kern_model.specs.declared.object.Object.{Object}
use Rattle.kern_model.specs.declared.object.Object.TheVariants as object
use Rattle.kern_model.specs.declared.object.Call.TheVariants.{Put}
use Rattle.kern_model.specs.Kernel.{name_of}
use Rattle.kern_model.specs.CallOrder.{rank}
use Rattle.graph_objects.specs.declared.key.ObjectKey.{ObjectKey}

-- the id of a VLAN of a bridge
abbrev pub vlan_id : Object → ℕ
vlan_id (object.Vlan bridge port id pvid untagged) = id
vlan_id _ = 0

-- the kind of an object, its name, which is that of the port for a master or a VLAN of a bridge, and
-- the id of such a VLAN
abbrev pub key_of : Object → ObjectKey
key_of o = record { rank = rank (Put o); name = name_of o; id = vlan_id o }
