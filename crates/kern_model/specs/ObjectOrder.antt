-- An order of objects and of calls that tells all of them apart, so that sets of them can be
-- written as values.
use Rattle.std.specs.Prelude.{ℕ, ◌≡◌, List, [], ◌∷◌, ◌++◌, length, Option, Some, None, Bool, true, false}
use Rattle.std.specs.Ordering.{nat_cmp}
use Rattle.std.specs.declared.cmp.Ordering.{Ordering}
use Rattle.std.specs.Cmp.Lexicographic.{slice_cmp}
use Rattle.std.specs.FinSet as set
use Rattle.net_addr.specs.declared.address.Addr.{Addr}
use Rattle.net_addr.specs.declared.address.Addr.TheVariants as family
use Rattle.kern_model.specs.declared.object.Mac.{Mac}
use Rattle.kern_model.specs.declared.object.LinkKind.{LinkKind}
use Rattle.kern_model.specs.declared.object.LinkKind.TheVariants.{Bridge, Vlan}
use Rattle.kern_model.specs.declared.object.Object.{Object}
use Rattle.kern_model.specs.declared.object.Object.TheVariants as object
use Rattle.kern_model.specs.declared.object.Call.{Call}
use Rattle.kern_model.specs.declared.object.Call.TheVariants.{Put, Take}

-- a list after its length, and what follows it
abbrev pub sized : List ℕ → List ℕ → List ℕ
sized xs rest = length xs ∷ (xs ++ rest)

-- the numbers of an address, and what follows them
abbrev pub addr_key : Addr → List ℕ → List ℕ
addr_key (family.V4 a) rest = 4 ∷ sized a.0 rest
addr_key (family.V6 a) rest = 6 ∷ sized a.0 rest

abbrev pub cidr_key : Addr × ℕ → List ℕ → List ℕ
cidr_key c rest = c.1 ∷ addr_key c.0 rest

abbrev pub via_key : Option Addr → List ℕ → List ℕ
via_key None rest = 0 ∷ rest
via_key (Some a) rest = 1 ∷ addr_key a rest

abbrev pub mac_key : Option Mac → List ℕ
mac_key None = 0 ∷ []
mac_key (Some m) = 1 ∷ sized m.0 []

abbrev pub bool_key : Bool → ℕ
bool_key false = 0
bool_key true = 1

abbrev pub kind_key : LinkKind → List ℕ
kind_key (Bridge mac filtering) = 0 ∷ bool_key filtering ∷ mac_key mac
kind_key (Vlan lower id mac) = 1 ∷ sized lower (id ∷ mac_key mac)

-- numbers that tell an object from every other
abbrev pub object_key : Object → List ℕ
object_key (object.Link name kind) = 0 ∷ sized name (kind_key kind)
object_key (object.Mtu name mtu) = 1 ∷ mtu ∷ sized name []
object_key (object.Mac name mac) = 2 ∷ sized mac.0 (sized name [])
object_key (object.Master port bridge) = 3 ∷ sized port (sized bridge [])
object_key (object.Vlan bridge port id pvid untagged) =
    4 ∷ id ∷ bool_key pvid ∷ bool_key untagged ∷ sized port (sized bridge [])
object_key (object.Up name) = 5 ∷ sized name []
object_key (object.Address dev cidr) = 6 ∷ cidr_key cidr (sized dev [])
object_key (object.Route r) =
    7 ∷ r.metric ∷ r.table ∷ cidr_key r.target (via_key r.via (sized r.dev []))

-- numbers that tell a call from every other
abbrev pub call_key : Call → List ℕ
call_key (Put o) = 0 ∷ object_key o
call_key (Take o mtu mac) = 1 ∷ mtu ∷ sized mac.0 (object_key o)

abbrev pub object_cmp : Object → Object → Ordering
object_cmp a b = slice_cmp nat_cmp (object_key a) (object_key b)

-- a finite set of objects
abbrev pub Objects : Type 0
Objects = set.FinSet object_cmp

-- a set has an object
abbrev pub Has : Objects → Object → Type 0
Has objects o = set.contains objects o ≡ true

-- the set of the objects of a list
abbrev pub set_of : List Object → Objects
set_of objects = set.from_list objects
