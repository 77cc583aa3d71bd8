-- The order of the calls between what is held and what is wanted: by kind, then by height over
-- other links, then by the bytes of their lines, then by the calls themselves.
use Rattle.std.specs.Prelude.{ℕ, ◌+◌, ◌-◌, List, [], ◌∷◌, ⊤}
use Rattle.std.specs.Ordering.{nat_cmp, ordering_then}
use Rattle.std.specs.declared.cmp.Ordering.{Ordering}
use Rattle.std.specs.Cmp.Lexicographic.{slice_cmp}
use Rattle.std.specs.FinSet as set
use Rattle.plane_words.specs.InOrder.{ListsInOrder}
use Rattle.kern_model.specs.declared.object.Object.{Object}
use Rattle.kern_model.specs.declared.object.Object.TheVariants as object
use Rattle.kern_model.specs.declared.object.Call.{Call}
use Rattle.kern_model.specs.declared.object.Call.TheVariants.{Put, Take}
use Rattle.kern_model.specs.declared.rank.TheConstants.{LINK_RANK, MTU_RANK, MAC_RANK, MASTER_RANK}
use Rattle.kern_model.specs.declared.rank.TheConstants.{VLAN_RANK, UP_RANK, ADDRESS_RANK, ROUTE_RANK}
use Rattle.kern_model.specs.ObjectOrder.{Objects, call_key}
use Rattle.kern_model.specs.Standing.{height}
use Rattle.kern_model.specs.Kernel.{Devices, after_call}
use Rattle.kern_model.specs.Admission.{Admits}
use Rattle.kern_model.specs.Touched.{is_call}
use Rattle.kern_model.specs.Line.{line_of}

-- the kinds of objects, from what stands below to what stands above
abbrev pub kind_rank : Object → ℕ
kind_rank (object.Link name kind) = LINK_RANK
kind_rank (object.Mtu name mtu) = MTU_RANK
kind_rank (object.Mac name mac) = MAC_RANK
kind_rank (object.Master port bridge) = MASTER_RANK
kind_rank (object.Vlan bridge port id pvid untagged) = VLAN_RANK
kind_rank (object.Up name) = UP_RANK
kind_rank (object.Address dev cidr) = ADDRESS_RANK
kind_rank (object.Route r) = ROUTE_RANK

-- first what stands above is taken, then what stands below is put
abbrev pub rank : Call → ℕ
rank (Take o mtu mac) = ROUTE_RANK - kind_rank o
rank (Put o) = ROUTE_RANK + 1 + kind_rank o

-- the height of the name by which the calls of one kind are ordered: links are made and brought up
-- from below
abbrev pub height_of : Objects → Object → ℕ
height_of objects (object.Link name kind) = height objects name
height_of objects (object.Up name) = height objects name
height_of objects _ = 0

-- the greatest height is taken first, the least is put first
abbrev pub height_place : Objects → Objects → Call → ℕ
height_place held wanted (Take o mtu mac) = set.len held - height_of held o
height_place held wanted (Put o) = height_of wanted o

-- the order of the calls between what is held and what is wanted
abbrev pub call_cmp : Objects → Objects → Call → Call → Ordering
call_cmp held wanted a b =
    ordering_then (nat_cmp (rank a) (rank b))
    (ordering_then (nat_cmp (height_place held wanted a) (height_place held wanted b))
    (ordering_then (slice_cmp nat_cmp (line_of a) (line_of b))
    (slice_cmp nat_cmp (call_key a) (call_key b))))

-- the calls that lead from what is held to what is wanted, in their order
abbrev pub AreCalls : Devices → Objects → Objects → List Call → Type 0
AreCalls devices held wanted calls =
    ListsInOrder (call_cmp held wanted) (is_call devices held wanted) calls

-- the objects after calls
abbrev pub after_calls : Objects → List Call → Objects
after_calls objects [] = objects
after_calls objects (call ∷ calls) = after_calls (after_call objects call) calls

-- each call is admitted in its turn
abbrev pub AreAdmitted : Devices → Objects → List Call → Type 0
AreAdmitted devices objects [] = ⊤
AreAdmitted devices objects (call ∷ calls) =
    Admits devices objects call × AreAdmitted devices (after_call objects call) calls
