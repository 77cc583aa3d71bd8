-- What is held and what is wanted, on devices by a graph and of addresses and routes by gifts, and the calls between.
use Rattle.std.specs.Prelude.{◌≡◌, List, Contains, true, false}
use Rattle.std.specs.FinSet as set
use Rattle.kern_model.specs.declared.object.Object.{Object}
use Rattle.kern_model.specs.declared.object.Call.{Call}
use Rattle.kern_model.specs.declared.object.Call.TheVariants.{Put, Take}
use Rattle.kern_model.specs.declared.kernel.Kernel.{Ghosts as KernelMembers}
use Rattle.kern_model.specs.ObjectOrder.{Objects, Has}
use Rattle.kern_model.specs.Kernel.{Devices, name_of}
use Rattle.kern_model.specs.Allowed.{AreAllowed}
use Rattle.kern_calls.specs.Calls.{calls}
use Rattle.kern_calls.specs.Lower.{is_lower}
use Rattle.graph_rules.specs.State.{devices_in}
use Rattle.graph_rules.specs.Wanted.{want_in}
use Rattle.graph_rules.specs.Calls.{loses_link_in}
use Rattle.graph_laws.specs.Links.{HoldsLinksOfRows}
use Rattle.given_objects.specs.declared.gift.Gift.{Gift}
use Rattle.given_objects.specs.Gifts as gift
use Rattle.given_objects.specs.Gifts.{Gifts, is_given, givers_of, has_place}
use Rattle.given_objects.specs.Changes.{noted}
use Rattle.graph_settle.specs.declared.settling.GraphSettling.{GraphSettling}

-- a graph, the gifts above it, and whether a name may fall that a gift is on
abbrev pub SettlingState : Type 0
SettlingState = GraphSettling

abbrev pub held_of : SettlingState → Objects
held_of c = set.union c.graph.held (gift.held_of c.gifts)

abbrev pub wanted_of : SettlingState → Objects
wanted_of c = set.union (want_in c.graph.known) (gift.given_of c.gifts)

abbrev pub devices_of : SettlingState → Devices
devices_of c = devices_in c.graph.known

-- the calls that lead from what is held to what is wanted
abbrev pub calls_of : SettlingState → List Call
calls_of c = calls (devices_of c) (held_of c) (wanted_of c)

-- Both sides are allowed, and the graph holds neither addresses nor routes. Gifts that are held and given know whether
-- their names fall. Where none of these may fall, each link that the graph holds is one of its rows, and no gift that
-- is held tells that its name loses its link.
pub record IsReady (c : SettlingState) : Type 0 where
  pub held : AreAllowed (devices_of c) (held_of c)
  pub wanted : AreAllowed (devices_of c) (wanted_of c)
  pub lower : (o : Object) → Has c.graph.held o → is_lower o ≡ true
  pub loses_link : (g : Gift) → Contains c.gifts g → g.held ≡ true → is_given g ≡ true
      → g.loses_link ≡ loses_link_in c.graph (name_of g.object)
  pub links : c.may_lose_link ≡ false → HoldsLinksOfRows c.graph
  pub quiet : c.may_lose_link ≡ false → (g : Gift) → Contains c.gifts g → g.held ≡ true → g.loses_link ≡ false

-- what is known of devices and what is wanted, how often each object is given, and which objects have a place are as
-- before
pub record IsAlike (before after : SettlingState) : Type 0 where
  pub known : after.graph.known ≡ before.graph.known
  pub wanted : wanted_of after ≡ wanted_of before
  pub loads : after.graph.loads ≡ before.graph.loads
  pub givers : (o : Object) → givers_of after.gifts o ≡ givers_of before.gifts o
  pub places : (o : Object) → has_place after.gifts o ≡ has_place before.gifts o

-- a call of a gift's object was made: it is held now, or it is not
abbrev pub noted_call : Gifts → Call → Gifts
noted_call gs (Put o) = noted gs o true
noted_call gs (Take o mtu mac) = noted gs o false

-- a kernel has these devices and holds what is held
pub record HoldsAs {K : Type 0} (kernel : KernelMembers K) (state : K) (c : SettlingState) : Type 0 where
  pub devices : kernel.devices state ≡ devices_of c
  pub objects : kernel.objects state ≡ held_of c
