-- What stays of an interface, and what follows an event that touches some.
use Rattle.std.specs.Prelude.{ℕ, ◌≡◌, List, ◌++◌, map, Bool}
use Rattle.net_rows.specs.declared.rows.InterfaceRow.{InterfaceRow}
use Rattle.net_rules.specs.declared.inputs.Inputs.{Inputs}
use Rattle.net_rules.specs.declared.event.Event.{Event}
use Rattle.net_rules.specs.declared.event.Notice.{Notice}
use Rattle.net_rules.specs.declared.event.Notice.TheVariants as notice
use Rattle.net_rules.specs.Facts.{Facts}
use Rattle.net_rules.specs.RadioPorts.{device_of}
use Rattle.net_rules.specs.Interfaces.{is_claimed, is_up, l3_device_of}
use Rattle.net_rules.specs.Need.{interface_need}
use Rattle.net_rules.specs.Want.{given}
use Rattle.net_rules.specs.Inputs.{facts_of}
use Rattle.net_rules.specs.After.{opened_interfaces, changed, after}
use Rattle.net_rules.specs.Notices.{interface_notice, notices}
use Rattle.net_rules.specs.Touched.{lost_numbers, left_requests, touched_requests, asked_of}

-- an interface is, needs and gives what it did
pub record StaysAs (before now : Facts) (row : InterfaceRow) : Type 0 where
  pub device : device_of now row ≡ device_of before row
  pub l3_device : l3_device_of now row ≡ l3_device_of before row
  pub claimed : is_claimed now row ≡ is_claimed before row
  pub up : is_up now row ≡ is_up before row
  pub need : interface_need now row ≡ interface_need before row
  pub gives : given now row ≡ given before row

-- what is told where the requests of touched interfaces follow their needs: the requests that are lost, then those that
-- are opened
abbrev pub told_of : (List ℕ → Bool) → Inputs → List Notice
told_of touched now =
    map notice.Dropped (lost_numbers (facts_of now) touched now.interfaces)
    ++ map (interface_notice now.conf) (opened_interfaces now.next
    (touched_requests now touched (left_requests (facts_of now) touched now.interfaces)))

-- the requests of touched interfaces alone follow an event, and nothing else is told
pub record FollowTouched (inputs : Inputs) (event : Event) (touched : List ℕ → Bool) : Type 0 where
  pub follow : after inputs event ≡ asked_of touched (changed inputs event)
  pub told : notices inputs event ≡ told_of touched (changed inputs event)
