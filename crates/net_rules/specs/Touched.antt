-- The requests of interfaces that an event touches; a test tells which these are, by name.
use Rattle.std.specs.Prelude.{ℕ, ◌≡◌, ◌+◌, List, ◌++◌, map, filter, length, Bool, false, not, ◌&&◌, ◌||◌, is_none}
use Rattle.std.specs.List.{filter_map}
use Rattle.net_rows.specs.declared.rows.Conf.{Conf}
use Rattle.net_rows.specs.declared.rows.InterfaceRow.{InterfaceRow}
use Rattle.net_rules.specs.declared.request.InterfaceRequest.{InterfaceRequest}
use Rattle.net_rules.specs.declared.inputs.Inputs.{Inputs}
use Rattle.net_rules.specs.declared.inputs.OpenInterface.{OpenInterface}
use Rattle.net_rules.specs.Facts.{Facts}
use Rattle.net_rules.specs.Rows.{interfaces_of}
use Rattle.net_rules.specs.Inputs.{facts_of, open_interface}
use Rattle.net_rules.specs.Need.{interface_need, same_interface_request}
use Rattle.net_rules.specs.After.{interface_need_of, is_same_need, opened_interfaces}

-- the rows, the open requests with their answers and the next number are the same
pub record HasSameRequests (before now : Inputs) : Type 0 where
  pub conf : now.conf ≡ before.conf
  pub interfaces : now.interfaces ≡ before.interfaces
  pub radios : now.radios ≡ before.radios
  pub next : now.next ≡ before.next

-- the needs of interfaces that are not touched are the same
abbrev pub NeedsStay : Facts → Facts → (List ℕ → Bool) → Type 0
NeedsStay before now touched =
    (name : List ℕ) → touched name ≡ false
    → interface_need_of now name ≡ interface_need_of before name

-- an open request is what its interface needs
abbrev pub is_needed : Facts → OpenInterface → Bool
is_needed now o = is_same_need same_interface_request (interface_need_of now o.request.name) o.request

-- the open requests without those of touched interfaces that are no longer needed
abbrev pub left_requests : Facts → (List ℕ → Bool) → List OpenInterface → List OpenInterface
left_requests now touched requests = filter (λ o. not (touched o.request.name) || is_needed now o) requests

-- the numbers of the requests that are lost
abbrev pub lost_numbers : Facts → (List ℕ → Bool) → List OpenInterface → List ℕ
lost_numbers now touched requests =
    map (λ o. o.number) (filter (λ o. touched o.request.name && not (is_needed now o)) requests)

-- the rows of touched interfaces
abbrev pub touched_rows : Conf → (List ℕ → Bool) → List InterfaceRow
touched_rows conf touched = filter (λ row. touched row.name) (interfaces_of conf)

-- the needs of touched interfaces that have no request, in file order
abbrev pub touched_requests : Inputs → (List ℕ → Bool) → List OpenInterface → List InterfaceRequest
touched_requests inputs touched left =
    filter (λ request. is_none (open_interface left request.name))
    (filter_map (interface_need (facts_of inputs)) (touched_rows inputs.conf touched))

-- the requests of touched interfaces follow their needs
abbrev pub asked_of : (List ℕ → Bool) → Inputs → Inputs
asked_of touched inputs =
    let left = left_requests (facts_of inputs) touched inputs.interfaces in
    let requests = touched_requests inputs touched left in
    record inputs {
      interfaces = left ++ opened_interfaces inputs.next requests;
      next = inputs.next + length requests;
    }
