-- What a need depends on, and the needs by name.
use Rattle.std.proofs.Common.{ℕ, ◌≡◌, List, Bool, true, false, cond, Option, Some, None, refl, ap, sym, ◌∙◌}
use Rattle.std.specs.Prelude.{◌&&◌, not}
use Rattle.std.specs.List.{filter_map, list_any}
use Rattle.std.specs.Option.{option_and_then}
use Rattle.net_rows.specs.declared.rows.Conf.{Conf}
use Rattle.net_rows.specs.declared.rows.InterfaceRow.{InterfaceRow}
use Rattle.net_rows.specs.declared.rows.RadioRow.{RadioRow}
use Rattle.net_rules.specs.declared.answer.Answer.{Answer}
use Rattle.net_rules.specs.declared.request.InterfaceRequest.{InterfaceRequest}
use Rattle.net_rules.specs.declared.request.RadioRequest.{RadioRequest}
use Rattle.net_rules.specs.Facts.{Facts}
use Rattle.net_rules.specs.Rows.{asks_nothing, interface_named, radio_named, interfaces_of, radios_of}
use Rattle.net_rules.specs.Available.{available, link}
use Rattle.net_rules.specs.Interfaces.{is_ready}
use Rattle.net_rules.specs.Need.{interface_request, interface_need, radio_request, radio_need}
use Rattle.net_rules.specs.After.{interface_need_of, radio_need_of}
use Rattle.net_rules.proofs.TableLemmas.{found_in, found_member}
use Rattle.net_rules.proofs.OnceLemmas.{AreOnce, found_firsts, once_firsts, found_given, once_given}

-- an interface's need reads the answers of no interface
pub same_need : (facts : Facts) (answer : List ℕ → Option Answer) (row : InterfaceRow) → interface_need (record facts { answer = answer }) row ≡ interface_need facts row
unfolding available link
same_need facts answer row = refl

same_need_by : (facts : Facts) (answer : List ℕ → Option Answer) (row : Option InterfaceRow) → option_and_then (interface_need (record facts { answer = answer })) row ≡ option_and_then (interface_need facts) row
same_need_by facts answer None = refl
same_need_by facts answer (Some row) = same_need facts answer row

pub same_need_of : (facts : Facts) (answer : List ℕ → Option Answer) (name : List ℕ) → interface_need_of (record facts { answer = answer }) name ≡ interface_need_of facts name
same_need_of facts answer name = same_need_by facts answer (interface_named facts.conf name)

-- a need has the name of its row
interface_request_named : (facts : Facts) (row : InterfaceRow) (b : Bool) (request : InterfaceRequest) → cond b (Some (interface_request facts row)) None ≡ Some request → request.name ≡ row.name
interface_request_named facts row true request h = let same : interface_request facts row ≡ request = cc h in ap (λ a. a.name) (sym same)
interface_request_named facts row false request h = cc h

pub interface_named_as : (facts : Facts) (row : InterfaceRow) (request : InterfaceRequest) → interface_need facts row ≡ Some request → request.name ≡ row.name
interface_named_as facts row request h = interface_request_named facts row (is_ready facts row && not (asks_nothing row.proto)) request h

radio_request_named : (row : RadioRow) (b : Bool) (request : RadioRequest) → cond b (Some (radio_request row)) None ≡ Some request → request.name ≡ row.name
radio_request_named row true request h = let same : radio_request row ≡ request = cc h in ap (λ a. a.name) (sym same)
radio_request_named row false request h = cc h

pub radio_named_as : (row : RadioRow) (request : RadioRequest) → radio_need row ≡ Some request → request.name ≡ row.name
radio_named_as row request h = radio_request_named row (not row.disabled && list_any (λ r. not r.disabled) row.rows) request h

named_by_interface : (facts : Facts) (name : List ℕ) (row : Option InterfaceRow) → interface_named facts.conf name ≡ row → (request : InterfaceRequest) → option_and_then (interface_need facts) row ≡ Some request → request.name ≡ name
named_by_interface facts name None is request h = cc h
named_by_interface facts name (Some row) is request h = interface_named_as facts row request h ∙ (found_member (λ r. r.name) facts.conf.interfaces name row is).same

pub interface_need_named : (facts : Facts) (name : List ℕ) (request : InterfaceRequest) → interface_need_of facts name ≡ Some request → request.name ≡ name
interface_need_named facts name request h = named_by_interface facts name (interface_named facts.conf name) refl request h

named_by_radio : (conf : Conf) (name : List ℕ) (row : Option RadioRow) → radio_named conf name ≡ row → (request : RadioRequest) → option_and_then radio_need row ≡ Some request → request.name ≡ name
named_by_radio conf name None is request h = cc h
named_by_radio conf name (Some row) is request h = radio_named_as row request h ∙ (found_member (λ r. r.name) conf.radios name row is).same

pub radio_need_named : (conf : Conf) (name : List ℕ) (request : RadioRequest) → radio_need_of conf name ≡ Some request → request.name ≡ name
radio_need_named conf name request h = named_by_radio conf name (radio_named conf name) refl request h

-- the listed needs are those by name
pub interface_needs_found : (facts : Facts) (name : List ℕ) → found_in (λ a. a.name) (filter_map (interface_need facts) (interfaces_of facts.conf)) name ≡ interface_need_of facts name
interface_needs_found facts name =
    found_given (λ r. r.name) (λ a. a.name) (interface_need facts) (interface_named_as facts) (interfaces_of facts.conf) (once_firsts (λ r. r.name) facts.conf.interfaces) name
    ∙ ap (option_and_then (interface_need facts)) (found_firsts (λ r. r.name) facts.conf.interfaces name)

pub interface_needs_once : (facts : Facts) → AreOnce (λ a. a.name) (filter_map (interface_need facts) (interfaces_of facts.conf))
interface_needs_once facts = once_given (λ r. r.name) (λ a. a.name) (interface_need facts) (interface_named_as facts) (interfaces_of facts.conf) (once_firsts (λ r. r.name) facts.conf.interfaces)

pub radio_needs_found : (conf : Conf) (name : List ℕ) → found_in (λ a. a.name) (filter_map radio_need (radios_of conf)) name ≡ radio_need_of conf name
radio_needs_found conf name =
    found_given (λ r. r.name) (λ a. a.name) radio_need radio_named_as (radios_of conf) (once_firsts (λ r. r.name) conf.radios) name
    ∙ ap (option_and_then radio_need) (found_firsts (λ r. r.name) conf.radios name)

pub radio_needs_once : (conf : Conf) → AreOnce (λ a. a.name) (filter_map radio_need (radios_of conf))
radio_needs_once conf = once_given (λ r. r.name) (λ a. a.name) radio_need radio_named_as (radios_of conf) (once_firsts (λ r. r.name) conf.radios)
