use Rattle.std.proofs.Common.{◌≡◌, ℕ, List, length, Some, None, Err, sym, ap, subst, ◌∙◌, ◌≤◌}
use Rattle.uci_tree.specs.declared.package.Package.{Package}
use Rattle.uci_tree.specs.declared.package.Section.{Section}
use Rattle.net_rows.specs.declared.rows.Conf.{Conf}
use Rattle.net_rows.specs.declared.rows.InterfaceRow.{InterfaceRow}
use Rattle.net_rows.specs.declared.conf_error.ConfError.TheVariants.{Limit}
use Rattle.net_modern.specs.Rewriting.{modern}
use Rattle.net_devices.specs.declared.devices.TheConstants.{MOST_NAMES}
use Rattle.net_devices.specs.Devices.{all_names, device_conf, IsOverLimit}
use Rattle.net_interfaces.specs.Interfaces.{interface_rows}
use Rattle.net_interfaces.specs.Routes.{route_rows}
use Rattle.net_interfaces.specs.Radios.{radio_rows}
use Rattle.net_conf.specs.Conf.{conf}
use Rattle.net_conf.specs.Limits.{later_limit, passed_limit}
use Rattle.net_conf.proofs.LimitLemmas.{names_over, later, rows_by, are_all}
use Rattle.net_conf.proofs.reading.read_conf.Goals as goal

pub returns-in-Err-clause-limit : goal.returns-in-Err-clause-limit
returns-in-Err-clause-limit c = λ number is.
    let sections_are : c.as_slice-sections.result.now ≡ (modern c.args.network.now).sections = c.as_slice-sections.ensures ∙ ap (λ (z : Package). z.sections) c.in_ok-network.ensures in
    let interfaces_are : c.as_slice.result.now ≡ interface_rows (modern c.args.network.now).sections = c.as_slice.ensures ∙ (c.in_ok-interfaces.ensures ∙ ap interface_rows sections_are) in
    let same : c.in-Err.error ≡ Limit number = cc in
    let passed : IsOverLimit c.in_ok-network.network.sections number = c.in-Err.ensures.limit number (ap Err same) in
    names_over c.args.network.now c.args.wireless.now c.as_slice.result.now number interfaces_are c.if-as_slice-gt-MOST_INTERFACES.false (subst (λ (z : Package). IsOverLimit z.sections number) c.in_ok-network.ensures passed)

pub returns-in-Some-clause-limit : goal.returns-in-Some-clause-limit
returns-in-Some-clause-limit c = λ number is.
    let sections_are : c.as_slice-sections.result.now ≡ (modern c.args.network.now).sections = c.as_slice-sections.ensures ∙ ap (λ (z : Package). z.sections) c.in_ok-network.ensures in
    let interfaces_are : c.in_ok-interfaces.interfaces ≡ interface_rows (modern c.args.network.now).sections = c.in_ok-interfaces.ensures ∙ ap interface_rows sections_are in
    let found_is = c.in-Ok.ensures.rows ∙ ap (λ (z : Package). device_conf z.sections) c.in_ok-network.ensures in
    let routes_are : c.in_ok-routes.routes ≡ route_rows c.in_ok-interfaces.interfaces (modern c.args.network.now).sections = c.in_ok-routes.ensures
    ∙ (ap (λ (z : List InterfaceRow). route_rows z c.as_slice-sections.result.now) c.as_slice-2.ensures ∙ ap (route_rows c.in_ok-interfaces.interfaces) sections_are) in
    let radios_are : c.in_ok-radios.radios ≡ radio_rows c.args.wireless.now.sections = c.in_ok-radios.ensures ∙ ap radio_rows c.as_slice-3.ensures in
    let all : rows_by c.in_ok-interfaces.interfaces c.in-Ok.found c.in_ok-routes.routes c.in_ok-radios.radios ≡ conf c.args.network.now c.args.wireless.now =
    are_all c.args.network.now c.args.wireless.now c.in_ok-interfaces.interfaces c.in-Ok.found c.in_ok-routes.routes c.in_ok-radios.radios interfaces_are found_is routes_are radios_are in
    let few : length (all_names (modern c.args.network.now).sections) ≤ MOST_NAMES = subst (λ (z : Package). length (all_names z.sections) ≤ MOST_NAMES) c.in_ok-network.ensures c.in-Ok.ensures.within in
    let same : c.in-Some.number ≡ number = (let told = c.limit-in-Some.ensures in cc) in
    later c.args.network.now c.args.wireless.now c.as_slice.result.now (c.as_slice.ensures ∙ interfaces_are) c.if-as_slice-gt-MOST_INTERFACES.false few
    ∙ (sym (ap later_limit all) ∙ (sym c.in-Some.ensures ∙ ap (λ (n : ℕ). Some n) same))

pub returns-clause-within : goal.returns-clause-within
returns-clause-within c =
    let sections_are : c.as_slice-sections.result.now ≡ (modern c.args.network.now).sections = c.as_slice-sections.ensures ∙ ap (λ (z : Package). z.sections) c.in_ok-network.ensures in
    let interfaces_are : c.in_ok-interfaces.interfaces ≡ interface_rows (modern c.args.network.now).sections = c.in_ok-interfaces.ensures ∙ ap interface_rows sections_are in
    let found_is = c.in-Ok.ensures.rows ∙ ap (λ (z : Package). device_conf z.sections) c.in_ok-network.ensures in
    let routes_are : c.in_ok-routes.routes ≡ route_rows c.in_ok-interfaces.interfaces (modern c.args.network.now).sections = c.in_ok-routes.ensures
    ∙ (ap (λ (z : List InterfaceRow). route_rows z c.as_slice-sections.result.now) c.as_slice-2.ensures ∙ ap (route_rows c.in_ok-interfaces.interfaces) sections_are) in
    let radios_are : c.in_ok-radios.radios ≡ radio_rows c.args.wireless.now.sections = c.in_ok-radios.ensures ∙ ap radio_rows c.as_slice-3.ensures in
    let all : rows_by c.in_ok-interfaces.interfaces c.in-Ok.found c.in_ok-routes.routes c.in_ok-radios.radios ≡ conf c.args.network.now c.args.wireless.now =
    are_all c.args.network.now c.args.wireless.now c.in_ok-interfaces.interfaces c.in-Ok.found c.in_ok-routes.routes c.in_ok-radios.radios interfaces_are found_is routes_are radios_are in
    let few : length (all_names (modern c.args.network.now).sections) ≤ MOST_NAMES = subst (λ (z : Package). length (all_names z.sections) ≤ MOST_NAMES) c.in_ok-network.ensures c.in-Ok.ensures.within in
    later c.args.network.now c.args.wireless.now c.as_slice.result.now (c.as_slice.ensures ∙ interfaces_are) c.if-as_slice-gt-MOST_INTERFACES.false few
    ∙ (sym (ap later_limit all) ∙ sym c.in-None.ensures)
