use Rattle.std.proofs.Common.{◌≡◌, ◌<◌, ◌≤◌, ◌∙◌, ℕ, List, length, ap, subst}
use Rattle.net_devices.specs.declared.devices.TheConstants.{MOST_NAMES}
use Rattle.net_devices.specs.Counted.{all_said}
use Rattle.net_devices.specs.Names.{names}
use Rattle.net_devices.specs.Devices.{all_names}
use Rattle.net_devices.proofs.devices.read_devices.Goals as goal

pub returns-then-as_slice-gt-MOST_NAMES-clause-limit : goal.returns-then-as_slice-gt-MOST_NAMES-clause-limit
returns-then-as_slice-gt-MOST_NAMES-clause-limit c number is =
    let names_are : c.as_slice.result.now ≡ all_names c.args.network.now.sections = c.as_slice.ensures ∙ (c.in_ok-names.ensures ∙ ap names (c.in_ok-said.ensures ∙ (c.in_ok-all_said.ensures ∙ ap all_said c.as_slice-sections.ensures))) in
    record { limit = cc; over = subst (λ (z : List (List ℕ)). MOST_NAMES < length z) names_are c.if-as_slice-gt-MOST_NAMES.true }

pub returns-clause-within : goal.returns-clause-within
returns-clause-within c =
    let names_are : c.as_slice.result.now ≡ all_names c.args.network.now.sections = c.as_slice.ensures ∙ (c.in_ok-names.ensures ∙ ap names (c.in_ok-said.ensures ∙ (c.in_ok-all_said.ensures ∙ ap all_said c.as_slice-sections.ensures))) in
    subst (λ (z : List (List ℕ)). length z ≤ MOST_NAMES) names_are c.if-as_slice-gt-MOST_NAMES.false
