use Rattle.std.proofs.Common.{ap, length, ◌∙◌, map}
use Rattle.net_rules.specs.After.{opened_interfaces}
use Rattle.net_rules.specs.Notices.{interface_notice}
use Rattle.asked_places.specs.Losing.{left_at}
use Rattle.asked_places.proofs.TouchedLemmas.{opened_touched}
use Rattle.asked_places.proofs.OpenLemmas.{with_all, opened_all, told_all}
use Rattle.asked_places.proofs.laws.requests_are_opened_by_place.Goals as goal

pub returns-clause-asked : goal.returns-clause-asked
returns-clause-asked c = λ inputs places rising.
    opened_all (left_at inputs places) 0 (length inputs.conf.interfaces) places rising
    ∙ ap (with_all (left_at inputs places)) (opened_touched inputs places rising)

pub returns-clause-told : goal.returns-clause-told
returns-clause-told c = λ inputs places rising.
    told_all (left_at inputs places) 0 (length inputs.conf.interfaces) places rising
    ∙ ap (λ requests. map (interface_notice inputs.conf) (opened_interfaces inputs.next requests)) (opened_touched inputs places rising)
