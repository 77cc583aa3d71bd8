use Rattle.std.proofs.Common.{List, position, ap, ◌∙◌}
use Rattle.net_devices.specs.declared.said.Said.{Said}
use Rattle.net_devices.specs.Kinds.{owner}
use Rattle.net_devices.specs.Found.{section_at, is_of}
use Rattle.net_devices.proofs.FoundLemmas.{section_found}
use Rattle.net_devices.proofs.said_index.SaidIndex.new.Goals as goal

pub invariant_of-result : goal.invariant_of-result
invariant_of-result c = record {
  sections = λ name. ap (section_at c.args.said) (c.in_ok-places.ensures name ∙ ap (λ (z : List Said). position (is_of name) z) c.as_slice.ensures) ∙ section_found c.args.said name;
  owners = λ port. c.in_ok-owners.ensures port ∙ ap (λ (z : List Said). owner z port) c.as_slice-2.ensures;
}
