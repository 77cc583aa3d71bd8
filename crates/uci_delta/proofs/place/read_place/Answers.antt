use Rattle.uci_delta.proofs.PlaceLemmas.{not_text, parsed_place, unparsed_place}
use Rattle.uci_delta.proofs.place.read_place.Goals as goal

pub returns-in_default : goal.returns-in_default
returns-in_default c = not_text _ c.in_default.ensures.cases.0

pub returns-in_default-parse : goal.returns-in_default-parse
returns-in_default-parse c = unparsed_place _ _ c.parse.result _ _ c.in-Ok.ensures.cases.0 c.parse.ensures.value.0 c.starts_with.ensures.value c.if-starts_with.false c.in_default-parse.is

pub returns : goal.returns
returns c = parsed_place _ _ c.parse.result _ _ c.in-Ok.ensures.cases.0 c.parse.ensures.value.0 c.starts_with.ensures.value c.if-starts_with.false c.in-Ok-parse.is
