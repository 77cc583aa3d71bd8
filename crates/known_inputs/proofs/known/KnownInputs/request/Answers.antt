use Rattle.std.proofs.Common.{slice_get, ap, sym, ◌∙◌}
use Rattle.known_inputs.specs.Steps.{has_number}
use Rattle.known_inputs.proofs.PlaceLemmas.{none_found, only_found}
use Rattle.known_inputs.proofs.known.KnownInputs.request.Goals as goal

pub returns-in-Some : goal.returns-in-Some
returns-in-Some c =
    c.request_at.ensures
    ∙ ap (λ os. slice_get os c.in-Some.place) (c.deref.ensures.value ∙ ap (λ known. known.inputs.interfaces) c.self.view_is)
    ∙ sym (only_found (has_number c.args.number) c.args.self.now.inputs.interfaces c.in-Some.place c.in-Some.ensures.found)

pub returns-in-None : goal.returns-in-None
returns-in-None c = sym (none_found (has_number c.args.number) c.args.self.now.inputs.interfaces c.in-None.ensures.none)
