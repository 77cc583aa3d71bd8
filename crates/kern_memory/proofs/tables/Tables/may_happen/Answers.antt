use Rattle.std.proofs.Common.{[], ◌∷◌, sym, ◌∙◌}
use Rattle.kern_model.specs.ObjectOrder.{set_of}
use Rattle.kern_model.specs.Kernel.{map_of}
use Rattle.kern_memory.proofs.AdmissionLemmas.{first_found, none_found, may_by}
use Rattle.kern_memory.proofs.tables.Tables.may_happen.Goals as goal

pub returns-in-Some : goal.returns-in-Some
returns-in-Some c =
    let devices = c.args.self.now.devices in
    let name = c.name_in-name.result in
    let device = c.in-Some.device in
    may_by devices (map_of ((name, device) ∷ [])) _ (set_of c.objects.result.now) _ _ _ c.name_in-name.ensures c.objects.ensures.objects
    (first_found devices name device [] (sym c.find.ensures ∙ c.in-Some.is)) c.may_happen.ensures

pub returns-in-None : goal.returns-in-None
returns-in-None c =
    let devices = c.args.self.now.devices in
    let name = c.name_in-name.result in
    may_by devices (map_of []) _ (set_of c.objects-in-None.result.now) _ _ _ c.name_in-name.ensures c.objects-in-None.ensures.objects
    (none_found devices name (sym c.find.ensures ∙ c.in-None.is)) c.may_happen-in-None.ensures
