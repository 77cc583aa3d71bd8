use Rattle.std.proofs.Common.{[], ◌∷◌, sym, ◌∙◌}
use Rattle.kern_model.specs.ObjectOrder.{set_of}
use Rattle.kern_model.specs.Kernel.{map_of}
use Rattle.kern_memory.proofs.AdmissionLemmas.{first_found, other_found, none_found, admits_by}
use Rattle.kern_memory.proofs.tables.Tables.admits.Goals as goal

pub returns-in-Some-Some : goal.returns-in-Some-Some
returns-in-Some-Some c =
    let devices = c.args.self.now.devices in
    let name = c.name-name.result in
    let lower = c.lower_of-lower.result in
    let first = c.in-Some-Some.first in
    let rest = (lower, c.in-Some-Some.second) ∷ [] in
    let named = sym c.find.ensures ∙ c.in-Some-Some.is-0 in
    let under = sym c.find-2.ensures ∙ c.in-Some-Some.is-1 in
    admits_by devices (map_of ((name, first) ∷ rest)) _ (set_of c.objects-held.result.now) _ _ _ _ _ c.object-object.ensures c.name-name.ensures c.lower_of-lower.ensures c.objects-held.ensures.objects
    (first_found devices name first rest named)
    (other_found devices name lower first rest named (first_found devices lower c.in-Some-Some.second [] under)) c.admits.ensures

pub returns-in-Some-None : goal.returns-in-Some-None
returns-in-Some-None c =
    let devices = c.args.self.now.devices in
    let name = c.name-name.result in
    let lower = c.lower_of-lower.result in
    let first = c.in-Some-None.first in
    let named = sym c.find.ensures ∙ c.in-Some-None.is-0 in
    let under = sym c.find-2.ensures ∙ c.in-Some-None.is-1 in
    admits_by devices (map_of ((name, first) ∷ [])) _ (set_of c.objects-held.result.now) _ _ _ _ _ c.object-object.ensures c.name-name.ensures c.lower_of-lower.ensures c.objects-held.ensures.objects
    (first_found devices name first [] named)
    (other_found devices name lower first [] named (none_found devices lower under)) c.admits-in-Some-None.ensures

pub returns-in-None-Some : goal.returns-in-None-Some
returns-in-None-Some c =
    let devices = c.args.self.now.devices in
    let name = c.name-name.result in
    let lower = c.lower_of-lower.result in
    let second = c.in-None-Some.second in
    let named = sym c.find.ensures ∙ c.in-None-Some.is-0 in
    let under = sym c.find-2.ensures ∙ c.in-None-Some.is-1 in
    admits_by devices (map_of ((lower, second) ∷ [])) _ (set_of c.objects-held.result.now) _ _ _ _ _ c.object-object.ensures c.name-name.ensures c.lower_of-lower.ensures c.objects-held.ensures.objects
    (other_found devices lower name second [] under (none_found devices name named))
    (first_found devices lower second [] under) c.admits-in-None-Some.ensures

pub returns-in-None-None : goal.returns-in-None-None
returns-in-None-None c =
    let devices = c.args.self.now.devices in
    let named = sym c.find.ensures ∙ c.in-None-None.is-0 in
    let under = sym c.find-2.ensures ∙ c.in-None-None.is-1 in
    admits_by devices (map_of []) _ (set_of c.objects-held.result.now) _ _ _ _ _ c.object-object.ensures c.name-name.ensures c.lower_of-lower.ensures c.objects-held.ensures.objects
    (none_found devices c.name-name.result named)
    (none_found devices c.lower_of-lower.result under) c.admits-in-None-None.ensures
