use Rattle.std.proofs.Common.{◌≡◌, decimal, ◌∷◌, ◌∙◌}
use Rattle.kern_model.proofs.VlanNameLemmas.{no_vlan_without_dot, dot_place, lower_is, behind_is}
use Rattle.kern_model.proofs.vlan_name.is_vlan_name.Goals as goal

pub returns-in_default-clause-no : goal.returns-in_default-clause-no
returns-in_default-clause-no c is = no_vlan_without_dot c.args.name.now c.in_default.ensures is

pub returns-in_default-read_name-clause-no : goal.returns-in_default-read_name-clause-no
returns-in_default-read_name-clause-no c is =
    let place = dot_place c.args.name.now c.in-Some.dot is c.in-Some.ensures.0 c.in-Some.ensures.1 in
    let lower : c.split_at.result.0.now ≡ is.lower = c.split_at.ensures.front ∙ lower_is c.args.name.now c.in-Some.dot is place in
    cc (is.named, c.in_default-read_name.ensures.none)

pub returns-in_default-vlan_id-clause-no : goal.returns-in_default-vlan_id-clause-no
returns-in_default-vlan_id-clause-no c is =
    let place = dot_place c.args.name.now c.in-Some.dot is c.in-Some.ensures.0 c.in-Some.ensures.1 in
    let behind : c.split_at.result.1.now ≡ 46 ∷ decimal is.id = c.split_at.ensures.back ∙ behind_is c.args.name.now c.in-Some.dot is place in
    let digits : c.in-Some-split_first.digits.now ≡ decimal is.id = cc (behind, c.in-Some-split_first.ensures.cases.0) in
    c.in_default-vlan_id.ensures.none is.id is.least is.most digits
