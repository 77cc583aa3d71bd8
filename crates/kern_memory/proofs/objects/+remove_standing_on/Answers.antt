use Rattle.std.proofs.Common.{◌≡◌, position, Some, None, ap, ap₂, sym, ◌∙◌}
use Rattle.std.specs.FinSet as set
use Rattle.std.proofs.lemmas.Option.{get_or_from_slice_get}
use Rattle.kern_model.specs.AdmissionTest.{is_vlan_over}
use Rattle.kern_model.specs.ObjectOrder.{Objects, set_of}
use Rattle.kern_model.specs.Standing.{gone}
use Rattle.kern_model.proofs.SetLemmas.{set_of_member, member_of_set}
use Rattle.kern_memory.proofs.ObjectLemmas.{without_object}
use Rattle.kern_memory.proofs.PlaceLemmas.{not_found, found_at}
use Rattle.kern_memory.proofs.GoneLemmas.{without_one, without_vlans}
use Rattle.kern_memory.proofs.objects.+remove_standing_on.Goals as goal

pub returns-in_default-clause-left : goal.returns-in_default-clause-left
returns-in_default-clause-left t c =
    let ks = c.args.objects.now.keys in
    let name = c.args.name.now in
    let none : position (is_vlan_over name) ks ≡ None = sym c.find_vlan_over.ensures ∙ c.in_default.is in
    c.remove_at.ensures.items
    ∙ without_vlans (set_of ks) name (λ o h passes. not_found (is_vlan_over name) ks none o (member_of_set ks o h) passes)

pub returns-clause-left : goal.returns-clause-left
returns-clause-left t c =
    let ks = c.args.objects.now.keys in
    let fs = c.swap_remove_index.new.self.keys in
    let name = c.args.name.now in
    let i = c.in-Some.index in
    let vlan = c.in-Some-swap_remove_index.vlan in
    let at : position (is_vlan_over name) ks ≡ Some i = sym c.find_vlan_over.ensures ∙ c.in-Some.is in
    let found = found_at (is_vlan_over name) ks i at in
    let is = get_or_from_slice_get ks i vlan vlan (sym c.in-Some-swap_remove_index.ensures.key) in
    let passes = ap (is_vlan_over name) (sym is) ∙ found.passes vlan in
    let held = set_of_member ks vlan (i, found.inside, is) in
    let rest : set_of fs ≡ set.remove (set_of ks) vlan = without_object ks fs vlan c.in-Some-swap_remove_index.ensures.updates.0 in
    c.remove_standing_on-2.ensures.left
    ∙ ap (λ (s : Objects). gone s name) (c.remove_standing_on.ensures.left ∙ ap₂ gone rest c.name.ensures)
    ∙ without_one (set_of ks) vlan name held passes
