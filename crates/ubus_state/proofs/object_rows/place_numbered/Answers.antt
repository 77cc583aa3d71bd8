use Rattle.std.proofs.Common.{ℕ, ◌≡◌, List, sym, subst, ◌∙◌}
use Rattle.ubus_table.specs.declared.rows.Object.{Object}
use Rattle.ubus_state.specs.Rising.{object_number}
use Rattle.ubus_state.proofs.PlaceLemmas.{place_at, place_over}
use Rattle.ubus_state.proofs.RisingLemmas.{Parts}
use Rattle.ubus_state.proofs.object_rows.place_numbered.Goals as goal

parted : (rows : List Object) (place wide number : ℕ) → wide ≡ number → Parts object_number wide rows place → Parts object_number number rows place
parted rows place wide number same parts = subst (λ (n : ℕ). Parts object_number n rows place) same parts

pub returns-in-Some-clause-place : goal.returns-in-Some-clause-place
returns-in-Some-clause-place c = c.place_if.ensures ∙ sym (place_at object_number c.args.number c.args.objects.now c.lower_objects-place.result c.in-Some.object c.requires
    (parted c.args.objects.now c.lower_objects-place.result c.from.result c.args.number c.from.ensures c.lower_objects-place.ensures) c.in-Some.ensures.lookup)

pub returns-in-None-clause-place : goal.returns-in-None-clause-place
returns-in-None-clause-place c = sym (place_over object_number c.args.number c.args.objects.now c.lower_objects-place.result
    (parted c.args.objects.now c.lower_objects-place.result c.from.result c.args.number c.from.ensures c.lower_objects-place.ensures) c.in-None.ensures.lookup)
