-- Without rows nothing is wanted, and all that is held is due.
use Rattle.std.proofs.Common.{ℕ, ◌≡◌, ◌+◌, List, [], Option, refl, ap, sym, subst, ◌∙◌, arith}
use Rattle.std.specs.Prelude.{not}
use Rattle.std.specs.FinSet as set
use Rattle.kern_model.specs.declared.object.Object.{Object}
use Rattle.kern_model.specs.ObjectOrder.{Objects, object_cmp, set_of}
use Rattle.kern_model.proofs.OrderLemmas.{objects_total}
use Rattle.kern_model.proofs.SetLemmas.{same_members, none_in_empty}
use Rattle.kern_model.proofs.TestLemmas.{both, of_both, of_not}
use Rattle.kern_calls.specs.Due.{due_count}
use Rattle.net_conf.specs.Conf.{conf}
use Rattle.net_rows.specs.declared.rows.Conf.{Conf}
use Rattle.net_rules.specs.declared.inputs.Inputs.{Inputs}
use Rattle.net_rules.specs.declared.event.Event.TheVariants as event
use Rattle.net_rules.specs.Facts.{Facts}
use Rattle.net_rules.specs.Inputs.{facts_of, no_conf}
use Rattle.net_rules.specs.After.{after}
use Rattle.net_rules.specs.Want.{wanted_list, want}
use Rattle.net_rules.specs.Moment.{want_of}
use Rattle.net_rules.proofs.MomentLemmas.{conf_follows}
use Rattle.net_gen.specs.Packages.{no_package}

no_rows : conf no_package no_package ≡ no_conf
no_rows = refl

abbrev without_rows : Facts → Facts
without_rows facts = record facts { conf = no_conf }

list_without_rows : (facts : Facts) → wanted_list (without_rows facts) ≡ []
list_without_rows facts = refl

want_without_rows : (facts : Facts) → want (without_rows facts) ≡ set.empty
unfolding want
want_without_rows facts = ap set_of (list_without_rows facts)

pub nothing_wanted : (inputs : Inputs) → inputs.conf ≡ no_conf → want_of inputs ≡ set.empty
nothing_wanted inputs none =
    ap (λ (c : Conf). want (record (facts_of inputs) { conf = c })) none
    ∙ want_without_rows (facts_of inputs)

pub loaded_wants_nothing : (inputs : Inputs)
    → want_of (after inputs (event.Load (conf no_package no_package))) ≡ set.empty
loaded_wants_nothing inputs =
    nothing_wanted (after inputs (event.Load (conf no_package no_package)))
    (conf_follows inputs (event.Load (conf no_package no_package)) ∙ no_rows)

-- all that is held is due where nothing is wanted
beyond_nothing : (held : Objects) → set.difference held set.empty ≡ held
beyond_nothing held = same_members (set.difference held set.empty) held
    (λ o h.
    let parts = both (set.contains held o) _ (sym (set.contains-difference objects_total held set.empty o) ∙ h) in
    parts.0)
    (λ o h. set.contains-difference objects_total held set.empty o
    ∙ of_both (set.contains held o) _ h (of_not _ (none_in_empty o)))

nothing_beyond : (held : Objects) → set.difference set.empty held ≡ set.empty
nothing_beyond held = same_members (set.difference set.empty held) set.empty
    (λ o h.
    let parts = both _ (not (set.contains held o)) (sym (set.contains-difference objects_total set.empty held o) ∙ h) in
    parts.0)
    (λ o h. absurd (none_in_empty o h))

all_held_due : (held : Objects) → due_count held set.empty ≡ set.len held
all_held_due held =
    let one = ap set.len (beyond_nothing held) in
    let other = ap set.len (nothing_beyond held) in
    let zero_long = set.len-empty object_cmp in
    omega (arith, one, other, zero_long)

pub all_due : (held wanted : Objects) → wanted ≡ set.empty → due_count held wanted ≡ set.len held
all_due held wanted none = ap (due_count held) none ∙ all_held_due held
