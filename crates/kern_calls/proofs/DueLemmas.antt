-- Which held objects are taken and which wanted ones put, by shorter tests.
use Rattle.std.proofs.Common.{◌≡◌, inl, inr, List, true, false}
use Rattle.std.specs.Prelude.{◌&&◌, not}
use Rattle.std.specs.List.{list_any}
use Rattle.std.specs.FinSet as set
use Rattle.kern_model.specs.declared.object.Object.{Object}
use Rattle.kern_model.specs.ObjectOrder.{Objects, Has, set_of}
use Rattle.kern_model.specs.Kernel.{replaces}
use Rattle.kern_model.specs.Touched.{is_on_taken, is_taken, is_put}
use Rattle.kern_model.proofs.TestLemmas.{both, of_both, not_true, of_not, true_of_both_ways, from_any, of_any}
use Rattle.kern_model.proofs.SetLemmas.{set_of_member, member_of_set}
use Rattle.kern_model.proofs.TouchLemmas.{touched_held, touched_wanted, touched_cases, replaced_by, taken_touched, taken_not_replaced, taken_of, put_of, put_touched}
use Rattle.kern_calls.proofs.GoOnLemmas.{is_replaced_of_all}

module _ (held : Objects) (wanted : List Object) (o : Object) (off : is_on_taken held (set_of wanted) o ≡ false) where
  never_on : is_on_taken held (set_of wanted) o ≡ true → ⊥
  never_on on = cc (on, off)

  pub taken_by_tests : Has held o → (not (set.contains (set_of wanted) o) && not (list_any (λ other. replaces other o) wanted)) ≡ is_taken held (set_of wanted) o
  taken_by_tests had = true_of_both_ways (not (set.contains (set_of wanted) o) && not (list_any (λ other. replaces other o) wanted)) (is_taken held (set_of wanted) o)
      (λ h.
      let parts = both (not (set.contains (set_of wanted) o)) (not (list_any (λ other. replaces other o) wanted)) h in
      let unwanted = not_true (set.contains (set_of wanted) o) parts.0 in
      taken_of held (set_of wanted) o had (touched_held held (set_of wanted) o had unwanted)
      (λ replaced. let by = replaced_by held (set_of wanted) o replaced in not_true (list_any (λ other. replaces other o) wanted) parts.1 (of_any (λ other. replaces other o) wanted by.by (member_of_set wanted by.by by.is) by.place)))
      (λ taken.
      let unwanted : Has (set_of wanted) o → ⊥ = λ is. elim (touched_cases held (set_of wanted) o had (taken_touched held (set_of wanted) o taken)) as (λ _. ⊥) [ inl gone ↦ gone is | inr on ↦ never_on on ] in
      of_both (not (set.contains (set_of wanted) o)) _ (of_not (set.contains (set_of wanted) o) unwanted)
      (of_not (list_any (λ other. replaces other o) wanted) (λ some.
      let found = from_any (λ other. replaces other o) wanted some in
      taken_not_replaced held (set_of wanted) o taken (is_replaced_of_all held (set_of wanted) o unwanted never_on found.passing (set_of_member wanted found.passing found.member) found.passes))))

  pub put_by_tests : Has (set_of wanted) o → not (set.contains held o) ≡ is_put held (set_of wanted) o
  put_by_tests is = true_of_both_ways (not (set.contains held o)) (is_put held (set_of wanted) o)
      (λ h. put_of held (set_of wanted) o is (touched_wanted held (set_of wanted) o is (not_true (set.contains held o) h)))
      (λ due. of_not (set.contains held o) (λ had. elim (touched_cases held (set_of wanted) o had (put_touched held (set_of wanted) o due)) as (λ _. ⊥) [ inl gone ↦ gone is | inr on ↦ never_on on ]))
