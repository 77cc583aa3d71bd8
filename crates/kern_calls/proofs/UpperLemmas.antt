-- Which addresses and routes are taken and put, and in which order.
use Rattle.std.proofs.Common.{arith, ℕ, ◌≡◌, ◌-◌, inl, inr, List, Bool, true, false, refl, ap, sym, ◌∙◌}
use Rattle.std.specs.Prelude.{◌||◌, not}
use Rattle.std.specs.Ordering.{nat_cmp, ordering_then}
use Rattle.std.specs.declared.cmp.Ordering.{Ordering}
use Rattle.std.specs.declared.cmp.Ordering.TheVariants.{Less, Equal, Greater}
use Rattle.std.specs.Cmp.{tied_itself, nat_cmp_total}
use Rattle.std.specs.Cmp.Lexicographic.{slice_cmp}
use Rattle.std.specs.FinSet as set
use Rattle.kern_model.specs.declared.object.Object.{Object}
use Rattle.kern_model.specs.declared.object.Object.TheVariants as object
use Rattle.kern_model.specs.declared.object.Call.{Call}
use Rattle.kern_model.specs.declared.object.Call.TheVariants.{Put, Take}
use Rattle.kern_model.specs.ObjectOrder.{Objects, Has, call_key}
use Rattle.kern_model.specs.Kernel.{name_of, object_of}
use Rattle.kern_model.specs.Touched.{loses_link, is_on_taken, is_touched, is_taken, is_put}
use Rattle.kern_model.specs.Line.{line_of}
use Rattle.kern_model.specs.CallOrder.{rank, height_of, height_place, call_cmp}
use Rattle.kern_model.proofs.OrderLemmas.{tied_of_equal}
use Rattle.kern_model.proofs.SetLemmas.{has_retained, of_retained}
use Rattle.kern_model.proofs.TestLemmas.{either, of_left, of_right, not_true, of_not, true_or_not, true_of_both_ways}
use Rattle.kern_model.proofs.GoneLemmas.{is_over_of_test, test_of_is_over, over_more}
use Rattle.kern_model.proofs.TouchLemmas.{IsReplaceable, replaceable, loses_link_with, loses_link_of, touched_held, touched_wanted, touched_on, touched_cases, replaced_by, taken_touched, taken_of, put_of, put_touched}
use Rattle.kern_calls.specs.Lower.{is_lower, lower_part}
use Rattle.kern_calls.proofs.GoOnLemmas.{still_over}
use Rattle.kern_calls.specs.Upper.{is_upper}

-- an address or a route is at its device alone
on_device : (held wanted : Objects) (o : Object) → is_upper o ≡ true → is_on_taken held wanted o ≡ (loses_link held wanted (name_of o) || false)
on_device held wanted (object.Address dev cidr) h = refl
on_device held wanted (object.Route r) h = refl
on_device held wanted o h = absurd (cc h)

or_none : (b : Bool) → (b || false) ≡ b
or_none true = refl
or_none false = refl

-- nothing takes its place
lasting : (o : Object) → is_upper o ≡ true → IsReplaceable o → ⊥
lasting (object.Mtu name mtu) h r = cc h
lasting (object.Mac name mac) h r = cc h
lasting o h r = r

module _ (held wanted : Objects) (o : Object) (upper : is_upper o ≡ true) where
  on_is : is_on_taken held wanted o ≡ loses_link held wanted (name_of o)
  on_is = on_device held wanted o upper ∙ or_none (loses_link held wanted (name_of o))

  pub upper_taken : Has held o → is_taken held wanted o ≡ (not (set.contains wanted o) || loses_link held wanted (name_of o))
  upper_taken had = true_of_both_ways (is_taken held wanted o) (not (set.contains wanted o) || loses_link held wanted (name_of o))
      (λ taken. elim (touched_cases held wanted o had (taken_touched held wanted o taken)) as (λ _. (not (set.contains wanted o) || loses_link held wanted (name_of o)) ≡ true) [
        | inl unwanted ↦ of_left (not (set.contains wanted o)) (loses_link held wanted (name_of o)) (of_not (set.contains wanted o) unwanted)
        | inr on ↦ of_right (not (set.contains wanted o)) (loses_link held wanted (name_of o)) (sym on_is ∙ on)
      ])
      (λ h.
      let touched : is_touched held wanted o ≡ true = elim (either (not (set.contains wanted o)) (loses_link held wanted (name_of o)) h) as (λ _. is_touched held wanted o ≡ true) [
        | inl unwanted ↦ touched_held held wanted o had (not_true (set.contains wanted o) unwanted)
        | inr lost_link ↦ touched_on held wanted o (on_is ∙ lost_link)
      ] in
      taken_of held wanted o had touched (λ r. let by = replaced_by held wanted o r in lasting o upper (replaceable by.by o by.place)))

  pub upper_put : Has wanted o → is_put held wanted o ≡ (not (set.contains held o) || loses_link held wanted (name_of o))
  upper_put is = true_of_both_ways (is_put held wanted o) (not (set.contains held o) || loses_link held wanted (name_of o))
      (λ due. elim (true_or_not (set.contains held o)) as (λ _. (not (set.contains held o) || loses_link held wanted (name_of o)) ≡ true) [
        | inr unheld ↦ of_left (not (set.contains held o)) (loses_link held wanted (name_of o)) (of_not (set.contains held o) unheld)
        | inl had ↦ elim (touched_cases held wanted o had (put_touched held wanted o due)) as (λ _. (not (set.contains held o) || loses_link held wanted (name_of o)) ≡ true) [
          | inl unwanted ↦ absurd (unwanted is)
          | inr on ↦ of_right (not (set.contains held o)) (loses_link held wanted (name_of o)) (sym on_is ∙ on)
        ]
      ])
      (λ h. put_of held wanted o is (elim (either (not (set.contains held o)) (loses_link held wanted (name_of o)) h) as (λ _. is_touched held wanted o ≡ true) [
        | inl unheld ↦ touched_wanted held wanted o is (not_true (set.contains held o) unheld)
        | inr lost_link ↦ touched_on held wanted o (on_is ∙ lost_link)
      ]))

-- the lower parts tell what loses its link
in_lower : (s : Objects) (o : Object) → Has s o → is_lower o ≡ true → Has (lower_part s) o
in_lower s o h lower = has_retained s is_lower o h lower

of_lower : (s : Objects) (o : Object) → Has (lower_part s) o → Has s o
of_lower s o h = (of_retained s is_lower o h).0

pub loses_link_in_parts : (held wanted : Objects) (name : List ℕ) → loses_link (lower_part held) (lower_part wanted) name ≡ loses_link held wanted name
loses_link_in_parts held wanted name = true_of_both_ways (loses_link (lower_part held) (lower_part wanted) name) (loses_link held wanted name)
    (λ h.
    let f = loses_link_with (lower_part held) (lower_part wanted) name h in
    loses_link_of held wanted name f.base f.kind (of_lower held (object.Link f.base f.kind) f.had) (λ is. f.unwanted (in_lower wanted (object.Link f.base f.kind) is refl))
    (over_more (lower_part held) held (of_lower held) f.base name f.over))
    (λ h.
    let f = loses_link_with held wanted name h in
    let over = test_of_is_over (lower_part held) f.base name (still_over held (lower_part held) f.base name (λ v kind g q. in_lower held (object.Link v kind) g refl) (is_over_of_test held f.base name f.over)) in
    loses_link_of (lower_part held) (lower_part wanted) name f.base f.kind (in_lower held (object.Link f.base f.kind) f.had refl) (λ is. f.unwanted (of_lower wanted (object.Link f.base f.kind) is)) over)

-- heights of addresses and routes are none
no_height : (s : Objects) (o : Object) → is_upper o ≡ true → height_of s o ≡ 0
no_height s (object.Link name kind) h = cc h
no_height s (object.Up name) h = cc h
no_height s o h = refl

tied : (n : ℕ) → nat_cmp n n ≡ Equal
tied n = tied_itself nat_cmp_total n

level : (held wanted : Objects) (a b : Call) → is_upper (object_of a) ≡ true → is_upper (object_of b) ≡ true → rank a ≡ rank b → nat_cmp (height_place held wanted a) (height_place held wanted b) ≡ Equal
level held wanted (Put a) (Put b) p q ranks = ap (λ n. nat_cmp n (height_of wanted b)) (no_height wanted a p) ∙ ap (nat_cmp 0) (no_height wanted b q) ∙ tied 0
level held wanted (Put a) (Take b k x) p q ranks = absurd (omega arith)
level held wanted (Take a k x) (Put b) p q ranks = absurd (omega arith)
level held wanted (Take a k x) (Take b l y) p q ranks = ap (λ n. nat_cmp (set.len held - n) (set.len held - height_of held b)) (no_height held a p) ∙ ap (λ n. nat_cmp (set.len held - 0) (set.len held - n)) (no_height held b q)
    ∙ tied (set.len held - 0)

then_level : (r h k l : Ordering) → (r ≡ Equal → h ≡ k) → ordering_then r (ordering_then h l) ≡ ordering_then r (ordering_then k l)
then_level Less h k l same = refl
then_level Equal h k l same = ap (λ x. ordering_then x l) (same refl)
then_level Greater h k l same = refl

pub one_order : (held wanted others more : Objects) (a b : Call) → is_upper (object_of a) ≡ true → is_upper (object_of b) ≡ true → call_cmp held wanted a b ≡ call_cmp others more a b
one_order held wanted others more a b p q =
    then_level (nat_cmp (rank a) (rank b)) (nat_cmp (height_place held wanted a) (height_place held wanted b)) (nat_cmp (height_place others more a) (height_place others more b))
    (ordering_then (slice_cmp nat_cmp (line_of a) (line_of b)) (slice_cmp nat_cmp (call_key a) (call_key b)))
    (λ equal. let ranks = tied_of_equal (rank a) (rank b) equal in level held wanted a b p q ranks ∙ sym (level others more a b p q ranks))
