-- What a look-up by key tells: whether an object is there, links, and what is taken.
use Rattle.std.proofs.Common.{ℕ, ◌≡◌, List, Some, None, IfSome, IfNone, true, false, Bool, refl, ap, sym, subst, ◌∙◌}
use Rattle.std.specs.Prelude.{◌↔◌, ◌&&◌, ◌||◌, not}
use Rattle.std.specs.List.{list_any}
use Rattle.std.specs.FinSet as set
use Rattle.kern_model.specs.declared.object.LinkKind.{LinkKind}
use Rattle.kern_model.specs.declared.object.LinkKind.TheVariants.{Bridge}
use Rattle.kern_model.specs.declared.object.Object.{Object}
use Rattle.kern_model.specs.declared.object.Object.TheVariants as object
use Rattle.kern_model.specs.ObjectOrder.{Objects, Has, set_of}
use Rattle.kern_model.specs.Kernel.{replaces}
use Rattle.kern_model.specs.Touched.{is_on_taken, is_taken, is_put}
use Rattle.kern_model.proofs.SetLemmas.{set_of_member, member_of_set}
use Rattle.kern_model.proofs.TestLemmas.{true_of_both_ways, false_of_not, from_any, of_any}
use Rattle.kern_model.proofs.TouchLemmas.{taken_on, put_of, touched_on}
use Rattle.kern_calls.proofs.DueLemmas.{taken_by_tests, put_by_tests}
use Rattle.graph_objects.specs.declared.key.ObjectKey.{ObjectKey}
use Rattle.graph_objects.specs.Lookup.{IsFound}
use Rattle.graph_objects.specs.Links.{link_kind}
use Rattle.graph_objects.proofs.ChangeLemmas.{replaces_key}

module _ (objects : Objects) (o : Object) where
  pub has_found : (x : Object) (b : Bool) → IsFound objects o (Some x) → (b ≡ true) ↔ (x ≡ o) → b ≡ set.contains objects o
  has_found x b found told = true_of_both_ways b (set.contains objects o)
      (λ h. subst (Has objects) (told.0 h) (found.has x refl))
      (λ h. let here = found.all o h refl in told.1 (cc here))

  pub has_none : IsFound objects o None → false ≡ set.contains objects o
  has_none found = sym (false_of_not (set.contains objects o) (λ h. let here = found.all o h refl in cc here))

module _ (objects : Objects) (name : List ℕ) where
  pub link_found : (other : List ℕ) (kind : LinkKind) → IsFound objects (object.Link name (Bridge None false)) (Some (object.Link other kind)) → Has objects (object.Link name kind)
  link_found other kind found =
      let keys = found.at (object.Link other kind) refl in
      let names : other ≡ name = ap (λ (k : ObjectKey). k.name) keys in
      subst (λ n. Has objects (object.Link n kind)) names (found.has (object.Link other kind) refl)

  pub no_link : IsFound objects (object.Link name (Bridge None false)) None → (kind : LinkKind) → Has objects (object.Link name kind) → ⊥
  no_link found kind h = let here = found.all (object.Link name kind) h refl in cc here

  other_found : (x : Object) → IsFound objects (object.Link name (Bridge None false)) (Some x) → ((n : List ℕ) (k : LinkKind) → x ≡ object.Link n k → ⊥) → (kind : LinkKind) → Has objects (object.Link name kind) → ⊥
  other_found x found none kind h = let here = found.all (object.Link name kind) h refl in let same : x ≡ object.Link name kind = cc here in none name kind same

-- of two places the first does not fall
pub second_place : (first second r : Bool) → first ≡ false → r ≡ second → r ≡ (first || (second || false))
second_place true second r off is = cc off
second_place false true r off is = is
second_place false false r off is = is

-- the kind of a link that is looked up
module _ (objects : Objects) (name : List ℕ) where
  pub kind_found : (x : Object) → IsFound objects (object.Link name (Bridge None false)) (Some x) → IfSome (link_kind x) (λ kind. Has objects (object.Link name kind))
  kind_found (object.Link other kind) found = link_found objects name other kind found
  kind_found x found = tt

  pub no_kind_found : (x : Object) → IsFound objects (object.Link name (Bridge None false)) (Some x) → IfNone (link_kind x) ((kind : LinkKind) → Has objects (object.Link name kind) → ⊥)
  no_kind_found (object.Link other kind) found = tt
  no_kind_found x found = other_found objects name x found (λ n k same. cc same)

-- what is taken and put, where no place of the object loses its link
module _ (held : Objects) (wanted : List Object) (o : Object) where
  replacer_found : (x : Object) → IsFound (set_of wanted) o (Some x) → replaces x o ≡ list_any (λ other. replaces other o) wanted
  replacer_found x found = true_of_both_ways (replaces x o) (list_any (λ other. replaces other o) wanted)
      (λ h. of_any (λ other. replaces other o) wanted x (member_of_set wanted x (found.has x refl)) h)
      (λ h.
      let some = from_any (λ other. replaces other o) wanted h in
      let here = found.all some.passing (set_of_member wanted some.passing some.member) (replaces_key some.passing o some.passes) in
      let same : x ≡ some.passing = cc here in
      subst (λ y. replaces y o ≡ true) (sym same) some.passes)

  no_replacer : IsFound (set_of wanted) o None → false ≡ list_any (λ other. replaces other o) wanted
  no_replacer found = sym (false_of_not (list_any (λ other. replaces other o) wanted) (λ h.
      let some = from_any (λ other. replaces other o) wanted h in
      let here = found.all some.passing (set_of_member wanted some.passing some.member) (replaces_key some.passing o some.passes) in
      cc here))

  pub taken_by_found : (x : Object) (same : Bool) → IsFound (set_of wanted) o (Some x) → (same ≡ true) ↔ (x ≡ o) → is_on_taken held (set_of wanted) o ≡ false → Has held o → (not same && not (replaces x o)) ≡ is_taken held (set_of wanted) o
  taken_by_found x same found told off had =
      (λ i. not (has_found (set_of wanted) o x same found told i) && not (replacer_found x found i)) ∙ taken_by_tests held wanted o off had

  pub taken_by_none : IsFound (set_of wanted) o None → is_on_taken held (set_of wanted) o ≡ false → Has held o → true ≡ is_taken held (set_of wanted) o
  taken_by_none found off had =
      (λ i. not (has_none (set_of wanted) o found i) && not (no_replacer found i)) ∙ taken_by_tests held wanted o off had

  pub taken_by_place : is_on_taken held (set_of wanted) o ≡ true → Has held o → true ≡ is_taken held (set_of wanted) o
  taken_by_place on had = sym (taken_on held (set_of wanted) o had on)

  pub put_by_place : is_on_taken held (set_of wanted) o ≡ true → Has (set_of wanted) o → true ≡ is_put held (set_of wanted) o
  put_by_place on is = sym (put_of held (set_of wanted) o is (touched_on held (set_of wanted) o on))

  pub put_by_absence : (b : Bool) → b ≡ set.contains held o → is_on_taken held (set_of wanted) o ≡ false → Has (set_of wanted) o → not b ≡ is_put held (set_of wanted) o
  put_by_absence b told off is = ap not told ∙ put_by_tests held wanted o off is
