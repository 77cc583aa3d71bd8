-- Whether a link of a name is held.
use Rattle.std.proofs.Common.{ℕ, ◌≡◌, List, Option, Some, None, IfSome, IfNone, true, false, refl, ap, sym, subst}
use Rattle.std.specs.Prelude.{is_some}
use Rattle.std.specs.List.{list_any}
use Rattle.std.specs.FinSet as set
use Rattle.kern_model.specs.declared.object.LinkKind.{LinkKind}
use Rattle.kern_model.specs.declared.object.Object.{Object}
use Rattle.kern_model.specs.declared.object.Object.TheVariants as object
use Rattle.kern_model.specs.AdmissionTest.{is_link_of}
use Rattle.kern_model.specs.ObjectOrder.{Objects, Has}
use Rattle.kern_model.proofs.SetLemmas.{set_of_item, item_of_set}
use Rattle.kern_model.proofs.TestLemmas.{bytes_same, same_bytes, false_of_not, from_any, of_any}

named_link : (name : List ℕ) (o : Object) → is_link_of name o ≡ true → (kind : LinkKind) × (o ≡ object.Link name kind)
named_link name (object.Link other kind) is = (kind, ap (λ n. object.Link n kind) (bytes_same other name is))
named_link name o is = cc is

module _ (objects : Objects) (name : List ℕ) where
  held_link : (kind : LinkKind) → Has objects (object.Link name kind) → list_any (is_link_of name) (set.items objects) ≡ true
  held_link kind has = of_any (is_link_of name) (set.items objects) (object.Link name kind) (item_of_set objects (object.Link name kind) has) (same_bytes name name refl)

  no_held_link : ((kind : LinkKind) → Has objects (object.Link name kind) → ⊥) → list_any (is_link_of name) (set.items objects) ≡ false
  no_held_link none = false_of_not (list_any (is_link_of name) (set.items objects)) (λ h.
      let found = from_any (is_link_of name) (set.items objects) h in
      let link = named_link name found.passing found.passes in
      none link.0 (subst (Has objects) link.1 (set_of_item objects found.passing found.member)))

  pub link_is_held : (found : Option LinkKind) → IfSome found (λ kind. Has objects (object.Link name kind)) → IfNone found ((kind : LinkKind) → Has objects (object.Link name kind) → ⊥) → is_some found
      ≡ list_any (is_link_of name) (set.items objects)
  link_is_held (Some kind) has none = sym (held_link kind has)
  link_is_held None has none = sym (no_held_link none)
