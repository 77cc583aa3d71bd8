-- The names that `device` sections have, kept in a set.
use Rattle.std.proofs.Common.{ℕ, ◌≡◌, Bool, true, false, cond, ◌&&◌, ◌||◌, List, [], ◌∷◌, Some, bytes_eq, refl, sym, ◌∙◌, ap, codes}
use Rattle.std.specs.Ordering.{nat_cmp}
use Rattle.std.specs.Cmp.Lexicographic.{slice_cmp, texts_ties}
use Rattle.std.specs.BTreeSet.{BTreeSet, contains}
use Rattle.std.specs.BTreeMap.{is_at}
use Rattle.uci_tree.specs.declared.package.Section.{Section}
use Rattle.net_rows.specs.Options.{text_of}
use Rattle.net_modern.specs.Options.{is_text}
use Rattle.net_modern.specs.Rules.{is_device, is_device_named}
use Rattle.net_modern.specs.Names.{is_among, AddsNames}

updated : (b a : Bool) → cond b true a ≡ (a || (b || false))
updated true true = refl
updated true false = refl
updated false true = refl
updated false false = refl

-- a name that was put in is that of the section
pub added_name : (old new : BTreeSet (List ℕ)) (key : List ℕ) (section : Section) → is_device section ≡ true → text_of (codes "name") section.options ≡ Some key
    → ((other : List ℕ) → contains (slice_cmp nat_cmp) new other ≡ cond (is_at (slice_cmp nat_cmp key) other) true (contains (slice_cmp nat_cmp) old other)) → AddsNames old new (section ∷ [])
added_name old new key section device text h name =
    let named : is_device_named name section ≡ bytes_eq key name = ap (λ (z : Bool). z && is_text name (text_of (codes "name") section.options)) device ∙ ap (is_text name) text in
    h name
    ∙ ap (λ (z : Bool). cond z true (is_among old name)) (sym (texts_ties key name))
    ∙ updated (bytes_eq key name) (is_among old name)
    ∙ ap (λ (z : Bool). is_among old name || (z || false)) (sym named)

-- one section more, and then the others
pub one_more_name : (old new section rest all : Bool) → new ≡ (old || (section || false)) → (old || (section || rest)) ≡ all → (new || rest) ≡ all
one_more_name true new section rest all n h = ap (λ (z : Bool). z || rest) n ∙ h
one_more_name false new true rest all n h = ap (λ (z : Bool). z || rest) n ∙ h
one_more_name false new false rest all n h = ap (λ (z : Bool). z || rest) n ∙ h
