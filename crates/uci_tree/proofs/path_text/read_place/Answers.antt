use Rattle.std.proofs.Common.{◌≡◌, ℕ, ℤ, List, ◌∷◌, length, nat_eq, true, false, ap, sym, subst, ◌∙◌, rules, w32}
use mir.Val.{SFits}
use Rattle.std.proofs.lemmas.Int.{to_z-of_z}
use Rattle.uci_text.proofs.ClassLemmas.{has_none}
use Rattle.uci_tree.specs.declared.path.SectionRef.TheVariants.{Place as ByPlace}
use Rattle.uci_tree.specs.Path.{SpellsRef}
use Rattle.uci_tree.proofs.PathLemmas.{no_bracket, parts, no_inner, same_parts, ref_found}
use Rattle.uci_tree.proofs.path_text.read_place.Goals as goal

pub returns-in_default-clause-none : goal.returns-in_default-clause-none
returns-in_default-clause-none c = λ e reference s. no_bracket _ reference c.in_default.ensures s

pub returns-in_default-cut_last-clause-none : goal.returns-in_default-cut_last-clause-none
returns-in_default-cut_last-clause-none c = λ e reference s. no_inner _ _ c.in_default-cut_last.ensures (parts _ _ _ reference c.in-Some.ensures s)

pub returns-then-not-is_empty-clause-none : goal.returns-then-not-is_empty-clause-none
returns-then-not-is_empty-clause-none c = λ e reference s. let p = (parts _ _ _ reference c.in-Some.ensures s).at_end in
    let t : nat_eq (length c.in-Some.end.now) 0 ≡ true = ap (λ (z : List ℕ). nat_eq (length z) 0) p in
    cc (c.is_empty.ensures, c.if-not-is_empty.true, t)

pub returns-then-not-is_name-clause-none : goal.returns-then-not-is_name-clause-none
returns-then-not-is_name-clause-none c = λ e reference s. let p = (same_parts _ _ _ _ c.in-Some-cut_last.ensures (parts _ _ _ reference c.in-Some.ensures s)).0 in let t : false ≡ true = c.if-not-is_name.ensures.1 p in cc

pub returns-in_default-read_index-clause-none : goal.returns-in_default-read_index-clause-none
returns-in_default-read_index-clause-none c = λ e reference s. let p = (same_parts _ _ _ _ c.in-Some-cut_last.ensures (parts _ _ _ reference c.in-Some.ensures s)).1 in c.in_default-read_index.ensures.none p.0 p.1

pub returns-clause-found : goal.returns-clause-found
returns-clause-found c =
    let P : List ℕ → Type 0 = λ z. SpellsRef (64 ∷ c.args.text.now) (ByPlace z c.in-Some-read_index.index) in
    let Q : ℤ → Type 0 = λ z. SpellsRef (64 ∷ c.args.text.now) (ByPlace c.in_ok-from_bytes.field-0 z) in
    let fits : SFits w32 c.in-Some-read_index.index = search rules in
    subst Q (sym (to_z-of_z w32 c.in-Some-read_index.index fits))
    (subst P (sym c.in_ok-from_bytes.ensures) (ref_found _ _ _ _ _ _ c.in-Some.ensures c.in-Some-cut_last.ensures (has_none _ (sym c.is_empty.ensures ∙ c.if-not-is_empty.false)) (c.is_name.ensures.0 c.if-not-is_name.false)
    c.in-Some-read_index.ensures.found))
