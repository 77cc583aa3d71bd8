use Rattle.std.proofs.Common.{subst, sym, ◌∙◌, List, ℕ, ℤ, w32, nat_eq, [], ◌∷◌, ap, rules}
use mir.Val.{SFits}
use Rattle.std.specs.List.{starts_with}
use Rattle.std.proofs.lemmas.Str.{IsUtf8-from_ascii}
use Rattle.std.proofs.lemmas.Int.{to_z-of_z}
use Rattle.uci_tree.specs.Path.{SpellsIndex}
use Rattle.uci_tree.proofs.PathLemmas.{index_is_ascii, index_found, no_plus}
use Rattle.uci_tree.proofs.path_text.read_index.Goals as goal

pub returns-in_default-clause-none : goal.returns-in_default-clause-none
returns-in_default-clause-none c = λ index s. c.in_default.ensures.cases.0 (IsUtf8-from_ascii _ (index_is_ascii _ index s))

pub returns-clause-found : goal.returns-clause-found
returns-clause-found c =
    let P : ℤ → Type 0 = λ z. SpellsIndex c.args.digits.now z in
    let Q : List ℕ → Type 0 = λ z. SpellsIndex z c.in-Ok-parse.index in
    let fits : SFits w32 c.in-Ok-parse.index = search rules in
    let same = c.in-Ok.ensures.cases.0 in
    let plus = no_plus c.in-Ok.text.now c.starts_with.result (c.starts_with.ensures.value ∙ ap (λ (z : List ℕ). starts_with nat_eq z (43 ∷ [])) (sym same)) c.if-starts_with.false in
    subst P (sym (to_z-of_z w32 c.in-Ok-parse.index fits)) (subst Q same (index_found c.in-Ok.text.now c.parse.result c.in-Ok-parse.index c.parse.ensures.value.0 plus c.in-Ok-parse.is))
