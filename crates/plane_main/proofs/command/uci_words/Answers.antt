use Rattle.std.proofs.Common.{rules, arith, ◌≡◌, ◌∷◌, map, string_bytes, ap, ◌∙◌}
use Rattle.std.specs.Prelude.{codes}
use Rattle.std.proofs.lemmas.List.{take_all}
use Rattle.plane_main.proofs.command.uci_words.Goals as goal

pub returns-clause-found : goal.returns-clause-found
returns-clause-found c =
    let first : string_bytes c.in-Some.command.now ≡ codes "uci" = search rules in
    let all : c.loop-word.texts.items ≡ map string_bytes c.in-Some.rest.now = c.loop-word.invariant ∙ ap (map string_bytes) (take_all c.loop-word.word-index c.in-Some.rest.now (omega arith)) in
    let parts : map string_bytes c.args.words.now ≡ string_bytes c.in-Some.command.now ∷ map string_bytes c.in-Some.rest.now = ap (map string_bytes) c.in-Some.ensures.cases.0 in
    cc
