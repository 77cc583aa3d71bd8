use Rattle.std.proofs.Common.{◌≡◌, ◌∷◌, ◌++◌, [], true, ap, sym, ◌∙◌, append_assoc}
use Rattle.std.specs.Prelude.{if◌then◌else◌}
use Rattle.net_gen.specs.Packages as spec
use Rattle.net_gen.proofs.packages.push_sections.Goals as goal

pub returns-in_ok-push-2 : goal.returns-in_ok-push-2
returns-in_ok-push-2 c =
    let old = c.args.sections.now.items in
    let number = c.args.number in
    let bridge = c.in_ok-bridge.bridge in
    let interface = c.in_ok-interface.interface in
    let standing : spec.stands c.args.standing number ≡ true = sym c.stands.ensures ∙ c.if-stands.true in
    c.in_ok-push-2.ensures.items
    ∙ ap (λ xs. xs ++ interface ∷ []) c.in_ok-push.ensures.items
    ∙ append_assoc old (bridge ∷ []) (interface ∷ [])
    ∙ ap (λ b. old ++ b ∷ interface ∷ []) c.in_ok-bridge.ensures
    ∙ ap (λ i. old ++ spec.bridge number ∷ i ∷ []) c.in_ok-interface.ensures
    ∙ ap (λ b. old ++ spec.bridge number ∷ (if b then spec.interface number ∷ [] else [])) (sym standing)
