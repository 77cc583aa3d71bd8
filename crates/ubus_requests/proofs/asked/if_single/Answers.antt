use Rattle.std.proofs.Common.{◌≡◌, ℕ, List, refl, subst}
use Rattle.plane_words.specs.Pattern.{fits_front}
use Rattle.ubus_table.specs.Table.{same_text}
use Rattle.ubus_requests.proofs.AskedLemmas.{fits_itself}
use Rattle.ubus_requests.proofs.asked.if_single.Goals as goal

pub returns : goal.returns
returns c = λ object.
    let alone = subst (λ (p : List ℕ). (text : List ℕ) → fits_front p text ≡ same_text p text) c.as_bytes.ensures (c.if-ends_with_star.ensures refl) in
    fits_itself c.args.pattern.now alone object.path
