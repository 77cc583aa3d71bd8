use Rattle.std.proofs.Common.{◌≡◌, sym, subst}
use Rattle.serde_json.specs.Data.{Data}
use Rattle.answer_json.specs.AnswerJson.{IsPrefix, IsRoute}
use Rattle.answer_json.proofs.MemberLemmas.{same_member, nothing}
use Rattle.answer_json.proofs.answer_json.read_route.Goals as goal

pub returns-in_err-target-clause-none : goal.returns-in_err-target-clause-none
returns-in_err-target-clause-none c =
    nothing c.from_residual-in_err-target.result _ c.from_residual-in_err-target.ensures
    (λ route h. c.in_err-target.ensures.none route.target
    (subst (λ (d : Data). IsPrefix d route.target)
    (same_member _ _ _ h.there (sym c.in_ok-get.ensures)) h.target))
