use Rattle.std.proofs.Common.{◌≡◌, ◌++◌, List, ℕ, [], Some, ap, subst, sym, refl}
use Rattle.std.proofs.lemmas.List.{append-nil}
use Rattle.http_requests.specs.declared.front.Front.TheVariants.{Refused}
use Rattle.http_requests.specs.Front.{Begins, IsUnfinished}
use Rattle.http_requests.proofs.FrontLemmas.{one_front, when_refused, unfinished_not_whole, unfinished_not_refused}
use Rattle.http_requests.proofs.LookLemmas.{unfinished_alone}
use Rattle.http_requests.proofs.front.first_request.Goals as goal

pub returns-in-Decided-clause-prompt : goal.returns-in-Decided-clause-prompt
returns-in-Decided-clause-prompt c = λ front begins is.
    let decided = subst (λ bs. Begins bs c.in-Decided.front) (append-nil c.args.bytes.now) (c.in-Decided.ensures.decides [] (λ _. refl)) in
    ap Some (one_front c.args.bytes.now c.in-Decided.front front decided begins)

pub returns-in-Decided-clause-refused : goal.returns-in-Decided-clause-refused
returns-in-Decided-clause-refused c = λ head rest status begins is.
    let decided = subst (λ bs. Begins bs c.in-Decided.front) (append-nil c.args.bytes.now) (c.in-Decided.ensures.decides [] (λ _. refl)) in
    ap Some (when_refused c.args.bytes.now head rest status begins is c.in-Decided.front decided)

pub returns-in-Waiting-clause-prompt : goal.returns-in-Waiting-clause-prompt
returns-in-Waiting-clause-prompt c = λ front begins is.
    absurd (unfinished_not_whole c.args.bytes.now (unfinished_alone c.args.bytes.now c.in-Waiting.field-0 c.in-Waiting.ensures.waits.1) front begins is)

pub returns-in-Waiting-clause-refused : goal.returns-in-Waiting-clause-refused
returns-in-Waiting-clause-refused c = λ head rest status begins is.
    absurd (unfinished_not_refused c.args.bytes.now (unfinished_alone c.args.bytes.now c.in-Waiting.field-0 c.in-Waiting.ensures.waits.1) head rest status begins is)
