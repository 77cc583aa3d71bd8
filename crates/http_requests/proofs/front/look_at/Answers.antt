use Rattle.std.proofs.Common.{rules, arith, ◌≡◌, ◌<◌, ◌≤◌, ◌-◌, ◌++◌, length, subst, sym, []}
use Rattle.http_requests.specs.declared.front.Front.TheVariants.{End}
use Rattle.http_requests.specs.Head.{HasHead}
use Rattle.http_requests.specs.Front.{Begins, ends}
use Rattle.http_requests.proofs.LookLemmas.{nothing_at_all, waits_for_one, none_here, open_is_cut, open_waits, refused_here, whole_here, cut_here, body_waits}
use Rattle.http_requests.proofs.front.look_at.Goals as goal

pub returns-then-are_all-clause-decides : goal.returns-then-are_all-clause-decides
returns-then-are_all-clause-decides c = λ more all.
    let none : length c.args.bytes.now ≡ 0 = search (rules, arith) in
    subst (λ bs. Begins bs End) (sym (nothing_at_all c.args.bytes.now more none (all c.if-are_all.true))) ends

pub returns-else-are_all-clause-waits : goal.returns-else-are_all-clause-waits
returns-else-are_all-clause-waits c =
    let none : length c.args.bytes.now ≡ 0 = search (rules, arith) in
    (c.if-are_all.false, waits_for_one c.args.bytes.now none)

pub returns-in-Refusal-clause-decides : goal.returns-in-Refusal-clause-decides
returns-in-Refusal-clause-decides c = λ more all.
    refused_here c.args.bytes.now more c.in-Read.size c.in-Refusal.status c.in-Read.closes
    (subst (λ w. HasHead c.args.bytes.now c.in-Read.size w c.in-Read.closes) c.in-Refusal.is c.in-Read.ensures)

pub returns-then-bytes-size-clause-decides : goal.returns-then-bytes-size-clause-decides
returns-then-bytes-size-clause-decides c = λ more all.
    whole_here c.args.bytes.now more c.in-Read.size c.in-Body.body_size c.in-Read.closes
    (subst (λ w. HasHead c.args.bytes.now c.in-Read.size w c.in-Read.closes) c.in-Body.is c.in-Read.ensures) c.if-bytes-size.true

pub returns-then-are_all-2-clause-decides : goal.returns-then-are_all-2-clause-decides
returns-then-are_all-2-clause-decides c = λ more all.
    let lacks : length c.args.bytes.now - c.in-Read.size < c.in-Body.body_size = search (rules, arith) in
    cut_here c.args.bytes.now more c.in-Read.size c.in-Body.body_size c.in-Read.closes
    (subst (λ w. HasHead c.args.bytes.now c.in-Read.size w c.in-Read.closes) c.in-Body.is c.in-Read.ensures) lacks (all c.if-are_all-2.true)

pub returns-else-are_all-2-clause-waits : goal.returns-else-are_all-2-clause-waits
returns-else-are_all-2-clause-waits c =
    let lacks : length c.args.bytes.now - c.in-Read.size < c.in-Body.body_size = search (rules, arith) in (
      c.if-are_all-2.false,
      body_waits c.args.bytes.now c.in-Read.size c.in-Body.body_size c.in-Read.closes
          (subst (λ w. HasHead c.args.bytes.now c.in-Read.size w c.in-Read.closes) c.in-Body.is c.in-Read.ensures) lacks,
    )

pub returns-then-are_all-3-clause-decides : goal.returns-then-are_all-3-clause-decides
returns-then-are_all-3-clause-decides c = λ more all.
    let some : length c.args.bytes.now ≡ 0 → ⊥ = search (rules, arith) in
    open_is_cut c.args.bytes.now more some c.in-Open.ensures (all c.if-are_all-3.true)

pub returns-else-are_all-3-clause-waits : goal.returns-else-are_all-3-clause-waits
returns-else-are_all-3-clause-waits c = (c.if-are_all-3.false, open_waits c.args.bytes.now c.in-Open.ensures)

pub returns-in-Never-clause-decides : goal.returns-in-Never-clause-decides
returns-in-Never-clause-decides c = λ more all.
    let some : length c.args.bytes.now ≡ 0 → ⊥ = search (rules, arith) in
    none_here c.args.bytes.now more some (c.in-Never.ensures more)
