use Rattle.std.proofs.Common.{rules, arith, ◌≡◌, ◌≤◌, ◌<◌, ◌+◌, ◌++◌, ℕ, length, take, true, false, Ok, ap, sym, subst, ◌∙◌, length-append, inr}
use Rattle.std.proofs.lemmas.List.{append-nil}
use Rattle.http_requests.specs.Look.{Awaits}
use Rattle.http_requests.specs.Next.{Keeps}
use Rattle.http_requests.proofs.LookLemmas.{unfinished_alone}
use Rattle.http_requests.proofs.NextLemmas.{awaits_more, keeps_on, empty_stays, none_was_held}
use Rattle.http_requests.proofs.next.next_request.Goals as goal

pub returns-in_default-clause-calm : goal.returns-in_default-clause-calm
returns-in_default-clause-calm g c = λ front begins is.
    let awaits = subst (λ b. Awaits b c.in-Waiting.least) c.bytes.ensures c.in-Waiting.ensures.waits.1 in
    absurd (none_was_held c.loop-front.held c.args.held.now c.loop-front.invariant.calm (unfinished_alone c.loop-front.held c.in-Waiting.least awaits) front begins is)

pub returns-in_default-add-clause-calm : goal.returns-in_default-add-clause-calm
returns-in_default-add-clause-calm g c = λ front begins is.
    let awaits = subst (λ b. Awaits b c.in-Waiting.least) c.bytes.ensures c.in-Waiting.ensures.waits.1 in
    absurd (none_was_held c.loop-front.held c.args.held.now c.loop-front.invariant.calm (unfinished_alone c.loop-front.held c.in-Waiting.least awaits) front begins is)

pub loop-front-preserved-then-count-eq0 : goal.loop-front-preserved-then-count-eq0
loop-front-preserved-then-count-eq0 g c =
    let old = c.loop-front.invariant in
    let held = c.loop-front.held in
    let awaits = subst (λ b. Awaits b c.in-Waiting.least) c.bytes.ensures c.in-Waiting.ensures.waits.1 in
    let none : c.in-Ok.count ≡ 0 = search (rules, arith) in
    let nothing = ap (λ n. held ++ take n c.read.new.into) none ∙ append-nil held in
    record {
      kept = subst (λ b. Keeps (g.S.Source.left c.args.input.now) (g.S.Source.left c.read.new.self) c.args.held.now b) nothing (keeps_on (g.S.Source.left c.args.input.now) (g.S.Source.left c.loop-front.input)
          (g.S.Source.left c.read.new.self) c.args.held.now held (take c.in-Ok.count c.read.new.into) old.kept c.in-Ok.ensures.gives);
      ended = λ over. empty_stays (g.S.Source.left c.loop-front.input) (g.S.Source.left c.read.new.self) (take c.in-Ok.count c.read.new.into) (c.in-Ok.ensures.end (ap Ok none)) c.in-Ok.ensures.gives;
      waits = λ few. awaits;
      calm = inr (none_was_held held c.args.held.now old.calm (unfinished_alone held c.in-Waiting.least awaits));
      bounded = old.bounded;
      later = omega (arith, old.later, c.in-Ok.ensures.cause.later);
    }

pub loop-front-preserved : goal.loop-front-preserved
loop-front-preserved g c =
    let old = c.loop-front.invariant in
    let held = c.loop-front.held in
    let given = c.split_at.result.0.now in
    let awaits = subst (λ b. Awaits b c.in-Waiting.least) c.bytes.ensures c.in-Waiting.ensures.waits.1 in
    let added : c.add.new.self ≡ held ++ given = c.in-Ok-add.ensures.added in
    let long = ap length added ∙ length-append held given in
    let few : c.in-Ok.count ≤ 8192 = search (rules, arith) in
    record {
      kept = subst (λ b. Keeps (g.S.Source.left c.args.input.now) (g.S.Source.left c.read.new.self) c.args.held.now b) (sym (added ∙ ap (λ z. held ++ z) c.split_at.ensures.front)) (keeps_on (g.S.Source.left c.args.input.now)
          (g.S.Source.left c.loop-front.input) (g.S.Source.left c.read.new.self) c.args.held.now held (take c.in-Ok.count c.read.new.into) old.kept c.in-Ok.ensures.gives);
      ended = λ over. absurd (let both : true ≡ false = sym over ∙ c.in-Waiting.ensures.waits.0 in cc);
      waits = λ short. subst (λ b. Awaits b c.in-Waiting.least) (sym added) (awaits_more held given c.in-Waiting.least awaits (subst (λ z. length z < c.in-Waiting.least) added short));
      calm = inr (none_was_held held c.args.held.now old.calm (unfinished_alone held c.in-Waiting.least awaits));
      bounded = λ before. omega (arith, long, few, c.split_at.ensures.front_len, awaits.more, awaits.bounded);
      later = omega (arith, old.later, c.in-Ok.ensures.cause.later);
    }
