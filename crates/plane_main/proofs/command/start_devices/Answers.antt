use Rattle.std.proofs.Common.{rules, arith, ◌≡◌, ◌∷◌, ◌++◌, [], ℕ, List, map, string_bytes, sym, ap, ◌∙◌, subst, length, take}
use Rattle.std.specs.Prelude.{Contains, codes}
use Rattle.std.proofs.lemmas.List.{take_all, map_more, length-map}
use Rattle.std.proofs.lemmas.Bool.Decides.{nat_tests}
use Rattle.kern_model.specs.VlanName.{IsPlainName}
use Rattle.plane_main.proofs.DistinctLemmas.{all_push, distinct_push, seen_more, not_seen, was_seen}
use Rattle.plane_main.proofs.WordLemmas.{no_start_at, no_start_twice}
use Rattle.plane_main.proofs.command.start_devices.Goals as goal

pub returns-in_default-read_plain_name-clause-none : goal.returns-in_default-read_plain_name-clause-none
returns-in_default-read_plain_name-clause-none c names = no_start_at string_bytes c.args.words.now c.in-Some.rest.now c.in-Some.command.now c.word-item.result c.loop-word.word-index names c.in-Some.ensures.cases.0 c.loop-word-test.true
    c.word-item.is (λ h. c.in_default-read_plain_name.ensures.none (subst IsPlainName (sym c.as_bytes-in-loop-word.ensures.value) h))

pub returns-then-not-branch-clause-none : goal.returns-then-not-branch-clause-none
returns-then-not-branch-clause-none c names =
    let inv = c.loop-word.invariant in
    let name : c.in-Some-read_plain_name.name ≡ string_bytes c.word-item.result = cc (c.in-Some-read_plain_name.ensures.found.0, c.as_bytes-in-loop-word.ensures.value) in
    let seen : Contains c.loop-word.names.items c.in-Some-read_plain_name.name =
    was_seen c.loop-word.seen c.loop-word.names.items c.in-Some-read_plain_name.name c.in_ok-insert.field-0 inv.seen (c.in_ok-insert.ensures.added) c.if-not-branch.true in
    let twice : Contains (map string_bytes (take c.loop-word.word-index c.in-Some.rest.now)) (string_bytes c.word-item.result) =
    subst (λ (z : List ℕ). Contains (map string_bytes (take c.loop-word.word-index c.in-Some.rest.now)) z) name (subst (λ (zs : List (List ℕ)). Contains zs c.in-Some-read_plain_name.name) inv.same seen) in
    no_start_twice string_bytes c.args.words.now c.in-Some.rest.now c.in-Some.command.now c.word-item.result c.loop-word.word-index names c.in-Some.ensures.cases.0 c.loop-word-test.true c.word-item.is twice

pub loop-word-preserved : goal.loop-word-preserved
loop-word-preserved c =
    let inv = c.loop-word.invariant in
    let names : List (List ℕ) = c.loop-word.names.items in
    let name : List ℕ = c.in-Some-read_plain_name.name in
    let here : name ≡ string_bytes c.word-item.result = cc (c.in-Some-read_plain_name.ensures.found.0, c.as_bytes-in-loop-word.ensures.value) in
    let more = map_more string_bytes c.in-Some.rest.now c.loop-word.word-index c.word-item.result c.loop-word-test.true in
    let fresh = not_seen c.loop-word.seen names name c.in_ok-insert.field-0 inv.seen (c.in_ok-insert.ensures.added) c.if-not-branch.false in
    let grown : c.push.new.self.items ≡ names ++ name ∷ [] = c.in_ok-push.ensures.items in
    rw grown (record {
      same = cc (inv.same, here, more, ap string_bytes c.word-item.is);
      plain = all_push IsPlainName names name inv.plain (subst IsPlainName (sym c.in-Some-read_plain_name.ensures.found.0) c.in-Some-read_plain_name.ensures.found.1);
      distinct = distinct_push names name inv.distinct fresh;
      seen = seen_more c.loop-word.seen c.insert.new.self names name inv.seen (c.in_ok-insert.ensures.updates);
    })

pub returns-clause-found : goal.returns-clause-found
returns-clause-found c =
    let inv = c.loop-word.invariant in
    let first : string_bytes c.in-Some.command.now ≡ codes "start" = search rules in
    let all : c.loop-word.names.items ≡ map string_bytes c.in-Some.rest.now = inv.same ∙ ap (map string_bytes) (take_all c.loop-word.word-index c.in-Some.rest.now (omega arith)) in
    let parts : map string_bytes c.args.words.now ≡ string_bytes c.in-Some.command.now ∷ map string_bytes c.in-Some.rest.now = ap (map string_bytes) c.in-Some.ensures.cases.0 in
    let size = length-map c.in-Some.rest.now string_bytes in
    let size_all = ap length all in
    record {
      spelled = cc;
      some = grind (arith, nat_tests);
      few = omega arith;
      plain = inv.plain;
      distinct = inv.distinct;
    }
