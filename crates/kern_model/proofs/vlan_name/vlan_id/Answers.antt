use Rattle.std.proofs.Common.{arith, ◌≡◌, sym, subst, ◌∙◌, decimal, ap, nat_eq, true}
use Rattle.std.specs.Prelude.{not}
use Rattle.std.specs.Cmp.Lexicographic.{pointwise, nat_list_eq_equiv}
use Rattle.std.proofs.lemmas.Str.{IsUtf8-from_ascii}
use Rattle.std.proofs.lemmas.Fmt.{IsAscii-decimal, parse-decimal}
use Rattle.std.specs.Str.{IsUtf8}
use Rattle.kern_model.proofs.vlan_name.vlan_id.Goals as goal

pub returns-in_default-clause-none : goal.returns-in_default-clause-none
returns-in_default-clause-none c id low high is =
    c.in_default.ensures.cases.0 (subst IsUtf8 (sym is) (IsUtf8-from_ascii (decimal id) (IsAscii-decimal id (omega arith))))

pub returns-in_default-parse-clause-none : goal.returns-in_default-parse-clause-none
returns-in_default-parse-clause-none c id low high is =
    c.in_default-parse.not-Ok id (parse-decimal 16 id c.in-Ok.text.now c.parse.result (omega arith) (omega arith) (c.in-Ok.ensures.cases.0 ∙ is) c.parse.ensures.value.0)

pub returns-then-ne-clause-none : goal.returns-then-ne-clause-none
returns-then-ne-clause-none c id low high is =
    let parsed = parse-decimal 16 id c.in-Ok.text.now c.parse.result (omega arith) (omega arith) (c.in-Ok.ensures.cases.0 ∙ is) c.parse.ensures.value.0 in
    let same : c.in-Ok-parse.id ≡ id = cc (parsed, c.in-Ok-parse.is) in
    let text : c.as_bytes.result.now ≡ c.args.digits.now = cc (ap decimal same, c.as_bytes.ensures.value, c.format.ensures.text) in
    let equal : pointwise nat_eq c.as_bytes.result.now c.args.digits.now ≡ true = ap (pointwise nat_eq c.as_bytes.result.now) (sym text) ∙ nat_list_eq_equiv.refl c.as_bytes.result.now in
    cc (c.if-ne.ensures, ap not equal)

pub returns-then-id-lt-LEAST_VLAN_ID-clause-none : goal.returns-then-id-lt-LEAST_VLAN_ID-clause-none
returns-then-id-lt-LEAST_VLAN_ID-clause-none c id low high is =
    let parsed = parse-decimal 16 id c.in-Ok.text.now c.parse.result (omega arith) (omega arith) (c.in-Ok.ensures.cases.0 ∙ is) c.parse.ensures.value.0 in
    let same : c.in-Ok-parse.id ≡ id = cc (parsed, c.in-Ok-parse.is) in
    omega arith

pub returns-then-id-gt-MOST_VLAN_ID-clause-none : goal.returns-then-id-gt-MOST_VLAN_ID-clause-none
returns-then-id-gt-MOST_VLAN_ID-clause-none c id low high is =
    let parsed = parse-decimal 16 id c.in-Ok.text.now c.parse.result (omega arith) (omega arith) (c.in-Ok.ensures.cases.0 ∙ is) c.parse.ensures.value.0 in
    let same : c.in-Ok-parse.id ≡ id = cc (parsed, c.in-Ok-parse.is) in
    omega arith
