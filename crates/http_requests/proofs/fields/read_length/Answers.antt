use Rattle.std.proofs.Common.{◌≡◌, true, rules, subst, List, ℕ}
use Rattle.std.specs.Str.Parse.{ParsesUnsigned}
use Rattle.http_requests.specs.Fields.{is_length}
use Rattle.http_requests.proofs.LengthLemmas.{length_is_utf8, reads, length_is}
use Rattle.http_requests.proofs.fields.read_length.Goals as goal

pub returns-in_default : goal.returns-in_default
returns-in_default c =
    let is : is_length c.args.text.now ≡ true = search rules in
    absurd (c.in_default.ensures.cases.0 (length_is_utf8 c.args.text.now is))

pub returns-in_default-parse : goal.returns-in_default-parse
returns-in_default-parse c =
    let is : is_length c.args.text.now ≡ true = search rules in
    absurd (c.in_default-parse.not-Ok _ (reads c.args.text.now c.parse.result is (subst (λ (z : List ℕ). ParsesUnsigned 64 10 z c.parse.result) c.in-Ok.ensures.cases.0 c.parse.ensures.value.0)))

pub returns : goal.returns
returns c =
    let is : is_length c.args.text.now ≡ true = search rules in
    length_is c.args.text.now c.parse.result c.in-Ok-parse.number is (subst (λ (z : List ℕ). ParsesUnsigned 64 10 z c.parse.result) c.in-Ok.ensures.cases.0 c.parse.ensures.value.0) c.in-Ok-parse.is
