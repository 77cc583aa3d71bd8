use Rattle.std.proofs.Common.{◌≡◌, true, rules, subst, List, ℕ}
use Rattle.std.specs.Str.Parse.{ParsesUnsigned}
use Rattle.net_rows.specs.Number.{is_numeral}
use Rattle.net_rows.proofs.NumberLemmas.{numeral_is_utf8, no_decimal, decimal_is}
use Rattle.net_rows.proofs.number.read_decimal.Goals as goal

pub returns-in_default : goal.returns-in_default
returns-in_default c =
    let numeral : is_numeral c.args.text.now ≡ true = search rules in
    absurd (c.in_default.ensures.cases.0 (numeral_is_utf8 c.args.text.now numeral))

pub returns-in_default-parse : goal.returns-in_default-parse
returns-in_default-parse c =
    let numeral : is_numeral c.args.text.now ≡ true = search rules in
    no_decimal c.args.text.now c.parse.result numeral (subst (λ (z : List ℕ). ParsesUnsigned 32 10 z c.parse.result) c.in-Ok.ensures.cases.0 c.parse.ensures.value.0) c.in_default-parse.not-Ok

pub returns : goal.returns
returns c =
    let numeral : is_numeral c.args.text.now ≡ true = search rules in
    decimal_is c.args.text.now c.parse.result c.in-Ok-parse.number numeral (subst (λ (z : List ℕ). ParsesUnsigned 32 10 z c.parse.result) c.in-Ok.ensures.cases.0 c.parse.ensures.value.0) c.in-Ok-parse.is
