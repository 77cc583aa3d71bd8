use Rattle.std.proofs.Common.{◌≡◌, true, rules, subst, List, ℕ}
use Rattle.std.specs.Str.Parse.{ParsesSigned}
use mir.Syntax.{w128}
use Rattle.net_rows.specs.Number.{is_numeral}
use Rattle.net_rows.proofs.NumberLemmas.{numeral_is_utf8}
use Rattle.uci_types.specs.Number.{is_natural}
use Rattle.uci_types.proofs.NumberLemmas.{both, natural_is_read}
use Rattle.uci_types.proofs.number.read_natural.Goals as goal

pub returns-in_default-clause-value : goal.returns-in_default-clause-value
returns-in_default-clause-value c =
    let natural : is_natural c.args.text.now ≡ true = search rules in
    absurd (c.in_default.ensures.cases.0 (numeral_is_utf8 c.args.text.now (both (is_numeral c.args.text.now) _ natural).0))

pub returns-in_default-parse-clause-value : goal.returns-in_default-parse-clause-value
returns-in_default-parse-clause-value c =
    let natural : is_natural c.args.text.now ≡ true = search rules in
    absurd (c.in_default-parse.not-Ok _ (natural_is_read c.args.text.now c.parse.result natural
    (subst (λ (z : List ℕ). ParsesSigned w128 10 z c.parse.result) c.in-Ok.ensures.cases.0 c.parse.ensures.value.0)))
