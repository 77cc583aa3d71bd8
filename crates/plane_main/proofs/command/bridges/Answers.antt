use Rattle.std.proofs.Common.{rules, arith, ◌≡◌, ◌≤◌, Some, string_bytes, codes}
use Rattle.std.proofs.lemmas.Bool.Decides.{nat_tests}
use Rattle.script_lines.specs.Arguments.{long_decimal_of}
use Rattle.plane_main.specs.declared.command.TheConstants.{MOST_BRIDGES}
use Rattle.plane_main.proofs.WordLemmas.{two_words, gen_of}
use Rattle.plane_main.proofs.command.bridges.Goals as goal

pub returns-clause-found : goal.returns-clause-found
returns-clause-found c =
    let first : string_bytes c.command-item.result ≡ codes "gen" = search rules in
    let number : long_decimal_of (string_bytes c.digits-item.result) ≡ Some c.in-Some.count = cc (c.as_bytes-2.ensures.value, c.read_long_decimal.ensures, c.in-Some.is) in
    let some : 1 ≤ c.in-Some.count = grind (arith, nat_tests) in
    let few : c.in-Some.count ≤ MOST_BRIDGES = grind (arith, nat_tests) in
    let two = two_words c.args.words.now c.command-item.result c.digits-item.result c.in-len2.len_at_least c.in-len2.len_below c.command-item.is c.digits-item.is in
    gen_of string_bytes c.args.words.now c.command-item.result c.digits-item.result two c.in-Some.count first number some few
