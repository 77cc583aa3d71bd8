use Rattle.std.proofs.Common.{◌+◌, ◌≤◌, [], ◌∷◌, length, arith}
use Rattle.net_addr.proofs.AppendedLemmas.{Appends-append, Appends-same_text}
use Rattle.net_addr.proofs.GroupLemmas.{more_groups, groups_text_parts}
use Rattle.net_addr.proofs.print.append_groups.Goals as goal

pub loop-group-preserved : goal.loop-group-preserved
loop-group-preserved c =
    let colon = c.append-end.ensures in
    let one = Appends-append _ _ _ (58 ∷ []) _ _ _ _ colon c.append_hex-end-in-loop-group.ensures.text in
    let all = Appends-append _ _ _ _ _ _ _ _ c.loop-group.invariant.0 one in
    (Appends-same_text _ _ _ _ _ _ (more_groups _ c.loop-group.group-index c.loop-group-test.true) all, omega (arith, colon.ends))

pub returns-clause-text : goal.returns-clause-text
returns-clause-text c =
    let all = Appends-append _ _ _ _ _ _ _ _ c.append_hex-end.ensures.text c.loop-group.invariant.0 in
    let last : length c.args.groups.now ≤ c.loop-group.group-index + 1 = omega arith in
    Appends-same_text _ _ _ _ _ _ (groups_text_parts c.args.groups.now c.loop-group.group-index c.in-len1-up.len_at_least last) all
