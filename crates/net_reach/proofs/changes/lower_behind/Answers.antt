use Rattle.std.proofs.Common.{rules}
use Rattle.std.proofs.lemmas.Map.Made.{map_same_pairs, lookup-map_values}
use Rattle.std.specs.Ordering.{nat_cmp}
use Rattle.std.specs.Cmp.Lexicographic.{slice_cmp}
use Rattle.std.specs.BTreeMap.{is_at}
use Rattle.net_reach.specs.Gone.{lowered}
use Rattle.net_reach.proofs.changes.lower_behind.Goals as goal

pub returns : goal.returns
returns c =
    let kept = map_same_pairs _ (lowered c.args.gone) _ (λ k v b w f' t. search rules) _ _ c.retain.ensures.filtered in
    λ q. rw kept (lookup-map_values (lowered c.args.gone) (is_at (slice_cmp nat_cmp q)) c.args.devices.now.entries)
