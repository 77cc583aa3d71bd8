use Rattle.std.proofs.Common.{ℕ, List, ◌++◌, map, ap, ◌∙◌}
use Rattle.std.proofs.lemmas.List.Sorted.{Contains-permutation, IsPermutation-sym}
use Rattle.net_rules.specs.declared.event.Notice.TheVariants as notice
use Rattle.net_reach.proofs.SetLemmas.{once_sorted, rising_once}
use Rattle.state_requests.proofs.telling.tell_lost.Goals as goal

pub returns-clause-told : goal.returns-clause-told
returns-clause-told c =
    let old : List ℕ = c.args.lost.now.items in
    let new : List ℕ = c.sort_unstable.new.self.items in
    let same = c.sort_unstable.ensures.permutation in (
      new,
      rising_once new c.sort_unstable.ensures.sorted (once_sorted old new same c.requires.once),
      λ n. (Contains-permutation new old n (IsPermutation-sym old new same), Contains-permutation old new n same),
      c.tell_all.ensures.told ∙ ap (λ (ns : List ℕ). c.args.notices.now.items ++ map notice.Dropped ns) c.as_slice.ensures.value,
    )
