use Rattle.std.proofs.Common.{rules}
use Rattle.std.proofs.lemmas.List.Sorted.{answers_always}
use Rattle.rpc_rules.specs.ByName.{is_before}
use Rattle.rpc_rules.proofs.SortLemmas.{names_rank, sorted_by_name}
use Rattle.rpc_rules.proofs.by_name.by_name.Goals as goal

pub returns : goal.returns
returns c =
    sorted_by_name c.args.attrs.items c.sort_by.new.self.items
    (c.in_ok-sort_by.ensures.sorted is_before names_rank (answers_always _ _ _ (λ f a r g k. search rules)))
    (c.in_ok-sort_by.ensures.stable is_before names_rank (answers_always _ _ _ (λ f a r g k. search rules)))
