use Rattle.std.proofs.Common.{ℕ, List, ◌++◌, map, ap, ◌∙◌}
use Rattle.blob_codec.specs.declared.blob.Blob.{Blob}
use Rattle.blob_codec.specs.declared.blob.Attr.{Attr}
use Rattle.rpc_session.specs.Values as spec
use Rattle.rpc_session.proofs.OrderLemmas.{values_back}
use Rattle.rpc_session.proofs.by_name.in_order.Goals as goal

-- the value of an entry, with its name
value_at : List ℕ × Blob → Attr
value_at e = record { name = e.0; value = e.1 }

pub loop-name-init : goal.loop-name-init
unfolding value_at
loop-name-init c =
    ap (λ (z : List Attr). z ++ map value_at c.into_iter-name-iterator.result) c.new-ordered.ensures
    ∙ ap (map value_at) (c.into_iter-name-iterator.ensures.into_iter_gives.0 ∙ c.in_ok-by_name.ensures.entries)
    ∙ values_back (spec.in_order c.args.attrs)
