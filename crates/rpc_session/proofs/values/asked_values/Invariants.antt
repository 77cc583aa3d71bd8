use Rattle.std.proofs.Common.{◌≡◌, ◌++◌, drop}
use Rattle.std.specs.Prelude.{filter}
use Rattle.std.specs.Option.{option_copied}
use Rattle.blob_codec.specs.declared.blob.Attr.{Attr}
use Rattle.rpc_session.specs.Values as spec
use Rattle.rpc_session.proofs.values.asked_values.Given as goal

-- the values so far, and then those of the others
abbrev pub invariant-loop-attr : goal.invariant-loop-attr
invariant-loop-attr l = l.made ++ filter (λ (attr : Attr). spec.is_asked (option_copied l.keys) attr.name) (drop l.attr-index l.values) ≡ filter (λ (attr : Attr). spec.is_asked (option_copied l.keys) attr.name) l.values
