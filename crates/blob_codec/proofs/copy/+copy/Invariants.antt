use Rattle.std.proofs.Common.{◌≡◌, take}
use Rattle.blob_codec.proofs.copy.+copy.Given as goal

abbrev pub invariant-copy_attrs-loop-attr : goal.invariant-copy_attrs-loop-attr
invariant-copy_attrs-loop-attr l = l.copies ≡ take l.attr-index l.attrs
