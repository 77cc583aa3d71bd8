use Rattle.std.proofs.Common.{◌≡◌, ◌++◌, take}
use Rattle.blob_codec.specs.Writing.{EachFits}
use Rattle.blob_codec.specs.Written.{written}
use Rattle.blob_codec.proofs.write.+write.Given as goal

abbrev pub invariant-write_attrs-loop-attr : goal.invariant-write_attrs-loop-attr
invariant-write_attrs-loop-attr l = record {
  so_far : l.out.items ≡ l.initial.out.items ++ written (take l.attr-index l.attrs);
  each : EachFits l.attrs;
}
