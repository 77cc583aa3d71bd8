use Rattle.std.proofs.Common.{◌≡◌, ◌-◌, ◌^◌, length, min, take, drop}
use Rattle.blob_codec.specs.Limits.{Fits}
use Rattle.blob_codec.specs.Written.{written}
use Rattle.blob_codec.proofs.size.+size.Given as goal

abbrev pub invariant-attrs_size-loop-attr : goal.invariant-attrs_size-loop-attr
invariant-attrs_size-loop-attr l = record {
  size : l.total ≡ min (length (written (take l.attr-index l.attrs))) (2 ^ 64 - 1);
  front : Fits l.levels (drop l.attr-index l.attrs) → Fits l.levels l.attrs;
}
