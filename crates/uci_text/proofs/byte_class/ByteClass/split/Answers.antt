use Rattle.std.proofs.Common.{arith}
use Rattle.std.proofs.lemmas.List.Sums.{prefix_len-le-length}
use Rattle.uci_text.specs.ByteClass.{is_in}
use Rattle.uci_text.proofs.ScanLemmas.{splits_behind_run}
use Rattle.uci_text.proofs.byte_class.ByteClass.split.Goals as goal

pub split_at-requires : goal.split_at-requires
split_at-requires c = omega (arith, c.run.ensures, prefix_len-le-length (is_in c.args.self) c.args.bytes.now)

pub returns : goal.returns
returns c = rw (c.split_at.ensures.front, c.split_at.ensures.back) (splits_behind_run _ _ _ c.run.ensures)
