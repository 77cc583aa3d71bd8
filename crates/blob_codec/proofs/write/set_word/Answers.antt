use Rattle.std.proofs.Common.{arith}
use Rattle.blob_codec.proofs.WrittenLemmas.{word_put}
use Rattle.blob_codec.proofs.write.set_word.Goals as goal

pub returns : goal.returns
returns c = word_put _ _ c.args.start c.args.kind c.args.size _ c.requires.room c.to_be_bytes.ensures (omega (arith, c.from.ensures))
