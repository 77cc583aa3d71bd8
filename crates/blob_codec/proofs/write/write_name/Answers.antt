use Rattle.blob_codec.proofs.WrittenLemmas.{ok_is, name_written}
use Rattle.blob_codec.proofs.write.write_name.Goals as goal

pub returns-clause-appends : goal.returns-clause-appends
returns-clause-appends c =
    ok_is _ _ _ _ (name_written _ _ _ _ _ c.in_ok-write_bytes.ensures.appends c.to_be_bytes.ensures c.in_ok-write_string.ensures.appends) c.pad.ensures.appends
