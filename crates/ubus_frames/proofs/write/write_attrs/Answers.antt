use Rattle.std.proofs.Common.{rules}
use Rattle.blob_codec.specs.Written.{written as blob_bytes}
use Rattle.ubus_frames.proofs.WriteLemmas.{part_room}
use Rattle.ubus_frames.proofs.write.write_attrs.Goals as goal

pub write_field-requires-clause-size : goal.write_field-requires-clause-size
write_field-requires-clause-size c = part_room blob_bytes c.args.id _ _ _ _ c.in-Some.is c.requires.size (search rules)
