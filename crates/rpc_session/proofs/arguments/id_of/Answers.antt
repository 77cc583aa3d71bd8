use Rattle.hex.specs.Hex.{decode_sized}
use Rattle.rpc_session.proofs.ArgumentLemmas.{named, not_named}
use Rattle.rpc_session.proofs.arguments.id_of.Goals as goal

pub returns-in-Ok : goal.returns-in-Ok
returns-in-Ok c = named (decode_sized c.args.text.now 16) c.decode_to_slice.result c.decode_to_slice.new.out c.from_be_bytes.result c.decode_to_slice.ensures.value c.in-Ok.is c.from_be_bytes.ensures

pub returns-in-Err : goal.returns-in-Err
returns-in-Err c = not_named (decode_sized c.args.text.now 16) c.decode_to_slice.result c.decode_to_slice.new.out _ c.decode_to_slice.ensures.value c.in-Err.is
