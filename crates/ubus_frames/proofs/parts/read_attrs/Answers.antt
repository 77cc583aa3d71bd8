use Rattle.std.proofs.Common.{◌≡◌, ◌∙◌, ap, sym}
use Rattle.ubus_frames.specs.Fault.{moved, moved_fault}
use Rattle.ubus_frames.proofs.PlaceLemmas.{moved_room}
use Rattle.ubus_frames.proofs.parts.read_attrs.Goals as goal

pub move_fault-requires : goal.move_fault-requires
move_fault-requires c = moved_room c.args.place c.args.bytes.now c.in-Err.error c.requires (λ n. c.read_blob.ensures.refused c.in-Err.error c.in-Err.is n)

pub returns-in-Err-clause-refused : goal.returns-in-Err-clause-refused
returns-in-Err-clause-refused c = λ error e n.
    let q : c.move_fault.result ≡ error = cc e in
    moved_fault c.in-Err.error
    (c.read_blob.ensures.refused c.in-Err.error c.in-Err.is (λ m. n (sym q ∙ (c.move_fault.ensures ∙ ap (moved c.args.place) m))))
    (sym q ∙ c.move_fault.ensures)
