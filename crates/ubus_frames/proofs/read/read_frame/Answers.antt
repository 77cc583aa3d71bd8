use Rattle.std.proofs.Common.{◌≡◌, ◌∙◌, sym}
use Rattle.ubus_frames.proofs.FrameLemmas.{frame_from, frame_refused}
use Rattle.ubus_frames.proofs.OneLemmas.{one_frame}
use Rattle.ubus_frames.proofs.read.read_frame.Goals as goal

pub returns-in-Ok-clause-found : goal.returns-in-Ok-clause-found
returns-in-Ok-clause-found c =
    frame_from _ _ _ _ c.requires.head c.requires.whole c.split_at.ensures.back c.read_head-frame.ensures c.in-Ok.ensures.found

pub returns-in-Err-clause-refused : goal.returns-in-Err-clause-refused
returns-in-Err-clause-refused c = λ error e n.
    let q : c.from.result ≡ error = cc e in
    frame_refused _ _ c.in-Err.error error c.requires.head c.requires.whole c.split_at.ensures.back (sym q ∙ c.from.ensures) n
    (λ m. c.read_fields.ensures.refused c.in-Err.error c.in-Err.is m)

pub returns-in-Ok-clause-only : goal.returns-in-Ok-clause-only
returns-in-Ok-clause-only c = λ other s.
    one_frame _ _ other (frame_from _ _ _ _ c.requires.head c.requires.whole c.split_at.ensures.back c.read_head-frame.ensures c.in-Ok.ensures.found) s
