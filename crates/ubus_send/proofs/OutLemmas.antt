-- Frames as they go out.
use Rattle.std.proofs.Common.{ℕ, ◌≡◌, List, [], ◌++◌, Bool, false, Option, sym, ap, ◌∙◌, append_assoc}
use Rattle.std.specs.Prelude.{if◌then◌else◌}
use Rattle.std.proofs.lemmas.List.{map-append}
use Rattle.ubus_frames.specs.declared.frame.Frame.{Frame}
use Rattle.ubus_table.specs.Frames.{Sent, is_set}
use Rattle.ubus_table.specs.Refusal.{Refusal, refused, refused_if_asked}
use Rattle.ubus_send.specs.declared.outbox.Outgoing.{Outgoing}
use Rattle.ubus_send.specs.Out.{outgoing, out_of}

-- more is sent
pub out_more : (out : List Outgoing) (a b : List Sent) → out ++ out_of (a ++ b) ≡ out ++ out_of a ++ out_of b
out_more out a b = ap (λ z. out ++ z) (map-append outgoing a b) ∙ sym (append_assoc out (out_of a) (out_of b))

-- a refusal where a reply is asked for
pub refused_aloud : (fits : Frame → Bool) (place : Option ℕ) (client : ℕ) (request : Frame) (refusal : Refusal) → is_set request.no_reply ≡ false
    → refused_if_asked fits place client request refusal ≡ refused fits place client request refusal
refused_aloud fits place client request refusal h = ap (λ (b : Bool). if b then [] else refused fits place client request refusal) h
