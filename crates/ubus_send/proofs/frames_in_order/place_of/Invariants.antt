use Rattle.std.proofs.Common.{◌≡◌, ◌≤◌, ◌++◌, take, drop, length}
use Rattle.plane_words.specs.InOrder.{put_in}
use Rattle.ubus_send.specs.Frames.{by_path}
use Rattle.ubus_send.proofs.frames_in_order.place_of.Given as goal

-- the frame goes somewhere behind those that were looked at
abbrev pub invariant-loop-place : goal.invariant-loop-place
invariant-loop-place l = put_in by_path l.frame l.frames ≡ take l.place l.frames ++ put_in by_path l.frame (drop l.place l.frames)
