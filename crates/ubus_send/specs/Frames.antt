-- Frames by the paths that they tell.
use Rattle.std.specs.Prelude.{[], unwrap_or}
use Rattle.std.specs.declared.cmp.Ordering.{Ordering}
use Rattle.std.specs.Ordering.{nat_cmp}
use Rattle.std.specs.Cmp.Lexicographic.{slice_cmp}
use Rattle.ubus_frames.specs.declared.frame.Frame.{Frame}

abbrev pub by_path : Frame → Frame → Ordering
by_path one other = slice_cmp nat_cmp (unwrap_or one.path []) (unwrap_or other.path [])
