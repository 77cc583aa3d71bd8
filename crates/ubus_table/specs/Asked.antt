-- PING and LOOKUP.
use Rattle.std.specs.Prelude.{ℕ, List, [], ◌∷◌, Bool, false, Option, Some, None, map, filter, is_some}
use Rattle.std.specs.declared.cmp.Ordering.{Ordering}
use Rattle.std.specs.Ordering.{nat_cmp}
use Rattle.std.specs.Cmp.Lexicographic.{slice_cmp}
use Rattle.plane_words.specs.InOrder.{ordered}
use Rattle.plane_words.specs.Pattern.{fits_front}
use Rattle.ubus_frames.specs.declared.frame.Frame.{Frame}
use Rattle.ubus_table.specs.Table.{Table, Object, typed, path_of}
use Rattle.ubus_table.specs.Frames.{Sent, DATA, reply, answer, with_data}
use Rattle.ubus_table.specs.Refusal.{Refusal, numbered, Step, says, refuses}

-- the attributes that were read
abbrev pub pong : Frame → Frame
pong request = record request { kind = DATA }

-- PING: the attributes that were read come back
abbrev pub pinged : (Frame → Bool) → Table → ℕ → Frame → Step
pinged fits table client request = says table (with_data fits client request (pong request ∷ []))

-- the pattern fits the path, where there is one
abbrev pub fits_path : List ℕ → Option (List ℕ) → Bool
fits_path pattern None = false
fits_path pattern (Some path) = fits_front pattern path

-- the object has a path, and the pattern, if there is one, fits it
abbrev pub is_asked : Option (List ℕ) → Object → Bool
is_asked None object = is_some object.path
is_asked (Some pattern) object = fits_path pattern object.path

abbrev pub by_path : Object → Object → Ordering
by_path one other = slice_cmp nat_cmp (path_of one) (path_of other)

-- the objects that are asked for, by rising path
abbrev pub asked_for : Table → Option (List ℕ) → List Object
asked_for table pattern = ordered by_path (filter (is_asked pattern) (typed table))

abbrev pub description : Frame → Object → Frame
description request object = record (reply DATA request) {
  path = object.path;
  id = Some object.number;
  objtype = Some object.objtype;
  signature = Some object.signature;
}

abbrev pub told_of : (Frame → Bool) → Table → ℕ → Frame → List Object → Step
told_of fits table client request [] = refuses fits table client request (numbered 4)
told_of fits table client request (object ∷ objects) =
    says table (with_data fits client request (map (description request) (object ∷ objects)))

-- LOOKUP: the objects that are asked for are told, and 4 where there is none
abbrev pub looked_up : (Frame → Bool) → Table → ℕ → Frame → Step
looked_up fits table client request = told_of fits table client request (asked_for table request.path)
