-- Open calls, as the table of the definitions has them, and how they are found.
use Rattle.std.specs.Prelude.{ℕ, ◌≡◌, ◌==◌, ◌&&◌, nat_lt, List, Bool, map, filter}
use Rattle.ubus_table.specs.Table.{Call}
use Rattle.ubus_state.specs.declared.calls.OpenCall.{OpenCall}
use Rattle.ubus_state.specs.Rising.{IsRising}

-- an open call; the code keeps no places
abbrev pub call_of : OpenCall → Call
call_of call = record {
  place = 0;
  caller = call.caller;
  seq = call.seq;
  object = call.object;
  no_reply =
      call.no_reply;
}

-- open calls
abbrev pub calls_of : List OpenCall → List Call
calls_of calls = map call_of calls

abbrev pub call_number : OpenCall → ℕ
call_number call = call.number

-- the caller and the sequence are those of the call
abbrev pub has_name : ℕ → ℕ → OpenCall → Bool
has_name caller seq call = call.caller == caller && call.seq == seq

-- the call has a lower number
abbrev pub is_before : ℕ → OpenCall → Bool
is_before number call = nat_lt call.number number

-- the calls rise below the next number, and those of each caller and sequence stand among the keys too, in the same
-- order
pub record IsTied (rows keys : List OpenCall) (next : ℕ) : Type 0 where
  pub rising : IsRising call_number rows next
  pub named : (caller seq : ℕ) → filter (has_name caller seq) keys ≡ filter (has_name caller seq) rows
