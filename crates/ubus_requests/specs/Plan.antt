-- What a message comes to, before it is done.
use Rattle.std.specs.Prelude.{ℕ, ◌≡◌, List, Bool, ◌++◌}
use Rattle.std.specs.List.{flat_map}
use Rattle.ubus_frames.specs.declared.frame.Frame.{Frame}
use Rattle.ubus_table.specs.Table.{Table, owner_of}
use Rattle.ubus_table.specs.declared.rows.Client.{Client}
use Rattle.ubus_table.specs.Frames.{to_owner}
use Rattle.ubus_table.specs.Calls.{opened, passed_on, told_subscribers}
use Rattle.ubus_table.specs.Refusal.{Step, says}
use Rattle.ubus_send.specs.Out.{out_of}
use Rattle.ubus_state.specs.Change.{changed, IsPossible}
use Rattle.ubus_requests.specs.declared.plan.Plan.{Plan}

-- the plan is for this step
pub record Plans (step : Step) (before : Table) (plan : Plan) : Type 0 where
  pub table : changed before plan.change ≡ step.table
  pub sent : plan.out ≡ out_of step.sent
  pub handed : plan.call ≡ step.local
  pub possible : IsPossible before plan.change

-- a NOTIFY of an object with these subscribers
abbrev pub notified_to : (Frame → Bool) → Table → Client → Frame → ℕ → List ℕ → Step
notified_to fits table client request object subscribers =
    says (record table { calls = table.calls ++ opened fits table client request subscribers })
    (told_subscribers fits client request object subscribers
    ++ flat_map (λ subscriber. to_owner fits (owner_of table subscriber) (passed_on client request subscriber))
    subscribers)
