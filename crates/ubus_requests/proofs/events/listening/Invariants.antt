use Rattle.std.proofs.Common.{◌≡◌, ◌++◌, map, drop}
use Rattle.std.specs.Prelude.{filter}
use Rattle.ubus_table.specs.declared.rows.Registration.{Registration}
use Rattle.ubus_table.specs.Events.{is_sent}
use Rattle.ubus_state.specs.State.{table_of}
use Rattle.ubus_requests.proofs.events.listening.Given as goal

-- the listeners so far, and those that are left
abbrev pub invariant-loop-registration : goal.invariant-loop-registration
invariant-loop-registration l =
    l.numbers.items ++ map (λ (r : Registration). r.object) (filter (is_sent (table_of l.bus) l.sender l.id) (drop l.registration-index l.bus.registrations.items))
    ≡ map (λ (r : Registration). r.object) (filter (is_sent (table_of l.bus) l.sender l.id) l.bus.registrations.items)
