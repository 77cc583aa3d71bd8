-- Plans for steps.
use Rattle.std.proofs.Common.{ℕ, ◌≡◌, List, Bool, true, false, Option, Some, None, Result, IfOk, refl, sym, ap, subst, ◌∙◌}
use Rattle.std.specs.Prelude.{if◌then◌else◌, ◌||◌}
use Rattle.std.specs.List.{list_any}
use Rattle.plane_words.specs.Pattern.{is_nothing}
use Rattle.ubus_table.specs.Table.{Table, is_taken, local_objects}
use Rattle.ubus_table.specs.Objects.{is_refused_path}
use Rattle.ubus_table.specs.Frames.{Sent}
use Rattle.ubus_table.specs.Refusal.{Step, says}
use Rattle.ubus_send.specs.declared.outbox.Outgoing.{Outgoing}
use Rattle.ubus_send.specs.Out.{out_of}
use Rattle.ubus_state.specs.Paths.{has_path, IsFree}
use Rattle.ubus_state.proofs.ListLemmas.{any_of_both}
use Rattle.ubus_state.specs.declared.change.Change.TheVariants.{Nothing}
use Rattle.ubus_requests.specs.declared.plan.Plan.{Plan}
use Rattle.ubus_requests.specs.Plan.{Plans}

-- a choice whose test is known
pub taken : {A : Type 0} {b : Bool} {x : A} (y : A) → b ≡ true → (if b then x else y) ≡ x
taken {A} {b} {x} y h = ap (λ (c : Bool). if c then x else y) h

pub passed : {A : Type 0} {b : Bool} (x : A) {y : A} → b ≡ false → (if b then x else y) ≡ y
passed {A} {b} x {y} h = ap (λ (c : Bool). if c then x else y) h

-- frames are sent, and nothing changes
pub says_plan : (table : Table) (sent : List Sent) (out : List Outgoing) (plan : Plan) → plan ≡ record { change = Nothing; out = out; call = None } → out ≡ out_of sent → Plans (says table sent) table plan
says_plan table sent out plan is told = subst (Plans (says table sent) table) (sym is) (record { table = refl; sent = told; handed = refl; possible = tt })

-- a plan for a step is one for the same step
pub plan_for : (step other : Step) (table : Table) (plan : Plan) → step ≡ other → Plans other table plan → Plans step table plan
plan_for step other table plan same plans = record {
  table = plans.table ∙ sym (ap (λ (s : Step). s.table) same);
  sent = plans.sent ∙ sym (ap (λ (s : Step). out_of s.sent) same);
  handed = plans.handed ∙ sym (ap (λ (s : Step). s.local) same);
  possible = plans.possible;
}

pub planned_as : {E : Type 0} (result : Result Plan E) (table : Table) (step other : Step) → IfOk result (λ (plan : Plan). Plans other table plan) → step ≡ other → IfOk result (λ (plan : Plan). Plans step table plan)
planned_as result table step other planned same = subst (λ (s : Step). IfOk result (λ (plan : Plan). Plans s table plan)) (sym same) planned

-- a path that is not refused is free among the objects of clients
neither : (a b c : Bool) → ((a || b) || c) ≡ false → b ≡ false
neither true b c h = absurd (let never : true ≡ false = h in cc never)
neither false true c h = absurd (let never : true ≡ false = h in cc never)
neither false false c h = refl

later_none : (a b : Bool) → (a || b) ≡ false → b ≡ false
later_none true b h = absurd (let never : true ≡ false = h in cc never)
later_none false b h = h

pub free_path : (table : Table) (path : Option (List ℕ)) (unknown : Bool) → (is_refused_path table path || unknown) ≡ false → IsFree path table.objects
free_path table None unknown good = tt
free_path table (Some path) unknown good =
    later_none (list_any (has_path path) local_objects) (list_any (has_path path) table.objects)
    (sym (any_of_both (has_path path) local_objects table.objects) ∙ neither (is_nothing path) (is_taken table path) unknown good)
