-- What a step does to the open calls.
use Rattle.std.proofs.Common.{arith, ◌≡◌, ◌+◌, ◌≤◌, ℕ, List, [], ◌∷◌, ◌++◌, Bool, true, false, refl, ap, ◌∙◌}
use Rattle.std.specs.Prelude.{Option, Some, None, if◌then◌else◌, ◌==◌, filter, map, ◌&&◌, not}
use Rattle.std.specs.List.{find, flat_map}
use Rattle.ubus_frames.specs.declared.frame.Frame.{Frame}
use Rattle.ubus_table.specs.Table.{Table, Call, owner_of}
use Rattle.ubus_table.specs.Frames.{Sent, to_owner, gone}
use Rattle.ubus_table.specs.Refusal.{Step, says}
use Rattle.ubus_table.specs.Subscriptions.{subscribers_of, targets_of, is_alone, activity}
use Rattle.ubus_table.specs.Objects.{is_on, told, farewells, endings, untouched, object_left}
use Rattle.ubus_table.specs.Calls.{is_named}
use Rattle.ubus_table.specs.Clients.{followed, objects_left}
use Rattle.ubus_table.specs.Run.{count_of, is_status_for, statuses, open_count}
use Rattle.ubus_table.proofs.CountLemmas.{bit, count_append, count_split, count_first, count_none}
use Rattle.ubus_table.proofs.PlainLemmas.{tagged, tagged_append, tagged_if, tagged_owner, tagged_each, none_for}

-- an open call that has this place, and is not that of the caller, the sequence and the object, or asks for no reply
abbrev pub is_other : ℕ → ℕ → ℕ → ℕ → Call → Bool
is_other place client seq object call = call.place == place && not (call.caller == client && (call.seq == seq && (call.object == object && not call.no_reply)))

abbrev pub others : Call → List Call → ℕ
others one calls = count_of (is_other one.place one.caller one.seq one.object) calls

-- a STATUS for the INVOKE at the place of this call that does not go to its caller as such
abbrev pub is_astray : Call → Sent → Bool
is_astray one s = is_status_for one.place s && not (s.to == one.caller && s.frame.seq == one.seq)

abbrev pub astray : Call → List Sent → ℕ
astray one sent = count_of (is_astray one) sent

less : (a b : Bool) → bit (a && b) ≤ bit a + 0
less true true = omega arith
less true false = omega arith
less false b = omega arith

pub none_astray_for : (one : Call) (sent : List Sent) → statuses one.place sent ≡ 0 → astray one sent ≡ 0
none_astray_for one sent none = count_none (is_astray one) (is_status_for one.place) (λ s. less (is_status_for one.place s) (not (s.to == one.caller && s.frame.seq == one.seq))) sent none

pub told_astray : (one call : Call) (status : Option ℕ) → bit (is_astray one (told status call)) ≤ bit (is_other one.place one.caller one.seq one.object call)
told_astray one call status = grind arith

all_told_astray : (one : Call) (status : Option ℕ) (calls : List Call) → astray one (map (told status) calls) ≤ others one calls
all_told_astray one status [] = omega arith
all_told_astray one status (call ∷ calls) = let h = all_told_astray one status calls in let this = told_astray one call status in omega (arith, h, this)

-- for each open call that goes a STATUS is sent
pub record Even (table : Table) (s : Step) : Type 0 where
  pub ledger : (i : ℕ) → statuses i s.sent + open_count i s.table.calls ≡ open_count i table.calls
  pub addressed : (one : Call) → astray one s.sent + others one s.table.calls ≤ others one table.calls
  pub fewer : (q : Call → Bool) → count_of q s.table.calls ≤ count_of q table.calls
  pub same : s.table.place ≡ table.place
  pub clients : s.table.clients ≡ table.clients

pub statuses_append : (i : ℕ) (a b : List Sent) → statuses i (a ++ b) ≡ statuses i a + statuses i b
statuses_append i a b = count_append _ a b

pub all_told : (i : ℕ) (status : Option ℕ) (calls : List Call) → statuses i (map (told status) calls) ≡ open_count i calls
all_told i status [] = omega arith
all_told i status (call ∷ calls) = let h = all_told i status calls in omega (arith, h)

-- no frame is for a call, and the calls stay
pub record Apart (table : Table) (s : Step) : Type 0 where
  pub none : tagged s.sent ≡ 0
  pub calls : s.table.calls ≡ table.calls
  pub same : s.table.place ≡ table.place
  pub clients : s.table.clients ≡ table.clients

pub even_apart : (table : Table) (s : Step) → Apart table s → Even table s
even_apart table s a = record {
  ledger = λ i. let h = none_for i s.sent a.none in let same = ap (open_count i) a.calls in omega (arith, h, same);
  addressed = λ one. let h = none_astray_for one s.sent (none_for one.place s.sent a.none) in let same = ap (others one) a.calls in omega (arith, h, same);
  fewer = λ q. let same = ap (count_of q) a.calls in omega (arith, same);
  same = a.same;
  clients = a.clients;
}

pub even_quiet : (table : Table) → Even table (says table [])
even_quiet table = even_apart table (says table []) (record { none = refl; calls = refl; same = refl; clients = refl })

pub even_more : (table : Table) (s : Step) (more : List Sent) → Even table s → tagged more ≡ 0 → Even table (says s.table (s.sent ++ more))
even_more table s more e none = record {
  ledger = λ i. let h = e.ledger i in let sum = statuses_append i s.sent more in let zero = none_for i more none in omega (arith, h, sum, zero);
  addressed = λ one. let h = e.addressed one in let sum = count_append (is_astray one) s.sent more in let zero = none_astray_for one more (none_for one.place more none) in omega (arith, h, sum, zero);
  fewer = e.fewer;
  same = e.same;
  clients = e.clients;
}

farewells_plain : (fits : Frame → Bool) (table : Table) (number : ℕ) → tagged (farewells fits table number) ≡ 0
farewells_plain fits table number =
    tagged_each (λ subscriber. to_owner fits (owner_of table subscriber) (gone subscriber number)) (λ subscriber. tagged_owner fits (owner_of table subscriber) (gone subscriber number)) (subscribers_of table.subscriptions number)

pub activity_plain : (fits : Frame → Bool) (table : Table) (target : ℕ) (flag : Bool) → tagged (activity fits table target flag) ≡ 0
activity_plain fits table target flag = tagged_owner fits (owner_of table target) _

endings_plain : (fits : Frame → Bool) (table : Table) (number : ℕ) → tagged (endings fits table number) ≡ 0
endings_plain fits table number =
    tagged_each (λ target. if not (target == number) && is_alone (untouched number table.subscriptions) target then activity fits table target false else [])
    (λ target. tagged_if (not (target == number) && is_alone (untouched number table.subscriptions) target) (activity fits table target false) [] (activity_plain fits table target false) refl) (targets_of table.subscriptions number)

pub even_object_left : (fits : Frame → Bool) (table : Table) (number : ℕ) → Even table (object_left fits table number)
even_object_left fits table number =
    let gone_calls = map (told (Some 10)) (filter (is_on number) table.calls) in
    let rest = farewells fits table number ++ endings fits table number in
    let none = tagged_append (farewells fits table number) (endings fits table number) (farewells_plain fits table number) (endings_plain fits table number) in
    record {
      ledger = λ i.
          let split = count_split (is_on number) (λ (c : Call). c.place == i) table.calls in
          let told_all = all_told i (Some 10) (filter (is_on number) table.calls) in
          let sum = statuses_append i gone_calls rest in
          let zero = none_for i rest none in
          omega (arith, split, told_all, sum, zero);
      addressed = λ one.
          let split = count_split (is_on number) (is_other one.place one.caller one.seq one.object) table.calls in
          let told_all = all_told_astray one (Some 10) (filter (is_on number) table.calls) in
          let sum = count_append (is_astray one) gone_calls rest in
          let zero = none_astray_for one rest (none_for one.place rest none) in
          omega (arith, split, told_all, sum, zero);
      fewer = λ q. let split = count_split (is_on number) q table.calls in omega (arith, split);
      same = refl;
      clients = refl;
    }

pub even_followed : (table : Table) (a b : Step) → Even table a → Even a.table b → Even table (followed a b)
even_followed table a b e f = record {
  ledger = λ i. let h = e.ledger i in let g = f.ledger i in let both = statuses_append i a.sent b.sent in omega (arith, h, g, both);
  addressed = λ one. let h = e.addressed one in let g = f.addressed one in let both = count_append (is_astray one) a.sent b.sent in omega (arith, h, g, both);
  fewer = λ q. let h = e.fewer q in let g = f.fewer q in omega (arith, h, g);
  same = f.same ∙ e.same;
  clients = f.clients ∙ e.clients;
}

pub even_objects_left : (fits : Frame → Bool) (table : Table) (numbers : List ℕ) → Even table (objects_left fits table numbers)
even_objects_left fits table [] = even_quiet table
even_objects_left fits table (number ∷ numbers) =
    even_followed table (object_left fits table number) (objects_left fits (object_left fits table number).table numbers)
    (even_object_left fits table number) (even_objects_left fits (object_left fits table number).table numbers)

pub even_if : (b : Bool) (table : Table) (x y : Step) → Even table x → Even table y → Even table (if b then x else y)
even_if true table x y e f = e
even_if false table x y e f = f

-- What a step may do: a STATUS goes with an open call, or is for the message of this step. Calls that it opens are of this step.
pub record Orderly (table : Table) (s : Step) : Type 0 where
  pub ledger : (i : ℕ) → table.place == i ≡ false → statuses i s.sent + open_count i s.table.calls ≤ open_count i table.calls
  pub addressed : (one : Call) → table.place == one.place ≡ false → astray one s.sent + others one s.table.calls ≤ others one table.calls
  pub fewer : (q : Call → Bool) → ((call : Call) → call.place ≡ table.place → q call ≡ false) → count_of q s.table.calls ≤ count_of q table.calls
  pub alone : (caller seq : ℕ) → 1 ≤ count_of (is_named caller seq) table.calls → count_of (is_named caller seq) s.table.calls ≤ count_of (is_named caller seq) table.calls
  pub same : s.table.place ≡ table.place

pub even_step : (table : Table) (s : Step) → Even table s → Orderly table s
even_step table s e = record {
  ledger = λ i _. let h = e.ledger i in omega (arith, h);
  addressed = λ one _. e.addressed one;
  fewer = λ q _. e.fewer q;
  alone = λ caller seq _. e.fewer (is_named caller seq);
  same = e.same;
}

pub step_if : (b : Bool) (table : Table) (x y : Step) → Orderly table x → Orderly table y → Orderly table (if b then x else y)
step_if true table x y e f = e
step_if false table x y e f = f
