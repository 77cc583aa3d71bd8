-- What the bus tells.
use Rattle.std.proofs.Common.{ℕ, ◌≡◌, List, [], ◌∷◌, ◌++◌, Bool, false, true, Option, Some, None, refl, sym, ap, subst, ◌∙◌, append-nil}
use Rattle.std.specs.Prelude.{Ok, ◌||◌}
use Rattle.std.specs.List.{find, list_any}
use Rattle.blob_codec.specs.declared.blob.Attr.{Attr}
use Rattle.ubus_table.specs.Table.{Call}
use Rattle.ubus_table.specs.Refusal.{Step}
use Rattle.ubus_table.specs.Clients.{is_handed_out, replied_to}
use Rattle.ubus_table.specs.Served.{served, counted, leave, local_reply}
use Rattle.ubus_send.specs.Fits.{fits}
use Rattle.ubus_broker.specs.declared.broker.Served.{Served}
use Rattle.ubus_broker.specs.declared.broker.Broker.{Broker}
use Rattle.ubus_broker.specs.Did.{table_of, Did}
use Rattle.bus_clients.specs.Clients.{ScriptClient, client_at, without}
use Rattle.bus_clients.specs.Sends.{send_lines}
use Rattle.bus_clients.specs.Bus.{BusPart, came, came_by, closed_of, lines_in, IsTold, Answers}

-- where no call passes none is found
none_found : (p : Call → Bool) (calls : List Call) → list_any p calls ≡ false → find p calls ≡ None
none_found p [] h = refl
none_found p (call ∷ calls) h = by_test (p call) refl h (none_found p calls)
  where
    by_test : (b : Bool) → p call ≡ b → list_any p (call ∷ calls) ≡ false → (list_any p calls ≡ false → find p calls ≡ None) → find p (call ∷ calls) ≡ None
    by_test true e here more = absurd (cc (sym (ap (λ b. b || list_any p calls) e) ∙ here))
    by_test false e here more = rw e (more (sym (ap (λ b. b || list_any p calls) e) ∙ here))

-- a call that is not handed out gets no answer
pub not_answered : (broker : Broker) (clients : List ScriptClient) (caller seq object status : ℕ) (payload : Option (List Attr)) (told : List ℕ)
    → list_any (is_handed_out caller seq object) (table_of broker).calls ≡ false
    → IsTold (came_by (record { table = table_of broker; clients = clients }) (local_reply caller seq object status payload)) (record { table = table_of broker; clients = clients }) told told
not_answered broker clients caller seq object status payload told none =
    let table = table_of broker in
    let same = ap (λ found. came clients (counted (replied_to fits table (is_handed_out caller seq object) status payload found)))
    (none_found (is_handed_out caller seq object) table.calls none) in
    subst (λ done. IsTold done (record { table = table; clients = clients }) told told) (sym same)
    (record { next = refl; lines = sym (append-nil told) })

-- the lines of a step of the code
told_by : (clients : List ScriptClient) (step : Step) (now : Broker) (done : Served) (told told_now : List ℕ) → Did step (table_of now) done.out done.call
    → told_now ≡ told ++ lines_in clients done → IsTold (came clients step) (record { table = table_of now; clients = clients }) told told_now
told_by clients step now done told told_now did lines = record {
  next = ap (λ t. record { table = t; clients = clients }) did.table;
  lines = lines ∙ ap (λ out. told ++ send_lines clients out) did.sent;
}

-- a client closed
pub closes : {A : Type 0} (part : BusPart) (key : ℕ) (client : ScriptClient) (kept : List ScriptClient) (now : Broker) (done : Served) (told told_now : List ℕ) (x : A)
    → Some client ≡ client_at part.clients key → kept ≡ without key part.clients
    → Did (served fits part.table (leave client.number)) (table_of now) done.out done.call → told_now ≡ told ++ lines_in kept done
    → Answers (closed_of part key (client_at part.clients key)) part (record { table = table_of now; clients = kept }) told told_now (Ok x)
closes {A} part key client kept now done told told_now x is rest did lines =
    let after : BusPart = record { table = table_of now; clients = kept } in
    subst (λ found. Answers {A = A} (closed_of part key found) part after told told_now (Ok x)) is
    (subst (λ others. IsTold (came others (served fits part.table (leave client.number))) after told told_now) rest
    (told_by kept (served fits part.table (leave client.number)) now done told told_now did lines))
