-- The calls that a NOTIFY opens.
use Rattle.std.proofs.Common.{ℕ, ◌≡◌, List, [], ◌∷◌, ◌++◌, map, Bool, true, false, not, refl}
use Rattle.std.specs.Prelude.{◌&&◌, if◌then◌else◌}
use Rattle.ubus_frames.specs.declared.frame.Frame.{Frame}
use Rattle.ubus_table.specs.Table.{Table, Call}
use Rattle.ubus_table.specs.declared.rows.Client.{Client}
use Rattle.ubus_table.specs.Frames.{is_set}
use Rattle.ubus_table.specs.Calls.{passed_on, call_on, reached, opened}
use Rattle.ubus_send.proofs.OutLemmas.{out_more}

-- the calls that a NOTIFY opens on one object more
opened_at : (b : Bool) (call : Call) (calls : List Call) → (if b then call ∷ calls else calls) ≡ (if b then call ∷ [] else []) ++ calls
opened_at true call calls = refl
opened_at false call calls = refl

pub opened_more : (fits : Frame → Bool) (table : Table) (client : Client) (request : Frame) (object : ℕ) (objects : List ℕ)
    → opened fits table client request (object ∷ objects) ≡ opened fits table client request (object ∷ []) ++ opened fits table client request objects
opened_more fits table client request object objects = by_asked (is_set request.no_reply) (fits (passed_on client request object))
  where
    call : Call
    call = call_on table client request object

    others : List Call
    others = map (call_on table client request) (reached fits client request objects)

    by_asked : (silent b : Bool)
        → (if silent then [] else map (call_on table client request) (if b then object ∷ reached fits client request objects else reached fits client request objects))
        ≡ (if silent then [] else map (call_on table client request) (if b then object ∷ [] else [])) ++ (if silent then [] else others)
    by_asked true b = refl
    by_asked false true = refl
    by_asked false false = refl

-- the call that a NOTIFY opens on one object
one_at : (silent b : Bool) (call : Call) (object : ℕ) (calls : List ℕ → List Call) → calls (object ∷ []) ≡ call ∷ [] → (not silent && b) ≡ true
    → (if silent then [] else calls (if b then object ∷ [] else [])) ≡ call ∷ []
one_at true b call object calls is h = absurd (let e : false ≡ true = h in cc)
one_at false true call object calls is h = is
one_at false false call object calls is h = absurd (let e : false ≡ true = h in cc)

none_at : (silent b : Bool) (object : ℕ) (calls : List ℕ → List Call) → calls [] ≡ [] → (not silent && b) ≡ false
    → (if silent then [] else calls (if b then object ∷ [] else [])) ≡ []
none_at true b object calls is h = refl
none_at false true object calls is h = absurd (let e : true ≡ false = h in cc)
none_at false false object calls is h = is

pub opened_one : (fits : Frame → Bool) (table : Table) (client : Client) (request : Frame) (object : ℕ) → (not (is_set request.no_reply) && fits (passed_on client request object)) ≡ true
    → opened fits table client request (object ∷ []) ≡ call_on table client request object ∷ []
opened_one fits table client request object h =
    one_at (is_set request.no_reply) (fits (passed_on client request object)) (call_on table client request object) object (map (call_on table client request)) refl h

pub opened_none : (fits : Frame → Bool) (table : Table) (client : Client) (request : Frame) (object : ℕ) → (not (is_set request.no_reply) && fits (passed_on client request object)) ≡ false
    → opened fits table client request (object ∷ []) ≡ []
opened_none fits table client request object h = none_at (is_set request.no_reply) (fits (passed_on client request object)) object (map (call_on table client request)) refl h

pub ruleset more_opened = (out_more, opened_more)
