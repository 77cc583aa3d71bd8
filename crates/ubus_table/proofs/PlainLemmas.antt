-- Frames that are no STATUS for an INVOKE.
use Rattle.std.proofs.Common.{arith, ◌≡◌, ◌+◌, ◌≤◌, ℕ, List, [], ◌∷◌, ◌++◌, Bool, true, false, refl}
use Rattle.std.specs.Prelude.{Option, Some, None, if◌then◌else◌, ◌&&◌, ◌==◌, not, is_some}
use Rattle.std.specs.List.{flat_map}
use Rattle.blob_codec.specs.declared.blob.Attr.{Attr}
use Rattle.ubus_frames.specs.declared.frame.Frame.{Frame}
use Rattle.ubus_table.specs.Table.{Table, Client, Call}
use Rattle.ubus_table.specs.Frames.{Sent, STATUS, plain, where_fits, to_owner, with_data, answer, status_reply, is_set}
use Rattle.ubus_table.specs.Refusal.{Refusal, numbered, denial, data_of, denial_data, refused, refused_if_asked}
use Rattle.ubus_table.specs.Run.{count_of, is_place, is_status_for, statuses}
use Rattle.ubus_table.proofs.CountLemmas.{bit, at_most_one, count_append, count_none}

-- how many frames are for the message of some place
abbrev pub tagged : List Sent → ℕ
tagged sent = count_of (λ (s : Sent). is_some s.place) sent

pub tagged_append : (a b : List Sent) → tagged a ≡ 0 → tagged b ≡ 0 → tagged (a ++ b) ≡ 0
tagged_append a b first later = let sum = count_append (λ (s : Sent). is_some s.place) a b in omega (arith, sum, first, later)

pub tagged_if : (b : Bool) (x y : List Sent) → tagged x ≡ 0 → tagged y ≡ 0 → tagged (if b then x else y) ≡ 0
tagged_if true x y h k = h
tagged_if false x y h k = k

pub tagged_where : (fits : Frame → Bool) (to : ℕ) (frame : Frame) → tagged (where_fits fits to frame) ≡ 0
tagged_where fits to frame = tagged_if (fits frame) (plain to frame ∷ []) [] refl refl

pub tagged_owner : (fits : Frame → Bool) (owner : Option ℕ) (frame : Frame) → tagged (to_owner fits owner frame) ≡ 0
tagged_owner fits None frame = refl
tagged_owner fits (Some owner) frame = tagged_where fits owner frame

pub tagged_each : {X : Type 0} (f : X → List Sent) → ((x : X) → tagged (f x) ≡ 0) → (xs : List X) → tagged (flat_map f xs) ≡ 0
tagged_each f each [] = refl
tagged_each f each (x ∷ xs) = tagged_append (f x) (flat_map f xs) (each x) (tagged_each f each xs)

pub tagged_answered : (fits : Frame → Bool) (client : ℕ) (request : Frame) (frames : List Frame) → tagged (with_data fits client request frames) ≡ 0
tagged_answered fits client request frames = tagged_append (flat_map (where_fits fits client) frames) _ (tagged_each (where_fits fits client) (tagged_where fits client) frames) refl

pub tagged_denial : (fits : Frame → Bool) (client : ℕ) (request : Frame) (reason : Refusal) → tagged (data_of fits client request reason) ≡ 0
tagged_denial fits client request (numbered code) = refl
tagged_denial fits client request (denial function object) = tagged_where fits client (denial_data request function object)

pub tagged_refused : (fits : Frame → Bool) (client : ℕ) (request : Frame) (reason : Refusal) → tagged (refused fits None client request reason) ≡ 0
tagged_refused fits client request reason = tagged_append (data_of fits client request reason) _ (tagged_denial fits client request reason) refl

pub tagged_if_asked : (fits : Frame → Bool) (client : ℕ) (request : Frame) (reason : Refusal) → tagged (refused_if_asked fits None client request reason) ≡ 0
tagged_if_asked fits client request reason = tagged_if (is_set request.no_reply) [] (refused fits None client request reason) refl (tagged_refused fits client request reason)

place_there : (b : Bool) (i : ℕ) (place : Option ℕ) → bit (b && is_place i place) ≤ bit (is_some place) + 0
place_there true i None = omega arith
place_there true i (Some n) = at_most_one (n == i)
place_there false i None = omega arith
place_there false i (Some n) = omega arith

pub none_for : (i : ℕ) (sent : List Sent) → tagged sent ≡ 0 → statuses i sent ≡ 0
none_for i sent none = count_none (is_status_for i) (λ (s : Sent). is_some s.place) (λ s. place_there (s.frame.kind == STATUS) i s.place) sent none
