-- Clients by their places.
use Rattle.std.proofs.Common.{arith, ℕ, suc, ◌≡◌, ◌+◌, List, [], ◌∷◌, Bool, true, false, Some, None, get_or, set, refl, ap, sym, subst, ◌∙◌}
use Rattle.std.specs.Prelude.{if◌then◌else◌}
use Rattle.std.specs.List.{position, position_from}
use Rattle.std.proofs.lemmas.Iterator.Adapters.{position_from-zero}
use Rattle.ubus_frames.specs.Stream.{Stream}
use Rattle.bus_clients.specs.Clients.{ScriptClient, has_key, client_at, with_stream}

-- the first client with the key is at this place
pub record FirstAt (key : ℕ) (clients : List ScriptClient) (place : ℕ) : Type 0 where
  pub found : (d : ScriptClient) → client_at clients key ≡ Some (get_or clients place d)
  pub changed : (stream : Stream) (d : ScriptClient)
      → with_stream key stream clients ≡ set clients place (record (get_or clients place d) { feeder = stream })

first_from : (key : ℕ) (clients : List ScriptClient) (i k : ℕ) → position_from (has_key key) i clients ≡ Some k → (j : ℕ) × (k ≡ i + j) × FirstAt key clients j
first_from key [] i k h = absurd (no h)
  where
    no : None ≡ Some k → ⊥
    no e = grind (arith, e)
first_from key (client ∷ clients) i k h = by_test (has_key key client) refl h (first_from key clients (i + 1) k)
  where
    by_test : (b : Bool) → has_key key client ≡ b → (if b then Some i else position_from (has_key key) (i + 1) clients) ≡ Some k
        → (position_from (has_key key) (i + 1) clients ≡ Some k → (j : ℕ) × (k ≡ i + 1 + j) × FirstAt key clients j)
        → (j : ℕ) × (k ≡ i + j) × FirstAt key (client ∷ clients) j
    by_test true e here more = (0, grind (arith, here), record { found = λ d. rw e refl; changed = λ stream d. rw e refl })
    by_test false e here more =
        let m = more here in
        let at = m.2 in (
          suc m.0,
          (let place = m.1 in omega (arith, place)),
          record { found = λ d. rw e (at.found d); changed = λ stream d. rw e (ap (λ z. client ∷ z) (at.changed stream d)) },
        )

pub first_at : (key : ℕ) (clients : List ScriptClient) (place : ℕ) → position (has_key key) clients ≡ Some place → FirstAt key clients place
first_at key clients place h =
    let f = first_from key clients 0 place (sym (position_from-zero (has_key key) clients) ∙ h) in
    subst (FirstAt key clients) (let at = f.1 in omega (arith, at)) f.2

none_from : (key : ℕ) (clients : List ScriptClient) (i : ℕ) → position_from (has_key key) i clients ≡ None → client_at clients key ≡ None
none_from key [] i h = refl
none_from key (client ∷ clients) i h = let more = none_from key clients (i + 1) in grind (arith, h, more)

pub first_none : (key : ℕ) (clients : List ScriptClient) → position (has_key key) clients ≡ None → client_at clients key ≡ None
first_none key clients h = none_from key clients 0 (sym (position_from-zero (has_key key) clients) ∙ h)

pub not_none : (key : ℕ) (clients : List ScriptClient) (place : ℕ) (d : ScriptClient) → position (has_key key) clients ≡ Some place → client_at clients key ≡ None → ⊥
not_none key clients place d at none = absurd (cc (sym none ∙ (first_at key clients place at).found d))
