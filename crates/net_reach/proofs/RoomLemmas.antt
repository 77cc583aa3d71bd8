-- Lists of places by name, of which one is written in its place, or comes with room.
use Rattle.std.proofs.Common.{◌≡◌, ◌<◌, ℕ, List, [], ◌∷◌, ◌++◌, Bool, true, false, cond, Option, Some, None, refl, sym, ap, subst, ◌∙◌, append-nil, bytes_eq, Vec}
use Rattle.std.specs.Prelude.{is_some, vec_len, vec_capacity}
use Rattle.std.specs.Ordering.{nat_cmp}
use Rattle.std.specs.Cmp.Lexicographic.{slice_cmp, texts_ties}
use Rattle.std.specs.BTreeMap.{get, is_at}
use Rattle.std.specs.Map.{lookup}
use Rattle.std.specs.declared.alloc.Global.{Global}
use Rattle.kern_model.proofs.TestLemmas.{bytes_same, same_bytes}
use Rattle.net_view.specs.RadioPorts.{group_in, list_of}
use Rattle.net_reach.specs.Groups.{Groups, HasRoomAt}

pub of_some : {X : Type 0} {o : Option X} {x : X} → o ≡ Some x → is_some o ≡ true
of_some h = ap is_some h

-- a name has a list now, and the others have what they had
abbrev pub HasWritten : Groups → Groups → List ℕ → Vec ℕ Global → Type 0
HasWritten old new name group =
    (q : List ℕ) → get (slice_cmp nat_cmp) new q ≡ cond (is_at (slice_cmp nat_cmp name) q) (Some group) (get (slice_cmp nat_cmp) old q)

module _ (old new : Groups) (name : List ℕ) (group : Vec ℕ Global) (written : HasWritten old new name group) where
  written_at : (q : List ℕ) → get (slice_cmp nat_cmp) new q ≡ cond (bytes_eq name q) (Some group) (get (slice_cmp nat_cmp) old q)
  written_at q = written q ∙ ap (λ b. cond b (Some group) (get (slice_cmp nat_cmp) old q)) (sym (texts_ties name q))

  pub room_here : vec_len group < vec_capacity group → HasRoomAt new name
  room_here room = record {
    group = group;
    found = written_at name ∙ ap (λ b. cond b (Some group) (get (slice_cmp nat_cmp) old name)) (same_bytes name name refl);
    room = room;
  }

  room_there : (q : List ℕ) → bytes_eq name q ≡ false → HasRoomAt old q → HasRoomAt new q
  room_there q other has = record {
    group = has.group;
    found = written_at q ∙ ap (λ b. cond b (Some group) (get (slice_cmp nat_cmp) old q)) other ∙ has.found;
    room = has.room;
  }

  -- one list in place of another
  module _ (was : Vec ℕ Global) (had : get (slice_cmp nat_cmp) old name ≡ Some was) where
    pub written_places : (change : List ℕ → List ℕ) → group.items ≡ change was.items → (q : List ℕ) → group_in new q ≡ cond (bytes_eq name q) (change (group_in old q)) (group_in old q)
    written_places change changed q = ap list_of (written_at q) ∙ at (bytes_eq name q) refl
      where
        at : (b : Bool) → bytes_eq name q ≡ b → list_of (cond b (Some group) (get (slice_cmp nat_cmp) old q)) ≡ cond b (change (group_in old q)) (group_in old q)
        at true h = changed ∙ ap change (sym (ap list_of had) ∙ ap (group_in old) (bytes_same name q h))
        at false h = refl

    pub same_places : group.items ≡ was.items → (q : List ℕ) → group_in new q ≡ group_in old q
    same_places same q = written_places (λ z. z) same q ∙ either_one (bytes_eq name q) (group_in old q)
      where
        either_one : (b : Bool) (z : List ℕ) → cond b z z ≡ z
        either_one true z = refl
        either_one false z = refl

    pub place_comes : (place : ℕ) → group.items ≡ was.items ++ place ∷ [] → (q : List ℕ) → group_in new q ≡ group_in old q ++ cond (bytes_eq name q) (place ∷ []) []
    place_comes place pushed q = written_places (λ z. z ++ place ∷ []) pushed q ∙ at (bytes_eq name q) (group_in old q)
      where
        at : (b : Bool) (z : List ℕ) → cond b (z ++ place ∷ []) z ≡ z ++ cond b (place ∷ []) []
        at true z = refl
        at false z = sym (append-nil z)

    pub rooms_stay : (vec_len was < vec_capacity was → vec_len group < vec_capacity group) → (q : List ℕ) → HasRoomAt old q → HasRoomAt new q
    rooms_stay more q has = by (bytes_eq name q) refl
      where
        by : (b : Bool) → bytes_eq name q ≡ b → HasRoomAt new q
        by true h =
            let same : has.group ≡ was = let both = sym has.found ∙ ap (get (slice_cmp nat_cmp) old) (sym (bytes_same name q h)) ∙ had in cc both in
            let room : vec_len was < vec_capacity was = subst (λ (v : Vec ℕ Global). vec_len v < vec_capacity v) same has.room in
            subst (HasRoomAt new) (bytes_same name q h) (room_here (more room))
        by false h = room_there q h has

  -- a list where there was none
  module _ (none : get (slice_cmp nat_cmp) old name ≡ None) where
    pub new_places : group.items ≡ [] → (q : List ℕ) → group_in new q ≡ group_in old q
    new_places empty q = ap list_of (written_at q) ∙ at (bytes_eq name q) refl
      where
        at : (b : Bool) → bytes_eq name q ≡ b → list_of (cond b (Some group) (get (slice_cmp nat_cmp) old q)) ≡ group_in old q
        at true h = empty ∙ sym (ap list_of none) ∙ ap (group_in old) (bytes_same name q h)
        at false h = refl

    pub new_rooms : (q : List ℕ) → HasRoomAt old q → HasRoomAt new q
    new_rooms q has = by (bytes_eq name q) refl
      where
        by : (b : Bool) → bytes_eq name q ≡ b → HasRoomAt new q
        by true h = let both = sym none ∙ ap (get (slice_cmp nat_cmp) old) (bytes_same name q h) ∙ has.found in cc both
        by false h = room_there q h has

pub unchanged_rooms : (old new : Groups) → new.entries ≡ old.entries → (q : List ℕ) → HasRoomAt old q → HasRoomAt new q
unchanged_rooms old new same q has = record {
  group = has.group;
  found = ap (λ (es : List (List ℕ × Vec ℕ Global)). lookup (is_at (slice_cmp nat_cmp q)) es) same ∙ has.found;
  room = has.room;
}
