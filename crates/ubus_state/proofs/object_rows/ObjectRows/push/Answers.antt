use Rattle.std.proofs.Common.{ℕ, ◌≡◌, ◌+◌, ◌++◌, ◌∷◌, List, [], map, true, false, refl, sym, ap, subst, ◌∙◌}
use Rattle.std.specs.BTreeSet.{BTreeSet}
use Rattle.ubus_table.specs.declared.rows.Object.{Object}
use Rattle.ubus_state.specs.Pairs.{owner_pair, type_pair, HasPairs}
use Rattle.ubus_state.specs.Paths.{HasPaths}
use Rattle.ubus_state.specs.Rising.{IsRising, object_number}
use Rattle.ubus_state.proofs.ObjectLemmas.{no_pair}
use Rattle.ubus_state.proofs.PairLemmas.{has_as, pairs_back, row_pushed, same_keys, updates_at}
use Rattle.ubus_state.proofs.PathLemmas.{path_pushed, same_numbers}
use Rattle.ubus_state.proofs.RisingLemmas.{all_below, rising_pushed}
use Rattle.ubus_state.proofs.object_rows.ObjectRows.push.Goals as goal

pub invariant_of-self-in_default : goal.invariant_of-self-in_default
invariant_of-self-in_default c =
    let rows : List Object = c.args.self.now.rows.items in
    let object : Object = c.args.object in
    record {
      rising = subst (λ (rs : List Object). IsRising object_number rs c.args.self.now.next) (sym c.reserve.ensures.items) c.args.self.now.rising;
      owned = has_as c.remove.new.self (map owner_pair c.reserve.new.self.items) (map owner_pair rows) (ap (map owner_pair) c.reserve.ensures.items)
          (pairs_back c.args.self.now.by_owner c.insert.new.self c.remove.new.self (map owner_pair rows) (owner_pair object) c.args.self.now.owned
          (no_pair object_number owner_pair (λ other. refl) object rows (all_below object_number rows c.args.self.now.next object c.args.self.now.rising c.requires.next))
          (updates_at c.args.self.now.by_owner c.insert.new.self c.pair-owned.result (owner_pair object) true c.pair-owned.ensures c.in_ok-insert.ensures.updates.0)
          (updates_at c.insert.new.self c.remove.new.self c.pair-owned.result (owner_pair object) false c.pair-owned.ensures c.remove.ensures.updates.0));
      typed = has_as c.insert-2.new.self (map type_pair c.reserve.new.self.items) (map type_pair rows) (ap (map type_pair) c.reserve.ensures.items)
          (same_keys c.args.self.now.by_type c.insert-2.new.self (map type_pair rows) c.in_default.ensures.err c.args.self.now.typed);
      named = subst (λ (rs : List Object). HasPaths c.args.self.now.by_path rs) (sym c.reserve.ensures.items) c.args.self.now.named;
    }

pub invariant_of-self-in_default-note_path : goal.invariant_of-self-in_default-note_path
invariant_of-self-in_default-note_path c =
    let rows : List Object = c.args.self.now.rows.items in
    let object : Object = c.args.object in
    let below = all_below object_number rows c.args.self.now.next object c.args.self.now.rising c.requires.next in
    record {
      rising = subst (λ (rs : List Object). IsRising object_number rs c.args.self.now.next) (sym c.reserve.ensures.items) c.args.self.now.rising;
      owned = has_as c.remove-in_default-note_path.new.self (map owner_pair c.reserve.new.self.items) (map owner_pair rows) (ap (map owner_pair) c.reserve.ensures.items)
          (pairs_back c.args.self.now.by_owner c.insert.new.self c.remove-in_default-note_path.new.self (map owner_pair rows) (owner_pair object) c.args.self.now.owned
          (no_pair object_number owner_pair (λ other. refl) object rows below)
          (updates_at c.args.self.now.by_owner c.insert.new.self c.pair-owned.result (owner_pair object) true c.pair-owned.ensures c.in_ok-insert.ensures.updates.0)
          (updates_at c.insert.new.self c.remove-in_default-note_path.new.self c.pair-owned.result (owner_pair object) false c.pair-owned.ensures c.remove-in_default-note_path.ensures.updates.0));
      typed = has_as c.remove-in_default-note_path-2.new.self (map type_pair c.reserve.new.self.items) (map type_pair rows) (ap (map type_pair) c.reserve.ensures.items)
          (pairs_back c.args.self.now.by_type c.insert-2.new.self c.remove-in_default-note_path-2.new.self (map type_pair rows) (type_pair object) c.args.self.now.typed
          (no_pair object_number type_pair (λ other. refl) object rows below)
          (updates_at c.args.self.now.by_type c.insert-2.new.self c.pair-typed.result (type_pair object) true c.pair-typed.ensures c.in-Ok.ensures.updates.0)
          (updates_at c.insert-2.new.self c.remove-in_default-note_path-2.new.self c.pair-typed.result (type_pair object) false c.pair-typed.ensures c.remove-in_default-note_path-2.ensures.updates.0));
      named = subst (λ (rs : List Object). HasPaths c.note_path.new.paths rs) (sym c.reserve.ensures.items)
          (same_numbers c.args.self.now.by_path c.note_path.new.paths rows c.in_default-note_path.ensures.err c.args.self.now.named);
    }

pub invariant_of-self-2 : goal.invariant_of-self-2
invariant_of-self-2 c =
    let rows : List Object = c.args.self.now.rows.items in
    let object : Object = c.args.object in
    let later : List Object = c.push_reserved.new.self.items in
    let made : later ≡ rows ++ object ∷ [] = c.push_reserved.ensures.items ∙ ap (λ (z : List Object). z ++ object ∷ []) c.reserve.ensures.items in
    record {
      rising = subst (λ (n : ℕ). IsRising object_number later (n + 1)) (sym c.from-next.ensures)
          (subst (λ (rs : List Object). IsRising object_number rs (object.number + 1)) (sym made) (rising_pushed object_number rows c.args.self.now.next object c.args.self.now.rising c.requires.next));
      owned = row_pushed owner_pair c.args.self.now.by_owner c.insert.new.self rows later object c.args.self.now.owned
          (updates_at c.args.self.now.by_owner c.insert.new.self c.pair-owned.result (owner_pair object) true c.pair-owned.ensures c.in_ok-insert.ensures.updates.0) made;
      typed = row_pushed type_pair c.args.self.now.by_type c.insert-2.new.self rows later object c.args.self.now.typed
          (updates_at c.args.self.now.by_type c.insert-2.new.self c.pair-typed.result (type_pair object) true c.pair-typed.ensures c.in-Ok.ensures.updates.0) made;
      named = path_pushed c.args.self.now.by_path c.note_path.new.paths rows later object c.args.self.now.named c.requires.free c.in-Ok-note_path.ensures.ok made;
    }
