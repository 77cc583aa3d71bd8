use Rattle.std.proofs.Common.{List, false, refl, sym, subst}
use Rattle.ubus_table.specs.declared.rows.Object.{Object}
use Rattle.ubus_state.specs.Pairs.{owner_pair, type_pair}
use Rattle.ubus_state.specs.Rising.{IsRising, object_number}
use Rattle.ubus_state.proofs.ObjectLemmas.{row_taken}
use Rattle.ubus_state.proofs.PairLemmas.{updates_at}
use Rattle.ubus_state.proofs.PathLemmas.{path_taken}
use Rattle.ubus_state.proofs.RisingLemmas.{climbs, rising_removed}
use Rattle.ubus_state.proofs.object_rows.ObjectRows.take.Goals as goal

pub invariant_of-self : goal.invariant_of-self
invariant_of-self c =
    let rows : List Object = c.args.self.now.rows.items in
    let object : Object = c.remove-object.result in
    let climb = climbs object_number rows c.args.self.now.rising.0 in
    record {
      rising = subst (λ (rs : List Object). IsRising object_number rs c.args.self.now.next) (sym c.remove-object.ensures.items) (rising_removed object_number rows c.args.self.now.next c.args.place c.args.self.now.rising);
      owned = row_taken object_number owner_pair (λ other. refl) c.args.self.now.by_owner c.remove.new.self rows c.remove-object.new.self.items c.args.place object c.args.self.now.owned climb c.requires c.remove-object.ensures.value
          (updates_at c.args.self.now.by_owner c.remove.new.self c.pair.result (owner_pair object) false c.pair.ensures c.remove.ensures.updates.0) c.remove-object.ensures.items;
      typed = row_taken object_number type_pair (λ other. refl) c.args.self.now.by_type c.remove-2.new.self rows c.remove-object.new.self.items c.args.place object c.args.self.now.typed climb c.requires c.remove-object.ensures.value
          (updates_at c.args.self.now.by_type c.remove-2.new.self c.pair-2.result (type_pair object) false c.pair-2.ensures c.remove-2.ensures.updates.0) c.remove-object.ensures.items;
      named = path_taken c.args.self.now.by_path c.forget_path.new.paths rows c.remove-object.new.self.items c.args.place object c.args.self.now.named c.requires c.remove-object.ensures.value c.forget_path.ensures
          c.remove-object.ensures.items;
    }
