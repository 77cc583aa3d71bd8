use Rattle.std.proofs.Common.{arith, ◌-◌, ap, refl, sym, subst, ◌∙◌}
use Rattle.given_objects.specs.declared.gift.Gift.{Gift}
use Rattle.given_objects.specs.declared.gift.Counts.{Counts}
use Rattle.given_objects.specs.Gifts.{AreGifts, givers_of}
use Rattle.given_objects.specs.Changes.{given_once_less}
use Rattle.given_objects.specs.Inside.{listed}
use Rattle.indexmap.specs.IndexMap.{set_value_at}
use Rattle.given_objects.proofs.TableLemmas.{key_of, entry_at, written, givers_at, not_given}
use Rattle.given_objects.proofs.KeepLemmas.{withdraw_gifts}
use Rattle.given_objects.proofs.OrderedLemmas.{as_many, as_many_still}
use Rattle.given_objects.proofs.PlacesLemmas.{listed_written}
use Rattle.given_objects.proofs.given.GivenObjects.withdraw.Goals as goal

pub returns : goal.returns
returns c =
    let es = c.self.inside.table.entries in
    let counts : Counts = c.index_mut.result.now in
    written (λ (g : Gift). record g { givers = g.givers - 1 }) (key_of c.args.object.now) counts (record counts { givers = counts.givers - 1 }) refl es c.in-Some.place c.get_index_of.ensures.unique
    (entry_at (key_of c.args.object.now) es c.in-Some.place counts (sym c.in-Some.ensures.index) c.index_mut.ensures.value)
    ∙ ap (λ gs. given_once_less gs c.args.object.now) c.self.view_is

pub invariant_of-self : goal.invariant_of-self
invariant_of-self c =
    let es = c.self.inside.table.entries in
    let o = c.args.object.now in
    let counts : Counts = c.index_mut.result.now in
    let place = c.in-Some.place in
    let is = written (λ (g : Gift). record g { givers = g.givers - 1 }) (key_of o) counts (record counts { givers = counts.givers - 1 }) refl es place c.get_index_of.ensures.unique
    (entry_at (key_of o) es place counts (sym c.in-Some.ensures.index) c.index_mut.ensures.value) in
    let size = as_many_still es (set_value_at es place (record counts { givers = counts.givers - 1 })) (λ (g : Gift). record g { givers = g.givers - 1 }) o is in
    record {
      gifts = subst AreGifts (sym is) (withdraw_gifts (listed es) o c.self.invariant.gifts);
      order = record { takes = λ kept. absurd (cc kept); puts = λ kept. absurd (cc kept) };
      places = listed_written es c.self.inside.order.places.list.items c.self.inside.order.places.flags.items c.self.invariant.places place counts (record counts { givers = counts.givers - 1 }) c.index_mut.ensures.value
          c.list_place.new.places.list.items c.list_place.new.places.flags.items c.list_place.ensures.places c.list_place.ensures.flags;
      room = record {
        takes = omega (arith, size, c.self.invariant.room.takes);
        puts = omega (arith, size, c.self.invariant.room.puts);
        list = omega (arith, size, c.self.invariant.room.list, c.list_place.ensures.list_capacity);
        flags = omega (arith, size, c.self.invariant.room.flags, c.list_place.ensures.flags_capacity);
      };
    }

pub returns-in_default : goal.returns-in_default
returns-in_default c = absurd (not_given (key_of c.args.object.now) c.self.inside.table.entries _ c.self.view_is c.in_default.ensures.found c.requires)

pub overflow_sub-index_mut : goal.overflow_sub-index_mut
overflow_sub-index_mut c =
    let es = c.self.inside.table.entries in
    let counts : Counts = c.index_mut.result.now in
    let here = givers_at (key_of c.args.object.now) counts es c.in-Some.place c.get_index_of.ensures.unique (entry_at (key_of c.args.object.now) es c.in-Some.place counts (sym c.in-Some.ensures.index) c.index_mut.ensures.value) in
    let same = ap (λ gs. givers_of gs c.args.object.now) c.self.view_is in
    omega (arith, here, same, c.requires)

pub list_place-requires-clause-places : goal.list_place-requires-clause-places
list_place-requires-clause-places c = c.self.invariant.places.places

pub list_place-requires-clause-within : goal.list_place-requires-clause-within
list_place-requires-clause-within c = omega (arith, c.self.invariant.places.size, as_many c.self.inside.table.entries, c.in-Some.ensures.within)

pub list_place-requires-clause-room : goal.list_place-requires-clause-room
list_place-requires-clause-room c = omega (arith, c.self.invariant.places.size, as_many c.self.inside.table.entries, c.self.invariant.room.list)
