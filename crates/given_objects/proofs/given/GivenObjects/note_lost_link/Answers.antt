use Rattle.std.proofs.Common.{arith, ◌≡◌, length, get_or, ap, sym, subst, ◌∙◌}
use Rattle.std.specs.Map.{keys_of}
use Rattle.indexmap.specs.IndexMap.{set_value_at}
use Rattle.given_objects.specs.declared.gift.Counts.{Counts}
use Rattle.given_objects.specs.Gifts.{Gifts, AreGifts}
use Rattle.given_objects.specs.Changes.{with_lost_link}
use Rattle.given_objects.specs.Inside.{gift_in, listed}
use Rattle.given_objects.proofs.TableLemmas.{some_key, loses_link_at, gift_told}
use Rattle.given_objects.proofs.KeepLemmas.{loses_link_gifts, same_flag, told_again}
use Rattle.given_objects.proofs.OrderedLemmas.{as_many, as_many_told}
use Rattle.given_objects.proofs.PlacesLemmas.{listed_written}
use Rattle.given_objects.proofs.given.GivenObjects.note_lost_link.Goals as goal

pub returns : goal.returns
returns c =
    loses_link_at c.self.inside.table.entries c.args.place c.index_mut.result.now c.args.loses_link c.index_mut.ensures.value
    ∙ ap (λ gs. with_lost_link gs c.args.place c.args.loses_link) c.self.view_is

pub returns-then-index-loses_link : goal.returns-then-index-loses_link
returns-then-index-loses_link c =
    let es = c.self.inside.table.entries in
    let place = c.args.place in
    let loses_link = c.args.loses_link in
    let counts : Counts = c.index.result.now in
    subst (λ (gs : Gifts). gs ≡ with_lost_link gs place loses_link) c.self.view_is
    (told_again (listed es) place loses_link (gift_in (get_or (keys_of es) place some_key, counts)) (gift_told es place counts c.index.ensures) (same_flag counts.loses_link loses_link c.if-index-loses_link.true))

pub invariant_of-self : goal.invariant_of-self
invariant_of-self c =
    let es = c.self.inside.table.entries in
    let counts : Counts = c.index_mut.result.now in
    let is = loses_link_at es c.args.place counts c.args.loses_link c.index_mut.ensures.value in
    let size = as_many_told es (set_value_at es c.args.place (record counts { loses_link = c.args.loses_link })) c.args.place c.args.loses_link is in
    record {
      gifts = subst AreGifts (sym is) (loses_link_gifts (listed es) c.args.place c.args.loses_link c.self.invariant.gifts);
      order = record { takes = λ kept. absurd (cc kept); puts = λ kept. absurd (cc kept) };
      places = listed_written es c.self.inside.order.places.list.items c.self.inside.order.places.flags.items c.self.invariant.places c.args.place counts (record counts { loses_link = c.args.loses_link }) c.index_mut.ensures.value
          c.list_place.new.places.list.items c.list_place.new.places.flags.items c.list_place.ensures.places c.list_place.ensures.flags;
      room = record {
        takes = omega (arith, size, c.self.invariant.room.takes);
        puts = omega (arith, size, c.self.invariant.room.puts);
        list = omega (arith, size, c.self.invariant.room.list, c.list_place.ensures.list_capacity);
        flags = omega (arith, size, c.self.invariant.room.flags, c.list_place.ensures.flags_capacity);
      };
    }

pub list_place-requires-clause-places : goal.list_place-requires-clause-places
list_place-requires-clause-places c = c.self.invariant.places.places

pub list_place-requires-clause-within : goal.list_place-requires-clause-within
list_place-requires-clause-within c = omega (arith, c.self.invariant.places.size, ap length c.self.view_is, c.requires)

pub list_place-requires-clause-room : goal.list_place-requires-clause-room
list_place-requires-clause-room c = omega (arith, c.self.invariant.places.size, as_many c.self.inside.table.entries, c.self.invariant.room.list)
