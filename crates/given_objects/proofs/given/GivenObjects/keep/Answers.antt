use Rattle.std.proofs.Common.{arith, ◌≡◌, length, false, ap, sym, subst, ◌∙◌}
use Rattle.given_objects.specs.declared.gift.Gift.{Gift}
use Rattle.given_objects.specs.declared.gift.Counts.{Counts}
use Rattle.given_objects.specs.Gifts.{AreGifts, has_place}
use Rattle.given_objects.specs.Changes.{with_live}
use Rattle.given_objects.specs.Inside.{listed}
use Rattle.given_objects.proofs.TableLemmas.{key_of, added}
use Rattle.given_objects.proofs.KeepLemmas.{more_gifts}
use Rattle.given_objects.proofs.KeptLemmas.{is_added}
use Rattle.given_objects.proofs.OrderedLemmas.{as_many, one_more}
use Rattle.given_objects.proofs.PlacesLemmas.{listed_added}
use Rattle.given_objects.proofs.given.GivenObjects.keep.Goals as goal

pub invariant_of-self : goal.invariant_of-self
invariant_of-self c =
    let es = c.self.inside.table.entries in
    let room = c.self.invariant.room in
    record {
      gifts = c.self.invariant.gifts;
      order = record { takes = λ kept. absurd (cc (kept, c.in_err-make_room.ensures.kept)); puts = λ kept. absurd (cc (kept, c.in_err-make_room.ensures.kept)) };
      places = c.in_err-make_room.ensures.places (listed es) c.self.invariant.places;
      room = c.in_err-make_room.ensures.rest (length es) (record { takes = room.takes; puts = room.puts; list = room.list; flags = room.flags });
    }

pub invariant_of-self-2 : goal.invariant_of-self-2
invariant_of-self-2 c =
    let g : Gift = c.args.gift.now in
    let es = c.self.inside.table.entries in
    let off : has_place (listed es) g.object ≡ false = ap (λ gs. has_place gs g.object) c.self.view_is ∙ c.requires.new in
    let counts : Counts = record { givers = g.givers; held = g.held; loses_link = g.loses_link } in
    let is = ap listed c.in_ok-_none.ensures.entries ∙ added (key_of g.object) counts es off in
    let size = one_more es c.insert.new.self.entries g is in
    record {
      gifts = subst AreGifts (sym is) (more_gifts (listed es) g off c.requires.upper (c.has_form.ensures c.requires.upper) c.self.invariant.gifts);
      order = record { takes = λ kept. absurd (cc (kept, c.in_ok-make_room.ensures.kept)); puts = λ kept. absurd (cc (kept, c.in_ok-make_room.ensures.kept)) };
      places = listed_added (listed es) (listed c.insert.new.self.entries) c.make_room.new.order.places.list.items c.make_room.new.order.places.flags.items (c.in_ok-make_room.ensures.places (listed es) c.self.invariant.places) g is
          c.add_place.new.places.list.items c.add_place.new.places.flags.items c.add_place.ensures.places c.add_place.ensures.flags;
      room = record {
        takes = omega (arith, size, c.in_ok-make_room.ensures.ok.takes, c.len.ensures.len);
        puts = omega (arith, size, c.in_ok-make_room.ensures.ok.puts, c.len.ensures.len);
        list = omega (arith, size, c.in_ok-make_room.ensures.ok.list, c.len.ensures.len, c.add_place.ensures.list_capacity);
        flags = omega (arith, size, c.in_ok-make_room.ensures.ok.flags, c.len.ensures.len, c.add_place.ensures.flags_capacity);
      };
    }

pub returns : goal.returns
returns c =
    let g : Gift = c.args.gift.now in
    let es = c.self.inside.table.entries in
    let off : has_place (listed es) g.object ≡ false = ap (λ gs. has_place gs g.object) c.self.view_is ∙ c.requires.new in
    let counts : Counts = record { givers = g.givers; held = g.held; loses_link = g.loses_link } in
    ap listed c.in_ok-_none.ensures.entries ∙ added (key_of g.object) counts es off
    ∙ is_added (listed es) g (sym c.is_live.ensures ∙ c.if-not-is_live.false)
    ∙ ap (λ gs. with_live gs g) c.self.view_is

pub add_place-requires-clause-places : goal.add_place-requires-clause-places
add_place-requires-clause-places c = (c.in_ok-make_room.ensures.places (listed c.self.inside.table.entries) c.self.invariant.places).places

pub add_place-requires-clause-list_room : goal.add_place-requires-clause-list_room
add_place-requires-clause-list_room c =
    let es = c.self.inside.table.entries in
    let are = c.in_ok-make_room.ensures.places (listed es) c.self.invariant.places in
    omega (arith, are.size, as_many es, c.in_ok-make_room.ensures.ok.list, c.len.ensures.len)

pub add_place-requires-clause-flags_room : goal.add_place-requires-clause-flags_room
add_place-requires-clause-flags_room c =
    let es = c.self.inside.table.entries in
    let are = c.in_ok-make_room.ensures.places (listed es) c.self.invariant.places in
    omega (arith, are.size, as_many es, c.in_ok-make_room.ensures.ok.flags, c.len.ensures.len)
