use Rattle.std.proofs.Common.{arith, ◌≡◌, length, vec_capacity, true, false, ap, refl, sym, subst, ◌∙◌}
use Rattle.given_objects.specs.declared.gift.Gift.{Gift}
use Rattle.given_objects.specs.declared.gift.Counts.{Counts}
use Rattle.indexmap.specs.IndexMap.{set_value_at}
use Rattle.given_objects.specs.declared.first.Turn.TheVariants.{Takes, Puts}
use Rattle.given_objects.specs.Gifts.{Gifts, AreGifts}
use Rattle.given_objects.specs.Changes.{noted}
use Rattle.given_objects.specs.Turns.{is_due}
use Rattle.given_objects.specs.Inside.{listed}
use Rattle.given_objects.specs.Ordered.{IsOrder}
use Rattle.given_objects.specs.declared.places.Places.{Places}
use Rattle.given_objects.specs.Places.{ArePlaces, ArePlacesOf}
use Rattle.given_objects.proofs.TableLemmas.{key_of, entry_at, written, not_lacking}
use Rattle.given_objects.proofs.KeepLemmas.{note_gifts}
use Rattle.given_objects.proofs.OrderedLemmas.{as_many, as_many_still, due_there, lists_go_on, and_left, and_right}
use Rattle.given_objects.proofs.PlacesLemmas.{listed_written}
use Rattle.given_objects.proofs.given.GivenObjects.note.Goals as goal

pub returns : goal.returns
returns c =
    let es = c.self.inside.table.entries in
    let counts : Counts = c.index.result.now in
    written (λ (g : Gift). record g { held = c.args.held; loses_link = false }) (key_of c.args.object.now) counts (record counts { held = c.args.held; loses_link = false }) refl es c.in-Some.place c.get_index_of.ensures.unique
    (entry_at (key_of c.args.object.now) es c.in-Some.place counts (sym c.in-Some.ensures.index) c.index.ensures)
    ∙ ap (λ gs. noted gs c.args.object.now c.args.held) c.self.view_is

pub go_on-requires : goal.go_on-requires
go_on-requires c =
    let es = c.self.inside.table.entries in
    let o = c.args.object.now in
    let held = c.args.held in
    let counts : Counts = c.index.result.now in
    let is = written (λ (g : Gift). record g { held = held; loses_link = false }) (key_of o) counts (record counts { held = held; loses_link = false }) refl es c.in-Some.place c.get_index_of.ensures.unique
    (entry_at (key_of o) es c.in-Some.place counts (sym c.in-Some.ensures.index) c.index.ensures) in
    subst AreGifts (sym is) (note_gifts (listed es) o held c.self.invariant.gifts)

pub invariant_of-self : goal.invariant_of-self
invariant_of-self c =
    let es = c.self.inside.table.entries in
    let gs : Gifts = listed es in
    let o = c.args.object.now in
    let held = c.args.held in
    let counts : Counts = c.index.result.now in
    let w : Counts = record counts { held = held; loses_link = false } in
    let is = written (λ (g : Gift). record g { held = held; loses_link = false }) (key_of o) counts w refl es c.in-Some.place c.get_index_of.ensures.unique
    (entry_at (key_of o) es c.in-Some.place counts (sym c.in-Some.ensures.index) c.index.ensures) in
    let size = as_many_still es (set_value_at es c.in-Some.place w) (λ (g : Gift). record g { held = held; loses_link = false }) o is in
    let was_due = λ (on : c.is_due-was_due.result ≡ true). due_there gs c.self.invariant.gifts (key_of o) es refl held c.in-Some.place c.gift_at.result (sym c.in-Some.ensures.index) c.gift_at.ensures
    (ap (λ turn. is_due turn c.gift_at.result) (sym c.turn_of-turn.ensures) ∙ sym c.is_due-was_due.ensures ∙ on) in
    let left : IsOrder c.go_on.new.order (listed (set_value_at es c.in-Some.place w)) = c.go_on.ensures.order (record {
      takes = λ kept. lists_go_on Takes gs (listed (set_value_at es c.in-Some.place w)) o held is (was_due (and_right c.self.inside.order.is_kept c.is_due-was_due.result kept)) c.self.inside.order.takes.items
          (c.self.invariant.order.takes (and_left c.self.inside.order.is_kept c.is_due-was_due.result kept));
      puts = λ kept. lists_go_on Puts gs (listed (set_value_at es c.in-Some.place w)) o held is (was_due (and_right c.self.inside.order.is_kept c.is_due-was_due.result kept)) c.self.inside.order.puts.items
          (c.self.invariant.order.puts (and_left c.self.inside.order.is_kept c.is_due-was_due.result kept));
    }) in
    record {
      gifts = subst AreGifts (sym is) (note_gifts gs o held c.self.invariant.gifts);
      order = record { takes = left.takes; puts = left.puts };
      places = listed_written es c.go_on.new.order.places.list.items c.go_on.new.order.places.flags.items (subst (ArePlacesOf gs) (sym c.go_on.ensures.places) c.self.invariant.places) c.in-Some.place counts w c.index.ensures
          c.list_place.new.places.list.items c.list_place.new.places.flags.items c.list_place.ensures.places c.list_place.ensures.flags;
      room = record {
        takes = omega (arith, size, c.self.invariant.room.takes, c.go_on.ensures.takes);
        puts = omega (arith, size, c.self.invariant.room.puts, c.go_on.ensures.puts);
        list = let same = ap (λ (p : Places). vec_capacity p.list) c.go_on.ensures.places in omega (arith, size, c.self.invariant.room.list, same, c.list_place.ensures.list_capacity);
        flags = let same = ap (λ (p : Places). vec_capacity p.flags) c.go_on.ensures.places in omega (arith, size, c.self.invariant.room.flags, same, c.list_place.ensures.flags_capacity);
      };
    }

pub returns-in_default : goal.returns-in_default
returns-in_default c = absurd (not_lacking (key_of c.args.object.now) c.self.inside.table.entries _ c.self.view_is c.in_default.ensures.found c.requires)

pub list_place-requires-clause-places : goal.list_place-requires-clause-places
list_place-requires-clause-places c = subst ArePlaces (sym c.go_on.ensures.places) c.self.invariant.places.places

pub list_place-requires-clause-within : goal.list_place-requires-clause-within
list_place-requires-clause-within c =
    let same = ap (λ (p : Places). length p.flags.items) c.go_on.ensures.places in
    omega (arith, same, c.self.invariant.places.size, as_many c.self.inside.table.entries, c.in-Some.ensures.within)

pub list_place-requires-clause-room : goal.list_place-requires-clause-room
list_place-requires-clause-room c =
    let same = ap (λ (p : Places). length p.flags.items) c.go_on.ensures.places in
    let capacity = ap (λ (p : Places). vec_capacity p.list) c.go_on.ensures.places in
    omega (arith, same, capacity, c.self.invariant.places.size, as_many c.self.inside.table.entries, c.self.invariant.room.list)
