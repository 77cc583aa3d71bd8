use Rattle.std.proofs.Common.{arith, ℕ, List, Contains, length, ap, subst}
use Rattle.given_objects.specs.Inside.{listed}
use Rattle.given_objects.specs.Ordered.{HasComing}
use Rattle.given_objects.proofs.OrderedLemmas.{coming_sorted, as_many}
use Rattle.given_objects.proofs.PlacesLemmas.{comes_in, few_places}
use Rattle.given_objects.proofs.order.list_coming.Goals as goal

pub fill-requires-clause-within : goal.fill-requires-clause-within
fill-requires-clause-within c place member =
    let are = c.requires.places in
    let inside = are.places.within place (subst (λ (xs : List ℕ). Contains xs place) c.deref.ensures.value member) in
    omega (arith, inside, are.size, as_many c.args.table.now.entries)

pub fill-requires-clause-room : goal.fill-requires-clause-room
fill-requires-clause-room c =
    let are = c.requires.places in
    let few = few_places c.args.places.now.list.items c.args.places.now.flags.items are.places in
    let same = ap length c.deref.ensures.value in
    omega (arith, few, same, are.size, as_many c.args.table.now.entries, c.requires.room)

pub returns-clause-listed : goal.returns-clause-listed
returns-clause-listed c =
    let are = c.requires.places in
    coming_sorted c.args.turn (listed c.args.table.now.entries) c.args.places.now.list.items c.fill.new.list.items c.sort.new.list.items
    (subst (λ (xs : List ℕ). HasComing c.args.turn (listed c.args.table.now.entries) xs c.fill.new.list.items) c.deref.ensures.value c.fill.ensures.coming)
    (λ place g at on. are.places.all place (are.coming place g at (comes_in c.args.turn g on))) c.sort.ensures.same c.sort.ensures.down
