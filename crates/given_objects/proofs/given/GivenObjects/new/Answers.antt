use Rattle.std.proofs.Common.{arith, length, ap, sym, subst}
use Rattle.given_objects.specs.Gifts.{AreGifts}
use Rattle.given_objects.specs.Inside.{Entries, listed}
use Rattle.given_objects.specs.Places.{ArePlacesOf}
use Rattle.given_objects.proofs.KeepLemmas.{no_gifts}
use Rattle.given_objects.proofs.given.GivenObjects.new.Goals as goal

pub invariant_of-result : goal.invariant_of-result
invariant_of-result c = record {
  gifts = subst (λ (es : Entries). AreGifts (listed es)) (sym c.new.ensures.empty) no_gifts;
  order = record { takes = λ kept. absurd (cc (kept, c.no_order.ensures.kept)); puts = λ kept. absurd (cc (kept, c.no_order.ensures.kept)) };
  places = subst (λ (es : Entries). ArePlacesOf (listed es) c.no_order.result.places) (sym c.new.ensures.empty) c.no_order.ensures.places;
  room = record {
    takes = omega (arith, ap length c.new.ensures.empty);
    puts = omega (arith, ap length c.new.ensures.empty);
    list = omega (arith, ap length c.new.ensures.empty);
    flags = omega (arith, ap length c.new.ensures.empty);
  };
}
