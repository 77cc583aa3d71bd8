-- What an interface gives, counted once more or once less.
use Rattle.std.specs.Prelude.{ℕ, ◌≡◌, ◌+◌, ◌≤◌, ◌^◌, List, length, filter, Contains, true, if◌then◌else◌}
use Rattle.std.specs.Ordering.{eq_by_cmp}
use Rattle.kern_model.specs.declared.object.Object.{Object}
use Rattle.kern_model.specs.ObjectOrder.{object_cmp}
use Rattle.net_rows.specs.declared.rows.InterfaceRow.{InterfaceRow}
use Rattle.net_rules.specs.Facts.{Facts}
use Rattle.net_rules.specs.Rows.{is_static}
use Rattle.net_rules.specs.Interfaces.{answer_of}
use Rattle.net_rules.specs.Want.{of_options, of_answer}
use Rattle.given_objects.specs.Gifts.{Gifts, has_place, givers_of}
use Rattle.given_objects.specs.Changes.{given_once_more, given_once_less}
use Rattle.net_looks.specs.declared.giving.Change.{Change}
use Rattle.net_looks.specs.declared.giving.Change.TheVariants.{More, Less}

-- how often an object stands in a list
abbrev pub times_in : Object → List Object → ℕ
times_in o objects = length (filter (eq_by_cmp object_cmp o) objects)

-- each object of a list has a place, and at most 2^62 givers once the list is given too
pub record CanGive (gs : Gifts) (objects : List Object) : Type 0 where
  pub places : (o : Object) → Contains objects o → has_place gs o ≡ true
  pub few : (o : Object) → Contains objects o → givers_of gs o + times_in o objects ≤ 2 ^ 62

-- each object has as many givers as it stands in a list
abbrev pub CanWithdraw : Gifts → List Object → Type 0
CanWithdraw gs objects = (o : Object) → times_in o objects ≤ givers_of gs o

-- one more or one less gives an object
abbrev pub changed_once : Change → Gifts → Object → Gifts
changed_once More = given_once_more
changed_once Less = given_once_less

-- a list can be given once more, or once less
abbrev pub Can : Change → Gifts → List Object → Type 0
Can More = CanGive
Can Less = CanWithdraw

-- what the options of a static interface give, or what the answer of another gives
abbrev pub own_given : Facts → InterfaceRow → List ℕ → List Object
own_given facts row dev =
    if is_static row.proto then of_options row dev else of_answer dev (answer_of facts row)
