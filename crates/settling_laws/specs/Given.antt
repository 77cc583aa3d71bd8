-- What interfaces give, and how often.
use Rattle.std.specs.Prelude.{◌≡◌, List, true}
use Rattle.std.specs.List.{flat_map}
use Rattle.kern_model.specs.declared.object.Object.{Object}
use Rattle.kern_calls.specs.Upper.{is_upper}
use Rattle.net_rules.specs.Facts.{Facts}
use Rattle.net_rules.specs.Rows.{interfaces_of}
use Rattle.net_rules.specs.Want.{given}
use Rattle.given_objects.specs.Gifts.{Gifts, givers_of}
use Rattle.net_gifts.specs.Giving.{times_in}

-- the addresses and routes that interfaces give which are up, interface by interface
abbrev pub all_given : Facts → List Object
all_given facts = flat_map (given facts) (interfaces_of facts.conf)

-- each address and each route has as many givers as interfaces give it
abbrev pub AreGiven : Facts → Gifts → Type 0
AreGiven facts gs =
    (o : Object) → is_upper o ≡ true → givers_of gs o ≡ times_in o (all_given facts)
