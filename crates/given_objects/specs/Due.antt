-- How much of a gift is left to do.
use Rattle.std.specs.Prelude.{ℕ, if◌then◌else◌}
use Rattle.given_objects.specs.declared.gift.Gift.{Gift}
use Rattle.given_objects.specs.Gifts.{is_given}

-- 1 where it is held or given and not both, else 0
abbrev pub alone : Gift → ℕ
alone g = if g.held then (if is_given g then 0 else 1) else (if is_given g then 1 else 0)
