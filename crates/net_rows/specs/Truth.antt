-- Truth values (OpenWrt's network configuration).
use Rattle.std.specs.Prelude.{ℕ, Bool, true, false, ◌||◌, List, Option, Some, None, codes, bytes_eq, if◌then◌else◌}

abbrev pub is_true : List ℕ → Bool
is_true text =
    bytes_eq text (codes "1") || bytes_eq text (codes "on") || bytes_eq text (codes "true")
    || bytes_eq text (codes "yes") || bytes_eq text (codes "enabled")

abbrev pub is_false : List ℕ → Bool
is_false text =
    bytes_eq text (codes "0") || bytes_eq text (codes "off") || bytes_eq text (codes "false")
    || bytes_eq text (codes "no") || bytes_eq text (codes "disabled")

-- the truth value of a text, and the default where there is none or it is another text
abbrev pub truth : Bool → Option (List ℕ) → Bool
truth default None = default
truth default (Some text) = if is_true text then true else (if is_false text then false else default)
