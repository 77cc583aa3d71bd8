use Rattle.std.proofs.Common.{◌≡◌, ◌+◌, take}
use Rattle.net_conf.specs.declared.limits.TheConstants.{MOST_WIFI_ROWS}
use Rattle.net_conf.specs.Limits as spec
use Rattle.net_conf.proofs.limits.has_too_many_wifi_rows.Given as goal

-- what is left, with the rows so far
abbrev pub invariant-loop-radio : goal.invariant-loop-radio
invariant-loop-radio l = l.left + spec.wifi_count (take l.radio-index l.radios) ≡ MOST_WIFI_ROWS
