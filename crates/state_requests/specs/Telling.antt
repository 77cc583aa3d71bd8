-- What is told of one request.
use Rattle.std.specs.Prelude.{ℕ, List, Option, Some, None}
use Rattle.net_rules.specs.declared.event.Notice.{Notice}
use Rattle.net_rules.specs.declared.event.Notice.TheVariants as notice

-- a request of this number was lost, or opened for the row at a place, on a device if there is one
abbrev pub notice_of : ℕ → Option (ℕ × Option (List ℕ)) → Notice
notice_of number None = notice.Dropped number
notice_of number (Some opened) = notice.Interface number opened.0 opened.1
