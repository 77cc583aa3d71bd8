use Rattle.std.proofs.Common.{◌≡◌, map, drop}
use Rattle.httparse.specs.Spans.{header_bytes}
use Rattle.http_requests.specs.Fields as spec
use Rattle.http_requests.proofs.fields.asks_for_close.Given as goal

-- the fields that are left decide
abbrev pub invariant-loop-header : goal.invariant-loop-header
invariant-loop-header l = spec.asks_for_close (map (header_bytes l.buf) l.headers) ≡ spec.asks_for_close (map (header_bytes l.buf) (drop l.header-index l.headers))
