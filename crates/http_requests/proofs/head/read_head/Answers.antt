use Rattle.std.proofs.Common.{rules, arith, ◌≡◌, ◌≤◌, ◌<◌, ◌++◌, ◌∙◌, length, map, take, subst, sym, ap, Ok}
use Rattle.httparse.specs.Outcome.{IfComplete, OnPartial}
use Rattle.httparse.specs.Spans.{IsRequestOf, IsRequestWithin, span_bytes, header_bytes}
use Rattle.httparse.specs.Grammar.{HasNoRequest, MayBecomeRequest}
use Rattle.httparse.specs.declared.Error.{Error}
use Rattle.httparse.specs.declared.Status.{Status}
use Rattle.httparse.specs.declared.spans.RequestSpans.{RequestSpans}
use Rattle.http_requests.specs.Head.{HasHead, HasNoHead, MayBeHead}
use Rattle.http_requests.specs.Wish.{wish, closes_after}
use Rattle.http_requests.proofs.HeadLemmas.{parts, head_here, never_later}
use Rattle.http_requests.proofs.head.read_head.Goals as goal

pub returns-in-Ok-Complete : goal.returns-in-Ok-Complete
returns-in-Ok-Complete c =
    let front = c.split_at.result.0.now in
    let headers = c.parse_request.new.headers in
    let head = c.in-Ok-Complete.head in
    let joined = parts c.args.bytes.now front c.split_at.result.1.now _ c.split_at.ensures.front c.split_at.ensures.back in
    let short : length front ≤ 8192 = omega (arith, c.split_at.ensures.front_len, c.min.ensures) in
    let room : length headers ≤ 64 = search (rules, arith) in
    let within = subst (λ s. IfComplete {A = RequestSpans} {E = Error} (Ok s) (IsRequestWithin front headers)) c.in-Ok-Complete.field-0-is c.in-Ok-Complete.ensures.within in
    let of = subst (λ s. IfComplete {A = RequestSpans} {E = Error} (Ok s) (IsRequestOf front headers)) c.in-Ok-Complete.field-0-is c.in-Ok-Complete.ensures.complete in
    let inside = within.section in
    let has = head_here front c.split_at.result.1.now headers head of inside.len_fits inside.count_fits room short in
    let wished : wish (span_bytes front head.method) (span_bytes front head.path) (map (header_bytes front) (take head.headers headers)) ≡ c.read_wish.result =
    sym (ap (λ hs. wish (span_bytes front head.method) (span_bytes front head.path) (map (header_bytes front) hs)) c.split_at-in-Ok-Complete.ensures.front) ∙ sym c.read_wish.ensures in
    let closed : closes_after head.version (map (header_bytes front) (take head.headers headers)) ≡ c.closes_after.result =
    sym (ap (λ hs. closes_after head.version (map (header_bytes front) hs)) c.split_at-in-Ok-Complete.ensures.front) ∙ sym c.closes_after.ensures in
    subst (λ bs. HasHead bs head.len c.read_wish.result c.closes_after.result) joined
    (subst (λ z. HasHead (front ++ c.split_at.result.1.now) head.len c.read_wish.result z) closed
    (subst (λ w. HasHead (front ++ c.split_at.result.1.now) head.len w (closes_after head.version (map (header_bytes front) (take head.headers headers)))) wished has))

pub returns-then-bytes-ge-HEAD_LIMIT : goal.returns-then-bytes-ge-HEAD_LIMIT
returns-then-bytes-ge-HEAD_LIMIT c = λ more.
    let front = c.split_at.result.0.now in
    let joined = parts c.args.bytes.now front c.split_at.result.1.now _ c.split_at.ensures.front c.split_at.ensures.back in
    let P : Status RequestSpans → Type 0 = λ s. OnPartial {A = RequestSpans} {E = Error} (Ok s) (HasNoRequest front) in
    let full : length front ≡ 8192 = omega (arith, c.split_at.ensures.front_len, c.min.ensures, c.if-bytes-ge-HEAD_LIMIT.true) in
    subst (λ bs. HasNoHead (bs ++ more)) joined (never_later front c.split_at.result.1.now full (subst P c.in-Ok-Partial.field-0-is c.in-Ok-Partial.ensures.partial) more)
