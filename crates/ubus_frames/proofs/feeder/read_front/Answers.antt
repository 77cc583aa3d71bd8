use Rattle.std.proofs.Common.{◌≡◌, ap, Err}
use Rattle.std.proofs.lemmas.Result.{err_from_is_err_and}
use Rattle.ubus_frames.proofs.StreamLemmas.{size_found, whole_head, whole_size, whole_begins, whole_fault, behind_is}
use Rattle.ubus_frames.proofs.feeder.read_front.Goals as goal

pub read_frame-requires-clause-head : goal.read_frame-requires-clause-head
read_frame-requires-clause-head c =
    let s = size_found c.args.bytes.now _ _ c.in-Some.is c.in_ok-size.ensures.size in
    whole_head _ _ _ s.0 s.1 s.2 c.split_at.ensures.front

pub read_frame-requires-clause-whole : goal.read_frame-requires-clause-whole
read_frame-requires-clause-whole c =
    let s = size_found c.args.bytes.now _ _ c.in-Some.is c.in_ok-size.ensures.size in
    whole_size _ _ _ s.0 s.1 s.2 c.split_at.ensures.front

pub returns-in_err-frame-clause-refused : goal.returns-in_err-frame-clause-refused
returns-in_err-frame-clause-refused c = λ error e n.
    let p = err_from_is_err_and c.from_residual-in_err-frame.result c.from_residual-in_err-frame.ensures.1 in
    let same : c.in_err-frame.field-0.0 ≡ error = cc (p.1, p.2, e) in
    whole_fault _ _ _ error c.split_at.ensures.front (c.in_err-frame.ensures.refused error (ap Err same) n)

pub returns-clause-found : goal.returns-clause-found
returns-clause-found c =
    let s = size_found c.args.bytes.now _ _ c.in-Some.is c.in_ok-size.ensures.size in
    record {
      begins = whole_begins _ _ _ _ c.split_at.ensures.front c.in_ok-frame.ensures.found;
      size_is = s.1;
      behind_is = behind_is _ _ _ c.split_at.ensures.back s.1;
    }
