use Rattle.std.specs.Prelude.{codes, decimal}
use Rattle.http_requests.proofs.ResponseLemmas.{five}
use Rattle.http_requests.proofs.response.append_answer_head.Goals as goal

pub returns : goal.returns
returns c =
    rw (c.in_ok-extend_from_slice-4.ensures.items, c.in_ok-append_number.ensures, c.in_ok-extend_from_slice-3.ensures.items, c.in_ok-extend_from_slice-2.ensures.items, c.in_ok-extend_from_slice.ensures.items)
    (five c.args.out.now.items (codes "HTTP/1.1 200 OK\r\n") (codes "Content-Type: application/json\r\n") (codes "Content-Length: ") (decimal c.args.size) (codes "\r\n\r\n"))
