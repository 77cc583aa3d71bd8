-- The bytes of responses (RFC 9112). Each line ends with CR LF.
use Rattle.std.specs.Prelude.{ℕ, List, ◌++◌, codes, decimal, length}
use Rattle.http_requests.specs.declared.status_code.StatusCode.{StatusCode}
use Rattle.http_requests.specs.StatusCode.{number_of, reason_of}

-- the head of an answer whose body is JSON of this size
abbrev pub answer_head : ℕ → List ℕ
answer_head size =
    codes "HTTP/1.1 200 OK\r\n"
    ++ (codes "Content-Type: application/json\r\n"
    ++ (codes "Content-Length: " ++ (decimal size ++ codes "\r\n\r\n")))

-- the answer to a request
abbrev pub answer : List ℕ → List ℕ
answer body = answer_head (length body) ++ body

-- a refusal, which ends the connection
abbrev pub refusal : StatusCode → List ℕ
refusal status =
    codes "HTTP/1.1 "
    ++ (decimal (number_of status) ++ (codes " "
    ++ (reason_of status ++ codes "\r\nConnection: close\r\nContent-Length: 0\r\n\r\n")))
