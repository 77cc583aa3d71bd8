-- Status codes with their reason phrases (RFC 9110, section 15.5).
use Rattle.std.specs.Prelude.{ℕ, List, codes}
use Rattle.http_requests.specs.declared.status_code.StatusCode.{StatusCode}
use Rattle.http_requests.specs.declared.status_code.StatusCode.TheVariants.{BadRequest, NotFound, MethodNotAllowed}
use Rattle.http_requests.specs.declared.status_code.StatusCode.TheVariants.{LengthRequired, ContentTooLarge}

-- the number of a code
abbrev pub number_of : StatusCode → ℕ
number_of BadRequest = 400
number_of NotFound = 404
number_of MethodNotAllowed = 405
number_of LengthRequired = 411
number_of ContentTooLarge = 413

-- its reason phrase
abbrev pub reason_of : StatusCode → List ℕ
reason_of BadRequest = codes "Bad Request"
reason_of NotFound = codes "Not Found"
reason_of MethodNotAllowed = codes "Method Not Allowed"
reason_of LengthRequired = codes "Length Required"
reason_of ContentTooLarge = codes "Content Too Large"
