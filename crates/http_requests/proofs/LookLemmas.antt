-- What some bytes tell of what stands in front of all.
use Rattle.std.proofs.Common.{rules, arith, ℕ, ◌≡◌, ◌≤◌, ◌<◌, ◌+◌, ◌-◌, ◌++◌, List, [], ◌∷◌, length, map, ap, sym, subst, ◌∙◌, length-append, refl, Bool, true, false, not, nat_lt, if◌then◌else◌, Option, Some, None, bytes_eq, codes}
use Rattle.std.proofs.lemmas.List.{append-nil, nil_from_length}
use Rattle.httparse.specs.Grammar.{RequestHead, print_request}
use Rattle.httparse.specs.Spans.{name_and_value}
use Rattle.httparse.proofs.GrammarLemmas.{ReadsRequest-append}
use Rattle.http_requests.specs.declared.front.Front.TheVariants.{End, Refused, Whole}
use Rattle.http_requests.specs.declared.status_code.StatusCode.{StatusCode}
use Rattle.http_requests.specs.declared.status_code.StatusCode.TheVariants.{BadRequest, ContentTooLarge, LengthRequired, MethodNotAllowed, NotFound}
use Rattle.http_requests.specs.declared.wish.Wish.TheVariants.{Refusal, Body}
use Rattle.http_requests.specs.Fields.{body_length}
use Rattle.http_requests.specs.Wish.{wish_of, wish_by_length}
use Rattle.http_requests.specs.Head.{BeginsWithHead, HasNoHead, HasHead, MayBeHead}
use Rattle.http_requests.specs.Front.{Begins, ends, no_head, refused, cut, whole, request_of, IsUnfinished, no_byte, in_head, in_body}
use Rattle.http_requests.specs.Look.{Awaits}
use Rattle.http_requests.proofs.FrontLemmas.{rest_size, same_size, apart}

-- a head stays with more bytes
pub head_stays : (bytes more : List ℕ) (h : RequestHead) (r : List ℕ) → BeginsWithHead bytes h r → BeginsWithHead (bytes ++ more) h (r ++ more)
head_stays bytes more h r has = record { reads = ReadsRequest-append bytes h r more has.reads; few = has.few; short = has.short }

-- no bytes, and none behind them
pub nothing_at_all : (bytes more : List ℕ) → length bytes ≡ 0 → more ≡ [] → bytes ++ more ≡ []
nothing_at_all [] more none over = over
nothing_at_all (b ∷ bs) more none over = absurd (omega (arith, none))

-- no bytes wait for one
pub waits_for_one : (bytes : List ℕ) → length bytes ≡ 0 → Awaits bytes 1
waits_for_one [] none = record {
  unfinished = λ more few. subst IsUnfinished (sym (nil_from_length more (omega (arith, few)))) no_byte;
  more = omega arith;
  bounded = omega arith;
}
waits_for_one (b ∷ bs) none = absurd (omega (arith, none))

-- bytes without a head are refused
pub none_here : (bytes more : List ℕ) → (length bytes ≡ 0 → ⊥) → HasNoHead (bytes ++ more) → Begins (bytes ++ more) (Refused BadRequest)
none_here [] more some none = absurd (some refl)
none_here (b ∷ bs) more some none = no_head b (bs ++ more) none

-- also where they may be the front of a head, and are all
pub open_is_cut : (bytes more : List ℕ) → (length bytes ≡ 0 → ⊥) → MayBeHead bytes → more ≡ [] → Begins (bytes ++ more) (Refused BadRequest)
open_is_cut bytes more some may over =
    none_here bytes more some (subst (λ z. HasNoHead z) (sym (ap (λ z. bytes ++ z) over ∙ append-nil bytes)) (λ h r has. may.none h r has.reads))

-- and wait for one more byte where they are not
pub open_waits : (bytes : List ℕ) → MayBeHead bytes → Awaits bytes (length bytes + 1)
open_waits bytes may = record {
  unfinished = λ more few.
      let none : more ≡ [] = nil_from_length more (omega (arith, few, length-append bytes more)) in
      in_head (bytes ++ more) (subst MayBeHead (sym (ap (λ z. bytes ++ z) none ∙ append-nil bytes)) may);
  more = omega arith;
  bounded = omega (arith, may.short);
}

-- a head that is refused
pub refused_here : (bytes more : List ℕ) (size : ℕ) (status : StatusCode) (closes : Bool) → HasHead bytes size (Refusal status) closes → Begins (bytes ++ more) (Refused status)
refused_here bytes more size status closes has =
    refused (bytes ++ more) has.head (has.rest ++ more) status (head_stays bytes more has.head has.rest has.begins) (sym has.wish_is)

-- how many bytes are behind a head
left_size : (bytes : List ℕ) (size n : ℕ) (closes : Bool) (has : HasHead bytes size (Body n) closes) → length bytes ≡ size + length has.rest
left_size bytes size n closes has = rest_size bytes has.head has.rest has.begins ∙ ap (λ z. z + length has.rest) (sym has.size_is)

-- a request whose body is there
pub whole_here : (bytes more : List ℕ) (size n : ℕ) (closes : Bool) → HasHead bytes size (Body n) closes → n ≤ length bytes - size → Begins (bytes ++ more) (Whole (record { head_size = size; body_size = n; closes = closes }))
whole_here bytes more size n closes has there =
    let long = length-append has.rest more in
    let left = left_size bytes size n closes has in
    let begins = whole (bytes ++ more) has.head (has.rest ++ more) n (head_stays bytes more has.head has.rest has.begins) (sym has.wish_is) (omega (arith, long, left, there)) in
    subst (λ z. Begins (bytes ++ more) (Whole (record { head_size = z; body_size = n; closes = closes }))) (sym has.size_is)
    (subst (λ z. Begins (bytes ++ more) (Whole (record { head_size = length (print_request has.head); body_size = n; closes = z }))) (sym has.closes_is) begins)

-- one whose body is cut
pub cut_here : (bytes more : List ℕ) (size n : ℕ) (closes : Bool) → HasHead bytes size (Body n) closes → length bytes - size < n → more ≡ [] → Begins (bytes ++ more) (Refused BadRequest)
cut_here bytes more size n closes has lacks over =
    let long = length-append has.rest more in
    let none : length more ≡ 0 = ap length over in
    let left = left_size bytes size n closes has in
    cut (bytes ++ more) has.head (has.rest ++ more) n (head_stays bytes more has.head has.rest has.begins) (sym has.wish_is) (omega (arith, long, none, left, lacks))

-- a body that is asked for is small
small_if : (b : Bool) (k n : ℕ) → nat_lt 1048576 k ≡ b → (if b then Refusal ContentTooLarge else Body k) ≡ Body n → n ≤ 1048576
small_if true k n is e = absurd (apart e)
small_if false k n is e =
    let few : k ≤ 1048576 = search (rules, arith) in
    subst (λ m. m ≤ 1048576) (same_size e) few

small_of : (o : Option ℕ) (n : ℕ) → wish_by_length o ≡ Body n → n ≤ 1048576
small_of None n e = absurd (apart e)
small_of (Some k) n e = small_if (nat_lt 1048576 k) k n refl e

small_wish : (p q : Bool) (o : Option ℕ) (n : ℕ) → (if not p then Refusal MethodNotAllowed else (if not q then Refusal NotFound else wish_by_length o)) ≡ Body n → n ≤ 1048576
small_wish false q o n e = absurd (apart e)
small_wish true false o n e = absurd (apart e)
small_wish true true o n e = small_of o n e

small_body : (h : RequestHead) (n : ℕ) → wish_of h ≡ Body n → n ≤ 1048576
small_body h n e = small_wish (bytes_eq h.method (codes "POST")) (bytes_eq h.target (codes "/ubus")) (body_length (map name_and_value h.fields)) n e

-- a request is small
pub small_request : (bytes : List ℕ) (size n : ℕ) (closes : Bool) → HasHead bytes size (Body n) closes → size + n ≤ 8192 + 1048576
small_request bytes size n closes has =
    omega (arith, has.begins.short, has.size_is, small_body has.head n (sym has.wish_is))

-- and waits for its body
pub body_waits : (bytes : List ℕ) (size n : ℕ) (closes : Bool) → HasHead bytes size (Body n) closes → length bytes - size < n → Awaits bytes (size + n)
body_waits bytes size n closes has lacks =
    let left = left_size bytes size n closes has in
    record {
      unfinished = λ more few.
          in_body (bytes ++ more) has.head (has.rest ++ more) n (head_stays bytes more has.head has.rest has.begins) (sym has.wish_is)
          (omega (arith, few, left, length-append bytes more, length-append has.rest more));
      more = omega (arith, left, lacks);
      bounded = small_request bytes size n closes has;
    }

-- bytes that wait are unfinished
pub unfinished_alone : (bytes : List ℕ) (wanted : ℕ) → Awaits bytes wanted → IsUnfinished bytes
unfinished_alone bytes wanted awaits =
    let alone = append-nil bytes in
    subst IsUnfinished alone (awaits.unfinished [] (omega (arith, awaits.more, ap length alone)))
