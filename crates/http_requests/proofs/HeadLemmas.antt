-- What the first 8,192 bytes tell of the head in front of all bytes.
use Rattle.std.proofs.Common.{arith, ℕ, ◌≡◌, ◌≤◌, ◌<◌, ◌+◌, ◌-◌, ◌++◌, List, [], ◌∷◌, length, take, drop, map, ap, sym, subst, ◌∙◌, length-append, refl, min, Bool}
use Rattle.std.proofs.Math.Seq.{take-append-add}
use Rattle.std.proofs.lemmas.List.{length-map, length-take-le, append_assoc, append-nil, take-append-drop, nil_from_length}
use Rattle.httparse.specs.Grammar.{RequestHead, ReadsRequest, HasNoRequest, MayBecomeRequest, print_request, print_blank, print_version, print_end, print_section}
use Rattle.httparse.specs.Spans.{IsRequestAt, IsRequestOf, RequestOverflows, span_bytes, header_bytes, name_and_value}
use Rattle.httparse.specs.declared.spans.HeaderSpan.{HeaderSpan}
use Rattle.httparse.specs.declared.spans.RequestSpans.{RequestSpans}
use Rattle.httparse.proofs.GrammarLemmas.{ReadsRequest-append, print_request-append}
use Rattle.http_requests.specs.declared.wish.Wish.{Wish}
use Rattle.http_requests.specs.Wish.{wish, wish_of, closes_after, closes_of}
use Rattle.http_requests.specs.Head.{BeginsWithHead, HasNoHead, HasHead, MayBeHead}

-- a head of at most n bytes is read of the first n
pub read_of_front : (bytes : List ℕ) (n : ℕ) (head : RequestHead) (rest : List ℕ) → ReadsRequest bytes head rest → length (print_request head) ≤ n → (left : List ℕ) × ReadsRequest (take n bytes) head left
read_of_front bytes n head rest reads short =
    let more = n - length (print_request head) in
    let split : n ≡ length (print_request head) + more = omega (arith, short) in
    (take more rest, (reads.0, ap (λ k. take k bytes) split ∙ (ap (take (length (print_request head) + more)) reads.1 ∙ take-append-add (print_request head) rest more)))

-- two parts of bytes are the bytes
pub parts : (bytes front back : List ℕ) (n : ℕ) → front ≡ take n bytes → back ≡ drop n bytes → front ++ back ≡ bytes
parts bytes front back n front_is back_is =
    ap (λ xs. xs ++ back) front_is ∙ (ap (λ xs. take n bytes ++ xs) back_is ∙ take-append-drop n bytes)

-- the wish that is read of spans is that of the head
wish_is : (front : List ℕ) (headers : List HeaderSpan) (r : RequestSpans) (h : RequestHead) → IsRequestAt front headers r h → wish (span_bytes front r.method) (span_bytes front r.path) (map (header_bytes front)
    (take r.headers headers)) ≡ wish_of h
wish_is front headers r h at =
    ap (λ p. wish (span_bytes front r.method) (span_bytes front r.path) p) at.fields
    ∙ (ap (λ t. wish (span_bytes front r.method) t (map name_and_value h.fields)) at.path
    ∙ ap (λ m. wish m h.target (map name_and_value h.fields)) at.method)

-- and so is the end of the connection
closes_is : (front : List ℕ) (headers : List HeaderSpan) (r : RequestSpans) (h : RequestHead) → IsRequestAt front headers r h → closes_after r.version (map (header_bytes front) (take r.headers headers)) ≡ closes_of h
closes_is front headers r h at =
    ap (λ p. closes_after r.version p) at.fields ∙ ap (λ v. closes_after v (map name_and_value h.fields)) at.version

-- a head that is read of a front is the head of all bytes
pub head_here : (front back : List ℕ) (headers : List HeaderSpan) (r : RequestSpans) → IsRequestOf front headers r → r.len ≤ length front → r.headers ≤ length headers → length headers ≤ 64 → length front ≤ 8192 → HasHead
    (front ++ back) r.len (wish (span_bytes front r.method) (span_bytes front r.path) (map (header_bytes front) (take r.headers headers))) (closes_after r.version (map (header_bytes front) (take r.headers headers)))
head_here front back headers r of inside written room short =
    let h = of.0 in
    let at = of.1 in
    let count : length h.fields ≡ r.headers =
    sym (length-map h.fields name_and_value) ∙ (sym (ap length at.fields) ∙ (length-map (take r.headers headers) (header_bytes front) ∙ length-take-le r.headers headers written)) in
    record {
      head = h;
      rest = drop r.len front ++ back;
      begins = record { reads = ReadsRequest-append front h (drop r.len front) back at.reads; few = omega (arith, count, written, room); short = omega (arith, at.len, inside, short) };
      size_is = at.len;
      wish_is = wish_is front headers r h at;
      closes_is = closes_is front headers r h at;
    }

-- the first 8,192 bytes of a front and what follows
first_of : (front rest : List ℕ) → length front ≤ 8192 → take 8192 (front ++ rest) ≡ front ++ take (8192 - length front) rest
first_of front rest short =
    let split : 8192 ≡ length front + (8192 - length front) = omega (arith, short) in
    ap (λ k. take k (front ++ rest)) split ∙ take-append-add front rest (8192 - length front)

-- no head stands in front where too many fields do
pub never_here : (front back : List ℕ) → length front ≤ 8192 → RequestOverflows 64 front → (more : List ℕ) → HasNoHead ((front ++ back) ++ more)
never_here front back short over more = λ head rest begins.
    let read = read_of_front ((front ++ back) ++ more) 8192 head rest begins.reads begins.short in
    let same = ap (take 8192) (append_assoc front back more) ∙ first_of front (back ++ more) short in
    let passed : 64 < length head.fields = over (take (8192 - length front) (back ++ more)) head read.0 (read.1.0, sym same ∙ read.1.1) in
    absurd (omega (arith, passed, begins.few))

-- nor where none does in 8,192 bytes
pub never_later : (front back : List ℕ) → length front ≡ 8192 → HasNoRequest front → (more : List ℕ) → HasNoHead ((front ++ back) ++ more)
never_later front back full none more = λ head rest begins.
    let read = read_of_front ((front ++ back) ++ more) 8192 head rest begins.reads begins.short in
    let short : length front ≤ 8192 = omega (arith, full) in
    let nothing : 8192 - length front ≡ 0 = omega (arith, full) in
    let same = ap (take 8192) (append_assoc front back more) ∙ (first_of front (back ++ more) short ∙ (ap (λ n. front ++ take n (back ++ more)) nothing ∙ append-nil front)) in
    none head read.0 (read.1.0, sym same ∙ read.1.1)

-- the first 8,192 of fewer bytes are all of them
pub few_are_all : (bytes front back : List ℕ) → front ++ back ≡ bytes → length front ≡ min (length bytes) 8192 → length bytes < 8192 → front ≡ bytes
few_are_all bytes front back joined size few =
    let long : length front + length back ≡ length bytes = sym (length-append front back) ∙ ap length joined in
    let none : back ≡ [] = nil_from_length back (omega (arith, long, size, few)) in
    sym (append-nil front) ∙ (ap (λ xs. front ++ xs) (sym none) ∙ joined)

-- fewer bytes may be the front of a head
pub open_here : (bytes front : List ℕ) → front ≡ bytes → length bytes < 8192 → HasNoRequest front → MayBecomeRequest front → MayBeHead bytes
open_here bytes front same few none may =
    record { short = few; none = subst HasNoRequest same none; open_end = subst MayBecomeRequest same may }

-- a head is not empty
pub head_is_some : (h : RequestHead) → length (print_request h) ≡ 0 → ⊥
head_is_some h none =
    let tail = h.target ++ 32 ∷ (print_version h.minor ++ (print_end h.line_end ++ (print_section h.fields h.last ++ []))) in
    let all = ap length (print_request-append h []) ∙ length-append (print_blank h.blank) (h.method ++ 32 ∷ tail) in
    let behind = length-append h.method (32 ∷ tail) in
    let alone = ap length (append-nil (print_request h)) in
    absurd (omega (arith, none, all, behind, alone))
