-- One thing stands in front of bytes.
use Rattle.std.proofs.Common.{arith, ℕ, ◌≡◌, ◌≤◌, ◌<◌, ◌+◌, ◌++◌, List, [], ◌∷◌, length, ap, sym, subst, ◌∙◌, length-append, refl, ◌⊎◌, inl, inr}
use Rattle.std.proofs.lemmas.Bool.{cases_lt}
use Rattle.httparse.specs.Grammar.{RequestHead, print_request}
use Rattle.httparse.proofs.GrammarLemmas.{request_unique}
use Rattle.http_requests.specs.declared.front.Front.{Front}
use Rattle.http_requests.specs.declared.front.Front.TheVariants.{End, Refused, Whole}
use Rattle.http_requests.specs.declared.status_code.StatusCode.{StatusCode}
use Rattle.http_requests.specs.declared.status_code.StatusCode.TheVariants.{BadRequest}
use Rattle.http_requests.specs.declared.wish.Wish.{Wish}
use Rattle.http_requests.specs.declared.wish.Wish.TheVariants.{Refusal, Body}
use Rattle.http_requests.specs.Wish.{wish_of}
use Rattle.http_requests.specs.Head.{BeginsWithHead, HasNoHead}
use Rattle.http_requests.specs.Front.{Begins, ends, no_head, refused, cut, whole, request_of, IsWhole, IsUnfinished, no_byte, in_head, in_body}
use Rattle.http_requests.proofs.HeadLemmas.{head_is_some}

-- how many bytes a head leaves
pub rest_size : (bytes : List ℕ) (h : RequestHead) (r : List ℕ) → BeginsWithHead bytes h r → length bytes ≡ length (print_request h) + length r
rest_size bytes h r begins = ap length begins.reads.1 ∙ length-append (print_request h) r

-- no bytes have no head
pub nothing_has_none : (h : RequestHead) (r : List ℕ) → BeginsWithHead [] h r → ⊥
nothing_has_none h r begins = head_is_some h (omega (arith, rest_size [] h r begins))

-- one head stands in front of bytes
pub one_head : (bytes : List ℕ) (h k : RequestHead) (r q : List ℕ) → BeginsWithHead bytes h r → BeginsWithHead bytes k q → (h ≡ k) × (r ≡ q)
one_head bytes h k r q one other = request_unique bytes h k r q one.reads other.reads

abbrev status_in : StatusCode → Wish → StatusCode
status_in other (Refusal status) = status
status_in other (Body size) = other

abbrev size_in : ℕ → Wish → ℕ
size_in other (Refusal status) = other
size_in other (Body size) = size

pub same_size : {m n : ℕ} → Body m ≡ Body n → m ≡ n
same_size same = ap (size_in 0) same

pub apart : {s : StatusCode} {n : ℕ} → Refusal s ≡ Body n → ⊥
apart {s} {n} same = let x : Refusal s ≡ Body n = same in cc

-- what stands there where a head is refused
pub when_refused : (bytes : List ℕ) (h : RequestHead) (r : List ℕ) (s : StatusCode) → BeginsWithHead bytes h r → wish_of h ≡ Refusal s → (f : Front) → Begins bytes f → f ≡ Refused s
when_refused bytes h r s has is f ends = absurd (nothing_has_none h r has)
when_refused bytes h r s has is f (no_head x xs none) = absurd (none h r has)
when_refused bytes h r s has is f (refused b k q t other wished) =
    ap Refused (ap (status_in s) (sym wished ∙ (ap wish_of (sym (one_head bytes h k r q has other).0) ∙ is)))
when_refused bytes h r s has is f (cut b k q n other wished few) =
    absurd (apart (sym is ∙ (ap wish_of (one_head bytes h k r q has other).0 ∙ wished)))
when_refused bytes h r s has is f (whole b k q n other wished there) =
    absurd (apart (sym is ∙ (ap wish_of (one_head bytes h k r q has other).0 ∙ wished)))

-- where its body is cut
pub when_cut : (bytes : List ℕ) (h : RequestHead) (r : List ℕ) (n : ℕ) → BeginsWithHead bytes h r → wish_of h ≡ Body n → length r < n → (f : Front) → Begins bytes f → f ≡ Refused BadRequest
when_cut bytes h r n has is lacks f ends = absurd (nothing_has_none h r has)
when_cut bytes h r n has is lacks f (no_head x xs none) = refl
when_cut bytes h r n has is lacks f (refused b k q t other wished) =
    absurd (apart (sym wished ∙ (ap wish_of (sym (one_head bytes h k r q has other).0) ∙ is)))
when_cut bytes h r n has is lacks f (cut b k q m other wished few) = refl
when_cut bytes h r n has is lacks f (whole b k q m other wished there) =
    let same = one_head bytes h k r q has other in
    let sizes = same_size (sym is ∙ (ap wish_of same.0 ∙ wished)) in
    absurd (omega (arith, lacks, there, sizes, ap length same.1))

-- where it is there
pub when_whole : (bytes : List ℕ) (h : RequestHead) (r : List ℕ) (n : ℕ) → BeginsWithHead bytes h r → wish_of h ≡ Body n → n ≤ length r → (f : Front) → Begins bytes f → f ≡ Whole (request_of h n)
when_whole bytes h r n has is fits f ends = absurd (nothing_has_none h r has)
when_whole bytes h r n has is fits f (no_head x xs none) = absurd (none h r has)
when_whole bytes h r n has is fits f (refused b k q t other wished) =
    absurd (apart (sym wished ∙ (ap wish_of (sym (one_head bytes h k r q has other).0) ∙ is)))
when_whole bytes h r n has is fits f (cut b k q m other wished few) =
    let same = one_head bytes h k r q has other in
    let sizes = same_size (sym is ∙ (ap wish_of same.0 ∙ wished)) in
    absurd (omega (arith, fits, few, sizes, ap length same.1))
when_whole bytes h r n has is fits f (whole b k q m other wished there) =
    let same = one_head bytes h k r q has other in
    let sizes = same_size (sym is ∙ (ap wish_of same.0 ∙ wished)) in
    ap (λ x. Whole (request_of k x)) (sym sizes) ∙ ap (λ x. Whole (request_of x n)) (sym same.0)

-- where there is no head
when_none : (x : ℕ) (xs : List ℕ) → HasNoHead (x ∷ xs) → (bytes : List ℕ) → bytes ≡ x ∷ xs → (f : Front) → Begins bytes f → f ≡ Refused BadRequest
when_none x xs none bytes is f ends = absurd (let e : [] ≡ x ∷ xs = is in cc)
when_none x xs none bytes is f (no_head y ys nohead) = refl
when_none x xs none bytes is f (refused b k q t other wished) = absurd (none k q (subst (λ z. BeginsWithHead z k q) is other))
when_none x xs none bytes is f (cut b k q m other wished few) = refl
when_none x xs none bytes is f (whole b k q m other wished there) = absurd (none k q (subst (λ z. BeginsWithHead z k q) is other))

-- where there is nothing
when_nothing : (bytes : List ℕ) → bytes ≡ [] → (f : Front) → Begins bytes f → f ≡ End
when_nothing bytes is f ends = refl
when_nothing bytes is f (no_head y ys nohead) = absurd (let e : y ∷ ys ≡ [] = is in cc)
when_nothing bytes is f (refused b k q t other wished) = absurd (nothing_has_none k q (subst (λ z. BeginsWithHead z k q) is other))
when_nothing bytes is f (cut b k q m other wished few) = absurd (nothing_has_none k q (subst (λ z. BeginsWithHead z k q) is other))
when_nothing bytes is f (whole b k q m other wished there) = absurd (nothing_has_none k q (subst (λ z. BeginsWithHead z k q) is other))

pub one_front : (bytes : List ℕ) (f g : Front) → Begins bytes f → Begins bytes g → f ≡ g
one_front bytes f g ends other = sym (when_nothing bytes refl g other)
one_front bytes f g (no_head x xs none) other = sym (when_none x xs none bytes refl g other)
one_front bytes f g (refused b h r s has is) other = sym (when_refused bytes h r s has is g other)
one_front bytes f g (cut b h r n has is few) other = sym (when_cut bytes h r n has is few g other)
one_front bytes f g (whole b h r n has is fits) other = sym (when_whole bytes h r n has is fits g other)

-- bytes with a head have a front
some_by_size : (bytes : List ℕ) (h : RequestHead) (r : List ℕ) (n : ℕ) → BeginsWithHead bytes h r → wish_of h ≡ Body n → (length r < n) ⊎ (n ≤ length r) → ((f : Front) → Begins bytes f → ⊥) → ⊥
some_by_size bytes h r n has is (inl few) refuted = refuted (Refused BadRequest) (cut bytes h r n has is few)
some_by_size bytes h r n has is (inr fits) refuted = refuted (Whole (request_of h n)) (whole bytes h r n has is fits)

some_by_wish : (bytes : List ℕ) (h : RequestHead) (r : List ℕ) (w : Wish) → BeginsWithHead bytes h r → wish_of h ≡ w → ((f : Front) → Begins bytes f → ⊥) → ⊥
some_by_wish bytes h r (Refusal s) has is refuted = refuted (Refused s) (refused bytes h r s has is)
some_by_wish bytes h r (Body n) has is refuted = some_by_size bytes h r n has is (cases_lt (length r) n) refuted

pub some_front : (bytes : List ℕ) → ((f : Front) → Begins bytes f → ⊥) → ⊥
some_front [] refuted = refuted End ends
some_front (x ∷ xs) refuted = refuted (Refused BadRequest) (no_head x xs (λ h r has. some_by_wish (x ∷ xs) h r (wish_of h) has refl refuted))

-- unfinished bytes have no whole request
pub unfinished_not_whole : (bytes : List ℕ) → IsUnfinished bytes → (f : Front) → Begins bytes f → IsWhole f → ⊥
unfinished_not_whole bytes no_byte f begins is = subst IsWhole (when_nothing bytes refl f begins) is
unfinished_not_whole bytes (in_head b may) f (whole c k q m other wished there) is = may.none k q other.reads
unfinished_not_whole bytes (in_head b may) f ends is = is
unfinished_not_whole bytes (in_head b may) f (no_head x xs none) is = is
unfinished_not_whole bytes (in_head b may) f (refused c k q t other wished) is = is
unfinished_not_whole bytes (in_head b may) f (cut c k q m other wished few) is = is
unfinished_not_whole bytes (in_body b h r n has wished few) f begins is = subst IsWhole (when_cut bytes h r n has wished few f begins) is

-- nor a head that is refused
pub unfinished_not_refused : (bytes : List ℕ) → IsUnfinished bytes → (h : RequestHead) (r : List ℕ) (s : StatusCode) → BeginsWithHead bytes h r → wish_of h ≡ Refusal s → ⊥
unfinished_not_refused bytes no_byte h r s has is = nothing_has_none h r has
unfinished_not_refused bytes (in_head b may) h r s has is = may.none h r has.reads
unfinished_not_refused bytes (in_body b k q n other wished few) h r s has is =
    apart (sym is ∙ (ap wish_of (one_head bytes h k r q has other).0 ∙ wished))
