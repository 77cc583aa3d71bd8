-- The requests of a connection are one list, and it has one end.
use Rattle.std.proofs.Common.{ℕ, zero, suc, ◌≡◌, List, [], ◌∷◌, ap, sym, subst, ◌∙◌, refl, Bool, true, false}
use Rattle.http_requests.specs.declared.connection_end.ConnectionEnd.{ConnectionEnd}
use Rattle.http_requests.specs.declared.connection_end.ConnectionEnd.TheVariants.{Closed, Refused as RefusedWith}
use Rattle.http_requests.specs.declared.front.Front.{Front}
use Rattle.http_requests.specs.declared.front.Front.TheVariants.{End, Refused, Whole}
use Rattle.http_requests.specs.declared.front.Request.{Request}
use Rattle.http_requests.specs.Front.{Begins}
use Rattle.http_requests.specs.Asked.{AskedWithin, spent, ended, refused, last, another, body_of, behind}
use Rattle.http_requests.proofs.FrontLemmas.{one_front, some_front}

-- what comes of a request, by whether the connection ends behind it
abbrev Next : Bool → ℕ → List ℕ → Request → List (List ℕ) → ConnectionEnd → Type 0
Next true n bytes request bodies end = (bodies ≡ body_of request bytes ∷ []) × (end ≡ Closed)
Next false n bytes request bodies end = (others : List (List ℕ)) × (bodies ≡ body_of request bytes ∷ others) × AskedWithin n (behind request bytes) others end

-- what comes of what stands in front
abbrev Then : Front → ℕ → List ℕ → List (List ℕ) → ConnectionEnd → Type 0
Then End n bytes bodies end = (bodies ≡ []) × (end ≡ Closed)
Then (Refused status) n bytes bodies end = (bodies ≡ []) × (end ≡ RefusedWith status)
Then (Whole request) n bytes bodies end = Next request.closes n bytes request bodies end

parted : (n : ℕ) (bytes : List ℕ) (bodies : List (List ℕ)) (end : ConnectionEnd) → AskedWithin (suc n) bytes bodies end → (f : Front) × Begins bytes f × Then f n bytes bodies end
parted n bytes bodies end (ended left b begins) = (End, begins, (refl, refl))
parted n bytes bodies end (refused left b status begins) = (Refused status, begins, (refl, refl))
parted n bytes bodies end (last left b request begins closes) =
    (Whole request, begins, subst (λ c. Next c n bytes request bodies end) (sym closes) (refl, refl))
parted n bytes bodies end (another left b request others e begins closes asked) =
    (Whole request, begins, subst (λ c. Next c n bytes request bodies end) (sym closes) (others, refl, asked))

none_left : (bytes : List ℕ) (bodies : List (List ℕ)) (end : ConnectionEnd) → AskedWithin 0 bytes bodies end → (bodies ≡ []) × (end ≡ Closed)
none_left bytes bodies end (spent b) = (refl, refl)

abbrev OneEnd : ℕ → Type 0
OneEnd n = (bytes : List ℕ) (bodies others : List (List ℕ)) (end another_end : ConnectionEnd) → AskedWithin n bytes bodies end → AskedWithin n bytes others another_end → (bodies ≡ others) × (end ≡ another_end)

next_same : (c : Bool) (n : ℕ) (bytes : List ℕ) (request : Request) (bodies others : List (List ℕ)) (end another_end : ConnectionEnd) → OneEnd n → Next c n bytes request bodies end → Next c n bytes request others another_end →
    (bodies ≡ others) × (end ≡ another_end)
next_same true n bytes request bodies others end another_end ih one other = (one.0 ∙ sym other.0, one.1 ∙ sym other.1)
next_same false n bytes request bodies others end another_end ih one other =
    let same = ih (behind request bytes) one.0 other.0 end another_end one.2 other.2 in
    (one.1 ∙ (ap (λ z. body_of request bytes ∷ z) same.0 ∙ sym other.1), same.1)

then_same : (f : Front) (n : ℕ) (bytes : List ℕ) (bodies others : List (List ℕ)) (end another_end : ConnectionEnd) → OneEnd n → Then f n bytes bodies end → Then f n bytes others another_end → (bodies ≡ others) × (end ≡ another_end)
then_same End n bytes bodies others end another_end ih one other = (one.0 ∙ sym other.0, one.1 ∙ sym other.1)
then_same (Refused status) n bytes bodies others end another_end ih one other = (one.0 ∙ sym other.0, one.1 ∙ sym other.1)
then_same (Whole request) n bytes bodies others end another_end ih one other = next_same request.closes n bytes request bodies others end another_end ih one other

pub one_end : (n : ℕ) → OneEnd n
one_end zero = λ bytes bodies others end another_end one other.
    let a = none_left bytes bodies end one in
    let b = none_left bytes others another_end other in
    (a.0 ∙ sym b.0, a.1 ∙ sym b.1)
one_end (suc n) = λ bytes bodies others end another_end one other.
    let a = parted n bytes bodies end one in
    let b = parted n bytes others another_end other in
    let same = one_front bytes b.0 a.0 b.1 a.1 in
    then_same a.0 n bytes bodies others end another_end (one_end n) a.2 (subst (λ f. Then f n bytes others another_end) same b.2)

abbrev SomeEnd : ℕ → Type 0
SomeEnd n = (bytes : List ℕ) → ((bodies : List (List ℕ)) (end : ConnectionEnd) → AskedWithin n bytes bodies end → ⊥) → ⊥

some_behind : (c : Bool) (n : ℕ) (bytes : List ℕ) (request : Request) → SomeEnd n → Begins bytes (Whole request) → request.closes ≡ c → ((bodies : List (List ℕ)) (end : ConnectionEnd) → AskedWithin (suc n) bytes bodies end → ⊥) → ⊥
some_behind true n bytes request ih begins is refuted = refuted (body_of request bytes ∷ []) Closed (last n bytes request begins is)
some_behind false n bytes request ih begins is refuted =
    ih (behind request bytes) (λ bodies end asked. refuted (body_of request bytes ∷ bodies) end (another n bytes request bodies end begins is asked))

some_then : (f : Front) (n : ℕ) (bytes : List ℕ) → SomeEnd n → Begins bytes f → ((bodies : List (List ℕ)) (end : ConnectionEnd) → AskedWithin (suc n) bytes bodies end → ⊥) → ⊥
some_then End n bytes ih begins refuted = refuted [] Closed (ended n bytes begins)
some_then (Refused status) n bytes ih begins refuted = refuted [] (RefusedWith status) (refused n bytes status begins)
some_then (Whole request) n bytes ih begins refuted = some_behind request.closes n bytes request ih begins refl refuted

pub some_end : (n : ℕ) → SomeEnd n
some_end zero = λ bytes refuted. refuted [] Closed (spent bytes)
some_end (suc n) = λ bytes refuted. some_front bytes (λ f begins. some_then f n bytes (some_end n) begins refuted)
