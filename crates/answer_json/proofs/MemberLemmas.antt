-- Members that are there, or absent.
use Rattle.std.proofs.Common.{ℕ, ◌≡◌, List, [], Option, Some, None, sym, subst, ap, ◌∙◌, refl, Result, Ok, Err}
use Rattle.std.specs.Prelude.{IfOk, IfSome, IfNone, unwrap_or}
use Rattle.serde_json.specs.Data.{Data, string}
use Rattle.serde_json.specs.Find.{as_str}
use Rattle.answer_json.specs.Members.{IsOptional, IsOr}

pub optional_there : {A : Type 0} (Reads : Data → A → Type 0) (o : Option Data) (value : Data) (a : A)
    → o ≡ Some value → Reads value a → IsOptional Reads o (Some a)
optional_there Reads o value a is reads =
    subst (λ (x : Option Data). IsOptional Reads x (Some a)) (sym is) (IsOptional.there value a reads)

pub optional_absent : {A : Type 0} (Reads : Data → A → Type 0) (o : Option Data) → o ≡ None
    → IsOptional Reads o None
optional_absent Reads o is =
    subst (λ (x : Option Data). IsOptional Reads x None) (sym is) IsOptional.absent

not_read : {A : Type 0} (Reads : Data → A → Type 0) (o : Option Data) (value : Data) (a : Option A)
    → o ≡ Some value → ((x : A) → Reads value x → ⊥) → IsOptional Reads o a → ⊥
not_read Reads o value a is none IsOptional.absent = absurd cc
not_read Reads o value a is none (IsOptional.there other x reads) =
    let same : other ≡ value = cc in none x (subst (λ (d : Data). Reads d x) same reads)

-- a member that does not read is in the way of every reading
pub optional_not : {A : Type 0} (Reads : Data → A → Type 0) (o : Option Data) (value : Data)
    (r : Option (Option A)) → r ≡ None → o ≡ Some value → ((x : A) → Reads value x → ⊥)
    → IfNone r ((a : Option A) → IsOptional Reads o a → ⊥)
optional_not Reads o value None e is none = λ a h. not_read Reads o value a is none h
optional_not Reads o value (Some a) e is none = absurd cc

pub or_found : {A : Type 0} (Reads : Data → A → Type 0) (default : A) (o : Option Data) (value : Data)
    (r : Option A) → o ≡ Some value → IfSome r (Reads value) → IfSome r (IsOr Reads default o)
or_found Reads default o value None is reads = tt
or_found Reads default o value (Some a) is reads =
    subst (λ (x : Option Data). IsOr Reads default x a) (sym is) (IsOr.there value a reads)

pub or_absent : {A : Type 0} (Reads : Data → A → Type 0) (default : A) (o : Option Data) → o ≡ None
    → IsOr Reads default o default
or_absent Reads default o is =
    subst (λ (x : Option Data). IsOr Reads default x default) (sym is) IsOr.absent

-- the text of a value that is a text
pub text_is : (value : Data) (letters text : List ℕ) → value ≡ string letters
    → as_str value ≡ Some text → letters ≡ text
text_is value letters text e s = ap (λ o. unwrap_or o []) (sym (ap as_str e) ∙ s)

-- one member is there
pub same_member : (o : Option Data) (a b : Data) → o ≡ Some a → o ≡ Some b → a ≡ b
same_member o a b x y = cc

-- what is in the way of a reading is in the way of what stands on it
pub none_within : {A E : Type 0} (r : Result (Option A) E) (P Q : Type 0) → (P → Q)
    → IfOk r (λ found. IfNone found P) → IfOk r (λ found. IfNone found Q)
none_within (Ok None) P Q to h = to h
none_within (Ok (Some a)) P Q to h = tt
none_within (Err e) P Q to h = tt

-- a member that does not read is in the way of every reading, also where it may be absent
pub or_not : {A : Type 0} (Reads : Data → A → Type 0) (default : A) (o : Option Data) (value : Data)
    → o ≡ Some value → ((x : A) → Reads value x → ⊥) → (a : A) → IsOr Reads default o a → ⊥
or_not Reads default o value is none a IsOr.absent = absurd cc
or_not Reads default o value is none a (IsOr.there other _ reads) =
    let same : other ≡ value = cc in none a (subst (λ (d : Data). Reads d a) same reads)

pub or_within : {A E : Type 0} (Reads : Data → A → Type 0) (default : A) (o : Option Data)
    (value : Data) (r : Result (Option A) E) → o ≡ Some value
    → IfOk r (λ found. IfSome found (Reads value))
    → IfOk r (λ found. IfSome found (IsOr Reads default o))
or_within Reads default o value (Ok None) is h = tt
or_within Reads default o value (Ok (Some a)) is h =
    subst (λ (x : Option Data). IsOr Reads default x a) (sym is) (IsOr.there value a h)
or_within Reads default o value (Err e) is h = tt

-- nothing was found
pub nothing : {A : Type 0} (r : Option A) (P : Type 0) → r ≡ None → P → IfNone r P
nothing None P e p = p
nothing (Some a) P e p = absurd cc

pub or_default : {A : Type 0} (Reads : Data → A → Type 0) (default a : A) (o : Option Data) → o ≡ None
    → a ≡ default → IsOr Reads default o a
or_default {A = A} Reads default a o is same =
    subst (λ (x : A). IsOr Reads default o x) (sym same) (or_absent Reads default o is)
