-- A text is a path in one way at most.
use Rattle.std.proofs.Common.{ℕ, ℤ, ◌≡◌, ◌≢◌, ◌<◌, Bool, true, false, List, [], ◌∷◌, ◌++◌, get_or, Option, Some, None, Result, Ok, refl, sym, ap, subst, ◌∙◌, append_assoc, arith, ◌⊎◌, inl, inr, nat_eq}
use Rattle.std.specs.List.{starts_with}
use Rattle.std.specs.Char.{digit_value}
use Rattle.std.specs.Str.{IsAscii}
use Rattle.std.specs.Str.Parse.{AllDigits, digits_value, ParsesSigned}
use Rattle.std.specs.Int.{w32}
use Rattle.std.proofs.lemmas.List.{append-nil}
use Rattle.std.proofs.lemmas.Bool.{cases_eq}
use Rattle.std.proofs.lemmas.Fmt.{IsAscii-from_digits}
use Rattle.std.proofs.lemmas.Str.Ascii.{IsAscii-cons}
use Rattle.std.proofs.lemmas.Result.{OkIff-at_ok}
use Rattle.std.proofs.lemmas.Str.Parse.{numerals_by_value, tells_digits, parse_signed_minus, parse_signed_plain, IsNumeralModel}
use Rattle.uci_text.specs.declared.byte_class.ByteClass.{ByteClass}
use Rattle.uci_text.specs.declared.byte_class.ByteClass.TheVariants.{Name, PackageName, Printable}
use Rattle.uci_text.specs.ByteClass.{is_in, AllIn}
use Rattle.uci_text.specs.Table.{IsNameOf}
use Rattle.uci_tree.specs.declared.path.Path.{Path}
use Rattle.uci_tree.specs.declared.path.SectionRef.{SectionRef}
use Rattle.uci_tree.specs.declared.path.SectionRef.TheVariants.{Name as ByName, Place as ByPlace}
use Rattle.uci_tree.specs.Path.{SpellsIndex, forwards, backwards, SpellsRef, SpellsOption, SpellsPlace, SpellsPath}
use Rattle.uci_tree.specs.Split.{HasNone, CutsAtFirst, CutsAtLast, CutsOption}

pub stands_there : (byte : ℕ) (a b : List ℕ) → HasNone byte (a ++ byte ∷ b) → ⊥
stands_there byte [] b h = h.0 refl
stands_there byte (x ∷ a) b h = stands_there byte a b h.1

pub not_there : (byte : ℕ) (text a b : List ℕ) → text ≡ a ++ byte ∷ b → HasNone byte text → ⊥
not_there byte text a b e h = let P : List ℕ → Type 0 = λ z. HasNone byte z in stands_there byte a b (subst P e h)

-- bytes of a class lack one that is outside
pub lacks : (class : ByteClass) (byte : ℕ) (text : List ℕ) → is_in class byte ≡ false → AllIn class text → HasNone byte text
lacks class byte [] o h = tt
lacks class byte (x ∷ text) o h = (λ e. let same : is_in class x ≡ is_in class byte = ap (is_in class) e in let t : is_in class x ≡ true = h.0 in cc, lacks class byte text o h.1)

-- there is one cut at the first byte, and one at the last
pub one_first : (byte : ℕ) (a b c d : List ℕ) → HasNone byte a → HasNone byte c → a ++ byte ∷ b ≡ c ++ byte ∷ d → (a ≡ c) × (b ≡ d)
one_first byte [] b [] d h g e = (refl, cc)
one_first byte [] b (y ∷ c) d h g e = let s : y ≡ byte = cc in absurd (g.0 s)
one_first byte (x ∷ a) b [] d h g e = let s : x ≡ byte = cc in absurd (h.0 s)
one_first byte (x ∷ a) b (y ∷ c) d h g e =
    let t : a ++ byte ∷ b ≡ c ++ byte ∷ d = cc in
    let r : (a ≡ c) × (b ≡ d) = one_first byte a b c d h.1 g.1 t in
    let same : a ≡ c = r.0 in
    (cc, r.1)

pub one_last : (byte : ℕ) (a b c d : List ℕ) → HasNone byte b → HasNone byte d → a ++ byte ∷ b ≡ c ++ byte ∷ d → (a ≡ c) × (b ≡ d)
one_last byte [] b [] d h g e = (refl, cc)
one_last byte [] b (y ∷ c) d h g e = let t : b ≡ c ++ byte ∷ d = cc in absurd (not_there byte b c d t h)
one_last byte (x ∷ a) b [] d h g e = let t : d ≡ a ++ byte ∷ b = cc in absurd (not_there byte d a b t g)
one_last byte (x ∷ a) b (y ∷ c) d h g e =
    let t : a ++ byte ∷ b ≡ c ++ byte ∷ d = cc in
    let r : (a ≡ c) × (b ≡ d) = one_last byte a b c d h g t in
    let same : a ≡ c = r.0 in
    (cc, r.1)

-- a text that ends in a byte does not end in bytes that lack it
no_bytes : (a : List ℕ) (y : ℕ) (n : List ℕ) → a ++ y ∷ n ≡ [] → ⊥
no_bytes [] y n e = cc
no_bytes (x ∷ a) y n e = cc

pub no_end : (byte : ℕ) (a : List ℕ) (y : ℕ) (n b : List ℕ) → HasNone byte (y ∷ n) → a ++ y ∷ n ≡ b ++ byte ∷ [] → ⊥
no_end byte [] y n b h e = not_there byte (y ∷ n) b [] e h
no_end byte (x ∷ a) y n [] h e = let t : a ++ y ∷ n ≡ [] = cc in no_bytes a y n t
no_end byte (x ∷ a) y n (z ∷ b) h e = let t : a ++ y ∷ n ≡ b ++ byte ∷ [] = cc in no_end byte a y n b h t

-- an index is digits, perhaps behind a minus
digits_lack : (byte : ℕ) (digits : List ℕ) → (digit_value byte < 10 → ⊥) → AllDigits 10 digits → HasNone byte digits
digits_lack byte [] o h = tt
digits_lack byte (d ∷ digits) o h = (λ e. let P : ℕ → Type 0 = λ z. digit_value z < 10 in o (subst P e h.0), digits_lack byte digits o h.1)

pub index_lacks : (text : List ℕ) (index : ℤ) → SpellsIndex text index → HasNone 91 text
index_lacks text index (forwards n h s e) = digits_lack 91 text (λ d. absurd (omega (arith, d))) h.0.1
index_lacks text index (backwards digits n w h s e) =
    let P : List ℕ → Type 0 = λ z. HasNone 91 z in
    subst P (sym w) (λ d. absurd (omega (arith, d)), digits_lack 91 digits (λ d. absurd (omega (arith, d))) h.0.1)

own : IsNumeralModel (AllDigits 10) (digits_value 10)
own = numerals_by_value (AllDigits 10) tells_digits

pub index_is_ascii : (text : List ℕ) (index : ℤ) → SpellsIndex text index → IsAscii text
index_is_ascii text index (forwards n h s e) = IsAscii-from_digits text h.0.1
index_is_ascii text index (backwards digits n w h s e) = subst IsAscii (sym w) (IsAscii-cons 45 digits (omega arith) (IsAscii-from_digits digits h.0.1))

index_by_sign : {E : Type 0} (c : ℕ) (text : List ℕ) (r : Result ℤ E) (index : ℤ) → ParsesSigned w32 10 (c ∷ text) r → c ≢ 43 → r ≡ Ok index → (c ≡ 45) ⊎ (c ≢ 45) → SpellsIndex (c ∷ text) index
index_by_sign c text r index p plus o (inl minus) =
    let f = OkIff-at_ok r _ _ index (parse_signed_minus own w32 (c ∷ text) r p minus) o in
    backwards text (digits_value 10 text) (ap (λ (z : ℕ). z ∷ text) minus) ((f.0.1, f.0.0), refl) f.0.2 f.1
index_by_sign c text r index p plus o (inr other) =
    let f = OkIff-at_ok r _ _ index (parse_signed_plain own w32 (c ∷ text) r p plus other) o in
    forwards (digits_value 10 (c ∷ text)) ((f.0.1, f.0.0), refl) f.0.2 f.1

pub index_found : {E : Type 0} (text : List ℕ) (r : Result ℤ E) (index : ℤ) → ParsesSigned w32 10 text r → get_or text 0 0 ≢ 43 → r ≡ Ok index → SpellsIndex text index
index_found [] r index p plus o = let f = OkIff-at_ok r _ _ index (parse_signed_plain own w32 [] r p plus (λ e. absurd (omega (arith, e)))) o in absurd (omega (arith, f.0.1))
index_found (c ∷ text) r index p plus o = index_by_sign c text r index p plus o (cases_eq c 45)

minus_no_digit : (digits : List ℕ) → AllDigits 10 (45 ∷ digits) → ⊥
minus_no_digit digits h = let d : digit_value 45 < 10 = h.0 in absurd (omega (arith, d))

one_index : (text : List ℕ) (a b : ℤ) → SpellsIndex text a → SpellsIndex text b → b ≡ a
one_index text a b (forwards n h s e) (forwards m g t f) = let same : m ≡ n = sym g.1 ∙ h.1 in cc
one_index text a b (forwards n h s e) (backwards digits m w g t f) = let P : List ℕ → Type 0 = λ z. AllDigits 10 z in absurd (minus_no_digit digits (subst P w h.0.1))
one_index text a b (backwards digits n w h s e) (forwards m g t f) = let P : List ℕ → Type 0 = λ z. AllDigits 10 z in absurd (minus_no_digit digits (subst P w g.0.1))
one_index text a b (backwards digits n w h s e) (backwards others m v g t f) =
    let both : 45 ∷ others ≡ 45 ∷ digits = sym v ∙ w in
    let list : others ≡ digits = cc in
    let same : m ≡ n = sym g.1 ∙ ap (digits_value 10) list ∙ h.1 in
    cc

-- what stands behind the @ of a section by its place
pub record AtPlace (text kind digits : List ℕ) (index : ℤ) : Type 0 where
  pub whole : text ≡ (kind ++ 91 ∷ digits) ++ 93 ∷ []
  pub named : IsNameOf Printable kind
  pub spelled : SpellsIndex digits index

no_at : (text : List ℕ) → IsNameOf Name (64 ∷ text) → ⊥
no_at text h = let t : is_in Name 64 ≡ true = h.1.0 in let f : is_in Name 64 ≡ false = refl in cc

at_place : (text kind : List ℕ) (index : ℤ) → SpellsRef (64 ∷ text) (ByPlace kind index) → (digits : List ℕ) × AtPlace text kind digits index
at_place text kind index s =
    let e : text ≡ kind ++ 91 ∷ (s.0 ++ 93 ∷ []) = let w : 64 ∷ text ≡ 64 ∷ (kind ++ 91 ∷ (s.0 ++ 93 ∷ [])) = s.1 in cc in
    (s.0, record { whole = e ∙ sym (append_assoc kind (91 ∷ s.0) (93 ∷ [])); named = s.2; spelled = s.3 })

pub no_bracket : (text : List ℕ) (reference : SectionRef) → HasNone 93 text → SpellsRef (64 ∷ text) reference → ⊥
no_bracket text (ByName name) h s = let P : List ℕ → Type 0 = λ z. IsNameOf Name z in no_at text (subst P (sym s.0) s.1)
no_bracket text (ByPlace kind index) h s = let a = at_place text kind index s in not_there 93 text (kind ++ 91 ∷ a.0) [] a.1.whole h

-- the parts that the reader cuts
pub record Parts (inner end : List ℕ) : Type 0 where
  pub kind : List ℕ
  pub digits : List ℕ
  pub index : ℤ
  pub whole : inner ≡ kind ++ 91 ∷ digits
  pub at_end : end ≡ []
  pub named : IsNameOf Printable kind
  pub spelled : SpellsIndex digits index

pub parts : (text inner end : List ℕ) (reference : SectionRef) → CutsAtLast 93 text inner end → SpellsRef (64 ∷ text) reference → Parts inner end
parts text inner end (ByName name) c s = let P : List ℕ → Type 0 = λ z. IsNameOf Name z in absurd (no_at text (subst P (sym s.0) s.1))
parts text inner end (ByPlace kind index) c s =
    let a = at_place text kind index s in
    let one = one_last 93 inner end (kind ++ 91 ∷ a.0) [] c.last tt (sym c.whole ∙ a.1.whole) in
    record { kind = kind; digits = a.0; index = index; whole = one.0; at_end = one.1; named = a.1.named; spelled = a.1.spelled }

pub no_inner : (inner end : List ℕ) → HasNone 91 inner → Parts inner end → ⊥
no_inner inner end h p = not_there 91 inner p.kind p.digits p.whole h

pub same_parts : (inner end kind digits : List ℕ) → CutsAtLast 91 inner kind digits → Parts inner end → IsNameOf Printable kind × ((index : ℤ) × SpellsIndex digits index)
same_parts inner end kind digits c p =
    let one = one_last 91 p.kind p.digits kind digits (index_lacks p.digits p.index p.spelled) c.last (sym p.whole ∙ c.whole) in
    let P : List ℕ → Type 0 = λ z. IsNameOf Printable z in
    let Q : List ℕ → Type 0 = λ z. SpellsIndex z p.index in
    (subst P one.0 p.named, (p.index, subst Q one.1 p.spelled))

pub ref_found : (text inner end kind digits : List ℕ) (index : ℤ) → CutsAtLast 93 text inner end → CutsAtLast 91 inner kind digits → end ≡ [] → IsNameOf Printable kind → SpellsIndex digits index → SpellsRef (64 ∷ text) (ByPlace kind index)
ref_found text inner end kind digits index c d e n s =
    let w : text ≡ kind ++ 91 ∷ (digits ++ 93 ∷ []) = c.whole ∙ ap (λ (z : List ℕ). inner ++ 93 ∷ z) e ∙ ap (λ (z : List ℕ). z ++ 93 ∷ []) d.whole ∙ append_assoc kind (91 ∷ digits) (93 ∷ []) in
    (digits, ap (λ (z : List ℕ). 64 ∷ z) w, n, s)

one_place : (text : List ℕ) (kind other : List ℕ) (a b : ℤ) → SpellsRef (64 ∷ text) (ByPlace kind a) → SpellsRef (64 ∷ text) (ByPlace other b) → (other ≡ kind) × (b ≡ a)
one_place text kind other a b s t =
    let p = at_place text kind a s in
    let q = at_place text other b t in
    let one = one_last 93 (other ++ 91 ∷ q.0) [] (kind ++ 91 ∷ p.0) [] tt tt (sym q.1.whole ∙ p.1.whole) in
    let two = one_last 91 other q.0 kind p.0 (index_lacks q.0 b q.1.spelled) (index_lacks p.0 a p.1.spelled) one.0 in
    let P : List ℕ → Type 0 = λ z. SpellsIndex z b in
    (two.0, one_index p.0 a b p.1.spelled (subst P two.1 q.1.spelled))

not_both : (text name kind : List ℕ) (index : ℤ) → SpellsRef text (ByName name) → SpellsRef text (ByPlace kind index) → ⊥
not_both text name kind index s t =
    let P : List ℕ → Type 0 = λ z. IsNameOf Name z in
    no_at (kind ++ 91 ∷ (t.0 ++ 93 ∷ [])) (subst P (sym s.0 ∙ t.1) s.1)

one_ref : (text : List ℕ) (a b : SectionRef) → SpellsRef text a → SpellsRef text b → b ≡ a
one_ref text (ByName name) (ByName other) s t = let same : other ≡ name = sym t.0 ∙ s.0 in cc
one_ref text (ByName name) (ByPlace kind index) s t = absurd (not_both text name kind index s t)
one_ref text (ByPlace kind index) (ByName name) s t = absurd (not_both text name kind index t s)
one_ref text (ByPlace kind index) (ByPlace other index') s t =
    let P : List ℕ → Type 0 = λ z. SpellsRef z (ByPlace other index') in
    let rest = kind ++ 91 ∷ (s.0 ++ 93 ∷ []) in
    let Q : List ℕ → Type 0 = λ z. SpellsRef z (ByPlace kind index) in
    let one = one_place rest kind other index index' (subst Q s.1 s) (subst P s.1 t) in
    let k : other ≡ kind = one.0 in
    let i : index' ≡ index = one.1 in
    cc

-- a section and an option behind it are cut where the reader cuts
no_name_behind : (section : List ℕ) (reference : SectionRef) (before name : List ℕ) → SpellsRef section reference → section ≡ before ++ 46 ∷ name → IsNameOf Name name → ⊥
no_name_behind section (ByName own) before name s e n = let P : List ℕ → Type 0 = λ z. AllIn Name z in not_there 46 section before name e (lacks Name 46 section refl (subst P (sym s.0) s.1.1))
no_name_behind section (ByPlace kind index) before name s e n =
    let w : before ++ 46 ∷ name ≡ (64 ∷ (kind ++ 91 ∷ s.0)) ++ 93 ∷ [] = sym e ∙ s.1 ∙ ap (λ (z : List ℕ). 64 ∷ z) (sym (append_assoc kind (91 ∷ s.0) (93 ∷ []))) in
    no_end 93 before 46 name (64 ∷ (kind ++ 91 ∷ s.0)) (λ d. absurd (omega (arith, d)), lacks Name 93 name refl n.1) w

one_cut : (text section other behind : List ℕ) (option another : Option (List ℕ)) (reference : SectionRef) → CutsOption text section option → text ≡ other ++ behind → SpellsRef other reference → SpellsOption behind another
    → (section ≡ other) × (option ≡ another)
one_cut text section other behind None None reference c w r o = (c.0 ∙ w ∙ ap (λ (z : List ℕ). other ++ z) o ∙ append-nil other, refl)
one_cut text section other behind None (Some name) reference c w r o = absurd (c.1 other name (w ∙ ap (λ (z : List ℕ). other ++ z) o.0) o.1)
one_cut text section other behind (Some name) None reference c w r o = absurd (no_name_behind other reference section name r (sym (append-nil other) ∙ ap (λ (z : List ℕ). other ++ z) (sym o) ∙ sym w ∙ c.0) c.1)
one_cut text section other behind (Some name) (Some named) reference c w r o =
    let one = one_last 46 section name other named (lacks Name 46 name refl c.1.1) (lacks Name 46 named refl o.1.1) (sym c.0 ∙ w ∙ ap (λ (z : List ℕ). other ++ z) o.0) in
    let same : name ≡ named = one.1 in
    (one.0, cc)

pub no_option : (text before name : List ℕ) → HasNone 46 text → text ≡ before ++ 46 ∷ name → IsNameOf Name name → ⊥
no_option text before name h e n = not_there 46 text before name e h

pub other_option : (text front back before name : List ℕ) → CutsAtLast 46 text front back → (IsNameOf Name back → ⊥) → text ≡ before ++ 46 ∷ name → IsNameOf Name name → ⊥
other_option text front back before name c o e n =
    let one = one_last 46 before name front back (lacks Name 46 name refl n.1) c.last (sym e ∙ c.whole) in
    let P : List ℕ → Type 0 = λ z. IsNameOf Name z in
    o (subst P one.1 n)

-- the whole
pub path_found : (text name place section : List ℕ) (reference : SectionRef) (option : Option (List ℕ)) → CutsAtFirst 46 text name place → IsNameOf PackageName name → CutsOption place section option → SpellsRef section reference
    → SpellsPath text (record { «package» = name; section = Some reference; option = option })
path_found text name place section reference None c n o r =
    let P : List ℕ → Type 0 = λ z. SpellsRef z reference in
    record { behind = 46 ∷ place; whole = c.whole; named = n; place = (place, [], ap (λ (z : List ℕ). 46 ∷ z) (sym (append-nil place)), subst P o.0 r, refl) }
path_found text name place section reference (Some option) c n o r =
    record { behind = 46 ∷ place; whole = c.whole; named = n; place = (section, 46 ∷ option, ap (λ (z : List ℕ). 46 ∷ z) o.0, r, (refl, o.1)) }

-- a path with a section has its dot first; one without has none
pub record HasSection (place : List ℕ) (path : Path) : Type 0 where
  pub section : List ℕ
  pub behind : List ℕ
  pub reference : SectionRef
  pub has : path.section ≡ Some reference
  pub whole : place ≡ section ++ behind
  pub spelled : SpellsRef section reference
  pub option : SpellsOption behind path.option

pub package_of : (text name place named behind : List ℕ) (at : Option SectionRef) (option : Option (List ℕ)) → CutsAtFirst 46 text name place → text ≡ named ++ behind → IsNameOf PackageName named → SpellsPlace behind at option
    → (name ≡ named) × HasSection place (record { «package» = named; section = at; option = option })
package_of text name place named behind None None c w n s = absurd (not_there 46 named name place (sym (append-nil named) ∙ ap (λ (z : List ℕ). named ++ z) (sym s) ∙ sym w ∙ c.whole) (lacks PackageName 46 named refl n.1))
package_of text name place named behind None (Some option) c w n s = absurd s
package_of text name place named behind (Some reference) option c w n s =
    let one = one_first 46 name place named (s.0 ++ s.1) c.first (lacks PackageName 46 named refl n.1) (sym c.whole ∙ w ∙ ap (λ (z : List ℕ). named ++ z) s.2) in
    (one.0, record { section = s.0; behind = s.1; reference = reference; has = refl; whole = one.1; spelled = s.3; option = s.4 })

pub path_is : (text name place : List ℕ) (path : Path) → CutsAtFirst 46 text name place → SpellsPath text path → (name ≡ path.«package») × HasSection place path
path_is text name place path c s = package_of text name place path.«package» s.behind path.section path.option c s.whole s.named s.place

pub not_named : (text name place : List ℕ) (path : Path) → CutsAtFirst 46 text name place → (IsNameOf PackageName name → ⊥) → SpellsPath text path → ⊥
not_named text name place path c o s = let P : List ℕ → Type 0 = λ z. IsNameOf PackageName z in o (subst P (sym (path_is text name place path c s).0) s.named)

pub not_a_ref : (text name place section : List ℕ) (option : Option (List ℕ)) (path : Path) → CutsAtFirst 46 text name place → CutsOption place section option → ((reference : SectionRef) → SpellsRef section reference → ⊥)
    → SpellsPath text path → ⊥
not_a_ref text name place section option path c d o s =
    let h = (path_is text name place path c s).1 in
    let one = one_cut place section h.section h.behind option path.option h.reference d h.whole h.spelled h.option in
    let P : List ℕ → Type 0 = λ z. SpellsRef z h.reference in
    o h.reference (subst P (sym one.0) h.spelled)

no_dot : (text named behind : List ℕ) (at : Option SectionRef) (option : Option (List ℕ)) → HasNone 46 text → text ≡ named ++ behind → SpellsPlace behind at option → (named ≡ text) × (at ≡ None) × (option ≡ None)
no_dot text named behind None None h w s = (sym (w ∙ ap (λ (z : List ℕ). named ++ z) s ∙ append-nil named), refl, refl)
no_dot text named behind None (Some option) h w s = absurd s
no_dot text named behind (Some reference) option h w s = absurd (not_there 46 text named (s.0 ++ s.1) (w ∙ ap (λ (z : List ℕ). named ++ z) s.2) h)

pub not_a_package : (text : List ℕ) (path : Path) → HasNone 46 text → (IsNameOf PackageName text → ⊥) → SpellsPath text path → ⊥
not_a_package text path h o s =
    let P : List ℕ → Type 0 = λ z. IsNameOf PackageName z in
    o (subst P (no_dot text path.«package» s.behind path.section path.option h s.whole s.place).0 s.named)

option_cut : (place section behind : List ℕ) (reference : SectionRef) (option : Option (List ℕ)) → place ≡ section ++ behind → SpellsRef section reference → SpellsOption behind option → CutsOption place section option
option_cut place section behind reference None w r o =
    let e : place ≡ section = w ∙ ap (λ (z : List ℕ). section ++ z) o ∙ append-nil section in
    (sym e, λ before name f n. no_name_behind section reference before name r (sym e ∙ f) n)
option_cut place section behind reference (Some option) w r o = (w ∙ ap (λ (z : List ℕ). section ++ z) o.0, o.1)

-- two readings of a text
same_paths : (text p b q d : List ℕ) (at other : Option SectionRef) (option another : Option (List ℕ)) → text ≡ p ++ b → IsNameOf PackageName p → SpellsPlace b at option → text ≡ q ++ d → IsNameOf PackageName q → SpellsPlace d other another
    → (q ≡ p) × (other ≡ at) × (another ≡ option)
same_paths text p b q d None other None another w n s v m t =
    let e : text ≡ p = w ∙ ap (λ (z : List ℕ). p ++ z) s ∙ append-nil p in
    let P : List ℕ → Type 0 = λ z. HasNone 46 z in
    let r = no_dot text q d other another (subst P (sym e) (lacks PackageName 46 p refl n.1)) v t in
    (r.0 ∙ e, r.1, r.2)
same_paths text p b q d None other (Some option) another w n s v m t = absurd s
same_paths text p b q d (Some reference) other option another w n s v m t =
    let c : CutsAtFirst 46 text p (s.0 ++ s.1) = record { whole = w ∙ ap (λ (z : List ℕ). p ++ z) s.2; first = lacks PackageName 46 p refl n.1 } in
    let r = package_of text p (s.0 ++ s.1) q d other another c v m t in
    let h = r.1 in
    let one = one_cut (s.0 ++ s.1) s.0 h.section h.behind option another h.reference (option_cut (s.0 ++ s.1) s.0 s.1 reference option refl s.3 s.4) h.whole h.spelled h.option in
    let P : List ℕ → Type 0 = λ z. SpellsRef z h.reference in
    let same : h.reference ≡ reference = one_ref s.0 reference h.reference s.3 (subst P (sym one.0) h.spelled) in
    let there : other ≡ Some h.reference = h.has in
    (sym r.0, cc, sym one.1)

path_from : List ℕ → Option SectionRef → Option (List ℕ) → Path
path_from name section option = record { «package» = name; section = section; option = option }

pub one_path : (text : List ℕ) (path other : Path) → SpellsPath text path → SpellsPath text other → other ≡ path
unfolding path_from
one_path text path other s t =
    let r = same_paths text path.«package» s.behind other.«package» t.behind path.section other.section path.option other.option s.whole s.named s.place t.whole t.named t.place in
    ap (λ (z : List ℕ). path_from z other.section other.option) r.0 ∙ ap (λ (z : Option SectionRef). path_from path.«package» z other.option) r.1 ∙ ap (λ (z : Option (List ℕ)). path_from path.«package» path.section z) r.2

pub no_plus : (text : List ℕ) (r : Bool) → r ≡ starts_with nat_eq text (43 ∷ []) → r ≡ false → get_or text 0 0 ≢ 43
no_plus [] r a b e = absurd (omega (arith, e))
no_plus (c ∷ text) r a b e =
    let P : ℕ → Type 0 = λ z. r ≡ starts_with nat_eq (z ∷ text) (43 ∷ []) in
    let t : r ≡ true = subst P e a in
    cc
