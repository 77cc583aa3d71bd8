-- The parts of a text, byte by byte.
use Rattle.std.proofs.Common.{ℕ, suc, ◌≡◌, ◌≢◌, ◌<◌, ◌≤◌, ◌+◌, ◌-◌, Bool, true, false, not, cond, nat_eq, List, [], ◌∷◌, ◌++◌, length, get_or, take, drop, drop-cons, refl, sym, ap, subst, ◌∙◌, append_assoc, arith}
use Rattle.std.specs.Prelude.{◌||◌}
use Rattle.std.specs.List.{AllByRecursion, flat_map}
use Rattle.std.proofs.lemmas.List.{append-nil, take_all, drop_all, take_rest, take-append-drop}
use Rattle.std.proofs.lemmas.Bool.Decides.{nat_tests}
use Rattle.uci_text.specs.declared.byte_class.ByteClass.TheVariants.{Plain, Quotable, DoubleQuotable}
use Rattle.uci_text.specs.ByteClass.{is_in, AllIn, ends_word, is_quoting}
use Rattle.uci_text.specs.Piece.{Inner, kept as kept_bytes, pair, inner_text, IsInner, Piece, plain, escaped, single, double, piece_text, IsPiece}
use Rattle.uci_text.specs.Open.{Open, open_single, open_double, open_pair, last_backslash, open_text, IsOpen}
use Rattle.uci_delta.specs.declared.quoting.Quoting.{Quoting}
use Rattle.uci_delta.specs.declared.quoting.Quoting.TheVariants.{Bare, BarePair, Single, Double, DoublePair}
use Rattle.uci_delta.specs.Quoting.{behind, is_cut}
use Rattle.uci_delta.specs.Parts.{IsUncut, in_word, between, AreParts, at_end, at_newline, goes_on, unended, IsCut}
use Rattle.uci_delta.proofs.WordLemmas.{plain_byte, other_behind, is_byte}

-- bytes in front of the first part
abbrev pub with_bytes : List ℕ → List (List ℕ) → List (List ℕ)
with_bytes front [] = front ∷ []
with_bytes front (part ∷ parts) = (front ++ part) ∷ parts

-- the parts of bytes of which the first one stands so
abbrev pub parts_from : Quoting → List ℕ → List (List ℕ)
parts_from quoting [] = [] ∷ []
parts_from quoting (byte ∷ bytes) = cond {A = List (List ℕ)} (is_cut quoting byte) ([] ∷ parts_from Bare bytes) (with_bytes (byte ∷ []) (parts_from (behind quoting byte) bytes))

abbrev pub parts : List ℕ → List (List ℕ)
parts text = parts_from Bare text

twice : (front back : List ℕ) (more : List (List ℕ)) → with_bytes front (with_bytes back more) ≡ with_bytes (front ++ back) more
twice front back [] = refl
twice front back (part ∷ more) = ap (λ (z : List ℕ). z ∷ more) (sym (append_assoc front back part))

-- there is always a part
pub record SomeParts (all : List (List ℕ)) : Type 0 where
  pub part : List ℕ
  pub more : List (List ℕ)
  pub are : all ≡ part ∷ more

some_with : (front : List ℕ) (all : List (List ℕ)) → SomeParts (with_bytes front all)
some_with front [] = record { part = front; more = []; are = refl }
some_with front (part ∷ more) = record { part = front ++ part; more = more; are = refl }

some_cond : (t : Bool) (a b : List (List ℕ)) → SomeParts a → SomeParts b → SomeParts (cond {A = List (List ℕ)} t a b)
some_cond true a b s u = s
some_cond false a b s u = u

pub some_parts : (quoting : Quoting) (text : List ℕ) → SomeParts (parts_from quoting text)
some_parts quoting [] = record { part = []; more = []; are = refl }
some_parts quoting (byte ∷ text) = some_cond (is_cut quoting byte) ([] ∷ parts_from Bare text) (with_bytes (byte ∷ []) (parts_from (behind quoting byte) text)) (record { part = []; more = parts_from Bare text; are = refl })
    (some_with (byte ∷ []) (parts_from (behind quoting byte) text))

none_in_front : (all : List (List ℕ)) → SomeParts all → with_bytes [] all ≡ all
none_in_front all s = ap (with_bytes []) s.are ∙ sym s.are

-- a byte that does not cut goes to the part
byte_on : (quoting : Quoting) (byte : ℕ) (bytes : List ℕ) → is_cut quoting byte ≡ false → parts_from quoting (byte ∷ bytes) ≡ with_bytes (byte ∷ []) (parts_from (behind quoting byte) bytes)
byte_on quoting byte bytes c = ap (λ (t : Bool). cond {A = List (List ℕ)} t ([] ∷ parts_from Bare bytes) (with_bytes (byte ∷ []) (parts_from (behind quoting byte) bytes))) c

-- bytes outside quotes
not_newline : (byte : ℕ) → ends_word byte ≡ false → nat_eq byte 10 ≡ false
not_newline byte e = go (nat_eq byte 10) refl
  where
    go : (t : Bool) → nat_eq byte 10 ≡ t → nat_eq byte 10 ≡ false
    go false e' = e'
    go true n =
        let same : byte ≡ 10 = grind (arith, nat_tests) in
        let P : ℕ → Type 0 = λ z. ends_word z ≡ false in
        absurd (let f : true ≡ false = subst P same e in cc)

other_newline : (byte : ℕ) → byte ≢ 10 → nat_eq byte 10 ≡ false
other_newline byte n = grind (arith, nat_tests)

ending_byte : (byte : ℕ) → ends_word byte ≡ true → is_quoting byte ≡ false
ending_byte byte e = go (is_quoting byte) refl
  where
    go : (t : Bool) → is_quoting byte ≡ t → is_quoting byte ≡ false
    go false q = q
    go true q = quoted (nat_eq byte 39) (nat_eq byte 34) (nat_eq byte 92) refl refl refl q
      where
        P : ℕ → Type 0
        P z = ends_word z ≡ true

        quoted : (x y z : Bool) → nat_eq byte 39 ≡ x → nat_eq byte 34 ≡ y → nat_eq byte 92 ≡ z → (x || y || z) ≡ true → is_quoting byte ≡ false
        quoted true y z a b d r = let same : byte ≡ 39 = grind (arith, nat_tests) in absurd (let f : false ≡ true = subst P same e in cc)
        quoted false true z a b d r = let same : byte ≡ 34 = grind (arith, nat_tests) in absurd (let f : false ≡ true = subst P same e in cc)
        quoted false false true a b d r = let same : byte ≡ 92 = grind (arith, nat_tests) in absurd (let f : false ≡ true = subst P same e in cc)
        quoted false false false a b d r = absurd (let f : false ≡ true = r in cc)

bare_on : (byte : ℕ) (bytes : List ℕ) → nat_eq byte 10 ≡ false → is_quoting byte ≡ false → parts_from Bare (byte ∷ bytes) ≡ with_bytes (byte ∷ []) (parts_from Bare bytes)
bare_on byte bytes n q = byte_on Bare byte bytes n ∙ ap (λ (z : Quoting). with_bytes (byte ∷ []) (parts_from z bytes)) (other_behind byte q)

-- pieces do not cut
plain_on : (run bytes : List ℕ) → AllIn Plain run → parts_from Bare (run ++ bytes) ≡ with_bytes run (parts_from Bare bytes)
plain_on [] bytes h = sym (none_in_front (parts_from Bare bytes) (some_parts Bare bytes))
plain_on (b ∷ run) bytes h =
    let p = plain_byte b h.0 in
    bare_on b (run ++ bytes) (not_newline b p.0) p.1
    ∙ ap (with_bytes (b ∷ [])) (plain_on run bytes h.1)
    ∙ twice (b ∷ []) run (parts_from Bare bytes)

single_behind : (b : ℕ) → is_in Quotable b ≡ true → behind Single b ≡ Single
single_behind b h = go (nat_eq b 39) h
  where
    go : (x : Bool) → not x ≡ true → cond {A = Quoting} x Bare Single ≡ Single
    go true e = absurd (let f : false ≡ true = e in cc)
    go false e = refl

single_on : (run bytes : List ℕ) → AllIn Quotable run → parts_from Single (run ++ bytes) ≡ with_bytes run (parts_from Single bytes)
single_on [] bytes h = sym (none_in_front (parts_from Single bytes) (some_parts Single bytes))
single_on (b ∷ run) bytes h =
    byte_on Single b (run ++ bytes) refl
    ∙ ap (λ (z : Quoting). with_bytes (b ∷ []) (parts_from z (run ++ bytes))) (single_behind b h.0)
    ∙ ap (with_bytes (b ∷ [])) (single_on run bytes h.1)
    ∙ twice (b ∷ []) run (parts_from Single bytes)

double_behind : (b : ℕ) → is_in DoubleQuotable b ≡ true → behind Double b ≡ Double
double_behind b h = go (nat_eq b 34) (nat_eq b 92) h
  where
    go : (x y : Bool) → not (x || y) ≡ true → cond {A = Quoting} x Bare (cond {A = Quoting} y DoublePair Double) ≡ Double
    go true y e = absurd (let f : false ≡ true = e in cc)
    go false true e = absurd (let f : false ≡ true = e in cc)
    go false false e = refl

bytes_on : (run bytes : List ℕ) → AllIn DoubleQuotable run → parts_from Double (run ++ bytes) ≡ with_bytes run (parts_from Double bytes)
bytes_on [] bytes h = sym (none_in_front (parts_from Double bytes) (some_parts Double bytes))
bytes_on (b ∷ run) bytes h =
    byte_on Double b (run ++ bytes) refl
    ∙ ap (λ (z : Quoting). with_bytes (b ∷ []) (parts_from z (run ++ bytes))) (double_behind b h.0)
    ∙ ap (with_bytes (b ∷ [])) (bytes_on run bytes h.1)
    ∙ twice (b ∷ []) run (parts_from Double bytes)

inner_on : (inner : Inner) (bytes : List ℕ) → IsInner inner → parts_from Double (inner_text inner ++ bytes) ≡ with_bytes (inner_text inner) (parts_from Double bytes)
inner_on (kept_bytes run) bytes h = bytes_on run bytes h
inner_on (pair b) bytes h = twice (92 ∷ []) (b ∷ []) (parts_from Double bytes)

inners_on : (inner : List Inner) (bytes : List ℕ) → AllByRecursion IsInner inner → parts_from Double (flat_map inner_text inner ++ bytes) ≡ with_bytes (flat_map inner_text inner) (parts_from Double bytes)
inners_on [] bytes h = sym (none_in_front (parts_from Double bytes) (some_parts Double bytes))
inners_on (part ∷ inner) bytes h =
    ap (parts_from Double) (append_assoc (inner_text part) (flat_map inner_text inner) bytes)
    ∙ inner_on part (flat_map inner_text inner ++ bytes) h.0
    ∙ ap (with_bytes (inner_text part)) (inners_on inner bytes h.1)
    ∙ twice (inner_text part) (flat_map inner_text inner) (parts_from Double bytes)

-- between quotes
quoted_on : (quote : ℕ) (text bytes : List ℕ) (within : Quoting) → behind Bare quote ≡ within → behind within quote ≡ Bare → is_cut Bare quote ≡ false → is_cut within quote ≡ false
    → ((more : List ℕ) → parts_from within (text ++ more) ≡ with_bytes text (parts_from within more)) → parts_from Bare ((quote ∷ text ++ quote ∷ []) ++ bytes) ≡ with_bytes (quote ∷ text ++ quote ∷ []) (parts_from Bare bytes)
quoted_on quote text bytes within opens closes c d on =
    ap (λ (z : List ℕ). parts_from Bare (quote ∷ z)) (append_assoc text (quote ∷ []) bytes)
    ∙ byte_on Bare quote (text ++ quote ∷ bytes) c
    ∙ ap (λ (z : Quoting). with_bytes (quote ∷ []) (parts_from z (text ++ quote ∷ bytes))) opens
    ∙ ap (with_bytes (quote ∷ [])) (on (quote ∷ bytes) ∙ ap (with_bytes text) (byte_on within quote bytes d ∙ ap (λ (z : Quoting). with_bytes (quote ∷ []) (parts_from z bytes)) closes) ∙ twice text (quote ∷ []) (parts_from Bare bytes))
    ∙ twice (quote ∷ []) (text ++ quote ∷ []) (parts_from Bare bytes)

pub piece_on : (piece : Piece) (bytes : List ℕ) → IsPiece piece → parts_from Bare (piece_text piece ++ bytes) ≡ with_bytes (piece_text piece) (parts_from Bare bytes)
piece_on (plain run) bytes h = plain_on run bytes h.1
piece_on (escaped b) bytes h = twice (92 ∷ []) (b ∷ []) (parts_from Bare bytes)
piece_on (single run) bytes h = quoted_on 39 run bytes Single refl refl refl refl (λ more. single_on run more h)
piece_on (double inner) bytes h = quoted_on 34 (flat_map inner_text inner) bytes Double refl refl refl refl (λ more. inners_on inner more h)

uncut_on : (front bytes : List ℕ) → IsUncut front → parts_from Bare (front ++ bytes) ≡ with_bytes front (parts_from Bare bytes)
uncut_on front bytes (in_word piece h e) =
    ap (λ (z : List ℕ). parts_from Bare (z ++ bytes)) e ∙ piece_on piece bytes h ∙ ap (λ (z : List ℕ). with_bytes z (parts_from Bare bytes)) (sym e)
uncut_on front bytes (between byte ends n e) =
    ap (λ (z : List ℕ). parts_from Bare (z ++ bytes)) e
    ∙ bare_on byte bytes (other_newline byte n) (ending_byte byte ends)
    ∙ ap (λ (z : List ℕ). with_bytes z (parts_from Bare bytes)) (sym e)

-- a piece that lacks its end does not cut
open_on : (open' : Open) → IsOpen open' → parts_from Bare (open_text open') ≡ open_text open' ∷ []
open_on (open_single run) h =
    ap (λ (z : List ℕ). with_bytes (39 ∷ []) (parts_from Single z)) (sym (append-nil run))
    ∙ ap (with_bytes (39 ∷ [])) (single_on run [] h)
    ∙ ap (λ (z : List ℕ). (39 ∷ z) ∷ []) (append-nil run)
open_on (open_double inner) h =
    ap (λ (z : List ℕ). with_bytes (34 ∷ []) (parts_from Double z)) (sym (append-nil (flat_map inner_text inner)))
    ∙ ap (with_bytes (34 ∷ [])) (inners_on inner [] h)
    ∙ ap (λ (z : List ℕ). (34 ∷ z) ∷ []) (append-nil (flat_map inner_text inner))
open_on (open_pair inner) h = ap (with_bytes (34 ∷ [])) (inners_on inner (92 ∷ []) h)
open_on last_backslash h = refl

-- the parts are those that the bytes tell
pub parts_are : (text : List ℕ) (all : List (List ℕ)) → AreParts text all → all ≡ parts text
parts_are text all (at_end _ _ e p) = p ∙ ap parts (sym e)
parts_are text all (at_newline _ rest _ more e h p) = p ∙ ap (λ (z : List (List ℕ)). [] ∷ z) (parts_are rest more h) ∙ ap parts (sym e)
parts_are text all (goes_on _ front rest part _ more e u h p) =
    p
    ∙ ap (with_bytes front) (parts_are rest (part ∷ more) h)
    ∙ sym (uncut_on front rest u)
    ∙ ap parts (sym e)
parts_are text all (unended _ _ open' e o p) = p ∙ ap (λ (z : List ℕ). z ∷ []) e ∙ sym (open_on open' o) ∙ ap parts (sym e)

pub one_cut : (text : List ℕ) (all others : List (List ℕ)) → AreParts text all → AreParts text others → all ≡ others
one_cut text all others a b = parts_are text all a ∙ sym (parts_are text others b)

-- what bytes behind an opening quote are cut into: up to the quote that ends, and on; or they all stay in the quote
data FromSingle (bytes : List ℕ) (all : List (List ℕ)) : Type 0 where
  single_ends : (run rest part : List ℕ) (more : List (List ℕ)) → bytes ≡ run ++ 39 ∷ rest → AllIn Quotable run → AreParts rest (part ∷ more) → all ≡ (run ++ 39 ∷ part) ∷ more → FromSingle bytes all
  single_stays : AllIn Quotable bytes → all ≡ bytes ∷ [] → FromSingle bytes all

data FromDouble (bytes : List ℕ) (all : List (List ℕ)) : Type 0 where
  double_ends : (inner : List Inner) (rest part : List ℕ) (more : List (List ℕ)) → bytes ≡ flat_map inner_text inner ++ 34 ∷ rest → AllByRecursion IsInner inner → AreParts rest (part ∷ more) → all ≡ (flat_map inner_text inner ++ 34 ∷ part)
      ∷ more → FromDouble bytes all
  double_stays : (inner : List Inner) → bytes ≡ flat_map inner_text inner → AllByRecursion IsInner inner → all ≡ bytes ∷ [] → FromDouble bytes all
  double_halves : (inner : List Inner) → bytes ≡ flat_map inner_text inner ++ 92 ∷ [] → AllByRecursion IsInner inner → all ≡ bytes ∷ [] → FromDouble bytes all

-- and behind a backslash
data FromPair (Next : List ℕ → List (List ℕ) → Type 0) (bytes : List ℕ) (all : List (List ℕ)) : Type 0 where
  pair_on : (byte : ℕ) (rest : List ℕ) (more : List (List ℕ)) → bytes ≡ byte ∷ rest → Next rest more → SomeParts more → all ≡ with_bytes (byte ∷ []) more → FromPair Next bytes all
  pair_lacks : bytes ≡ [] → all ≡ [] ∷ [] → FromPair Next bytes all

abbrev From : Quoting → List ℕ → List (List ℕ) → Type 0
From Bare bytes all = AreParts bytes all
From BarePair bytes all = FromPair AreParts bytes all
From Single bytes all = FromSingle bytes all
From Double bytes all = FromDouble bytes all
From DoublePair bytes all = FromPair FromDouble bytes all

-- a byte in front of bytes whose parts are told
led_by : (b n : ℕ) (bytes : List ℕ) (all : List (List ℕ)) → nat_eq b n ≡ true → (b ∷ bytes ≡ n ∷ bytes) × (with_bytes (b ∷ []) all ≡ with_bytes (n ∷ []) all)
led_by b n bytes all e = let s : b ≡ n = is_byte b n e in (ap (λ (z : ℕ). z ∷ bytes) s, ap (λ (z : ℕ). with_bytes (z ∷ []) all) s)

single_opens : (b : ℕ) (bytes : List ℕ) (all : List (List ℕ)) → nat_eq b 39 ≡ true → FromSingle bytes all → AreParts (b ∷ bytes) (with_bytes (b ∷ []) all)
single_opens b bytes all e (single_ends run rest part more w q h p) =
    let l = led_by b 39 bytes all e in
    goes_on (b ∷ bytes) (39 ∷ run ++ 39 ∷ []) rest part (with_bytes (b ∷ []) all) more
    (l.0 ∙ ap (λ (z : List ℕ). 39 ∷ z) (w ∙ sym (append_assoc run (39 ∷ []) rest)))
    (in_word (single run) q refl) h
    (l.1 ∙ ap (with_bytes (39 ∷ [])) p ∙ ap (λ (z : List ℕ). (39 ∷ z) ∷ more) (sym (append_assoc run (39 ∷ []) part)))
single_opens b bytes all e (single_stays q p) =
    let l = led_by b 39 bytes all e in
    unended (b ∷ bytes) (with_bytes (b ∷ []) all) (open_single bytes) l.0 q (l.1 ∙ ap (with_bytes (39 ∷ [])) p ∙ ap (λ (z : List ℕ). z ∷ []) (sym l.0))

double_opens : (b : ℕ) (bytes : List ℕ) (all : List (List ℕ)) → nat_eq b 34 ≡ true → FromDouble bytes all → AreParts (b ∷ bytes) (with_bytes (b ∷ []) all)
double_opens b bytes all e (double_ends inner rest part more w q h p) =
    let l = led_by b 34 bytes all e in
    goes_on (b ∷ bytes) (34 ∷ flat_map inner_text inner ++ 34 ∷ []) rest part (with_bytes (b ∷ []) all) more
    (l.0 ∙ ap (λ (z : List ℕ). 34 ∷ z) (w ∙ sym (append_assoc (flat_map inner_text inner) (34 ∷ []) rest)))
    (in_word (double inner) q refl) h
    (l.1 ∙ ap (with_bytes (34 ∷ [])) p ∙ ap (λ (z : List ℕ). (34 ∷ z) ∷ more) (sym (append_assoc (flat_map inner_text inner) (34 ∷ []) part)))
double_opens b bytes all e (double_stays inner w q p) =
    let l = led_by b 34 bytes all e in
    unended (b ∷ bytes) (with_bytes (b ∷ []) all) (open_double inner) (l.0 ∙ ap (λ (z : List ℕ). 34 ∷ z) w) q (l.1 ∙ ap (with_bytes (34 ∷ [])) p ∙ ap (λ (z : List ℕ). z ∷ []) (sym l.0))
double_opens b bytes all e (double_halves inner w q p) =
    let l = led_by b 34 bytes all e in
    unended (b ∷ bytes) (with_bytes (b ∷ []) all) (open_pair inner) (l.0 ∙ ap (λ (z : List ℕ). 34 ∷ z) w) q (l.1 ∙ ap (with_bytes (34 ∷ [])) p ∙ ap (λ (z : List ℕ). z ∷ []) (sym l.0))

pair_opens : (b : ℕ) (bytes : List ℕ) (all : List (List ℕ)) → nat_eq b 92 ≡ true → FromPair AreParts bytes all → AreParts (b ∷ bytes) (with_bytes (b ∷ []) all)
pair_opens b bytes all e (pair_on byte rest more w h s p) =
    let l = led_by b 92 bytes all e in
    goes_on (b ∷ bytes) (92 ∷ byte ∷ []) rest s.part (with_bytes (b ∷ []) all) s.more
    (l.0 ∙ ap (λ (z : List ℕ). 92 ∷ z) w)
    (in_word (escaped byte) tt refl) (subst (AreParts rest) s.are h)
    (l.1 ∙ ap (with_bytes (92 ∷ [])) (p ∙ ap (with_bytes (byte ∷ [])) s.are))
pair_opens b bytes all e (pair_lacks w p) =
    let l = led_by b 92 bytes all e in
    unended (b ∷ bytes) (with_bytes (b ∷ []) all) last_backslash (l.0 ∙ ap (λ (z : List ℕ). 92 ∷ z) w) tt (l.1 ∙ ap (with_bytes (92 ∷ [])) p ∙ ap (λ (z : List ℕ). (92 ∷ z) ∷ []) (sym w) ∙ ap (λ (z : List ℕ). z ∷ []) (sym l.0))

-- a byte outside quotes that is no quote
other_uncut : (t : Bool) (b : ℕ) → ends_word b ≡ t → nat_eq b 10 ≡ false → is_quoting b ≡ false → IsUncut (b ∷ [])
other_uncut true b e n q = between b e (λ s. let f : true ≡ false = ap (λ (z : ℕ). nat_eq z 10) (sym s) ∙ n in absurd cc) refl
other_uncut false b e n q =
    let p : is_in Plain b ≡ true = ap (λ (s : Bool). not (s || is_quoting b)) e ∙ ap not q in
    in_word (plain (b ∷ [])) (omega arith, (p, tt)) refl

bare_from : (n x y z : Bool) (b : ℕ) (bytes : List ℕ) → nat_eq b 10 ≡ n → nat_eq b 39 ≡ x → nat_eq b 34 ≡ y → nat_eq b 92 ≡ z → AreParts bytes (parts_from Bare bytes)
    → From (cond {A = Quoting} x Single (cond {A = Quoting} y Double (cond {A = Quoting} z BarePair Bare))) bytes (parts_from (cond {A = Quoting} x Single (cond {A = Quoting} y Double (cond {A = Quoting} z BarePair Bare))) bytes)
    → AreParts (b ∷ bytes) (cond {A = List (List ℕ)} n ([] ∷ parts_from Bare bytes) (with_bytes (b ∷ []) (parts_from (cond {A = Quoting} x Single (cond {A = Quoting} y Double (cond {A = Quoting} z BarePair Bare))) bytes)))
bare_from true x y z b bytes n e f g h r = at_newline (b ∷ bytes) bytes ([] ∷ parts_from Bare bytes) (parts_from Bare bytes) (ap (λ (z : ℕ). z ∷ bytes) (is_byte b 10 n)) h refl
bare_from false true y z b bytes n e f g h r = single_opens b bytes (parts_from Single bytes) e r
bare_from false false true z b bytes n e f g h r = double_opens b bytes (parts_from Double bytes) f r
bare_from false false false true b bytes n e f g h r = pair_opens b bytes (parts_from BarePair bytes) g r
bare_from false false false false b bytes n e f g h r =
    let q : is_quoting b ≡ false = ap (λ (s : Bool). s || nat_eq b 34 || nat_eq b 92) e ∙ ap (λ (s : Bool). s || nat_eq b 92) f ∙ g in
    let s : SomeParts (parts_from Bare bytes) = some_parts Bare bytes in
    goes_on (b ∷ bytes) (b ∷ []) bytes s.part (with_bytes (b ∷ []) (parts_from Bare bytes)) s.more refl (other_uncut (ends_word b) b refl n q) (subst (AreParts bytes) s.are h) (ap (with_bytes (b ∷ [])) s.are)

single_from : (x : Bool) (b : ℕ) (bytes : List ℕ) → nat_eq b 39 ≡ x → From (cond {A = Quoting} x Bare Single) bytes (parts_from (cond {A = Quoting} x Bare Single) bytes)
    → FromSingle (b ∷ bytes) (with_bytes (b ∷ []) (parts_from (cond {A = Quoting} x Bare Single) bytes))
single_from true b bytes e r =
    let s : SomeParts (parts_from Bare bytes) = some_parts Bare bytes in
    let l = led_by b 39 bytes (parts_from Bare bytes) e in
    single_ends [] bytes s.part s.more l.0 tt (subst (AreParts bytes) s.are r) (l.1 ∙ ap (with_bytes (39 ∷ [])) s.are)
single_from false b bytes e (single_ends run rest part more w q h p) = single_ends (b ∷ run) rest part more (ap (λ (z : List ℕ). b ∷ z) w) (ap not e, q) h (ap (with_bytes (b ∷ [])) p)
single_from false b bytes e (single_stays q p) = single_stays (ap not e, q) (ap (with_bytes (b ∷ [])) p)

-- a part of what stands between double quotes, in front
inner_led : (part : Inner) (front bytes : List ℕ) (all : List (List ℕ)) → front ≡ inner_text part → IsInner part → FromDouble bytes all → FromDouble (front ++ bytes) (with_bytes front all)
inner_led part front bytes all f i (double_ends inner rest last more w q h p) =
    let T : List ℕ = flat_map inner_text inner in
    double_ends (part ∷ inner) rest last more
    (ap (λ (z : List ℕ). z ++ bytes) f ∙ ap (λ (z : List ℕ). inner_text part ++ z) w ∙ sym (append_assoc (inner_text part) T (34 ∷ rest)))
    (i, q) h
    (ap (with_bytes front) p ∙ ap (λ (z : List ℕ). (z ++ (T ++ 34 ∷ last)) ∷ more) f ∙ ap (λ (z : List ℕ). z ∷ more) (sym (append_assoc (inner_text part) T (34 ∷ last))))
inner_led part front bytes all f i (double_stays inner w q p) =
    double_stays (part ∷ inner)
    (ap (λ (z : List ℕ). z ++ bytes) f ∙ ap (λ (z : List ℕ). inner_text part ++ z) w)
    (i, q) (ap (with_bytes front) p)
inner_led part front bytes all f i (double_halves inner w q p) =
    double_halves (part ∷ inner)
    (ap (λ (z : List ℕ). z ++ bytes) f ∙ ap (λ (z : List ℕ). inner_text part ++ z) w ∙ sym (append_assoc (inner_text part) (flat_map inner_text inner) (92 ∷ [])))
    (i, q) (ap (with_bytes front) p)

double_from : (x y : Bool) (b : ℕ) (bytes : List ℕ) → nat_eq b 34 ≡ x → nat_eq b 92 ≡ y
    → From (cond {A = Quoting} x Bare (cond {A = Quoting} y DoublePair Double)) bytes (parts_from (cond {A = Quoting} x Bare (cond {A = Quoting} y DoublePair Double)) bytes)
    → FromDouble (b ∷ bytes) (with_bytes (b ∷ []) (parts_from (cond {A = Quoting} x Bare (cond {A = Quoting} y DoublePair Double)) bytes))
double_from true y b bytes e f r =
    let s : SomeParts (parts_from Bare bytes) = some_parts Bare bytes in
    let l = led_by b 34 bytes (parts_from Bare bytes) e in
    double_ends [] bytes s.part s.more l.0 tt (subst (AreParts bytes) s.are r) (l.1 ∙ ap (with_bytes (34 ∷ [])) s.are)
double_from false true b bytes e f (pair_on byte rest more w h s p) =
    let l = led_by b 92 bytes (parts_from DoublePair bytes) f in
    let P : List ℕ → List (List ℕ) → Type 0 = FromDouble in
    let d : FromDouble (92 ∷ byte ∷ rest) (with_bytes (92 ∷ byte ∷ []) more) = inner_led (pair byte) (92 ∷ byte ∷ []) rest more refl tt h in
    let t : with_bytes (b ∷ []) (parts_from DoublePair bytes) ≡ with_bytes (92 ∷ byte ∷ []) more = l.1 ∙ ap (with_bytes (92 ∷ [])) p ∙ twice (92 ∷ []) (byte ∷ []) more in
    subst (λ (z : List (List ℕ)). FromDouble (b ∷ bytes) z) (sym t) (subst (λ (z : List ℕ). FromDouble z (with_bytes (92 ∷ byte ∷ []) more)) (sym (l.0 ∙ ap (λ (z : List ℕ). 92 ∷ z) w)) d)
double_from false true b bytes e f (pair_lacks w p) =
    let l = led_by b 92 bytes (parts_from DoublePair bytes) f in
    double_halves [] (l.0 ∙ ap (λ (z : List ℕ). 92 ∷ z) w) tt (ap (with_bytes (b ∷ [])) p ∙ ap (λ (z : List ℕ). (b ∷ z) ∷ []) (sym w))
double_from false false b bytes e f r = inner_led (kept_bytes (b ∷ [])) (b ∷ []) bytes (parts_from Double bytes) refl (ap not (ap (λ (s : Bool). s || nat_eq b 92) e ∙ f), tt) r

parts_tell : (quoting : Quoting) (bytes : List ℕ) → From quoting bytes (parts_from quoting bytes)
parts_tell Bare [] = at_end [] ([] ∷ []) refl refl
parts_tell BarePair [] = pair_lacks refl refl
parts_tell Single [] = single_stays tt refl
parts_tell Double [] = double_stays [] refl tt refl
parts_tell DoublePair [] = pair_lacks refl refl
parts_tell Bare (b ∷ bytes) = bare_from (nat_eq b 10) (nat_eq b 39) (nat_eq b 34) (nat_eq b 92) b bytes refl refl refl refl (parts_tell Bare bytes) (parts_tell (behind Bare b) bytes)
parts_tell BarePair (b ∷ bytes) = pair_on b bytes (parts_from Bare bytes) refl (parts_tell Bare bytes) (some_parts Bare bytes) refl
parts_tell Single (b ∷ bytes) = single_from (nat_eq b 39) b bytes refl (parts_tell (behind Single b) bytes)
parts_tell Double (b ∷ bytes) = double_from (nat_eq b 34) (nat_eq b 92) b bytes refl refl (parts_tell (behind Double b) bytes)
parts_tell DoublePair (b ∷ bytes) = pair_on b bytes (parts_from Double bytes) refl (parts_tell Double bytes) (some_parts Double bytes) refl

-- each text has its parts
pub has_parts : (text : List ℕ) → AreParts text (parts text)
has_parts text = parts_tell Bare text

-- what the loop that cuts has seen
pub part_begins : (text : List ℕ) → parts text ≡ with_bytes [] (parts text)
part_begins text = sym (none_in_front (parts text) (some_parts Bare text))

pub part_goes_on : (text front rest next : List ℕ) (quoting : Quoting) (byte : ℕ) → parts text ≡ with_bytes front (parts_from quoting rest) → rest ≡ byte ∷ next → is_cut quoting byte ≡ false → parts text
    ≡ with_bytes (front ++ byte ∷ []) (parts_from (behind quoting byte) next)
part_goes_on text front rest next quoting byte h r c =
    h
    ∙ ap (λ (z : List ℕ). with_bytes front (parts_from quoting z)) r
    ∙ ap (with_bytes front) (byte_on quoting byte next c)
    ∙ twice front (byte ∷ []) (parts_from (behind quoting byte) next)

pub part_is_last : (text front rest : List ℕ) (quoting : Quoting) → parts text ≡ with_bytes front (parts_from quoting rest) → rest ≡ [] → front ≡ text → AreParts text (text ∷ [])
part_is_last text front rest quoting h r f =
    subst (AreParts text) (h ∙ ap (λ (z : List ℕ). with_bytes front (parts_from quoting z)) r ∙ ap (λ (z : List ℕ). z ∷ []) (append-nil front ∙ f)) (has_parts text)

cut_byte : (quoting : Quoting) (byte : ℕ) → is_cut quoting byte ≡ true → byte ≡ 10
cut_byte Bare byte e = is_byte byte 10 e
cut_byte BarePair byte e = absurd (let f : false ≡ true = e in cc)
cut_byte Single byte e = absurd (let f : false ≡ true = e in cc)
cut_byte Double byte e = absurd (let f : false ≡ true = e in cc)
cut_byte DoublePair byte e = absurd (let f : false ≡ true = e in cc)

pub part_is_cut : (text front rest next : List ℕ) (quoting : Quoting) (byte : ℕ) → parts text ≡ with_bytes front (parts_from quoting rest) → rest ≡ byte ∷ next → is_cut quoting byte ≡ true → text ≡ front ++ rest → IsCut text front next
part_is_cut text front rest next quoting byte h r c w =
    let all : parts text ≡ front ∷ parts next =
    h
    ∙ ap (λ (z : List ℕ). with_bytes front (parts_from quoting z)) r
    ∙ ap (λ (t : Bool). with_bytes front (cond {A = List (List ℕ)} t ([] ∷ parts_from Bare next) (with_bytes (byte ∷ []) (parts_from (behind quoting byte) next)))) c
    ∙ ap (λ (z : List ℕ). z ∷ parts next) (append-nil front) in
    record {
      whole = w ∙ ap (λ (z : List ℕ). front ++ z) (r ∙ ap (λ (z : ℕ). z ∷ next) (cut_byte quoting byte c));
      parts = λ more m. subst (AreParts text) (all ∙ ap (λ (z : List (List ℕ)). front ∷ z) (sym (parts_are next more m))) (has_parts text);
    }

pub cut_here : (text : List ℕ) (at : ℕ) (quoting : Quoting) (test : Bool) → parts text ≡ with_bytes (take at text) (parts_from quoting (drop at text)) → at < length text → test ≡ is_cut quoting (get_or text at 0) → test ≡ true
    → IsCut text (take at text) (take (length text - (at + 1)) (drop (at + 1) text))
cut_here text at quoting test h inside t e =
    let n : at + 1 ≡ suc at = omega arith in
    let back : take (length text - (at + 1)) (drop (at + 1) text) ≡ drop (suc at) text = take_rest text (at + 1) ∙ ap (λ (z : ℕ). drop z text) n in
    subst (IsCut text (take at text)) (sym back) (part_is_cut text (take at text) (drop at text) (drop (suc at) text) quoting (get_or text at 0) h (drop-cons text at 0 inside) (sym t ∙ e) (sym (take-append-drop at text)))

pub no_cut_here : (text : List ℕ) (at : ℕ) (quoting : Quoting) → parts text ≡ with_bytes (take at text) (parts_from quoting (drop at text)) → length text ≤ at → AreParts text (text ∷ [])
no_cut_here text at quoting h outside = part_is_last text (take at text) (drop at text) quoting h (drop_all at text outside) (take_all at text outside)
