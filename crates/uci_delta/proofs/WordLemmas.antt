-- The value of a word, byte by byte.
use Rattle.std.proofs.Common.{ℕ, zero, suc, ◌≡◌, ◌<◌, ◌≤◌, Bool, true, false, not, cond, nat_eq, List, [], ◌∷◌, ◌++◌, length, length-append, get_or, drop, drop-cons, Option, Some, None, refl, sym, ap, subst, ◌∙◌, append_assoc, arith}
use Rattle.std.specs.Prelude.{◌||◌}
use Rattle.std.specs.Option.{option_map}
use Rattle.std.specs.List.{AllByRecursion, flat_map}
use Rattle.std.proofs.lemmas.Bool.Decides.{nat_tests}
use Rattle.std.proofs.lemmas.List.{append-nil}
use Rattle.uci_text.specs.declared.byte_class.ByteClass.TheVariants.{Plain, Quotable, DoubleQuotable}
use Rattle.uci_text.specs.ByteClass.{is_in, AllIn, ends_word, is_quoting}
use Rattle.uci_text.specs.Piece.{Inner, kept as kept_bytes, pair, inner_text, inner_value, IsInner, Piece, plain, escaped, single, double, piece_text, piece_value, IsPiece, escaped_value}
use Rattle.uci_text.specs.Word.{SpellsWord, word_text, word_value, IsWord}
use Rattle.uci_delta.specs.declared.quoting.Quoting.{Quoting}
use Rattle.uci_delta.specs.declared.quoting.Quoting.TheVariants.{Bare, BarePair, Single, Double, DoublePair}
use Rattle.uci_delta.specs.Quoting.{behind, ends, kept}

-- the value at the end of the bytes
abbrev pub ended : Quoting → Option (List ℕ)
ended Bare = Some []
ended BarePair = None
ended Single = None
ended Double = None
ended DoublePair = None

abbrev pub with_front : List ℕ → Option (List ℕ) → Option (List ℕ)
with_front front value = option_map (λ v. front ++ v) value

-- the value of the rest of a word, of which the first byte stands so
abbrev pub worded : Quoting → List ℕ → Option (List ℕ)
worded quoting [] = ended quoting
worded quoting (byte ∷ bytes) = cond {A = Option (List ℕ)} (ends quoting byte) None (with_front (kept quoting byte) (worded (behind quoting byte) bytes))

pub front_twice : (a b : List ℕ) (v : Option (List ℕ)) → with_front a (with_front b v) ≡ with_front (a ++ b) v
front_twice a b None = refl
front_twice a b (Some v) = ap Some (sym (append_assoc a b v))

pub no_front : (v : Option (List ℕ)) → with_front [] v ≡ v
no_front None = refl
no_front (Some v) = refl

-- bytes of each class
pub plain_byte : (b : ℕ) → is_in Plain b ≡ true → (ends_word b ≡ false) × (is_quoting b ≡ false)
plain_byte b h = go (ends_word b) (is_quoting b) h
  where
    go : (x y : Bool) → not (x || y) ≡ true → (x ≡ false) × (y ≡ false)
    go true y e = absurd (let f : false ≡ true = e in cc)
    go false true e = absurd (let f : false ≡ true = e in cc)
    go false false e = (refl, refl)

pub other_behind : (b : ℕ) → is_quoting b ≡ false → behind Bare b ≡ Bare
other_behind b h = go (nat_eq b 39) (nat_eq b 34) (nat_eq b 92) h
  where
    go : (x y z : Bool) → (x || y || z) ≡ false → cond {A = Quoting} x Single (cond {A = Quoting} y Double (cond {A = Quoting} z BarePair Bare)) ≡ Bare
    go true y z e = absurd (let f : true ≡ false = e in cc)
    go false true z e = absurd (let f : true ≡ false = e in cc)
    go false false true e = absurd (let f : true ≡ false = e in cc)
    go false false false e = refl

-- a plain byte in front
plain_step : (b : ℕ) (bytes : List ℕ) → is_in Plain b ≡ true → worded Bare (b ∷ bytes) ≡ with_front (b ∷ []) (worded Bare bytes)
plain_step b bytes h =
    let t = plain_byte b h in
    ap (λ (x : Bool). cond {A = Option (List ℕ)} x None (with_front (kept Bare b) (worded (behind Bare b) bytes))) t.0
    ∙ ap (λ (x : Bool). with_front (cond {A = List ℕ} x [] (b ∷ [])) (worded (behind Bare b) bytes)) t.1
    ∙ ap (λ (q : Quoting). with_front (b ∷ []) (worded q bytes)) (other_behind b t.1)

plain_runs : (run bytes : List ℕ) → AllIn Plain run → worded Bare (run ++ bytes) ≡ with_front run (worded Bare bytes)
plain_runs [] bytes h = sym (no_front (worded Bare bytes))
plain_runs (b ∷ run) bytes h = plain_step b (run ++ bytes) h.0 ∙ ap (with_front (b ∷ [])) (plain_runs run bytes h.1) ∙ front_twice (b ∷ []) run (worded Bare bytes)

single_step : (b : ℕ) (bytes : List ℕ) → is_in Quotable b ≡ true → worded Single (b ∷ bytes) ≡ with_front (b ∷ []) (worded Single bytes)
single_step b bytes h = go (nat_eq b 39) h
  where
    go : (x : Bool) → not x ≡ true → with_front (cond {A = List ℕ} x [] (b ∷ [])) (worded (cond {A = Quoting} x Bare Single) bytes) ≡ with_front (b ∷ []) (worded Single bytes)
    go true e = absurd (let f : false ≡ true = e in cc)
    go false e = refl

single_runs : (run bytes : List ℕ) → AllIn Quotable run → worded Single (run ++ 39 ∷ bytes) ≡ with_front run (worded Bare bytes)
single_runs [] bytes h = refl
single_runs (b ∷ run) bytes h = single_step b (run ++ 39 ∷ bytes) h.0 ∙ ap (with_front (b ∷ [])) (single_runs run bytes h.1) ∙ front_twice (b ∷ []) run (worded Bare bytes)

double_step : (b : ℕ) (bytes : List ℕ) → is_in DoubleQuotable b ≡ true → worded Double (b ∷ bytes) ≡ with_front (b ∷ []) (worded Double bytes)
double_step b bytes h = go (nat_eq b 34) (nat_eq b 92) h
  where
    go : (x y : Bool) → not (x || y) ≡ true → with_front (cond {A = List ℕ} (x || y) [] (b ∷ [])) (worded (cond {A = Quoting} x Bare (cond {A = Quoting} y DoublePair Double)) bytes) ≡ with_front (b ∷ []) (worded Double bytes)
    go true y e = absurd (let f : false ≡ true = e in cc)
    go false true e = absurd (let f : false ≡ true = e in cc)
    go false false e = refl

double_bytes : (run bytes : List ℕ) → AllIn DoubleQuotable run → worded Double (run ++ bytes) ≡ with_front run (worded Double bytes)
double_bytes [] bytes h = sym (no_front (worded Double bytes))
double_bytes (b ∷ run) bytes h = double_step b (run ++ bytes) h.0 ∙ ap (with_front (b ∷ [])) (double_bytes run bytes h.1) ∙ front_twice (b ∷ []) run (worded Double bytes)

inner_runs : (inner : Inner) (bytes : List ℕ) → IsInner inner → worded Double (inner_text inner ++ bytes) ≡ with_front (inner_value inner) (worded Double bytes)
inner_runs (kept_bytes run) bytes h = double_bytes run bytes h
inner_runs (pair b) bytes h = no_front (worded DoublePair (b ∷ bytes))

double_runs : (inner : List Inner) (bytes : List ℕ) → AllByRecursion IsInner inner → worded Double (flat_map inner_text inner ++ 34 ∷ bytes) ≡ with_front (flat_map inner_value inner) (worded Bare bytes)
double_runs [] bytes h = refl
double_runs (part ∷ inner) bytes h =
    ap (worded Double) (append_assoc (inner_text part) (flat_map inner_text inner) (34 ∷ bytes))
    ∙ inner_runs part (flat_map inner_text inner ++ 34 ∷ bytes) h.0
    ∙ ap (with_front (inner_value part)) (double_runs inner bytes h.1)
    ∙ front_twice (inner_value part) (flat_map inner_value inner) (worded Bare bytes)

piece_runs : (piece : Piece) (bytes : List ℕ) → IsPiece piece → worded Bare (piece_text piece ++ bytes) ≡ with_front (piece_value piece) (worded Bare bytes)
piece_runs (plain run) bytes h = plain_runs run bytes h.1
piece_runs (escaped b) bytes h = no_front (worded BarePair (b ∷ bytes))
piece_runs (single run) bytes h =
    ap (λ (z : List ℕ). worded Bare (39 ∷ z)) (append_assoc run (39 ∷ []) bytes)
    ∙ no_front (worded Single (run ++ 39 ∷ bytes))
    ∙ single_runs run bytes h
piece_runs (double inner) bytes h =
    ap (λ (z : List ℕ). worded Bare (34 ∷ z)) (append_assoc (flat_map inner_text inner) (34 ∷ []) bytes)
    ∙ no_front (worded Double (flat_map inner_text inner ++ 34 ∷ bytes))
    ∙ double_runs inner bytes h

pieces_run : (pieces : List Piece) → AllByRecursion IsPiece pieces → worded Bare (word_text pieces) ≡ Some (word_value pieces)
pieces_run [] h = refl
pieces_run (piece ∷ pieces) h = piece_runs piece (word_text pieces) h.0 ∙ ap (with_front (piece_value piece)) (pieces_run pieces h.1)

-- a word has its value
pub word_worded : (text value : List ℕ) → SpellsWord text value → worded Bare text ≡ Some value
word_worded text value w = ap (worded Bare) w.whole ∙ pieces_run w.pieces w.is.each ∙ ap Some (sym w.value_is)

-- what bytes are that have a value
pub record Loose (bytes value : List ℕ) : Type 0 where
  pub pieces : List Piece
  pub whole : bytes ≡ word_text pieces
  pub each : AllByRecursion IsPiece pieces
  pub is : value ≡ word_value pieces

pub record InSingle (bytes value : List ℕ) : Type 0 where
  pub run : List ℕ
  pub rest : List ℕ
  pub last : List ℕ
  pub whole : bytes ≡ run ++ 39 ∷ rest
  pub within : AllIn Quotable run
  pub is : value ≡ run ++ last
  pub loose : Loose rest last

pub record InDouble (bytes value : List ℕ) : Type 0 where
  pub inner : List Inner
  pub rest : List ℕ
  pub last : List ℕ
  pub whole : bytes ≡ flat_map inner_text inner ++ 34 ∷ rest
  pub each : AllByRecursion IsInner inner
  pub is : value ≡ flat_map inner_value inner ++ last
  pub loose : Loose rest last

pub record InPair (Next : List ℕ → List ℕ → Type 0) (bytes value : List ℕ) : Type 0 where
  pub byte : ℕ
  pub rest : List ℕ
  pub last : List ℕ
  pub whole : bytes ≡ byte ∷ rest
  pub is : value ≡ escaped_value byte ++ last
  pub next : Next rest last

abbrev pub Means : Quoting → List ℕ → List ℕ → Type 0
Means Bare bytes value = Loose bytes value
Means BarePair bytes value = InPair Loose bytes value
Means Single bytes value = InSingle bytes value
Means Double bytes value = InDouble bytes value
Means DoublePair bytes value = InPair InDouble bytes value

-- the value behind a front
pub record Behind (front : List ℕ) (rest : Option (List ℕ)) (value : List ℕ) : Type 0 where
  pub last : List ℕ
  pub found : rest ≡ Some last
  pub is : value ≡ front ++ last

behind_front : (front : List ℕ) (rest : Option (List ℕ)) (value : List ℕ) → with_front front rest ≡ Some value → Behind front rest value
behind_front front None value e = absurd (let f : ◌≡◌ {A = Option (List ℕ)} None (Some value) = e in cc)
behind_front front (Some last) value e = record { last = last; found = refl; is = let f : Some (front ++ last) ≡ Some value = e in cc }

not_ended : (t : Bool) (front : List ℕ) (rest : Option (List ℕ)) (value : List ℕ) → cond {A = Option (List ℕ)} t None (with_front front rest) ≡ Some value → (t ≡ false) × Behind front rest value
not_ended true front rest value e = absurd (let f : ◌≡◌ {A = Option (List ℕ)} None (Some value) = e in cc)
not_ended false front rest value e = (refl, behind_front front rest value e)

pub is_byte : (b n : ℕ) → nat_eq b n ≡ true → b ≡ n
is_byte b n e = grind (arith, nat_tests)

bare_means : (x y z w : Bool) (b : ℕ) (bytes value last : List ℕ) → nat_eq b 39 ≡ x → nat_eq b 34 ≡ y → nat_eq b 92 ≡ z → ends_word b ≡ false → value ≡ cond {A = List ℕ} (x || y || z) [] (b ∷ []) ++ last
    → Means (cond {A = Quoting} x Single (cond {A = Quoting} y Double (cond {A = Quoting} z BarePair Bare))) bytes last → Loose (b ∷ bytes) value
bare_means true y z w b bytes value last e f g h v m = record {
  pieces = single m.run ∷ m.loose.pieces;
  whole =
      ap (λ (n : ℕ). n ∷ bytes) (is_byte b 39 e)
      ∙ ap (λ (s : List ℕ). 39 ∷ s) (m.whole ∙ ap (λ (s : List ℕ). m.run ++ 39 ∷ s) m.loose.whole ∙ sym (append_assoc m.run (39 ∷ []) (word_text m.loose.pieces)));
  each = (m.within, m.loose.each);
  is = v ∙ m.is ∙ ap (λ (s : List ℕ). m.run ++ s) m.loose.is;
}
bare_means false true z w b bytes value last e f g h v m = record {
  pieces = double m.inner ∷ m.loose.pieces;
  whole =
      ap (λ (n : ℕ). n ∷ bytes) (is_byte b 34 f)
      ∙ ap (λ (s : List ℕ). 34 ∷ s) (m.whole ∙ ap (λ (s : List ℕ). flat_map inner_text m.inner ++ 34 ∷ s) m.loose.whole ∙ sym (append_assoc (flat_map inner_text m.inner) (34 ∷ []) (word_text m.loose.pieces)));
  each = (m.each, m.loose.each);
  is = v ∙ m.is ∙ ap (λ (s : List ℕ). flat_map inner_value m.inner ++ s) m.loose.is;
}
bare_means false false true w b bytes value last e f g h v m = record {
  pieces = escaped m.byte ∷ m.next.pieces;
  whole =
      ap (λ (n : ℕ). n ∷ bytes) (is_byte b 92 g)
      ∙ ap (λ (s : List ℕ). 92 ∷ s) (m.whole ∙ ap (λ (s : List ℕ). m.byte ∷ s) m.next.whole);
  each = (tt, m.next.each);
  is = v ∙ m.is ∙ ap (λ (s : List ℕ). escaped_value m.byte ++ s) m.next.is;
}
bare_means false false false w b bytes value last e f g h v m =
    let q : is_quoting b ≡ false = ap (λ (s : Bool). s || nat_eq b 34 || nat_eq b 92) e ∙ ap (λ (s : Bool). s || nat_eq b 92) f ∙ g in
    let p : is_in Plain b ≡ true = ap (λ (s : Bool). not (s || is_quoting b)) h ∙ ap not q in
    record {
      pieces = plain (b ∷ []) ∷ m.pieces;
      whole = ap (λ (s : List ℕ). b ∷ s) m.whole;
      each = ((omega arith, (p, tt)), m.each);
      is = v ∙ ap (λ (s : List ℕ). b ∷ s) m.is;
    }

single_means : (x : Bool) (b : ℕ) (bytes value last : List ℕ) → nat_eq b 39 ≡ x → value ≡ cond {A = List ℕ} x [] (b ∷ []) ++ last → Means (cond {A = Quoting} x Bare Single) bytes last → InSingle (b ∷ bytes) value
single_means true b bytes value last e v m = record { run = []; rest = bytes; last = last; whole = ap (λ (n : ℕ). n ∷ bytes) (is_byte b 39 e); within = tt; is = v; loose = m }
single_means false b bytes value last e v m = record { run = b ∷ m.run; rest = m.rest; last = m.last; whole = ap (λ (s : List ℕ). b ∷ s) m.whole; within = (ap not e, m.within); is = v ∙ ap (λ (s : List ℕ). b ∷ s) m.is; loose = m.loose }

double_means : (x y : Bool) (b : ℕ) (bytes value last : List ℕ) → nat_eq b 34 ≡ x → nat_eq b 92 ≡ y → value ≡ cond {A = List ℕ} (x || y) [] (b ∷ []) ++ last
    → Means (cond {A = Quoting} x Bare (cond {A = Quoting} y DoublePair Double)) bytes last → InDouble (b ∷ bytes) value
double_means true y b bytes value last e f v m = record { inner = []; rest = bytes; last = last; whole = ap (λ (n : ℕ). n ∷ bytes) (is_byte b 34 e); each = tt; is = v; loose = m }
double_means false true b bytes value last e f v m = record {
  inner = pair m.byte ∷ m.next.inner;
  rest = m.next.rest;
  last = m.next.last;
  whole =
      ap (λ (n : ℕ). n ∷ bytes) (is_byte b 92 f)
      ∙ ap (λ (s : List ℕ). 92 ∷ s) (m.whole ∙ ap (λ (s : List ℕ). m.byte ∷ s) m.next.whole);
  each = (tt, m.next.each);
  is = v ∙ m.is ∙ ap (λ (s : List ℕ). escaped_value m.byte ++ s) m.next.is ∙ sym (append_assoc (escaped_value m.byte) (flat_map inner_value m.next.inner) m.next.last);
  loose = m.next.loose;
}
double_means false false b bytes value last e f v m = record {
  inner = kept_bytes (b ∷ []) ∷ m.inner;
  rest = m.rest;
  last = m.last;
  whole = ap (λ (s : List ℕ). b ∷ s) m.whole;
  each = ((ap not (ap (λ (s : Bool). s || nat_eq b 92) e ∙ f), tt), m.each);
  is = v ∙ ap (λ (s : List ℕ). b ∷ s) m.is;
  loose = m.loose;
}

worded_means : (quoting : Quoting) (bytes value : List ℕ) → worded quoting bytes ≡ Some value → Means quoting bytes value
worded_means Bare [] value e = record { pieces = []; whole = refl; each = tt; is = let f : Some [] ≡ Some value = e in cc }
worded_means BarePair [] value e = absurd (let f : ◌≡◌ {A = Option (List ℕ)} None (Some value) = e in cc)
worded_means Single [] value e = absurd (let f : ◌≡◌ {A = Option (List ℕ)} None (Some value) = e in cc)
worded_means Double [] value e = absurd (let f : ◌≡◌ {A = Option (List ℕ)} None (Some value) = e in cc)
worded_means DoublePair [] value e = absurd (let f : ◌≡◌ {A = Option (List ℕ)} None (Some value) = e in cc)
worded_means Bare (b ∷ bytes) value e =
    let n = not_ended (ends_word b) (kept Bare b) (worded (behind Bare b) bytes) value e in
    bare_means (nat_eq b 39) (nat_eq b 34) (nat_eq b 92) true b bytes value n.1.last refl refl refl n.0 n.1.is (worded_means (behind Bare b) bytes n.1.last n.1.found)
worded_means BarePair (b ∷ bytes) value e =
    let n = behind_front (escaped_value b) (worded Bare bytes) value e in
    record { byte = b; rest = bytes; last = n.last; whole = refl; is = n.is; next = worded_means Bare bytes n.last n.found }
worded_means Single (b ∷ bytes) value e =
    let n = behind_front (kept Single b) (worded (behind Single b) bytes) value e in
    single_means (nat_eq b 39) b bytes value n.last refl n.is (worded_means (behind Single b) bytes n.last n.found)
worded_means Double (b ∷ bytes) value e =
    let n = behind_front (kept Double b) (worded (behind Double b) bytes) value e in
    double_means (nat_eq b 34) (nat_eq b 92) b bytes value n.last refl refl n.is (worded_means (behind Double b) bytes n.last n.found)
worded_means DoublePair (b ∷ bytes) value e =
    let n = behind_front (escaped_value b) (worded Double bytes) value e in
    record { byte = b; rest = bytes; last = n.last; whole = refl; is = n.is; next = worded_means Double bytes n.last n.found }

some_pieces : (pieces : List Piece) → 0 < length (word_text pieces) → 0 < length pieces
some_pieces [] h = h
some_pieces (piece ∷ pieces) h = omega arith

-- bytes that have a value are a word
pub worded_word : (text value : List ℕ) → 0 < length text → worded Bare text ≡ Some value → SpellsWord text value
worded_word text value h e =
    let m : Loose text value = worded_means Bare text value e in
    let P : List ℕ → Type 0 = λ z. 0 < length z in
    record { pieces = m.pieces; whole = m.whole; is = record { some = some_pieces m.pieces (subst P m.whole h); each = m.each }; value_is = m.is }

-- a word has one value
pub one_value : (text value other : List ℕ) → SpellsWord text value → SpellsWord text other → other ≡ value
one_value text value other w v = let s : Some other ≡ Some value = sym (word_worded text other v) ∙ word_worded text value w in cc

-- the bytes behind a place
none_behind : (i : ℕ) (bytes : List ℕ) → length bytes ≤ i → drop i bytes ≡ []
none_behind zero [] h = refl
none_behind (suc i) [] h = refl
none_behind zero (b ∷ bytes) h = absurd (omega (arith, h))
none_behind (suc i) (b ∷ bytes) h = none_behind i bytes (omega (arith, h))

-- a byte that ends a word stands in none
pub word_stops : (bytes value : List ℕ) (quoting : Quoting) (i : ℕ) (test : Bool) → with_front value (worded quoting (drop i bytes)) ≡ worded Bare bytes → i < length bytes → test ≡ ends quoting (get_or bytes i 0) → test ≡ true
    → (other : List ℕ) → SpellsWord bytes other → ⊥
word_stops bytes value quoting i test h inside t e other w =
    let stopped : worded quoting (drop i bytes) ≡ None =
    ap (worded quoting) (drop-cons bytes i 0 inside)
    ∙ ap (λ (x : Bool). cond {A = Option (List ℕ)} x None (with_front (kept quoting (get_or bytes i 0)) (worded (behind quoting (get_or bytes i 0)) (drop (suc i) bytes)))) (sym t ∙ e) in
    let f : ◌≡◌ {A = Option (List ℕ)} None (Some other) = sym (ap (with_front value) stopped) ∙ h ∙ word_worded bytes other w in
    absurd cc

not_ended_yet : (quoting : Quoting) → (quoting ≡ Bare → ⊥) → ended quoting ≡ None
not_ended_yet Bare n = absurd (n refl)
not_ended_yet BarePair n = refl
not_ended_yet Single n = refl
not_ended_yet Double n = refl
not_ended_yet DoublePair n = refl

-- a quote or a backslash that does not end
pub word_open : (bytes value : List ℕ) (quoting : Quoting) (i : ℕ) → with_front value (worded quoting (drop i bytes)) ≡ worded Bare bytes → length bytes ≤ i → (quoting ≡ Bare → ⊥) → (other : List ℕ) → SpellsWord bytes other → ⊥
word_open bytes value quoting i h outside n other w =
    let stopped : worded quoting (drop i bytes) ≡ None = ap (worded quoting) (none_behind i bytes outside) ∙ not_ended_yet quoting n in
    let f : ◌≡◌ {A = Option (List ℕ)} None (Some other) = sym (ap (with_front value) stopped) ∙ h ∙ word_worded bytes other w in
    absurd cc

piece_some : (piece : Piece) → IsPiece piece → 0 < length (piece_text piece)
piece_some (plain run) h = h.0
piece_some (escaped b) h = omega arith
piece_some (single run) h = omega arith
piece_some (double inner) h = omega arith

pieces_some : (pieces : List Piece) → IsWord pieces → 0 < length (word_text pieces)
pieces_some [] h = absurd (omega (arith, h.some))
pieces_some (piece ∷ pieces) h = let s = piece_some piece h.each.0 in let l = length-append (piece_text piece) (word_text pieces) in omega (arith, s, l)

pub no_empty_word : (bytes : List ℕ) (test : Bool) → test ≡ nat_eq (length bytes) 0 → test ≡ true → (other : List ℕ) → SpellsWord bytes other → ⊥
no_empty_word bytes test t e other w =
    let P : List ℕ → Type 0 = λ z. 0 < length z in
    let s : 0 < length bytes = subst P (sym w.whole) (pieces_some w.pieces w.is) in
    let z : nat_eq (length bytes) 0 ≡ true = sym t ∙ e in
    absurd (grind (arith, nat_tests, s, z))

-- the value at the end of the bytes
pub word_found : (bytes value result : List ℕ) (quoting : Quoting) (i : ℕ) (test : Bool) → with_front value (worded quoting (drop i bytes)) ≡ worded Bare bytes → length bytes ≤ i → quoting ≡ Bare → test ≡ nat_eq (length bytes) 0 → test
    ≡ false → result ≡ value → SpellsWord bytes result
word_found bytes value result quoting i test h outside b t e r =
    let z : nat_eq (length bytes) 0 ≡ false = sym t ∙ e in
    let s : 0 < length bytes = grind (arith, nat_tests, z) in
    let ends_here : with_front value (worded quoting (drop i bytes)) ≡ Some value =
    ap (λ (q : Quoting). with_front value (worded q (drop i bytes))) b
    ∙ ap (λ (z : List ℕ). with_front value (worded Bare z)) (none_behind i bytes outside)
    ∙ ap Some (append-nil value) in
    subst (SpellsWord bytes) (sym r) (worded_word bytes value s (sym h ∙ ends_here))
