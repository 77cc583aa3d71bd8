-- Which frames fit, as a test.
use Rattle.std.proofs.Common.{ℕ, zero, suc, ℤ, pos, negsuc, ◌≡◌, ◌<◌, Bool, true, false, List, [], ◌∷◌, length, Option, Some, None, arith, refl, sym, ap, subst, ◌∙◌, FitsSigned}
use Rattle.std.proofs.lemmas.Bool.{ltb-true, leb-true, lt-ltb, le-leb}
use Rattle.std.specs.Prelude.{◌&&◌, is_none, position}
use Rattle.std.specs.Int.{w8, w16, w32, w64}
use Rattle.std.specs.List.{list_all}
use Rattle.lanes_scan.specs.ByteTest.{is_nul}
use Rattle.blob_codec.specs.declared.blob.TheConstants.{MOST_LEVELS}
use Rattle.blob_codec.specs.declared.blob.Blob.{Blob}
use Rattle.blob_codec.specs.declared.blob.Blob.TheOpen.{Blob-F}
use Rattle.blob_codec.specs.declared.blob.Blob.TheViews.{out-Blob, roll-Blob, out-roll-Blob, roll-out-Blob}
use Rattle.blob_codec.specs.declared.blob.Blob.TheVariants.{Unspec, Array, Table, Str, I64, I32, I16, I8, rolls-Unspec, rolls-Array, rolls-Table, rolls-Str, rolls-I64, rolls-I32, rolls-I16, rolls-I8}
use Rattle.blob_codec.specs.declared.blob.Attr.{Attr}
use Rattle.blob_codec.specs.Limits.{Fits, FitsBlob, FitsValue, IsPlain, IsSized, Holds, HasNoNul, none, attribute, plain, nested, nothing, string, int64, int32, int16, int8, array, table}
use Rattle.blob_codec.specs.Writing.{FitDeeper}
use Rattle.ubus_frames.specs.declared.frame.Frame.{Frame}
use Rattle.ubus_frames.specs.Written.{FitsFrame, PartsFit, IfThere}
use Rattle.ubus_send.specs.Fits.{is_plain_text, is_sized, has_bits, layer_fits, attr_fits, deeper_fit, attrs_fit, if_there, parts_fit, fits}

both : (a b : Bool) → (a && b) ≡ true → (a ≡ true) × (b ≡ true)
both true b h = (refl, h)
both false b h = absurd (let n : false ≡ true = h in cc)

join : (a b : Bool) → a ≡ true → b ≡ true → (a && b) ≡ true
join a b h k = ap (λ x. x && b) h ∙ k

none_of : (o : Option ℕ) → is_none o ≡ true → o ≡ None
none_of None h = refl
none_of (Some n) h = absurd (let e : false ≡ true = h in cc)

text_to : (text : List ℕ) → is_plain_text text ≡ true → HasNoNul text
text_to text h = none_of (position is_nul text) h

text_back : (text : List ℕ) → HasNoNul text → is_plain_text text ≡ true
text_back text h = ap is_none h

signed64_to : (z : ℤ) → has_bits 63 z ≡ true → FitsSigned w64 z
signed64_to (pos n) e = record { sfits = ltb-true _ _ e }
signed64_to (negsuc n) e = record { sfits = ltb-true _ _ e }

signed64_back : (z : ℤ) → FitsSigned w64 z → has_bits 63 z ≡ true
signed64_back (pos n) h = lt-ltb _ _ h.sfits
signed64_back (negsuc n) h = lt-ltb _ _ h.sfits

signed32_to : (z : ℤ) → has_bits 31 z ≡ true → FitsSigned w32 z
signed32_to (pos n) e = record { sfits = ltb-true _ _ e }
signed32_to (negsuc n) e = record { sfits = ltb-true _ _ e }

signed32_back : (z : ℤ) → FitsSigned w32 z → has_bits 31 z ≡ true
signed32_back (pos n) h = lt-ltb _ _ h.sfits
signed32_back (negsuc n) h = lt-ltb _ _ h.sfits

signed16_to : (z : ℤ) → has_bits 15 z ≡ true → FitsSigned w16 z
signed16_to (pos n) e = record { sfits = ltb-true _ _ e }
signed16_to (negsuc n) e = record { sfits = ltb-true _ _ e }

signed16_back : (z : ℤ) → FitsSigned w16 z → has_bits 15 z ≡ true
signed16_back (pos n) h = lt-ltb _ _ h.sfits
signed16_back (negsuc n) h = lt-ltb _ _ h.sfits

signed8_to : (z : ℤ) → has_bits 7 z ≡ true → FitsSigned w8 z
signed8_to (pos n) e = record { sfits = ltb-true _ _ e }
signed8_to (negsuc n) e = record { sfits = ltb-true _ _ e }

signed8_back : (z : ℤ) → FitsSigned w8 z → has_bits 7 z ≡ true
signed8_back (pos n) h = lt-ltb _ _ h.sfits
signed8_back (negsuc n) h = lt-ltb _ _ h.sfits

sized_to : (attr : Attr) → is_sized attr ≡ true → IsSized attr
sized_to attr h =
    let a = both _ _ h in
    let b = both _ _ a.1 in
    record { name_plain = text_to attr.name a.0; name_length = ltb-true _ _ b.0; size = ltb-true _ _ b.1 }

sized_back : (attr : Attr) → IsSized attr → is_sized attr ≡ true
sized_back attr s = join _ _ (text_back attr.name s.name_plain) (join _ _ (lt-ltb _ _ s.name_length) (lt-ltb _ _ s.size))

-- a value is what its layer says
value_is : (v : Blob) (l : Blob-F Blob Attr) (w : Blob) → out-Blob v ≡ l → roll-Blob l ≡ w → v ≡ w
value_is v l w e r = sym (roll-out-Blob v) ∙ (ap roll-Blob e ∙ r)

layer_to : (levels : ℕ) (deeper : List Attr → Bool) → ((attrs : List Attr) → deeper attrs ≡ true → FitDeeper levels attrs)
    → (v : Blob) (l : Blob-F Blob Attr) → out-Blob v ≡ l → layer_fits deeper l ≡ true → FitsValue levels v
layer_to levels deeper inner v Blob-F.Unspec e h = plain levels v (nothing (value_is v _ Unspec e rolls-Unspec))
layer_to levels deeper inner v (Blob-F.Array attrs) e h =
    let d = inner attrs h in nested levels d.fewer attrs v d.level (array (value_is v _ (Array attrs) e (rolls-Array attrs))) d.fit
layer_to levels deeper inner v (Blob-F.Table attrs) e h =
    let d = inner attrs h in nested levels d.fewer attrs v d.level (table (value_is v _ (Table attrs) e (rolls-Table attrs))) d.fit
layer_to levels deeper inner v (Blob-F.Str text) e h = plain levels v (string text (value_is v _ (Str text) e (rolls-Str text)) (text_to text h))
layer_to levels deeper inner v (Blob-F.I64 n) e h = plain levels v (int64 n (value_is v _ (I64 n) e (rolls-I64 n)) (signed64_to n h))
layer_to levels deeper inner v (Blob-F.I32 n) e h = plain levels v (int32 n (value_is v _ (I32 n) e (rolls-I32 n)) (signed32_to n h))
layer_to levels deeper inner v (Blob-F.I16 n) e h = plain levels v (int16 n (value_is v _ (I16 n) e (rolls-I16 n)) (signed16_to n h))
layer_to levels deeper inner v (Blob-F.I8 n) e h = plain levels v (int8 n (value_is v _ (I8 n) e (rolls-I8 n)) (signed8_to n h))

-- the layer of a value
layer_is : (deeper : List Attr → Bool) (v w : Blob) (l : Blob-F Blob Attr) → v ≡ w → roll-Blob l ≡ w → layer_fits deeper (out-Blob v) ≡ layer_fits deeper l
layer_is deeper v w l e r = ap (λ x. layer_fits deeper (out-Blob x)) (e ∙ sym r) ∙ ap (layer_fits deeper) (out-roll-Blob l)

plain_back : (deeper : List Attr → Bool) (v : Blob) → IsPlain v → layer_fits deeper (out-Blob v) ≡ true
plain_back deeper v (nothing q) = layer_is deeper v Unspec Blob-F.Unspec q rolls-Unspec
plain_back deeper v (string text q h) = layer_is deeper v (Str text) (Blob-F.Str text) q (rolls-Str text) ∙ text_back text h
plain_back deeper v (int64 n q f) = layer_is deeper v (I64 n) (Blob-F.I64 n) q (rolls-I64 n) ∙ signed64_back n f
plain_back deeper v (int32 n q f) = layer_is deeper v (I32 n) (Blob-F.I32 n) q (rolls-I32 n) ∙ signed32_back n f
plain_back deeper v (int16 n q f) = layer_is deeper v (I16 n) (Blob-F.I16 n) q (rolls-I16 n) ∙ signed16_back n f
plain_back deeper v (int8 n q f) = layer_is deeper v (I8 n) (Blob-F.I8 n) q (rolls-I8 n) ∙ signed8_back n f

layer_back : (levels : ℕ) (deeper : List Attr → Bool) → ((attrs : List Attr) → FitDeeper levels attrs → deeper attrs ≡ true)
    → (v : Blob) → FitsValue levels v → layer_fits deeper (out-Blob v) ≡ true
layer_back levels deeper inner v (plain _ _ p) = plain_back deeper v p
layer_back levels deeper inner v (nested _ fewer attrs _ e (array q) f) =
    layer_is deeper v (Array attrs) (Blob-F.Array attrs) q (rolls-Array attrs) ∙ inner attrs (record { fewer = fewer; level = e; fit = f })
layer_back levels deeper inner v (nested _ fewer attrs _ e (table q) f) =
    layer_is deeper v (Table attrs) (Blob-F.Table attrs) q (rolls-Table attrs) ∙ inner attrs (record { fewer = fewer; level = e; fit = f })

all_to : (levels : ℕ) (deeper : List Attr → Bool) → ((attrs : List Attr) → deeper attrs ≡ true → FitDeeper levels attrs)
    → (attrs : List Attr) → list_all (attr_fits deeper) attrs ≡ true → Fits levels attrs
all_to levels deeper inner [] h = none levels [] refl
all_to levels deeper inner (attr ∷ attrs) h =
    let a = both (attr_fits deeper attr) (list_all (attr_fits deeper) attrs) h in
    let b = both (is_sized attr) (layer_fits deeper (out-Blob attr.value)) a.0 in
    attribute levels attr attrs (attr ∷ attrs) refl (sized_to attr b.0) (layer_to levels deeper inner attr.value (out-Blob attr.value) refl b.1) (all_to levels deeper inner attrs a.1)

all_back : (levels : ℕ) (deeper : List Attr → Bool) → ((attrs : List Attr) → FitDeeper levels attrs → deeper attrs ≡ true)
    → (attrs : List Attr) → Fits levels attrs → list_all (attr_fits deeper) attrs ≡ true
all_back levels deeper inner attrs (none _ _ e) = ap (list_all (attr_fits deeper)) e
all_back levels deeper inner attrs (attribute _ attr others _ e s v r) =
    ap (list_all (attr_fits deeper)) e
    ∙ join (attr_fits deeper attr) (list_all (attr_fits deeper) others) (join _ _ (sized_back attr s) (layer_back levels deeper inner attr.value v)) (all_back levels deeper inner others r)

deeper_to : (levels : ℕ) (attrs : List Attr) → deeper_fit levels attrs ≡ true → FitDeeper levels attrs
deeper_to zero attrs h = absurd (let n : false ≡ true = h in cc)
deeper_to (suc fewer) attrs h = record { fewer = fewer; level = refl; fit = all_to fewer (deeper_fit fewer) (λ inner g. deeper_to fewer inner g) attrs h }

deeper_back : (levels : ℕ) (attrs : List Attr) → FitDeeper levels attrs → deeper_fit levels attrs ≡ true
deeper_back zero attrs d = absurd (let n = d.level in omega arith)
deeper_back (suc fewer) attrs d =
    let e : d.fewer ≡ fewer = (let n = d.level in omega arith) in
    all_back fewer (deeper_fit fewer) (λ inner g. deeper_back fewer inner g) attrs (subst (λ k. Fits k attrs) e d.fit)

blob_to : (attrs : List Attr) → attrs_fit attrs ≡ true → FitsBlob attrs
unfolding attrs_fit
blob_to attrs h = all_to MOST_LEVELS (deeper_fit MOST_LEVELS) (deeper_to MOST_LEVELS) attrs h

blob_back : (attrs : List Attr) → FitsBlob attrs → attrs_fit attrs ≡ true
unfolding attrs_fit
blob_back attrs f = all_back MOST_LEVELS (deeper_fit MOST_LEVELS) (deeper_back MOST_LEVELS) attrs f

there_to : {T : Type 0} (p : T → Bool) (P : T → Type 0) → ((x : T) → p x ≡ true → P x) → (o : Option T) → if_there p o ≡ true → IfThere P o
there_to p P to None h = tt
there_to p P to (Some x) h = to x h

there_back : {T : Type 0} (p : T → Bool) (P : T → Type 0) → ((x : T) → P x → p x ≡ true) → (o : Option T) → IfThere P o → if_there p o ≡ true
there_back p P back None h = refl
there_back p P back (Some x) h = back x h

parts_to : (frame : Frame) → parts_fit frame ≡ true → PartsFit frame
parts_to frame h =
    let a = both _ _ h in
    let b = both _ _ a.1 in
    let c = both _ _ b.1 in
    let d = both _ _ c.1 in
    let e = both _ _ d.1 in
    record {
      signature = there_to attrs_fit FitsBlob blob_to frame.signature a.0;
      payload = there_to attrs_fit FitsBlob blob_to frame.payload b.0;
      path = there_to is_plain_text HasNoNul text_to frame.path c.0;
      method = there_to is_plain_text HasNoNul text_to frame.method d.0;
      user = there_to is_plain_text HasNoNul text_to frame.user e.0;
      group = there_to is_plain_text HasNoNul text_to frame.group e.1;
    }

parts_back : (frame : Frame) → PartsFit frame → parts_fit frame ≡ true
parts_back frame p =
    join _ _ (there_back attrs_fit FitsBlob blob_back frame.signature p.signature)
    (join _ _ (there_back attrs_fit FitsBlob blob_back frame.payload p.payload)
    (join _ _ (there_back is_plain_text HasNoNul text_back frame.path p.path)
    (join _ _ (there_back is_plain_text HasNoNul text_back frame.method p.method)
    (join _ _ (there_back is_plain_text HasNoNul text_back frame.user p.user)
    (there_back is_plain_text HasNoNul text_back frame.group p.group)))))

pub fits_to : (frame : Frame) → fits frame ≡ true → FitsFrame frame
unfolding fits
fits_to frame h = let a = both (parts_fit frame) _ h in record { parts = parts_to frame a.0; size = leb-true _ _ a.1 }

pub fits_back : (frame : Frame) → FitsFrame frame → fits frame ≡ true
unfolding fits
fits_back frame f = join (parts_fit frame) _ (parts_back frame f.parts) (le-leb _ _ f.size)

pub unfit_to : (frame : Frame) → fits frame ≡ false → FitsFrame frame → ⊥
unfit_to frame h f = let n : true ≡ false = sym (fits_back frame f) ∙ h in cc

-- a test that tells the same is the same
pub same_test : (b : Bool) (frame : Frame) → (b ≡ true → FitsFrame frame) → (b ≡ false → FitsFrame frame → ⊥) → b ≡ fits frame
same_test true frame fit unfit = sym (fits_back frame (fit refl))
same_test false frame fit unfit = by_test (fits frame) refl
  where
    by_test : (c : Bool) → fits frame ≡ c → false ≡ fits frame
    by_test true e = absurd (unfit refl (fits_to frame e))
    by_test false e = sym e
