-- Bytes make one frame at most.
use Rattle.std.proofs.Common.{ℕ, ◌≡◌, ◌≤◌, List, length, Some, None, arith, ap, sym, subst, ◌∙◌}
use Rattle.blob_codec.specs.declared.blob.TheConstants.{MOST_LEVELS}
use Rattle.blob_codec.specs.Attribute.{flag_in, type_in, behind}
use Rattle.blob_codec.proofs.LawLemmas.{one_list}
use Rattle.ubus_frames.specs.declared.frame.Frame.{Frame}
use Rattle.ubus_frames.specs.declared.value.Kind.{Kind}
use Rattle.ubus_frames.specs.declared.value.Kind.TheVariants.{OneNumber, OneText, AttrList, OneByte, NumberList}
use Rattle.ubus_frames.specs.declared.value.Value.{Value}
use Rattle.ubus_frames.specs.declared.value.Value.TheVariants.{Attrs, Numbers}
use Rattle.ubus_frames.specs.Field.{IsWhole, data_in}
use Rattle.ubus_frames.specs.Frame.{bare_in, fields_in}
use Rattle.ubus_frames.specs.Layout.{Puts, passed, known, MakesOf, none, field, SpellsFrame}
use Rattle.ubus_frames.specs.Numbers as list
use Rattle.ubus_frames.specs.Numbers.{SpellsNumbers, IsNumber}
use Rattle.ubus_frames.specs.Value.{IsValue, number, text, attrs, byte, numbers, put}

no_word : (bytes : List ℕ) → IsWhole bytes → length bytes ≡ 0 → ⊥
no_word bytes w n = let k : 4 ≤ length bytes = w.word in absurd (omega arith)

one_numbers : (bytes ns ms : List ℕ) → SpellsNumbers bytes ns → SpellsNumbers bytes ms → ms ≡ ns
one_numbers bytes ns ms (list.none _ _ z e) (list.none _ _ y f) = f ∙ sym e
one_numbers bytes ns ms (list.none _ _ z e) (list.number _ os _ is t f) = absurd (no_word bytes is.whole z)
one_numbers bytes ns ms (list.number _ os _ is t e) (list.none _ _ y f) = absurd (no_word bytes is.whole y)
one_numbers bytes ns ms (list.number _ os _ is t e) (list.number _ ps _ it u f) =
    let rests : ps ≡ os = one_numbers (behind bytes) os ps t u in
    cc

one_value : (kind : Kind) (bytes : List ℕ) (v u : Value) → IsValue kind bytes v → IsValue kind bytes u → u ≡ v
one_value kind bytes v u (number a l e) (number b m f) = f ∙ sym e
one_value kind bytes v u (number a l e) (text b m f) = absurd (let q : OneNumber ≡ OneText = sym a ∙ b in cc)
one_value kind bytes v u (number a l e) (attrs ys b t f) = absurd (let q : OneNumber ≡ AttrList = sym a ∙ b in cc)
one_value kind bytes v u (number a l e) (byte b m f) = absurd (let q : OneNumber ≡ OneByte = sym a ∙ b in cc)
one_value kind bytes v u (number a l e) (numbers ys b t f) = absurd (let q : OneNumber ≡ NumberList = sym a ∙ b in cc)
one_value kind bytes v u (text a l e) (number b m f) = absurd (let q : OneText ≡ OneNumber = sym a ∙ b in cc)
one_value kind bytes v u (text a l e) (text b m f) = f ∙ sym e
one_value kind bytes v u (text a l e) (attrs ys b t f) = absurd (let q : OneText ≡ AttrList = sym a ∙ b in cc)
one_value kind bytes v u (text a l e) (byte b m f) = absurd (let q : OneText ≡ OneByte = sym a ∙ b in cc)
one_value kind bytes v u (text a l e) (numbers ys b t f) = absurd (let q : OneText ≡ NumberList = sym a ∙ b in cc)
one_value kind bytes v u (attrs xs a s e) (number b m f) = absurd (let q : AttrList ≡ OneNumber = sym a ∙ b in cc)
one_value kind bytes v u (attrs xs a s e) (text b m f) = absurd (let q : AttrList ≡ OneText = sym a ∙ b in cc)
one_value kind bytes v u (attrs xs a s e) (attrs ys b t f) = f ∙ (ap Attrs (one_list MOST_LEVELS bytes xs ys s t) ∙ sym e)
one_value kind bytes v u (attrs xs a s e) (byte b m f) = absurd (let q : AttrList ≡ OneByte = sym a ∙ b in cc)
one_value kind bytes v u (attrs xs a s e) (numbers ys b t f) = absurd (let q : AttrList ≡ NumberList = sym a ∙ b in cc)
one_value kind bytes v u (byte a l e) (number b m f) = absurd (let q : OneByte ≡ OneNumber = sym a ∙ b in cc)
one_value kind bytes v u (byte a l e) (text b m f) = absurd (let q : OneByte ≡ OneText = sym a ∙ b in cc)
one_value kind bytes v u (byte a l e) (attrs ys b t f) = absurd (let q : OneByte ≡ AttrList = sym a ∙ b in cc)
one_value kind bytes v u (byte a l e) (byte b m f) = f ∙ sym e
one_value kind bytes v u (byte a l e) (numbers ys b t f) = absurd (let q : OneByte ≡ NumberList = sym a ∙ b in cc)
one_value kind bytes v u (numbers xs a s e) (number b m f) = absurd (let q : NumberList ≡ OneNumber = sym a ∙ b in cc)
one_value kind bytes v u (numbers xs a s e) (text b m f) = absurd (let q : NumberList ≡ OneText = sym a ∙ b in cc)
one_value kind bytes v u (numbers xs a s e) (attrs ys b t f) = absurd (let q : NumberList ≡ AttrList = sym a ∙ b in cc)
one_value kind bytes v u (numbers xs a s e) (byte b m f) = absurd (let q : NumberList ≡ OneByte = sym a ∙ b in cc)
one_value kind bytes v u (numbers xs a s e) (numbers ys b t f) = f ∙ (ap Numbers (one_numbers bytes xs ys s t) ∙ sym e)

one_put : (flag id : ℕ) (bytes : List ℕ) (now next other : Frame) → Puts flag id bytes now next → Puts flag id bytes now other → other ≡ next
one_put flag id bytes now next other (passed n e) (passed m f) = f ∙ sym e
one_put flag id bytes now next other (passed n e) (known k v m i f) = absurd (let q : None ≡ Some k = sym n ∙ m in cc)
one_put flag id bytes now next other (known k v n i e) (passed m f) = absurd (let q : None ≡ Some k = sym m ∙ n in cc)
one_put flag id bytes now next other (known k v n i e) (known j u m h f) =
    let q : Some k ≡ Some j = sym n ∙ m in
    let same : k ≡ j = cc q in
    let values : u ≡ v = one_value j bytes v u (subst (λ (x : Kind). IsValue x bytes v) same i) h in
    f ∙ (ap (λ (x : Value). put id x now) values ∙ sym e)

pub one_made : (bytes : List ℕ) (start made other : Frame) → MakesOf bytes start made → MakesOf bytes start other → other ≡ made
one_made bytes start made other (none _ _ _ n e) (none _ _ _ m f) = f ∙ sym e
one_made bytes start made other (none _ _ _ n e) (field _ _ x _ ch t) = absurd (no_word bytes ch.whole n)
one_made bytes start made other (field _ _ x _ ch t) (none _ _ _ m f) = absurd (no_word bytes ch.whole m)
one_made bytes start made other (field _ _ x _ ch t) (field _ _ y _ dh u) =
    let same : y ≡ x = one_put (flag_in bytes) (type_in bytes) (data_in bytes) start x y ch.puts dh.puts in
    one_made (behind bytes) x made other t (subst (λ (z : Frame). MakesOf (behind bytes) z other) same u)

pub one_frame : (bytes : List ℕ) (frame other : Frame) → SpellsFrame bytes frame → SpellsFrame bytes other → other ≡ frame
one_frame bytes frame other s t = one_made (fields_in bytes) (bare_in bytes) frame other s.begins.fields t.begins.fields
