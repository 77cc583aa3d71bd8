-- A part is a delta in one way.
use Rattle.std.proofs.Common.{ℕ, ◌≡◌, ◌≢◌, List, [], ◌∷◌, ◌++◌, Option, Some, None, refl, sym, ap, subst, ◌∙◌, append_assoc, arith}
use Rattle.std.proofs.lemmas.List.{append-nil}
use Rattle.uci_text.specs.declared.byte_class.ByteClass.TheVariants.{Name, PackageName, NotZero}
use Rattle.uci_text.specs.ByteClass.{AllIn}
use Rattle.uci_text.specs.Table.{IsNameOf}
use Rattle.uci_text.specs.Word.{SpellsWord}
use Rattle.uci_text.proofs.ClassLemmas.{each-append}
use Rattle.uci_tree.specs.Split.{HasNone}
use Rattle.uci_tree.proofs.PathLemmas.{not_there, lacks, one_first}
use Rattle.uci_delta.specs.declared.head.Kind.{Kind}
use Rattle.uci_delta.specs.declared.head.Kind.TheVariants as kind
use Rattle.uci_delta.specs.declared.delta.Change.{Change}
use Rattle.uci_delta.specs.declared.delta.Change.TheVariants.{Set, Remove, Add, Rename, Reorder, ListAdd, ListDel}
use Rattle.uci_delta.specs.declared.delta.Delta.{Delta}
use Rattle.uci_delta.specs.Shape.{Fits}
use Rattle.uci_delta.specs.Print.{kind_of, sign_of, mark_of, value_of, option_text, place_text}
use Rattle.uci_delta.specs.Line.{SpellsValue, IsNamedOption, SpellsDelta}
use Rattle.uci_delta.specs.Head.{KindFits, IsHead}
use Rattle.uci_delta.proofs.HeadLemmas.{SameHead, one_head}
use Rattle.uci_delta.proofs.WordLemmas.{one_value}

kind_fits : (change : Change) (option : Option (List ℕ)) → Fits change option → KindFits (kind_of change) option
kind_fits (Set value) option h = tt
kind_fits Remove option h = tt
kind_fits (Add name) None h = tt
kind_fits (Add name) (Some option) h = h
kind_fits (Rename name) option h = tt
kind_fits (Reorder place) None h = tt
kind_fits (Reorder place) (Some option) h = h
kind_fits (ListAdd item) None h = h
kind_fits (ListAdd item) (Some option) h = tt
kind_fits (ListDel item) None h = h
kind_fits (ListDel item) (Some option) h = tt

pub change_fits : (change : Change) (option : Option (List ℕ)) → KindFits (kind_of change) option → Fits change option
change_fits (Set value) option h = tt
change_fits Remove option h = tt
change_fits (Add name) None h = tt
change_fits (Add name) (Some option) h = h
change_fits (Rename name) option h = tt
change_fits (Reorder place) None h = tt
change_fits (Reorder place) (Some option) h = h
change_fits (ListAdd item) None h = h
change_fits (ListAdd item) (Some option) h = tt
change_fits (ListDel item) None h = h
change_fits (ListDel item) (Some option) h = tt

-- what stands in front of a value
abbrev pub head_text : Delta → List ℕ
head_text delta = (sign_of (kind_of delta.change) ++ delta.package) ++ 46 ∷ (delta.section ++ option_text delta.option)

pub head_whole : (delta : Delta) (value : List ℕ) → mark_of delta.change ++ (place_text delta ++ value) ≡ head_text delta ++ value
head_whole delta value =
    sym (append_assoc (sign_of (kind_of delta.change)) (place_text delta) value)
    ∙ ap (λ (z : List ℕ). z ++ value) (sym (append_assoc (sign_of (kind_of delta.change)) delta.package (46 ∷ (delta.section ++ option_text delta.option))))

pub delta_head : (part : List ℕ) (delta : Delta) → SpellsDelta part delta → IsHead delta.package (head_text delta) (kind_of delta.change) delta.section delta.option
delta_head part delta s = record { whole = refl; in_package = s.named.in_package; section_named = s.named.section; option_named = s.named.option; fits = kind_fits delta.change delta.option s.shape }

sign_lacks : (k : Kind) → HasNone 61 (sign_of k)
sign_lacks kind.Set = tt
sign_lacks kind.Remove = (λ e. absurd (omega (arith, e)), tt)
sign_lacks kind.Add = (λ e. absurd (omega (arith, e)), tt)
sign_lacks kind.Rename = (λ e. absurd (omega (arith, e)), tt)
sign_lacks kind.Reorder = (λ e. absurd (omega (arith, e)), tt)
sign_lacks kind.ListAdd = (λ e. absurd (omega (arith, e)), tt)
sign_lacks kind.ListDel = (λ e. absurd (omega (arith, e)), tt)

option_lacks : (option : Option (List ℕ)) → IsNamedOption option → HasNone 61 (option_text option)
option_lacks None n = tt
option_lacks (Some name) n = (λ e. absurd (omega (arith, e)), lacks Name 61 name refl n.1)

pub head_lacks : (name head : List ℕ) (k : Kind) (section : List ℕ) (option : Option (List ℕ)) → IsHead name head k section option → HasNone 61 head
head_lacks name head k section option h =
    let others : List ℕ → Type 0 = λ z. HasNone 61 z in
    let front : HasNone 61 (sign_of k ++ name) = each-append (λ other. other ≢ 61) (sign_of k) name (sign_lacks k) (lacks PackageName 61 name refl h.in_package.1) in
    let back : HasNone 61 (section ++ option_text option) = each-append (λ other. other ≢ 61) section (option_text option) (lacks Name 61 section refl h.section_named.1) (option_lacks option h.option_named) in
    subst others (sym h.whole) (each-append (λ other. other ≢ 61) (sign_of k ++ name) (46 ∷ (section ++ option_text option)) front (λ e. absurd (omega (arith, e)), back))

removal_is : (change : Change) → value_of change ≡ None → change ≡ Remove
removal_is (Set value) e = absurd (let f : ◌≡◌ {A = Option (List ℕ)} (Some value) None = e in cc)
removal_is Remove e = refl
removal_is (Add value) e = absurd (let f : ◌≡◌ {A = Option (List ℕ)} (Some value) None = e in cc)
removal_is (Rename value) e = absurd (let f : ◌≡◌ {A = Option (List ℕ)} (Some value) None = e in cc)
removal_is (Reorder value) e = absurd (let f : ◌≡◌ {A = Option (List ℕ)} (Some value) None = e in cc)
removal_is (ListAdd value) e = absurd (let f : ◌≡◌ {A = Option (List ℕ)} (Some value) None = e in cc)
removal_is (ListDel value) e = absurd (let f : ◌≡◌ {A = Option (List ℕ)} (Some value) None = e in cc)

-- a part without `=` is a removal
bare_value : (part front value : List ℕ) (v : Option (List ℕ)) → part ≡ front ++ value → SpellsValue value v → HasNone 61 part → (v ≡ None) × (value ≡ [])
bare_value part front value None w s h = (refl, s)
bare_value part front value (Some v) w s h = absurd (not_there 61 part front s.0 (w ∙ ap (λ (z : List ℕ). front ++ z) s.1) h)

pub bare_removal : (part : List ℕ) (delta : Delta) → HasNone 61 part → SpellsDelta part delta → (delta.change ≡ Remove) × (part ≡ head_text delta)
bare_removal part delta h s =
    let w : part ≡ head_text delta ++ s.value = s.whole ∙ head_whole delta s.value in
    let b = bare_value part (head_text delta) s.value (value_of delta.change) w s.spelled h in
    (removal_is delta.change b.0, w ∙ ap (λ (z : List ℕ). head_text delta ++ z) b.1 ∙ append-nil (head_text delta))

valued_from : (head word front value : List ℕ) (v : Option (List ℕ)) → head ++ 61 ∷ word ≡ front ++ value → SpellsValue value v → HasNone 61 head → HasNone 61 front → (given : List ℕ) × (v ≡ Some given) × (head ≡ front)
    × SpellsWord word given
valued_from head word front value None w s h f =
    absurd (not_there 61 front head word (sym (w ∙ ap (λ (z : List ℕ). front ++ z) s ∙ append-nil front)) f)
valued_from head word front value (Some v) w s h f =
    let c = one_first 61 head word front s.0 h f (w ∙ ap (λ (z : List ℕ). front ++ z) s.1) in
    (v, refl, c.0, subst (λ (z : List ℕ). SpellsWord z v) (sym c.1) s.2)

-- a part with `=` is cut there
record Valued (head word : List ℕ) (delta : Delta) : Type 0 where
  pub value : List ℕ
  pub gives : value_of delta.change ≡ Some value
  pub head_is : head ≡ head_text delta
  pub word_is : SpellsWord word value

text_lacks : (part : List ℕ) (delta : Delta) → SpellsDelta part delta → HasNone 61 (head_text delta)
text_lacks part delta s = head_lacks delta.package (head_text delta) (kind_of delta.change) delta.section delta.option (delta_head part delta s)

valued : (head word : List ℕ) (delta : Delta) → HasNone 61 head → SpellsDelta (head ++ 61 ∷ word) delta → Valued head word delta
valued head word delta h s =
    let v = valued_from head word (head_text delta) s.value (value_of delta.change) (s.whole ∙ head_whole delta s.value) s.spelled h (text_lacks (head ++ 61 ∷ word) delta s) in
    record { value = v.0; gives = v.1; head_is = v.2; word_is = v.3 }

-- the head of a part
head_at : (name head part : List ℕ) (delta : Delta) → delta.package ≡ name → head ≡ head_text delta → SpellsDelta part delta → IsHead name head (kind_of delta.change) delta.section delta.option
head_at name head part delta n e s =
    let F : List ℕ → Type 0 = λ z. IsHead z head (kind_of delta.change) delta.section delta.option in
    let G : List ℕ → Type 0 = λ z. IsHead delta.package z (kind_of delta.change) delta.section delta.option in
    subst F n (subst G (sym e) (delta_head part delta s))

pub removal_head : (name part : List ℕ) (delta : Delta) → HasNone 61 part → delta.package ≡ name → SpellsDelta part delta → IsHead name part (kind_of delta.change) delta.section delta.option
removal_head name part delta h n s = head_at name part part delta n (bare_removal part delta h s).1 s

pub removal_kind : (name part section : List ℕ) (k : Kind) (option : Option (List ℕ)) (delta : Delta) → HasNone 61 part → IsHead name part k section option → delta.package ≡ name → SpellsDelta part delta → k ≡ kind.Remove
removal_kind name part section k option delta h i n s =
    (one_head name part k (kind_of delta.change) section delta.section option delta.option i (removal_head name part delta h n s)).kinds
    ∙ ap kind_of (bare_removal part delta h s).0

pub valued_head : (name head word : List ℕ) (delta : Delta) → HasNone 61 head → delta.package ≡ name → SpellsDelta (head ++ 61 ∷ word) delta → IsHead name head (kind_of delta.change) delta.section delta.option
valued_head name head word delta h n s = head_at name head (head ++ 61 ∷ word) delta n (valued head word delta h s).head_is s

pub no_word : (head word : List ℕ) (delta : Delta) → HasNone 61 head → ((value : List ℕ) → SpellsWord word value → ⊥) → SpellsDelta (head ++ 61 ∷ word) delta → ⊥
no_word head word delta h none s = let v = valued head word delta h s in none v.value v.word_is

no_removal : (change : Change) (value : List ℕ) → value_of change ≡ Some value → kind_of change ≡ kind.Remove → ⊥
no_removal Remove value v e = let f : ◌≡◌ {A = Option (List ℕ)} None (Some value) = v in absurd cc
no_removal (Set text) value v e = let f : kind.Set ≡ kind.Remove = e in absurd cc
no_removal (Add text) value v e = let f : kind.Add ≡ kind.Remove = e in absurd cc
no_removal (Rename text) value v e = let f : kind.Rename ≡ kind.Remove = e in absurd cc
no_removal (Reorder text) value v e = let f : kind.Reorder ≡ kind.Remove = e in absurd cc
no_removal (ListAdd text) value v e = let f : kind.ListAdd ≡ kind.Remove = e in absurd cc
no_removal (ListDel text) value v e = let f : kind.ListDel ≡ kind.Remove = e in absurd cc

pub no_value : (name head word section : List ℕ) (k : Kind) (option : Option (List ℕ)) (delta : Delta) → HasNone 61 head → IsHead name head k section option → k ≡ kind.Remove → delta.package ≡ name → SpellsDelta (head ++ 61 ∷ word) delta
    → ⊥
no_value name head word section k option delta h i r n s =
    let v = valued head word delta h s in
    no_removal delta.change v.value v.gives (sym (one_head name head k (kind_of delta.change) section delta.section option delta.option i (valued_head name head word delta h n s)).kinds ∙ r)

-- a delta with a value is spelled so
pub valued_spelled : (name head word value section : List ℕ) (k : Kind) (option : Option (List ℕ)) (delta : Delta) → AllIn NotZero (head ++ 61 ∷ word) → IsHead name head k section option → SpellsWord word value → kind_of delta.change ≡ k
    → value_of delta.change ≡ Some value → delta.package ≡ name → delta.section ≡ section → delta.option ≡ option → SpellsDelta (head ++ 61 ∷ word) delta
valued_spelled name head word value section k option delta clean i w ke ve n se oe =
    let V : Option (List ℕ) → Type 0 = λ z. SpellsValue (61 ∷ word) z in
    let F : Kind → Type 0 = λ z. KindFits z delta.option in
    let G : Option (List ℕ) → Type 0 = λ z. KindFits k z in
    let front : head ≡ head_text delta =
    i.whole
    ∙ ap (λ (z : Kind). (sign_of z ++ name) ++ 46 ∷ (section ++ option_text option)) (sym ke)
    ∙ ap (λ (z : List ℕ). (sign_of (kind_of delta.change) ++ z) ++ 46 ∷ (section ++ option_text option)) (sym n)
    ∙ ap (λ (z : List ℕ). (sign_of (kind_of delta.change) ++ delta.package) ++ 46 ∷ (z ++ option_text option)) (sym se)
    ∙ ap (λ (z : Option (List ℕ)). (sign_of (kind_of delta.change) ++ delta.package) ++ 46 ∷ (delta.section ++ option_text z)) (sym oe) in
    record {
      value = 61 ∷ word;
      whole = ap (λ (z : List ℕ). z ++ 61 ∷ word) front ∙ sym (head_whole delta (61 ∷ word));
      spelled = subst V (sym ve) (word, refl, w);
      named = record { in_package = subst (IsNameOf PackageName) (sym n) i.in_package; section = subst (IsNameOf Name) (sym se) i.section_named; option = subst IsNamedOption (sym oe) i.option_named };
      shape = change_fits delta.change delta.option (subst F (sym ke) (subst G (sym oe) i.fits));
      clean = clean;
    }

-- a part is one delta
change_from : Kind → Option (List ℕ) → Change
change_from k None = Remove
change_from kind.Set (Some value) = Set value
change_from kind.Remove (Some value) = Remove
change_from kind.Add (Some value) = Add value
change_from kind.Rename (Some value) = Rename value
change_from kind.Reorder (Some value) = Reorder value
change_from kind.ListAdd (Some value) = ListAdd value
change_from kind.ListDel (Some value) = ListDel value

change_again : (change : Change) → change_from (kind_of change) (value_of change) ≡ change
unfolding change_from
change_again (Set value) = refl
change_again Remove = refl
change_again (Add value) = refl
change_again (Rename value) = refl
change_again (Reorder value) = refl
change_again (ListAdd value) = refl
change_again (ListDel value) = refl

delta_from : List ℕ → List ℕ → Option (List ℕ) → Kind → Option (List ℕ) → Delta
delta_from name section option k value = record { «package» = name; section = section; option = option; change = change_from k value }

delta_again : (delta : Delta) → delta_from delta.package delta.section delta.option (kind_of delta.change) (value_of delta.change) ≡ delta
unfolding delta_from
delta_again delta = ap (λ (z : Change). record { «package» = delta.package; section = delta.section; option = delta.option; change = z }) (change_again delta.change)

same_delta : (a b : Delta) → a.package ≡ b.package → SameHead (kind_of a.change) (kind_of b.change) a.section b.section a.option b.option → value_of a.change ≡ value_of b.change → a ≡ b
same_delta a b n s v =
    sym (delta_again a)
    ∙ ap (λ (z : List ℕ). delta_from z a.section a.option (kind_of a.change) (value_of a.change)) n
    ∙ ap (λ (z : List ℕ). delta_from b.package z a.option (kind_of a.change) (value_of a.change)) s.sections
    ∙ ap (λ (z : Option (List ℕ)). delta_from b.package b.section z (kind_of a.change) (value_of a.change)) s.options
    ∙ ap (λ (z : Kind). delta_from b.package b.section b.option z (value_of a.change)) s.kinds
    ∙ ap (delta_from b.package b.section b.option (kind_of b.change)) v
    ∙ delta_again b

one_end : (front other value another : List ℕ) (v w : Option (List ℕ)) → front ++ value ≡ other ++ another → HasNone 61 front → HasNone 61 other → SpellsValue value v → SpellsValue another w → (front ≡ other) × (v ≡ w)
one_end front other value another None None e h g s t = (sym (append-nil front) ∙ sym (ap (λ (z : List ℕ). front ++ z) s) ∙ e ∙ ap (λ (z : List ℕ). other ++ z) t ∙ append-nil other, refl)
one_end front other value another None (Some w) e h g s t = absurd (not_there 61 front other t.0 (sym (append-nil front) ∙ sym (ap (λ (z : List ℕ). front ++ z) s) ∙ e ∙ ap (λ (z : List ℕ). other ++ z) t.1) h)
one_end front other value another (Some v) None e h g s t = absurd (not_there 61 other front s.0 (sym (append-nil other) ∙ sym (ap (λ (z : List ℕ). other ++ z) t) ∙ sym e ∙ ap (λ (z : List ℕ). front ++ z) s.1) g)
one_end front other value another (Some v) (Some w) e h g s t =
    let c = one_first 61 front s.0 other t.0 h g (sym (ap (λ (z : List ℕ). front ++ z) s.1) ∙ e ∙ ap (λ (z : List ℕ). other ++ z) t.1) in
    (c.0, ap Some (sym (one_value t.0 v w (subst (λ (z : List ℕ). SpellsWord z v) c.1 s.2) t.2) ∙ refl))

pub one_delta : (part : List ℕ) (a b : Delta) → a.package ≡ b.package → SpellsDelta part a → SpellsDelta part b → a ≡ b
one_delta part a b n s t =
    let e = one_end (head_text a) (head_text b) s.value t.value (value_of a.change) (value_of b.change) (sym (s.whole ∙ head_whole a s.value) ∙ t.whole ∙ head_whole b t.value) (text_lacks part a s) (text_lacks part b t) s.spelled t.spelled
    in
    let G : List ℕ → Type 0 = λ z. IsHead a.package z (kind_of a.change) a.section a.option in
    same_delta a b n (one_head b.package (head_text b) (kind_of a.change) (kind_of b.change) a.section b.section a.option b.option (head_at b.package (head_text b) part a n (sym e.0) s) (delta_head part b t)) e.1
