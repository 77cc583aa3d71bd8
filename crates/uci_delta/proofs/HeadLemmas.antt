-- What stands in front of the value of a line is read in one way.
use Rattle.std.proofs.Common.{ℕ, ◌≡◌, ◌≢◌, Bool, true, false, cond, nat_eq, List, [], ◌∷◌, ◌++◌, Option, Some, None, refl, sym, ap, subst, ◌∙◌, arith}
use Rattle.std.specs.Prelude.{IsTrue, ◌↔◌}
use Rattle.std.proofs.lemmas.List.{append-nil, append_cancel_right}
use Rattle.uci_text.specs.declared.byte_class.ByteClass.TheVariants.{Name, PackageName}
use Rattle.uci_text.specs.Table.{IsNameOf}
use Rattle.uci_text.proofs.ClassLemmas.{each-append}
use Rattle.uci_tree.specs.Split.{HasNone, CutsAtFirst}
use Rattle.uci_tree.proofs.PathLemmas.{not_there, lacks, one_first}
use Rattle.uci_delta.specs.declared.head.Kind.{Kind}
use Rattle.uci_delta.specs.declared.head.Kind.TheVariants as kind
use Rattle.uci_delta.specs.Line.{IsNamedOption}
use Rattle.uci_delta.specs.Print.{sign_of, option_text}
use Rattle.uci_delta.specs.Head.{KindFits, IsHead, CutsPlace}

sign_lacks : (k : Kind) → HasNone 46 (sign_of k)
sign_lacks kind.Set = tt
sign_lacks kind.Remove = (λ e. absurd (omega (arith, e)), tt)
sign_lacks kind.Add = (λ e. absurd (omega (arith, e)), tt)
sign_lacks kind.Rename = (λ e. absurd (omega (arith, e)), tt)
sign_lacks kind.Reorder = (λ e. absurd (omega (arith, e)), tt)
sign_lacks kind.ListAdd = (λ e. absurd (omega (arith, e)), tt)
sign_lacks kind.ListDel = (λ e. absurd (omega (arith, e)), tt)

front_lacks : (k : Kind) (name : List ℕ) → IsNameOf PackageName name → HasNone 46 (sign_of k ++ name)
front_lacks k name n = each-append (λ other. other ≢ 46) (sign_of k) name (sign_lacks k) (lacks PackageName 46 name refl n.1)

-- the cut of a head
pub head_cut : (name head front place : List ℕ) (k : Kind) (section : List ℕ) (option : Option (List ℕ)) → CutsAtFirst 46 head front place → IsHead name head k section option → (front ≡ sign_of k ++ name)
    × (place ≡ section ++ option_text option)
head_cut name head front place k section option c h = one_first 46 front place (sign_of k ++ name) (section ++ option_text option) c.first (front_lacks k name h.in_package) (sym c.whole ∙ h.whole)

pub no_cut : (name head : List ℕ) (k : Kind) (section : List ℕ) (option : Option (List ℕ)) → HasNone 46 head → IsHead name head k section option → ⊥
no_cut name head k section option n h = not_there 46 head (sign_of k ++ name) (section ++ option_text option) h.whole n

-- the cut of a place
pub one_place : (place section other : List ℕ) (option another : Option (List ℕ)) → CutsPlace place section option → place ≡ other ++ option_text another → IsNameOf Name other → IsNamedOption another → (section ≡ other) × (option ≡ another)
one_place place section other None None c e n o = (c.0 ∙ e ∙ append-nil other, refl)
one_place place section other None (Some name) c e n o = absurd (not_there 46 place other name e c.1)
one_place place section other (Some option) None c e n o =
    absurd (not_there 46 other section option (sym (append-nil other) ∙ sym e ∙ c.whole) (lacks Name 46 other refl n.1))
one_place place section other (Some option) (Some name) c e n o =
    let s = one_first 46 section option other name c.first (lacks Name 46 other refl n.1) (sym c.whole ∙ e) in
    (s.0, ap Some s.1)

-- a sign tells its kind
kind_at : List ℕ → Kind
kind_at [] = kind.Set
kind_at (b ∷ bytes) = cond {A = Kind} (nat_eq b 45) kind.Remove
    (cond {A = Kind} (nat_eq b 43) kind.Add (cond {A = Kind} (nat_eq b 64) kind.Rename (cond {A = Kind} (nat_eq b 94) kind.Reorder (cond {A = Kind} (nat_eq b 124) kind.ListAdd kind.ListDel))))

kind_is : (k : Kind) → kind_at (sign_of k) ≡ k
unfolding kind_at
kind_is kind.Set = refl
kind_is kind.Remove = refl
kind_is kind.Add = refl
kind_is kind.Rename = refl
kind_is kind.Reorder = refl
kind_is kind.ListAdd = refl
kind_is kind.ListDel = refl

pub one_kind : (name : List ℕ) (k l : Kind) → sign_of k ++ name ≡ sign_of l ++ name → k ≡ l
one_kind name k l e = sym (kind_is k) ∙ ap kind_at (append_cancel_right (sign_of k) (sign_of l) name e) ∙ kind_is l

-- a head has one kind, section and option
pub record SameHead (k l : Kind) (section other : List ℕ) (option another : Option (List ℕ)) : Type 0 where
  pub kinds : k ≡ l
  pub sections : section ≡ other
  pub options : option ≡ another

place_cut : (section : List ℕ) (option : Option (List ℕ)) → IsNameOf Name section → CutsPlace (section ++ option_text option) section option
place_cut section None n = (sym (append-nil section), subst (HasNone 46) (sym (append-nil section)) (lacks Name 46 section refl n.1))
place_cut section (Some name) n = record { whole = refl; first = lacks Name 46 section refl n.1 }

pub one_head : (name head : List ℕ) (k l : Kind) (section other : List ℕ) (option another : Option (List ℕ)) → IsHead name head k section option → IsHead name head l other another → SameHead k l section other option another
one_head name head k l section other option another h g =
    let c : CutsAtFirst 46 head (sign_of k ++ name) (section ++ option_text option) = record { whole = h.whole; first = front_lacks k name h.in_package } in
    let f = head_cut name head (sign_of k ++ name) (section ++ option_text option) l other another c g in
    let p = one_place (section ++ option_text option) section other option another (place_cut section option h.section_named) f.1 g.section_named g.option_named in
    record { kinds = one_kind name k l f.0; sections = p.0; options = p.1 }

-- a head is found
pub head_found : (name head front place section : List ℕ) (k : Kind) (option : Option (List ℕ)) → CutsAtFirst 46 head front place → front ≡ sign_of k ++ name → CutsPlace place section option → IsNameOf PackageName name
    → IsNameOf Name section → IsNamedOption option → KindFits k option → IsHead name head k section option
head_found name head front place section k None c f p n s o t =
    record { whole = c.whole ∙ ap (λ (z : List ℕ). z ++ 46 ∷ place) f ∙ ap (λ (z : List ℕ). (sign_of k ++ name) ++ 46 ∷ z) (sym p.0 ∙ sym (append-nil section)); in_package = n; section_named = s; option_named = o; fits = t }
head_found name head front place section k (Some option) c f p n s o t =
    record { whole = c.whole ∙ ap (λ (z : List ℕ). z ++ 46 ∷ place) f ∙ ap (λ (z : List ℕ). (sign_of k ++ name) ++ 46 ∷ z) p.whole; in_package = n; section_named = s; option_named = o; fits = t }

-- a head that is none, by what its cut finds
head_place : (name head front place found section : List ℕ) (k : Kind) (other option : Option (List ℕ)) → CutsAtFirst 46 head front place → CutsPlace place found other → IsHead name head k section option → (found ≡ section)
    × (other ≡ option)
head_place name head front place found section k other option c p h =
    let f = head_cut name head front place k section option c h in
    one_place place found section other option p f.1 h.section_named h.option_named

-- a test that fails denies its fact
denied : {P : Type 0} (test : Bool) → (IsTrue test ↔ P) → test ≡ false → P → ⊥
denied true h e p = let f : true ≡ false = e in absurd cc
denied false h e p = let f : false ≡ true = h.1 p in absurd cc

pub no_section : (name head front place found section : List ℕ) (k : Kind) (other option : Option (List ℕ)) (test : Bool) → CutsAtFirst 46 head front place → CutsPlace place found other → (IsTrue test ↔ IsNameOf Name found) → test ≡ false
    → IsHead name head k section option → ⊥
no_section name head front place found section k other option test c p t e h =
    let s = head_place name head front place found section k other option c p h in
    denied test t e (subst (IsNameOf Name) (sym s.0) h.section_named)

pub no_option : (name head front place found section : List ℕ) (k : Kind) (other option : Option (List ℕ)) (test : Bool) → CutsAtFirst 46 head front place → CutsPlace place found other → (IsTrue test ↔ IsNamedOption other) → test ≡ false
    → IsHead name head k section option → ⊥
no_option name head front place found section k other option test c p t e h =
    let s = head_place name head front place found section k other option c p h in
    denied test t e (subst IsNamedOption (sym s.1) h.option_named)

pub no_kind : (name head front place found section : List ℕ) (k l : Kind) (other option : Option (List ℕ)) (test : Bool) → CutsAtFirst 46 head front place → front ≡ sign_of l ++ name → CutsPlace place found other
    → (IsTrue test ↔ KindFits l other) → test ≡ false → IsHead name head k section option → ⊥
no_kind name head front place found section k l other option test c f p t e h =
    let s = head_place name head front place found section k other option c p h in
    let same : k ≡ l = one_kind name k l (sym (head_cut name head front place k section option c h).0 ∙ f) in
    denied test t e (subst (λ z. KindFits l z) (sym s.1) (subst (λ z. KindFits z option) same h.fits))
