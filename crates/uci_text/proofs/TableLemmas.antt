-- The table of commands: words are one command, or have one fault.
use Rattle.std.proofs.Common.{ℕ, ◌≡◌, ◌⊎◌, inl, inr, List, [], ◌∷◌, length, get_or, Bool, true, false, not, arith, sym, refl, subst, ap, ◌∙◌, nat_eq}
use Rattle.std.specs.Prelude.{if◌then◌else◌}
use Rattle.std.specs.Str.{bytes_eq}
use Rattle.std.proofs.lemmas.Slice.Eq.{bytes_eq-Decides}
use Rattle.std.proofs.lemmas.Bool.Decides.{nat_tests}
use Rattle.uci_text.specs.declared.byte_class.ByteClass.{ByteClass}
use Rattle.uci_text.specs.declared.byte_class.ByteClass.TheVariants.{Name, PackageName, Printable}
use Rattle.uci_text.specs.declared.keyword.Keyword.{Keyword}
use Rattle.uci_text.specs.declared.keyword.Keyword.TheVariants.{Package, Config, Item, ListItem}
use Rattle.uci_text.specs.declared.cmd.Cmd.{Cmd}
use Rattle.uci_text.specs.declared.text_error.TextError.{TextError}
use Rattle.uci_text.specs.declared.text_error.TextError.TheVariants.{UnknownCommand, ArgumentCount, BadName}
use Rattle.uci_text.specs.ByteClass.{is_in, AllIn, SplitsBehind}
use Rattle.uci_text.specs.Table.{Begins, IsCount, IsNameOf, AreNamed, IsCmd, HasWordsFault, of_first, of_count, of_name, cmd_of, word_at}
use Rattle.uci_text.proofs.ClassLemmas.{all_in-right}

not_both : (t : Bool) → t ≡ true → not t ≡ true → ⊥
not_both true e n = let x : false ≡ true = n in cc
not_both false e n = cc

-- where all bytes are of a class, the longest front of it is all
pub no_rest : (class : ByteClass) (bytes front rest : List ℕ) → SplitsBehind class bytes front rest → AllIn class bytes → rest ≡ []
no_rest class bytes front [] s h = refl
no_rest class bytes front (b ∷ rest) s h =
    let P : List ℕ → Type 0 = λ z. AllIn class z in
    let q : AllIn class (b ∷ rest) = all_in-right class front (b ∷ rest) (subst P s.whole h) in
    absurd (not_both (is_in class b) q.0 s.outside)

-- first words differ in their first letters
abbrev by_letter : ℕ → Keyword
by_letter n = if nat_eq n 112 then Package else (if nat_eq n 99 then Config else (if nat_eq n 111 then Item else ListItem))

begins_with : (keyword : Keyword) (word : List ℕ) → Begins keyword word → by_letter (get_or word 0 0) ≡ keyword
begins_with Package word (inl e) = ap (λ (w : List ℕ). by_letter (get_or w 0 0)) e
begins_with Package word (inr e) = ap (λ (w : List ℕ). by_letter (get_or w 0 0)) e
begins_with Config word (inl e) = ap (λ (w : List ℕ). by_letter (get_or w 0 0)) e
begins_with Config word (inr e) = ap (λ (w : List ℕ). by_letter (get_or w 0 0)) e
begins_with Item word (inl e) = ap (λ (w : List ℕ). by_letter (get_or w 0 0)) e
begins_with Item word (inr e) = ap (λ (w : List ℕ). by_letter (get_or w 0 0)) e
begins_with ListItem word (inl e) = ap (λ (w : List ℕ). by_letter (get_or w 0 0)) e
begins_with ListItem word (inr e) = ap (λ (w : List ℕ). by_letter (get_or w 0 0)) e

one_keyword : (a b : Keyword) (word : List ℕ) → Begins a word → Begins b word → b ≡ a
one_keyword a b word p q = sym (begins_with b word q) ∙ begins_with a word p

same_count : (a b : Keyword) (words : List (List ℕ)) → b ≡ a → IsCount b (length words) → IsCount a (length words)
same_count a b words e h =
    let P : Keyword → Type 0 = λ k. IsCount k (length words) in
    subst P e h

same_names : (a b : Keyword) (words : List (List ℕ)) → b ≡ a → AreNamed b (word_at words 1) (word_at words 2) → AreNamed a (word_at words 1) (word_at words 2)
same_names a b words e h =
    let P : Keyword → Type 0 = λ k. AreNamed k (word_at words 1) (word_at words 2) in
    subst P e h

pub one_cmd : (line : ℕ) (words : List (List ℕ)) (cmd other : Cmd) → IsCmd line words cmd → IsCmd line words other → other ≡ cmd
one_cmd line words cmd other a b =
    let k : b.keyword ≡ a.keyword = one_keyword a.keyword b.keyword (word_at words 0) a.is.begins b.is.begins in
    b.cmd_is ∙ ap (λ (z : Keyword). cmd_of z line (word_at words 1) (word_at words 2)) k ∙ sym a.cmd_is

pub cmd_no_fault : (line number : ℕ) (words : List (List ℕ)) (cmd : Cmd) (error : TextError) → IsCmd line words cmd → HasWordsFault number words error → ⊥
cmd_no_fault line number words cmd error a (of_first h e) = h a.keyword a.is.begins
cmd_no_fault line number words cmd error a (of_count k b h e) = h (same_count k a.keyword words (one_keyword k a.keyword (word_at words 0) b a.is.begins) a.is.count)
cmd_no_fault line number words cmd error a (of_name k b n h e) = h (same_names k a.keyword words (one_keyword k a.keyword (word_at words 0) b a.is.begins) a.is.named)

pub one_words_fault : (line : ℕ) (words : List (List ℕ)) (error other : TextError) → HasWordsFault line words error → HasWordsFault line words other → other ≡ error
one_words_fault line words error other (of_first h e) (of_first i f) = f ∙ sym e
one_words_fault line words error other (of_first h e) (of_count k b i f) = absurd (h k b)
one_words_fault line words error other (of_first h e) (of_name k b n i f) = absurd (h k b)
one_words_fault line words error other (of_count k b h e) (of_first i f) = absurd (i k b)
one_words_fault line words error other (of_count k b h e) (of_count l c i f) = f ∙ sym e
one_words_fault line words error other (of_count k b h e) (of_name l c n i f) = absurd (h (same_count k l words (one_keyword k l (word_at words 0) b c) n))
one_words_fault line words error other (of_name k b n h e) (of_first i f) = absurd (i k b)
one_words_fault line words error other (of_name k b n h e) (of_count l c i f) = absurd (i (same_count l k words (one_keyword l k (word_at words 0) c b) n))
one_words_fault line words error other (of_name k b n h e) (of_name l c m i f) = f ∙ sym e

-- each part of the table is decided
abbrev Decided : Type 0 → Type 0
Decided P = P ⊎ (P → ⊥)

same_bytes : (a b : List ℕ) → Decided (a ≡ b)
same_bytes a b = go (bytes_eq a b) refl
  where
    go : (t : Bool) → bytes_eq a b ≡ t → Decided (a ≡ b)
    go true e = inl ((bytes_eq-Decides a b).0 e)
    go false e = inr (λ h. let x : bytes_eq a b ≡ true = (bytes_eq-Decides a b).1 h in absurd (cc))

either : (P Q : Type 0) → Decided P → Decided Q → Decided (P ⊎ Q)
either P Q (inl p) q = inl (inl p)
either P Q (inr p) (inl q) = inl (inr q)
either P Q (inr p) (inr q) = inr (λ h. elim h [ inl x ↦ p x | inr y ↦ q y ])

begins : (keyword : Keyword) (word : List ℕ) → Decided (Begins keyword word)
begins Package word = either _ _ (same_bytes word _) (same_bytes word _)
begins Config word = either _ _ (same_bytes word _) (same_bytes word _)
begins Item word = either _ _ (same_bytes word _) (same_bytes word _)
begins ListItem word = either _ _ (same_bytes word _) (same_bytes word _)

number_is : (n m : ℕ) → Decided (n ≡ m)
number_is n m = go (nat_eq n m) refl
  where
    go : (t : Bool) → nat_eq n m ≡ t → Decided (n ≡ m)
    go true e = inl (grind (arith, nat_tests))
    go false e = inr (λ h. let x : ⊥ = grind (arith, nat_tests) in x)

counted : (keyword : Keyword) (n : ℕ) → Decided (IsCount keyword n)
counted Package n = number_is n 2
counted Config n = either _ _ (number_is n 2) (number_is n 3)
counted Item n = either _ _ (number_is n 2) (number_is n 3)
counted ListItem n = either _ _ (number_is n 2) (number_is n 3)

all_in : (class : ByteClass) (bytes : List ℕ) → Decided (AllIn class bytes)
all_in class [] = inl tt
all_in class (b ∷ bytes) = go (is_in class b) refl (all_in class bytes)
  where
    go : (t : Bool) → is_in class b ≡ t → Decided (AllIn class bytes) → Decided (AllIn class (b ∷ bytes))
    go true e (inl h) = inl (e, h)
    go true e (inr h) = inr (λ p. h p.1)
    go false e d = inr (λ p. let x : is_in class b ≡ true = p.0 in absurd (cc))

named : (class : ByteClass) (bytes : List ℕ) → Decided (IsNameOf class bytes)
named class [] = inr (λ h. let x : ⊥ = omega (arith, h.0) in x)
named class (b ∷ bytes) = elim (all_in class (b ∷ bytes)) [ inl h ↦ inl (omega arith, h) | inr h ↦ inr (λ p. h p.1) ]

both : (P Q : Type 0) → Decided P → Decided Q → Decided (P × Q)
both P Q (inl p) (inl q) = inl (p, q)
both P Q (inl p) (inr q) = inr (λ h. q h.1)
both P Q (inr p) q = inr (λ h. p h.0)

allowed : (keyword : Keyword) (first second : List ℕ) → Decided (AreNamed keyword first second)
allowed Package first second = named PackageName first
allowed Config first second = both _ _ (named Printable first) (all_in Name second)
allowed Item first second = named Name first
allowed ListItem first second = named Name first

-- the word begins a command, or none
first_word : (word : List ℕ) → ((keyword : Keyword) × Begins keyword word) ⊎ ((keyword : Keyword) → Begins keyword word → ⊥)
first_word word = go (begins Package word) (begins Config word) (begins Item word) (begins ListItem word)
  where
    none : (Begins Package word → ⊥) → (Begins Config word → ⊥) → (Begins Item word → ⊥) → (Begins ListItem word → ⊥) → (keyword : Keyword) → Begins keyword word → ⊥
    none p c i l Package h = p h
    none p c i l Config h = c h
    none p c i l Item h = i h
    none p c i l ListItem h = l h

    go : Decided (Begins Package word) → Decided (Begins Config word) → Decided (Begins Item word) → Decided (Begins ListItem word) → ((keyword : Keyword) × Begins keyword word) ⊎ ((keyword : Keyword) → Begins keyword word → ⊥)
    go (inl p) c i l = inl (Package, p)
    go (inr p) (inl c) i l = inl (Config, c)
    go (inr p) (inr c) (inl i) l = inl (Item, i)
    go (inr p) (inr c) (inr i) (inl l) = inl (ListItem, l)
    go (inr p) (inr c) (inr i) (inr l) = inr (none p c i l)

-- words are a command, or have a fault
pub cmd_or_fault : (line : ℕ) (words : List (List ℕ)) → ((cmd : Cmd) × IsCmd line words cmd) ⊎ ((error : TextError) × HasWordsFault line words error)
cmd_or_fault line words = first (first_word (word_at words 0))
  where
    third : (keyword : Keyword) → Begins keyword (word_at words 0) → IsCount keyword (length words) → Decided (AreNamed keyword (word_at words 1) (word_at words 2))
        → ((cmd : Cmd) × IsCmd line words cmd) ⊎ ((error : TextError) × HasWordsFault line words error)
    third k b n (inl h) = inl (cmd_of k line (word_at words 1) (word_at words 2), record { keyword = k; is = record { begins = b; count = n; named = h }; cmd_is = refl })
    third k b n (inr h) = inr (BadName line, of_name k b n h refl)

    second : (keyword : Keyword) → Begins keyword (word_at words 0) → Decided (IsCount keyword (length words)) → ((cmd : Cmd) × IsCmd line words cmd) ⊎ ((error : TextError) × HasWordsFault line words error)
    second k b (inl n) = third k b n (allowed k (word_at words 1) (word_at words 2))
    second k b (inr n) = inr (ArgumentCount line, of_count k b n refl)

    first : ((keyword : Keyword) × Begins keyword (word_at words 0)) ⊎ ((keyword : Keyword) → Begins keyword (word_at words 0) → ⊥) → ((cmd : Cmd) × IsCmd line words cmd) ⊎ ((error : TextError) × HasWordsFault line words error)
    first (inl b) = second b.0 b.1 (counted b.0 (length words))
    first (inr h) = inr (UnknownCommand line, of_first h refl)
