use Rattle.std.proofs.Common.{◌≡◌, ℕ, List, true, subst, sym}
use Rattle.uci_text.specs.declared.text_error.TextError.TheVariants.{ArgumentCount, BadName}
use Rattle.uci_text.specs.Table.{Begins, AreNamed, of_count, of_name, word_at}
use Rattle.uci_text.proofs.table.kind_of.Goals as goal

pub returns-then-not-takes-clause-refused : goal.returns-then-not-takes-clause-refused
returns-then-not-takes-clause-refused c = λ error e.
    let P : List ℕ → Type 0 = λ z. Begins c.in-Some.keyword z in
    let told : error ≡ ArgumentCount c.args.line = cc in
    of_count c.in-Some.keyword (subst P c.word_at.ensures c.in-Some.ensures.some) (λ h. let t : c.takes.result ≡ true = c.takes.ensures.1 h in cc) told

pub returns-then-not-allows-clause-refused : goal.returns-then-not-allows-clause-refused
returns-then-not-allows-clause-refused c = λ error e.
    let P : List ℕ → Type 0 = λ z. Begins c.in-Some.keyword z in
    let Q : List ℕ → Type 0 = λ z. AreNamed c.in-Some.keyword z c.word_at-3.result.now in
    let R : List ℕ → Type 0 = λ z. AreNamed c.in-Some.keyword (word_at c.args.words.now 1) z in
    let told : error ≡ BadName c.args.line = cc in
    of_name c.in-Some.keyword (subst P c.word_at.ensures c.in-Some.ensures.some) (c.takes.ensures.0 c.if-not-takes.false)
    (λ h. let t : c.allows.result ≡ true = c.allows.ensures.1 (subst Q (sym c.word_at-2.ensures) (subst R (sym c.word_at-3.ensures) h)) in cc)
    told
