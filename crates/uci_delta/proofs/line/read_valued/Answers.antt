use Rattle.std.proofs.Common.{ℕ, List, Option, subst}
use Rattle.std.specs.Prelude.{IfNone, IfSome}
use Rattle.uci_text.specs.Word.{SpellsWord}
use Rattle.uci_delta.specs.Print.{kind_of}
use Rattle.uci_delta.proofs.LineLemmas.{valued_head, no_word, no_value, valued_spelled}
use Rattle.uci_delta.proofs.line.read_valued.Goals as goal

pub returns-in_default : goal.returns-in_default
returns-in_default c = λ delta n s. c.in_default.ensures (kind_of delta.change) delta.section delta.option (valued_head _ _ _ delta c.requires.first n s)

pub returns-in_default-2 : goal.returns-in_default-2
returns-in_default-2 c = λ delta n s. no_word _ _ delta c.requires.first (subst (λ (z : Option (List ℕ)). IfNone z ((value : List ℕ) → SpellsWord c.args.word.now value → ⊥)) c.in_default-2.is c.in_ok-value.ensures.none) s

pub returns-in_default-change_of : goal.returns-in_default-change_of
returns-in_default-change_of c = λ delta n s. no_value _ _ _ _ _ _ delta c.requires.first c.in-Some.ensures c.in_default-change_of.ensures n s

pub returns : goal.returns
returns c = (
  c.in_ok-from_bytes.ensures,
  valued_spelled _ _ _ _ _ _ _ _ c.requires.clean c.in-Some.ensures (subst (λ (z : Option (List ℕ)). IfSome z (SpellsWord c.args.word.now)) c.in-Some-2.is c.in_ok-value.ensures.found)
      c.in-Some-change_of.ensures.0 c.in-Some-change_of.ensures.1 c.in_ok-from_bytes.ensures c.in_ok-from_bytes-2.ensures c.in_ok-copy_option.ensures,
)
