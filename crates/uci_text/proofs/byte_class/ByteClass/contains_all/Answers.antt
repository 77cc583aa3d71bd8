use Rattle.std.proofs.Common.{◌++◌, List, ℕ, length, nat_eq, ◌∙◌, sym, ap, subst, ◌↔◌}
use Rattle.std.specs.Prelude.{IsTrue}
use Rattle.std.proofs.lemmas.List.{append-nil}
use Rattle.uci_text.specs.declared.byte_class.ByteClass.{ByteClass}
use Rattle.uci_text.specs.declared.byte_class.ByteClass.TheVariants.{Name, Printable}
use Rattle.uci_text.specs.ByteClass.{is_in, AllIn}
use Rattle.uci_text.proofs.ClassLemmas.{has_none}
use Rattle.uci_text.proofs.ScanLemmas.{all_by_test}
use Rattle.uci_text.proofs.TableLemmas.{no_rest}
use Rattle.uci_text.proofs.byte_class.ByteClass.contains_all.Goals as goal

pub returns-in-Name : goal.returns-in-Name
returns-in-Name c =
    let P : ByteClass → Type 0 = λ class. IsTrue c.all_name.result ↔ AllIn class c.args.bytes.now in
    let all = all_by_test (is_in Name) c.args.bytes.now in
    subst P (sym c.in-Name.is) (λ t. all.0 (sym c.all_name.ensures ∙ t), λ each. c.all_name.ensures ∙ all.1 each)

pub returns-in-Printable : goal.returns-in-Printable
returns-in-Printable c =
    let P : ByteClass → Type 0 = λ class. IsTrue c.all_printable.result ↔ AllIn class c.args.bytes.now in
    let all = all_by_test (is_in Printable) c.args.bytes.now in
    subst P (sym c.in-Printable.is) (λ t. all.0 (sym c.all_printable.ensures ∙ t), λ each. c.all_printable.ensures ∙ all.1 each)

pub returns-in_default : goal.returns-in_default
returns-in_default c =
    let P : List ℕ → Type 0 = λ z. AllIn c.args.self z in
    let s = c.split.ensures in (
      λ t. subst P (sym (s.whole ∙ ap (λ (z : List ℕ). c.split.result.0.now ++ z) (has_none _ (sym c.is_empty.ensures ∙ t)) ∙ append-nil c.split.result.0.now)) s.within,
      λ h. c.is_empty.ensures ∙ ap (λ (z : List ℕ). nat_eq (length z) 0) (no_rest _ _ _ _ s h),
    )
