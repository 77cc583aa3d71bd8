use Rattle.std.proofs.Common.{ℕ, List, ◌≡◌, ◌∙◌, subst, sym, Ok, Err}
use Rattle.net_addr.specs.CidrSpelling.{SpellsCidr}
use Rattle.answer_json.proofs.MemberLemmas.{text_is}
use Rattle.answer_json.proofs.answer_json.read_prefix.Goals as goal

pub returns-in-Err-clause-none : goal.returns-in-Err-clause-none
returns-in-Err-clause-none c = λ prefix h.
    let same = text_is _ h.letters _ h.text (sym c.in_ok-text.ensures) ∙ sym c.as_bytes.ensures.value in
    let read = c.read_cidr.ensures.only prefix
    (subst (λ (t : List ℕ). SpellsCidr t prefix) same h.is) in
    let failed = c.in-Err.is in
    absurd cc
