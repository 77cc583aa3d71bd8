use Rattle.std.proofs.Common.{◌∙◌, sym, ap, refl}
use Rattle.hex.specs.Hex.{encode_lower}
use Rattle.rpc_login.proofs.PasswordLemmas.{decoded, decodes, parts_by, parts_fit, salt_of_parts}
use Rattle.rpc_login.proofs.password.parts_fit.Goals as goal

pub returns-in_default : goal.returns-in_default
returns-in_default c =
    (λ no. cc no, λ fit. absurd (c.in_default.not-Ok tt (decodes _ _ _ _ c.decode_to_slice.ensures.value (salt_of_parts _ _ _ _ fit c.requires.room))))

pub returns-then-is_text_of : goal.returns-then-is_text_of
returns-then-is_text_of c =
    let salt = c.decode_to_slice.new.out in
    let read = decoded _ _ salt c.in-Ok.ensures.value refl in
    let digits = ap encode_lower (c.as_slice.ensures ∙ c.digest-digest.ensures) in (
      λ yes. parts_fit _ _ _ salt _ c.requires.some c.requires.few read (c.is_text_of.ensures.0 c.if-is_text_of.true) (c.is_text_of-then-is_text_of.ensures.0 yes ∙ digits),
      λ fit. c.is_text_of-then-is_text_of.ensures.1 ((parts_by _ _ _ salt _ c.requires.room read fit).1 ∙ sym digits),
    )

pub returns-else-is_text_of : goal.returns-else-is_text_of
returns-else-is_text_of c =
    let salt = c.decode_to_slice.new.out in
    let read = decoded _ _ salt c.in-Ok.ensures.value refl in (
      λ yes. cc (yes, c.if-is_text_of.false),
      λ fit. c.is_text_of.ensures.1 (parts_by _ _ _ salt _ c.requires.room read fit).0,
    )
