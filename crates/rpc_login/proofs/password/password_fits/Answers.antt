use Rattle.std.proofs.Common.{inl, inr, arith}
use Rattle.rpc_login.proofs.PasswordLemmas.{cut_of_fits, digits_of_parts, fits_by_parts, parts_by_fits}
use Rattle.rpc_login.proofs.password.password_fits.Goals as goal

-- src/password.rt:45:9
pub returns-in_default : goal.returns-in_default
returns-in_default c = (λ no. cc no, λ fit. absurd (c.in_default.ensures.none _ _ (cut_of_fits _ _ fit)))

-- src/password.rt:49:9
pub returns-then-count-eq0 : goal.returns-then-count-eq0
returns-then-count-eq0 c = (
  λ no. cc no,
  λ fit.
      let parts = parts_by_fits _ _ _ _ c.in-Some.ensures.some fit in
      let size = digits_of_parts _ _ _ parts in
      let digits = size.0 in
      let some = size.1 in
      let few = size.2 in
      let either = c.then-count-eq0.either in
      absurd (elim either [
        | inl none ↦ omega (arith, digits, some, none)
        | inr many ↦ omega (arith, digits, few, many)
      ]),
)

-- src/password.rt:41:1
pub returns : goal.returns
returns c = (
  λ yes. fits_by_parts _ _ _ _ c.in-Some.ensures.some (c.parts_fit.ensures.0 yes),
  λ fit. c.parts_fit.ensures.1 (parts_by_fits _ _ _ _ c.in-Some.ensures.some fit),
)
