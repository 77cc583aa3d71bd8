-- How events that are refused are told, and others.
use Rattle.std.proofs.Common.{◌≡◌, ℕ, List, Option, Some, None, Result, Ok, Err, OnOk, OnErr, refl, ap, sym, subst}
use Rattle.kern_model.specs.declared.object.DevEvent.{DevEvent}
use Rattle.kern_model.specs.declared.kernel.Asked.{Asked}
use Rattle.net_rules.specs.declared.refusal.Refusal.{Refusal}
use Rattle.net_rules.specs.declared.refusal.Refusal.TheVariants as refused
use Rattle.net_plane.specs.declared.net_error.NetError.{NetError}
use Rattle.net_plane.specs.declared.net_error.NetError.TheVariants as error
use Rattle.net_plane.specs.NetError.{error_of}
use Rattle.net_plane.specs.Taken.{Answers, AnswersOrFails, TellsOnce}

module _ (X : Type 0) where
  pub answers_refused : (o : Option Refusal) (why : Refusal) (e : NetError) → o ≡ Some why → e ≡ error_of why → Answers {X = X} o (Err e)
  answers_refused o why e some told = subst (λ (p : Option Refusal). Answers {X = X} p (Err e)) (sym some) (ap Err told)

  pub answers_free : (o : Option Refusal) (result : Result X NetError) → o ≡ None → Answers None result → Answers o result
  answers_free o result none answers = subst (λ (p : Option Refusal). Answers p result) (sym none) answers

  pub fails_refused : (o : Option Refusal) (why : Refusal) (e : NetError) (before now : ℕ) → o ≡ Some why → e ≡ error_of why → AnswersOrFails {X = X} o before now (Err e)
  fails_refused o why e before now some told = subst (λ (p : Option Refusal). AnswersOrFails {X = X} p before now (Err e)) (sym some) (ap Err told)

  pub fails_free : (o : Option Refusal) (before now : ℕ) (result : Result X NetError) → o ≡ None → AnswersOrFails None before now result → AnswersOrFails o before now result
  fails_free o before now result none answers = subst (λ (p : Option Refusal). AnswersOrFails p before now result) (sym none) answers

  tells_nothing : (what : DevEvent) (asked : Option (List Asked)) (why : Refusal) → TellsOnce {X = X} what asked asked (Err (error_of why))
  tells_nothing what asked refused.NoInterface = refl
  tells_nothing what asked refused.NoRadio = refl
  tells_nothing what asked (refused.Stale given current) = refl
  tells_nothing what asked refused.NoDevice = refl
  tells_nothing what asked refused.Known = refl
  tells_nothing what asked (refused.WrongPorts wanted) = refl
  tells_nothing what asked (refused.Limit number) = refl

  pub tells_refused : (what : DevEvent) (asked : Option (List Asked)) (why : Refusal) (e : NetError) → e ≡ error_of why → TellsOnce {X = X} what asked asked (Err e)
  tells_refused what asked why e told = subst (λ (f : NetError). TellsOnce {X = X} what asked asked (Err f)) (sym told) (tells_nothing what asked why)

  pub memory_alone : (result : Result X NetError) → Answers None result → (e : NetError) → result ≡ Err e → e ≡ error.Memory
  memory_alone (Ok x) answers e is = cc is
  memory_alone (Err f) answers e is = cc (answers, is)

  pub always : {P : Type 0} (result : Result X NetError) → P → OnOk result P
  always (Ok x) p = p
  always (Err e) p = tt

  -- what holds of a failure
  pub at_error : {P : Type 0} (result : Result X NetError) (e : NetError) → result ≡ Err e → OnErr result P → P
  at_error (Ok x) e is p = absurd (cc is)
  at_error (Err f) e is p = p
