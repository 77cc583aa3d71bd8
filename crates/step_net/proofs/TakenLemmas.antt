-- What is told of an event, by what it came to.
use Rattle.std.proofs.Common.{ℕ, ◌≡◌, ◌++◌, List, [], Bool, false, inl, inr, sym, ap, subst, ◌∙◌, append-nil}
use Rattle.std.specs.Prelude.{Result, Ok, Err}
use Rattle.net_plane.specs.Network.{Network, moment_of}
use Rattle.step_net.specs.declared.taken.Taken.{Taken}
use Rattle.step_net.specs.declared.told.Told.{Told}
use Rattle.step_net.specs.NetLine.{NetLine}
use Rattle.step_net.specs.Acted.{Acted, acted}
use Rattle.step_net.specs.Told.{telling}
use Rattle.step_net.specs.Taken.{telling_in, IsActed, IsNoted, TakesAs, TriesAs, Takes, Tries, TakesEvent, TriesEvent, Telled, Asks, IsLeft, IsToldOf}
use Rattle.step_net.specs.ReloadTaken.{TakesOne, TakesOneEvent}

-- a line at which the kernel is asked nothing
pub tries_alone : {T M : Type 0} (Is : Acted → Network → T → Type 0) (act : NetLine) (before now : Network) (kernel : Telled)
    (result : Result T M) → (acted (moment_of before) act false).asked ≡ [] → Asks [] false kernel
    → TakesAs Is act before now result → TriesAs Is act before now kernel result
tries_alone Is act before now kernel (Ok kept) none nothing takes = record {
  failed = false;
  is = takes;
  requests = subst (λ what. Asks what false kernel) (sym none) nothing;
}
tries_alone Is act before now kernel (Err lacks) none nothing (inl same) = IsLeft.in_front same nothing
tries_alone Is act before now kernel (Err lacks) none nothing (inr net) =
    IsLeft.behind false net (subst (λ what. Asks what false kernel) (sym none) nothing)

-- what was kept of an event is told
told_of : (done : Acted) (now : Network) (taken : Taken) (told : Told) → IsNoted done now taken
    → telling_in told ≡ telling taken.requests taken.refusal → IsActed done now told
told_of done now taken told is tells =
    let requests : taken.requests ≡ done.requests ++ done.reply = is.requests ∙ sym (append-nil done.requests) ∙ ap (λ reply. done.requests ++ reply) (sym is.reply) in
    record {
      net = is.net;
      telling = tells ∙ ap (λ text. telling text taken.refusal) requests ∙ ap (telling (done.requests ++ done.reply)) is.refusal;
      silent = is.silent;
    }

pub told_takes : {M N : Type 0} (line : NetLine) (before now : Network) (taken : Result Taken M) (told : Result Told N)
    → TakesEvent line before now taken → IsToldOf taken told → Takes line before now told
told_takes line before now (Ok taken) (Ok told) takes tells = told_of (acted (moment_of before) line false) now taken told takes tells
told_takes line before now (Ok taken) (Err lacks) takes tells = inr takes.net
told_takes line before now (Err lacks) (Ok told) takes tells = absurd tells
told_takes line before now (Err lacks) (Err none) takes tells = takes

pub told_tries : {M N : Type 0} (line : NetLine) (before now : Network) (kernel : Telled) (taken : Result Taken M) (told : Result Told N)
    → TriesEvent line before now kernel taken → IsToldOf taken told → Tries line before now kernel told
told_tries line before now kernel (Ok taken) (Ok told) tries tells = record {
  failed = tries.failed;
  is = told_of (acted (moment_of before) line tries.failed) now taken told tries.is tells;
  requests = tries.requests;
}
told_tries line before now kernel (Ok taken) (Err lacks) tries tells = IsLeft.behind tries.failed tries.is.net tries.requests
told_tries line before now kernel (Err lacks) (Ok told) tries tells = absurd tells
told_tries line before now kernel (Err lacks) (Err none) tries tells = tries

pub told_one : {M N : Type 0} (Asked : NetLine → Type 0) (before now : Network) (taken : Result Taken M) (told : Result Told N)
    → TakesOneEvent Asked before now taken → IsToldOf taken told → TakesOne Asked before now told
told_one Asked before now (Ok taken) (Ok told) (act, requests, alone) tells =
    (act, requests, record { is = told_of (acted (moment_of before) act false) now taken told alone.is tells; none = alone.none })
told_one Asked before now (Ok taken) (Err lacks) (act, requests, alone) tells =
    inr (act, requests, record { is = inr alone.is.net; none = alone.none })
told_one Asked before now (Err lacks) (Ok told) takes tells = absurd tells
told_one Asked before now (Err lacks) (Err none) takes tells = takes
