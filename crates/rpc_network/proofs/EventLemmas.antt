-- Calls that are answered by what their events came to.
use Rattle.std.proofs.Common.{ℕ, ◌≡◌, [], Bool, false, Option, Some, None, refl, ap, sym, subst, ◌∙◌}
use Rattle.std.specs.Prelude.{Result, Ok, Err}
use Rattle.uci_tree.specs.declared.package.Package.{Package}
use Rattle.net_conf.specs.Conf.{conf}
use Rattle.net_conf.specs.Limits.{passed_limit}
use Rattle.uci_tool.specs.Folder.{Folder}
use Rattle.net_rules.specs.Moment.{Moment}
use Rattle.net_plane.specs.Network.{Network, moment_of}
use Rattle.step_net.specs.declared.taken.Taken.{Taken}
use Rattle.step_net.specs.NetLine.{NetLine, load_within}
use Rattle.step_net.specs.Acted.{Acted, acted}
use Rattle.step_net.specs.Taken.{IsNoted, TakesEvent, TriesEvent, Telled, Asks, IsLeft}
use Rattle.step_net.specs.Reload.{ReloadAsks}
use Rattle.rpc_network.specs.declared.net_answer.NetAnswer.{NetAnswer}
use Rattle.rpc_network.specs.Answered.{Answered, answered, of_acted, ended}
use Rattle.rpc_network.specs.Told.{IsAnswered, IsTaken, Tries, IsAnswerTo}

-- what was kept of an event is answered
answered_by : (done : Acted) (now : Network) (taken : Taken) (told : NetAnswer) → IsNoted done now taken
    → told ≡ record { requests = taken.requests; answer = ended taken.refusal } → IsAnswered (of_acted done) now told
answered_by done now taken told is tells = record {
  net = is.net;
  requests = ap (λ (t : NetAnswer). t.requests) tells ∙ is.requests;
  answer = ap (λ (t : NetAnswer). t.answer) tells ∙ ap ended is.refusal;
  silent = is.silent;
}

-- a call that means the line is answered by what that line does
abbrev pub AnswersAlike : Moment → NetLine → Type 0
AnswersAlike net line = (b : Bool) → answered net line b ≡ of_acted (acted net line b)

pub answer_tries : {M N : Type 0} (line : NetLine) (before now : Network) (kernel : Telled) (taken : Result Taken M)
    (told : Result NetAnswer N) → AnswersAlike (moment_of before) line → TriesEvent line before now kernel taken
    → IsAnswerTo taken told → Tries line before now kernel told
answer_tries line before now kernel (Ok taken) (Ok told) alike tries tells = record {
  failed = tries.failed;
  is = subst (λ done. IsAnswered done now told) (sym (alike tries.failed))
      (answered_by (acted (moment_of before) line tries.failed) now taken told tries.is tells);
  requests = subst (λ (done : Answered). Asks done.asked tries.failed kernel) (sym (alike tries.failed)) tries.requests;
}
answer_tries line before now kernel (Ok taken) (Err lacks) alike tries tells = absurd tells
answer_tries line before now kernel (Err lacks) (Ok told) alike tries tells = absurd tells
answer_tries line before now kernel (Err lacks) (Err none) alike tries tells = tries

load_alike : (net : Moment) (network wireless : Package) (p : Option ℕ) → AnswersAlike net (load_within network wireless p)
load_alike net network wireless None b = refl
load_alike net network wireless (Some number) b = refl

pub reload_alike : (net : Moment) (folder : Folder) (act : NetLine) → ReloadAsks folder act → AnswersAlike net act
reload_alike net folder act (ReloadAsks.loaded network wireless found there) =
    load_alike net network wireless (passed_limit (conf network wireless))
reload_alike net folder act (ReloadAsks.no_network fault refused) = λ b. refl
reload_alike net folder act (ReloadAsks.no_wireless network found fault refused) = λ b. refl
