-- What is shown, or told to be absent.
use Rattle.std.proofs.Common.{◌≡◌, Option, Some, None, false, inl, inr, ap, sym, subst, ◌∙◌}
use Rattle.std.specs.Prelude.{Result, Ok, Err, IfOk, ◌⊎◌}
use Rattle.serde_json.specs.Data.{Data}
use Rattle.net_plane.specs.declared.net_error.NetError.{NetError}
use Rattle.net_plane.specs.declared.net_error.NetError.TheVariants as net_error
use Rattle.net_plane.specs.Network.{Network, moment_of}
use Rattle.script_lines.specs.declared.call_status.CallStatus.TheVariants as status
use Rattle.step_net.specs.NetLine.{NetLine}
use Rattle.rpc_network.specs.declared.net_answer.NetAnswer.{NetAnswer}
use Rattle.rpc_network.specs.Answered.{Answered, answered, showing, status_of_net}
use Rattle.rpc_network.specs.Told.{TellsStatus, TellsError, ShowsValue, IsShown, Shows}

-- the value is shown
pub shows : {M : Type 0} (line : NetLine) (now : Network) (o : Option Data) (result : Result NetAnswer M) (d : Data)
    → answered (moment_of now) line false ≡ showing (moment_of now) o → Some d ≡ o
    → IfOk result (ShowsValue d) → Shows line now result
shows line now o (Ok told) d is found tells =
    let same : answered (moment_of now) line false ≡ showing (moment_of now) (Some d) = is ∙ ap (showing (moment_of now)) (sym found) in
    record {
      requests = tells.requests ∙ ap (λ (a : Answered). a.requests) (sym same);
      answer = tells.answer ∙ ap (λ (a : Answered). a.answer) (sym same);
    }
shows line now o (Err lacks) d is found tells = tt

-- there is nothing to show
pub shows_none : {M : Type 0} (line : NetLine) (now : Network) (o : Option Data) (result : Result NetAnswer M) (e missing : NetError)
    → answered (moment_of now) line false ≡ showing (moment_of now) o
    → status_of_net missing ≡ Some status.NotFound
    → (e ≡ net_error.Memory) ⊎ ((e ≡ missing) × (o ≡ None)) → IfOk result (TellsError e)
    → Shows line now result
shows_none line now o (Ok told) e missing is alike (inl memory) tells =
    absurd (subst (λ e. TellsError e told) memory tells)
shows_none line now o (Ok told) e missing is alike (inr none) tells =
    told_none (subst (λ e. TellsError e told) none.0 tells) (is ∙ ap (showing (moment_of now)) none.1)
  where
    told_none : TellsError missing told → answered (moment_of now) line false ≡ showing (moment_of now) None → IsShown (answered (moment_of now) line false) told
    told_none tells same = let is = subst (λ s. TellsStatus s told) alike tells in record {
      requests = ap (λ (t : NetAnswer). t.requests) is ∙ ap (λ (a : Answered). a.requests) (sym same);
      answer = ap (λ (t : NetAnswer). t.answer) is ∙ ap (λ (a : Answered). a.answer) (sym same);
    }
shows_none line now o (Err lacks) e missing is alike why tells = tt
