-- The opening of the plane.
use Rattle.std.proofs.Common.{ℕ, ◌≡◌, ◌⊎◌, inl, inr, List, Some, None, refl, ap, sym, subst, ◌∙◌}
use Rattle.std.specs.Prelude.{Err}
use Rattle.kern_model.specs.declared.kernel.Kernel.{Ghosts as KernelMembers}
use Rattle.kern_model.specs.ObjectOrder.{set_of}
use Rattle.uci_tree.specs.declared.package.Package.{Package}
use Rattle.net_conf.specs.Conf.{conf}
use Rattle.net_conf.specs.Limits.{passed_limit}
use Rattle.net_rules.specs.declared.inputs.Inputs.{Inputs}
use Rattle.net_rules.specs.Moment.{Moment, moment_after, devices_of}
use Rattle.net_settle.specs.Outside.{Outside}
use Rattle.net_start.specs.BringUp.{IsBare}
use Rattle.net_start.proofs.InputLemmas.{none_at_first, nothing_held}
use Rattle.net_plane.specs.declared.net_error.NetError.{NetError}
use Rattle.net_plane.specs.declared.net_error.NetError.TheVariants as error
use Rattle.net_plane.specs.Network.{Network, IsNew, IsOf, HasSameKernel, moment_of}
use Rattle.net_plane.specs.Taken.{IsAfter}
use Rattle.step_net.specs.Acted.{lines_of_requests, requests_after}
use Rattle.step_net.specs.Finished.{IsOpened, IsOpenedInPart}
use Rattle.plane_run.specs.declared.run_end.RunEnd.{RunEnd}
use Rattle.plane_run.specs.declared.run_end.RunEnd.TheVariants as end
use Rattle.plane_run.specs.Opening.{empty_net, loading, loaded_net, opening_requests}
use Rattle.plane_run.specs.Parts.{OpensNet, RowsPass}

-- a new plane is that of a kernel that has nothing
pub new_of : {K : Type 0} (kernel : KernelMembers K) (state : K) (net : Network) → IsBare kernel state
    → IsNew net → IsOf kernel state net
new_of kernel state net bare new = record {
  devices = bare.1 ∙ sym none_at_first ∙ ap devices_of (sym new.inputs);
  objects = bare.0 ∙ sym nothing_held ∙ ap set_of (sym new.held);
}

-- a kernel of the plane before is one of the plane behind
pub same_of : {K : Type 0} (kernel : KernelMembers K) (state : K) (old new : Network)
    → IsOf kernel state old → HasSameKernel old new → IsOf kernel state new
same_of kernel state old new of same = record {
  devices = of.devices ∙ sym same.devices;
  objects = of.objects ∙ ap set_of (sym same.held);
}

empty_is : (net : Network) → IsNew net → moment_of net ≡ empty_net
empty_is net new =
    let held = ap set_of new.held ∙ nothing_held in
    λ i. record { inputs = new.inputs i; held = held i }

-- the lines of what is told of an event that was taken
pub requests_are : (old mid : Network) (network wireless : Package) (lines : List ℕ)
    → IsAfter old (loading network wireless) mid → lines ≡ lines_of_requests mid.inputs.conf mid.notices
    → lines ≡ requests_after old.inputs (loading network wireless)
requests_are old mid network wireless lines after is =
    is
    ∙ ap (λ (m : Moment). lines_of_requests m.inputs.conf mid.notices) after.moment
    ∙ ap (λ told. lines_of_requests (moment_after (moment_of old) (loading network wireless)).inputs.conf told) after.notices

-- an error of loading is a limit that the rows pass, or want of memory
pub load_lacks : (network wireless : Package) (e : NetError) (all : RunEnd)
    → (e ≡ error.Memory) ⊎ ((number : ℕ) × (e ≡ error.Limit number)
    × (passed_limit (conf network wireless) ≡ Some number))
    → ((number : ℕ) → e ≡ error.Limit number → all ≡ end.TooLong number)
    → ((e ≡ error.Memory) → all ≡ end.OutOfMemory) → RowsPass network wireless all
load_lacks network wireless e all (inl memory) limit lacks =
    subst (RowsPass network wireless) (sym (lacks memory)) tt
load_lacks network wireless e all (inr h) limit lacks =
    subst (RowsPass network wireless) (sym (limit h.0 h.1)) h.2

-- the plane settles on the rows
module _ (network wireless : Package) (old mid : Network) (requests : List ℕ) (before after : Outside)
    (fresh : IsNew old)
    (moment : moment_of mid ≡ moment_after (moment_of old) (loading network wireless))
    (told : requests ≡ requests_after old.inputs (loading network wireless))
    (within : passed_limit (conf network wireless) ≡ None) where
  loaded_is : moment_of mid ≡ loaded_net network wireless
  loaded_is = moment ∙ ap (λ m. moment_after m (loading network wireless)) (empty_is old fresh)

  lines_are : requests ≡ opening_requests network wireless
  lines_are = told ∙ ap (λ (inputs : Inputs). requests_after inputs (loading network wireless)) fresh.inputs

  pub opens_whole : (now : Moment) → IsOpened (moment_of mid) now requests before after
      → (passed_limit (conf network wireless) ≡ None)
      × IsOpened (loaded_net network wireless) now (opening_requests network wireless) before after
  opens_whole now opens = (
    within,
    subst (λ m. IsOpened m now (opening_requests network wireless) before after) loaded_is
        (subst (λ t. IsOpened (moment_of mid) now t before after) lines_are opens),
  )

  pub opens_cut : IsOpenedInPart (moment_of mid) requests before after
      → (passed_limit (conf network wireless) ≡ None)
      × IsOpenedInPart (loaded_net network wireless) (opening_requests network wireless) before after
  opens_cut opens = (
    within,
    subst (λ m. IsOpenedInPart m (opening_requests network wireless) before after) loaded_is
        (subst (λ t. IsOpenedInPart (moment_of mid) t before after) lines_are opens),
  )

-- the rows were not loaded
pub net_refuses : (X : Type 0) (network wireless : Package) (now : Moment) (before : Outside)
    (why : RunEnd) → RowsPass network wireless why
    → OpensNet {X = X} network wireless now before before (Err why)
net_refuses X network wireless now before (end.TooLong limit) h = (h, refl)
net_refuses X network wireless now before end.OutOfMemory h = refl
net_refuses X network wireless now before end.Done h = absurd h
net_refuses X network wireless now before end.Refused h = absurd h
net_refuses X network wireless now before end.ReadFailed h = absurd h
net_refuses X network wireless now before end.WriteFailed h = absurd h
net_refuses X network wireless now before end.DiskFailed h = absurd h
net_refuses X network wireless now before (end.KernelFailed left) h = absurd h
net_refuses X network wireless now before (end.Unreadable row_package fault) h = absurd h
net_refuses X network wireless now before (end.BadSnapshot byte) h = absurd h
