-- Events that are taken or refused, and what is told of them.
use Rattle.std.proofs.Common.{arith, ℕ, ◌≡◌, ◌≤◌, List, [], Option, Some, None, Bool, false, true, inl, inr, refl, ap, sym, subst, ◌∙◌, append-nil}
use Rattle.std.specs.Prelude.{Result, Ok, Err, OnOk, OnErr, IfOk, ◌⊎◌}
use Rattle.kern_model.specs.declared.object.DevEvent.{DevEvent}
use Rattle.kern_model.specs.declared.kernel.Asked.{Asked}
use Rattle.kern_model.specs.declared.kernel.Kernel.{Ghosts as KernelMembers}
use Rattle.kern_model.specs.Kernel.{Records}
use Rattle.kern_model.specs.ObjectOrder.{set_of}
use Rattle.uci_tree.specs.declared.package.Package.{Package}
use Rattle.net_conf.specs.Conf.{conf}
use Rattle.net_conf.specs.Limits.{passed_limit}
use Rattle.net_rules.specs.declared.event.Event.{Event}
use Rattle.net_rules.specs.declared.event.Event.TheVariants as event
use Rattle.net_rules.specs.declared.refusal.Refusal.{Refusal}
use Rattle.net_rules.specs.declared.refusal.Refusal.TheVariants as why
use Rattle.net_rules.specs.Moment.{Moment, moment_after, devices_of}
use Rattle.net_rules.specs.Refusal.{refusal}
use Rattle.net_plane.specs.declared.net_error.NetError.{NetError}
use Rattle.net_plane.specs.declared.net_error.NetError.TheVariants as net_error
use Rattle.net_plane.specs.NetError as plane
use Rattle.net_plane.specs.Network.{Network, moment_of, IsOf, HasSameKernel}
use Rattle.net_plane.specs.Taken.{IsAfter, Answers, AnswersOrFails, TellsOnce}
use Rattle.script_lines.specs.declared.line_error.LineError.{LineError}
use Rattle.step_net.specs.declared.taken.Taken.{Taken}
use Rattle.step_net.specs.NetLine.{NetLine, load_within}
use Rattle.step_net.specs.Acted.{Acted, acted, error_of, took, took_free, took_or_refused, refused_for, failed_at, lines_of_requests}
use Rattle.step_net.specs.Told.{line_error}
use Rattle.step_net.specs.Taken.{IsNoted, IsTakenAs, TakesEvent, TriesEvent, Telled, Asks, IsLeft, asking, refused_as, IsRefusedFor, Ends}
use Rattle.step_net.proofs.GrowthLemmas.{records_none}

-- where the kernel does not fail, an event that nothing refuses is taken
free_is_taken : (net : Moment) (what : Event) → took_free net what false ≡ took net what
free_is_taken net (event.Load rows) = refl
free_is_taken net (event.Device what) = refl
free_is_taken net (event.Operator interface up) = refl
free_is_taken net (event.Answer interface number answer) = refl
free_is_taken net (event.Radio radio number ports) = refl

-- a refusal is told as the plane tells it
told_alike : (reason : Refusal) → line_error (plane.error_of reason) ≡ Some (error_of reason)
told_alike why.NoInterface = refl
told_alike why.NoRadio = refl
told_alike (why.Stale given current) = refl
told_alike why.NoDevice = refl
told_alike why.Known = refl
told_alike (why.WrongPorts wanted) = refl
told_alike (why.Limit number) = refl

-- at a refused event the kernel is asked nothing
not_asked : (X : Type 0) (what : DevEvent) (before now : Option (List Asked)) (reason : Refusal)
    → TellsOnce {X = X} what before now (Err (plane.error_of reason)) → now ≡ before
not_asked X what before now why.NoInterface h = h
not_asked X what before now why.NoRadio h = h
not_asked X what before now (why.Stale given current) h = h
not_asked X what before now why.NoDevice h = h
not_asked X what before now why.Known h = h
not_asked X what before now (why.WrongPorts wanted) h = h
not_asked X what before now (why.Limit number) h = h

-- the inputs and what is held make the moment
pub same_moment : (mid new : Network) → new.inputs ≡ mid.inputs → new.held ≡ mid.held
    → moment_of new ≡ moment_of mid
same_moment mid new p q i = record { inputs = p i; held = set_of (q i) }

-- the event was taken, and what is to be told of requests is kept
module _ (what : Event) (old mid new : Network) (after : IsAfter old what mid)
    (inputs : new.inputs ≡ mid.inputs) (held : new.held ≡ mid.held) where
  abbrev net : Moment
  net = moment_of old

  pub taken_net : moment_of new ≡ (took net what).net
  taken_net = same_moment mid new inputs held ∙ after.moment

  pub taken_noted : (taken : Taken)
      → taken ≡ asking (lines_of_requests mid.inputs.conf mid.notices) → new.notices ≡ []
      → IsNoted (took net what) new taken
  taken_noted taken is silent = record {
    net = taken_net;
    requests = ap (λ (t : Taken). t.requests) is
        ∙ ap (λ (m : Moment). lines_of_requests m.inputs.conf mid.notices) after.moment
        ∙ ap (λ told. lines_of_requests (moment_after net what).inputs.conf told) after.notices;
    refusal = ap (λ (t : Taken). t.refusal) is;
    reply = refl;
    silent = silent;
  }

-- the event was refused, and its error is kept
pub refused_noted : (old new : Network) (e : LineError) (taken : Taken) → new ≡ old
    → old.notices ≡ [] → taken ≡ refused_as e
    → IsNoted (refused_for (moment_of old) e) new taken
refused_noted old new e taken same silent is = record {
  net = ap moment_of same;
  requests = ap (λ (t : Taken). t.requests) is;
  refusal = ap (λ (t : Taken). t.refusal) is;
  reply = refl;
  silent = ap (λ (n : Network). n.notices) same ∙ silent;
}

refused_acted : (old new : Network) (reason : Refusal) (told : Taken) → new ≡ old
    → old.notices ≡ [] → IsRefusedFor (line_error (plane.error_of reason)) told
    → IsNoted (refused_for (moment_of old) (error_of reason)) new told
refused_acted old new reason told same silent tells =
    refused_noted old new (error_of reason) told same silent
    (subst (λ e. IsRefusedFor e told) (told_alike reason) tells)

-- an event at which the kernel cannot fail
takes_by : {X M : Type 0} (what : Event) (o : Option Refusal) (old mid new : Network)
    (ended : Result X NetError) (result : Result Taken M)
    → OnOk ended (o ≡ None) → OnOk ended (IsAfter old what mid) → Answers o ended
    → OnErr ended (mid ≡ old) → old.notices ≡ [] → Ends ended mid new result
    → new.inputs ≡ mid.inputs → new.held ≡ mid.held → (line : NetLine)
    → acted (moment_of old) line false ≡ took_or_refused (moment_of old) what false o
    → TakesEvent line old new result
takes_by what None old mid new (Ok x) (Ok told) free after answers err silent ends inputs held line is =
    subst (λ done. IsNoted done new told) (sym (is ∙ free_is_taken (moment_of old) what))
    (taken_noted what old mid new after inputs held told ends.0 ends.1)
takes_by what None old mid new (Ok x) (Err lacks) free after answers err silent ends inputs held line is =
    inr (taken_net what old mid new after inputs held
    ∙ ap (λ (done : Acted). done.net) (sym (is ∙ free_is_taken (moment_of old) what)))
takes_by what (Some reason) old mid new (Ok x) result free after answers err silent ends inputs held line is =
    absurd (cc free)
takes_by what None old mid new (Err e) (Ok told) free after answers err silent ends inputs held line is =
    absurd (subst (λ e. IsRefusedFor (line_error e) told) answers ends.0)
takes_by what (Some reason) old mid new (Err e) (Ok told) free after answers err silent ends inputs held line is =
    let same : e ≡ plane.error_of reason = cc answers in
    subst (λ done. IsNoted done new told) (sym is)
    (refused_acted old new reason told (ends.1 ∙ err) silent
    (subst (λ e. IsRefusedFor (line_error e) told) same ends.0))
takes_by what o old mid new (Err e) (Err lacks) free after answers err silent ends inputs held line is =
    inl (ends ∙ err)

pub takes : {X M : Type 0} (what : Event) (old mid new : Network) (ended : Result X NetError)
    (result : Result Taken M) → OnOk ended (IsAfter old what mid)
    → Answers (refusal (moment_of old) what) ended → OnErr ended (mid ≡ old) → old.notices ≡ []
    → Ends ended mid new result → new.inputs ≡ mid.inputs → new.held ≡ mid.held
    → TakesEvent (NetLine.happens what) old new result
takes what old mid new (Ok x) result after answers err silent ends inputs held =
    takes_by what (refusal (moment_of old) what) old mid new (Ok x) result after.free after answers
    err silent ends inputs held (NetLine.happens what) refl
takes what old mid new (Err e) result after answers err silent ends inputs held =
    takes_by what (refusal (moment_of old) what) old mid new (Err e) result after after answers
    err silent ends inputs held (NetLine.happens what) refl

-- rows that are loaded, or of which a list is too long
loads_by : {X M : Type 0} (network wireless : Package) (p : Option ℕ) (old mid new : Network)
    (ended : Result X NetError) (result : Result Taken M)
    → OnOk ended (IsAfter old (event.Load (conf network wireless)) mid) → OnOk ended (p ≡ None)
    → ((e : NetError) → ended ≡ Err e → (e ≡ net_error.Memory)
    ⊎ ((number : ℕ) × (e ≡ net_error.Limit number) × (p ≡ Some number)))
    → OnErr ended (mid ≡ old) → old.notices ≡ [] → Ends ended mid new result
    → new.inputs ≡ mid.inputs → new.held ≡ mid.held
    → TakesEvent (load_within network wireless p) old new result
loads_by network wireless None old mid new (Ok x) result after free reason err silent ends inputs held =
    takes (event.Load (conf network wireless)) old mid new (Ok x) result after tt err silent ends
    inputs held
loads_by network wireless (Some number) old mid new (Ok x) result after free reason err silent ends inputs held =
    absurd (cc free)
loads_by network wireless p old mid new (Err e) (Err lacks) after free reason err silent ends inputs held =
    inl (ends ∙ err)
loads_by {X} {M} network wireless p old mid new (Err e) (Ok told) after free reason err silent ends inputs held =
    elim (reason e refl) as (λ _. TakesEvent {M = M} (load_within network wireless p) old new (Ok told)) [
      | inl memory ↦ absurd (subst (λ e. IsRefusedFor (line_error e) told) memory ends.0)
      | inr limit ↦ subst (λ p. TakesEvent {M = M} (load_within network wireless p) old new (Ok told))
          (sym limit.2)
          (refused_acted old new (why.Limit limit.0) told (ends.1 ∙ err) silent
          (subst (λ e. IsRefusedFor (line_error e) told) limit.1 ends.0))
    ]

pub loads : {X M : Type 0} (network wireless : Package) (old mid new : Network)
    (ended : Result X NetError) (result : Result Taken M)
    → OnOk ended (IsAfter old (event.Load (conf network wireless)) mid)
    → OnOk ended (passed_limit (conf network wireless) ≡ None)
    → ((e : NetError) → ended ≡ Err e → (e ≡ net_error.Memory) ⊎ ((number : ℕ)
    × (e ≡ net_error.Limit number) × (passed_limit (conf network wireless) ≡ Some number)))
    → OnErr ended (mid ≡ old) → old.notices ≡ [] → Ends ended mid new result
    → new.inputs ≡ mid.inputs → new.held ≡ mid.held
    → TakesEvent (load_within network wireless (passed_limit (conf network wireless))) old new result
loads network wireless = loads_by network wireless (passed_limit (conf network wireless))

-- what happens to a device, at which the kernel may fail
module _ (what : DevEvent) (old mid new : Network) (kernel : Telled)
    (later : kernel.faults ≤ kernel.faults_now) (silent : old.notices ≡ [])
    (inputs : new.inputs ≡ mid.inputs) (held : new.held ≡ mid.held) where
  abbrev line : NetLine
  line = NetLine.happens (event.Device what)

  abbrev done : Bool → Option Refusal → Acted
  done failed o = took_or_refused (moment_of old) (event.Device what) failed o

  asked_nothing : kernel.asked_now ≡ kernel.asked → Asks [] false kernel
  asked_nothing same = record {
    asked = subst (λ now. Records kernel.asked now []) (sym same) (records_none kernel.asked);
    cause = omega arith;
  }

  taken_by : (o : Option Refusal) → ((b : Bool) → acted (moment_of old) line b ≡ done b o)
      → (b : Bool) (told : Taken) → IsNoted (done b o) new told → Asks (done b o).asked b kernel
      → IsTakenAs IsNoted line old new kernel told
  taken_by o is b told acts requests = record {
    failed = b;
    is = subst (λ d. IsNoted d new told) (sym (is b)) acts;
    requests = subst (λ (d : Acted). Asks d.asked b kernel) (sym (is b)) requests;
  }

  left_by : (o : Option Refusal) → ((b : Bool) → acted (moment_of old) line b ≡ done b o)
      → (b : Bool) → moment_of new ≡ (done b o).net → Asks (done b o).asked b kernel
      → IsLeft line old new kernel
  left_by o is b net requests = IsLeft.behind b
      (net ∙ ap (λ (d : Acted). d.net) (sym (is b)))
      (subst (λ (d : Acted). Asks d.asked b kernel) (sym (is b)) requests)

  failed_acted : (told : Taken) → new ≡ old
      → IsRefusedFor (line_error net_error.KernelFailed) told
      → IsNoted (failed_at (moment_of old) what) new told
  failed_acted told same tells = record {
    net = ap moment_of same;
    requests = ap (λ (t : Taken). t.requests) tells;
    refusal = ap (λ (t : Taken). t.refusal) tells;
    reply = refl;
    silent = ap (λ (n : Network). n.notices) same ∙ silent;
  }

  tries_by : {X M : Type 0} (o : Option Refusal)
      → ((b : Bool) → acted (moment_of old) line b ≡ done b o) → (ended : Result X NetError)
      (result : Result Taken M) → OnOk ended (o ≡ None) → OnOk ended (IsAfter old (event.Device what) mid)
      → AnswersOrFails o kernel.faults kernel.faults_now ended → OnErr ended (mid ≡ old)
      → TellsOnce what kernel.asked kernel.asked_now ended → Ends ended mid new result
      → TriesEvent line old new kernel result
  tries_by {X} {M} None is (Ok x) (Ok told) free after answers err tells ends =
      taken_by None is false told
      (taken_noted (event.Device what) old mid new after inputs held told ends.0 ends.1)
      (record { asked = tells; cause = omega arith })
  tries_by {X} {M} None is (Ok x) (Err lacks) free after answers err tells ends =
      left_by None is false (taken_net (event.Device what) old mid new after inputs held)
      (record { asked = tells; cause = omega arith })
  tries_by {X} {M} (Some reason) is (Ok x) result free after answers err tells ends = absurd (cc free)
  tries_by {X} {M} (Some reason) is (Err e) (Ok told) free after answers err tells ends =
      let same : e ≡ plane.error_of reason = cc answers in
      taken_by (Some reason) is false told
      (refused_acted old new reason told (ends.1 ∙ err) silent
      (subst (λ e. IsRefusedFor (line_error e) told) same ends.0))
      (asked_nothing (not_asked X what kernel.asked kernel.asked_now reason
      (subst (λ e. TellsOnce {X = X} what kernel.asked kernel.asked_now (Err e)) same tells)))
  tries_by {X} {M} (Some reason) is (Err e) (Err lacks) free after answers err tells ends =
      let same : e ≡ plane.error_of reason = cc answers in
      IsLeft.in_front (ends ∙ err) (asked_nothing (not_asked X what kernel.asked kernel.asked_now reason
      (subst (λ e. TellsOnce {X = X} what kernel.asked kernel.asked_now (Err e)) same tells)))
  tries_by {X} {M} None is (Err e) (Ok told) free after (inl memory) err tells ends =
      absurd (subst (λ e. IsRefusedFor (line_error e) told) memory ends.0)
  tries_by {X} {M} None is (Err e) (Ok told) free after (inr failed) err tells ends =
      let rose = failed.1 in
      taken_by None is true told
      (failed_acted told (ends.1 ∙ err) (subst (λ e. IsRefusedFor (line_error e) told) failed.0 ends.0))
      (record {
        asked = subst (λ e. TellsOnce {X = X} what kernel.asked kernel.asked_now (Err e)) failed.0 tells;
        cause = omega arith;
      })
  tries_by {X} {M} None is (Err e) (Err lacks) free after (inl memory) err tells ends =
      IsLeft.in_front (ends ∙ err)
      (asked_nothing (subst (λ e. TellsOnce {X = X} what kernel.asked kernel.asked_now (Err e)) memory tells))
  tries_by {X} {M} None is (Err e) (Err lacks) free after (inr failed) err tells ends =
      let rose = failed.1 in
      left_by None is true (ap moment_of (ends ∙ err))
      (record {
        asked = subst (λ e. TellsOnce {X = X} what kernel.asked kernel.asked_now (Err e)) failed.0 tells;
        cause = omega arith;
      })

  pub tries : {X M : Type 0} (ended : Result X NetError) (result : Result Taken M)
      → OnOk ended (IsAfter old (event.Device what) mid)
      → AnswersOrFails (refusal (moment_of old) (event.Device what)) kernel.faults kernel.faults_now ended
      → OnErr ended (mid ≡ old) → TellsOnce what kernel.asked kernel.asked_now ended
      → Ends ended mid new result → TriesEvent line old new kernel result
  tries (Ok x) result after answers err tells ends =
      tries_by (refusal (moment_of old) (event.Device what)) (λ b. refl) (Ok x) result after.free
      after answers err tells ends
  tries (Err e) result after answers err tells ends =
      tries_by (refusal (moment_of old) (event.Device what)) (λ b. refl) (Err e) result after
      after answers err tells ends

-- how an event ended is told, by how it ended
pub ends_taken : {X M : Type 0} (ended : Result X NetError) (x : X) (mid new : Network)
    (result : Result Taken M) → ended ≡ Ok x
    → IfOk result (λ told. told ≡ asking (lines_of_requests mid.inputs.conf mid.notices))
    → OnOk result (new.notices ≡ []) → Ends ended mid new result
ends_taken {X} {M} ended x mid new (Ok told) is tells silent =
    subst (λ e. Ends {M = M} e mid new (Ok told)) (sym is) (tells, silent)
ends_taken {X} {M} ended x mid new (Err lacks) is tells silent =
    subst (λ e. Ends {M = M} e mid new (Err lacks)) (sym is) tt

pub ends_refused : {X M : Type 0} (ended : Result X NetError) (e : NetError) (mid : Network)
    (result : Result Taken M) → ended ≡ Err e → IfOk result (IsRefusedFor (line_error e))
    → Ends ended mid mid result
ends_refused {X} {M} ended e mid (Ok told) is tells =
    subst (λ e. Ends {M = M} e mid mid (Ok told)) (sym is) (tells, refl)
ends_refused {X} {M} ended e mid (Err lacks) is tells =
    subst (λ e. Ends {M = M} e mid mid (Err lacks)) (sym is) refl

-- the kernel of the plane stays that of the plane, where inputs and what is held stay
pub same_kernel : (old mid new : Network) → HasSameKernel old mid → new.inputs ≡ mid.inputs
    → new.held ≡ mid.held → HasSameKernel old new
same_kernel old mid new same inputs held =
    record { devices = ap devices_of inputs ∙ same.devices; held = held ∙ same.held }

pub still_of : {K : Type 0} (kernel : KernelMembers K) (state : K) (mid new : Network)
    → IsOf kernel state mid → new.inputs ≡ mid.inputs → new.held ≡ mid.held → IsOf kernel state new
still_of kernel state mid new of inputs held = record {
  devices = of.devices ∙ sym (ap devices_of inputs);
  objects = of.objects ∙ sym (ap set_of held);
}
