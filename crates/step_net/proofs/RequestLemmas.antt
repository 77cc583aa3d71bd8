-- Events at which the kernel is asked nothing.
use Rattle.std.proofs.Common.{List, arith, ℕ, ◌≡◌, [], Option, Some, None, false, refl}
use Rattle.uci_tree.specs.declared.package.Package.{Package}
use Rattle.net_conf.specs.Conf.{conf}
use Rattle.net_conf.specs.Limits.{passed_limit}
use Rattle.net_rules.specs.declared.event.Event.{Event}
use Rattle.net_rules.specs.declared.event.Event.TheVariants as event
use Rattle.net_rules.specs.declared.refusal.Refusal.{Refusal}
use Rattle.net_rules.specs.Refusal.{refusal}
use Rattle.net_rules.specs.Moment.{Moment}
use Rattle.net_plane.specs.Taken.{IsOfNoDevice}
use Rattle.step_net.specs.NetLine.{NetLine, load_within, load_line}
use Rattle.step_net.specs.Acted.{acted, took_or_refused, shown_or, named_device}
use Rattle.step_net.specs.Taken.{Asks}
use Rattle.step_net.proofs.GrowthLemmas.{records_none}
use Rattle.serde_json.specs.Data.{Data}
use Rattle.kern_model.specs.declared.kernel.Asked.{Asked}
use Rattle.net_status.specs.Interfaces.{interface_status}
use Rattle.net_status.specs.Radios.{radio_status}
use Rattle.script_lines.specs.declared.line_error.LineError.{LineError}
use Rattle.script_lines.specs.declared.line_error.LineError.TheVariants as error

-- at an event of no device it is asked nothing
event_requests : (net : Moment) (what : Event) (o : Option Refusal) → IsOfNoDevice what
    → (took_or_refused net what false o).asked ≡ []
event_requests net what (Some reason) h = refl
event_requests net (event.Load rows) None h = refl
event_requests net (event.Operator interface up) None h = refl
event_requests net (event.Answer interface number answer) None h = refl
event_requests net (event.Radio radio number ports) None h = refl
event_requests net (event.Device what) None h = absurd h

pub happening_requests : (net : Moment) (what : Event) → IsOfNoDevice what
    → (acted net (NetLine.happens what) false).asked ≡ []
happening_requests net what = event_requests net what (refusal net what)

loading_requests : (net : Moment) (network wireless : Package) (p : Option ℕ)
    → (acted net (load_within network wireless p) false).asked ≡ []
loading_requests net network wireless None =
    happening_requests net (event.Load (conf network wireless)) tt
loading_requests net network wireless (Some number) = refl

pub load_requests : (net : Moment) (network wireless : Package)
    → (acted net (load_line network wireless) false).asked ≡ []
load_requests net network wireless =
    loading_requests net network wireless (passed_limit (conf network wireless))

-- the kernel was asked nothing
pub asks_nothing : (asked : Option (List Asked)) (faults : ℕ) → Asks [] false
    (record { asked = asked; asked_now = asked; faults = faults; faults_now = faults })
asks_nothing asked faults = record { asked = records_none asked; cause = omega arith }

shown_requests : (net : Moment) (absent : LineError) (o : Option Data)
    → (shown_or net absent o).asked ≡ []
shown_requests net absent None = refl
shown_requests net absent (Some value) = refl

shown_stays : (net : Moment) (absent : LineError) (o : Option Data) → net ≡ (shown_or net absent o).net
shown_stays net absent None = refl
shown_stays net absent (Some value) = refl

pub interface_requests : (net : Moment) (name : List ℕ)
    → (acted net (NetLine.interface name) false).asked ≡ []
interface_requests net name = shown_requests net error.NoInterface (interface_status net.inputs name)

pub interface_stays : (net : Moment) (name : List ℕ)
    → net ≡ (acted net (NetLine.interface name) false).net
interface_stays net name = shown_stays net error.NoInterface (interface_status net.inputs name)

pub device_requests : (net : Moment) (name : List ℕ) → (acted net (NetLine.device name) false).asked ≡ []
device_requests net name = shown_requests net error.NoDevice (named_device net.inputs name)

pub device_stays : (net : Moment) (name : List ℕ) → net ≡ (acted net (NetLine.device name) false).net
device_stays net name = shown_stays net error.NoDevice (named_device net.inputs name)

pub radio_requests : (net : Moment) (name : List ℕ) → (acted net (NetLine.radio name) false).asked ≡ []
radio_requests net name = shown_requests net error.NoRadio (radio_status net.inputs name)

pub radio_stays : (net : Moment) (name : List ℕ) → net ≡ (acted net (NetLine.radio name) false).net
radio_stays net name = shown_stays net error.NoRadio (radio_status net.inputs name)
