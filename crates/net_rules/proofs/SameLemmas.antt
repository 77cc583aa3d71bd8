-- The tests of equal asks tell.
use Rattle.std.proofs.Common.{◌≡◌, ℕ, List, Option, Some, None, refl, ap}
use Rattle.std.specs.Prelude.{◌&&◌, bytes_eq}
use Rattle.std.specs.Bool.{Decides}
use Rattle.std.specs.Cmp.Lexicographic.{pointwise}
use Rattle.std.proofs.lemmas.Slice.Eq.{slice_eq-Decides, bytes_eq-Decides}
use Rattle.kern_model.proofs.TestLemmas.{both, of_both}
use Rattle.uci_tree.specs.declared.package.Opt.{Opt}
use Rattle.uci_tree.specs.declared.package.Value.{Value}
use Rattle.uci_tree.specs.declared.package.Value.TheVariants.{One, Many}
use Rattle.net_rules.specs.declared.request.InterfaceRequest.{InterfaceRequest}
use Rattle.net_rules.specs.declared.request.RadioRequest.{RadioRequest}
use Rattle.net_rules.specs.declared.request.WifiRequest.{WifiRequest}
use Rattle.net_rules.specs.Need.{same_value, same_option, same_options, same_device, same_interface_request, same_radio_request}

values : (a b : Value) → Decides (same_value a b) (a ≡ b)
values (One a) (One b) = (λ h. ap One ((bytes_eq-Decides a b).0 h), λ h. (bytes_eq-Decides a b).1 (cc h))
values (One a) (Many b) = (λ h. cc h, λ h. cc h)
values (Many a) (One b) = (λ h. cc h, λ h. cc h)
values (Many a) (Many b) =
    let lists = slice_eq-Decides bytes_eq-Decides a b (pointwise bytes_eq a b) refl in
    (λ h. ap Many (lists.0 h), λ h. lists.1 (cc h))

options_same : (a b : Opt) → a.name ≡ b.name → a.value ≡ b.value → a ≡ b
options_same a b p q = λ i. record { name = p i; value = q i }

option : (a b : Opt) → Decides (same_option a b) (a ≡ b)
option a b = (
  λ h. let parts = both (bytes_eq a.name b.name) (same_value a.value b.value) h in options_same a b ((bytes_eq-Decides a.name b.name).0 parts.0) ((values a.value b.value).0 parts.1),
  λ h. of_both (bytes_eq a.name b.name) (same_value a.value b.value) ((bytes_eq-Decides a.name b.name).1 (ap (λ o. o.name) h)) ((values a.value b.value).1 (ap (λ o. o.value) h)),
)

options : (xs ys : List Opt) → Decides (same_options xs ys) (xs ≡ ys)
options xs ys = slice_eq-Decides option xs ys (same_options xs ys) refl

wifi : (a b : WifiRequest) → Decides (same_options a.options b.options) (a ≡ b)
wifi a b = (λ h. let same = (options a.options b.options).0 h in λ i. record { options = same i }, λ h. (options a.options b.options).1 (ap (λ w. w.options) h))

device : (a b : Option (List ℕ)) → Decides (same_device a b) (a ≡ b)
device None None = (λ h. refl, λ h. refl)
device None (Some b) = (λ h. cc h, λ h. cc h)
device (Some a) None = (λ h. cc h, λ h. cc h)
device (Some a) (Some b) = (λ h. ap Some ((bytes_eq-Decides a b).0 h), λ h. (bytes_eq-Decides a b).1 (cc h))

pub interface_requests : (a b : InterfaceRequest) → Decides (same_interface_request a b) (a ≡ b)
interface_requests a b = (
  λ h.
      let first = both (bytes_eq a.name b.name) (bytes_eq a.proto b.proto && (same_options a.options b.options && same_device a.device b.device)) h in
      let second = both (bytes_eq a.proto b.proto) (same_options a.options b.options && same_device a.device b.device) first.1 in
      let third = both (same_options a.options b.options) (same_device a.device b.device) second.1 in
      let names = (bytes_eq-Decides a.name b.name).0 first.0 in
      let protos = (bytes_eq-Decides a.proto b.proto).0 second.0 in
      let opts = (options a.options b.options).0 third.0 in
      let devices = (device a.device b.device).0 third.1 in
      λ i. record { name = names i; proto = protos i; options = opts i; device = devices i },
  λ h.
      of_both (bytes_eq a.name b.name) (bytes_eq a.proto b.proto && (same_options a.options b.options && same_device a.device b.device)) ((bytes_eq-Decides a.name b.name).1 (ap (λ x. x.name) h))
      (of_both (bytes_eq a.proto b.proto) (same_options a.options b.options && same_device a.device b.device) ((bytes_eq-Decides a.proto b.proto).1 (ap (λ x. x.proto) h))
      (of_both (same_options a.options b.options) (same_device a.device b.device) ((options a.options b.options).1 (ap (λ x. x.options) h)) ((device a.device b.device).1 (ap (λ x. x.device) h)))),
)

wifi_rows : (xs ys : List WifiRequest) → Decides (pointwise (λ x y. same_options x.options y.options) xs ys) (xs ≡ ys)
wifi_rows xs ys = slice_eq-Decides wifi xs ys (pointwise (λ x y. same_options x.options y.options) xs ys) refl

pub radio_requests : (a b : RadioRequest) → Decides (same_radio_request a b) (a ≡ b)
radio_requests a b = (
  λ h.
      let first = both (bytes_eq a.name b.name) (same_options a.options b.options && pointwise (λ x y. same_options x.options y.options) a.rows b.rows) h in
      let second = both (same_options a.options b.options) (pointwise (λ x y. same_options x.options y.options) a.rows b.rows) first.1 in
      let names = (bytes_eq-Decides a.name b.name).0 first.0 in
      let opts = (options a.options b.options).0 second.0 in
      let rows = (wifi_rows a.rows b.rows).0 second.1 in
      λ i. record { name = names i; options = opts i; rows = rows i },
  λ h.
      of_both (bytes_eq a.name b.name) (same_options a.options b.options && pointwise (λ x y. same_options x.options y.options) a.rows b.rows) ((bytes_eq-Decides a.name b.name).1 (ap (λ x. x.name) h))
      (of_both (same_options a.options b.options) (pointwise (λ x y. same_options x.options y.options) a.rows b.rows) ((options a.options b.options).1 (ap (λ x. x.options) h)) ((wifi_rows a.rows b.rows).1 (ap (λ x. x.rows) h))),
)
