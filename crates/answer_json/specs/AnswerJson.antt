-- What the handler of a protocol tells of an interface, as JSON. Other members are passed over.
use Rattle.std.specs.Prelude.{ℕ, ◌≡◌, ◌<◌, ◌^◌, List, [], codes, Option, Some, true}
use Rattle.serde_json.specs.Data.{Data, boolean, number, unsigned, string}
use Rattle.serde_json.specs.Find.{get}
use Rattle.kern_model.specs.Name.{is_name}
use Rattle.net_addr.specs.declared.address.Addr.{Addr}
use Rattle.net_addr.specs.Spelling.{Spells}
use Rattle.net_addr.specs.CidrSpelling.{SpellsCidr}
use Rattle.net_rules.specs.declared.answer.Answer.{Answer}
use Rattle.net_rules.specs.declared.answer.AnswerRoute.{AnswerRoute}
use Rattle.answer_json.specs.Members.{IsOptional, IsOr, IsArray}

-- a text that is the name of a device
pub record IsDevice (value : Data) (name : List ℕ) : Type 0 where
  pub text : value ≡ string name
  pub is : is_name name ≡ true

-- a text that spells an address
pub record IsAddress (value : Data) (address : Addr) : Type 0 where
  pub letters : List ℕ
  pub text : value ≡ string letters
  pub is : Spells letters address

-- a text that spells an address and the length of its network
pub record IsPrefix (value : Data) (prefix : Addr × ℕ) : Type 0 where
  pub letters : List ℕ
  pub text : value ≡ string letters
  pub is : SpellsCidr letters prefix

-- a whole number of 32 bits
pub record IsMetric (value : Data) (metric : ℕ) : Type 0 where
  pub is : value ≡ number (unsigned metric)
  pub short : metric < 2 ^ 32

-- an object with the route's members; a metric that is absent is 0
pub record IsRoute (value : Data) (route : AnswerRoute) : Type 0 where
  pub member : Data
  pub there : get (codes "target") value ≡ Some member
  pub target : IsPrefix member route.target
  pub via : IsOptional IsAddress (get (codes "gateway") value) route.via
  pub metric : IsOr IsMetric 0 (get (codes "metric") value) route.metric

-- an object with the answer's members; lists that are absent are empty
pub record IsAnswer (value : Data) (answer : Answer) : Type 0 where
  pub up : get (codes "up") value ≡ Some (boolean answer.up)
  pub device : IsOptional IsDevice (get (codes "device") value) answer.device
  pub addresses : IsOr (IsArray IsPrefix) [] (get (codes "addresses") value) answer.addresses
  pub routes : IsOr (IsArray IsRoute) [] (get (codes "routes") value) answer.routes
