-- For a ground a line means one thing.
use Rattle.std.proofs.Common.{arith, ℕ, ◌≡◌, List, Option, Some, None, refl, ap, sym, subst, ◌∙◌}
use Rattle.serde_json.specs.Data.{Data}
use Rattle.uci_tree.specs.declared.package.Package.{Package}
use Rattle.uci_tree.specs.declared.tree_error.TreeError.{TreeError}
use Rattle.uci_tree.specs.Reading.{Reads, HasTreeFault}
use Rattle.uci_store.specs.Store.{name_of, text_of}
use Rattle.net_rules.specs.declared.answer.Answer.{Answer}
use Rattle.net_rules.specs.declared.event.Event.TheVariants as event
use Rattle.script_lines.specs.declared.script_line.ScriptLine.{ScriptLine}
use Rattle.script_lines.specs.declared.script_line.ScriptLine.TheVariants as line
use Rattle.answer_json.specs.AnswerJson.{IsAnswer}
use Rattle.answer_json.specs.PortsJson.{ArePorts}
use Rattle.step_net.specs.NetLine.{NetLine, load_line}
use Rattle.uci_tree.specs.declared.fault.Fault.{Fault}
use Rattle.uci_tool.specs.Folder.{Folder}
use Rattle.plane_step.specs.Ground.{Ground}
use Rattle.plane_step.specs.FilesMoved.{folder_at}
use Rattle.step_net.specs.Loaded.{network_name, wireless_name, IsLoaded, DoesNotLoad}
use Rattle.plane_step.specs.Means.{Means, AnswerAsks, RadioRequests, AtAsks}
use Rattle.step_net.specs.Reload.{ReloadAsks}
use Rattle.plane_step.proofs.ReadingLemmas.{one_ports}

module _ (one_answer : (value : Data) (a b : Answer) → IsAnswer value a → IsAnswer value b → a ≡ b)
    (one_package : (name text : List ℕ) (tree other : Package) → Reads name text tree → Reads name text other → other ≡ tree)
    (not_both : (name text : List ℕ) (error : TreeError) (tree : Package) → HasTreeFault text error → Reads name text tree → ⊥) where
  one_answer_act : (number : ℕ) (interface : List ℕ) (request : ℕ) (json : List ℕ) (a b : NetLine)
      → AnswerAsks number interface request json a → AnswerAsks number interface request json b → a ≡ b
  one_answer_act number interface request json _ _ (AnswerAsks.answer v x e p) (AnswerAsks.answer w y f q) =
      let same : v ≡ w = cc (e, f) in
      ap (λ x. NetLine.happens (event.Answer interface request x))
      (one_answer w x y (subst (λ v. IsAnswer v x) same p) q)
  one_answer_act number interface request json _ _ (AnswerAsks.answer v x e p) (AnswerAsks.no_json f) = absurd (cc (e, f))
  one_answer_act number interface request json _ _ (AnswerAsks.answer v x e p) (AnswerAsks.no_answer w f none) =
      let same : v ≡ w = cc (e, f) in absurd (none x (subst (λ v. IsAnswer v x) same p))
  one_answer_act number interface request json _ _ (AnswerAsks.no_json e) (AnswerAsks.answer w y f q) = absurd (cc (e, f))
  one_answer_act number interface request json _ _ (AnswerAsks.no_json e) (AnswerAsks.no_json f) = refl
  one_answer_act number interface request json _ _ (AnswerAsks.no_json e) (AnswerAsks.no_answer w f none) = refl
  one_answer_act number interface request json _ _ (AnswerAsks.no_answer v e none) (AnswerAsks.answer w y f q) =
      let same : w ≡ v = cc (e, f) in absurd (none y (subst (λ w. IsAnswer w y) same q))
  one_answer_act number interface request json _ _ (AnswerAsks.no_answer v e none) (AnswerAsks.no_json f) = refl
  one_answer_act number interface request json _ _ (AnswerAsks.no_answer v e none) (AnswerAsks.no_answer w f never) = refl

  one_radio_act : (number : ℕ) (radio : List ℕ) (request : ℕ) (json : List ℕ) (a b : NetLine)
      → RadioRequests number radio request json a → RadioRequests number radio request json b → a ≡ b
  one_radio_act number radio request json _ _ (RadioRequests.answer v x e p) (RadioRequests.answer w y f q) =
      let same : v ≡ w = cc (e, f) in
      ap (λ x. NetLine.happens (event.Radio radio request x))
      (one_ports w x y (subst (λ v. ArePorts v x) same p) q)
  one_radio_act number radio request json _ _ (RadioRequests.answer v x e p) (RadioRequests.no_json f) = absurd (cc (e, f))
  one_radio_act number radio request json _ _ (RadioRequests.answer v x e p) (RadioRequests.no_answer w f none) =
      let same : v ≡ w = cc (e, f) in absurd (none x (subst (λ v. ArePorts v x) same p))
  one_radio_act number radio request json _ _ (RadioRequests.no_json e) (RadioRequests.answer w y f q) = absurd (cc (e, f))
  one_radio_act number radio request json _ _ (RadioRequests.no_json e) (RadioRequests.no_json f) = refl
  one_radio_act number radio request json _ _ (RadioRequests.no_json e) (RadioRequests.no_answer w f none) = refl
  one_radio_act number radio request json _ _ (RadioRequests.no_answer v e none) (RadioRequests.answer w y f q) =
      let same : w ≡ v = cc (e, f) in absurd (none y (subst (λ w. ArePorts w y) same q))
  one_radio_act number radio request json _ _ (RadioRequests.no_answer v e none) (RadioRequests.no_json f) = refl
  one_radio_act number radio request json _ _ (RadioRequests.no_answer v e none) (RadioRequests.no_answer w f never) = refl

  one_loaded : (folder : Folder) (name : List ℕ) (a b : Package) → IsLoaded folder name a
      → IsLoaded folder name b → a ≡ b
  one_loaded folder name _ _ (IsLoaded.absent p) (IsLoaded.absent q) = refl
  one_loaded folder name _ b (IsLoaded.absent p) (IsLoaded.read file _ q r) = absurd (cc (p, q))
  one_loaded folder name a _ (IsLoaded.read file _ p r) (IsLoaded.absent q) = absurd (cc (p, q))
  one_loaded folder name a b (IsLoaded.read file _ p r) (IsLoaded.read other _ q s) =
      let same : file ≡ other = cc (p, q) in
      one_package (name_of folder.names other) (text_of folder.files other) b a s
      (subst (λ file. Reads (name_of folder.names file) (text_of folder.files file) a) same r)

  loads_or_not : (folder : Folder) (name : List ℕ) (a : Package) (fault : Fault) → IsLoaded folder name a
      → DoesNotLoad folder name fault → ⊥
  loads_or_not folder name _ fault (IsLoaded.absent p) d = let q = d.number in absurd (cc (p, q))
  loads_or_not folder name a fault (IsLoaded.read file _ p r) d =
      let q = d.number in
      let same : file ≡ d.file = cc (p, q) in
      not_both (name_of folder.names d.file) (text_of folder.files d.file) d.error a d.refused
      (subst (λ file. Reads (name_of folder.names file) (text_of folder.files file) a) same r)

  one_reload : (folder : Folder) (a b : NetLine) → ReloadAsks folder a → ReloadAsks folder b → a ≡ b
  one_reload folder _ _ (ReloadAsks.loaded n w p q) (ReloadAsks.loaded m v r s) =
      ap (λ n. load_line n w) (one_loaded folder network_name n m p r)
      ∙ ap (load_line m) (one_loaded folder wireless_name w v q s)
  one_reload folder _ _ (ReloadAsks.loaded n w p q) (ReloadAsks.no_network f d) =
      absurd (loads_or_not folder network_name n f p d)
  one_reload folder _ _ (ReloadAsks.loaded n w p q) (ReloadAsks.no_wireless m r f d) =
      absurd (loads_or_not folder wireless_name w f q d)
  one_reload folder _ _ (ReloadAsks.no_network f d) (ReloadAsks.loaded m v r s) =
      absurd (loads_or_not folder network_name m f r d)
  one_reload folder _ _ (ReloadAsks.no_network f d) (ReloadAsks.no_network g e) = refl
  one_reload folder _ _ (ReloadAsks.no_network f d) (ReloadAsks.no_wireless m r g e) = refl
  one_reload folder _ _ (ReloadAsks.no_wireless n p f d) (ReloadAsks.loaded m v r s) =
      absurd (loads_or_not folder wireless_name v f s d)
  one_reload folder _ _ (ReloadAsks.no_wireless n p f d) (ReloadAsks.no_network g e) = refl
  one_reload folder _ _ (ReloadAsks.no_wireless n p f d) (ReloadAsks.no_wireless m r g e) = refl

  one_at : (ground : Ground) (moment : ℕ) (a b : NetLine) → AtAsks ground moment a
      → AtAsks ground moment b → a ≡ b
  one_at ground moment _ _ (AtAsks.past p) (AtAsks.past q) = refl
  one_at ground moment _ _ (AtAsks.past p) (AtAsks.rests q e) = absurd (omega (arith, p, q))
  one_at ground moment _ b (AtAsks.past p) (AtAsks.undone q e _ r) = absurd (omega (arith, p, q))
  one_at ground moment _ _ (AtAsks.rests p d) (AtAsks.past q) = absurd (omega (arith, p, q))
  one_at ground moment _ _ (AtAsks.rests p d) (AtAsks.rests q e) = refl
  one_at ground moment _ b (AtAsks.rests p d) (AtAsks.undone q e _ r) = absurd (cc (d, e))
  one_at ground moment a _ (AtAsks.undone p d _ s) (AtAsks.past q) = absurd (omega (arith, p, q))
  one_at ground moment a _ (AtAsks.undone p d _ s) (AtAsks.rests q e) = absurd (cc (d, e))
  one_at ground moment a b (AtAsks.undone p d _ s) (AtAsks.undone q e _ r) =
      one_reload (folder_at ground.files moment) a b s r

  pub one_meaning : (ground : Ground) (number : ℕ) (read : Option ScriptLine) (act other : NetLine)
      → Means ground number read act → Means ground number read other → act ≡ other
  one_meaning ground number None act other p q = p ∙ sym q
  one_meaning ground number (Some (line.At moment)) act other p q = one_at ground moment act other p q
  one_meaning ground number (Some (line.Device what)) act other p q = p ∙ sym q
  one_meaning ground number (Some (line.Answer interface request json)) act other p q =
      one_answer_act number interface request json act other p q
  one_meaning ground number (Some (line.Radio radio request json)) act other p q =
      one_radio_act number radio request json act other p q
  one_meaning ground number (Some (line.Operator interface up)) act other p q = p ∙ sym q
  one_meaning ground number (Some line.Reload) act other p q = one_reload ground.files act other p q
  one_meaning ground number (Some (line.Uci words)) act other p q = p ∙ sym q
  one_meaning ground number (Some (line.Call session object method json)) act other p q = p ∙ sym q
  one_meaning ground number (Some (line.OpenClient client user group)) act other p q = p ∙ sym q
  one_meaning ground number (Some (line.ClientBytes client bytes)) act other p q = p ∙ sym q
  one_meaning ground number (Some (line.CloseClient client)) act other p q = p ∙ sym q
  one_meaning ground number (Some line.Dump) act other p q = p ∙ sym q
  one_meaning ground number (Some (line.InterfaceStatus name)) act other p q = p ∙ sym q
  one_meaning ground number (Some (line.DeviceStatus name)) act other p q = p ∙ sym q
  one_meaning ground number (Some (line.RadioStatus name)) act other p q = p ∙ sym q
