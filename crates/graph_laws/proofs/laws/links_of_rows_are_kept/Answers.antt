use Rattle.graph_laws.proofs.LostLinkLemmas.{no_lost_link, links_kept, links_stay, settled_links}
use Rattle.graph_laws.proofs.laws.links_of_rows_are_kept.Goals as goal

pub returns : goal.returns
returns c = record {
  used = λ s sound holds. no_lost_link s holds sound;
  kept = λ s call holds. links_kept s holds call;
  stays = links_stay;
  settled = settled_links;
}
