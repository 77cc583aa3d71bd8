-- The pages that the program prints about itself, and how a run ends that prints one.
use Rattle.std.specs.Prelude.{ℕ, ◌≡◌, List, Option}
use Rattle.plane_words.specs.Causes.{Rose, DidNotRise}
use Rattle.plane_words.specs.Growth.{Grows, GrowsByFront}
use Rattle.plane_main.specs.declared.page.Page.{Page}
use Rattle.plane_main.specs.declared.page.Page.TheVariants.{Help, Version}
use Rattle.plane_main.specs.declared.ending.Ending.{Ending}
use Rattle.plane_main.specs.declared.ending.Ending.TheVariants as ending
use Rattle.plane_main.specs.declared.texts.TheConstants.{HELP, VERSION}
use Rattle.net_settle.specs.Outside.{Outside}

-- the text of a page
abbrev pub page_text : Page → List ℕ
page_text Help = HELP.now
page_text Version = VERSION.now

-- An output grew by a text; or by a front of it, and then its count rose. There is no other ending.
abbrev pub PrintEnds : List ℕ → Option (List ℕ) → Option (List ℕ) → ℕ → ℕ → Ending → Type 0
PrintEnds text before after faults faults_now ending.Done = Grows before after text
PrintEnds text before after faults faults_now ending.WriteFailed = GrowsByFront before after text
    × Rose faults faults_now
PrintEnds text before after faults faults_now _ = ⊥

-- The page is printed.
abbrev pub PageEnds : Page → Outside → Outside → Ending → Type 0
PageEnds page before after end = PrintEnds (page_text page) before.out after.out before.out_faults after.out_faults end

-- where the count of the output did not rise, the page was printed
abbrev pub PageComes : Outside → Outside → Ending → Type 0
PageComes before after end = DidNotRise before.out_faults after.out_faults → end ≡ ending.Done
