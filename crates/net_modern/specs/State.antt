-- What is kept while a package is gone through.
use Rattle.net_modern.specs.declared.rewriting.Progress.{Progress as State}
use Rattle.net_modern.specs.Rewriting.{Progress}

-- the package so far
abbrev pub progress_of : State → Progress
progress_of state = record { before = state.before.items; added = state.added.items; made = state.made }
