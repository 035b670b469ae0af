use Rattle.std.proofs.Common.{◌≡◌, drop}
use Rattle.tw_terms.specs.OpenView.{open_args_of}
use Rattle.tw_abstract.specs.Occurrences.{Extends, noted, spine_occurrences}
use Rattle.tw_abstract.proofs.occurrences.+noting.Given as goal

-- what is found so far, with the rest, is the whole
abbrev pub invariant-note_spine-loop-arg : goal.invariant-note_spine-loop-arg
invariant-note_spine-loop-arg l = record { whole : noted l.fn.found (spine_occurrences (open_args_of l.arg-items)) ≡ noted l.found (spine_occurrences (open_args_of (drop l.arg-index l.arg-items))); kept : Extends l.fn.found l.found }
