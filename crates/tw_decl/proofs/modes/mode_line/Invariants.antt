use Rattle.std.proofs.Common.{◌≡◌, ◌++◌, codes}
use Rattle.std.specs.Prelude.{drop, map}
use Rattle.tw_clause.specs.View.{mark_of as plain_mark}
use Rattle.tw_decl.specs.Applications.{families_named}
use Rattle.tw_decl.specs.Modes.{mark_words}
use Rattle.tw_decl.specs.Operators.{spaced}
use Rattle.tw_decl.specs.Steps.{application_of}
use Rattle.tw_decl.proofs.modes.mode_line.Given as goal

abbrev pub invariant-loop-mark : goal.invariant-loop-mark
invariant-loop-mark l = l.line.items ++ mark_words (map plain_mark (drop l.mark-index l.marks)) ≡ (codes "%mode" ++ spaced (families_named (map application_of l.applications))) ++ mark_words (map plain_mark l.marks)
