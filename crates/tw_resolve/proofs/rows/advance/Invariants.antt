use Rattle.std.proofs.Common.{◌≡◌, List, Some, vec_len}
use Rattle.lf.specs.Entries.{Entry}
use Rattle.lf.specs.Syntax.{Skeleton}
use Rattle.tw_fixity.specs.Names.{Names}
use Rattle.tw_parse.specs.Applied.{written_terms}
use Rattle.tw_written.specs.View.{written_of}
use Rattle.tw_resolve.specs.Rows.{on_arguments, rows_read}
use Rattle.tw_resolve.proofs.rows.advance.Given as goal

-- what is read stays as it was
abbrev pub invariant-loop-argument : goal.invariant-loop-argument
invariant-loop-argument l =
    (es : List Entry) (free N : Names) (o : List Skeleton)
    → rows_read es free N l.waiting.items (on_arguments es free N (written_terms l.arguments.items) (Some (written_of l.function, o))) ≡ rows_read es free N l.fn.waiting.items (on_arguments es free N (written_terms l.fn.arguments.items) (Some (written_of l.fn.function, o)))

abbrev pub decreases-loop-argument : goal.decreases-loop-argument
decreases-loop-argument l = vec_len l.waiting
