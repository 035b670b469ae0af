use Rattle.std.proofs.Common.{◌≡◌, reverse}
use Rattle.tw_parse.specs.Mentions.{mentions_any, weight_of_all}
use Rattle.tw_parse.specs.Queries.{mentions}
use Rattle.tw_parse.specs.View.{term_of}
use Rattle.tw_parse.proofs.mentions.mentions.Given as goal

-- the name stands in the term if it stands in one that waits
abbrev pub invariant-loop-next : goal.invariant-loop-next
invariant-loop-next l = mentions_any l.name (reverse l.waiting.items) ≡ mentions l.name (term_of l.fn.term)

abbrev pub decreases-loop-next : goal.decreases-loop-next
decreases-loop-next l = weight_of_all l.waiting.items
