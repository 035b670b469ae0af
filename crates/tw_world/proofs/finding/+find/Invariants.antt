use Rattle.std.proofs.Common.{◌≡◌, ◌-◌, drop, length}
use Rattle.tw_terms.specs.View.{args_of}
use Rattle.tw_world.specs.Finding.{value_in_spine}
use Rattle.tw_world.proofs.finding.+find.Given as goal

abbrev pub invariant-find_in_spine-loop-place : goal.invariant-find_in_spine-loop-place
invariant-find_in_spine-loop-place l =
    value_in_spine l.bound l.variable (args_of (drop l.place l.spine.args.items)) (args_of (drop l.place l.other.args.items)) ≡ value_in_spine l.bound l.variable (args_of l.spine.args.items) (args_of l.other.args.items)

abbrev pub decreases-find_in_spine-loop-place : goal.decreases-find_in_spine-loop-place
decreases-find_in_spine-loop-place l = length l.spine.args.items - l.place
