use Rattle.std.proofs.Common.{◌≡◌, ◌↔◌, length, drop}
use Rattle.tw_terms.specs.View.{args_of}
use Rattle.tw_terms.proofs.canonical.+same.Given as goal

abbrev pub invariant-Spine::same-loop-arg : goal.invariant-Spine::same-loop-arg
invariant-Spine::same-loop-arg l =
    (args_of (drop (length l.yielded) l.self.args.items) ≡ args_of (drop (length l.yielded) l.other.args.items)) ↔ (args_of l.self.args.items ≡ args_of l.other.args.items)
