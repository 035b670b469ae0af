use Rattle.std.proofs.Common.{◌≡◌, ◌↔◌, length, drop}
use Rattle.tw_terms.specs.OpenView.{open_args_of}
use Rattle.tw_terms.proofs.open_terms.+same.Given as goal

abbrev pub invariant-OpenSpine::same-loop-arg : goal.invariant-OpenSpine::same-loop-arg
invariant-OpenSpine::same-loop-arg l =
    (open_args_of (drop (length l.yielded) l.self.args.items) ≡ open_args_of (drop (length l.yielded) l.other.args.items)) ↔ (open_args_of l.self.args.items ≡ open_args_of l.other.args.items)
