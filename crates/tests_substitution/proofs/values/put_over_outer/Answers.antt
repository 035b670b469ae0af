use Rattle.std.proofs.Common.{map}
use Rattle.tw_terms.specs.View.{skeleton_of}
use Rattle.tests_substitution.proofs.values.put_over_outer.Goals as goal

pub bind_all-requires : goal.bind_all-requires
bind_all-requires c = c.in_ok-declare_all.ensures c.args.signature.now (map skeleton_of c.args.outer.now) c.requires
