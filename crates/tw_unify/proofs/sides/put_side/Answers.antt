use Rattle.std.proofs.Common.{rules}
use Rattle.tw_putting.proofs.PlainTerms.{all_in_puts}
use Rattle.tw_terms.specs.OpenView.{open_term_of}
use Rattle.tw_unify.proofs.sides.put_side.Goals as goal

pub returns-then-is_all_in : goal.returns-then-is_all_in
returns-then-is_all_in c = all_in_puts c.args.store.now.now c.args.binders (open_term_of c.args.side) (search rules)
