use Rattle.tests_substitution.proofs.Bindings.{empty_is_bound}
use Rattle.tests_substitution.proofs.values.put_over_types.Goals as goal

pub put_over_outer-requires : goal.put_over_outer-requires
put_over_outer-requires c = empty_is_bound _ _ _ c.new-store.ensures
