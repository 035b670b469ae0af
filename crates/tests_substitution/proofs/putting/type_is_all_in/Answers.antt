use Rattle.tests_substitution.proofs.putting.type_is_all_in.Goals as goal

pub is_type_all_in-requires : goal.is_type_all_in-requires
is_type_all_in-requires c = c.requires.typed.bound
