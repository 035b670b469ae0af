use Rattle.lf_search.proofs.QueryForm.{is_query, root_form, root_node, the_query}
use Rattle.lf_search.proofs.query_is_well_formed.Goals as goal

pub returns : goal.returns
returns c = λ sg ok G A d t. (the_query sg ok G A d t, is_query sg ok G A d t, root_node sg ok G A d t, root_form sg ok G A d t)
