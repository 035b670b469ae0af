use Rattle.lf_search.proofs.ChildNode.{child_node}
use Rattle.lf_search.proofs.child_is_node.Goals as goal

pub returns : goal.returns
returns c = λ sg ok node g D a T h A s n is e o. child_node sg ok node g D a T h A s n is e o
