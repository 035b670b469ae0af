use Rattle.std.proofs.Common.{refl, subst, sym}
use Rattle.tw_putting.specs.Stores.{bindings_of}
use Rattle.tw_terms.specs.OpenView.{open_term_of}
use Rattle.tw_terms.specs.View.{term_of, type_of}
use Rattle.tw_search.specs.Beside.{LeadsTo}
use Rattle.tw_search.proofs.BesideWalks.{pair_stays}
use Rattle.tw_search.proofs.beside.keep.Goals as goal

pub returns : goal.returns
returns c =
    let bs = bindings_of c.args.store.now.now in
    let M = open_term_of c.args.left.now in
    pair_stays bs M (term_of c.args.right.now) (type_of c.args.ty.now) c.args.pairs.now.items c.push.new.self.items _ c.in_ok-push.ensures.items (subst (LeadsTo bs M) (sym c.in_ok-left.ensures) c.nearest.ensures) refl refl
