use Rattle.std.proofs.Common.{◌≡◌, arith, rules, sym}
use Rattle.std.specs.Prelude.{true}
use Rattle.tw_prune.proofs.Options.{if_ok}
use Rattle.tw_terms.specs.OpenView.{open_term_of, open_type_of}
use Rattle.tw_terms.specs.View.{skeleton_of}
use Rattle.tw_elaborate.proofs.NewHoles.{hole_checked}
use Rattle.tw_elaborate.proofs.Taking.{keeps_same}
use Rattle.tw_elaborate.proofs.holes.checked_hole.Goals as goal

pub returns-then-not-has_skeleton-clause-keeps : goal.returns-then-not-has_skeleton-clause-keeps
returns-then-not-has_skeleton-clause-keeps c = keeps_same c.args.state.now

pub returns-clause-ok : goal.returns-clause-ok
returns-clause-ok c =
    let t : c.has_skeleton.result ≡ true = first_of (search rules, grind arith) in
    if_ok c.new_term.result _ _ (λ m f es ns at. hole_checked es ns at c.args.state.now c.new_term.new.state (skeleton_of c.args.skeleton.now) (open_type_of c.args.expected.now) (open_term_of m) (sym (c.has_skeleton.ensures.0 t)) f) c.new_term.ensures.ok
