use Rattle.tw_terms.specs.OpenView.{open_term_of, open_type_of}
use Rattle.tw_terms.specs.View.{skeleton_of}
use Rattle.tw_elaborate.proofs.NewHoles.{hole_inferred}
use Rattle.tw_elaborate.proofs.Taking.{keeps_then}
use Rattle.tw_elaborate.proofs.holes.term_hole.Goals as goal

pub returns-in_err-new_term-clause-keeps : goal.returns-in_err-new_term-clause-keeps
returns-in_err-new_term-clause-keeps c = keeps_then c.args.state.now c.new_type.new.state c.new_term.new.state c.new_type.ensures.keeps c.new_term.ensures.keeps

pub returns-clause-ok : goal.returns-clause-ok
returns-clause-ok c = λ ns at. hole_inferred c.args.signature.now ns at c.args.state.now c.new_type.new.state c.new_term.new.state (skeleton_of c.args.skeleton.now) (open_type_of c.in_ok-ty.ty) (open_term_of c.in_ok-new_term.field-0) c.new_type.ensures.keeps.locals c.in_ok-ty.ensures.ok c.in_ok-new_term.ensures.ok

pub returns-clause-keeps : goal.returns-clause-keeps
returns-clause-keeps c = keeps_then c.args.state.now c.new_type.new.state c.new_term.new.state c.new_type.ensures.keeps c.new_term.ensures.keeps
