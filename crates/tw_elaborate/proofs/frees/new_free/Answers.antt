use Rattle.std.proofs.Common.{Err, Ok, refl}
use Rattle.tw_terms.specs.OpenView.{open_type_of}
use Rattle.tw_terms.specs.View.{skeleton_of}
use Rattle.tw_elaborate.proofs.Freeing.{free_made, keeps_declared}
use Rattle.tw_elaborate.proofs.frees.new_free.Goals as goal

pub returns-clause-ok : goal.returns-clause-ok
returns-clause-ok c = free_made c.args.signature.now (skeleton_of c.args.skeleton.now) c.args.state.now c.new_type.new.state _ (Ok c.in_ok-fresh.field-0) c.new.result (open_type_of c.in_ok-ty.ty) c.requires.no_locals c.new.ensures refl c.in_ok-ty.ensures.ok c.in_ok-fresh.ensures.ok c.in_ok-fresh.ensures.number

pub returns-clause-keeps : goal.returns-clause-keeps
returns-clause-keeps c = keeps_declared c.args.state.now c.new_type.new.state _ (Ok c.in_ok-fresh.field-0) c.new.result (open_type_of c.in_ok-ty.ty) c.in_ok-ty.ensures.keeps refl c.new.ensures c.in_ok-fresh.ensures.ok tt

pub returns-in_err-fresh-clause-keeps : goal.returns-in_err-fresh-clause-keeps
returns-in_err-fresh-clause-keeps c = keeps_declared c.args.state.now c.new_type.new.state _ (Err c.in_err-fresh.field-0.0) c.new.result (open_type_of c.in_ok-ty.ty) c.in_ok-ty.ensures.keeps refl c.new.ensures tt c.in_err-fresh.ensures.err
