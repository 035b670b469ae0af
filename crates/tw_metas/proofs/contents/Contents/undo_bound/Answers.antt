use Rattle.std.proofs.Common.{reverse, map, refl, ap, None}
use Rattle.tw_metas.specs.View.{bound_by, declaration_of, kept_equation_of}
use Rattle.tw_metas.proofs.States.{valued_state}
use Rattle.tw_metas.specs.declared.contents.Metavariable.{Metavariable}
use Rattle.tw_metas.proofs.contents.Contents.undo_bound.Goals as goal

pub returns-then-meta-len-clause-state : goal.returns-then-meta-len-clause-state
returns-then-meta-len-clause-state c =
    let found : Metavariable = c.index_mut.result.now in
    let free : Metavariable = record { context = found.context; ty = found.ty; value = None } in
    valued_state c.args.self.now.metas.items _ c.args.meta free found (bound_by (reverse c.args.self.now.trail.items)) (map kept_equation_of c.args.self.now.equations.items) refl (ap declaration_of c.index_mut.ensures.value)
