use Rattle.std.proofs.Common.{◌∙◌, ap, sym}
use Rattle.std.specs.Prelude.{is_some}
use Rattle.tw_terms.specs.View.{type_of}
use Rattle.tw_world.proofs.Joining.{some_kept, strict_found}
use Rattle.tw_world.proofs.blocks.is_strict.Goals as goal

pub returns : goal.returns
returns c = sym (strict_found c.args.variable (type_of c.args.pattern.now) c.is_some.result (ap is_some (sym c.in_ok-found.ensures) ∙ some_kept c.in_ok-found.found ∙ sym c.is_some.ensures))
