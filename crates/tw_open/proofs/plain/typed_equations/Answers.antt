use Rattle.std.proofs.Common.{drop, map, reverse}
use Rattle.tw_metas.specs.View.{equation_of}
use Rattle.tw_terms.specs.OpenView.{open_args_of, open_type_of}
use Rattle.tw_open.proofs.Arguments.{no_arguments_from}
use Rattle.tw_open.proofs.Telescopes.{lefts_end}
use Rattle.tw_open.proofs.plain.typed_equations.Goals as goal

pub returns : goal.returns
returns c =
    let ts = c.deref-arg-items.result.now in
    let i = c.loop-arg.arg-index in
    lefts_end c.args.locals.now (map open_type_of (reverse c.loop-arg.types.items)) (open_args_of (drop i ts)) (open_args_of (reverse c.loop-arg.others.items)) (map equation_of c.loop-arg.found.items) _ (no_arguments_from ts i c.loop-arg-test.false) c.loop-arg.invariant
