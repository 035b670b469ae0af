use Rattle.std.proofs.Common.{◌≡◌, ◌-◌, [], length, map}
use Rattle.lf.specs.Entries.{signature_of}
use Rattle.tw_print.specs.Showable.{IsShowableContext}
use Rattle.tw_equation.specs.Text.{laid_out}
use Rattle.tw_metas.specs.Named.{shown_type_of}
use Rattle.tw_equation.proofs.laid.lay_out.Given as goal

abbrev pub invariant-loop-count : goal.invariant-loop-count
invariant-loop-count l = record {
  laid : laid_out (length l.metas - l.count) (map shown_type_of l.metas) (record { order = l.positions; context = l.context }) ≡ laid_out (length l.metas) (map shown_type_of l.metas) (record { order = []; context = [] });
  showable : IsShowableContext (signature_of l.signature) l.context;
}
