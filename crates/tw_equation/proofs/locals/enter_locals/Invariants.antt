use Rattle.std.proofs.Common.{◌-◌, length, drop}
use Rattle.lf.specs.Entries.{signature_of}
use Rattle.tw_abstract.specs.Positions.{index}
use Rattle.tw_print.specs.Showable.{IsShowableContext}
use Rattle.tw_equation.specs.Locals.{Entered}
use Rattle.tw_equation.proofs.locals.enter_locals.Given as goal

abbrev pub invariant-loop-outside : goal.invariant-loop-outside
invariant-loop-outside l = record {
  entered : Entered (index l.positions) (drop (length l.local - l.outside) l.local) l.initial.context l.context;
  showable : IsShowableContext (signature_of l.signature) l.context;
}
