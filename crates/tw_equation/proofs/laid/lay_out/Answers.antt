use Rattle.std.proofs.Common.{◌≡◌, ◌∙◌, Some, zero, length, map, refl, sym, ap, arith, rules}
use Rattle.std.specs.Option.{option_map}
use Rattle.tw_metas.specs.Named.{shown_type_of}
use Rattle.tw_equation.specs.LaidView.{placed_of}
use Rattle.tw_equation.specs.Text.{next_one}
use Rattle.tw_equation.proofs.Laying.{laid_one}
use Rattle.tw_equation.proofs.laid.lay_out.Goals as goal

pub loop-count-preserved : goal.loop-count-preserved
loop-count-preserved c =
    let metas = map shown_type_of c.args.metas.now in
    let is : c.in_ok-meta.field-0 ≡ Some (c.in-Some.meta, c.in-Some.ty) = search rules in
    let e : next_one c.loop-count.positions zero metas ≡ Some (placed_of (c.in-Some.meta, c.in-Some.ty)) = sym c.in_ok-meta.ensures ∙ ap (option_map placed_of) is in
    record {
      laid = laid_one (length c.args.metas.now) c.loop-count.count _ metas c.loop-count.positions c.push.new.self c.loop-count.context c.enter.new.context (placed_of (c.in-Some.meta, c.in-Some.ty)) _ (omega arith) refl e c.in_ok-push.ensures.ok c.in_ok-enter.ensures.grown c.loop-count.invariant.laid;
      showable = c.in_ok-enter.ensures.showable;
    }
