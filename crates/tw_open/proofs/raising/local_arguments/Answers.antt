use Rattle.std.proofs.Common.{◌≡◌, ◌+◌, ◌-◌, ◌≤◌, length, ap, sym, ◌∙◌, arith}
use Rattle.std.specs.Option.{option_map}
use Rattle.lf.specs.Eta.{append}
use Rattle.lf_unification.specs.Offering.{local_arguments}
use Rattle.tw_terms.specs.OpenView.{open_args_of, open_type_of}
use Rattle.tw_terms.proofs.OpenViews.{open_spine_of-roll}
use Rattle.tw_open.proofs.Expanding.{newest_arguments, next_argument, no_more_arguments, start_arguments, there_is}
use Rattle.tw_open.proofs.raising.local_arguments.Goals as goal

pub loop-left-init : goal.loop-left-init
loop-left-init c = record {
  inside = let n = c.len-left.ensures in omega (arith, n);
  so_far = start_arguments c.args.locals.now c.len-left.result c.len-left.ensures ∙ ap (λ l. append (open_args_of l) (newest_arguments c.len-left.result c.args.locals.now)) (sym c.new-args.ensures.items);
}

pub unreachable-requires : goal.unreachable-requires
unreachable-requires c =
    let h = c.loop-left.invariant.inside in
    there_is c.args.locals.now (c.loop-left.left - 1) (omega (arith, h)) (sym c.get.ensures ∙ ap (option_map (λ a. open_type_of a.now)) c.in-None.is)

pub loop-left-preserved : goal.loop-left-preserved
loop-left-preserved c =
    let n : c.loop-left.left ≡ c.loop-left.left - 1 + 1 = omega arith in
    record {
      inside = let h = c.loop-left.invariant.inside in omega (arith, h);
      so_far = next_argument c.args.locals.now c.loop-left.left (c.loop-left.left - 1) (open_type_of c.in-Some.ty.now) c.loop-left.args.items c.push.new.self.items c.in_ok-expand_variable-in-Some.field-0 (local_arguments c.args.locals.now)
          n c.in-Some.ensures c.in_ok-expand_variable-in-Some.ensures c.in_ok-push-in-Some.ensures.items c.loop-left.invariant.so_far;
    }

pub returns : goal.returns
returns c = open_spine_of-roll c.loop-left.args ∙ no_more_arguments c.args.locals.now c.loop-left.left c.loop-left.args.items (local_arguments c.args.locals.now) (omega arith) c.loop-left.invariant.so_far
