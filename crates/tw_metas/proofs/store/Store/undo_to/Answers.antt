use Rattle.std.proofs.Common.{◌≡◌, ◌-◌, length, drop, ◌∙◌, ap, arith}
use Rattle.tw_metas.specs.State.{states}
use Rattle.tw_metas.specs.View.{state_of}
use Rattle.tw_metas.proofs.Stories.{count_told, one_less, back_further, not_yet}
use Rattle.tw_metas.proofs.store.Store.undo_to.Goals as goal

pub loop-mark-init : goal.loop-mark-init
loop-mark-init c = record { bounded = c.requires; no_more = omega arith; gone = not_yet c.args.self.now }

pub undo-requires : goal.undo-requires
undo-requires c =
    let told = count_told (state_of c.self.inside.contents) c.self.inside.contents.trail.items c.loop-mark.self c.self.view_is in
    omega (arith, told, c.self.inside.contents.trail.ok.0, c.len.ensures, c.loop-mark-test.true)

pub loop-mark-smaller : goal.loop-mark-smaller
loop-mark-smaller c = let less = one_less c.loop-mark.self c.undo.new.self c.undo.ensures in omega (arith, less)

pub loop-mark-preserved : goal.loop-mark-preserved
loop-mark-preserved c =
    let told = count_told (state_of c.self.inside.contents) c.self.inside.contents.trail.items c.loop-mark.self c.self.view_is in
    let less = one_less c.loop-mark.self c.undo.new.self c.undo.ensures in
    record {
      bounded = omega (arith, told, less, c.self.inside.contents.trail.ok.0, c.len.ensures, c.loop-mark-test.true, c.mark.view_is);
      no_more = omega (arith, less, c.loop-mark.invariant.no_more);
      gone = back_further c.args.self.now c.loop-mark.self c.undo.new.self c.loop-mark.invariant.gone c.loop-mark.invariant.no_more c.undo.ensures;
    }

pub returns : goal.returns
returns c =
    let told = count_told (state_of c.self.inside.contents) c.self.inside.contents.trail.items c.loop-mark.self c.self.view_is in
    let reached : length c.args.self.now.before - length c.loop-mark.self.before ≡ length c.args.self.now.before - c.args.mark.now =
    omega (arith, told, c.self.inside.contents.trail.ok.0, c.len.ensures, c.loop-mark-test.false, c.mark.view_is, c.loop-mark.invariant.bounded) in
    c.loop-mark.invariant.gone ∙ ap (λ n. drop n (states c.args.self.now)) reached
