use Rattle.std.proofs.Common.{◌≡◌, arith}
use Rattle.std.proofs.lemmas.Grind.{common_steps}
use Rattle.lf_closures.specs.Environments.{outside, extended}
use Rattle.tw_terms.specs.View.{term_of, skeleton_of}
use Rattle.tw_hered.specs.View.{environment_of}
use Rattle.tw_hered.proofs.Environments.{environments, environment_of-Under}
use Rattle.tw_hered.proofs.hereditary.environment_for.Goals as goal

pub returns : goal.returns
returns c =
    let o : environment_of c.in_ok-outside.outside.now ≡ outside = grind (arith, environments) in
    let i : environment_of c.in_ok-image.image.now ≡ extended (skeleton_of c.args.skel.now) (term_of c.args.arg.now) outside outside = grind (arith, environments, o) in
    grind (arith, common_steps, environment_of-Under, i)
