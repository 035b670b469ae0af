use Rattle.std.proofs.Common.{◌≡◌, ◌++◌, ◌-◌, [], ◌∷◌, length, replicate, None, ap, ◌∙◌, arith, length-append, sym}
use Rattle.std.proofs.lemmas.List.{append-nil}
use Rattle.tw_recon.proofs.Naming.{reach_more}
use Rattle.tw_recon.proofs.names.reach.Goals as goal

pub loop-names-init : goal.loop-names-init
loop-names-init c =
    let n : length c.args.names.now.items - length c.args.names.now.items ≡ 0 = omega arith in
    record {
      items = sym (append-nil c.args.names.now.items) ∙ ap (λ k. c.args.names.now.items ++ replicate k None) (sym n);
      most = c.requires;
    }

pub loop-names-preserved : goal.loop-names-preserved
loop-names-preserved c =
    let n = length-append c.loop-names.names.items (None ∷ []) in
    let e = ap length c.in_ok-push.ensures.items in
    record {
      items = reach_more c.args.names.now.items c.loop-names.names.items c.push.new.self.items c.loop-names.invariant.items c.in_ok-push.ensures.items;
      most = omega (arith, n, e);
    }

pub returns : goal.returns
returns c =
    let m = c.loop-names.invariant.most in
    let e : length c.loop-names.names.items ≡ c.args.count = omega (arith, m) in
    c.loop-names.invariant.items ∙ ap (λ k. c.args.names.now.items ++ replicate (k - length c.args.names.now.items) None) e
