use Rattle.std.proofs.Common.{List, inl, sym, subst, map, get_or}
use Rattle.std.specs.Option.{MatchOption}
use Rattle.lf.specs.Subordination.{Member}
use Rattle.lf.specs.Syntax.{base}
use Rattle.lf_unification.specs.OpenTyping.{skeletons_of}
use Rattle.tw_prune.specs.Meaning.{HasEachLoss, MustLose}
use Rattle.tw_prune.specs.View.{loss_of}
use Rattle.tw_prune.specs.declared.drops.Loss.{Loss}
use Rattle.tw_putting.specs.Stores.{types_of}
use Rattle.tw_terms.specs.OpenView.{open_spine_of, open_term_of, open_type_of}
use Rattle.tw_unify.specs.Moving.{KeepsIt, LosesIt}
use Rattle.tw_prune.proofs.Meanings.{drops_variable}
use Rattle.tw_unify.proofs.Moving.{AllKept, all_kept_next, element_of, image_of, inside_loses, loss_declared, none_loses, right_skeleton, stands, took_all}
use Rattle.tw_unify.proofs.moves.losing.Goals as goal

abbrev no_loss : Loss
no_loss = record { meta = record { 0 = 0 }; place = 0 }

pub lost-requires : goal.lost-requires
lost-requires c =
    let s = c.args.store.now.now in
    let D = c.args.context.now in
    let m = c.args.meta.0 in
    let xs = c.args.pattern.now in
    let N = open_term_of c.args.right.now in
    let f = c.requires.fits in
    let items = c.deref-loss-items.result.now in
    let loss : Loss = get_or items c.loop-loss.loss-index no_loss in
    let there : Member (loss_of loss) (map loss_of c.in_ok-found.found.items) =
    subst (λ (ls : List Loss). Member (loss_of loss) (map loss_of ls)) c.deref-loss-items.ensures.value (image_of loss_of items loss (element_of items c.loop-loss.loss-index no_loss c.loop-loss-test.true)) in
    let must : MustLose (types_of s) D (skeletons_of (types_of s) m) xs N loss.meta.0 loss.place =
    c.in_ok-found.ensures.found (types_of s) D (skeletons_of (types_of s) m) (stands s D m xs N f c.len.result (sym c.len.ensures)) (right_skeleton s D m xs N f) loss.meta.0 loss.place there in
    loss_declared f.signature (types_of s) D (skeletons_of (types_of s) m) (base f.family) xs N loss.meta.0 loss.place f.right_typed must

pub returns-in-Some : goal.returns-in-Some
returns-in-Some c =
    let s = c.args.store.now.now in
    let D = c.args.context.now in
    let m = c.args.meta.0 in
    let xs = c.args.pattern.now in
    let N = open_term_of c.args.right.now in
    let items = c.deref-loss-items.result.now in
    let loss : Loss = get_or items c.loop-loss.loss-index no_loss in
    let l : LosesIt s loss.meta.0 loss.place (open_type_of c.in-Some.pruned.ty) (open_spine_of c.in-Some.pruned.spine) =
    subst (λ o. MatchOption o (KeepsIt s loss.meta.0 loss.place) (λ p. LosesIt s loss.meta.0 loss.place (open_type_of p.ty) (open_spine_of p.spine))) c.in-Some.is c.in_ok-pruned.ensures in
    let there : Member (loss_of loss) (map loss_of c.in_ok-found.found.items) =
    subst (λ (ls : List Loss). Member (loss_of loss) (map loss_of ls)) c.deref-loss-items.ensures.value (image_of loss_of items loss (element_of items c.loop-loss.loss-index no_loss c.loop-loss-test.true)) in
    let must : MustLose (types_of s) D (skeletons_of (types_of s) m) xs N loss.meta.0 loss.place =
    c.in_ok-found.ensures.found (types_of s) D (skeletons_of (types_of s) m) (stands s D m xs N c.requires.fits c.len.result (sym c.len.ensures)) (right_skeleton s D m xs N c.requires.fits) loss.meta.0 loss.place there in
    inl (inside_loses s D m xs N drops_variable loss.meta.0 loss.place (open_type_of c.in-Some.pruned.ty) (open_spine_of c.in-Some.pruned.spine) c.requires.unbound must l)

pub loop-loss-preserved : goal.loop-loss-preserved
loop-loss-preserved c =
    let s = c.args.store.now.now in
    let items = c.deref-loss-items.result.now in
    let loss : Loss = get_or items c.loop-loss.loss-index no_loss in
    let k : KeepsIt s loss.meta.0 loss.place =
    subst (λ o. MatchOption o (KeepsIt s loss.meta.0 loss.place) (λ p. LosesIt s loss.meta.0 loss.place (open_type_of p.ty) (open_spine_of p.spine))) c.in-None.is c.in_ok-pruned.ensures in
    all_kept_next s items c.loop-loss.loss-index no_loss c.loop-loss-test.true c.loop-loss.invariant k

pub returns : goal.returns
returns c =
    let s = c.args.store.now.now in
    let D = c.args.context.now in
    let m = c.args.meta.0 in
    let xs = c.args.pattern.now in
    let N = open_term_of c.args.right.now in
    let items = c.deref-loss-items.result.now in
    none_loses s D m xs N drops_variable c.len.result (map loss_of items) (stands s D m xs N c.requires.fits c.len.result (sym c.len.ensures))
    (subst (λ (ls : List Loss). HasEachLoss c.len.result xs N (map loss_of ls)) (sym c.deref-loss-items.ensures.value) c.in_ok-found.ensures.each)
    (subst (λ (ls : List Loss). AllKept s (map loss_of ls)) (took_all items c.loop-loss.loss-index c.loop-loss-test.false) c.loop-loss.invariant)
