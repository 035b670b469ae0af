use Rattle.std.proofs.Common.{◌≡◌, ◌+◌, [], drop, map, sym, subst, ◌∙◌, rules}
use Rattle.tw_terms.specs.View.{skeleton_of}
use Rattle.tw_elaborate.specs.View.{made, numbers_of}
use Rattle.tw_elaborate.proofs.Freeing.{FreesBefore, frees_deep, frees_end, frees_start, frees_step, no_skeletons_left, one_number_more, skeletons_from, stands_with_free}
use Rattle.tw_elaborate.proofs.Taking.{keeps_same, keeps_then}
use Rattle.tw_hered.specs.declared.fault.HeredFault.TheVariants.{TooDeep}
use Rattle.tw_open.proofs.DeepKinds.{fault_of_call}
use Rattle.tw_elaborate.proofs.frees.new_frees.Goals as goal

pub loop-skeleton-init : goal.loop-skeleton-init
loop-skeleton-init c =
    let ts = map skeleton_of c.args.skeletons.now in
    let s = made c.args.state.now in
    record {
      stands = c.requires.stands;
      keeps = keeps_same c.args.state.now;
      so_far = subst (λ ms. FreesBefore c.args.signature.now ts s ts s (numbers_of ms)) (sym c.new-numbers.ensures.items) (frees_start c.args.signature.now ts s);
    }

pub new_free-requires-clause-stands : goal.new_free-requires-clause-stands
new_free-requires-clause-stands c = c.loop-skeleton.invariant.stands

pub new_free-requires-clause-no_locals : goal.new_free-requires-clause-no_locals
new_free-requires-clause-no_locals c = c.loop-skeleton.invariant.keeps.locals ∙ c.requires.no_locals

pub returns-in_err-meta-clause-keeps : goal.returns-in_err-meta-clause-keeps
returns-in_err-meta-clause-keeps c = keeps_then c.args.state.now c.loop-skeleton.state c.new_free.new.state c.loop-skeleton.invariant.keeps c.in_err-meta.ensures.keeps

pub returns-in_err-push_number-clause-keeps : goal.returns-in_err-push_number-clause-keeps
returns-in_err-push_number-clause-keeps c = keeps_then c.args.state.now c.loop-skeleton.state c.new_free.new.state c.loop-skeleton.invariant.keeps c.in_ok-meta.ensures.keeps

pub loop-skeleton-preserved : goal.loop-skeleton-preserved
loop-skeleton-preserved c =
    let i = c.loop-skeleton.skeleton-index in
    let ks = c.args.skeletons.now in
    let k = c.skeleton-item.result in
    let a = c.loop-skeleton.state in
    let b = c.new_free.new.state in
    let m = c.in_ok-meta.meta in
    let p : a.locals ≡ [] = c.loop-skeleton.invariant.keeps.locals ∙ c.requires.no_locals in
    let q : b.locals ≡ [] = c.in_ok-meta.ensures.keeps.locals ∙ p in
    record {
      stands = stands_with_free c.args.signature.now c.requires.canonical (skeleton_of k) m.0 a b p q c.in_ok-meta.ensures.ok c.loop-skeleton.invariant.stands;
      keeps = keeps_then c.args.state.now a b c.loop-skeleton.invariant.keeps c.in_ok-meta.ensures.keeps;
      so_far = frees_step c.args.signature.now (map skeleton_of ks) (map skeleton_of (drop i ks)) (map skeleton_of (drop (i + 1) ks)) (skeleton_of k) (made c.args.state.now) m.0 (numbers_of c.loop-skeleton.numbers.items) (numbers_of c.push_number.new.numbers.items) a b
          (skeletons_from ks i k c.loop-skeleton-test.true c.skeleton-item.is) (one_number_more c.loop-skeleton.numbers.items c.push_number.new.numbers.items m c.in_ok-push_number.ensures) c.in_ok-meta.ensures.ok c.loop-skeleton.invariant.so_far;
    }

pub returns-clause-ok : goal.returns-clause-ok
returns-clause-ok c =
    let ks = c.args.skeletons.now in
    frees_end c.args.signature.now (map skeleton_of ks) (map skeleton_of (drop c.loop-skeleton.skeleton-index ks)) (made c.args.state.now) (made c.loop-skeleton.state) (numbers_of c.loop-skeleton.numbers.items) (no_skeletons_left ks c.loop-skeleton.skeleton-index c.loop-skeleton-test.false) c.loop-skeleton.invariant.so_far

pub returns-clause-keeps : goal.returns-clause-keeps
returns-clause-keeps c = c.loop-skeleton.invariant.keeps

pub returns-in_err-meta-clause-too_deep : goal.returns-in_err-meta-clause-too_deep
returns-in_err-meta-clause-too_deep c = λ is.
    let i = c.loop-skeleton.skeleton-index in
    let ks = c.args.skeletons.now in
    let k = c.skeleton-item.result in
    frees_deep c.args.signature.now (map skeleton_of ks) (map skeleton_of (drop i ks)) (map skeleton_of (drop (i + 1) ks)) (skeleton_of k) (made c.args.state.now) (made c.loop-skeleton.state) (numbers_of c.loop-skeleton.numbers.items)
    (skeletons_from ks i k c.loop-skeleton-test.true c.skeleton-item.is) (c.in_err-meta.ensures.too_deep (fault_of_call c.from_residual.result c.in_err-meta.field-0.0 TooDeep (search rules) is)) c.loop-skeleton.invariant.so_far
