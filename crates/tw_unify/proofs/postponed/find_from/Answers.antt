use Rattle.std.proofs.Common.{◌≡◌, ◌<◌, map, take, Err, refl, sym, subst, arith, rules}
use Rattle.std.specs.Bool.{OnTrue}
use Rattle.tw_metas.specs.View.{equation_of, kept_equation_of}
use Rattle.tw_unify.specs.Sides.{AllLeft, BlamesDepth, IsLeft, MayBeLeft}
use Rattle.tw_unify.specs.Watching.{Known, diary_of}
use Rattle.tw_unify.proofs.Postponing.{all_left_next, blames_one, equation_at, may_be_left_at, still_on}
use Rattle.tw_unify.proofs.Watching.{all_taken, here_in, known_there, length_told, member_at, stands_left, watched_length}
use Rattle.tw_unify.proofs.postponed.find_from.Goals as goal

pub loop-at-init : goal.loop-at-init
loop-at-init c = record {
  watches = c.requires.watches;
  far = λ z. subst (λ n. AllLeft c.args.store.now.now (map kept_equation_of (take n c.equations-equations.result.now))) (sym z) tt;
}

pub index-found-requires : goal.index-found-requires
index-found-requires c =
    let s = c.args.store.now.now in
    let same = watched_length s (diary_of c.loop-at.watch) c.loop-at.invariant.watches in
    let told = length_told c.equations-equations.result.now s.equations c.equations-equations.ensures in
    omega (arith, same, told, c.loop-at-test.true, c.loop-at.watch.found.ok.0)

pub is_left_still-requires-clause-may : goal.is_left_still-requires-clause-may
is_left_still-requires-clause-may c =
    subst (λ e. MayBeLeft c.args.store.now.now (equation_of e)) (sym c.deref.ensures)
    (may_be_left_at c.args.store.now.now c.equations-equations.result.now c.args.store.now.now.equations c.loop-at.at c.index-equations-at.result c.equations-equations.ensures c.loop-at-test.true c.index-equations-at.is c.requires.over.may_be_left)

pub is_left_still-requires-clause-past : goal.is_left_still-requires-clause-past
is_left_still-requires-clause-past c = c.loop-at.invariant.watches.past

pub is_left_still-requires-clause-known : goal.is_left_still-requires-clause-known
is_left_still-requires-clause-known c =
    let s = c.args.store.now.now in
    let items = c.equations-equations.result.now in
    let x = c.index-equations-at.result in
    subst (λ e. Known s (diary_of c.loop-at.watch) c.index-found.result.now (equation_of e)) (sym c.deref.ensures)
    (known_there s (diary_of c.loop-at.watch) s.equations c.loop-at.at c.index-found.result.now (kept_equation_of x) refl c.index-found.ensures
    (equation_at items s.equations c.loop-at.at x c.equations-equations.ensures (here_in items s.equations c.loop-at.at c.equations-equations.ensures c.loop-at-test.true) c.index-equations-at.is) c.loop-at.invariant.watches)

pub returns-in_err-left-clause-found : goal.returns-in_err-left-clause-found
returns-in_err-left-clause-found c =
    let f = c.in_err-left.field-0.0 in
    let e : c.from_residual.result ≡ Err f = search rules in
    rw e (blames_one f c.args.store.now.now c.equations-equations.result.now c.args.store.now.now.equations c.loop-at.at c.index-equations-at.result c.equations-equations.ensures c.loop-at-test.true c.index-equations-at.is (subst (λ e. BlamesDepth f c.args.store.now.now (equation_of e)) c.deref.ensures c.in_err-left.ensures))

pub returns-then-not-left-clause-watches : goal.returns-then-not-left-clause-watches
returns-then-not-left-clause-watches c = c.loop-at.invariant.watches

pub renew-requires : goal.renew-requires
renew-requires c =
    let s = c.args.store.now.now in
    subst (λ n. c.loop-at.at < n) (sym (watched_length s (diary_of c.loop-at.watch) c.loop-at.invariant.watches)) (here_in c.equations-equations.result.now s.equations c.loop-at.at c.equations-equations.ensures c.loop-at-test.true)

pub loop-at-preserved : goal.loop-at-preserved
loop-at-preserved c =
    let s = c.args.store.now.now in
    let items = c.equations-equations.result.now in
    let i = c.loop-at.at in
    let x = c.index-equations-at.result in
    let left : IsLeft s (kept_equation_of x) = still_on c.in_ok-left.left (IsLeft s (kept_equation_of x)) c.if-not-left.false (subst (λ e. OnTrue c.in_ok-left.left (IsLeft s (equation_of e))) c.deref.ensures c.in_ok-left.ensures) in
    let at = equation_at items s.equations i x c.equations-equations.ensures (here_in items s.equations i c.equations-equations.ensures c.loop-at-test.true) c.index-equations-at.is in
    record {
      watches = c.renew.ensures s c.loop-at.invariant.watches (kept_equation_of x, at, stands_left s (kept_equation_of x) left c.requires.over.scoped (member_at s.equations i (kept_equation_of x) at));
      far = λ z. all_left_next s items i x c.loop-at-test.true c.index-equations-at.is (c.loop-at.invariant.far z) left;
    }

pub returns-clause-found : goal.returns-clause-found
returns-clause-found c = λ z. all_taken c.args.store.now.now c.equations-equations.result.now c.args.store.now.now.equations c.loop-at.at c.equations-equations.ensures c.loop-at-test.false (c.loop-at.invariant.far z)

pub returns-clause-watches : goal.returns-clause-watches
returns-clause-watches c = c.loop-at.invariant.watches
