use Rattle.std.proofs.Common.{◌≡◌, ◌+◌, ◌∷◌, ℕ, None, suc, sym, subst, drop, drop-cons, arith}
use Rattle.tw_names.specs.Earliest.{earliest}
use Rattle.tw_parse.specs.declared.decl.ExtName.{ExtName}
use Rattle.tw_decl.specs.Applications.{unknown_names}
use Rattle.tw_decl.proofs.Naming.{names_next}
use Rattle.tw_decl.proofs.applications.first_unknown.Goals as goal

pub loop-name-preserved : goal.loop-name-preserved
loop-name-preserved c =
    let v = c.args.session.now in
    let xs = c.args.names.now in
    let i = c.loop-name.name-index in
    let x = c.name-item.result in
    let next : suc i ≡ i + 1 = omega arith in
    names_next v x (drop i xs) (drop (i + 1) xs) c.loop-name.found c.in_ok-found.found (earliest None (unknown_names v xs))
    (subst (λ (j : ℕ). drop i xs ≡ x ∷ drop j xs) next (subst (λ (y : ExtName). drop i xs ≡ y ∷ drop (suc i) xs) (sym c.name-item.is) (drop-cons xs i x c.loop-name-test.true)))
    c.in_ok-found.ensures c.loop-name.invariant
