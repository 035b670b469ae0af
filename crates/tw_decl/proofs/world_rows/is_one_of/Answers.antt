use Rattle.std.proofs.Common.{◌≡◌, ◌+◌, ◌∷◌, ◌∙◌, ℕ, suc, sym, ap, subst, drop, drop-cons, get_or, map, arith, true≢false}
use Rattle.std.proofs.lemmas.Bool.{eq-eqb, eqb-true}
use Rattle.tw_terms.specs.declared.canonical.ConstId.{ConstId}
use Rattle.tw_decl.proofs.TakenOut.{found_here, not_here}
use Rattle.tw_decl.proofs.world_rows.is_one_of.Goals as goal

pub returns-then-eq : goal.returns-then-eq
returns-then-eq c =
    let xs = c.args.families.now in
    let i = c.loop-other.other-index in
    let zero_id : ConstId = record { 0 = 0 } in
    let x = get_or xs i zero_id in
    let d = ap (map (λ (f : ConstId). f.0)) (drop-cons xs i zero_id c.loop-other-test.true) in
    sym (sym c.loop-other.invariant ∙ found_here c.args.family.0 (map (λ (f : ConstId). f.0) (drop i xs)) (map (λ (f : ConstId). f.0) (drop (suc i) xs)) x.0 d (eqb-true x.0 c.args.family.0 (sym c.if-eq.ensures)))

pub loop-other-preserved : goal.loop-other-preserved
loop-other-preserved c =
    let xs = c.args.families.now in
    let i = c.loop-other.other-index in
    let zero_id : ConstId = record { 0 = 0 } in
    let x = get_or xs i zero_id in
    let next : suc i ≡ i + 1 = omega arith in
    let d = subst (λ (j : ℕ). map (λ (f : ConstId). f.0) (drop i xs) ≡ x.0 ∷ map (λ (f : ConstId). f.0) (drop j xs)) next (ap (map (λ (f : ConstId). f.0)) (drop-cons xs i zero_id c.loop-other-test.true)) in
    not_here c.args.family.0 (map (λ (f : ConstId). f.0) (drop i xs)) (map (λ (f : ConstId). f.0) (drop (i + 1) xs)) x.0 d (λ e. true≢false (sym (eq-eqb x.0 c.args.family.0 e) ∙ sym c.if-eq.ensures)) ∙ c.loop-other.invariant
