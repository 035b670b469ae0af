use Rattle.std.proofs.Common.{◌≡◌, ◌+◌, ◌∷◌, ℕ, suc, sym, ap, ◌∙◌, subst, map, drop, get_or, drop-cons, arith}
use Rattle.lf_checks.specs.ModeRows.{first_unmoded, is_moded}
use Rattle.tw_mode.specs.ModeTables.{mode_rows}
use Rattle.tw_terms.specs.declared.canonical.ConstId.{ConstId}
use Rattle.tw_decl.proofs.Rows.{unmoded_first, unmoded_later}
use Rattle.tw_decl.proofs.terminating.first_unmoded.Goals as goal

pub returns-then-not-has_mode : goal.returns-then-not-has_mode
returns-then-not-has_mode c =
    let M = c.args.session.now.checked.modes in
    let fs = c.args.families.now in
    let i = c.loop-family.family-index in
    let zero_id : ConstId = record { 0 = 0 } in
    let f = (get_or fs i zero_id).0 in
    unmoded_first (is_moded (mode_rows M)) f (map (λ (x : ConstId). x.0) (drop i fs)) (map (λ (x : ConstId). x.0) (drop (suc i) fs)) (first_unmoded (is_moded (mode_rows M)) (map (λ (x : ConstId). x.0) fs))
    (ap (map (λ (x : ConstId). x.0)) (drop-cons fs i zero_id c.loop-family-test.true))
    (sym c.has_mode.ensures ∙ c.if-not-has_mode.true) c.loop-family.invariant

pub loop-family-preserved : goal.loop-family-preserved
loop-family-preserved c =
    let M = c.args.session.now.checked.modes in
    let fs = c.args.families.now in
    let i = c.loop-family.family-index in
    let zero_id : ConstId = record { 0 = 0 } in
    let f = (get_or fs i zero_id).0 in
    let next : suc i ≡ i + 1 = omega arith in
    unmoded_later (is_moded (mode_rows M)) f (map (λ (x : ConstId). x.0) (drop i fs)) (map (λ (x : ConstId). x.0) (drop (i + 1) fs)) (first_unmoded (is_moded (mode_rows M)) (map (λ (x : ConstId). x.0) fs))
    (subst (λ (j : ℕ). map (λ (x : ConstId). x.0) (drop i fs) ≡ f ∷ map (λ (x : ConstId). x.0) (drop j fs)) next (ap (map (λ (x : ConstId). x.0)) (drop-cons fs i zero_id c.loop-family-test.true)))
    (sym c.has_mode.ensures ∙ c.if-not-has_mode.false) c.loop-family.invariant
