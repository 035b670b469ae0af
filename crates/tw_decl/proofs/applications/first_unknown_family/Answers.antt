use Rattle.std.proofs.Common.{◌≡◌, ◌+◌, ◌∷◌, ℕ, suc, refl, subst, map, drop, arith}
use Rattle.tw_names.specs.Earliest.{earliest}
use Rattle.tw_decl.specs.Applications.{families_named, unknown_names}
use Rattle.tw_decl.specs.Steps.{application_of}
use Rattle.tw_decl.proofs.Naming.{families_next}
use Rattle.tw_decl.proofs.Ordered.{left_first}
use Rattle.tw_decl.proofs.applications.first_unknown_family.Goals as goal

pub loop-application-preserved : goal.loop-application-preserved
loop-application-preserved c =
    let v = c.args.session.now in
    let xs = c.args.applications.now in
    let i = c.loop-application.application-index in
    let x = c.application-item.result in
    let next : suc i ≡ i + 1 = omega arith in
    families_next v (application_of x) (map application_of (drop i xs)) (map application_of (drop (i + 1) xs)) c.loop-application.found c.in_ok-found.found (earliest c.args.before (unknown_names v (families_named (map application_of xs))))
    (subst (λ (j : ℕ). map application_of (drop i xs) ≡ application_of x ∷ map application_of (drop j xs)) next (left_first application_of xs xs i x refl c.loop-application-test.true c.application-item.is))
    c.in_ok-found.ensures c.loop-application.invariant
