-- What holds of all tuples at the same places holds back: each place has one term, and each given term one value.
use Rattle.std.proofs.Common.{◌≡◌, ℕ, List, [], ◌∷◌, refl, sym, ap, ◌∙◌}
use Rattle.std.specs.Prelude.{true, false, Option, Some, None}
use Rattle.lf.specs.Syntax.{Term, Spine, Skeleton, app, nil}
use Rattle.lf.specs.Substitution.{Image, put, substitute, reduce}
use Rattle.lf_cases.specs.Case.{covered_places, HasArguments}
use Rattle.lf_cases.specs.Pattern.{HasGiven}
use Rattle.lf_cases.proofs.Split.{given_there}
use Rattle.lf_numbered.specs.NumberedArguments.{read_all}
use Rattle.lf_numbered.proofs.NumberedCallsLaws.{some_tuple, some_values}

-- Where each tuple of these terms is one of those at the same places, it is so the other way round: each place has one
-- term.
pub tuples_back : (σ ρ : ℕ → Image) (Ms Ns : List (Option Term)) → covered_places Ns ≡ covered_places Ms → ((T : Spine) → HasArguments σ Ms T → HasArguments ρ Ns T) → (T : Spine) → HasArguments ρ Ns T → HasArguments σ Ms T
tuples_back σ ρ [] [] e h T k = by T k
  where
    by : (T : Spine) → HasArguments ρ [] T → HasArguments σ [] T
    by nil k = tt
    by (app N T) k = k
tuples_back σ ρ [] (Some N ∷ Ns) e h T k = absurd cc
tuples_back σ ρ [] (None ∷ Ns) e h T k = absurd cc
tuples_back σ ρ (Some M ∷ Ms) [] e h T k = absurd cc
tuples_back σ ρ (None ∷ Ms) [] e h T k = absurd cc
tuples_back σ ρ (Some M ∷ Ms) (None ∷ Ns) e h T k = absurd cc
tuples_back σ ρ (None ∷ Ms) (Some N ∷ Ns) e h T k = absurd cc
tuples_back σ ρ (Some M ∷ Ms) (Some N ∷ Ns) e h nil k = k
tuples_back σ ρ (None ∷ Ms) (None ∷ Ns) e h nil k = k
tuples_back σ ρ (Some M ∷ Ms) (Some N ∷ Ns) e h (app P T) (q, k) =
    let (T', h') = some_tuple σ Ms in
    let (r, l) = h (app (substitute reduce σ M) T') (refl, h') in
    let rest : covered_places Ns ≡ covered_places Ms = cc in
    (q ∙ sym r, tuples_back σ ρ Ms Ns rest (λ U u. (h (app (substitute reduce σ M) U) (refl, u)).1) T k)
tuples_back σ ρ (None ∷ Ms) (None ∷ Ns) e h (app P T) k = let rest : covered_places Ns ≡ covered_places Ms = cc in tuples_back σ ρ Ms Ns rest (λ U u. h (app P U) u) T k

one_put : (a b : Skeleton) (M N : Term) → put a M ≡ put b N → M ≡ N
one_put a b M N e = cc

pub given_back : (σ ρ : ℕ → Image) (Ms Ns : List (Option Term)) → covered_places Ns ≡ covered_places Ms → ((τ : ℕ → Image) → HasGiven σ Ms τ → HasGiven ρ Ns τ) → (τ : ℕ → Image) → HasGiven ρ Ns τ → HasGiven σ Ms τ
given_back σ ρ Ms Ns e h τ k i M q =
    let (N, p) = given_there Ms Ns e i M q in
    let (υ, g) = some_values σ Ms in
    let (a, r) = g i M q in
    let (b, s) = h υ g i N p in
    let (c, t) = k i N p in
    (c, t ∙ ap (put c) (one_put b a (substitute reduce ρ N) (substitute reduce σ M) (sym s ∙ r)))

-- Reading leaves the places.
pub places_read : (f : ℕ → Option (ℕ × ℕ)) (Ms : List (Option Term)) → covered_places (read_all f Ms) ≡ covered_places Ms
places_read f [] = refl
places_read f (Some M ∷ Ms) = ap (λ bs. true ∷ bs) (places_read f Ms)
places_read f (None ∷ Ms) = ap (λ bs. false ∷ bs) (places_read f Ms)
