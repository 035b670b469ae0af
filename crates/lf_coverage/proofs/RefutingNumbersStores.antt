-- What solving finds for a head, in a program's own numbers for its metavariables.
use Rattle.std.proofs.Common.{◌≡◌, ℕ, ◌+◌, refl, sym, ap, ◌∙◌, subst}
use Rattle.lf_unification.specs.Solving.{Solved}
use Rattle.lf_unification.specs.Steps.{CanRefute}
use Rattle.lf_unification.specs.Unifiers.{Store}
use Rattle.lf_cases.specs.Reached.{arguments_count}
use Rattle.lf_coverage.specs.RefutingNumbersStores.{NumberedStoreIsFound}
use Rattle.lf_coverage.specs.SplitStore.{solved_case_at, split_store}
use Rattle.lf_coverage.proofs.RenumberedNumbers.{declared_below}
use Rattle.lf_coverage.proofs.RenumberedScope.{numbers_are_renumbering}
use Rattle.lf_coverage.proofs.RenumberedSplit.{declared_there, read_alike}
use Rattle.lf_coverage.proofs.StoreSkeletons.{stores_have_skeletons}
use Rattle.lf_coverage.proofs.TypedCases.{split_store_is_ready}

pub numbered_store_is_found : NumberedStoreIsFound
numbered_store_is_found Σ ok W typed below C tc tl x X at h sh nj K e n fresh g different t numbered =
    let before : Store = split_store below x X h.items h.moved h.head h.type K in
    let moved : ℕ = h.moved + arguments_count h.type in
    let (π, under, q) = numbers_are_renumbering Σ before (split_store_is_ready Σ ok W typed below C tc x X at h.items h.moved h.head h.type sh K e).1 ((stores_have_skeletons Σ ok W typed C).1 below tc x X at h.items h.moved h.head h.type sh K e) n fresh g different t numbered in (
      (λ c. record { kind = K; of_family = e; no_block = nj; numbers = π; finds = subst (CanRefute Σ) q c }),
      λ after s.
          let (u, r) = subst (λ y. (u : Solved Σ y after) × (u.well_formed.order ≡ s.well_formed.order)) q (s, refl) in
          let same : solved_case_at C (λ i. g (i + moved)) after s.well_formed.order ≡ solved_case_at C (λ i. π.to (i + moved)) after s.well_formed.order = read_alike Σ W C tc tl after s.well_formed.order (λ i. g (i + moved)) (λ i. π.to (i + moved)) (λ i B b. let (Y, y) = declared_there Σ W below C.items X h.items h.moved h.head h.type sh nj i B b in sym (under (i + moved) (declared_below π before.metavariables n fresh (i + moved) Y y))) in
          record { kind = K; of_family = e; no_block = nj; numbers = π; finds = (after, u, same ∙ ap (solved_case_at C (λ i. π.to (i + moved)) after) (sym r)) },
    )
