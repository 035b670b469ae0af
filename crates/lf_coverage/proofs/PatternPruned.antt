-- A store of patterns with one metavariable more, and what is pruned.
use Rattle.std.proofs.Common.{◌≡◌, ℕ, zero, suc, ◌⊎◌, List, [], ◌∷◌, inl, inr, refl, sym, ap, ◌∙◌, subst}
use Rattle.std.specs.Prelude.{Option, Some, None}
use Rattle.lf.specs.Syntax.{metavariable, root, LfType, pi, atom, Skeleton, skeleton, rename_type, weaken}
use Rattle.lf.specs.Typing.{Signature, TypeAt}
use Rattle.lf.specs.Variables.{onto}
use Rattle.lf_unification.specs.Offering.{pi_over}
use Rattle.lf_unification.specs.OpenTyping.{set_at}
use Rattle.lf_unification.specs.Patterns.{Injective, context_under, lambdas_of, local_skeletons, past, pattern, pattern_renaming, skeleton_target}
use Rattle.lf_unification.specs.Pruning.{PrunedType, kept_renaming}
use Rattle.lf_unification.specs.Unifiers.{Binding, Equation}
use Rattle.lf_unification.proofs.Agree.{set_here, set_cases}
use Rattle.lf_unification.proofs.Offer.{decide, set_other}
use Rattle.lf_unification.proofs.Prune.{SkeletonsBack}
use Rattle.lf_unification.proofs.Shrink.{SkeletonsBack-past, SkeletonsBack-pattern}
use Rattle.lf_coverage.specs.PatternStores.{BindingsArePatterns, IsPatternTerm, IsPatternType, SidesArePatterns, TypesArePatterns}
use Rattle.lf_coverage.proofs.PatternMoves.{beyond_is, past_over}
use Rattle.lf_coverage.proofs.PatternSides.{closed}
use Rattle.lf_coverage.proofs.PatternTerms.{Moves, term_grows, type_back, type_grows, type_renamed}
use mathlib.Core.Path.{fun_ext}

-- more is declared
module _ (Σ : Signature) (Ψ : ℕ → Option LfType) (n : ℕ) (X : LfType) (new : Ψ n ≡ None) where
  abbrev Φ : ℕ → Option LfType
  Φ = set_at n (Some X) Ψ

  pub grows : (m : ℕ) (A : LfType) → Ψ m ≡ Some A → Φ m ≡ Some A
  grows m A e = by (decide m n)
    where
      none : {Y : LfType} → None ≡ Some Y → ⊥
      none q = cc

      by : (m ≡ n) ⊎ (m ≡ n → ⊥) → Φ m ≡ Some A
      by (inl q) = absurd (none (sym new ∙ ap Ψ (sym q) ∙ e))
      by (inr h) = set_other n (Some X) Ψ m h ∙ e

  pub bindings_grow : (bs : List Binding) → BindingsArePatterns Σ Ψ bs → BindingsArePatterns Σ Φ bs
  bindings_grow [] h = tt
  bindings_grow (b ∷ bs) ((A, e, p), h) = ((A, grows b.of A e, term_grows Σ Ψ Φ grows [] b.value (skeleton A) p), bindings_grow bs h)

  pub sides_grow : (es : List Equation) → SidesArePatterns Σ Ψ es → SidesArePatterns Σ Φ es
  sides_grow [] h = tt
  sides_grow (e ∷ es) ((p, q), h) = ((term_grows Σ Ψ Φ grows (local_skeletons e.local []) e.left (skeleton e.of_type) p, term_grows Σ Ψ Φ grows (local_skeletons e.local []) e.right (skeleton e.of_type) q), sides_grow es h)

  pub types_grow : TypesArePatterns Σ Ψ → IsPatternType Σ Ψ [] X → TypesArePatterns Σ Φ
  types_grow h x m A e = by (set_cases n (Some X) Ψ m)
    where
      some_same : {P Q : LfType} → Some P ≡ Some Q → P ≡ Q
      some_same q = cc

      by : (m ≡ n) ⊎ (set_at n (Some X) Ψ m ≡ Ψ m) → IsPatternType Σ (set_at n (Some X) Ψ) [] A
      by (inl q) = subst (IsPatternType Σ (set_at n (Some X) Ψ) []) (some_same (sym (set_here n (Some X) Ψ) ∙ ap (set_at n (Some X) Ψ) (sym q) ∙ e)) (type_grows Σ Ψ (set_at n (Some X) Ψ) grows [] X x)
      by (inr q) = type_grows Σ Ψ (set_at n (Some X) Ψ) grows [] A (h m A (sym q ∙ e))

-- what is pruned
pub over_under : (L : List LfType) (P : LfType) (Γ : List Skeleton) → context_under (skeleton (pi_over L P)) Γ ≡ context_under (skeleton P) (local_skeletons L Γ)
over_under [] P Γ = refl
over_under (A ∷ L) P Γ = over_under L (pi A P) Γ

pub over_target : (L : List LfType) (P : LfType) → skeleton_target (skeleton (pi_over L P)) ≡ skeleton_target (skeleton P)
over_target [] P = refl
over_target (A ∷ L) P = over_target L (pi A P)

module _ (Σ : Signature) (Ψ : ℕ → Option LfType) where
  abbrev LocalsArePatterns : List LfType → Type 0
  LocalsArePatterns [] = Unit {0}
  LocalsArePatterns (A ∷ L) = LocalsArePatterns L × IsPatternType Σ Ψ (local_skeletons L []) A

  over_of : (L : List LfType) (P : LfType) → IsPatternType Σ Ψ [] (pi_over L P) → LocalsArePatterns L × IsPatternType Σ Ψ (local_skeletons L []) P
  over_of [] P h = (tt, h)
  over_of (A ∷ L) P h = let (l, (a, p)) = over_of L (pi A P) h in ((l, a), p)

  over_from : (L : List LfType) (P : LfType) → LocalsArePatterns L → IsPatternType Σ Ψ (local_skeletons L []) P → IsPatternType Σ Ψ [] (pi_over L P)
  over_from [] P l p = p
  over_from (A ∷ L) P (l, a) p = over_from L (pi A P) l (a, p)

  one_more : (Γ : List Skeleton) (a : Skeleton) → Moves Γ (a ∷ Γ) suc
  one_more Γ a = record { distinct = λ i j e. cc; outer = λ i. refl }

  each_at : (L : List LfType) → LocalsArePatterns L → (i : ℕ) (Y : LfType) → TypeAt (onto L []) i Y → IsPatternType Σ Ψ (local_skeletons L []) Y
  each_at [] l i Y g = absurd g
  each_at (A ∷ L) (l, a) zero Y e = subst (IsPatternType Σ Ψ (skeleton A ∷ local_skeletons L [])) (sym e) (type_renamed Σ Ψ (local_skeletons L []) (skeleton A ∷ local_skeletons L []) suc A (one_more (local_skeletons L []) (skeleton A)) (λ i t h. h) a)
  each_at (A ∷ L) (l, a) (suc i) Y (B, g, e) = subst (IsPatternType Σ Ψ (skeleton A ∷ local_skeletons L [])) (sym e) (type_renamed Σ Ψ (local_skeletons L []) (skeleton A ∷ local_skeletons L []) suc B (one_more (local_skeletons L []) (skeleton A)) (λ i t h. h) (each_at L l i B g))

  each_from : (L : List LfType) → ((i : ℕ) (Y : LfType) → TypeAt (onto L []) i Y → IsPatternType Σ Ψ (local_skeletons L []) Y) → LocalsArePatterns L
  each_from [] h = tt
  each_from (A ∷ L) h = (
    each_from L (λ i B g. type_back Σ Ψ (local_skeletons L []) (skeleton A ∷ local_skeletons L []) suc B (one_more (local_skeletons L []) (skeleton A)) (λ i t k. k) (h (suc i) (weaken B) (B, g, refl))),
    type_back Σ Ψ (local_skeletons L []) (skeleton A ∷ local_skeletons L []) suc A (one_more (local_skeletons L []) (skeleton A)) (λ i t k. k) (h zero (weaken A) refl),
  )

  module _ (n dropped : ℕ) (p : PrunedType Ψ n dropped) where
    abbrev X : LfType
    X = pi_over p.local (atom p.family p.indices)

    abbrev X' : LfType
    X' = pi_over p.kept_local (atom p.family p.kept_indices)

    abbrev ρ : ℕ → ℕ
    ρ = kept_renaming X X' p.kept

    kept_moves : Moves (local_skeletons p.kept_local []) (local_skeletons p.local []) ρ
    kept_moves = record { distinct = p.distinct; outer = λ i. sym (beyond_is p.local i) ∙ sym (p.part.outer i) ∙ ap ρ (beyond_is p.kept_local i) }

    kept_back : SkeletonsBack (local_skeletons p.kept_local []) (local_skeletons p.local []) ρ
    kept_back = subst (λ Γ. SkeletonsBack Γ (local_skeletons p.local []) ρ) (over_under p.kept_local (atom p.family p.kept_indices) []) (subst (λ Δ. SkeletonsBack (context_under (skeleton X') []) Δ ρ) (over_under p.local (atom p.family p.indices) []) (SkeletonsBack-pattern [] (context_under (skeleton X) []) (skeleton X') p.kept (past (skeleton X)) (SkeletonsBack-past (skeleton X) []) (p.places [])))

    pub pruned_pattern : IsPatternType Σ Ψ [] X → IsPatternType Σ Ψ [] X'
    pruned_pattern h =
        let (l, a) = over_of p.local (atom p.family p.indices) h in
        over_from p.kept_local (atom p.family p.kept_indices)
        (each_from p.kept_local (λ i Y g. type_back Σ Ψ (local_skeletons p.kept_local []) (local_skeletons p.local []) ρ Y kept_moves kept_back (each_at p.local l (ρ i) (rename_type ρ Y) (p.part.types i Y g))))
        (type_back Σ Ψ (local_skeletons p.kept_local []) (local_skeletons p.local []) ρ (atom p.family p.kept_indices) kept_moves kept_back (subst (IsPatternType Σ Ψ (local_skeletons p.local [])) p.same_target a))

    -- the value
    pub pruned_value : (n' : ℕ) → Ψ n' ≡ None → IsPatternTerm Σ (set_at n' (Some X') Ψ) [] (lambdas_of (skeleton X) (root (metavariable n') (pattern (skeleton X') p.kept))) (skeleton X)
    pruned_value n' new = closed Σ (set_at n' (Some X') Ψ) (skeleton X) [] (root (metavariable n') (pattern (skeleton X') p.kept)) (
      X',
      set_here n' (Some X') Ψ,
      over_target p.kept_local (atom p.family p.kept_indices) ∙ sym (over_target p.local (atom p.family p.indices)),
      record {
        variables = p.kept;
        same = refl;
        places = p.places [];
        distinct = subst (λ τ. Injective (pattern_renaming (skeleton X') p.kept τ)) (fun_ext (past_over (skeleton X) [])) p.distinct;
      },
    )
