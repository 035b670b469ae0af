-- A metavariable on distinct universal variables is replaced by its value on these: what existential variables are applied to stays so.
use Rattle.std.proofs.Common.{◌≡◌, ℕ, zero, suc, List, [], ◌∷◌, length, refl, sym, ap, ◌∙◌, subst}
use Rattle.std.specs.Prelude.{Bool, true, false, Option, Some}
use Rattle.lf.specs.Syntax.{constant, variable, metavariable, Term, Spine, lambda, root, nil, app, LfType, Skeleton, base, arrow, skeleton, rename}
use Rattle.lf.specs.Typing.{Signature}
use Rattle.lf.specs.Variables.{hide, nothing}
use Rattle.lf.proofs.Checker.{both_of}
use Rattle.lf_checks.specs.Strict.{head_variable, pattern_arguments}
use Rattle.lf_unification.specs.OpenTyping.{MetavariablesInSpine}
use Rattle.lf_unification.specs.Patterns.{PatternFits, context_under, eta_variable, extend_renaming, pattern, pattern_renaming}
use Rattle.lf_unification.proofs.BindTyped.{in_pattern}
use Rattle.lf_coverage.specs.Indices.{spine_has_patterns, takes, term_has_patterns, universal}
use Rattle.lf_coverage.specs.PatternStores.{AreDistinct, ArePatternArguments, IsPatternTerm}
use Rattle.lf_coverage.specs.TermMatching.{bound, over}
use Rattle.lf_coverage.proofs.IndicesRenamed.{Renames, passed_over, term_renames}
use Rattle.lf_coverage.proofs.IndicesTests.{Passes, not_false, not_true, passes_from, passes_more, passes_test}
use Rattle.lf_coverage.proofs.PatternTests.{distinct_pass, eta_head}

-- nothing is existential
abbrev pub AllUniversal : (ℕ → Bool) → Type 0
AllUniversal E = (i : ℕ) → E i ≡ false

pub universal_under : (E : ℕ → Bool) → AllUniversal E → AllUniversal (hide E)
universal_under E h zero = refl
universal_under E h (suc i) = h i

-- what passes has no metavariables
pub passes_plain : (R : ℕ → Bool) (seen : List ℕ) (S : Spine) → Passes R seen S → MetavariablesInSpine (λ m. ⊥) S
passes_plain R seen nil p = tt
passes_plain R seen (app M S) (y, b, q, r, f, p) = (subst (Rattle.lf_unification.specs.OpenTyping.MetavariablesIn (λ m. ⊥)) (sym q) (in_pattern (λ m. ⊥) (arrow b (base zero)) (y ∷ [])).0, passes_plain R (y ∷ seen) S p)

-- the variables of a pattern that passes
abbrev pub AllPass : (ℕ → Bool) → List ℕ → Type 0
AllPass R [] = Unit {0}
AllPass R (x ∷ xs) = (R x ≡ true) × AllPass R xs

pub variable_one : (a b : Skeleton) (x y : ℕ) → eta_variable a x ≡ eta_variable b y → x ≡ y
variable_one a b x y e = one (sym (eta_head a zero x nil) ∙ ap (head_variable zero) e ∙ eta_head b zero y nil)
  where
    one : Some x ≡ Some y → x ≡ y
    one e = cc

pub all_pass : (R : ℕ → Bool) (seen : List ℕ) (Γ : List Skeleton) (t : Skeleton) (xs : List ℕ) → PatternFits Γ t xs → Passes R seen (pattern t xs) → AllPass R xs
all_pass R seen Γ (base c) [] p h = tt
all_pass R seen Γ (base c) (x ∷ xs) p h = absurd p
all_pass R seen Γ (arrow a b) [] p h = tt
all_pass R seen Γ (arrow a b) (x ∷ xs) (g, p) (y, c, q, r, f, h) = (subst (λ z. R z ≡ true) (sym (variable_one a c x y q)) r, all_pass R (y ∷ seen) Γ b xs p h)

-- so nothing that they stand for is existential
renamed_universal : (E : ℕ → Bool) (t : Skeleton) (xs : List ℕ) (τ : ℕ → ℕ) → AllPass (universal E) xs → ((i : ℕ) → E (τ i) ≡ false) → (i : ℕ) → E (pattern_renaming t xs τ i) ≡ false
renamed_universal E (base c) xs τ a h i = h i
renamed_universal E (arrow a b) [] τ p h i = h i
renamed_universal E (arrow a b) (x ∷ xs) τ (r, p) h i = renamed_universal E b xs (extend_renaming x τ) p next i
  where
    next : (i : ℕ) → E (extend_renaming x τ i) ≡ false
    next zero = not_true (E x) r
    next (suc i) = h i

module _ (Σ : Signature) (Φ : ℕ → Option LfType) where
  -- a term of patterns, where all is universal
  mutual
    pub pattern_has : (Γ : List Skeleton) (E : ℕ → Bool) → AllUniversal E → (M : Term) (t : Skeleton) → IsPatternTerm Σ Φ Γ M t → term_has_patterns E M ≡ true
    pattern_has Γ E u (lambda M) (arrow a b) p = pattern_has (a ∷ Γ) (hide E) (universal_under E u) M b p
    pattern_has Γ E u (lambda M) (base c) p = absurd p
    pattern_has Γ E u (root h S) (arrow a b) p = absurd p
    pattern_has Γ E u (root (constant k) S) (base c) (t, e, s) = pattern_spine_has Γ E u S t (base c) s
    pattern_has Γ E u (root (variable i) S) (base c) (t, e, s) = passed_over (E i) (pattern_arguments (takes E i) [] S) (spine_has_patterns E S) (u i) (pattern_spine_has Γ E u S t (base c) s)
    pattern_has Γ E u (root (metavariable m) S) (base c) (A, e, q, d) = passes_test (universal E) [] S (passes_more (bound (length Γ)) (universal E) [] [] S (λ y r. not_false (E y) (u y)) (λ y r f. refl) (passes_from (bound (length Γ)) [] S (distinct_pass Γ (skeleton A) S d)))

    pattern_spine_has : (Γ : List Skeleton) (E : ℕ → Bool) → AllUniversal E → (S : Spine) (t u : Skeleton) → ArePatternArguments Σ Φ Γ S t u → spine_has_patterns E S ≡ true
    pattern_spine_has Γ E u nil t v p = refl
    pattern_spine_has Γ E u (app M S) (arrow a b) v (p, s) = both_of (term_has_patterns E M) (spine_has_patterns E S) (pattern_has Γ E u M a p) (pattern_spine_has Γ E u S b v s)
    pattern_spine_has Γ E u (app M S) (base c) v p = absurd p

  -- the body of a value on a pattern
  pub body_has : (Γ : List Skeleton) (E : ℕ → Bool) → ((j : ℕ) → E (over (length Γ) j) ≡ false) → (t : Skeleton) (S : Spine) → (d : AreDistinct Γ t S) → pattern_arguments (universal E) [] S ≡ true → (W : Term) (c : ℕ) → IsPatternTerm Σ Φ (context_under t []) W (base c) → term_has_patterns E (rename (pattern_renaming t d.variables (over (length Γ))) W) ≡ true
  body_has Γ E o t S d e W c w =
      let xs : List ℕ = d.variables in
      let a : AllPass (universal E) xs = all_pass (universal E) [] Γ t xs d.places (subst (Passes (universal E) []) d.same (passes_from (universal E) [] S e)) in
      let u : (i : ℕ) → E (pattern_renaming t xs (over (length Γ)) i) ≡ false = renamed_universal E t xs (over (length Γ)) a o in
      let r : Renames nothing E (pattern_renaming t xs (over (length Γ))) = record { kind = u; apart = λ i j f g q. d.distinct i j q; order = λ i j f g n. absurd (no f) } in
      term_renames nothing E (pattern_renaming t xs (over (length Γ))) r W (pattern_has (context_under t []) nothing (λ i. refl) W (base c) w)
    where
      no : false ≡ true → ⊥
      no e = cc
