-- The types of heads.
use Rattle.std.proofs.Common.{◌≡◌, ◌<◌, ℕ, zero, suc, List, [], ◌∷◌, Option, Some, None, refl, sym, ap, ◌∙◌, subst}
use Rattle.std.specs.Prelude.{slice_get}
use Rattle.lf.specs.AtOnce.{shift_by}
use Rattle.lf.specs.SkeletonTyping.{SkeletonAt, TypeBySkeletons}
use Rattle.lf.specs.Skeletons.{family_skeletons}
use Rattle.lf.specs.Syntax.{Head, LfType, Skeleton, Term, constant, metavariable, rename_type, variable, weaken}
use Rattle.lf.specs.Typing.{IsSignature, Signature, TypeAt}
use Rattle.lf.specs.Variables.{onto}
use Rattle.lf.proofs.SkeletonTypes.{renaming_keeps_types_by_skeletons}
use Rattle.lf_unification.specs.OpenTyping.{MetavariablesInType, OpenIsType, weaken_past}
use Rattle.lf_unification.specs.Patterns.{local_skeletons}
use Rattle.lf_unification.proofs.PruneTyped.{closed_type}
use Rattle.tw_putting.specs.Fits.{declared_skeletons}
use Rattle.tw_putting.proofs.Skeletons.{rigid_by_skeletons, type_declared, variable_by_skeletons}
use Rattle.tw_unify.proofs.Variables.{variable_has_type}
use Rattle.tests_ready.specs.Checked.{HasSkeletons, HeadIsTyped, Stands, VariableHasType, all}

pub variable_typed : (Σ : Signature) (D : List LfType) (i by : ℕ) (B A : LfType) → by ≡ suc i → Some B ≡ slice_get D i → A ≡ rename_type (shift_by by) B → VariableHasType D i A
variable_typed Σ D i by B A b e a = (variable_has_type Σ D (variable i) i by B A refl b e a).1 (λ m. None)

module _ (Σ : Signature) (Ψ : ℕ → Option LfType) where
  -- a type of the empty context is the same everywhere
  pub closed : (A : LfType) → OpenIsType Σ [] Ψ all [] A → (ρ : ℕ → ℕ) → rename_type ρ A ≡ A
  closed A a ρ = closed_type Σ Ψ all [] ρ (λ i X g. absurd g) A a

  anywhere : (A : LfType) → OpenIsType Σ [] Ψ all [] A → (D : List LfType) → A ≡ weaken_past D A
  anywhere A a [] = refl
  anywhere A a (B ∷ D) = sym (closed A a suc) ∙ ap weaken (anywhere A a D)

  closed_skeletons : (A : LfType) → OpenIsType Σ [] Ψ all [] A → (D : List LfType) → HasSkeletons Σ Ψ D A
  closed_skeletons A a D = subst (HasSkeletons Σ Ψ D) (closed A a (λ i. i)) (renaming_keeps_types_by_skeletons (family_skeletons Σ) (declared_skeletons Σ Ψ) [] (local_skeletons D []) (λ i. i) A (λ i t h. absurd h) (type_declared Σ Ψ all [] A a))

  pub constant_head : IsSignature Σ → (n : ℕ) (D : List LfType) (h : Head) (c : ℕ) (A B : LfType) → Stands Σ Ψ n D → h ≡ constant c → Some A ≡ Σ.types c → B ≡ A → HeadIsTyped Σ Ψ n D h B
  constant_head ok n D h c A B f e g b = subst (λ k. HeadIsTyped Σ Ψ n D k B) (sym e) (subst (HeadIsTyped Σ Ψ n D (constant c)) (sym b) (record {
    typed = sym g;
    below = tt;
    skeletons = rigid_by_skeletons Σ Ψ ok all D (constant c) A tt f.locals (sym g);
  }))

  pub variable_head : (n : ℕ) (D : List LfType) (h : Head) (i : ℕ) (A : LfType) → Stands Σ Ψ n D → h ≡ variable i → VariableHasType D i A → HeadIsTyped Σ Ψ n D h A
  variable_head n D h i A f e g = subst (λ k. HeadIsTyped Σ Ψ n D k A) (sym e) (record {
    typed = g;
    below = tt;
    skeletons = variable_by_skeletons Σ Ψ D i A f.locals g;
  })

  pub metavariable_head : (n : ℕ) (D : List LfType) (h : Head) (m : ℕ) (A B : LfType) → Stands Σ Ψ n D → h ≡ metavariable m → m < n → Ψ m ≡ Some A → B ≡ A → HeadIsTyped Σ Ψ n D h B
  metavariable_head n D h m A B f e l g b =
      let a = (f.below m A l g).0 in
      subst (λ k. HeadIsTyped Σ Ψ n D k B) (sym e) (subst (HeadIsTyped Σ Ψ n D (metavariable m)) (sym b) (record {
        typed = (A, g, anywhere A a D);
        below = l;
        skeletons = closed_skeletons A a D;
      }))
