-- The tuples of a case with block variables by number are tuples of the answer's case, under the ground instance that is read back.
use Rattle.std.specs.Prelude.{◌≡◌, ℕ, ◌+◌, List, [], ◌∷◌, length, Bool, Option, Some, None}
use Rattle.lf.specs.Syntax.{Term, Spine, LfType, rename}
use Rattle.lf.specs.Skeletons.{constant_skeletons, context_skeletons}
use Rattle.lf.specs.Subordination.{Block}
use Rattle.lf.specs.Substitution.{Image, substitute, reduce}
use Rattle.lf.specs.Typing.{Signature}
use Rattle.lf.specs.Variables.{onto}
use Rattle.lf.specs.Worlds.{World, instance, lift_over}
use Rattle.lf_unification.specs.Dependency.{ListedMetavariable}
use Rattle.lf_unification.specs.Offering.{lambda_over}
use Rattle.lf_unification.specs.Unifiers.{Store}
use Rattle.lf_cases.specs.Missing.{put_in}
use Rattle.lf_coverage.specs.Heads.{HaveSkeletons}
use Rattle.lf_coverage.specs.SplitStore.{answer_values}
use Rattle.lf_numbered.specs.NumberedArguments.{HasNumberedArguments}
use Rattle.lf_numbered.specs.NumberedCase.{NumberedCase}
use Rattle.lf_numbered.specs.OwnTerms.{blocks_of}
use Rattle.lf_numbered.specs.OwnValuesAnswer.{AnswerInstance}
use Rattle.lf_numbered.specs.Reading.{read, entry_reading}

-- Each of these terms, closed over the local context L and read by g, has under the values σ what it has with the values τ put in, read back.
abbrev pub AreReadFrom : (ℕ → Option (ℕ × ℕ)) → (ℕ → Image) → (ℕ → Option (ℕ × ℕ)) → (ℕ → ℕ) → (ℕ → Image) → List LfType → List (Option Term) → Type 0
AreReadFrom g σ f ρ τ L [] = Unit {0}
AreReadFrom g σ f ρ τ L (Some M ∷ Ms) = (substitute reduce σ (read g (lambda_over L M)) ≡ rename ρ (read f (substitute reduce τ (lambda_over L M)))) × AreReadFrom g σ f ρ τ L Ms
AreReadFrom g σ f ρ τ L (None ∷ Ms) = AreReadFrom g σ f ρ τ L Ms

-- The case D has the local context and the arguments of C with the answer's values put in. Then each tuple that C holds under σ is one that D holds under
-- the instance that is read back.
abbrev pub TupleIsOfAnswer : Type 0
TupleIsOfAnswer = (Σ₁ Σ' : Signature) (V : List Block) (S : ℕ → Bool) (G : List LfType) (w : World Σ' V S G) (first : ℕ) (θ : ℕ → ℕ → Image) (f : ℕ → Option (ℕ × ℕ)) (ρ : ℕ → ℕ) (k : ℕ) (σ τ : ℕ → Image) (C D : NumberedCase) (Ψ : ℕ → Option LfType) (after : Store) (order : List ListedMetavariable) (β : ℕ → Option Term) → HaveSkeletons (constant_skeletons Σ₁) (context_skeletons (onto C.local C.variables)) C.arguments → AreReadFrom (entry_reading first (blocks_of C.blocks) θ (length C.variables)) σ f ρ τ C.local C.arguments → (a : AnswerInstance Σ₁ w first θ f ρ C.variables k τ D Ψ after order β) → D.local ≡ instance C.local (λ i. answer_values after order (i + k)) → D.arguments ≡ put_in (lift_over C.local (λ i. answer_values after order (i + k))) C.arguments → (T : Spine) → HasNumberedArguments first C θ σ T → HasNumberedArguments first D θ a.values_of T
