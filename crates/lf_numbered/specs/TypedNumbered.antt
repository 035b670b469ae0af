-- Typed cases whose block variables have numbers: all their terms stand on own terms.
use Rattle.std.specs.Prelude.{ℕ, List, [], ◌∷◌, Option}
use Rattle.lf.specs.Syntax.{Spine, LfType}
use Rattle.lf.specs.Skeletons.{constant_skeletons, context_skeletons}
use Rattle.lf.specs.Typing.{Signature, IsContext, IsSignature}
use Rattle.lf.specs.Variables.{onto}
use Rattle.lf.specs.Subordination.{Block, AreTypedBlocks}
use Rattle.lf_cases.specs.Case.{Case}
use Rattle.lf_coverage.specs.Heads.{HaveSkeletons, IsTypedCase}
use Rattle.lf_coverage.specs.TypedLocal.{HasTypedLocal}
use Rattle.lf_numbered.specs.EntryConstants.{with_entries, IsFreeFrom}
use Rattle.lf_numbered.specs.NumberedCase.{NumberedCase, AreTypedVariables}
use Rattle.lf_numbered.specs.Numbering.{numbered}
use Rattle.lf_numbered.specs.OwnTerms.{blocks_of, own_terms, weaken_own, TypeOnOwnTerms, AllOnOwnTerms}

-- own terms under a local context, and a local context on own terms
abbrev pub own_over : List LfType → (ℕ → Option Spine) → ℕ → Option Spine
own_over [] o = o
own_over (A ∷ D) o = λ c. weaken_own (own_over D o c)

abbrev pub LocalOnOwnTerms : (ℕ → Option Spine) → List LfType → Type 0
LocalOnOwnTerms o [] = Unit {0}
LocalOnOwnTerms o (A ∷ D) = LocalOnOwnTerms o D × TypeOnOwnTerms (own_over D o) A

-- Variables and local context are typed over the signature with entries, the terms have skeletons, and all is on own terms.
pub record IsTypedNumberedCase (Σ : Signature) (first : ℕ) (W : List Block) (C : NumberedCase) : Type 0 where
  pub variables : AreTypedVariables Σ first W C
  pub local : IsContext (with_entries Σ first (blocks_of C.blocks)) (onto C.local C.variables)
  pub local_on_own : LocalOnOwnTerms (own_terms first C.blocks) C.local
  pub given : HaveSkeletons (constant_skeletons (with_entries Σ first (blocks_of C.blocks))) (context_skeletons C.variables) C.given
  pub given_on_own : AllOnOwnTerms (own_terms first C.blocks) C.given
  pub arguments : HaveSkeletons (constant_skeletons (with_entries Σ first (blocks_of C.blocks))) (context_skeletons (onto C.local C.variables)) C.arguments
  pub arguments_on_own : AllOnOwnTerms (own_over C.local (own_terms first C.blocks)) C.arguments

-- The numbered form of a typed case is typed.
abbrev pub NumberedCaseIsTyped : Type 0
NumberedCaseIsTyped = (Σ : Signature) → IsSignature Σ → (W : List Block) → AreTypedBlocks Σ W → (first : ℕ) → IsFreeFrom Σ first → (C : Case) → IsTypedCase Σ W C → HasTypedLocal Σ C → IsTypedNumberedCase Σ first W (numbered first C)
