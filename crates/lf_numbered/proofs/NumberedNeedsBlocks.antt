-- The block of a pattern's entry is typed: of one of typed blocks, of the head of a clause, and of a pattern beside which a case is typed.
use Rattle.std.proofs.Common.{◌≡◌, ℕ, List, inl, inr, sym, subst}
use Rattle.std.specs.Prelude.{Bool, ◌⊎◌}
use Rattle.lf.specs.Substitution.{Image}
use Rattle.lf.specs.Typing.{Signature}
use Rattle.lf.specs.Subordination.{Block, Member, AreTypedBlocks, IsTypedBlock}
use Rattle.lf_checks.specs.Clause.{Clause, IsClause}
use Rattle.lf_cases.specs.Missing.{blocks_with}
use Rattle.lf_cases.specs.Pattern.{Origin, of_constant, of_entry, Pattern, origin}
use Rattle.lf_numbered.specs.MeetsAnswers.{IsOfWorlds}
use Rattle.lf_numbered.specs.NumberedBesideGiven.{GivesOutside, IsTypedBesideByNumber}
use Rattle.lf_numbered.specs.NumberedCalls.{HasTypedBlock}
use Rattle.lf_numbered.specs.NumberedCase.{NumberedCase}
use Rattle.lf_numbered.proofs.EntryPatternsTyped.{typed_at}
use Rattle.lf_numbered.proofs.MeetsAnswersRuns.{of_worlds}

of_typed_worlds : (Σ : Signature) (W : List Block) → AreTypedBlocks Σ W → {c : Clause} (o : Origin c) → IsOfWorlds o W → HasTypedBlock Σ o
of_typed_worlds Σ W typed (of_constant U) i = tt
of_typed_worlds Σ W typed (of_entry B later E es e) i = typed B i

pub clause_has_typed_block : (Σ : Signature) (W : List Block) → AreTypedBlocks Σ W → {c : Clause} (i : IsClause Σ W c) → HasTypedBlock Σ (origin i)
clause_has_typed_block Σ W typed i = of_typed_worlds Σ W typed (origin i) (of_worlds Σ W i)

pub beside_has_own_typed : (Σ : Signature) (W : List Block) → AreTypedBlocks Σ W → (first : ℕ) (C : NumberedCase) (p : Pattern) → IsTypedBesideByNumber Σ first W C p → HasTypedBlock Σ p.origin
beside_has_own_typed Σ W typed first C p t = of_typed_worlds Σ W typed p.origin (by p.origin p.at_first t.outer t.stands)
  where
    by : {c : Clause} (o : Origin c) (b : Bool) (φ : ℕ → Image) → GivesOutside first C o b φ → IsOfWorlds o W
    by (of_constant U) b φ g = tt
    by (of_entry B later E es e) b φ (k, U, at, z, r) = (typed_at _ W C.variables _ C.blocks t.typed.variables.blocks k _ at).0

-- So the blocks with the pattern's own are.
pub with_own_typed : (Σ : Signature) (W : List Block) → AreTypedBlocks Σ W → {c : Clause} (o : Origin c) → HasTypedBlock Σ o → AreTypedBlocks Σ (blocks_with o W)
with_own_typed Σ W typed (of_constant U) h = typed
with_own_typed Σ W typed (of_entry B later E es e) h = λ D m. by D m
  where
    by : (D : Block) → (D ≡ B) ⊎ Member D W → IsTypedBlock Σ D
    by D (inl q) = subst (IsTypedBlock Σ) (sym q) h
    by D (inr m) = typed D m
