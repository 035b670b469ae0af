-- What is read off is what the theory reads off, in the order of the quantifiers.
use Rattle.std.specs.Prelude.{◌≡◌, ℕ, List, []}
use Rattle.lf.specs.AtOnce.{lift_renaming_by}
use Rattle.lf.specs.Syntax.{LfType, Term, rename, rename_type}
use Rattle.lf.specs.Typing.{IsSignature, Signature}
use Rattle.lf_elaboration.specs.Principal.{IsReordering}
use Rattle.lf_unification.specs.Dependency.{free_context, values}
use Rattle.lf_unification.specs.Filling.{fill, fill_type}
use Rattle.lf_unification.specs.OpenTyping.{OpenHasType, OpenIsType, skeletons_of, under_locals}
use Rattle.lf_unification.specs.PartialInstance.{IsFilling}
use Rattle.lf_unification.specs.Putting.{binders}
use Rattle.lf_unification.specs.Solving.{IsWellFormed}
use Rattle.tw_metas.specs.State.{State}
use Rattle.tw_putting.specs.Stores.{types_of}
use Rattle.tw_abstract.specs.Free.{free_metavariables}
use Rattle.tw_abstract.specs.Positions.{index}
use Rattle.tw_abstract.specs.Reordered.{TakesIndices}
use Rattle.tw_abstract.specs.Quantifiers.{AreQuantifiers}
use Rattle.tw_abstract.specs.Reading.{IsReadAs, IsTypeReadAs}
use Rattle.tw_putting.specs.Ready.{IsReady}
use Rattle.tw_putting.specs.Whole.{whole}

-- the context is a reordering of the theory's, which takes the variable of each metavariable to its place among the quantifiers
abbrev pub QuantifiersAreReordered : Type 0
QuantifiersAreReordered = (Σ : Signature) → IsSignature Σ → (s : State) → IsReady Σ [] s → (w : IsWellFormed Σ (whole [] s)) → (sites ms : List ℕ) (G : List LfType) → AreQuantifiers s sites ms G →
    (ρ ρ' : ℕ → ℕ) × IsReordering (free_context (skeletons_of (types_of s)) w.order) G ρ ρ' × TakesIndices (index (free_metavariables w.order)) (index ms) ρ

-- and what is read off a term or a type that the store types is its filling, renamed by this reordering
abbrev pub ReadingIsFilling : Type 0
ReadingIsFilling = (Σ : Signature) → IsSignature Σ → (s : State) → IsReady Σ [] s → (w : IsWellFormed Σ (whole [] s)) → (ms : List ℕ) (ρ : ℕ → ℕ) → TakesIndices (index (free_metavariables w.order)) (index ms) ρ → (D : List LfType) →
    ((M N : Term) (A : LfType) → OpenHasType Σ [] (types_of s) (IsFilling Σ [] (whole [] s)) D M A → IsReadAs s ms (binders D) M N →
    N ≡ rename (lift_renaming_by (binders D) ρ) (fill (skeletons_of (types_of s)) (under_locals D (values (skeletons_of (types_of s)) w.order)) M)) ×
    ((A B : LfType) → OpenIsType Σ [] (types_of s) (IsFilling Σ [] (whole [] s)) D A → IsTypeReadAs s ms (binders D) A B →
    B ≡ rename_type (lift_renaming_by (binders D) ρ) (fill_type (skeletons_of (types_of s)) (under_locals D (values (skeletons_of (types_of s)) w.order)) A))
