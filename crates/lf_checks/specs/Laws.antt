-- The laws of clauses, marks, strict occurrences, ground sets, modes, worlds and orders that the functions of this crate carry.
use Rattle.std.specs.Prelude.{◌≡◌, ℕ, List, Bool, true, ◌<◌, ◌↔◌}
use Rattle.lf.specs.Syntax.{variable, Term, Spine, LfType, Kind, Skeleton}
use Rattle.lf.specs.Substitution.{Image, keep, put, substitute, substitute_spine, reduce}
use Rattle.lf.specs.SkeletonTyping.{SkeletonAt, SubstitutionBySkeletons}
use Rattle.lf.specs.Skeletons.{constant_skeletons, context_skeletons}
use Rattle.lf.specs.Typing.{Signature, SpineFitsKind, IsKind, IsContext, IsSignature}
use Rattle.lf.specs.Variables.{Within, nothing}
use Rattle.lf.specs.Subordination.{Block, Member}
use Rattle.lf.specs.Worlds.{World}
use Rattle.lf_checks.specs.Clause.{Clause}
use Rattle.lf_checks.specs.Marks.{Mark, input_places, AreSound, NoneFree, MentionChosenOnly, SamePlaces}
use Rattle.lf_checks.specs.Strict.{strict_at}
use Rattle.lf_checks.specs.Modes.{IsModed, WellModedFrom}
use Rattle.lf_checks.specs.Worlded.{BlocksServe}
use Rattle.lf_checks.specs.Order.{Order, Smaller, size, KeepsVariables}
use Rattle.lf_checks.specs.Descent.{LeadsTo, CallsLead, IsEqualCallTest}

-- a context of the caller's worlds is one of the callee's, beside fewer families
abbrev pub CallerServesCallee : Type 0
CallerServesCallee = (Σ : Signature) (W V : List Block) (S T : ℕ → Bool) → Within T S → BlocksServe W V T → (G : List LfType) → World Σ W S G → World Σ V T G

-- a smaller term has smaller instances, where the local and the fixed variables stay variables
abbrev pub SmallerHasSmallerInstances : Type 0
SmallerHasSmallerInstances = (Σ : Signature) (C : List LfType) (L R : ℕ → Bool) (σ : ℕ → Image) → KeepsVariables L σ → KeepsVariables R σ → (M N : Term) (A : LfType) → Smaller Σ C L R M N A → size (substitute reduce σ M) < size (substitute reduce σ N)

-- where no call leads back, there is a rank that falls at each call
abbrev pub CallsHaveRank : Type 0
CallsHaveRank = (calls : ℕ → ℕ → Bool) (group : List ℕ) → ((a b : ℕ) → calls a b ≡ true → Member a group × Member b group) → ((a b : ℕ) → calls a b ≡ true → CallsLead calls b a → ⊥) → (rank : ℕ → ℕ) × ((a b : ℕ) → calls a b ≡ true → rank b < rank a)

-- and where there is one, no call leads back
abbrev pub RankForbidsCycles : Type 0
RankForbidsCycles = (calls : ℕ → ℕ → Bool) (rank : ℕ → ℕ) → ((a b : ℕ) → calls a b ≡ true → rank b < rank a) → (a b : ℕ) → calls a b ≡ true → CallsLead calls b a → ⊥

-- where equal calls are decided, so are the ways that they lead
abbrev pub WaysAreDecided : Type 0
WaysAreDecided = (Σ : Signature) (W : List Block) (order : ℕ → Order) (group : List ℕ) (calls : ℕ → ℕ → Bool) → IsEqualCallTest Σ W order group calls → (a b : ℕ) → Dec (LeadsTo Σ W order group a b)

-- a clause is well-moded exactly where what is asked of it holds and its local hypotheses are well-moded
abbrev pub WellModedUnfolds : Type 0
WellModedUnfolds = (Σ : Signature) (m : ℕ → List Mark) (moded V : ℕ → Bool) (c : Clause) → WellModedFrom Σ m moded V c ↔ IsModed (WellModedFrom Σ m moded) Σ m moded V c

-- Two instances of a tuple that are the same at the chosen places give a variable with a strict occurrence there the same value,
-- where they keep the fixed variables alike.
abbrev pub StrictOccurrencesDetermine : Type 0
StrictOccurrencesDetermine = (Σ : Signature) → IsSignature Σ → (m : List Bool) (F : ℕ → Bool) (C : List LfType) (Δ : List Skeleton) (σ τ : ℕ → Image) (x : ℕ) (a : Skeleton) (N N' : Term) (S : Spine) (K : Kind) → IsContext Σ C → IsKind Σ C K → SubstitutionBySkeletons (constant_skeletons Σ) (context_skeletons C) Δ σ → SubstitutionBySkeletons (constant_skeletons Σ) (context_skeletons C) Δ τ → ((i : ℕ) → F i ≡ true → (j : ℕ) × (σ i ≡ keep j) × (τ i ≡ keep j)) → σ x ≡ put a N → τ x ≡ put a N' → SkeletonAt (context_skeletons C) x a → SpineFitsKind Σ C S K → strict_at m nothing F x S ≡ true → SamePlaces m (substitute_spine reduce σ S) (substitute_spine reduce τ S) → N ≡ N'

-- by sound marks without `*`, the types of input places mention input places only
abbrev pub InputsMentionInputs : Type 0
InputsMentionInputs = (V : ℕ → Bool) (m : List Mark) (K : Kind) → AreSound V m K → NoneFree m → MentionChosenOnly V (input_places m) K
