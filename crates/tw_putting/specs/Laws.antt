-- What the calls are good for.
use Rattle.std.specs.Prelude.{◌≡◌, ℕ, List, Option, Some}
use Rattle.lf.specs.Depth.{depth_limit}
use Rattle.lf.specs.SkeletonTyping.{TermSkeleton}
use Rattle.lf.specs.Skeletons.{context_skeletons}
use Rattle.lf.specs.Syntax.{Term, Spine, LfType, Skeleton, skeleton}
use Rattle.lf.specs.Typing.{Signature}
use Rattle.lf.specs.Variables.{onto}
use Rattle.lf_unification.specs.DeepEquations.{IsDeepSpine, IsDeepTerm, IsDeepType}
use Rattle.lf_unification.specs.OpenTyping.{MetavariablesIn, OpenHasType}
use Rattle.lf_unification.specs.Putting.{Unbound}
use Rattle.tw_metas.specs.State.{IsUnbound, State, empty_state, with_declared, with_value}
use Rattle.tw_putting.specs.Fits.{PutFits, StoreBySkeletons, declared_skeletons}
use Rattle.tw_putting.specs.Stores.{AllIn, BoundHaveValues, Puts, PutsDeep, PutsDeepSpine, PutsDeepType, PutsSpine, PutsType, SpineAllIn, TypeAllIn, bindings_of, store_of, types_of}

-- the values can be put in, and there is one result
abbrev pub PuttingHasOneResult : Type 0
PuttingHasOneResult = (s : State) (k : ℕ) (M : Term) → PutFits s k M → (R : Term) × Puts s k M R × ((R' : Term) → Puts s k M R' → R' ≡ R)

-- where no metavariable is bound the result is the term itself
abbrev pub AllInStays : Type 0
AllInStays = (s : State) (k : ℕ) → ((M : Term) → AllIn s M → Puts s k M M) × ((S : Spine) → SpineAllIn s S → PutsSpine s k S S) × ((A : LfType) → TypeAllIn s A → PutsType s k A A)

-- what gives a result that is too deep is deep, as unification has it
abbrev pub DeepResultsAreDeep : Type 0
DeepResultsAreDeep = (s : State) (k : ℕ) → ((M : Term) → PutsDeep s k M → IsDeepTerm (store_of s) depth_limit k M) × ((S : Spine) → PutsDeepSpine s k S → IsDeepSpine (store_of s) depth_limit k S) × ((A : LfType) → PutsDeepType s k A → IsDeepType (store_of s) depth_limit k A)

-- a store that holds nothing is typed by skeletons, and a store that is stays so where a metavariable is declared
abbrev pub DeclaringKeepsSkeletons : Type 0
DeclaringKeepsSkeletons = (Σ : Signature) (Γ : List Skeleton) → StoreBySkeletons Σ Γ empty_state × ((s : State) (G : List LfType) (A : LfType) → StoreBySkeletons Σ Γ s → StoreBySkeletons Σ Γ (with_declared s G A))

-- the same where one is bound to a value of its skeleton that mentions only others, which are not bound
abbrev pub BindingKeepsSkeletons : Type 0
BindingKeepsSkeletons = (Σ : Signature) (Γ : List Skeleton) (s : State) (m : ℕ) (N : Term) (A : LfType) → StoreBySkeletons Σ Γ s → BoundHaveValues s → IsUnbound s m → types_of s m ≡ Some A → TermSkeleton (declared_skeletons Σ (types_of s)) Γ N (skeleton A) → MetavariablesIn (λ n. (n ≡ m → ⊥) × Unbound (bindings_of s) n) N → StoreBySkeletons Σ Γ (with_value s m N) × BoundHaveValues (with_value s m N)

-- what is typed up to fillings, be there none, has the declared skeletons
abbrev pub OpenTypingGivesSkeletons : Type 0
OpenTypingGivesSkeletons = (Σ : Signature) (G : List LfType) (Ψ : ℕ → Option LfType) (D : List LfType) (M : Term) (A : LfType) → OpenHasType Σ G Ψ (λ β. ⊥) D M A → TermSkeleton (declared_skeletons Σ Ψ) (context_skeletons (onto D G)) M (skeleton A)
