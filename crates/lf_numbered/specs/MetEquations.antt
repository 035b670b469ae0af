-- What unification leaves of a case by number and a pattern holds of their tuples: a tuple that the case holds and the
-- pattern has at a place is a typed unifier of the store there, and each typed unifier makes the sides of each equation
-- that is left the same. So an equation that is left is one that each such tuple satisfies.
use Rattle.std.specs.Prelude.{◌≡◌, ◌+◌, ◌<◌, ℕ, List, [], ◌∷◌, length, Bool, true, Option, Some}
use Rattle.lf.specs.Syntax.{Skeleton, Term, LfType, Kind, skeleton}
use Rattle.lf.specs.Substitution.{Image, substitute_image}
use Rattle.lf.specs.Entries.{quantifiers}
use Rattle.lf.specs.Typing.{Signature, TypeAt, IsTypedSubstitution}
use Rattle.lf.specs.Subordination.{Block}
use Rattle.lf.specs.Variables.{nothing}
use Rattle.lf.specs.Worlds.{World}
use Rattle.lf.specs.Extension.{Extends}
use Rattle.lf_unification.specs.OpenTyping.{skeletons_of}
use Rattle.lf_unification.specs.Solving.{AllLeftOver, Left, Never}
use Rattle.lf_unification.specs.Unifiers.{Equation, ExtendsFilling, Solution, Solves, Store}
use Rattle.lf_checks.specs.Clause.{Clause, scope}
use Rattle.lf_cases.specs.Case.{as_term}
use Rattle.lf_cases.specs.Cover.{InstanceIn, before}
use Rattle.lf_cases.specs.Pattern.{Origin, Pattern}
use Rattle.lf_numbered.specs.MeetsAnswers.{HasUnifier, IsPlace, StayBeyond, entries_at}
use Rattle.lf_numbered.specs.MeetsTuple.{SharesTuple}
use Rattle.lf_numbered.specs.NumberedCalls.{NumberedMatchedNeeds}
use Rattle.lf_numbered.specs.NumberedCallsStores.{IsPutBeside, constant_beside, entry_beside, new_beside, meet_store_by_number}
use Rattle.lf_numbered.specs.NumberedCase.{NumberedCase}
use Rattle.lf_numbered.specs.NumberedInstance.{block_at, move_types}
use Rattle.lf_numbered.specs.OwnTerms.{BlockVariable}
use Rattle.lf_numbered.specs.WritingRoom.{move_image}

-- Each equation that is left over, with all bindings put in, has the same sides under the filling.
abbrev pub AreShownSolved : (ℕ → Skeleton) → (ℕ → Option Term) → (given : ℕ → Option LfType) (s : Store) (es : List Equation) → AllLeftOver given s es → Type 0
AreShownSolved μ β given s [] l = Unit {0}
AreShownSolved μ β given s (e ∷ es) (l, ls) = Solves μ β l.shown × AreShownSolved μ β given s es ls

-- A typed unifier of the store that was handed in, with values for new metavariables, is one of the store that is
-- left: it respects the bindings, and solves the equations, also with the bindings put in. So one with F z = z is,
-- where F is [y] y; one where F is [y] s y is none.
pub record SolvesLeft (Σ : Signature) (s after : Store) (l : Left Σ s after) (u : HasUnifier Σ s) : Type 0 where
  pub filling : ℕ → Option Term
  pub extends : ExtendsFilling s.metavariables u.filling filling
  pub solves : Solution u.signature [] after u.context filling
  pub shown : AreShownSolved (skeletons_of after.metavariables) filling s.metavariables after after.equations l.all_left_over

-- So is each typed unifier at a place of the pattern beside the case, where unification leaves equations.
abbrev pub UnifierSolvesLeft : Type 0
UnifierSolvesLeft = (Σ : Signature) (first : ℕ) (W : List Block) (C : NumberedCase) (p : Pattern) → NumberedMatchedNeeds Σ first W C p → (K : Kind) → Σ.kinds C.family ≡ Some K → (π : ℕ → ℕ) (J : NumberedCase) (φ : ℕ → Image) → IsPlace first C p π J φ → (after : Store) (l : Left (entries_at Σ first J) (meet_store_by_number π J p φ K) after) (u : HasUnifier (entries_at Σ first J) (meet_store_by_number π J p φ K)) → SolvesLeft (entries_at Σ first J) (meet_store_by_number π J p φ K) after l u

-- The filling has the values of a tuple in the context G, written over entry constants: the constants of an extension
-- have numbers past these, and the rest is a typed substitution. From the metavariable n on it has the values σ of the
-- variables X of a case; and before k, where it counts in the tuple, the value by τ of a variable of the clause, whose
-- scope is Y.
pub record IsWrittenFrom (Σ : Signature) (H : List LfType) (β : ℕ → Option Term) (G X : List LfType) (σ : ℕ → Image) (n : ℕ) (used : ℕ → Bool) (Y : List LfType) (τ : ℕ → Image) (k : ℕ) : Type 0 where
  pub moves : ℕ → ℕ
  pub writes : ℕ → Image
  pub typed : IsTypedSubstitution Σ (move_types moves G) H writes
  pub same : (i : ℕ) (A : LfType) → TypeAt X i A → β (i + n) ≡ Some (as_term (skeleton A) (substitute_image writes (move_image moves (σ i))))
  pub own : (i : ℕ) (A : LfType) → TypeAt Y i A → i < k → used i ≡ true → β i ≡ Some (as_term (skeleton A) (substitute_image writes (move_image moves (τ i))))

-- The entry of a tuple, with `outer` for what stands before it, is that of the place, where θ has the instances of the
-- case's block variables: that of the block variable k is the entry of its instance; that of a new one is the entry of
-- an instance that no block variable of the case stands for.
abbrev pub IsEntryAt : {Σ : Signature} {W : List Block} {S : ℕ → Bool} {G : List LfType} → World Σ W S G → NumberedCase → (ℕ → ℕ → Image) → (ℕ → Image) → {first : ℕ} {D : NumberedCase} {π : ℕ → ℕ} {b : Bool} {c : Clause} {o : Origin c} {J : NumberedCase} {φ : ℕ → Image} → IsPutBeside first D π b c o J φ → Type 0
IsEntryAt w C θ outer (constant_beside U) = Unit {0}
IsEntryAt w C θ outer (entry_beside B later E es e k U at fixed h) = outer ≡ before later (θ k)
IsEntryAt w C θ outer (new_beside B later E es e U f fixed at) = (ψ : ℕ → Image) × InstanceIn w B ψ × (outer ≡ before later ψ) × ((k : ℕ) (d : BlockVariable) → block_at C.blocks k ≡ Some d → d.block ≡ B → θ k ≡ ψ → ⊥)

-- A tuple that the case holds and the pattern has stands at a place: the block variables that stand there for one
-- instance, and no others, are one by π; and its entry is that of the place. So x, x of {x:exp} {u:cp x x} stands
-- where b and c of cp b.x c.x are one, at the entry of b.
pub record TupleStandsAt (Σ : Signature) (first : ℕ) (C : NumberedCase) (p : Pattern) (t : SharesTuple Σ first C p) (π : ℕ → ℕ) (J : NumberedCase) (φ : ℕ → Image) (x : IsPlace first C p π J φ) : Type 0 where
  pub same : (k : ℕ) (b : BlockVariable) → block_at C.blocks k ≡ Some b → t.holds.instances (π k) ≡ t.holds.instances k
  pub only : (j k : ℕ) (b c : BlockVariable) → block_at C.blocks j ≡ Some b → block_at C.blocks k ≡ Some c → (b.block.entries ≡ [] → ⊥) → c.block ≡ b.block → t.holds.instances j ≡ t.holds.instances k → π j ≡ π k
  pub entry : IsEntryAt t.world C t.holds.instances t.has.outer x.beside

-- The filling is made of the tuple's values: the variables of the case, the last metavariables at the place, have
-- these, and so have those of the clause itself, the first ones, that count in the tuple.
abbrev pub IsMadeOf : {Σ : Signature} {first : ℕ} {C : NumberedCase} {p : Pattern} → SharesTuple Σ first C p → NumberedCase → Signature → List LfType → (ℕ → Option Term) → Type 0
IsMadeOf {C = C} {p = p} t J Σ H β = (n : ℕ) × (n + length C.variables ≡ quantifiers p.clause.type + length J.variables) × IsWrittenFrom Σ H β t.context C.variables t.holds.values n t.has.used (scope p.clause) t.has.values (quantifiers p.clause.type)

-- Then the tuple is a typed unifier of the store at this place.
abbrev pub StandingTupleHasUnifier : Type 0
StandingTupleHasUnifier = (Σ : Signature) (first : ℕ) (W : List Block) (C : NumberedCase) (p : Pattern) → NumberedMatchedNeeds Σ first W C p → (K : Kind) (t : SharesTuple Σ first C p) (π : ℕ → ℕ) (J : NumberedCase) (φ : ℕ → Image) (x : IsPlace first C p π J φ) → TupleStandsAt Σ first C p t π J φ x → (u : HasUnifier (entries_at Σ first J) (meet_store_by_number π J p φ K)) × IsMadeOf t J u.signature u.context u.filling

-- So where unification leaves equations there, the tuple makes the sides of each the same, also with the bindings put
-- in.
abbrev pub StandingTupleSolvesLeft : Type 0
StandingTupleSolvesLeft = (Σ : Signature) (first : ℕ) (W : List Block) (C : NumberedCase) (p : Pattern) → NumberedMatchedNeeds Σ first W C p → (K : Kind) → Σ.kinds C.family ≡ Some K → (t : SharesTuple Σ first C p) (π : ℕ → ℕ) (J : NumberedCase) (φ : ℕ → Image) (x : IsPlace first C p π J φ) → TupleStandsAt Σ first C p t π J φ x → (after : Store) (l : Left (entries_at Σ first J) (meet_store_by_number π J p φ K) after) → (u : HasUnifier (entries_at Σ first J) (meet_store_by_number π J p φ K)) × IsMadeOf t J u.signature u.context u.filling × SolvesLeft (entries_at Σ first J) (meet_store_by_number π J p φ K) after l u

-- And where what is left has no typed unifier, over each signature that extends that of the place, no tuple stands
-- there.
abbrev pub UnsolvedLeftHasNoTuple : Type 0
UnsolvedLeftHasNoTuple = (Σ : Signature) (first : ℕ) (W : List Block) (C : NumberedCase) (p : Pattern) → NumberedMatchedNeeds Σ first W C p → (K : Kind) → Σ.kinds C.family ≡ Some K → (t : SharesTuple Σ first C p) (π : ℕ → ℕ) (J : NumberedCase) (φ : ℕ → Image) (x : IsPlace first C p π J φ) → (after : Store) → Left (entries_at Σ first J) (meet_store_by_number π J p φ K) after → ((Σe : Signature) → Extends nothing (entries_at Σ first J) Σe → Never Σe [] after) → TupleStandsAt Σ first C p t π J φ x → ⊥

-- Each tuple that they share stands at a place, where the numbers stay that are of no block variable.
abbrev pub TupleStandsSomewhere : Type 0
TupleStandsSomewhere = (Σ : Signature) (first : ℕ) (W : List Block) (C : NumberedCase) (p : Pattern) → NumberedMatchedNeeds Σ first W C p → (t : SharesTuple Σ first C p) → (π : ℕ → ℕ) × (J : NumberedCase) × (φ : ℕ → Image) × (x : IsPlace first C p π J φ) × StayBeyond C π × TupleStandsAt Σ first C p t π J φ x
