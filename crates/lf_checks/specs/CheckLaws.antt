-- The laws of listed clauses, their parts, first faults, and the checks of modes, worlds and orders that the functions of this crate carry.
use Rattle.std.specs.Prelude.{◌≡◌, ℕ, zero, ◌<◌, List, ◌∷◌, Bool, true, Some, ◌↔◌, suc, not, false, length, ◌⊎◌}
use Rattle.lf.specs.Syntax.{Term, LfType, rename_type}
use Rattle.lf.specs.Substitution.{Image, substitute_type, reduce}
use Rattle.lf.specs.Typing.{Signature, TypeAt, IsSignature}
use Rattle.lf.specs.Entries.{Entry, signature_of}
use Rattle.lf.specs.Variables.{target, onto, everything, nothing, Values, target_arguments}
use Rattle.lf.specs.Subordination.{Block, Member, IsTypedBlock}
use Rattle.lf.specs.Worlds.{instance, lift_over}
use Rattle.lf_checks.specs.Clause.{Clause, scope, among, IsClause, IsSubgoal, variables}
use Rattle.lf_checks.specs.Clauses.{ClauseName, NamedClause, group_clauses, IsListed}
use Rattle.lf_checks.specs.Descent.{CallDescends, GroupDescends}
use Rattle.lf_checks.specs.Ground.{SubgoalsFrom}
use Rattle.lf_checks.specs.GroundUntil.{ground_until, ground_at_end}
use Rattle.lf_checks.specs.Marks.{Mark, HasSoundMarks}
use Rattle.lf_checks.specs.ModeFaults.{Place, ModeFaultFrom, SubgoalIsModed, AllAreModed, FirstModeFault, EndFault}
use Rattle.lf_checks.specs.ModeForms.{argument_count}
use Rattle.lf_checks.specs.ModeRows.{ModeRow, marks_of, is_moded, AllHaveRows, FirstUnmoded, families_met}
use Rattle.lf_checks.specs.Modes.{AllGround, WellModed, WellModedFrom}
use Rattle.lf_checks.specs.Order.{Order, Smaller}
use Rattle.lf_checks.specs.OrderFaults.{AllDescend, GroupOrderFault, AreJoined}
use Rattle.lf_checks.specs.Parts.{type_at, subgoal_at, numbered, variable_number, parts, count_below}
use Rattle.lf_checks.specs.Strict.{strict_type}
use Rattle.lf_checks.specs.WorldFaults.{WorldRow, worlds_of, ClauseIsWorlded, GroupIsWorlded, GroupWorldFault}
use Rattle.lf_checks.specs.Worlded.{IsTerm, IsStrictBlock, past_types}

-- Clauses.

-- the list of a group has exactly the clauses whose target is in the group
abbrev pub ClausesAreListed : Type 0
ClausesAreListed = (entries : List Entry) (W : List Block) (group : List ℕ) (c : Clause) → (IsClause (signature_of entries) W c × Member (target c.type) group) ↔ IsListed c (group_clauses entries W group)

-- the type of a variable is found
abbrev pub TypesAreFound : Type 0
TypesAreFound = (G : List LfType) (i : ℕ) (A : LfType) → TypeAt G i A ↔ (type_at G i ≡ Some A)

-- Each subgoal has a number, what has a number is a subgoal, numbers begin with 1, and a later number stands at a later index; so a
-- subgoal has one number.
abbrev pub SubgoalsAreNumbered : Type 0
SubgoalsAreNumbered = (c : Clause) → ((i : ℕ) (A : LfType) → IsSubgoal c i A → (k : ℕ) × (subgoal_at c k ≡ Some i)) × ((k i : ℕ) → subgoal_at c k ≡ Some i → (zero < k) × ((A : LfType) × IsSubgoal c i A)) × ((k l i j : ℕ) → subgoal_at c k ≡ Some i → subgoal_at c l ≡ Some j → k < l → i < j) × ((k l i : ℕ) → subgoal_at c k ≡ Some i → subgoal_at c l ≡ Some i → k ≡ l)

-- the subgoals among the parts are those of the clause, by their numbers, renamed to the clause's variables
abbrev pub PartsHaveSubgoals : Type 0
PartsHaveSubgoals = (c : Clause) (k i : ℕ) (A : LfType) → subgoal_at c k ≡ Some i → TypeAt (scope c) i A → numbered (parts c).subgoals k ≡ Some (rename_type (variable_number c) A)

-- and so are its variables, in the context of these over what stands outside
abbrev pub PartsHaveVariables : Type 0
PartsHaveVariables = (c : Clause) (i : ℕ) (A : LfType) → variables c i ≡ true → TypeAt (scope c) i A → TypeAt (onto (parts c).variables c.outer) (variable_number c i) (rename_type (variable_number c) A)

-- the number of a subgoal is one more than the number of subgoals before it
abbrev pub SubgoalsAreCounted : Type 0
SubgoalsAreCounted = (c : Clause) (i : ℕ) (A : LfType) → IsSubgoal c i A → subgoal_at c (suc (count_below (λ j. not (variables c j)) i)) ≡ Some i

-- Modes.

-- all families that the check meets have rows exactly where each has one; the first without is met and has none
abbrev pub FamiliesMetHaveRows : Type 0
FamiliesMetHaveRows = (rows : List ModeRow) (clauses : List NamedClause) → (AllHaveRows rows clauses ↔ ((f : ℕ) → Member f (families_met (is_moded rows) clauses) → is_moded rows f ≡ true)) × ((f : ℕ) → FirstUnmoded rows clauses f → Member f (families_met (is_moded rows) clauses) × (is_moded rows f ≡ false))

-- the check meets the family of each clause and of each of its subgoals
abbrev pub SubgoalFamiliesAreMet : Type 0
SubgoalFamiliesAreMet = (rows : List ModeRow) (clauses : List NamedClause) (n : NamedClause) → Member n clauses → Member (target n.clause.type) (families_met (is_moded rows) clauses) × ((i : ℕ) (A : LfType) → IsSubgoal n.clause i A → Member (target A) (families_met (is_moded rows) clauses))

-- what the walk over the subgoals says of each, by a test, is said by what is ground before it
abbrev pub GroundIsWalked : Type 0
GroundIsWalked = (V : ℕ → Bool) (m : ℕ → List Mark) (c : Clause) (p : (ℕ → Bool) → LfType → Bool) (q : (ℕ → Bool) → Bool) → SubgoalsFrom V m c (λ U A. p U A ≡ true) (λ U. q U ≡ true) ↔ (((i : ℕ) (A : LfType) → IsSubgoal c i A → p (ground_until V m c i) A ≡ true) × (q (ground_at_end V m c) ≡ true))

-- a clause is well-moded exactly where its marks are sound, each subgoal passes with what is ground before it, and all is ground at the end
abbrev pub ModedBySubgoals : Type 0
ModedBySubgoals = (Σ : Signature) (m : ℕ → List Mark) (moded V : ℕ → Bool) (c : Clause) → WellModedFrom Σ m moded V c ↔ (HasSoundMarks Σ (target c.type) (m (target c.type)) × ((i : ℕ) (A : LfType) → IsSubgoal c i A → SubgoalIsModed Σ m moded c (ground_until V m c i) A) × AllGround m c (ground_at_end V m c))

-- a clause with a fault isn't well-moded
abbrev pub ModeFaultRefutes : Type 0
ModeFaultRefutes = (Σ : Signature) (m : ℕ → List Mark) (moded V : ℕ → Bool) (c : Clause) (at : Place) → ModeFaultFrom Σ m moded V c at → WellModedFrom Σ m moded V c → ⊥

-- and the numbers of its first fault are fixed
abbrev pub ModeFaultIsOne : Type 0
ModeFaultIsOne = (Σ : Signature) (m : ℕ → List Mark) (moded V : ℕ → Bool) (c : Clause) (at at' : Place) → ModeFaultFrom Σ m moded V c at → ModeFaultFrom Σ m moded V c at' → at ≡ at'

-- At the end of a clause whose head has as many arguments as its family has marks, all is ground or there is a fault.
abbrev pub EndPassesOrFails : Type 0
EndPassesOrFails = (m : ℕ → List Mark) (c : Clause) (U : ℕ → Bool) → length (m (target c.type)) ≡ argument_count (target_arguments c.type) → AllGround m c U ⊎ ((j : ℕ) × EndFault m c U j)

-- of a list of clauses there is at most one first fault, and none where all pass
abbrev pub FirstModeFaultIsOne : Type 0
FirstModeFaultIsOne = (Σ : Signature) (rows : List ModeRow) (clauses : List NamedClause) (name : ClauseName) (at : Place) → FirstModeFault Σ rows clauses name at → (AllAreModed Σ rows clauses → ⊥) × ((name' : ClauseName) (at' : Place) → FirstModeFault Σ rows clauses name' at' → (name ≡ name') × (at ≡ at'))

-- all listed clauses of a group are well-moded exactly where all its clauses are
abbrev pub ModedGroupIsListed : Type 0
ModedGroupIsListed = (entries : List Entry) (rows : List ModeRow) (W : List Block) (group : List ℕ) → AllAreModed (signature_of entries) rows (group_clauses entries W group) ↔ ((c : Clause) → IsClause (signature_of entries) W c → Member (target c.type) group → WellModed (signature_of entries) (marks_of rows) (is_moded rows) c)

-- Worlds.

-- Two instances of an entry's type that are the same text give a `some` variable that is strict in it the same value, where the entries
-- before it are the bound variables.
abbrev pub SomeValuesAreDetermined : Type 0
SomeValuesAreDetermined = (Σ : Signature) → IsSignature Σ → (B : Block) (later : List LfType) (E : LfType) (es : List LfType) → IsTypedBlock Σ B → onto later (E ∷ es) ≡ B.entries → (D : List LfType) (θ τ : ℕ → Image) → Values Σ everything B.some D θ → Values Σ everything B.some D τ → (x : ℕ) (A : LfType) → TypeAt B.some x A → IsTerm (θ x) → IsTerm (τ x) → strict_type (among es) nothing (past_types es x) E ≡ true → substitute_type reduce (lift_over es θ) E ≡ substitute_type reduce (lift_over es τ) E → θ x ≡ τ x

-- so an instance of a strict block determines its `some` terms
abbrev pub InstancesDetermineTerms : Type 0
InstancesDetermineTerms = (Σ : Signature) → IsSignature Σ → (B : Block) → IsTypedBlock Σ B → IsStrictBlock B → (D : List LfType) (θ τ : ℕ → Image) → Values Σ everything B.some D θ → Values Σ everything B.some D τ → instance B.entries θ ≡ instance B.entries τ → (x : ℕ) (A : LfType) → TypeAt B.some x A → IsTerm (θ x) → IsTerm (τ x) → θ x ≡ τ x

-- of a group there is at most one first fault of worlds, and none where all clauses pass
abbrev pub FirstWorldFaultIsOne : Type 0
FirstWorldFaultIsOne = (entries : List Entry) (rows : List WorldRow) (group : List ℕ) (below : ℕ → ℕ → Bool) (W : List Block) (name : ClauseName) (k : ℕ) → GroupWorldFault entries rows group below W name k → (GroupIsWorlded entries rows group below W → ⊥) × ((name' : ClauseName) (k' : ℕ) → GroupWorldFault entries rows group below W name' k' → (name ≡ name') × (k ≡ k'))

-- all listed clauses of a group are well-worlded exactly where all its clauses are
abbrev pub WorldedGroupIsListed : Type 0
WorldedGroupIsListed = (entries : List Entry) (rows : List WorldRow) (group : List ℕ) (below : ℕ → ℕ → Bool) (W : List Block) → GroupIsWorlded entries rows group below W ↔ ((c : Clause) → IsClause (signature_of entries) W c → Member (target c.type) group → ClauseIsWorlded (signature_of entries) rows group below W c)

-- Orders.

-- whether a term is smaller than another is decided
abbrev pub SmallerIsDecided : Type 0
SmallerIsDecided = (Σ : Signature) (C : List LfType) (L R : ℕ → Bool) (M N : Term) (A : LfType) → Dec (Smaller Σ C L R M N A)

-- of a group there is at most one first fault of orders, and none where all clauses pass
abbrev pub FirstOrderFaultIsOne : Type 0
FirstOrderFaultIsOne = (entries : List Entry) (W : List Block) (order : ℕ → Order) (group : List ℕ) (name : ClauseName) (k : ℕ) → GroupOrderFault entries W order group name k → (GroupDescends (signature_of entries) W order group → ⊥) × ((name' : ClauseName) (k' : ℕ) → GroupOrderFault entries W order group name' k' → (name ≡ name') × (k ≡ k'))

-- all listed clauses of a group descend exactly where the group does
abbrev pub DescendingGroupIsListed : Type 0
DescendingGroupIsListed = (entries : List Entry) (W : List Block) (order : ℕ → Order) (group : List ℕ) → AllDescend (CallDescends (signature_of entries) W order group) group (group_clauses entries W group) ↔ GroupDescends (signature_of entries) W order group

-- the joined blocks of families are fixed, and are exactly the blocks of their worlds
abbrev pub JoinedBlocksAreOfFamilies : Type 0
JoinedBlocksAreOfFamilies = (rows : List WorldRow) (families : List ℕ) (W : List Block) → AreJoined rows families W → ((V : List Block) → AreJoined rows families V → W ≡ V) × ((B : Block) → Member B W ↔ ((f : ℕ) × Member f families × (V : List Block) × (worlds_of rows f ≡ Some V) × Member B V))
