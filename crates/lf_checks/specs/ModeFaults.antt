-- The first fault of modes in a clause, with its numbers: the subgoal in solving order from 1, 0 being the head; the argument from 1, 0 being
-- none of them.
use Rattle.std.specs.Prelude.{◌≡◌, ℕ, suc, ◌<◌, List, [], ◌∷◌, Bool, true, false, ◌⊎◌, Some}
use Rattle.lf.specs.Syntax.{Term, Spine, nil, app, LfType, Kind, pi, atom, kind_pi, star}
use Rattle.lf.specs.Entries.{Entry, quantifiers, signature_of}
use Rattle.lf.specs.Typing.{Signature}
use Rattle.lf.specs.Variables.{target, target_arguments, under, hide, everything, nothing, Uses, UsesType}
use Rattle.lf.specs.Subordination.{Block}
use Rattle.lf_unification.specs.Search.{occurs, occurs_spine}
use Rattle.lf_checks.specs.Clause.{Clause, scope, variables, outside, IsSubgoal}
use Rattle.lf_checks.specs.Clauses.{ClauseName, NamedClause, group_clauses}
use Rattle.lf_checks.specs.Descent.{inside}
use Rattle.lf_checks.specs.Faults.{AllPass, FirstFault}
use Rattle.lf_checks.specs.Ground.{UsesGoal}
use Rattle.lf_checks.specs.GroundUntil.{ground_until, ground_at_end}
use Rattle.lf_checks.specs.Marks.{Mark, input, output, free, is_output, input_places, output_places, free_places, HasSoundMarks}
use Rattle.lf_checks.specs.ModeRows.{ModeRow, is_moded, marks_of, AllHaveRows}
use Rattle.lf_checks.specs.Modes.{occurs_at, InFreePlace, EachHypothesis, WellModed, WellModedFrom}
use Rattle.lf_checks.specs.Parts.{subgoal_at}

-- From place n on, place j is the first at which the marks aren't sound: an input whose type mentions an output, a place without a mark, or a
-- mark without a place. V has the places before that are no outputs.
abbrev pub FirstUnsound : ℕ → (ℕ → Bool) → List Mark → Kind → ℕ → Type 0
FirstUnsound n V (input ∷ m) (kind_pi A K) j = ((UsesType V A → ⊥) × (j ≡ n)) ⊎ (UsesType V A × FirstUnsound (suc n) (under V) m K j)
FirstUnsound n V (output ∷ m) (kind_pi A K) j = FirstUnsound (suc n) (hide V) m K j
FirstUnsound n V (free ∷ m) (kind_pi A K) j = FirstUnsound (suc n) (under V) m K j
FirstUnsound n V [] (kind_pi A K) j = j ≡ n
FirstUnsound n V [] star j = ⊥
FirstUnsound n V (b ∷ m) star j = j ≡ n

-- the family is declared, and its marks aren't sound at place j for the first time
pub record HasUnsoundMarks (Σ : Signature) (f : ℕ) (m : List Mark) (j : ℕ) : Type 0 where
  pub kind : Kind
  pub is_kind : Σ.kinds f ≡ Some kind
  pub first : FirstUnsound 1 nothing m kind j

-- from place n on, place j is the first chosen one with a variable outside U
abbrev pub FirstOutside : ℕ → (ℕ → Bool) → List Bool → Spine → ℕ → Type 0
FirstOutside n U [] S j = ⊥
FirstOutside n U (b ∷ m) nil j = ⊥
FirstOutside n U (true ∷ m) (app M S) j = ((Uses U M → ⊥) × (j ≡ n)) ⊎ (Uses U M × FirstOutside (suc n) U m S j)
FirstOutside n U (false ∷ m) (app M S) j = FirstOutside (suc n) U m S j

-- the variables in the types of a subgoal's local hypotheses are in U
abbrev pub HypothesesUse : (ℕ → Bool) → LfType → Type 0
HypothesesUse U (pi A B) = UsesType U A × HypothesesUse (under U) B
HypothesesUse U (atom a S) = Unit {0}

-- the hypotheses of a subgoal whose families have a mode are well-moded, where the variables of U and the parameters are ground
abbrev pub HypothesesAreModed : Signature → (ℕ → List Mark) → (ℕ → Bool) → Clause → (ℕ → Bool) → LfType → Type 0
HypothesesAreModed Σ m moded c U A = EachHypothesis (WellModedFrom Σ m moded) moded (scope c) (outside c.type c.fixed) U A

-- the subgoal A passes, where U is what is ground before it
pub record SubgoalIsModed (Σ : Signature) (m : ℕ → List Mark) (moded : ℕ → Bool) (c : Clause) (U : ℕ → Bool) (A : LfType) : Type 0 where
  pub sound : HasSoundMarks Σ (target A) (m (target A))
  pub ground : UsesGoal U (input_places (m (target A))) A
  pub hypotheses : HypothesesAreModed Σ m moded c U A

-- The first fault of a subgoal, by its argument, each tried after those before it: unsound marks; a variable that isn't ground in a
-- hypothesis' type, and in an input; a hypothesis that isn't well-moded.
pub data SubgoalFault (Σ : Signature) (m : ℕ → List Mark) (moded : ℕ → Bool) (c : Clause) (U : ℕ → Bool) (A : LfType) : ℕ → Type 0 where
  unsound_marks : {j : ℕ} → HasUnsoundMarks Σ (target A) (m (target A)) j → SubgoalFault Σ m moded c U A j
  unground_type : HasSoundMarks Σ (target A) (m (target A)) → (HypothesesUse U A → ⊥) → SubgoalFault Σ m moded c U A 0
  unground_input : {j : ℕ} → HasSoundMarks Σ (target A) (m (target A)) → HypothesesUse U A → FirstOutside 1 (inside A U) (input_places (m (target A))) (target_arguments A) j → SubgoalFault Σ m moded c U A j
  wrong_hypothesis : HasSoundMarks Σ (target A) (m (target A)) → UsesGoal U (input_places (m (target A))) A → (HypothesesAreModed Σ m moded c U A → ⊥) → SubgoalFault Σ m moded c U A 0

-- a variable of the clause itself that must be ground at the end: it stands in no free place of the head or of a subgoal
pub record MustBeGround (m : ℕ → List Mark) (c : Clause) (x : ℕ) : Type 0 where
  pub is_variable : variables c x ≡ true
  pub own : outside c.type everything x ≡ false
  pub in_head : occurs_at (free_places (m (target c.type))) x (target_arguments c.type) ≡ false
  pub in_subgoal : InFreePlace m c x → ⊥

-- a variable that must be ground isn't, and stands in no argument of the head
pub record IsLostNowhere (m : ℕ → List Mark) (c : Clause) (U : ℕ → Bool) : Type 0 where
  pub lost : ℕ
  pub must : MustBeGround m c lost
  pub unground : U lost ≡ false
  pub nowhere : occurs_spine lost (target_arguments c.type) ≡ false

-- The argument M of the head, at a place with the mark b, has a variable that isn't ground, where the place is an output; else one that must
-- be ground and stands in no output of the head.
pub record IsLostAt (m : ℕ → List Mark) (c : Clause) (U : ℕ → Bool) (b : Mark) (M : Term) : Type 0 where
  pub lost : ℕ
  pub stands : occurs lost M ≡ true
  pub unground : U lost ≡ false
  pub matters : (is_output b ≡ true) ⊎ (MustBeGround m c lost × (occurs_at (output_places (m (target c.type))) lost (target_arguments c.type) ≡ false))

-- from place n on, place j is the first with such a variable
abbrev pub FirstLost : (ℕ → List Mark) → Clause → (ℕ → Bool) → ℕ → List Mark → Spine → ℕ → Type 0
FirstLost m c U n [] S j = ⊥
FirstLost m c U n (b ∷ bs) nil j = ⊥
FirstLost m c U n (b ∷ bs) (app M S) j = (IsLostAt m c U b M × (j ≡ n)) ⊎ ((IsLostAt m c U b M → ⊥) × FirstLost m c U (suc n) bs S j)

-- The first fault of the end, by its argument: a variable that stands in no argument of the head comes first.
pub data EndFault (m : ℕ → List Mark) (c : Clause) (U : ℕ → Bool) : ℕ → Type 0 where
  at_none : IsLostNowhere m c U → EndFault m c U 0
  at_argument : {j : ℕ} → (IsLostNowhere m c U → ⊥) → FirstLost m c U 1 (m (target c.type)) (target_arguments c.type) j → EndFault m c U j

-- the numbers of a fault
pub record Place : Type 0 where
  pub subgoal : ℕ
  pub argument : ℕ

abbrev pub place_of : ℕ → ℕ → Place
place_of k j = record { subgoal = k; argument = j }

-- the subgoals before index i pass
abbrev pub ModedBefore : Signature → (ℕ → List Mark) → (ℕ → Bool) → (ℕ → Bool) → Clause → ℕ → Type 0
ModedBefore Σ m moded V c n = (i : ℕ) (A : LfType) → i < n → IsSubgoal c i A → SubgoalIsModed Σ m moded c (ground_until V m c i) A

-- The first fault of a clause, where of what stands outside the variables of V are ground: unsound marks of its own family; else that of the
-- first subgoal that has one; else that of the end.
pub data ModeFaultFrom (Σ : Signature) (m : ℕ → List Mark) (moded V : ℕ → Bool) (c : Clause) : Place → Type 0 where
  of_head : {j : ℕ} → HasUnsoundMarks Σ (target c.type) (m (target c.type)) j → ModeFaultFrom Σ m moded V c (place_of 0 j)
  of_subgoal : {k j : ℕ} (i : ℕ) (A : LfType) → HasSoundMarks Σ (target c.type) (m (target c.type)) → subgoal_at c k ≡ Some i → IsSubgoal c i A → ModedBefore Σ m moded V c i → SubgoalFault Σ m moded c (ground_until V m c i) A j → ModeFaultFrom Σ m moded V c (place_of k j)
  of_end : {j : ℕ} → HasSoundMarks Σ (target c.type) (m (target c.type)) → ModedBefore Σ m moded V c (quantifiers c.type) → EndFault m c (ground_at_end V m c) j → ModeFaultFrom Σ m moded V c (place_of 0 j)

-- of a constant or a block entry: all that stands outside is ground
abbrev pub ModeFault : Signature → (ℕ → List Mark) → (ℕ → Bool) → Clause → Place → Type 0
ModeFault Σ m moded c at = ModeFaultFrom Σ m moded everything c at

-- by the rows, each clause of the list is well-moded
abbrev pub AllAreModed : Signature → List ModeRow → List NamedClause → Type 0
AllAreModed Σ rows clauses = AllPass (WellModed Σ (marks_of rows) (is_moded rows)) clauses

-- the first fault by the rows
abbrev pub FirstModeFault : Signature → List ModeRow → List NamedClause → ClauseName → Place → Type 0
FirstModeFault Σ rows clauses name at = FirstFault (WellModed Σ (marks_of rows) (is_moded rows)) (ModeFault Σ (marks_of rows) (is_moded rows)) clauses name at

-- The check of modes says yes: each family met has a row, and each clause of the group is well-moded.
pub record GroupIsModed (entries : List Entry) (rows : List ModeRow) (W : List Block) (group : List ℕ) : Type 0 where
  pub rows_stand : AllHaveRows rows (group_clauses entries W group)
  pub moded : AllAreModed (signature_of entries) rows (group_clauses entries W group)

-- It names a fault: each family met has a row, and this is the first fault of the group's clauses.
pub record GroupModeFault (entries : List Entry) (rows : List ModeRow) (W : List Block) (group : List ℕ) (name : ClauseName) (at : Place) : Type 0 where
  pub rows_stand : AllHaveRows rows (group_clauses entries W group)
  pub first : FirstModeFault (signature_of entries) rows (group_clauses entries W group) name at
