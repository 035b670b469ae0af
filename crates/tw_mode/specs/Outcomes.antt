-- What the check of a type as a clause, of its subgoals and of its end comes to.
use Rattle.std.specs.Prelude.{◌≡◌, ℕ, suc, List, Bool, true, false, length, option_map, Option, None, ◌↔◌}
use Rattle.lf.specs.Entries.{quantifiers}
use Rattle.lf.specs.Syntax.{LfType, Spine}
use Rattle.lf.specs.Typing.{Signature}
use Rattle.lf.specs.Variables.{target, target_arguments}
use Rattle.lf_checks.specs.Clause.{Clause, outside}
use Rattle.lf_checks.specs.Descent.{inside}
use Rattle.lf_checks.specs.Ground.{UsesGoal}
use Rattle.lf_checks.specs.Marks.{Mark, input_places}
use Rattle.lf_checks.specs.ModeFaults.{EndFault, FirstOutside, HypothesesUse, ModedBefore, ModeFaultFrom, MustBeGround, Place as PlainPlace, place_of, SubgoalFault, SubgoalIsModed}
use Rattle.lf_checks.specs.ModeForms.{argument_count}
use Rattle.lf_checks.specs.Modes.{AllGround, WellModedFrom}
use Rattle.tw_mode.specs.Checks.{Outcome}
use Rattle.tw_mode.specs.Rows.{marks_in, moded_in}
use Rattle.tw_mode.specs.Scopes.{in_marks}
use Rattle.tw_mode.specs.Solved.{FirstFaulty, GoesPast, Stands, clause_in, ground_outside}
use Rattle.tw_mode.specs.declared.clause.Place.{Place}
use Rattle.tw_mode.specs.declared.clause.Walk.{Walk}
use Rattle.tw_mode.specs.declared.outside.Outside.{Outside}
use Rattle.tw_mode.specs.declared.table.Table.{Table}

abbrev pub plain_place : Place → PlainPlace
plain_place p = place_of p.subgoal p.argument

-- of a type as a clause, whatever the context is
abbrev pub ClauseOutcome : Signature → Table → Outside → LfType → Option Place → Type 0
ClauseOutcome Σ t o A f = (C : List LfType) → Outcome (WellModedFrom Σ (marks_in t) (moded_in t) (ground_outside o) (clause_in C o A)) (ModeFaultFrom Σ (marks_in t) (moded_in t) (ground_outside o) (clause_in C o A)) (option_map plain_place f)

-- of a subgoal A of any clause with these fixed variables, where U is ground
abbrev pub SubgoalOutcome : Signature → Table → (ℕ → Bool) → (ℕ → Bool) → LfType → Option ℕ → Type 0
SubgoalOutcome Σ t F U A f = (c : Clause) → outside c.type c.fixed ≡ F → Outcome (SubgoalIsModed Σ (marks_in t) (moded_in t) c U A) (SubgoalFault Σ (marks_in t) (moded_in t) c U A) f

-- Of a quantifier of the type A in the whole scope, where old and new are the walks before and after it: a variable changes nothing.
abbrev pub QuantifierOutcome : Signature → Table → (ℕ → Bool) → ℕ → Bool → LfType → Walk → Walk → Option ℕ → Type 0
QuantifierOutcome Σ t F depth true A old new f = (f ≡ None) × (new ≡ old)
QuantifierOutcome Σ t F depth false A old new f = SubgoalOutcome Σ t F (in_marks true depth old.ground.items) A f × (new.subgoals ≡ suc old.subgoals) × (f ≡ None → GoesPast (marks_in t) F depth A old new)

-- Of all subgoals of a type as a clause, where w is what the walk over them came to: it stands at the end, and each passes.
abbrev pub SubgoalsOutcome : Signature → Table → Outside → LfType → ℕ → Walk → Option ℕ → Type 0
SubgoalsOutcome Σ t o A depth w f = (C : List LfType) → Outcome (Stands (marks_in t) (ground_outside o) (clause_in C o A) depth w (quantifiers A) × ModedBefore Σ (marks_in t) (moded_in t) (ground_outside o) (clause_in C o A) (quantifiers A)) (FirstFaulty Σ (marks_in t) (moded_in t) (ground_outside o) (clause_in C o A) w.subgoals) f

-- Of the end of any clause with this family and head, where U is ground and what isn't in E must be ground.
abbrev pub EndOutcome : Table → (ℕ → Bool) → (ℕ → Bool) → ℕ → Spine → Option ℕ → Type 0
EndOutcome t U E a S f = (c : Clause) → target c.type ≡ a → target_arguments c.type ≡ S → length (marks_in t a) ≡ argument_count S → ((x : ℕ) → (E x ≡ false) ↔ MustBeGround (marks_in t) c x) → Outcome (AllGround (marks_in t) c U) (EndFault (marks_in t) c U) f

-- the first fault of what a goal needs, by its argument: a variable outside U in the type of a hypothesis, and in an input
pub data NeedsFault (m : ℕ → List Mark) (U : ℕ → Bool) (A : LfType) : ℕ → Type 0 where
  in_type : (HypothesesUse U A → ⊥) → NeedsFault m U A 0
  in_input : {j : ℕ} → HypothesesUse U A → FirstOutside 1 (inside A U) (input_places (m (target A))) (target_arguments A) j → NeedsFault m U A j

-- of what a goal needs: the types of its hypotheses and its inputs use variables of U
abbrev pub NeedsOutcome : (ℕ → List Mark) → (ℕ → Bool) → LfType → Option ℕ → Type 0
NeedsOutcome m U A f = Outcome (UsesGoal U (input_places (m (target A))) A) (NeedsFault m U A) f
