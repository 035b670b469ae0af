-- Worked, on the signature of a goal whose own block variable comes to stand on a newer one: the goal q N D of the outputs of v's subgoal is typed beside
-- it, its run by a split covers it, and so the outputs of the entry v are covered.
use Rattle.std.specs.Prelude.{ℕ, [], ◌∷◌, Bool, Some, None}
use Rattle.lf.specs.Syntax.{app, nil, atom, LfType, Kind, kind_pi, star}
use Rattle.lf.specs.Typing.{Signature}
use Rattle.lf_checks.specs.Below.{IsSubordination}
use Rattle.lf_checks.specs.Clause.{IsClause}
use Rattle.lf_cases.specs.Cover.{CoveredOutputs}
use Rattle.lf_cases.specs.OutputGoal.{output_goal}
use Rattle.lf_cases.specs.Pattern.{of_constant, origin, subgoal_pattern}
use Rattle.lf_totality.specs.Examples.{exp, first_below_second, on_two, var}
use Rattle.lf_totality.specs.ExamplesGroups.{on_one}
use Rattle.lf_totality.specs.ExamplesReached.{open_case, open_clause}
use Rattle.lf_numbered.specs.EntryPatternsExamples.{Laters, later_marks, later_worlds, asking_block, answering_block, asking_clause, asking_origin, asked, asked_goal, answered_case, ground_before}
use Rattle.lf_numbered.specs.EntryPatternsOutputs.{numbered_output_goal}
use Rattle.lf_numbered.specs.EntryPatternsRuns.{IsNumberedLeaf, IsNumberedSplit}
use Rattle.lf_cases.specs.Split.{Ends}
use Rattle.lf_coverage.specs.TypedCase.{IsTypedBeside}
use Rattle.lf_numbered.specs.NumberedBesideGiven.{IsTypedBesideByNumber}
use Rattle.lf_numbered.specs.NumberedCase.{NumberedCase}
use Rattle.lf_numbered.specs.Numbering.{numbered}
use Rattle.lf_numbered.specs.NumberedSplits.{IsAnsweredByNumber}
use Rattle.lf_numbered.specs.NumberedSplitsRuns.{AnswersByNumber}
use Rattle.lf_numbered.specs.OwnStores.{ComesByNumbers}

-- the subgoal q n D, and the kind of q
abbrev pub asked_type : LfType
asked_type = on_two 2 (var 2) (var 1)

abbrev pub asked_kind : Kind
asked_kind = kind_pi exp (kind_pi (on_one 1 (var 0)) star)

-- the same with another block variable in front, so that the entry's own isn't that of number 0
abbrev pub second_goal : NumberedCase
second_goal = record { blocks = record { block = answering_block; terms = nil } ∷ record { block = asking_block; terms = app (var 1) nil } ∷ []; variables = on_one 1 (var 0) ∷ exp ∷ []; given = None ∷ None ∷ []; local = []; family = 2; arguments = None ∷ Some (var 0) ∷ [] }

-- By number the goal is typed beside the subgoal, where D : t N for the block variable's own N. By items it isn't: there the subgoal asks t n of it, for
-- another n. And it isn't for a block variable of another number.
abbrev pub AskedIsBeside : Type 0
AskedIsBeside = IsTypedBesideByNumber Laters 4 later_worlds asked_goal asked × (IsTypedBeside Laters later_worlds (output_goal first_below_second later_marks asking_origin ground_before asked_type asked_kind) asked → ⊥) × (IsTypedBesideByNumber Laters 4 later_worlds second_goal asked → ⊥)

-- Nor is that of {N:nat} {F:nat -> nat} {V:vec (F N)} {Y:nat} r Y -> p (F N) V, where V is given and N and F, which its type mentions, are not: so what is ground
-- must hold the variables in its types.
abbrev pub OpenIsNotBeside : Type 0
OpenIsNotBeside = (Σ : Signature) (first : ℕ) → IsTypedBesideByNumber Σ first [] (numbered first open_case) (subgoal_pattern open_clause (of_constant open_clause.type) (atom 3 (app (var 1) nil))) → ⊥

-- D is split by the entry w of a new block variable b alone: then D is b.w and N is b.x, so that v's own block variable stands on b.x, and keeps the number 0.
abbrev pub AskedIsSplit : Type 0
AskedIsSplit = (below : ℕ → ℕ → Bool) → IsAnsweredByNumber Laters 4 later_worlds below asked_goal 0 (answered_case ∷ [])

-- That case comes so from the goal, and is typed beside the subgoal too: D is b.w : t b.x, and v's own block variable stands on b.x.
abbrev pub AnsweredIsBeside : Type 0
AnsweredIsBeside = ComesByNumbers Laters later_worlds 4 first_below_second asked_goal answered_case × IsTypedBesideByNumber Laters 4 later_worlds answered_case asked

-- So a run by splits covers the outputs of v's subgoal.
abbrev pub LaterRunGivesOutputs : Type 0
LaterRunGivesOutputs = (below : ℕ → ℕ → Bool) → IsSubordination Laters later_worlds below → ((d : IsClause Laters later_worlds asking_clause) → Ends (IsNumberedLeaf Laters 4 later_worlds (subgoal_pattern asking_clause (origin d) asked_type ∷ [])) (IsNumberedSplit Laters 4 later_worlds (below 3)) (numbered_output_goal 4 below later_marks (origin d) ground_before asked_type asked_kind)) × CoveredOutputs Laters later_marks later_worlds (below 3) asking_clause ground_before asked_type

-- And so does one at each head of which unification answers.
abbrev pub LaterAnswersGiveOutputs : Type 0
LaterAnswersGiveOutputs = (below : ℕ → ℕ → Bool) → IsSubordination Laters later_worlds below → ((d : IsClause Laters later_worlds asking_clause) → Ends (IsNumberedLeaf Laters 4 later_worlds (subgoal_pattern asking_clause (origin d) asked_type ∷ [])) (AnswersByNumber Laters 4 later_worlds below (below 3)) (numbered_output_goal 4 below later_marks (origin d) ground_before asked_type asked_kind)) × CoveredOutputs Laters later_marks later_worlds (below 3) asking_clause ground_before asked_type
