-- Worked: the answer of a case with a block variable, and its ground instance.
use Rattle.std.specs.Prelude.{ℕ, zero, suc, List, [], ◌∷◌, Option, Some, None}
use Rattle.lf.specs.Syntax.{constant, metavariable, Term, root, nil, LfType, base}
use Rattle.lf.specs.Substitution.{keep, put}
use Rattle.lf.specs.Typing.{Signature}
use Rattle.lf.specs.Variables.{everything}
use Rattle.lf.specs.Worlds.{World}
use Rattle.lf_unification.specs.Dependency.{ListedMetavariable}
use Rattle.lf_unification.specs.Solving.{Solved}
use Rattle.lf_unification.specs.Unifiers.{Store}
use Rattle.lf_cases.specs.Cover.{InstanceIn}
use Rattle.lf_totality.specs.Examples.{Copying, copy_block, cp, exp, var}
use Rattle.lf_numbered.specs.EntryConstants.{with_entries}
use Rattle.lf_numbered.specs.ExamplesEntries.{copy_entry_case}
use Rattle.lf_numbered.specs.OwnValuesAnswer.{AnswerInstance}
use Rattle.lf_numbered.specs.Reading.{entry_reading}

-- The case cp X _ with a block variable b of {x:exp} {u:cp x x}; b.x is the constant 4. X is the metavariable 0, and the equation is X = b.x.
abbrev pub CopyEntries : Signature
CopyEntries = with_entries Copying 4 (copy_block ∷ [])

abbrev pub the_entry : Term
the_entry = root (constant 4) nil

abbrev pub only_exp : ℕ → Option LfType
only_exp zero = Some exp
only_exp (suc m) = None

abbrev pub entry_equation : Store
entry_equation = record { metavariables = only_exp; bindings = []; equations = record { local = []; left = root (metavariable 0) nil; right = the_entry; of_type = exp } ∷ [] }

-- It is solved by X := b.x.
abbrev pub entry_bound : Store
entry_bound = record { metavariables = only_exp; bindings = record { of = 0; value = the_entry } ∷ []; equations = [] }

abbrev pub bound_order : List ListedMetavariable
bound_order = record { of = 0; of_type = exp; value = Some the_entry } ∷ []

abbrev pub entry_value : ℕ → Option Term
entry_value zero = Some the_entry
entry_value (suc m) = None

-- In the context {x:exp} {u:cp x x} with its instance, for which b stands, the typed unifier X = b.x is a ground instance of the answer's case cp b.x _.
abbrev pub EntryAnswerIsInstance : Type 0
EntryAnswerIsInstance = Solved CopyEntries entry_equation entry_bound × ((w : World Copying (copy_block ∷ []) everything (cp (var 0) (var 0) ∷ exp ∷ [])) → InstanceIn w copy_block keep → AnswerInstance CopyEntries w 4 (λ k i. keep i) (entry_reading 4 (copy_block ∷ []) (λ k i. keep i) 0) (λ i. i) (exp ∷ []) 0 (λ i. put (base 0) the_entry) copy_entry_case only_exp entry_bound bound_order entry_value)
