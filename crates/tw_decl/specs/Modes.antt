-- What `%mode` asks of its family, the marks that it gives, and its line.
use Rattle.std.specs.Prelude.{◌≡◌, ℕ, List, [], ◌∷◌, ◌++◌, map as each, Option, None, Some, codes, decimal}
use Rattle.lf.specs.Entries.{Body, Entry, declare_constant, declare_family, entry}
use Rattle.lf.specs.Syntax.{LfType}
use Rattle.lf_checks.specs.Clauses.{ClauseName, of_constant, of_entry, group_clauses}
use Rattle.lf_checks.specs.Marks.{Mark, input, output, free}
use Rattle.lf_checks.specs.ModeFaults.{GroupIsModed, GroupModeFault, place_of}
use Rattle.lf_checks.specs.ModeForms.{completed_marks, full_marks}
use Rattle.lf_checks.specs.ModeRows.{FirstUnmoded}
use Rattle.tw_mode.specs.Forms.{FullFormStands}
use Rattle.tw_parse.specs.Syntax.{Declaration}
use Rattle.tw_parse_checks.specs.Checks.{Check, mode_short, mode_full}
use Rattle.tw_parse_checks.specs.declared.check.ExtMark.{ExtMark}
use Rattle.tw_parse_checks.specs.declared.check.ExtMark.TheVariants.{Input, Output, Free}
use Rattle.tw_print.specs.Names.{Scene, constant_word}
use Rattle.tw_recon.specs.Reconstruction.{IsReconstructed}
use Rattle.tw_decl.specs.Applications.{Application, families_named}
use Rattle.tw_decl.specs.Operators.{spaced}
use Rattle.tw_decl.specs.View.{View, rows_with}

-- the check is one of modes
abbrev pub IsMode : Check → Type 0
IsMode (mode_short a ms) = Unit {0}
IsMode (mode_full ms a n d) = Unit {0}
IsMode _ = ⊥

-- the mark that is written
abbrev pub mark_of : ExtMark → Mark
mark_of Input = input
mark_of Output = output
mark_of Free = free

-- the marks of all arguments of an entry, where these are given for the explicit ones
abbrev pub completed_in : Body → ℕ → List Mark → List Mark
completed_in (declare_family K) n ms = completed_marks n ms K
completed_in _ n ms = ms

abbrev pub completed : Option Entry → List Mark → List Mark
completed (Some e) ms = completed_in e.body e.implicit ms
completed None ms = ms

-- the entry of a full form: a constant of this type, of which nothing is implicit, and whose target's arguments are the quantified variables, each of them once
pub record HasFullForm (e : Entry) (U : LfType) : Type 0 where
  pub declares : e.body ≡ declare_constant U
  pub stands : FullFormStands e.implicit U

-- the full form is reconstructed as the type of a constant, and a place has the mark of its variable
pub record GivesFull (es : List Entry) (ms : List Mark) (d : Declaration) (marks : List Mark) : Type 0 where
  pub entry : Entry
  pub reconstructs : IsReconstructed es d entry
  pub type : LfType
  pub form : HasFullForm entry type
  pub by_place : marks ≡ full_marks ms type

-- the marks of the family's places that the check gives
abbrev pub GivesMarks : List Entry → Check → ℕ → List Mark → Type 0
GivesMarks es (mode_short a ms) family marks = marks ≡ completed (entry es family) (each mark_of ms)
GivesMarks es (mode_full ms a n d) family marks = GivesFull es (each mark_of ms) d marks
GivesMarks es _ family marks = ⊥

-- The full form is reconstructed, and isn't one: an argument is no quantified variable alone, or not each of them is one.
pub record IsNoFullForm (es : List Entry) (d : Declaration) : Type 0 where
  pub entry : Entry
  pub reconstructs : IsReconstructed es d entry
  pub none : (U : LfType) → HasFullForm entry U → ⊥

-- with these marks the family's clauses are well-moded, in the empty worlds
abbrev pub IsModed : View → ℕ → List Mark → Type 0
IsModed v family marks = GroupIsModed v.signature (rows_with v family marks) [] (family ∷ [])

-- this family is the first without a mode that its clauses meet
abbrev pub LacksMode : View → ℕ → List Mark → ℕ → Type 0
LacksMode v family marks g = FirstUnmoded (rows_with v family marks) (group_clauses v.signature [] (family ∷ [])) g

-- this is the first fault of its clauses
abbrev pub IsIllModed : View → ℕ → List Mark → ClauseName → ℕ → ℕ → Type 0
IsIllModed v family marks name k j = GroupModeFault v.signature (rows_with v family marks) [] (family ∷ []) name (place_of k j)

-- a clause is shown by its constant, or by the label of a block and the number of an entry
abbrev pub clause_word : Scene → ClauseName → List ℕ
clause_word s (of_constant c) = constant_word s c
clause_word s (of_entry label k) = label ++ codes "/" ++ decimal k

-- each behind one space
abbrev pub mark_word : Mark → List ℕ
mark_word input = codes " +"
mark_word output = codes " -"
mark_word free = codes " *"

abbrev pub mark_words : List Mark → List ℕ
mark_words [] = []
mark_words (m ∷ ms) = mark_word m ++ mark_words ms

-- the keyword, the family and the marks of all its places
abbrev pub mode_line : List Application → List Mark → List ℕ
mode_line xs marks = (codes "%mode" ++ spaced (families_named xs)) ++ mark_words marks ++ codes ".\n"
