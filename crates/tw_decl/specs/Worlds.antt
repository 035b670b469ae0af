-- What `%worlds` asks of its labels and families, and its line.
use Rattle.std.specs.Prelude.{◌≡◌, ℕ, List, [], ◌∷◌, ◌++◌, map as each, Bool, true, false, ◌&&◌, Some, codes}
use Rattle.lf.specs.Entries.{signature_of}
use Rattle.lf.specs.Subordination.{Block, IsBelowTest}
use Rattle.lf_checks.specs.Clauses.{ClauseName, group_clauses}
use Rattle.lf_checks.specs.WorldFaults.{GroupIsWorlded, GroupWorldFault}
use Rattle.tw_parse.specs.declared.decl.ExtName.{ExtName}
use Rattle.tw_parse_checks.specs.Checks.{Call, worlds}
use Rattle.tw_world.specs.Outcomes.{FirstDeep}
use Rattle.tw_decl.specs.Applications.{Application, IsApplied, all_take_just, applications, families_named, unknown_in_check}
use Rattle.tw_decl.specs.Labels.{block_named, is_label}
use Rattle.tw_decl.specs.Operators.{spaced}
use Rattle.tw_decl.specs.View.{View}

-- each of the names is a block's label
abbrev pub are_labels : View → List ExtName → Bool
are_labels v [] = true
are_labels v (l ∷ ls) = is_label v.checked.blocks l.name && are_labels v ls

-- The names of the declaration are known, the labels name these blocks, each its newest, and the call patterns these families, each with all explicit arguments.
pub record GivesWorlds (v : View) (ls : List ExtName) (ps : List Call) (families : List ℕ) (W : List Block) : Type 0 where
  pub applied : IsApplied v (worlds ls ps) families
  pub named : each (λ l. block_named v l.name) ls ≡ each Some W

-- Its names are known, and a label is no block's, or a family is none or has more or fewer explicit arguments.
pub record GivesNoWorlds (v : View) (ls : List ExtName) (ps : List Call) : Type 0 where
  pub known : unknown_in_check v (worlds ls ps) ≡ []
  pub off : (are_labels v ls && all_take_just v.signature (applications (worlds ls ps))) ≡ false

-- this has the families below each one, over the signature and all blocks that are declared
abbrev pub TellsBelow : View → (ℕ → ℕ → Bool) → Type 0
TellsBelow v below = (f : ℕ) → IsBelowTest (signature_of v.signature) v.checked.blocks (below f) f

-- the clauses of the families are well-worlded in these worlds
abbrev pub AreWorlded : View → List ℕ → List Block → Type 0
AreWorlded v families W = (below : ℕ → ℕ → Bool) × TellsBelow v below × GroupIsWorlded v.signature v.checked.worlds families below W

-- this clause is the first that isn't, and in it this subgoal the first that doesn't pass
abbrev pub IsIllWorlded : View → List ℕ → List Block → ClauseName → ℕ → Type 0
IsIllWorlded v families W name k = (below : ℕ → ℕ → Bool) × TellsBelow v below × GroupWorldFault v.signature v.checked.worlds families below W name k

-- a subgoal is left open, since in its local context the typing of a `some` term goes too deep, and each one before it passes
abbrev pub GoesDeep : View → List ℕ → List Block → Type 0
GoesDeep v families W = (below : ℕ → ℕ → Bool) × TellsBelow v below × FirstDeep (signature_of v.signature) v.checked.worlds families below W (group_clauses v.signature W families)

-- labels behind a first one
abbrev pub further_labels : List ExtName → List ℕ
further_labels [] = []
further_labels (l ∷ ls) = codes " | " ++ l.name ++ further_labels ls

abbrev pub label_words : List ExtName → List ℕ
label_words [] = []
label_words (l ∷ ls) = l.name ++ further_labels ls

-- the declaration with single spaces, without the arguments of the families: `%worlds (l1 | l2) a b.`
abbrev pub worlds_line : List ExtName → List Application → List ℕ
worlds_line ls xs = (codes "%worlds (" ++ label_words ls ++ codes ")") ++ spaced (families_named xs) ++ codes ".\n"
