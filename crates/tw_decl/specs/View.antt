-- What a session knows.
use Rattle.std.specs.Prelude.{ℕ, List, [], ◌∷◌, ◌++◌, Bool, false, map as each, nat_le, if◌then◌else◌}
use Rattle.std.specs.FinMap.{FinMap, empty, insert, remove}
use Rattle.std.specs.Ordering.{nat_cmp}
use Rattle.lf.specs.Entries.{Entry, IsCanonicalSignature, signature_of}
use Rattle.lf.specs.Subordination.{AreTypedBlocks, Block, Member}
use Rattle.lf_checks.specs.Marks.{Mark}
use Rattle.lf_checks.specs.ModeRows.{ModeRow}
use Rattle.lf_checks.specs.Tests.{is_in}
use Rattle.lf_checks.specs.WorldFaults.{WorldRow}
use Rattle.tw_mode.specs.ModeTables.{mode_rows}
use Rattle.tw_parse.specs.Outlines.{Table}
use Rattle.tw_print.specs.Names.{Preferences, Scene}
use Rattle.tw_decl.specs.declared.parameters.Parameters.{Parameters}

-- What the declarations that check the signature add: modes, the marks of families by their numbers; the blocks, the oldest first, of which a label names its newest; and the worlds of
-- families, of which the first row of a family counts. Records of totality and frozen families will stand here too; no such declaration is made yet.
pub record Checked : Type 0 where
  pub modes : FinMap nat_cmp (List Mark)
  pub blocks : List Block
  pub worlds : List WorldRow

abbrev pub nothing_checked : Checked
nothing_checked = record { modes = empty; blocks = []; worlds = [] }

-- The entries kept, the newest first; the rows of the operators; for families the names that their variables are shown by;
-- what was checked; what the user has set; and the files that the configuration names that was read last, if one was.
pub record View : Type 0 where
  pub signature : List Entry
  pub fixities : Table
  pub names : FinMap nat_cmp Preferences
  pub checked : Checked
  pub parameters : Parameters
  pub config : List (List ℕ)

-- what is set at first
abbrev pub first_parameters : Parameters
first_parameters = record { chatter = 3; implicit = false; steps = 1000000 }

abbrev pub empty_view : View
empty_view = record { signature = []; fixities = empty; names = empty; checked = nothing_checked; parameters = first_parameters; config = [] }

-- nothing is declared or checked any more; what the user has set stays, and so does the configuration
abbrev pub reset_view : View → View
reset_view v = record { signature = []; fixities = empty; names = empty; checked = nothing_checked; parameters = v.parameters; config = v.config }

-- one parameter is set
abbrev pub with_chatter : View → ℕ → View
with_chatter v n = record v { parameters = record { chatter = n; implicit = v.parameters.implicit; steps = v.parameters.steps } }

abbrev pub with_implicit : View → Bool → View
with_implicit v b = record v { parameters = record { chatter = v.parameters.chatter; implicit = b; steps = v.parameters.steps } }

abbrev pub with_steps : View → ℕ → View
with_steps v n = record v { parameters = record { chatter = v.parameters.chatter; implicit = v.parameters.implicit; steps = n } }

-- what is told of an accepted declaration: nothing where the chatter is below 3
abbrev pub told : View → List ℕ → List ℕ
told v lines = if nat_le 3 v.parameters.chatter then lines else []

-- a new entry hides the older ones of its name, and the name is no operator any more
abbrev pub with_entry : View → Entry → View
with_entry v e = record v { signature = e ∷ v.signature; fixities = remove v.fixities e.name }

-- a family gets these marks, in place of those that it had
abbrev pub with_mode : View → ℕ → List Mark → View
with_mode v family marks = record v { checked = record { modes = insert v.checked.modes family marks; blocks = v.checked.blocks; worlds = v.checked.worlds } }

-- the rows of modes that stand once it has them
abbrev pub rows_with : View → ℕ → List Mark → List ModeRow
rows_with v family marks = mode_rows (with_mode v family marks).checked.modes

-- a block is added, and hides the older ones of its label
abbrev pub with_block : View → Block → View
with_block v B = record v { checked = record { modes = v.checked.modes; blocks = v.checked.blocks ++ B ∷ []; worlds = v.checked.worlds } }

-- the rows of other families than these
abbrev pub rows_beside : List ℕ → List WorldRow → List WorldRow
rows_beside families [] = []
rows_beside families (r ∷ rows) = if is_in r.family families then rows_beside families rows else r ∷ rows_beside families rows

-- each of the families gets these worlds, in place of those that it had
abbrev pub world_row : List Block → ℕ → WorldRow
world_row W family = record { family = family; blocks = W }

abbrev pub with_worlds : View → List ℕ → List Block → View
with_worlds v families W = record v { checked = record { modes = v.checked.modes; blocks = v.checked.blocks; worlds = each (world_row W) families ++ rows_beside families v.checked.worlds } }

-- what texts depend on
abbrev pub scene_of : View → Scene
scene_of v = record { entries = v.signature; rows = v.fixities; names = v.names; implicit = v.parameters.implicit }

-- each of them is one of the list
abbrev pub AreAmong : List Block → List Block → Type 0
AreAmong Bs W = (B : Block) → Member B W → Member B Bs

-- Blocks are typed over the signature, and those of each row of worlds are among them.
pub record BlocksStand (es : List Entry) (Bs : List Block) (rows : List WorldRow) : Type 0 where
  pub typed : AreTypedBlocks (signature_of es) Bs
  pub listed : (r : WorldRow) → Member r rows → AreAmong Bs r.blocks

-- the signature is canonical LF, and its blocks and worlds stand
abbrev pub IsSound : View → Type 0
IsSound v = IsCanonicalSignature v.signature × BlocksStand v.signature v.checked.blocks v.checked.worlds
