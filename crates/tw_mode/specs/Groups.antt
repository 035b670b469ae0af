-- What the check of the clauses of a group comes to.
use Rattle.std.specs.Prelude.{◌≡◌, ℕ, List, Bool, option_map, Option, Some, None, Result, Ok, Err}
use Rattle.lf.specs.Entries.{Entry}
use Rattle.lf.specs.Subordination.{Block}
use Rattle.lf.specs.Typing.{Signature}
use Rattle.lf_checks.specs.Clause.{Clause}
use Rattle.lf_checks.specs.Clauses.{NamedClause, group_clauses}
use Rattle.lf_checks.specs.Faults.{AllPass, FirstFault}
use Rattle.lf_checks.specs.Marks.{Mark}
use Rattle.lf_checks.specs.ModeFaults.{GroupIsModed, GroupModeFault, ModeFault as PlainFault, place_of}
use Rattle.lf_checks.specs.ModeRows.{FirstUnmoded, ModeRow, families_met, first_unmoded}
use Rattle.lf_checks.specs.Modes.{WellModed}
use Rattle.tw_clause.specs.View.{name_of}
use Rattle.tw_mode.specs.Checks.{Outcome}
use Rattle.tw_mode.specs.Outcomes.{plain_place}
use Rattle.tw_mode.specs.Rows.{marks_in, moded_in}
use Rattle.tw_mode.specs.declared.clause.Place.{Place}
use Rattle.tw_mode.specs.declared.table.Table.{Table}
use Rattle.tw_mode.specs.declared.fault.ModeFault.{ModeFault}
use Rattle.tw_mode.specs.declared.fault.ModeFault.TheVariants.{Fault, NoMode, NoMemory}

-- The check of modes says yes, or names the first family without a mode, or the first fault.
abbrev pub GroupOutcome : List Entry → List ModeRow → List Block → List ℕ → Result (Unit {0}) ModeFault → Type 0
GroupOutcome es rows W group (Ok u) = GroupIsModed es rows W group
GroupOutcome es rows W group (Err (Fault name k j)) = GroupModeFault es rows W group (name_of name) (place_of k j)
GroupOutcome es rows W group (Err (NoMode f)) = FirstUnmoded rows (group_clauses es W group) f.0
GroupOutcome es rows W group (Err NoMemory) = Unit {0}

-- of the families that these clauses meet
abbrev pub ModesOutcome : (ℕ → Bool) → List NamedClause → Result (Unit {0}) ModeFault → Type 0
ModesOutcome moded cs (Ok u) = first_unmoded moded (families_met moded cs) ≡ None
ModesOutcome moded cs (Err (Fault name k j)) = ⊥
ModesOutcome moded cs (Err (NoMode f)) = first_unmoded moded (families_met moded cs) ≡ Some f.0
ModesOutcome moded cs (Err NoMemory) = Unit {0}

-- of the clauses themselves
abbrev pub FaultsOutcome : Signature → (ℕ → List Mark) → (ℕ → Bool) → List NamedClause → Result (Unit {0}) ModeFault → Type 0
FaultsOutcome Σ m moded cs (Ok u) = AllPass (WellModed Σ m moded) cs
FaultsOutcome Σ m moded cs (Err (Fault name k j)) = FirstFault (WellModed Σ m moded) (PlainFault Σ m moded) cs (name_of name) (place_of k j)
FaultsOutcome Σ m moded cs (Err (NoMode f)) = ⊥
FaultsOutcome Σ m moded cs (Err NoMemory) = Unit {0}

-- of a constant or an entry
abbrev pub NamedOutcome : Signature → Table → Clause → Option Place → Type 0
NamedOutcome Σ t c f = Outcome (WellModed Σ (marks_in t) (moded_in t) c) (PlainFault Σ (marks_in t) (moded_in t) c) (option_map plain_place f)
