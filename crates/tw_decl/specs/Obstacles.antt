-- Why a declaration that is read isn't made: by its form, and then by its refusals.
use Rattle.std.specs.Prelude.{◌≡◌, ◌⊎◌, List, [], ◌∷◌, ◌++◌, ℕ, true, false, codes, None, Some}
use Rattle.lf.specs.Subordination.{Block}
use Rattle.lf_checks.specs.Clauses.{ClauseName}
use Rattle.lf_checks.specs.Marks.{Mark}
use Rattle.lf_checks.specs.ModeRows.{first_unmoded, is_moded}
use Rattle.tw_clause.specs.declared.order.Order.{Order as PlainOrder}
use Rattle.tw_mode.specs.ModeTables.{mode_rows}
use Rattle.tw_terms.specs.declared.canonical.ConstId.{ConstId}
use Rattle.tw_fixity.specs.declared.table.Fix.{Fix}
use Rattle.tw_lexer.specs.declared.place.Place.{Place}
use Rattle.tw_metas.specs.declared.left.LeftEquation.{LeftEquation}
use Rattle.tw_approx.specs.Names.{IsFreeVariable}
use Rattle.tw_parse.specs.Syntax.{Declaration, declare, define, prefer, give}
use Rattle.tw_parse.specs.declared.decl.ExtName.{ExtName}
use Rattle.tw_parse_checks.specs.Checks.{Call, Check, Order, mode_short, mode_full, block, worlds, terminates}
use Rattle.tw_parse_queries.specs.Searches.{query, solve}
use Rattle.tw_print.specs.Names.{constant_word}
use Rattle.tw_recon.specs.Causes as reconstruction
use Rattle.tw_recon.specs.declared.fault.ReconFault.{ReconFault}
use Rattle.tw_recon.specs.declared.fault.ReconFault.TheVariants as reconstructions
use Rattle.tw_decl.specs.Equations.{left_text}
use Rattle.tw_decl.specs.Applications.{IsApplied, IsFirstUnknown, IsMisapplied}
use Rattle.tw_decl.specs.Blocks.{HasNoFree, LeavesOpen}
use Rattle.tw_decl.specs.Labels.{is_known}
use Rattle.tw_decl.specs.Modes.{GivesMarks, IsIllModed, IsNoFullForm, LacksMode, clause_word}
use Rattle.tw_decl.specs.Termination.{AreAtInputs, GivesOrders, IsFirstCall, NamesModed}
use Rattle.tw_decl.specs.Operators.{newest, operand_count, all_take, first_undeclared}
use Rattle.tw_decl.specs.Preferences.{is_family}
use Rattle.tw_decl.specs.Reading.{Read, plain, check, searching}
use Rattle.tw_decl.specs.Unanswered.{IsNotAnswered, IsNotSolved}
use Rattle.tw_decl.specs.View.{View, scene_of}
use Rattle.tw_decl.specs.Worlds.{GivesNoWorlds, GivesWorlds, GoesDeep, IsIllWorlded}
use Rattle.tw_decl.specs.declared.refusal.Refusal.{Refusal}
use Rattle.tw_decl.specs.declared.refusal.Refusal.TheVariants as refusals

-- the fault of a declaration's reconstruction
abbrev pub ReconstructionFails : View → Declaration → ReconFault → Type 0
ReconstructionFails v d fault = reconstruction.HasCause v.signature d fault

-- A definition or a lambda stands at the level of types: the fault is told at the declaration's first token, or at the lambda's bracket.
abbrev pub IsTypeLevel : View → Declaration → Place → Place → Type 0
IsTypeLevel v d first place = (ReconstructionFails v d (reconstructions.TypeLevel None) × (place ≡ first)) ⊎ ReconstructionFails v d (reconstructions.TypeLevel (Some place))

-- an equation with this text is left
abbrev pub IsLeft : View → Declaration → List ℕ → Type 0
IsLeft v d text = (left : LeftEquation) × ReconstructionFails v d (reconstructions.Leftover left) × (text ≡ left_text v left)

-- why a constant, family or definition isn't entered, where its first token stands at this place: how it isn't completed
abbrev pub IsNotEntered : View → Declaration → Place → Refusal → Type 0
IsNotEntered v d first refusals.Memory = Unit {0}
IsNotEntered v d first (refusals.Unknown place name) = ReconstructionFails v d (reconstructions.Unknown name place)
IsNotEntered v d first (refusals.Unsupported place shown) = IsTypeLevel v d first place × (shown ≡ codes "type")
IsNotEntered v d first (refusals.Loose place) = ReconstructionFails v d reconstructions.Loose × (place ≡ first)
IsNotEntered v d first (refusals.Mismatch place) = ReconstructionFails v d reconstructions.Mismatch × (place ≡ first)
IsNotEntered v d first (refusals.Leftover place text) = IsLeft v d text.items × (place ≡ first)
IsNotEntered v d first (refusals.TooDeep place) = ReconstructionFails v d reconstructions.TooDeep × (place ≡ first)
IsNotEntered v d first _ = ⊥

-- Why names don't get the row of an operator: this is the first that is neither an entry's nor a block's; or none is such, and one of them is no entry's, or
-- takes fewer arguments than the operator has operands.
abbrev pub IsNotGiven : View → Fix → List ExtName → Place → Refusal → Type 0
IsNotGiven v fix names first refusals.Memory = Unit {0}
IsNotGiven v fix names first (refusals.Unknown place name) = first_undeclared v names ≡ Some (record { name = name; at = place })
IsNotGiven v fix names first (refusals.BadDecl place) = (first_undeclared v names ≡ None) × (all_take v.signature (operand_count fix) names ≡ false) × (place ≡ first)
IsNotGiven v fix names first _ = ⊥

-- why a family doesn't get preferred names: no entry and no block has its name; or one has, and it isn't that of a family
abbrev pub IsNotPreferred : View → ExtName → Place → Refusal → Type 0
IsNotPreferred v a first refusals.Memory = Unit {0}
IsNotPreferred v a first (refusals.Unknown place name) = (is_known v a.name ≡ false) × (name ≡ a.name) × (place ≡ a.at)
IsNotPreferred v a first (refusals.BadDecl place) = (is_known v a.name ≡ true) × (is_family (newest v.signature a.name) ≡ false) × (place ≡ first)
IsNotPreferred v a first _ = ⊥

-- why a declaration that is read isn't made, where its first token stands at this place
abbrev pub HasObstacle : View → Declaration → Place → Refusal → Type 0
HasObstacle v (declare c at U) first refusal = IsNotEntered v (declare c at U) first refusal
HasObstacle v (define c A M b) first refusal = IsNotEntered v (define c A M b) first refusal
HasObstacle v (prefer a x y) first refusal = IsNotPreferred v a first refusal
HasObstacle v (give fix names) first refusal = IsNotGiven v fix names first refusal

-- Why a check doesn't come to its families, where its first token stands at this place: this is the first name of it that isn't known; or what one names is no family with just its arguments.
abbrev pub IsNotApplied : View → Check → Place → Refusal → Type 0
IsNotApplied v c first refusals.Memory = Unit {0}
IsNotApplied v c first (refusals.Unknown place name) = IsFirstUnknown v c (record { name = name; at = place })
IsNotApplied v c first (refusals.BadDecl place) = IsMisapplied v c × (place ≡ first)
IsNotApplied v c first _ = ⊥

-- why a full form gives no marks: it isn't reconstructed, or what comes of it has not the form
abbrev pub IsNotFull : View → Declaration → Place → Refusal → Type 0
IsNotFull v d first (refusals.BadDecl place) = IsNoFullForm v.signature d × (place ≡ first)
IsNotFull v d first refusal = IsNotEntered v d first refusal

-- why a check of a family with just its arguments gives no marks
abbrev pub GivesNoMarks : View → Check → Place → Refusal → Type 0
GivesNoMarks v (mode_short a ms) first refusal = ⊥
GivesNoMarks v (mode_full ms a n d) first refusal = IsNotFull v d first refusal
GivesNoMarks v _ first refusal = ⊥

abbrev pub MarksFail : View → Check → Place → Refusal → Type 0
MarksFail v c first refusal = ((family : ℕ) × IsApplied v c (family ∷ [])) × GivesNoMarks v c first refusal

-- Why a family isn't checked by these marks: it meets this family, which has no mode and is shown behind `mode`; or this clause isn't well-moded.
abbrev pub IsNotModed : View → ℕ → List Mark → Place → Refusal → Type 0
IsNotModed v family marks first refusals.Memory = Unit {0}
IsNotModed v family marks first (refusals.NotDeclared place text) = ((g : ℕ) × LacksMode v family marks g × (text.items ≡ codes "mode " ++ constant_word (scene_of v) g)) × (place ≡ first)
IsNotModed v family marks first (refusals.ModeFault place clause k j) = ((name : ClauseName) × IsIllModed v family marks name k j × (clause.items ≡ clause_word (scene_of v) name)) × (place ≡ first)
IsNotModed v family marks first _ = ⊥

-- the check gives its family these marks, and it isn't checked by them
pub record RowFails (v : View) (c : Check) (first : Place) (refusal : Refusal) : Type 0 where
  pub family : ℕ
  pub marks : List Mark
  pub applied : IsApplied v c (family ∷ [])
  pub gives : GivesMarks v.signature c family marks
  pub fails : IsNotModed v family marks first refusal

-- Why a check doesn't give its family a mode, where its first token stands at this place: a name of it isn't known; what it names is no family with just its arguments; it
-- gives no marks; or the family isn't checked by them.
abbrev pub IsNotSet : View → Check → Place → Refusal → Type 0
IsNotSet v c first refusals.Memory = Unit {0}
IsNotSet v c first (refusals.Unknown place name) = IsNotApplied v c first (refusals.Unknown place name)
IsNotSet v c first (refusals.BadDecl place) = IsNotApplied v c first (refusals.BadDecl place) ⊎ MarksFail v c first (refusals.BadDecl place)
IsNotSet v c first (refusals.NotDeclared place text) = RowFails v c first (refusals.NotDeclared place text)
IsNotSet v c first (refusals.ModeFault place clause k j) = RowFails v c first (refusals.ModeFault place clause k j)
IsNotSet v c first refusal = MarksFail v c first refusal

-- the families of a `%terminates` and the first of them without a mode
pub record LacksModes (v : View) (O : Order) (ps : List Call) (g : ℕ) : Type 0 where
  pub families : List ℕ
  pub applied : IsApplied v (terminates O ps) families
  pub unmoded : first_unmoded (is_moded (mode_rows v.checked.modes)) families ≡ Some g

-- its families have modes, and a place that it gives one of them isn't an input
pub record MissesInputs (v : View) (O : Order) (ps : List Call) : Type 0 where
  pub families : List ℕ
  pub named : NamesModed v O ps families
  pub off : AreAtInputs v 0 O ps → ⊥

-- it gives them orders over inputs, and this is the first call that doesn't descend, in the blocks of their worlds
pub record Ascends (v : View) (O : Order) (ps : List Call) (name : ClauseName) (k : ℕ) : Type 0 where
  pub rows : List (ConstId × PlainOrder)
  pub gives : GivesOrders v O ps rows
  pub first : IsFirstCall v rows name k

-- Why families don't descend by an order, where the first token stands at this place: it doesn't come to its families; this one of them has no mode, and is shown behind `mode`; a variable stands at no
-- input; or this clause doesn't descend.
abbrev pub IsNotDescending : View → Order → List Call → Place → Refusal → Type 0
IsNotDescending v O ps first (refusals.BadDecl place) = IsNotApplied v (terminates O ps) first (refusals.BadDecl place) ⊎ (MissesInputs v O ps × (place ≡ first))
IsNotDescending v O ps first (refusals.NotDeclared place text) = ((g : ℕ) × LacksModes v O ps g × (text.items ≡ codes "mode " ++ constant_word (scene_of v) g)) × (place ≡ first)
IsNotDescending v O ps first (refusals.OrderFault place clause k) = ((name : ClauseName) × Ascends v O ps name k × (clause.items ≡ clause_word (scene_of v) name)) × (place ≡ first)
IsNotDescending v O ps first refusal = IsNotApplied v (terminates O ps) first refusal

-- Why a block isn't added, where the first token stands at this place: a free variable stands in it; it isn't reconstructed; or a term in it stays open.
abbrev pub IsNotAdded : View → Declaration → Place → Refusal → Type 0
IsNotAdded v d first refusals.Memory = Unit {0}
IsNotAdded v d first (refusals.BadDecl place) = (((x : List ℕ) × IsFreeVariable v.signature x d) ⊎ LeavesOpen v d) × (place ≡ first)
IsNotAdded v d first refusal = HasNoFree v d × IsNotEntered v d first refusal

-- the declaration gives these families these worlds, and this clause isn't well-worlded in them
pub record BreaksWorlds (v : View) (ls : List ExtName) (ps : List Call) (name : ClauseName) (k : ℕ) : Type 0 where
  pub families : List ℕ
  pub blocks : List Block
  pub gives : GivesWorlds v ls ps families blocks
  pub first : IsIllWorlded v families blocks name k

-- the same where a subgoal is left open
pub record WorldsGoDeep (v : View) (ls : List ExtName) (ps : List Call) : Type 0 where
  pub families : List ℕ
  pub blocks : List Block
  pub gives : GivesWorlds v ls ps families blocks
  pub deep : GoesDeep v families blocks

-- Why families don't get worlds, where the first token stands at this place: this is the first name that isn't known; a label is no block's, or a family is none with just its arguments; this clause isn't
-- well-worlded; or a subgoal is left open.
abbrev pub IsNotWorlded : View → List ExtName → List Call → Place → Refusal → Type 0
IsNotWorlded v ls ps first refusals.Memory = Unit {0}
IsNotWorlded v ls ps first (refusals.Unknown place name) = IsFirstUnknown v (worlds ls ps) (record { name = name; at = place })
IsNotWorlded v ls ps first (refusals.BadDecl place) = GivesNoWorlds v ls ps × (place ≡ first)
IsNotWorlded v ls ps first (refusals.WorldFault place clause k) = ((name : ClauseName) × BreaksWorlds v ls ps name k × (clause.items ≡ clause_word (scene_of v) name)) × (place ≡ first)
IsNotWorlded v ls ps first (refusals.TooDeep place) = WorldsGoDeep v ls ps × (place ≡ first)
IsNotWorlded v ls ps first _ = ⊥

-- why a check isn't made
abbrev pub IsNotChecked : View → Check → Place → Refusal → Type 0
IsNotChecked v (mode_short a ms) first refusal = IsNotSet v (mode_short a ms) first refusal
IsNotChecked v (mode_full ms a n d) first refusal = IsNotSet v (mode_full ms a n d) first refusal
IsNotChecked v (terminates O ps) first refusal = IsNotDescending v O ps first refusal
IsNotChecked v (block l n d) first refusal = IsNotAdded v d first refusal
IsNotChecked v (worlds ls ps) first refusal = IsNotWorlded v ls ps first refusal

-- why what is read isn't made
abbrev pub ReadHasObstacle : View → Read → Place → Refusal → Type 0
ReadHasObstacle v (plain d) first refusal = HasObstacle v d first refusal
ReadHasObstacle v (check c) first refusal = IsNotChecked v c first refusal
ReadHasObstacle v (searching (query e t q)) first refusal = IsNotAnswered v e t q first refusal
ReadHasObstacle v (searching (solve c at A)) first refusal = IsNotSolved v c A first refusal
