-- Why a check doesn't give its family a mode, from the causes of each step.
use Rattle.std.proofs.Common.{◌≡◌, ℕ, List, [], ◌∷◌, ◌++◌, Bool, true, false, refl, sym, subst, inl, inr}
use Rattle.std.specs.Prelude.{◌&&◌}
use Rattle.lf_checks.specs.Marks.{Mark}
use Rattle.tw_lexer.specs.declared.place.Place.{Place}
use Rattle.tw_names.specs.Unknown.{IsFirst, IsOneOf, unknown_in}
use Rattle.tw_names.specs.declared.unknown.Mention.{Mention}
use Rattle.tw_parse.specs.Syntax.{Declaration}
use Rattle.tw_parse.specs.declared.decl.ExtName.{ExtName}
use Rattle.tw_parse_checks.specs.Checks.{Call, Check, Order, mode_short, mode_full, terminates, worlds}
use Rattle.tw_parse_checks.specs.declared.check.ExtMark.{ExtMark}
use Rattle.tw_decl.specs.Applications.{AreKnown, IsApplied, all_take_just, applications, unknown, unknown_in_check}
use Rattle.tw_decl.specs.Blocks.{HasNoFree}
use Rattle.tw_decl.specs.Worlds.{GivesWorlds, IsIllWorlded, are_labels}
use Rattle.lf.specs.Subordination.{Block}
use Rattle.lf.specs.Entries.{Entry}
use Rattle.std.specs.Bool.{MatchBool}
use Rattle.tw_approx.specs.Names.{IsFreeVariable}
use Rattle.tw_decl.specs.Modes.{GivesMarks, LacksMode, IsIllModed}
use Rattle.lf_checks.specs.Clauses.{ClauseName}
use Rattle.tw_decl.specs.Obstacles.{GivesNoMarks, IsNotAdded, IsNotApplied, IsNotDescending, IsNotEntered, IsNotFull, IsNotModed, IsNotSet, IsNotWorlded, LacksModes}
use Rattle.tw_decl.specs.Steps.{CallFails, ShowsFault, ShowsUnmoded, ShowsWorldFault, WorldsFail}
use Rattle.tw_decl.specs.Termination.{GivesOrders}
use Rattle.tw_clause.specs.declared.order.Order.{Order as PlainOrder}
use Rattle.tw_terms.specs.declared.canonical.ConstId.{ConstId}
use Rattle.tw_decl.specs.View.{View}
use Rattle.tw_decl.specs.declared.refusal.Refusal.{Refusal}
use Rattle.tw_decl.specs.declared.refusal.Refusal.TheVariants as refusals
use Rattle.tw_decl.proofs.Naming.{none_left}

-- it isn't reconstructed
pub not_full : (v : View) (d : Declaration) (first : Place) (refusal : Refusal) → IsNotEntered v d first refusal → IsNotFull v d first refusal
not_full v d first (refusals.BadDecl place) h = absurd h
not_full v d first refusal h = h

-- what keeps the full form from giving marks
module _ (v : View) (ms : List ExtMark) (a : ExtName) (n : ℕ) (d : Declaration) (first : Place) (family : ℕ) (applied : IsApplied v (mode_full ms a n d) (family ∷ [])) where
  known : (m : Mention) → IsFirst m (unknown_in v.signature d) → ⊥
  known m h = let none : IsOneOf m [] = subst (IsOneOf m) (none_left (unknown_in v.signature d) (unknown v a ++ []) applied.known) h.stands in none

  pub full_not_set : (refusal : Refusal) → IsNotFull v d first refusal → IsNotSet v (mode_full ms a n d) first refusal
  full_not_set refusals.Memory h = tt
  full_not_set (refusals.Unknown place name) h = absurd (known (record { name = name; at = place }) h)
  full_not_set (refusals.BadDecl place) h = inr ((family, applied), h)
  full_not_set (refusals.NotDeclared place text) h = absurd h
  full_not_set (refusals.ModeFault place clause k j) h = absurd h
  full_not_set refusal h = ((family, applied), h)

-- the check is applied, and gives no marks
pub marks_fail : (v : View) (c : Check) (first : Place) (family : ℕ) → IsApplied v c (family ∷ []) → (refusal : Refusal) → GivesNoMarks v c first refusal → IsNotSet v c first refusal
marks_fail v (mode_short a ms) first family applied refusal h = absurd h
marks_fail v (mode_full ms a n d) first family applied refusal h = full_not_set v ms a n d first family applied refusal h
marks_fail v _ first family applied refusal h = absurd h

-- the check doesn't come to its families
pub not_applied : (v : View) (c : Check) (first : Place) (refusal : Refusal) → IsNotApplied v c first refusal → IsNotSet v c first refusal
not_applied v c first refusals.Memory h = tt
not_applied v c first (refusals.Unknown place name) h = h
not_applied v c first (refusals.BadDecl place) h = inl h
not_applied v c first refusal h = absurd h

-- the clauses aren't well-moded
pub row_fails : (v : View) (c : Check) (first : Place) (family : ℕ) (marks : List Mark) (refusal : Refusal) → IsApplied v c (family ∷ []) → GivesMarks v.signature c family marks → IsNotModed v family marks first refusal → IsNotSet v c first refusal
row_fails v c first family marks refusals.Memory applied gives h = tt
row_fails v c first family marks (refusals.NotDeclared place text) applied gives h = record { family = family; marks = marks; applied = applied; gives = gives; fails = h }
row_fails v c first family marks (refusals.ModeFault place clause k j) applied gives h = record { family = family; marks = marks; applied = applied; gives = gives; fails = h }
row_fails v c first family marks refusal applied gives h = absurd h

pub unmoded_fails : (v : View) (family : ℕ) (marks : List Mark) (first : Place) (g : ℕ) (refusal : Refusal) → LacksMode v family marks g → ShowsUnmoded v first g refusal → IsNotModed v family marks first refusal
unmoded_fails v family marks first g refusals.Memory h s = tt
unmoded_fails v family marks first g (refusals.NotDeclared place text) h s = ((g, h, s.0), s.1)
unmoded_fails v family marks first g refusal h s = absurd s

pub fault_fails : (v : View) (family : ℕ) (marks : List Mark) (first : Place) (name : ClauseName) (k j : ℕ) (refusal : Refusal) → IsIllModed v family marks name k j → ShowsFault v first name k j refusal → IsNotModed v family marks first refusal
fault_fails v family marks first name k j refusals.Memory h s = tt
fault_fails v family marks first name k j (refusals.ModeFault place clause l i) h s =
    ((name, subst (λ (x : ℕ). IsIllModed v family marks name x i) (sym s.1) (subst (λ (x : ℕ). IsIllModed v family marks name k x) (sym s.2) h), s.0), s.3)
fault_fails v family marks first name k j refusal h s = absurd s

-- why calls aren't tested, or don't descend
pub not_come : (v : View) (O : Order) (ps : List Call) (first : Place) (refusal : Refusal) → IsNotApplied v (terminates O ps) first refusal → IsNotDescending v O ps first refusal
not_come v O ps first (refusals.BadDecl place) h = inl h
not_come v O ps first (refusals.NotDeclared place text) h = absurd h
not_come v O ps first (refusals.OrderFault place clause k) h = absurd h
not_come v O ps first refusal h = h

pub modes_lacking : (v : View) (O : Order) (ps : List Call) (first : Place) (g : ℕ) (refusal : Refusal) → LacksModes v O ps g → ShowsUnmoded v first g refusal → IsNotDescending v O ps first refusal
modes_lacking v O ps first g refusals.Memory h s = tt
modes_lacking v O ps first g (refusals.NotDeclared place text) h s = ((g, h, s.0), s.1)
modes_lacking v O ps first g refusal h s = absurd s

pub calls_fail : (v : View) (O : Order) (ps : List Call) (first : Place) (rows : List (ConstId × PlainOrder)) (refusal : Refusal) → GivesOrders v O ps rows → CallFails v rows first refusal → IsNotDescending v O ps first refusal
calls_fail v O ps first rows refusals.Memory h s = tt
calls_fail v O ps first rows (refusals.OrderFault place clause k) h ((name, call, word), at) = ((name, record { rows = rows; gives = h; first = call }, word), at)
calls_fail v O ps first rows refusal h s = absurd s

-- why worlds aren't given, or don't pass
pub not_worlded : (v : View) (ls : List ExtName) (ps : List Call) (first : Place) (refusal : Refusal) → IsNotApplied v (worlds ls ps) first refusal → IsNotWorlded v ls ps first refusal
not_worlded v ls ps first refusals.Memory h = tt
not_worlded v ls ps first (refusals.Unknown place name) h = h
not_worlded v ls ps first (refusals.BadDecl place) (h, at) = (record { known = none h.known; off = both (are_labels v ls) (all_take_just v.signature (applications (worlds ls ps))) h.off }, at)
  where
    none : AreKnown v (worlds ls ps) → unknown_in_check v (worlds ls ps) ≡ []
    none (inl e) = e
    none (inr (m, f, l)) = absurd l

    both : (a b : Bool) → b ≡ false → (a && b) ≡ false
    both true b e = e
    both false b e = refl
not_worlded v ls ps first refusal h = absurd h

pub worlds_fail : (v : View) (ls : List ExtName) (ps : List Call) (first : Place) (families : List ℕ) (W : List Block) (refusal : Refusal) → GivesWorlds v ls ps families W → WorldsFail v families W first refusal → IsNotWorlded v ls ps first refusal
worlds_fail v ls ps first families W refusals.Memory h s = tt
worlds_fail v ls ps first families W (refusals.WorldFault place clause k) h ((name, fault, word), at) = ((name, record { families = families; blocks = W; gives = h; first = fault }, word), at)
worlds_fail v ls ps first families W (refusals.TooDeep place) h (deep, at) = (record { families = families; blocks = W; gives = h; deep = deep }, at)
worlds_fail v ls ps first families W refusal h s = absurd s

pub world_fault_fails : (v : View) (families : List ℕ) (W : List Block) (first : Place) (name : ClauseName) (k : ℕ) (refusal : Refusal) → IsIllWorlded v families W name k → ShowsWorldFault v first name k refusal → WorldsFail v families W first refusal
world_fault_fails v families W first name k refusals.Memory h s = tt
world_fault_fails v families W first name k (refusals.WorldFault place clause l) h s = ((name, subst (λ (x : ℕ). IsIllWorlded v families W name x) (sym s.1) h, s.0), s.2)
world_fault_fails v families W first name k refusal h s = absurd s

-- why a block isn't added
pub not_added : (v : View) (d : Declaration) (first : Place) (refusal : Refusal) → HasNoFree v d → IsNotEntered v d first refusal → IsNotAdded v d first refusal
not_added v d first refusals.Memory n h = tt
not_added v d first (refusals.BadDecl place) n h = absurd h
not_added v d first refusal n h = (n, h)

-- a test of free variables says that none is there
pub is_without_free : (v : View) (d : Declaration) (es : List Entry) → es ≡ v.signature → (b : Bool) → b ≡ false → MatchBool b ((x : List ℕ) × IsFreeVariable es x d) ((x : List ℕ) → IsFreeVariable es x d → ⊥) → HasNoFree v d
is_without_free v d es same b none h =
    let told : (x : List ℕ) → IsFreeVariable es x d → ⊥ = subst (λ (a : Bool). MatchBool a ((x : List ℕ) × IsFreeVariable es x d) ((x : List ℕ) → IsFreeVariable es x d → ⊥)) none h in
    subst (λ (fs : List Entry). (x : List ℕ) → IsFreeVariable fs x d → ⊥) same told
