-- What worlds and orders come to.
use Rattle.std.proofs.Common.{◌≡◌, List, [], ◌∷◌, true, false, refl, sym, ap, subst, ◌∙◌}
use Rattle.tw_lexer.specs.declared.place.Place.{Place}
use Rattle.tw_parse.specs.Outlines.{Table}
use Rattle.tw_parse.specs.Readings.{FirstFaultIn}
use Rattle.tw_parse.specs.Sources.{lexemes_from}
use Rattle.tw_parse.specs.Words.{Lexeme, first_place}
use Rattle.tw_parse.specs.declared.decl.ExtName.{ExtName}
use Rattle.tw_parse.specs.declared.fault.SyntaxFault.TheVariants.{BadDecl}
use Rattle.tw_parse.specs.declared.source.Source.{Source}
use Rattle.tw_parse_checks.specs.Checks.{Check, worlds, terminates, Call, Order}
use Rattle.tw_parse_checks.specs.Faults.{types_of, IsCheck, IsFault, NoStop}
use Rattle.tw_parse_checks.specs.Meanings.{fits, MeansCheck, means_worlds, means_terminates}
use Rattle.tw_parse_checks.specs.Parts.{Stuck, HasNoLabels, AreCalls, HasNoCalls}
use Rattle.tw_parse_checks.specs.Shapes.{Row, TakesCall, TakesLabels, TakesOrder, Draft, in_worlds, ordered, Behind, is_worlds, is_terminates}
use Rattle.tw_parse_checks.specs.declared.check.CheckForm.TheVariants.{Worlds, Terminates}
use Rattle.tw_parse_checks.proofs.Forms.{misfit}
use Rattle.tw_parse_checks.proofs.Patterns.{calls_once, closing_call, labels_once, order_once}
use Rattle.tw_parse_checks.proofs.Rows.{row_once}

worlds_stop : (source : Source) → NoStop source Worlds
worlds_stop source place s = elim s [ ]

terminates_stop : (source : Source) → NoStop source Terminates
terminates_stop source place s = elim s [ ]

worlds_fault : (table : Table) (ts : List Lexeme) (D : Draft) → Behind table Worlds ts D → (place : Place) → FirstFaultIn (types_of D) place → ⊥
worlds_fault table ts D (is_worlds l t e) place f = elim f [ ]

terminates_fault : (table : Table) (ts : List Lexeme) (D : Draft) → Behind table Terminates ts D → (place : Place) → FirstFaultIn (types_of D) place → ⊥
terminates_fault table ts D (is_terminates l t e) place f = elim f [ ]

-- Worlds

has_labels : (table : Table) (ts : List Lexeme) (D : Draft) → Behind table Worlds ts D → HasNoLabels ts → ⊥
has_labels table ts D (is_worlds {next = next} {ls = ls} l t e) none = none ls next l

has_calls : (table : Table) (ts next : List Lexeme) (ls : List ExtName) (D : Draft) (d : Check) → Behind table Worlds ts D → TakesLabels ts ls next → HasNoCalls next → MeansCheck D d → ⊥
has_calls table ts next ls D d (is_worlds {rest = r} {c = c} {cs = cs} l t e) m none (means_worlds k) =
    none (c ∷ cs) (r, (λ f. cc), subst (λ (us : List Lexeme). Row TakesCall us (c ∷ cs) r) (labels_once l m).1 t, e, k)

pub worlds_without_labels : (source : Source) (place : Place) → HasNoLabels (lexemes_from source 1) → place ≡ first_place source.end (lexemes_from source 0) → IsFault source Worlds (BadDecl place)
worlds_without_labels source place none is = misfit source Worlds place is (λ D b. has_labels source.fixities.now (lexemes_from source 1) D b none) (worlds_stop source)

pub worlds_without_calls : (source : Source) (place : Place) (ls : List ExtName) (next : List Lexeme) → TakesLabels (lexemes_from source 1) ls next → HasNoCalls next → place ≡ first_place source.end (lexemes_from source 0) → IsFault source Worlds (BadDecl place)
worlds_without_calls source place ls next l none is =
    (is, λ D b. (λ c m. has_calls source.fixities.now (lexemes_from source 1) next ls D c b l none m, worlds_fault source.fixities.now (lexemes_from source 1) D b), worlds_stop source)

pub worlds_read : (source : Source) (ls : List ExtName) (cs : List Call) (next : List Lexeme) → TakesLabels (lexemes_from source 1) ls next → AreCalls next cs → IsCheck source Worlds (worlds ls cs)
worlds_read source ls [] next l are = absurd (are.1 refl)
worlds_read source ls (c ∷ cs) next l are = (in_worlds ls (c ∷ cs), is_worlds l are.2 are.3, means_worlds are.4)

-- Orders

has_order : (table : Table) (ts : List Lexeme) (D : Draft) → Behind table Terminates ts D → Stuck TakesOrder ts → ⊥
has_order table ts D (is_terminates {next = next} {o = o} l t e) none = none o next l

one_row : {next : List Lexeme} {cs ds : List Call} → AreCalls next cs → AreCalls next ds → cs ≡ ds
one_row a b = (row_once TakesCall calls_once a.2 b.2 (closing_call a.0 a.3) (closing_call b.0 b.3)).0

-- what an order and its call patterns keep
record Kept (ts next : List Lexeme) (o : Order) : Type 0 where
  calls : List Call
  are : AreCalls next calls
  fit : fits calls o ≡ true

keeps_order : (table : Table) (ts next : List Lexeme) (o : Order) (D : Draft) (d : Check) → Behind table Terminates ts D → TakesOrder ts o next → MeansCheck D d → Kept ts next o
keeps_order table ts next o D d (is_terminates {next = after} {rest = r} {o = p} {c = c} {cs = cs} l t e) m (means_terminates k f) =
    let same = order_once ts after next p o l m in
    record { calls = c ∷ cs; are = (r, (λ g. cc), subst (λ (us : List Lexeme). Row TakesCall us (c ∷ cs) r) same.1 t, e, k); fit = sym (ap (fits (c ∷ cs)) same.0) ∙ f }

pub terminates_without_order : (source : Source) (place : Place) → Stuck TakesOrder (lexemes_from source 1) → place ≡ first_place source.end (lexemes_from source 0) → IsFault source Terminates (BadDecl place)
terminates_without_order source place none is = misfit source Terminates place is (λ D b. has_order source.fixities.now (lexemes_from source 1) D b none) (terminates_stop source)

pub terminates_without_calls : (source : Source) (place : Place) (o : Order) (next : List Lexeme) → TakesOrder (lexemes_from source 1) o next → HasNoCalls next → place ≡ first_place source.end (lexemes_from source 0) → IsFault source Terminates (BadDecl place)
terminates_without_calls source place o next l none is = (
  is,
  λ D b. (λ c m. let kept = keeps_order source.fixities.now (lexemes_from source 1) next o D c b l m in none kept.calls kept.are, terminates_fault source.fixities.now (lexemes_from source 1) D b),
  terminates_stop source,
)

pub terminates_unfit : (source : Source) (place : Place) (o : Order) (cs : List Call) (next : List Lexeme) → TakesOrder (lexemes_from source 1) o next → AreCalls next cs → fits cs o ≡ false → place ≡ first_place source.end (lexemes_from source 0) → IsFault source Terminates (BadDecl place)
terminates_unfit source place o cs next l are unfit is = (
  is,
  λ D b. (
    λ c m.
        let kept = keeps_order source.fixities.now (lexemes_from source 1) next o D c b l m in
        let same : kept.calls ≡ cs = one_row kept.are are in
        let clash : true ≡ false = sym kept.fit ∙ ap (λ (ds : List Call). fits ds o) same ∙ unfit in
        cc,
    terminates_fault source.fixities.now (lexemes_from source 1) D b,
  ),
  terminates_stop source,
)

pub terminates_reads : (source : Source) (o : Order) (cs : List Call) (next : List Lexeme) → TakesOrder (lexemes_from source 1) o next → AreCalls next cs → fits cs o ≡ true → IsCheck source Terminates (terminates o cs)
terminates_reads source o [] next l are fit = absurd (are.1 refl)
terminates_reads source o (c ∷ cs) next l are fit = (ordered o (c ∷ cs), is_terminates l are.2 are.3, means_terminates are.4 fit)
