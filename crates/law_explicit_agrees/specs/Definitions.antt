-- What a definition that is written in full gives is what it would be reconstructed to.
use Rattle.std.specs.Prelude.{◌≡◌, ℕ, List, [], Bool, true, Option, Some}
use Rattle.lf.specs.Entries.{Entry, IsCanonicalSignature, declare_definition}
use Rattle.lf.specs.Syntax.{LfType, Term as LfTerm}
use Rattle.law_explicit_form.specs.Completion.{TermGives, TypeGives}
use Rattle.law_explicit_form.specs.Form.{is_term_form, is_type_form, written_shape}
use Rattle.tw_parse.specs.Syntax.{Term, define}
use Rattle.tw_recon.specs.Causes.{HasCause}
use Rattle.tw_recon.specs.Reconstruction.{IsEntryOf, IsReconstructed}
use Rattle.tw_recon.specs.declared.fault.ReconFault.{ReconFault}
use Rattle.tw_recon.specs.declared.fault.ReconFault.TheVariants.{NoMemory, TooDeep}
use Rattle.law_explicit_agrees.specs.Agreement.{IsPrincipallyCompleted}

-- The type and the term of `U = P` are of the explicit form: the term where the shape of the type is due.
pub record IsExplicitDefinition (es : List Entry) (U P : Term) : Type 0 where
  pub type_form : is_type_form es [] [] U ≡ true
  pub term_form : is_term_form es [] [] P (written_shape U) ≡ true

-- the type gives A, and the term gives M of this type
abbrev pub DefinitionGives : List Entry → Term → Term → LfType → LfTerm → Type 0
DefinitionGives es U P A M = TypeGives es [] [] U A × TermGives es [] [] P A M

-- What they give is the principal completion of what is written.
abbrev pub ExplicitDefinitionIsPrincipal : Type 0
ExplicitDefinitionIsPrincipal = (es : List Entry) → IsCanonicalSignature es → (c : Option (List ℕ)) (U P : Term) (abbreviation : Bool) (A : LfType) (M : LfTerm) → IsExplicitDefinition es U P → DefinitionGives es U P A M →
    (e : Entry) → e.body ≡ declare_definition M A abbreviation → IsPrincipallyCompleted es (define c (Some U) P abbreviation) e

-- THE law: the entry that declares it over no quantifiers is what the definition is reconstructed to.
abbrev pub ExplicitDefinitionIsReconstructed : Type 0
ExplicitDefinitionIsReconstructed = (es : List Entry) → IsCanonicalSignature es → (c : Option (List ℕ)) (U P : Term) (abbreviation : Bool) (A : LfType) (M : LfTerm) → IsExplicitDefinition es U P → DefinitionGives es U P A M →
    (e : Entry) → IsEntryOf (define c (Some U) P abbreviation) [] [] (declare_definition M A abbreviation) e → IsReconstructed es (define c (Some U) P abbreviation) e

-- It would be reconstructed to nothing else.
abbrev pub DefinitionIsReconstructedAlone : Type 0
DefinitionIsReconstructedAlone = (es : List Entry) → IsCanonicalSignature es → (c : Option (List ℕ)) (U P : Term) (abbreviation : Bool) (A : LfType) (M : LfTerm) → IsExplicitDefinition es U P → DefinitionGives es U P A M →
    (e : Entry) → IsReconstructed es (define c (Some U) P abbreviation) e → IsEntryOf (define c (Some U) P abbreviation) [] [] (declare_definition M A abbreviation) e

-- reconstruction may refuse it where something is too deep or memory is wanting
abbrev pub DefinitionMayBeRefused : ReconFault → Type 0
DefinitionMayBeRefused TooDeep = Unit {0}
DefinitionMayBeRefused NoMemory = Unit {0}
DefinitionMayBeRefused fault = ⊥

-- And it is refused for nothing else.
abbrev pub DefinitionHasNoOtherCause : Type 0
DefinitionHasNoOtherCause = (es : List Entry) → IsCanonicalSignature es → (c : Option (List ℕ)) (U P : Term) (abbreviation : Bool) (A : LfType) (M : LfTerm) → IsExplicitDefinition es U P → DefinitionGives es U P A M →
    (fault : ReconFault) → HasCause es (define c (Some U) P abbreviation) fault → DefinitionMayBeRefused fault
