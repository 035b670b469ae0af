-- What an explicit declaration is completed to is what it would be reconstructed to.
use Rattle.std.specs.Prelude.{List}
use Rattle.lf.specs.Entries.{Entry, IsCanonicalEntry, IsCanonicalSignature, signature_of}
use Rattle.law_explicit_form.specs.Explicit.{IsExplicit}
use Rattle.law_explicit_form.specs.Completion.{Completes}
use Rattle.tw_parse.specs.Syntax.{Declaration}
use Rattle.tw_recon.specs.Causes.{HasCause}
use Rattle.tw_recon.specs.Reconstruction.{IsReconstructed}
use Rattle.tw_recon.specs.declared.fault.ReconFault.{ReconFault}
use Rattle.tw_recon.specs.declared.fault.ReconFault.TheVariants.{Mismatch, NoMemory, TooDeep}

-- the principal completion, with no quantifier, under the written name and with the written names of its binders
abbrev pub ExplicitIsReconstructed : Type 0
ExplicitIsReconstructed = (es : List Entry) → IsCanonicalSignature es → (d : Declaration) (e : Entry) → IsExplicit es d → Completes es d e → IsCanonicalEntry (signature_of es) e → IsReconstructed es d e

-- And where it gives no entry, it is refused by reconstruction too, as a mismatch.
abbrev pub ExplicitMismatchIsMismatch : Type 0
ExplicitMismatchIsMismatch = (es : List Entry) → IsCanonicalSignature es → (d : Declaration) → IsExplicit es d → ((e : Entry) → Completes es d e → ⊥) → HasCause es d Mismatch

-- It would be reconstructed to nothing else.
abbrev pub ReconstructedIsCompleted : Type 0
ReconstructedIsCompleted = (es : List Entry) → IsCanonicalSignature es → (d : Declaration) (e : Entry) → IsExplicit es d → IsReconstructed es d e → Completes es d e

-- reconstruction may refuse it as a mismatch where it gives no entry, and where something is too deep or memory is wanting
abbrev pub MayBeRefused : List Entry → Declaration → ReconFault → Type 0
MayBeRefused es d Mismatch = (e : Entry) → Completes es d e → ⊥
MayBeRefused es d TooDeep = Unit {0}
MayBeRefused es d NoMemory = Unit {0}
MayBeRefused es d fault = ⊥

-- And it is refused for nothing else.
abbrev pub ExplicitHasNoOtherCause : Type 0
ExplicitHasNoOtherCause = (es : List Entry) → IsCanonicalSignature es → (d : Declaration) → IsExplicit es d → (fault : ReconFault) → HasCause es d fault → MayBeRefused es d fault
