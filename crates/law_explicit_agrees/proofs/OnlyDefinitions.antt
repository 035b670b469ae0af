-- A definition that is written in full is reconstructed to what it gives alone, and refused for nothing but depth and want of memory.
use Rattle.std.proofs.Common.{[], None, Some, inl, subst}
use Rattle.lf.specs.Entries.{declare_definition}
use Rattle.lf_elaboration.specs.Principal.{Completion, IsCompletion}
use Rattle.tw_parse.specs.Syntax.{define}
use Rattle.tw_recon.specs.Reconstruction.{IsEntryOf}
use Rattle.tw_recon.specs.declared.fault.ReconFault.TheVariants.{Leftover, Loose, Mismatch, NoMemory, TooDeep, TypeLevel, Unknown}
use Rattle.tw_resolve.specs.Resolved.{skeletons_of}
use Rattle.law_explicit_agrees.specs.Definitions.{DefinitionHasNoOtherCause, DefinitionIsReconstructedAlone}
use Rattle.law_explicit_agrees.proofs.Definitions.{definition_none, definition_objects, definition_principal, definition_skeletons, nothing_free}
use Rattle.law_explicit_agrees.proofs.Full.{no_equation, no_lambda, no_name, no_quantifier, no_type, not_loose, not_mismatched, written_once}
use Rattle.law_explicit_agrees.proofs.Whole.{closed}

pub definition_alone : DefinitionIsReconstructedAlone
definition_alone es canonical c U P abbreviation A M form g e r =
    let d = define c (Some U) P abbreviation in
    let b = declare_definition M A abbreviation in
    let p = definition_principal es c U P abbreviation A M form g canonical in
    let not_free = nothing_free es c U P abbreviation A M form g in
    let (rows, same) = written_once es d not_free (definition_skeletons es c U P abbreviation A M form g) p.written p.resolved r.rows r.written r.is_written in
    let (none, unnamed) = no_quantifier es d not_free (definition_none es c U P abbreviation A M form g) r.rows r.written r.quantifiers r.quantifier_hints r.shown r.inner r.is_written r.completed.in_order in
    let it : Completion = record { quantifiers = r.quantifiers; frees = r.completed.frees; body = r.inner } in
    let completes : IsCompletion es [] p.written it = subst (λ w. IsCompletion es [] w it) same (subst (λ rs. IsCompletion es (skeletons_of rs) r.written it) rows r.completed.principal.completion) in
    subst (λ G. IsEntryOf d G [] b e) none (subst (λ hs. IsEntryOf d r.quantifiers hs b e) unnamed (subst (λ x. IsEntryOf d r.quantifiers r.quantifier_hints x e) (p.only it completes) r.is_entry))

pub definition_no_other : DefinitionHasNoOtherCause
definition_no_other es canonical c U P abbreviation A M form g (Unknown name place) h =
    no_name es (define c (Some U) P abbreviation) (definition_objects es c U P abbreviation A M form g) (record { name = name; at = place }) h.stands
definition_no_other es canonical c U P abbreviation A M form g (TypeLevel None) h =
    no_type es (define c (Some U) P abbreviation) (definition_objects es c U P abbreviation A M form g) h.1
definition_no_other es canonical c U P abbreviation A M form g (TypeLevel (Some p)) h =
    no_lambda es (define c (Some U) P abbreviation) (definition_objects es c U P abbreviation A M form g) p h.2.stands
definition_no_other es canonical c U P abbreviation A M form g Loose h =
    not_loose es (define c (Some U) P abbreviation) (inl (definition_skeletons es c U P abbreviation A M form g)) h.2
definition_no_other es canonical c U P abbreviation A M form g Mismatch h =
    let p = definition_principal es c U P abbreviation A M form g canonical in
    not_mismatched es (define c (Some U) P abbreviation) (nothing_free es c U P abbreviation A M form g) (definition_skeletons es c U P abbreviation A M form g) p.written p.resolved (closed es (declare_definition M A abbreviation)) p.principal.completion h
definition_no_other es canonical c U P abbreviation A M form g (Leftover left) h =
    no_equation es (define c (Some U) P abbreviation) (nothing_free es c U P abbreviation A M form g) (definition_none es c U P abbreviation A M form g) left h
definition_no_other es canonical c U P abbreviation A M form g TooDeep h = tt
definition_no_other es canonical c U P abbreviation A M form g NoMemory h = tt
