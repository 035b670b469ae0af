-- An explicit declaration is reconstructed to its completion alone, and refused for nothing that isn't told of it.
use Rattle.std.proofs.Common.{◌≡◌, ℕ, zero, List, [], ◌++◌, length, true, false, None, Some, refl, sym, ap, ◌∙◌, subst}
use Rattle.lf.specs.Entries.{Entry, IsCanonicalSignature, body_quantifiers}
use Rattle.lf.specs.Syntax.{Skeleton}
use Rattle.lf_elaboration.specs.Principal.{WrittenBody, body_over}
use Rattle.lf_elaboration.specs.SiteLaws.{total}
use Rattle.lf_elaboration.specs.Sites.{body_spots}
use Rattle.tw_approx.specs.Answer.{IsOfObjects, Rows}
use Rattle.tw_approx.specs.Names.{IsFreeVariable}
use Rattle.law_explicit_form.specs.Completion.{BodyGiven, Completes}
use Rattle.tw_names.specs.Texts.{hints}
use Rattle.law_explicit_form.specs.Form.{is_type_form}
use Rattle.tw_names.specs.Unknown.{unknown_in}
use Rattle.law_explicit_form.proofs.Hints.{body_hints}
use Rattle.tw_lexer.specs.declared.place.Place.{Place}
use Rattle.tw_parse.specs.Syntax.{Term, declare, define, give, prefer}
use Rattle.tw_recon.specs.Causes.{HasCause}
use Rattle.tw_recon.specs.Hints.{fitted}
use Rattle.tw_recon.specs.declared.fault.ReconFault.TheVariants.{Leftover, Loose, Mismatch, NoMemory, TooDeep, TypeLevel, Unknown}
use Rattle.tw_resolve.specs.Resolved.{names_of, resolved_body}
use Rattle.law_explicit_agrees.specs.Reconstructed.{ExplicitHasNoOtherCause, ReconstructedIsCompleted}
use Rattle.law_explicit_agrees.proofs.Back.{given_back}
use Rattle.law_explicit_agrees.proofs.Bare.{TypeIsBare, type_closed, type_without, whole_bare}
use Rattle.law_explicit_agrees.proofs.Full.{no_equation, no_lambda, no_name, no_quantifier, not_loose, not_mismatched}
use Rattle.law_explicit_agrees.proofs.Nothing.{body_none}
use Rattle.law_explicit_agrees.proofs.Reconstructed.{fitting_hints, nothing_over}
use Rattle.law_explicit_agrees.proofs.Steady.{decided}
use Rattle.law_explicit_agrees.proofs.Whole.{closed, completed_principal}

module _ (es : List Entry) (c : List ℕ) (at : Place) (U : Term) (form : is_type_form es [] [] U ≡ true) where
  bare : TypeIsBare es [] U
  bare = whole_bare es U form

  not_free : (x : List ℕ) → IsFreeVariable es x (declare c at U) → ⊥
  not_free x h = type_closed es x U [] bare h

  makes_none : (rows : Rows) (o : List Skeleton) (w : WrittenBody) → resolved_body es rows o (declare c at U) ≡ Some w → total (body_spots es w) ≡ zero
  makes_none rows o w r = body_none es (names_of rows) U o w bare r

  module _ (known : unknown_in es (declare c at U) ≡ []) where
    of_objects : IsOfObjects es (declare c at U)
    of_objects = record { known = known; no_definition = refl; no_lambda = type_without es U [] bare }

    mismatched : IsCanonicalSignature es → HasCause es (declare c at U) Mismatch → (e : Entry) → Completes es (declare c at U) e → ⊥
    mismatched canonical h e g =
        let p = completed_principal es canonical c at U e (known, form) g in
        not_mismatched es (declare c at U) not_free p.skeletons p.written p.resolved (closed es e.body) p.principal.completion h

pub no_other_cause : ExplicitHasNoOtherCause
no_other_cause es canonical (declare c at U) (known, form) (Unknown name place) h = no_name es (declare c at U) (of_objects es c at U form known) (record { name = name; at = place }) h.stands
no_other_cause es canonical (declare c at U) (known, form) (TypeLevel None) h = let clash : false ≡ true = h.1 in absurd cc
no_other_cause es canonical (declare c at U) (known, form) (TypeLevel (Some p)) h = no_lambda es (declare c at U) (of_objects es c at U form known) p h.2.stands
no_other_cause es canonical (declare c at U) (known, form) Loose h = not_loose es (declare c at U) (decided es c at U (bare es c at U form)) h.2
no_other_cause es canonical (declare c at U) (known, form) Mismatch h = mismatched es c at U form known canonical h
no_other_cause es canonical (declare c at U) (known, form) (Leftover left) h = no_equation es (declare c at U) (not_free es c at U form) (makes_none es c at U form) left h
no_other_cause es canonical (declare c at U) (known, form) TooDeep h = tt
no_other_cause es canonical (declare c at U) (known, form) NoMemory h = tt
no_other_cause es canonical (define c A M b) (known, form) fault h = absurd cc
no_other_cause es canonical (prefer a x y) (known, form) fault h = absurd cc
no_other_cause es canonical (give fix names) (known, form) fault h = absurd cc

pub reconstructed_completed : ReconstructedIsCompleted
reconstructed_completed es canonical (declare c at U) e (known, form) r =
    let (none, unnamed) = no_quantifier es (declare c at U) (not_free es c at U form) (makes_none es c at U form) r.rows r.written r.quantifiers r.quantifier_hints r.shown r.inner r.is_written r.completed.in_order in
    let given : BodyGiven es U r.inner =
    given_back es canonical U form r.rows r.is_written.omitted r.written r.is_written.resolved (record { quantifiers = r.quantifiers; frees = r.completed.frees; body = r.inner }) r.completed.principal.completion in
    record {
      name = r.is_entry.name;
      body = subst (BodyGiven es U) (sym (r.is_entry.body ∙ ap (λ G. body_over G r.inner) none ∙ sym (nothing_over r.inner))) given;
      implicit = r.is_entry.implicit ∙ ap length none;
      hint_each = r.is_entry.hints ∙ ap (λ hs. hs ++ fitted (body_quantifiers r.inner) (hints U)) unnamed ∙ sym (fitting_hints (hints U) (body_quantifiers r.inner) (body_hints es U r.inner given));
    }
reconstructed_completed es canonical (define c A M b) e (known, form) r = absurd cc
reconstructed_completed es canonical (prefer a x y) e (known, form) r = absurd cc
reconstructed_completed es canonical (give fix names) e (known, form) r = absurd cc
