-- What an explicit declaration is completed to is what it would be reconstructed to.
use Rattle.std.proofs.Common.{◌≡◌, ℕ, zero, suc, List, [], ◌∷◌, length, Option, inl, inr, arith, refl, ap, ◌∙◌}
use Rattle.lf.specs.Entries.{Body, Entry, body_quantifiers, declare_constant, declare_definition, declare_family}
use Rattle.lf_elaboration.specs.Principal.{body_over}
use Rattle.lf_elaboration.specs.SiteLaws.{total}
use Rattle.lf_elaboration.specs.Sites.{spots}
use Rattle.tw_parse.specs.Syntax.{Declaration, declare, define, give, prefer}
use Rattle.tw_recon.specs.Hints.{fitted}
use Rattle.tw_approx.specs.Answer.{IsOfObjects}
use Rattle.tw_recon.specs.Causes.{HasCause}
use Rattle.tw_recon.proofs.Completed.{clash_mismatch, written_mismatch}
use Rattle.tw_recon.specs.declared.fault.ReconFault.TheVariants.{Mismatch}
use Rattle.law_explicit_agrees.specs.Agreement.{HasNoCompletion}
use Rattle.law_explicit_agrees.specs.Reconstructed.{ExplicitIsReconstructed, ExplicitMismatchIsMismatch}
use Rattle.law_explicit_agrees.proofs.Bare.{whole_bare}
use Rattle.law_explicit_agrees.proofs.Mismatch.{explicit_mismatch}
use Rattle.law_explicit_agrees.proofs.Nothing.{body_none}
use Rattle.law_explicit_agrees.proofs.Whole.{explicit_principal}

-- a hint for each
pub fitting_hints : (hs : List (Option (List ℕ))) (n : ℕ) → length hs ≡ n → hs ≡ fitted n hs
fitting_hints [] zero e = refl
fitting_hints [] (suc n) e = absurd cc
fitting_hints (h ∷ hs) zero e = absurd cc
fitting_hints (h ∷ hs) (suc n) e = ap (λ ks. h ∷ ks) (fitting_hints hs n (omega arith))

pub nothing_over : (b : Body) → b ≡ body_over [] b
nothing_over (declare_family K) = refl
nothing_over (declare_constant A) = refl
nothing_over (declare_definition M A b) = refl

pub explicit_reconstructed : ExplicitIsReconstructed
explicit_reconstructed es canonical (declare c at U) e (known, form) g stands =
    let p = explicit_principal es canonical (declare c at U) e (known, form) g stands in
    let none : total (spots es [] p.written) ≡ zero = body_none es [] U [] p.written (whole_bare es U form) p.resolved in
    record {
      rows = [];
      written = p.written;
      is_written = record { objects = p.objects; omitted = []; skeletons = p.skeletons; resolved = p.resolved };
      quantifiers = [];
      quantifier_hints = [];
      inner = e.body;
      shown = [];
      completed = record { frees = []; principal = p.principal; in_order = inl (record { makes_none = none; no_quantifier = refl; no_hint = refl; none_shown = refl }) };
      is_entry = record {
        name = g.name;
        body = nothing_over e.body;
        implicit = g.implicit;
        hints = fitting_hints e.hints (body_quantifiers e.body) stands.hint_each ∙ ap (fitted (body_quantifiers e.body)) g.hint_each;
      };
    }
explicit_reconstructed es canonical (define c A M b) e x g stands = absurd g
explicit_reconstructed es canonical (prefer a x y) e h g stands = absurd g
explicit_reconstructed es canonical (give fix names) e h g stands = absurd g

module _ (es : List Entry) (d : Declaration) (o : IsOfObjects es d) where
  as_refused : HasNoCompletion es d → HasCause es d Mismatch
  as_refused (inl clash) = clash_mismatch es d o clash
  as_refused (inr (w, h, r, none)) = written_mismatch es d [] w (record { objects = o; omitted = []; skeletons = h; resolved = r }) none

pub explicit_refused : ExplicitMismatchIsMismatch
explicit_refused es canonical d x none = let (o, h) = explicit_mismatch es canonical d x none in as_refused es d o h
