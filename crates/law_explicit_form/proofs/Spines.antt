-- One argument more behind the others.
use Rattle.std.proofs.Common.{List, refl, sym, subst}
use Rattle.lf.specs.Syntax.{Term, Spine, nil, app, LfType, pi, atom}
use Rattle.lf.specs.Typing.{Signature, instantiate_type, HasType, SpineType}
use Rattle.law_explicit_form.specs.Completion.{then}

module _ (Σ : Signature) (G : List LfType) where
  -- a spine with its last argument
  pub spine_push : (S : Spine) (C A B : LfType) (R : Term) → SpineType Σ G S C (pi A B) → HasType Σ G R A → SpineType Σ G (then S R) C (instantiate_type A R B)
  spine_push nil C A B R s r = subst (λ X. SpineType Σ G (app R nil) X (instantiate_type A R B)) (sym s) (r, refl)
  spine_push (app M S) (pi D E) A B R (m, s) r = (m, spine_push S (instantiate_type D M E) A B R s r)
  spine_push (app M S) (atom c T) A B R s r = absurd s
