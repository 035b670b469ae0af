-- Holes, for which a new metavariable stands.
use Rattle.std.proofs.Common.{◌≡◌, ℕ, List, sym, ap, ◌∙◌, subst}
use Rattle.lf.specs.Entries.{Entry}
use Rattle.lf.specs.Syntax.{LfType, Skeleton, Term, skeleton}
use Rattle.lf_elaboration.specs.Elaboration.{Checks, Infers, NewType, at_hole, checks_hole}
use Rattle.lf_elaboration.specs.State.{with_metavariable}
use Rattle.lf_elaboration.specs.Written.{Place, hole}
use Rattle.lf_unification.specs.Offering.{raised}
use Rattle.tw_elaborate.specs.Fresh.{IsNew}
use Rattle.tw_elaborate.specs.View.{made}
use Rattle.tw_elaborate.specs.declared.state.Elaboration.{Elaboration}

module _ (es : List Entry) (ns : List ℕ) (at : Place) where
  pub hole_checked : (a c : Elaboration) (t : Skeleton) (A : LfType) (M : Term) → t ≡ skeleton A → IsNew A M a c → Checks es ns a.locals (hole t at) A (made a) (made c) M
  hole_checked a c t A M e f = subst (λ N. Checks es ns a.locals (hole t at) A (made a) (made c) N) (sym f.term) (subst (λ z. Checks es ns a.locals (hole t at) A (made a) z (raised a.locals A (made a).next)) (sym f.state) (checks_hole e))

  pub hole_inferred : (a b c : Elaboration) (t : Skeleton) (A : LfType) (M : Term) → b.locals ≡ a.locals → NewType es a.locals t (made a) (made b) A → IsNew A M b c → Infers es ns a.locals (hole t at) (made a) (made c) M A
  hole_inferred a b c t A M l n f =
      let s : made c ≡ with_metavariable a.locals A (made b) = f.state ∙ ap (λ E. with_metavariable E A (made b)) l in
      let m : M ≡ raised a.locals A (made b).next = f.term ∙ ap (λ E. raised E A (made b).next) l in
      subst (λ N. Infers es ns a.locals (hole t at) (made a) (made c) N A) (sym m) (subst (λ z. Infers es ns a.locals (hole t at) (made a) z (raised a.locals A (made b).next) A) (sym s) (at_hole n))
