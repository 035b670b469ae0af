-- What a call answers, from its parts: one rule of elaboration each, or one place that is too deep.
use Rattle.std.proofs.Common.{◌≡◌, ℕ, ◌⊎◌, inl, inr, Box, Global, zero, List, ◌∷◌, refl, sym, ap, ap₂, ◌∙◌, subst}
use Rattle.lf.specs.Entries.{Entry, IsCanonicalSignature, signature_of}
use Rattle.lf.specs.Eta.{add_last}
use Rattle.lf.specs.Syntax.{Kind, LfType, Spine, Term, atom, kind_pi, kind_skeleton, lambda, pi, star}
use Rattle.lf.specs.Typing.{instantiate_kind}
use Rattle.lf_elaboration.specs.Elaboration.{Checks, ElaboratesDomain, ElaboratesFamily, ElaboratesKind, ElaboratesType, Infers, IsInferred, at_family, at_family_applied, at_family_ascribed, at_function, at_kind_quantified, at_quantified, checks_function, checks_inferred}
use Rattle.lf_elaboration.specs.Skeletons.{TypeHasSkeletons}
use Rattle.lf_elaboration.specs.State.{State, kind_equations, type_equations, with_equations}
use Rattle.lf_elaboration.specs.Written.{Written, WrittenDomain, WrittenKind, WrittenType, family_applied, family_ascribed, function, kind_quantified, quantified}
use Rattle.tw_lexer.specs.declared.place.Place.{Place}
use Rattle.tw_terms.specs.declared.canonical.ConstId.{ConstId}
use Rattle.tw_written.specs.View.{written_of}
use Rattle.tw_written.specs.declared.written.Written.{Written as Syntax, Applied, Ascribed, Bound, Declared, Free, Function, Hole}
use Rattle.tw_written.specs.declared.written.WrittenDomain.{WrittenDomain as WrittenDomainSyntax}
use Rattle.tw_written.specs.declared.written.WrittenType.{WrittenType as WrittenTypeSyntax}
use Rattle.tw_terms.specs.declared.canonical.Skeleton.{Skeleton as SkeletonSyntax}
use Rattle.tw_written.proofs.Views.{written_of-Applied, written_of-Ascribed, written_of-Bound, written_of-Declared, written_of-Free, written_of-Function, written_of-Hole}
use Rattle.tw_elaborate.specs.Comparing.{ChecksDomain, ComparesKinds, ComparesTypes, IsProduct}
use Rattle.tw_elaborate.specs.Deep.{ChecksDeep, ChecksDomainDeep, at_domain, deep_checked_domain, deep_compared_domain, deep_under_domain, in_domain}
use Rattle.tw_elaborate.specs.Fits.{Stands}
use Rattle.tw_elaborate.specs.Plain.{IsReducible}
use Rattle.tw_elaborate.specs.View.{made}
use Rattle.tw_elaborate.specs.declared.state.Elaboration.{Elaboration}
use Rattle.tw_elaborate.proofs.Following.{compared_stands, compared_type, domain_found, domain_kept, domain_stands}

module _ (es : List Entry) (ns : List ℕ) (D : List LfType) where
  pub function_inferred : (E : List LfType) (d : WrittenDomain) (M : Written) (s s' s'' : State) (A X B Y : LfType) (R N : Term) → E ≡ A ∷ D → X ≡ A → N ≡ lambda R → Y ≡ pi X B → ElaboratesDomain es ns D d s s' A → Infers es ns E M s' s'' R B → Infers es ns D (function d M) s s'' N Y
  function_inferred E d M s s' s'' A X B Y R N e x n y i j =
      let q : Y ≡ pi A B = y ∙ ap (λ Z. pi Z B) x in
      subst (λ Z. Infers es ns D (function d M) s s'' N Z) (sym q) (subst (λ P. Infers es ns D (function d M) s s'' P (pi A B)) (sym n) (at_function i (subst (λ F. Infers es ns F M s' s'' R B) e j)))

  pub inferred_checked : (M : Written) (R : Term) (X A : LfType) (s : State) (b c : Elaboration) → IsInferred M → b.locals ≡ D → Infers es ns D M s (made b) R X → ComparesTypes (signature_of es) X A b c → Checks es ns D M A s (made c) R
  inferred_checked M R X A s b c n l i k = subst (λ t. Checks es ns D M A s t R) (sym (k.state ∙ ap (λ E. with_equations (type_equations (signature_of es) E X A) (made b)) l)) (checks_inferred n i k.same)

  pub domain_compared : (d : WrittenDomain) (X A : LfType) (a b c : Elaboration) → a.locals ≡ D → b.locals ≡ D → ElaboratesDomain es ns D d (made a) (made b) X → ComparesTypes (signature_of es) X A b c → ChecksDomain es ns d A a c
  domain_compared d X A a b c la lb i k = (made b, X, subst (λ E. ElaboratesDomain es ns E d (made a) (made b) X) (sym la) i, k.same, k.state ∙ ap (λ E. with_equations (type_equations (signature_of es) E X A) (made b)) (lb ∙ sym la))

  pub quantified_elaborated : (E : List LfType) (d : WrittenDomain) (V : WrittenType) (s s' s'' : State) (A B Y : LfType) → E ≡ A ∷ D → Y ≡ pi A B → ElaboratesDomain es ns D d s s' A → ElaboratesType es ns E V s' s'' B → ElaboratesType es ns D (quantified d V) s s'' Y
  quantified_elaborated E d V s s' s'' A B Y e y i j = subst (ElaboratesType es ns D (quantified d V) s s'') (sym y) (at_quantified i (subst (λ F. ElaboratesType es ns F V s' s'' B) e j))

  pub family_elaborated : (U : WrittenType) (s s' : State) (a : ℕ) (S : Spine) (K : Kind) (Y : LfType) → K ≡ star → Y ≡ atom a S → ElaboratesFamily es ns D U s s' a S K → ElaboratesType es ns D U s s' Y
  family_elaborated U s s' a S K Y k y i = subst (ElaboratesType es ns D U s s') (sym y) (at_family (subst (ElaboratesFamily es ns D U s s' a S) k i))

  pub family_on_argument : (U : WrittenType) (P : Written) (s s' s'' : State) (a : ℕ) (S T : Spine) (A A' : LfType) (K K' L : Kind) (Q : Term) → A' ≡ A → K' ≡ K → T ≡ add_last S Q → L ≡ instantiate_kind A' Q K' → ElaboratesFamily es ns D U s s' a S (kind_pi A K) → Checks es ns D P A s' s'' Q → ElaboratesFamily es ns D (family_applied U P) s s'' a T L
  family_on_argument U P s s' s'' a S T A A' K K' L Q x y t l i j =
      let q : L ≡ instantiate_kind A Q K = l ∙ ap₂ (λ X Z. instantiate_kind X Q Z) x y in
      subst (λ W. ElaboratesFamily es ns D (family_applied U P) s s'' a W L) (sym t) (subst (ElaboratesFamily es ns D (family_applied U P) s s'' a (add_last S Q)) (sym q) (at_family_applied i j))

  pub family_compared : (U : WrittenType) (k : WrittenKind) (s s' : State) (a : ℕ) (S : Spine) (K L : Kind) (b c : Elaboration) → b.locals ≡ D → ElaboratesKind es ns D k s s' L → ElaboratesFamily es ns D U s' (made b) a S K → IsProduct K → ComparesKinds (signature_of es) K L b c → ElaboratesFamily es ns D (family_ascribed U k) s (made c) a S K
  family_compared U k s s' a S K L b c l i j p q =
      let Z = kind_pi p.domain p.range in
      let r : made c ≡ with_equations (kind_equations (signature_of es) D Z L) (made b) = q.state ∙ ap₂ (λ E X. with_equations (kind_equations (signature_of es) E X L) (made b)) l p.is in
      subst (λ X. ElaboratesFamily es ns D (family_ascribed U k) s (made c) a S X) (sym p.is) (subst (λ t. ElaboratesFamily es ns D (family_ascribed U k) s t a S Z) (sym r)
      (at_family_ascribed i (subst (ElaboratesFamily es ns D U s' (made b) a S) p.is j) (subst (λ X. kind_skeleton zero X ≡ kind_skeleton zero L) p.is q.same)))

  pub kind_quantified_elaborated : (E : List LfType) (d : WrittenDomain) (k : WrittenKind) (s s' s'' : State) (A : LfType) (K L : Kind) → E ≡ A ∷ D → L ≡ kind_pi A K → ElaboratesDomain es ns D d s s' A → ElaboratesKind es ns E k s' s'' K → ElaboratesKind es ns D (kind_quantified d k) s s'' L
  kind_quantified_elaborated E d k s s' s'' A K L e l i j = subst (ElaboratesKind es ns D (kind_quantified d k) s s'') (sym l) (at_kind_quantified i (subst (λ F. ElaboratesKind es ns F k s' s'' K) e j))

-- a function at an expected type
module _ (es : List Entry) (ns : List ℕ) where
  pub function_checked : (a b : Elaboration) (d : WrittenDomain) (E : List LfType) (M : Written) (A B X : LfType) (s : State) (R N : Term) → E ≡ A ∷ a.locals → X ≡ pi A B → N ≡ lambda R → ChecksDomain es ns d A a b → Checks es ns E M B (made b) s R → Checks es ns a.locals (function d M) X (made a) s N
  function_checked a b d E M A B X s R N e x n k c = subst (λ Y. Checks es ns a.locals (function d M) Y (made a) s N) (sym x) (subst (Checks es ns a.locals (function d M) (pi A B) (made a) s) (sym n) (go k (subst (λ F. Checks es ns F M B (made b) s R) e c)))
    where
      go : ChecksDomain es ns d A a b → Checks es ns (A ∷ a.locals) M B (made b) s R → Checks es ns a.locals (function d M) (pi A B) (made a) s (lambda R)
      go (z, Z, i, q, m) c = checks_function i q (subst (λ y. Checks es ns (A ∷ a.locals) M B y s R) m c)

  pub body_deep : (a b : Elaboration) (d : WrittenDomain) (E : List LfType) (M : Written) (A B X : LfType) → E ≡ A ∷ a.locals → X ≡ pi A B → ChecksDomain es ns d A a b → ChecksDeep es ns E M B (made b) → ChecksDeep es ns a.locals (function d M) X (made a)
  body_deep a b d E M A B X e x k c = subst (λ Y. ChecksDeep es ns a.locals (function d M) Y (made a)) (sym x) (go k (subst (λ F. ChecksDeep es ns F M B (made b)) e c))
    where
      go : ChecksDomain es ns d A a b → ChecksDeep es ns (A ∷ a.locals) M B (made b) → ChecksDeep es ns a.locals (function d M) (pi A B) (made a)
      go (z, Z, i, q, m) c = deep_under_domain i q (subst (ChecksDeep es ns (A ∷ a.locals) M B) m c)

  pub domain_deep : (D : List LfType) (d : WrittenDomain) (M : Written) (A B X : LfType) (s : State) → X ≡ pi A B → ChecksDomainDeep es ns D d A s → ChecksDeep es ns D (function d M) X s
  domain_deep D d M A B X s x h = subst (λ Y. ChecksDeep es ns D (function d M) Y s) (sym x) (go h)
    where
      go : ChecksDomainDeep es ns D d A s → ChecksDeep es ns D (function d M) (pi A B) s
      go (in_domain n i) = deep_checked_domain n i
      go (at_domain i k) = deep_compared_domain i k

  module _ (o : IsCanonicalSignature es) where
    pub domain_checked : (a b : Elaboration) (d : WrittenDomain) (A Y : LfType) → ChecksDomain es ns d A a b → Stands (signature_of es) (made a) a.locals → TypeHasSkeletons (signature_of es) (made a) a.locals A → TypeHasSkeletons (signature_of es) (made a) a.locals Y →
        Stands (signature_of es) (made b) a.locals × TypeHasSkeletons (signature_of es) (made b) a.locals Y
    domain_checked a b d A Y (z, Z, i, q, m) w x y =
        let w' = domain_stands es o ns w i a.locals refl in
        let z' = domain_found es o ns w i a.locals refl in (
          subst (λ v. Stands (signature_of es) v a.locals) (sym m) (compared_stands es o ns z a.locals Z A q w' z' (domain_kept es o ns w i A x)),
          subst (λ v. TypeHasSkeletons (signature_of es) v a.locals Y) (sym m) (compared_type es o ns z a.locals Z A Y w' (domain_kept es o ns w i Y y)),
        )

-- neither a hole nor a function
pub is_inferred : (W : Syntax) → ((i : ℕ) × (p : Place) × (W ≡ Free i p)) ⊎ (((i : ℕ) × (W ≡ Bound i)) ⊎ (((c : ConstId) × (p : Place) × (W ≡ Declared c p)) ⊎ (((M : Box Syntax Global) × (P : Box Syntax Global) × (W ≡ Applied M P)) ⊎ ((M : Box Syntax Global) × (U : Box WrittenTypeSyntax Global) × (W ≡ Ascribed M U))))) → IsInferred (written_of W)
is_inferred W (inl (i, p, e)) = subst IsInferred (sym (ap written_of e ∙ written_of-Free i p)) tt
is_inferred W (inr (inl (i, e))) = subst IsInferred (sym (ap written_of e ∙ written_of-Bound i)) tt
is_inferred W (inr (inr (inl (c, p, e)))) = subst IsInferred (sym (ap written_of e ∙ written_of-Declared c p)) tt
is_inferred W (inr (inr (inr (inl (M, P, e))))) = subst IsInferred (sym (ap written_of e ∙ written_of-Applied M P)) tt
is_inferred W (inr (inr (inr (inr (M, U, e))))) = subst IsInferred (sym (ap written_of e ∙ written_of-Ascribed M U)) tt

-- a hole, a function or an ascription
pub is_reducible : (es : List Entry) (W : Syntax) → ((t : SkeletonSyntax) × (p : Place) × (W ≡ Hole t p)) ⊎ (((d : WrittenDomainSyntax) × (M : Box Syntax Global) × (W ≡ Function d M)) ⊎ ((M : Box Syntax Global) × (U : Box WrittenTypeSyntax Global) × (W ≡ Ascribed M U))) → IsReducible es (written_of W)
is_reducible es W (inl (t, p, e)) = subst (IsReducible es) (sym (ap written_of e ∙ written_of-Hole t p)) tt
is_reducible es W (inr (inl (d, M, e))) = subst (IsReducible es) (sym (ap written_of e ∙ written_of-Function d M)) tt
is_reducible es W (inr (inr (M, U, e))) = subst (IsReducible es) (sym (ap written_of e ∙ written_of-Ascribed M U)) tt
