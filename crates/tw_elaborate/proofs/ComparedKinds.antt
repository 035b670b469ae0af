-- Two kinds that are compared, domain by domain.
use Rattle.std.proofs.Common.{◌≡◌, zero, List, ◌∷◌, inl, inr, refl, sym, ap, ap₂, ◌∙◌, subst}
use Rattle.lf.specs.Syntax.{Kind, LfType, arrow, kind_pi, kind_skeleton, star}
use Rattle.lf.specs.Typing.{Signature}
use Rattle.lf_elaboration.specs.Skeletons.{KindHasSkeletons, TypeHasSkeletons}
use Rattle.lf_elaboration.specs.State.{State, kind_equations, type_equations, with_equations}
use Rattle.tw_elaborate.specs.Comparing.{ComparesIn, ComparesKinds}
use Rattle.tw_elaborate.specs.Fresh.{Keeps}
use Rattle.tw_elaborate.specs.IndicesDeep.{IndicesDeep, KindIndicesDeep}
use Rattle.tw_elaborate.specs.View.{made}
use Rattle.tw_elaborate.specs.declared.state.Elaboration.{Elaboration}
use Rattle.tw_elaborate.proofs.Equating.{equations_twice, no_equations}
use Rattle.tw_elaborate.proofs.Taking.{keeps_same, keeps_then}

module _ (Σ : Signature) where
  -- of two kinds T and U in D this is left, in the context E
  pub record IsComparingKinds (D : List LfType) (T U : Kind) (E : List LfType) (K L : Kind) (start now : Elaboration) : Type 0 where
    pub equations : with_equations (kind_equations Σ D T U) (made start) ≡ with_equations (kind_equations Σ E K L) (made now)
    pub same : kind_skeleton zero K ≡ kind_skeleton zero L → kind_skeleton zero T ≡ kind_skeleton zero U
    pub found : KindHasSkeletons Σ (made now) E K
    pub keeps : Keeps start now
    pub deep : KindIndicesDeep Σ K → KindIndicesDeep Σ T

  pub comparing_kinds : (D E : List LfType) (T U : Kind) (a : Elaboration) → E ≡ D → KindHasSkeletons Σ (made a) D T → IsComparingKinds D T U E T U a a
  comparing_kinds D E T U a e h = subst (λ F. IsComparingKinds D T U F T U a a) (sym e) (record { equations = refl; same = λ k. k; found = h; keeps = keeps_same a; deep = λ d. d })

  module _ {D : List LfType} {T U : Kind} {E : List LfType} {K L : Kind} {start now : Elaboration} (k : IsComparingKinds D T U E K L start now) where
    pub kind_domain_found : (F : List LfType) (A : LfType) (M : Kind) → F ≡ E → K ≡ kind_pi A M → TypeHasSkeletons Σ (made now) F A
    kind_domain_found F A M f e = subst (λ G. TypeHasSkeletons Σ (made now) G A) (sym f) (subst (KindHasSkeletons Σ (made now) E) e k.found).0

    -- the first domains were compared
    pub kinds_on : (F G : List LfType) (A X : LfType) (M N : Kind) (b : Elaboration) → K ≡ kind_pi A M → L ≡ kind_pi X N → F ≡ E → G ≡ A ∷ E → ComparesIn Σ F A X now b → Keeps now b → IsComparingKinds D T U G M N start b
    kinds_on F G A X M N b e f i g c p =
        let es = type_equations Σ E A X in
        let q : made b ≡ with_equations es (made now) = c.state ∙ ap (λ H. with_equations (type_equations Σ H A X) (made now)) i in
        let m : KindHasSkeletons Σ (with_equations es (made now)) (A ∷ E) M = (subst (KindHasSkeletons Σ (made now) E) e k.found).1 in
        record {
          equations = k.equations ∙ ap₂ (λ (V W : Kind). with_equations (kind_equations Σ E V W) (made now)) e f
              ∙ sym (equations_twice es (kind_equations Σ (A ∷ E) M N) (made now))
              ∙ ap₂ (λ (H : List LfType) (s : State). with_equations (kind_equations Σ H M N) s) (sym g) (sym q);
          same = λ n. k.same (ap (kind_skeleton zero) e ∙ ap₂ arrow c.same n ∙ sym (ap (kind_skeleton zero) f));
          found = subst (λ s. KindHasSkeletons Σ s G M) (sym q) (subst (λ H. KindHasSkeletons Σ (with_equations es (made now)) H M) (sym g) m);
          keeps = keeps_then start now b k.keeps p;
          deep = λ d. k.deep (subst (KindIndicesDeep Σ) (sym e) (inr d));
        }

    -- the next domain comes out deep
    pub kind_domain_deep : (A : LfType) (M : Kind) → K ≡ kind_pi A M → IndicesDeep Σ A → KindIndicesDeep Σ T
    kind_domain_deep A M e d = k.deep (subst (KindIndicesDeep Σ) (sym e) (inl d))

    pub kinds_compared : K ≡ star → L ≡ star → D ≡ start.locals → ComparesKinds Σ T U start now
    kinds_compared e f d = record {
      same = k.same (ap (kind_skeleton zero) e ∙ sym (ap (kind_skeleton zero) f));
      state = sym (ap (λ H. with_equations (kind_equations Σ H T U) (made start)) (sym d) ∙ k.equations ∙ ap₂ (λ (V W : Kind). with_equations (kind_equations Σ E V W) (made now)) e f ∙ no_equations (made now));
    }
