-- Kinds behind a family: they are elaborated from the outside in, then the family, and then they are compared with its kind from the inside out.
use Rattle.std.proofs.Common.{◌≡◌, ℕ, List, [], ◌∷◌, ◌++◌, length, map, refl, sym, ap, ◌∙◌, subst}
use Rattle.lf.specs.Entries.{Entry, IsCanonicalSignature, signature_of}
use Rattle.lf.specs.Syntax.{Kind, LfType, Spine}
use Rattle.lf_elaboration.specs.Elaboration.{ElaboratesFamily, ElaboratesKind}
use Rattle.lf_elaboration.specs.Skeletons.{KindHasSkeletons}
use Rattle.lf_elaboration.specs.State.{State}
use Rattle.lf_elaboration.specs.Written.{WrittenKind, WrittenType, family_ascribed}
use Rattle.tw_open.specs.View.{open_kind_of}
use Rattle.tw_open.specs.declared.kinds.OpenKind.{OpenKind}
use Rattle.tw_elaborate.specs.Comparing.{ComparesKinds, IsProduct}
use Rattle.tw_elaborate.specs.Deep.{FamilyDeep, KindDeep, deep_ascribed_family, deep_compared_kind, deep_family_kind}
use Rattle.tw_elaborate.specs.Fits.{Stands}
use Rattle.tw_elaborate.specs.IndicesDeep.{KindIndicesDeep}
use Rattle.tw_elaborate.specs.View.{made}
use Rattle.tw_elaborate.specs.declared.state.Elaboration.{Elaboration}
use Rattle.tw_elaborate.proofs.Answering.{family_compared}
use Rattle.tw_elaborate.proofs.Following.{family_found, kind_stands}

pub no_kinds_left : (kinds : List OpenKind) → length kinds ≡ 0 → map open_kind_of kinds ≡ []
no_kinds_left [] e = refl
no_kinds_left (K ∷ Ks) e = absurd cc

module _ (es : List Entry) (ns : List ℕ) (D : List LfType) where
  -- of W, from s, the kinds are elaborated, the outermost first, and X is left, from t
  abbrev pub UnderKinds : List Kind → WrittenType → State → WrittenType → State → Type 0
  UnderKinds [] W s X t = (W ≡ X) × (s ≡ t)
  UnderKinds (L ∷ Ls) W s X t = (U : WrittenType) × (k : WrittenKind) × (u : State) × (W ≡ family_ascribed U k) × ElaboratesKind es ns D k s u L × UnderKinds Ls U u X t

  pub no_kind_under : (Ls : List Kind) (W : WrittenType) (s : State) → Ls ≡ [] → UnderKinds Ls W s W s
  no_kind_under Ls W s e = subst (λ l. UnderKinds l W s W s) (sym e) (refl, refl)

  under_more : (Ls : List Kind) (W X U : WrittenType) (k : WrittenKind) (s t u : State) (L : Kind) → X ≡ family_ascribed U k → ElaboratesKind es ns D k t u L → UnderKinds Ls W s X t → UnderKinds (Ls ++ L ∷ []) W s U u
  under_more [] W X U k s t u L x i (e, f) = (U, k, u, e ∙ x, subst (λ v. ElaboratesKind es ns D k v u L) (sym f) i, (refl, refl))
  under_more (K ∷ Ks) W X U k s t u L x i (V, l, v, e, j, h) = (V, l, v, e, j, under_more Ks V X U k v t u L x i h)

  pub one_kind_more : (Ks Ls : List Kind) (W X U : WrittenType) (k : WrittenKind) (s t u : State) (L : Kind) → Ls ≡ Ks ++ L ∷ [] → X ≡ family_ascribed U k → ElaboratesKind es ns D k t u L → UnderKinds Ks W s X t → UnderKinds Ls W s U u
  one_kind_more Ks Ls W X U k s t u L b x i h = subst (λ l. UnderKinds l W s U u) (sym b) (under_more Ks W X U k s t u L x i h)

  -- the innermost of the kinds
  pub record InnermostKind (Ls : List Kind) (L : Kind) (W : WrittenType) (s : State) (X : WrittenType) (t : State) : Type 0 where
    pub whole : WrittenType
    pub written_kind : WrittenKind
    pub begin : State
    pub under : UnderKinds Ls W s whole begin
    pub is : whole ≡ family_ascribed X written_kind
    pub elaborated : ElaboratesKind es ns D written_kind begin t L

  innermost : (Ls : List Kind) (L : Kind) (W X : WrittenType) (s t : State) → UnderKinds (Ls ++ L ∷ []) W s X t → InnermostKind Ls L W s X t
  innermost [] L W X s t (U, k, u, e, i, (m, f)) = record { whole = W; written_kind = k; begin = s; under = (refl, refl); is = e ∙ ap (λ V. family_ascribed V k) m; elaborated = subst (λ z. ElaboratesKind es ns D k s z L) f i }
  innermost (K ∷ Ks) L W X s t (U, k, u, e, i, h) = let m = innermost Ks L U X u t h in record { whole = m.whole; written_kind = m.written_kind; begin = m.begin; under = (U, k, u, e, i, m.under); is = m.is; elaborated = m.elaborated }

  -- what is deep inside is it in the whole
  pub kinds_deep : (Ls : List Kind) (W X : WrittenType) (s t : State) → UnderKinds Ls W s X t → FamilyDeep es ns D X t → FamilyDeep es ns D W s
  kinds_deep [] W X s t (e, f) d = subst (λ U. FamilyDeep es ns D U s) (sym e) (subst (FamilyDeep es ns D X) (sym f) d)
  kinds_deep (L ∷ Ls) W X s t (U, k, u, e, i, h) d = subst (λ V. FamilyDeep es ns D V s) (sym e) (deep_ascribed_family i (kinds_deep Ls U X u t h d))

  pub kind_under_deep : (Ls : List Kind) (W X U : WrittenType) (k : WrittenKind) (s t : State) → X ≡ family_ascribed U k → UnderKinds Ls W s X t → KindDeep es ns D k t → FamilyDeep es ns D W s
  kind_under_deep Ls W X U k s t x h d = kinds_deep Ls W X s t h (subst (λ V. FamilyDeep es ns D V t) (sym x) (deep_family_kind d))

  -- the family W at the kinds that are left is found, from the inside out
  pub record FamilyFound (Ls : List Kind) (W : WrittenType) (s t : State) (a : ℕ) (S : Spine) (K : Kind) : Type 0 where
    pub whole : WrittenType
    pub begin : State
    pub under : UnderKinds Ls W s whole begin
    pub elaborated : ElaboratesFamily es ns D whole begin t a S K

  pub next_family_found : {Ls : List Kind} {W : WrittenType} {s : State} {a : ℕ} {S : Spine} {K : Kind} (Ms : List Kind) (L : Kind) (b c : Elaboration) → Ls ≡ Ms ++ L ∷ [] → b.locals ≡ D → IsProduct K → ComparesKinds (signature_of es) K L b c → FamilyFound Ls W s (made b) a S K → FamilyFound Ms W s (made c) a S K
  next_family_found {W = W} {s = s} {a = a} {S = S} {K = K} Ms L b c e l p q f =
      let m = innermost Ms L W f.whole s f.begin (subst (λ l. UnderKinds l W s f.whole f.begin) e f.under) in
      record {
        whole = m.whole;
        begin = m.begin;
        under = m.under;
        elaborated = subst (λ V. ElaboratesFamily es ns D V m.begin (made c) a S K) (sym m.is) (family_compared es ns D f.whole m.written_kind m.begin f.begin a S K L b c l m.elaborated f.elaborated p q);
      }

  pub next_kind_deep : {Ls : List Kind} {W : WrittenType} {s t : State} {a : ℕ} {S : Spine} {K : Kind} (Ms : List Kind) (L : Kind) → Ls ≡ Ms ++ L ∷ [] → KindIndicesDeep (signature_of es) K → FamilyFound Ls W s t a S K → FamilyDeep es ns D W s
  next_kind_deep {W = W} {s = s} Ms L e d f =
      let m = innermost Ms L W f.whole s f.begin (subst (λ l. UnderKinds l W s f.whole f.begin) e f.under) in
      kinds_deep Ms W m.whole s m.begin m.under (subst (λ V. FamilyDeep es ns D V m.begin) (sym m.is) (deep_compared_kind m.elaborated f.elaborated d))

  pub whole_family_found : {Ls : List Kind} {W : WrittenType} {s t : State} {a : ℕ} {S : Spine} {K : Kind} → Ls ≡ [] → FamilyFound Ls W s t a S K → ElaboratesFamily es ns D W s t a S K
  whole_family_found {W = W} {s = s} {t = t} {a = a} {S = S} {K = K} e f =
      let h : (W ≡ f.whole) × (s ≡ f.begin) = subst (λ l. UnderKinds l W s f.whole f.begin) e f.under in
      subst (λ U. ElaboratesFamily es ns D U s t a S K) (sym h.0) (subst (λ v. ElaboratesFamily es ns D f.whole v t a S K) (sym h.1) f.elaborated)

  module _ (canonical : IsCanonicalSignature es) where
    under_stands : (Ls : List Kind) (W X : WrittenType) (s t : State) → UnderKinds Ls W s X t → Stands (signature_of es) s D → Stands (signature_of es) t D
    under_stands [] W X s t (e, f) w = subst (λ v. Stands (signature_of es) v D) f w
    under_stands (L ∷ Ls) W X s t (U, k, u, e, i, h) w = under_stands Ls U X u t h (kind_stands es canonical ns w i D refl)

    pub kinds_rest_stands : (Ls : List Kind) (W X : WrittenType) (s t : State) (E : List LfType) → E ≡ D → UnderKinds Ls W s X t → Stands (signature_of es) s D → Stands (signature_of es) t E
    kinds_rest_stands Ls W X s t E e h w = subst (Stands (signature_of es) t) (sym e) (under_stands Ls W X s t h w)

    pub found_kind : {Ls : List Kind} {W : WrittenType} {s t : State} {a : ℕ} {S : Spine} {K : Kind} (f : FamilyFound Ls W s t a S K) → Stands (signature_of es) s D → (E : List LfType) → E ≡ D → KindHasSkeletons (signature_of es) t E K
    found_kind {Ls = Ls} {W = W} {s = s} f w E e = family_found es canonical ns (under_stands Ls W f.whole s f.begin f.under w) f.elaborated E e
