-- Ascriptions in one another: the types are elaborated from the outside in, then the term, and then the types are compared from the inside out.
use Rattle.std.proofs.Common.{◌≡◌, ℕ, List, [], ◌∷◌, ◌++◌, length, map, refl, sym, ap, ◌∙◌, subst}
use Rattle.lf.specs.Entries.{Entry, IsCanonicalSignature, signature_of}
use Rattle.lf.specs.Syntax.{LfType, Term}
use Rattle.lf_elaboration.specs.Elaboration.{Checks, ElaboratesType, Infers, IsInferred, at_ascribed}
use Rattle.lf_elaboration.specs.State.{State}
use Rattle.lf_elaboration.specs.Written.{Written, WrittenType, ascribed}
use Rattle.tw_terms.specs.OpenView.{open_type_of}
use Rattle.tw_terms.specs.declared.open_terms.OpenTy.{OpenTy}
use Rattle.tw_elaborate.specs.Deep.{ChecksDeep, InfersDeep, TypeDeep, deep_ascribed, deep_ascription, deep_inferred}
use Rattle.tw_elaborate.specs.Fits.{Stands}
use Rattle.tw_elaborate.proofs.Following.{type_found, type_stands}
use Rattle.lf_elaboration.specs.Skeletons.{TypeHasSkeletons}

pub no_types_left : (types : List OpenTy) → length types ≡ 0 → map open_type_of types ≡ []
no_types_left [] e = refl
no_types_left (A ∷ As) e = absurd cc

module _ (es : List Entry) (ns : List ℕ) (D : List LfType) where
  -- of W, from s, the types are elaborated, the outermost first, and X is left, from t
  abbrev pub Under : List LfType → Written → State → Written → State → Type 0
  Under [] W s X t = (W ≡ X) × (s ≡ t)
  Under (A ∷ As) W s X t = (M : Written) × (U : WrittenType) × (u : State) × (W ≡ ascribed M U) × ElaboratesType es ns D U s u A × Under As M u X t

  pub none_under : (As : List LfType) (W : Written) (s : State) → As ≡ [] → Under As W s W s
  none_under As W s e = subst (λ l. Under l W s W s) (sym e) (refl, refl)

  under_inferred : (As : List LfType) (W X : Written) (s t : State) → Under As W s X t → IsInferred X → IsInferred W
  under_inferred [] W X s t (e, f) n = subst IsInferred (sym e) n
  under_inferred (A ∷ As) W X s t (M, U, u, e, i, h) n = subst IsInferred (sym e) tt

  under_more : (As : List LfType) (W X M : Written) (U : WrittenType) (s t u : State) (A : LfType) → X ≡ ascribed M U → ElaboratesType es ns D U t u A → Under As W s X t → Under (As ++ A ∷ []) W s M u
  under_more [] W X M U s t u A x i (e, f) = (M, U, u, e ∙ x, subst (λ v. ElaboratesType es ns D U v u A) (sym f) i, (refl, refl))
  under_more (B ∷ Bs) W X M U s t u A x i (N, V, v, e, j, h) = (N, V, v, e, j, under_more Bs N X M U v t u A x i h)

  pub one_more_under : (As Bs : List LfType) (W X M : Written) (U : WrittenType) (s t u : State) (A : LfType) → Bs ≡ As ++ A ∷ [] → X ≡ ascribed M U → ElaboratesType es ns D U t u A → Under As W s X t → Under Bs W s M u
  one_more_under As Bs W X M U s t u A b x i h = subst (λ l. Under l W s M u) (sym b) (under_more As W X M U s t u A x i h)

  -- the innermost of the types
  pub record Innermost (As : List LfType) (A : LfType) (W : Written) (s : State) (X : Written) (t : State) : Type 0 where
    pub whole : Written
    pub written_type : WrittenType
    pub begin : State
    pub under : Under As W s whole begin
    pub is : whole ≡ ascribed X written_type
    pub elaborated : ElaboratesType es ns D written_type begin t A

  innermost : (As : List LfType) (A : LfType) (W X : Written) (s t : State) → Under (As ++ A ∷ []) W s X t → Innermost As A W s X t
  innermost [] A W X s t (M, U, u, e, i, (m, f)) = record { whole = W; written_type = U; begin = s; under = (refl, refl); is = e ∙ ap (λ N. ascribed N U) m; elaborated = subst (λ z. ElaboratesType es ns D U s z A) f i }
  innermost (B ∷ Bs) A W X s t (M, U, u, e, i, h) = let k = innermost Bs A M X u t h in record { whole = k.whole; written_type = k.written_type; begin = k.begin; under = (M, U, u, e, i, k.under); is = k.is; elaborated = k.elaborated }

  pub last_under : (As Bs : List LfType) (A : LfType) (W X : Written) (s t : State) → Bs ≡ As ++ A ∷ [] → Under Bs W s X t → Innermost As A W s X t
  last_under As Bs A W X s t b h = innermost As A W X s t (subst (λ l. Under l W s X t) b h)

  -- what is deep inside is it in the whole
  pub under_deep : (As : List LfType) (W X : Written) (s t : State) → Under As W s X t → IsInferred X → InfersDeep es ns D X t → InfersDeep es ns D W s
  under_deep [] W X s t (e, f) n d = subst (λ M. InfersDeep es ns D M s) (sym e) (subst (InfersDeep es ns D X) (sym f) d)
  under_deep (A ∷ As) W X s t (M, U, u, e, i, h) n d = subst (λ N. InfersDeep es ns D N s) (sym e) (deep_ascribed i (deep_inferred (under_inferred As M X u t h n) (under_deep As M X u t h n d)))

  pub type_under_deep : (As : List LfType) (W X M : Written) (U : WrittenType) (s t : State) → X ≡ ascribed M U → Under As W s X t → TypeDeep es ns D U t → InfersDeep es ns D W s
  type_under_deep As W X M U s t x h d = under_deep As W (ascribed M U) s t (subst (λ Y. Under As W s Y t) x h) tt (deep_ascription d)

  module _ {As : List LfType} {A : LfType} {W X : Written} {s t : State} (k : Innermost As A W s X t) where
    pub innermost_deep : ChecksDeep es ns D X A t → InfersDeep es ns D W s
    innermost_deep d = under_deep As W (ascribed X k.written_type) s k.begin (subst (λ Y. Under As W s Y k.begin) k.is k.under) tt (deep_ascribed k.elaborated d)

  -- the term W at the types that are left is found, from the inside out
  pub record Found (As : List LfType) (W : Written) (s t : State) (R : Term) (A : LfType) : Type 0 where
    pub whole : Written
    pub begin : State
    pub under : Under As W s whole begin
    pub is_inferred : IsInferred whole
    pub inferred : Infers es ns D whole begin t R A

  pub first_found : {As : List LfType} {A : LfType} {W X : Written} {s t u : State} {R : Term} → Innermost As A W s X t → Checks es ns D X A t u R → Found As W s u R A
  first_found {u = u} {R = R} k c = record {
    whole = k.whole;
    begin = k.begin;
    under = k.under;
    is_inferred = subst IsInferred (sym k.is) tt;
    inferred = subst (λ M. Infers es ns D M k.begin u R _) (sym k.is) (at_ascribed k.elaborated c);
  }

  -- the next type, with which the one that was found is compared
  pub next_found_type : {As : List LfType} {W : Written} {s t u : State} {R : Term} {A : LfType} (Bs : List LfType) (B : LfType) (f : Found As W s t R A) → As ≡ Bs ++ B ∷ [] → Checks es ns D f.whole B f.begin u R → Found Bs W s u R B
  next_found_type {As = As} {W = W} {s = s} Bs B f e c = first_found (last_under Bs As B W f.whole s f.begin e f.under) c

  pub next_type_deep : {As : List LfType} {W : Written} {s t : State} {R : Term} {A : LfType} (Bs : List LfType) (B : LfType) (f : Found As W s t R A) → As ≡ Bs ++ B ∷ [] → ChecksDeep es ns D f.whole B f.begin → InfersDeep es ns D W s
  next_type_deep {As = As} {W = W} {s = s} Bs B f e d = innermost_deep (last_under Bs As B W f.whole s f.begin e f.under) d

  pub whole_found : {As : List LfType} {W : Written} {s t : State} {R : Term} {A : LfType} → As ≡ [] → Found As W s t R A → Infers es ns D W s t R A
  whole_found {W = W} {s = s} {t = t} {R = R} {A = A} e f =
      let h : (W ≡ f.whole) × (s ≡ f.begin) = subst (λ l. Under l W s f.whole f.begin) e f.under in
      subst (λ M. Infers es ns D M s t R A) (sym h.0) (subst (λ v. Infers es ns D f.whole v t R A) (sym h.1) f.inferred)

  module _ (canonical : IsCanonicalSignature es) where
    under_stands : (As : List LfType) (W X : Written) (s t : State) → Under As W s X t → Stands (signature_of es) s D → Stands (signature_of es) t D
    under_stands [] W X s t (e, f) w = subst (λ v. Stands (signature_of es) v D) f w
    under_stands (A ∷ As) W X s t (M, U, u, e, i, h) w = under_stands As M X u t h (type_stands es canonical ns w i D refl)

    pub rest_stands : (As : List LfType) (W X : Written) (s t : State) (E : List LfType) → E ≡ D → Under As W s X t → Stands (signature_of es) s D → Stands (signature_of es) t E
    rest_stands As W X s t E e h w = subst (Stands (signature_of es) t) (sym e) (under_stands As W X s t h w)

    module _ {As : List LfType} {A : LfType} {W X : Written} {s t : State} (k : Innermost As A W s X t) (w : Stands (signature_of es) s D) where
      pub innermost_stands : (E : List LfType) → E ≡ D → Stands (signature_of es) t E
      innermost_stands E e = type_stands es canonical ns (under_stands As W k.whole s k.begin k.under w) k.elaborated E e

      pub innermost_type : (E : List LfType) → E ≡ D → TypeHasSkeletons (signature_of es) t E A
      innermost_type E e = type_found es canonical ns (under_stands As W k.whole s k.begin k.under w) k.elaborated E e

    pub found_stands : {As : List LfType} {W : Written} {s t : State} {R : Term} {A : LfType} (f : Found As W s t R A) → Stands (signature_of es) s D → Stands (signature_of es) f.begin D
    found_stands {As = As} {W = W} {s = s} f w = under_stands As W f.whole s f.begin f.under w
