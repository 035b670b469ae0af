-- A variable comes into scope and goes again.
use Rattle.std.proofs.Common.{◌≡◌, ℕ, List, ◌∷◌, drop, sym, ap, ◌∙◌, subst, Some}
use Rattle.lf.specs.Entries.{Entry, IsCanonicalSignature, signature_of}
use Rattle.lf.specs.Syntax.{Kind, LfType, Skeleton, Spine, arrow, atom, base, pi}
use Rattle.lf.specs.Typing.{IsSignature}
use Rattle.lf.proofs.Entries.{canonical_is_signature}
use Rattle.lf_elaboration.specs.Elaboration.{NewType, TakesAllNew, new_atom, new_pi}
use Rattle.lf_elaboration.specs.State.{State}
use Rattle.lf_elaboration.proofs.Adds.{new_type_adds}
use Rattle.lf_elaboration.proofs.Skeletons.{kind_closed, local_grows, new_type_skeletons}
use Rattle.tw_open.specs.Fits.{KindStands}
use Rattle.tw_elaborate.specs.Fits.{Stands}
use Rattle.tw_open.specs.Fresh.{OnlyDeclares}
use Rattle.tw_elaborate.specs.Fresh.{Keeps}
use Rattle.tw_elaborate.specs.NewDeep.{NewTypeDeep, TakesAllNewDeep, deep_new_atom, deep_new_pi_range}
use Rattle.tw_elaborate.specs.declared.state.Elaboration.{Elaboration}
use Rattle.tw_open.proofs.NewTerms.{declares_then}

-- E are the variables in scope in between
pub keeps_inside : (a b d e : Elaboration) (E : List LfType) (X : LfType) → Keeps a b → E ≡ X ∷ b.locals → d.locals ≡ E → OnlyDeclares b.store d.store → e.store ≡ d.store → e.locals ≡ drop 1 d.locals → Keeps a e
keeps_inside a b d e E X k l m g s p = record {
  locals = p ∙ ap (drop 1) (m ∙ l) ∙ k.locals;
  store = declares_then k.store (subst (OnlyDeclares b.store) (sym s) g);
}

-- only the equations change
pub keeps_on : (a b c : Elaboration) → Keeps a b → c.store ≡ b.store → c.locals ≡ b.locals → Keeps a c
keeps_on a b c k s l = record { locals = l ∙ k.locals; store = subst (OnlyDeclares a.store) (sym s) k.store }

module _ (es : List Entry) (canonical : IsCanonicalSignature es) where
  abbrev ok : IsSignature (signature_of es)
  ok = canonical_is_signature es canonical

  -- a declared kind
  pub family_kind_stands : (s : State) (D : List LfType) (a : ℕ) (K L : Kind) → Stands (signature_of es) s D → Some K ≡ (signature_of es).kinds a → L ≡ K → KindStands s D L
  family_kind_stands s D a K L w e l = subst (KindStands s D) (sym l) (record {
    signature = signature_of es;
    typed_signature = canonical_is_signature es canonical;
    numbered = w.state.numbered;
    local = w.local;
    of_kind = kind_closed (signature_of es) ok s D K (ok.kinds_ok a K (sym e));
  })

  -- the variable of a new type
  pub stands_with_new : (t : Skeleton) (s s' : State) (D E : List LfType) (A X : LfType) → Stands (signature_of es) s D → NewType es D t s s' A → E ≡ X ∷ D → X ≡ A → Stands (signature_of es) s' E
  stands_with_new t s s' D E A X w n q x =
      let (w', y, p) = new_type_skeletons es canonical n w.state w.local in
      let v : Stands (signature_of es) s' (A ∷ D) = record { state = w'; local = (local_grows (signature_of es) ok s s' (new_type_adds es n w.state.numbered) D w.local, y) } in
      subst (Stands (signature_of es) s') (sym (q ∙ ap (λ Y. Y ∷ D) x)) v

module _ (es : List Entry) where
  pub atom_is_new : (s s' : State) (D : List LfType) (a : ℕ) (K L : Kind) (S : Spine) (A : LfType) → Some K ≡ (signature_of es).kinds a → L ≡ K → TakesAllNew D L s s' S → A ≡ atom a S → NewType es D (base a) s s' A
  atom_is_new s s' D a K L S A e l t q = subst (NewType es D (base a) s s') (sym q) (new_atom (sym e) (subst (λ x. TakesAllNew D x s s' S) l t))

  pub pi_is_new : (T t u : Skeleton) (s s₁ s₂ s' : State) (D E : List LfType) (A B X Y : LfType) → T ≡ arrow t u → NewType es D t s s₁ A → E ≡ X ∷ D → X ≡ A → NewType es E u s₁ s₂ B → s' ≡ s₂ → Y ≡ pi A B → NewType es D T s s' Y
  pi_is_new T t u s s₁ s₂ s' D E A B X Y h n q x r p y =
      subst (λ v. NewType es D v s s' Y) (sym h) (subst (λ w. NewType es D (arrow t u) s w Y) (sym p) (subst (NewType es D (arrow t u) s s₂) (sym y) (new_pi n (subst (λ F. NewType es F u s₁ s₂ B) (q ∙ ap (λ Z. Z ∷ D) x) r))))

  -- where one is deep
  pub atom_is_deep : (s : State) (D : List LfType) (a : ℕ) (K L : Kind) → Some K ≡ (signature_of es).kinds a → L ≡ K → TakesAllNewDeep D L s → NewTypeDeep es D (base a) s
  atom_is_deep s D a K L e l t = deep_new_atom (sym e) (subst (λ x. TakesAllNewDeep D x s) l t)

  pub range_is_deep : (T t u : Skeleton) (s s₁ : State) (D E : List LfType) (A X : LfType) → T ≡ arrow t u → NewType es D t s s₁ A → E ≡ X ∷ D → X ≡ A → NewTypeDeep es E u s₁ → NewTypeDeep es D T s
  range_is_deep T t u s s₁ D E A X h n q x d = subst (λ v. NewTypeDeep es D v s) (sym h) (deep_new_pi_range n (subst (λ F. NewTypeDeep es F u s₁) (q ∙ ap (λ Z. Z ∷ D) x) d))
