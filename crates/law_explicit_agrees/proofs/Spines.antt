-- What is deep behind the arguments of a head, which a text gives, is reached by the typing of the head on all its arguments.
use Rattle.std.proofs.Common.{◌≡◌, ℕ, ◌<◌, List, Some, inl, inr, refl, sym, ap, subst}
use Rattle.lf.specs.DeepTyping.{KindSpineReachesDeep, SpineReachesDeep, TypeReachesDeep, TypingReachesDeep}
use Rattle.lf.specs.Depth.{depth_limit, kind_depth, type_depth}
use Rattle.lf.specs.Entries.{Entry, signature_of}
use Rattle.lf.specs.Eta.{append}
use Rattle.lf.specs.Syntax.{Head, Kind, LfType, Spine, Term as LfTerm, app, atom, kind_pi, nil, pi as lf_pi, root, star as lf_star}
use Rattle.lf.specs.Typing.{HeadHasType, Signature}
use Rattle.tw_fixity.specs.Names.{Names}
use Rattle.tw_parse.specs.Syntax.{Term, application, identifier}
use Rattle.law_explicit_form.specs.Completion.{FamilyGives, SpineGives, then}
use Rattle.law_explicit_form.proofs.Gives.{term_typed}

append_then : (S T : Spine) (R : LfTerm) → append (then S R) T ≡ append S (app R T)
append_then nil T R = refl
append_then (app M S) T R = ap (app M) (append_then S T R)

append_nil : (S : Spine) → append S nil ≡ S
append_nil nil = refl
append_nil (app M S) = ap (app M) (append_nil S)

module _ (es : List Entry) where
  abbrev Σ : Signature
  Σ = signature_of es

  -- a type that is left and is deep, whatever stands behind it
  pub deep_left : (G : List LfType) (U : Spine) (A : LfType) → depth_limit < type_depth A → SpineReachesDeep depth_limit Σ G U A
  deep_left G nil A l = l
  deep_left G (app M U) (lf_pi A B) l = inl l
  deep_left G (app M U) (atom a T) l = l

  pub kind_deep_left : (G : List LfType) (U : Spine) (K : Kind) → depth_limit < kind_depth K → KindSpineReachesDeep depth_limit Σ G U K
  kind_deep_left G nil K l = l
  kind_deep_left G (app M U) (kind_pi A K) l = inl l
  kind_deep_left G (app M U) lf_star l = l

  -- a head whose arguments, with any behind them, reach what is deep
  abbrev pub SpineIsDeep : List LfType → Head → Spine → Type 0
  SpineIsDeep G h S = (A : LfType) × HeadHasType Σ G h A × ((U : Spine) → SpineReachesDeep depth_limit Σ G (append S U) A)

  abbrev pub FamilyIsDeep : List LfType → ℕ → Spine → Type 0
  FamilyIsDeep G a S = (K : Kind) × (Σ.kinds a ≡ Some K) × ((U : Spine) → KindSpineReachesDeep depth_limit Σ G (append S U) K)

  -- with one argument more
  pub argument_more : (G : List LfType) (S U : Spine) (L : LfTerm) (A : LfType) → S ≡ then U L → (V : Spine) → SpineReachesDeep depth_limit Σ G (append U (app L V)) A → SpineReachesDeep depth_limit Σ G (append S V) A
  argument_more G S U L A e V d = subst (λ X. SpineReachesDeep depth_limit Σ G (append X V) A) (sym e) (subst (λ X. SpineReachesDeep depth_limit Σ G X A) (sym (append_then U V L)) d)

  pub kind_argument_more : (G : List LfType) (S U : Spine) (R : LfTerm) (K : Kind) → S ≡ then U R → (V : Spine) → KindSpineReachesDeep depth_limit Σ G (append U (app R V)) K → KindSpineReachesDeep depth_limit Σ G (append S V) K
  kind_argument_more G S U R K e V d = subst (λ X. KindSpineReachesDeep depth_limit Σ G (append X V) K) (sym e) (subst (λ X. KindSpineReachesDeep depth_limit Σ G X K) (sym (append_then U V R)) d)

  -- What is reached behind the arguments is reached by all of them.
  pub spine_reaches : (M : Term) (N : Names) (G : List LfType) (h : Head) (S : Spine) (C : LfType) → SpineGives es N G M h S C → (A : LfType) × HeadHasType Σ G h A × ((U : Spine) → SpineReachesDeep depth_limit Σ G U C → SpineReachesDeep depth_limit Σ G (append S U) A)
  spine_reaches (identifier x at) N G h S C (n, t, e) = (C, t, λ U d. subst (λ X. SpineReachesDeep depth_limit Σ G (append X U) C) (sym e) d)
  spine_reaches (application M P) N G h S C (A, B, U, L, b, g, e, c) =
      let (X, t, k) = spine_reaches M N G h U (lf_pi A B) b in
      (X, t, λ V d. argument_more G S U L X e V (k (app L V) (inr (inr (term_typed es P N G A L g, inr (subst (SpineReachesDeep depth_limit Σ G V) c d))))))
  spine_reaches M N G h S C g = absurd g

  pub family_reaches : (M : Term) (N : Names) (G : List LfType) (a : ℕ) (S : Spine) (L : Kind) → FamilyGives es N G M a S L → (K : Kind) × (Σ.kinds a ≡ Some K) × ((U : Spine) → KindSpineReachesDeep depth_limit Σ G U L → KindSpineReachesDeep depth_limit Σ G (append S U) K)
  family_reaches (identifier x at) N G a S L (n, t, e) = (L, t, λ U d. subst (λ X. KindSpineReachesDeep depth_limit Σ G (append X U) L) (sym e) d)
  family_reaches (application M P) N G a S L (A, K, U, R, b, g, e, c) =
      let (X, t, k) = family_reaches M N G a U (kind_pi A K) b in
      (X, t, λ V d. kind_argument_more G S U R X e V (k (app R V) (inr (inr (term_typed es P N G A R g, inr (subst (KindSpineReachesDeep depth_limit Σ G V) c d))))))
  family_reaches M N G a S L g = absurd g

  -- a head with all its arguments
  pub root_deep : (G : List LfType) (h : Head) (S : Spine) (a : ℕ) (T : Spine) → SpineIsDeep G h S → TypingReachesDeep depth_limit Σ G (root h S) (atom a T)
  root_deep G h S a T (A, t, k) = inr (inr (A, t, subst (λ X. SpineReachesDeep depth_limit Σ G X A) (append_nil S) (k nil)))

  pub atom_deep : (G : List LfType) (a : ℕ) (S : Spine) → FamilyIsDeep G a S → TypeReachesDeep depth_limit Σ G (atom a S)
  atom_deep G a S (K, t, k) = inr (K, t, subst (λ X. KindSpineReachesDeep depth_limit Σ G X K) (append_nil S) (k nil))
