-- Declared families, constants and definitions on new metavariables.
use Rattle.std.proofs.Common.{◌≡◌, ℕ, List, [], Some, sym, subst}
use Rattle.std.specs.Prelude.{Bool}
use Rattle.lf.specs.Entries.{BodyIsTyped, Entry, IsCanonicalSignature, declare_constant, declare_definition, declare_family, entry, signature_of}
use Rattle.lf.specs.Eta.{eta_expand}
use Rattle.lf.specs.Depth.{depth_limit}
use Rattle.lf.specs.Substitution.{reduce}
use Rattle.lf.specs.Syntax.{Kind, LfType, Spine, Term, constant, skeleton}
use Rattle.lf.specs.Typing.{IsSignature, Signature}
use Rattle.lf.proofs.Entries.{canonical_is_signature}
use Rattle.lf_elaboration.specs.Elaboration.{ElaboratesFamily, Infers, KindTakesNew, TakesNew, at_constant, at_definition, at_family_name}
use Rattle.lf_elaboration.specs.Skeletons.{heads_of}
use Rattle.lf_elaboration.specs.State.{State}
use Rattle.lf_elaboration.specs.Written.{Place, declared, family}
use Rattle.lf_unification.specs.Patterns.{local_skeletons}
use Rattle.lf_elaboration.proofs.Skeletons.{closed_term_skeleton, constant_type, entry_typed, kind_closed, kind_declared, takes_skeletons, type_declared}
use Rattle.tw_elaborate.specs.Deep.{InfersDeep, TakesDeep, deep_definition}
use Rattle.tw_open.specs.Fits.{KindStands, TypeStands}
use Rattle.tw_elaborate.specs.Fits.{GivesArguments, Stands}

module _ (es : List Entry) (o : IsCanonicalSignature es) where
  abbrev Σ : Signature
  Σ = signature_of es

  abbrev ok : IsSignature (signature_of es)
  ok = canonical_is_signature es o

  module _ (s : State) (D : List LfType) (w : Stands (signature_of es) s D) (c : ℕ) (e : Entry) (q : entry es c ≡ Some e) where
    pub declared_kind_stands : (K L : Kind) → L ≡ K → e.body ≡ declare_family K → KindStands s D L
    declared_kind_stands K L l b = subst (KindStands s D) (sym l) (record { signature = Σ; typed_signature = ok; numbered = w.state.numbered; local = w.local; of_kind = kind_closed Σ ok s D K (ok.kinds_ok c K (kind_declared es c e K q b)) })

    pub declared_type_stands : (B X : LfType) → X ≡ B → e.body ≡ declare_constant B → TypeStands s D X
    declared_type_stands B X x b = subst (TypeStands s D) (sym x) (record { signature = Σ; typed_signature = ok; numbered = w.state.numbered; local = w.local; of_type = constant_type Σ ok s D B (ok.types_ok c B (type_declared es c e B q b)) })

    pub defined_type_stands : (N : Term) (B X : LfType) (b : Bool) → X ≡ B → e.body ≡ declare_definition N B b → TypeStands s D X
    defined_type_stands N B X b x d = subst (TypeStands s D) (sym x) (record { signature = Σ; typed_signature = ok; numbered = w.state.numbered; local = w.local; of_type = constant_type Σ ok s D B (subst (BodyIsTyped Σ) d (entry_typed es o c e q)).0 })

    pub defined_gives : (N P : Term) (B X A : LfType) (b : Bool) (k : ℕ) (s' : State) (S : Spine) → P ≡ N → X ≡ B → e.body ≡ declare_definition N B b → TakesNew k D B s s' S A → GivesArguments (skeleton X) P S
    defined_gives N P B X A b k s' S p x d t = subst (λ (Y : LfType). GivesArguments (skeleton Y) P S) (sym x) (subst (λ (M : Term). GivesArguments (skeleton B) M S) (sym p) (record {
      heads = heads_of Σ s';
      context = local_skeletons D [];
      result = skeleton A;
      term_typed = closed_term_skeleton Σ ok s' D N B (subst (BodyIsTyped Σ) d (entry_typed es o c e q)).1;
      spine_typed = (takes_skeletons Σ ok t w.state w.local (constant_type Σ ok s D B (subst (BodyIsTyped Σ) d (entry_typed es o c e q)).0)).1;
    }))

module _ (es : List Entry) (ns : List ℕ) (at : Place) (D : List LfType) (s s' : State) (c : ℕ) (e : Entry) (q : entry es c ≡ Some e) where
  pub family_named : (K X L : Kind) (S : Spine) → X ≡ K → e.body ≡ declare_family K → KindTakesNew e.implicit D X s s' S L → ElaboratesFamily es ns D (family c at) s s' c S L
  family_named K X L S x b t = at_family_name q b (subst (λ Y. KindTakesNew e.implicit D Y s s' S L) x t)

  pub constant_inferred : (B X A : LfType) (S : Spine) (R : Term) → X ≡ B → e.body ≡ declare_constant B → TakesNew e.implicit D X s s' S A → R ≡ eta_expand (skeleton A) (constant c) S → Infers es ns D (declared c at) s s' R A
  constant_inferred B X A S R x b t r = subst (λ M. Infers es ns D (declared c at) s s' M A) (sym r) (at_constant q b (subst (λ Y. TakesNew e.implicit D Y s s' S A) x t))

  pub defined_inferred : (N P : Term) (B X Z A : LfType) (d : Bool) (S : Spine) (R : Term) → P ≡ N → X ≡ B → Z ≡ B → e.body ≡ declare_definition N B d → TakesNew e.implicit D X s s' S A → R ≡ reduce (skeleton Z) P S → Infers es ns D (declared c at) s s' R A
  defined_inferred N P B X Z A d S R p x z b t r =
      let u : R ≡ reduce (skeleton B) N S = subst (λ Y. R ≡ reduce (skeleton Y) N S) z (subst (λ M. R ≡ reduce (skeleton Z) M S) p r) in
      subst (λ M. Infers es ns D (declared c at) s s' M A) (sym u) (at_definition q b (subst (λ Y. TakesNew e.implicit D Y s s' S A) x t))

  pub defined_deep : (N P : Term) (B X Z A : LfType) (d : Bool) (S : Spine) → P ≡ N → X ≡ B → Z ≡ B → e.body ≡ declare_definition N B d → TakesNew e.implicit D X s s' S A → TakesDeep depth_limit (skeleton Z) P S → InfersDeep es ns D (declared c at) s
  defined_deep N P B X Z A d S p x z b t h = deep_definition q b (subst (λ Y. TakesNew e.implicit D Y s s' S A) x t) (subst (λ Y. TakesDeep depth_limit (skeleton Y) N S) z (subst (λ M. TakesDeep depth_limit (skeleton Z) M S) p h))
