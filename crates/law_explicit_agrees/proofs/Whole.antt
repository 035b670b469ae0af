-- What an explicit declaration is completed to is its principal completion.
use Rattle.std.proofs.Common.{◌≡◌, ℕ, List, [], ◌∷◌, true, false, None, Some, refl, sym, ap, ◌∙◌, subst}
use Rattle.lf.specs.Entries.{Body, Entry, BodyIsTyped, IsCanonicalSignature, declare_constant, declare_definition, declare_family, signature_of}
use Rattle.lf.specs.Substitution.{keep, reduce}
use Rattle.lf.specs.Syntax.{Kind, LfType, Skeleton, atom, kind_pi, pi as lf_pi, star as lf_star, skeleton}
use Rattle.lf.specs.Typing.{IsKind, IsType}
use Rattle.lf.proofs.TypeLaws.{substitute_identity_kind, substitute_identity_type}
use Rattle.lf_unification.proofs.Eta.{rename_id_type}
use Rattle.lf_elaboration.specs.Completions.{CompletesKind, CompletesType, FreeValue, FreesAreTyped}
use Rattle.lf_elaboration.specs.Principal.{Completion, CompletesBody, IsCompletion, IsInstanceOf, IsPrincipal, WrittenBody, written_constant, written_family}
use Rattle.lf_elaboration.specs.Written.{WrittenKind, WrittenType}
use Rattle.tw_approx.specs.Answer.{HasSkeletons, frees_of}
use Rattle.tw_approx.specs.Skeletons.{FitsClassifier, Frees, due}
use Rattle.tw_approx.proofs.Sequences.{parts_of}
use Rattle.law_explicit_form.specs.Explicit.{IsExplicit}
use Rattle.tw_names.specs.Texts.{ends_in_type}
use Rattle.law_explicit_form.specs.Completion.{BodyGiven, Completes, KindGives, TypeGives}
use Rattle.tw_names.specs.Scope.{binder_name}
use Rattle.law_explicit_form.proofs.Gives.{kind_typed, type_typed}
use Rattle.tw_lexer.specs.declared.place.Place.{Place}
use Rattle.tw_parse.specs.Syntax.{Term, application, arrow, declare, define, give, identifier, pi, prefer, star}
use Rattle.tw_resolve.specs.Resolved.{classifier_read, taken_whole, with_one}
use Rattle.tw_fixity.specs.Names.{Names}
use Rattle.law_explicit_agrees.specs.Agreement.{ExplicitIsPrincipal, IsPrincipallyCompleted}
use Rattle.law_explicit_agrees.proofs.Bare.{TypeIsBare, type_closed, type_without, whole_bare}
use Rattle.law_explicit_agrees.proofs.Completing.{kind_done, type_done}
use Rattle.law_explicit_agrees.proofs.Fitting.{kind_fits, type_fits}
use Rattle.law_explicit_agrees.proofs.Parts.{KindDone, TypeDone}
use Rattle.law_explicit_agrees.proofs.Views.{rename_id_kind, view_empty}

module _ (es : List Entry) where
  -- a kind ends in `type`, and a type doesn't
  pub kind_ends : (U : Term) (N : Names) (G : List LfType) (K : Kind) → KindGives es N G U K → ends_in_type U ≡ true
  kind_ends star N G lf_star g = refl
  kind_ends (arrow U V) N G (kind_pi A K) (u, v) = kind_ends V (None ∷ N) (A ∷ G) K v
  kind_ends (pi x at D V) N G (kind_pi A K) (d, v) = kind_ends V (binder_name x ∷ N) (A ∷ G) K v
  kind_ends U N G K g = absurd g

  pub type_ends : (U : Term) (N : Names) (G : List LfType) (A : LfType) → TypeGives es N G U A → ends_in_type U ≡ false
  type_ends (arrow U V) N G (lf_pi A B) (u, v) = type_ends V (None ∷ N) (A ∷ G) B v
  type_ends (pi x at D V) N G (lf_pi A B) (d, v) = type_ends V (binder_name x ∷ N) (A ∷ G) B v
  type_ends (identifier x at) N G (atom a S) g = refl
  type_ends (application M P) N G (atom a S) g = refl
  type_ends U N G A g = absurd g

  -- whatever the free variables have, it fits, with nothing left out
  abbrev pub Fitting : Term → Type 0
  Fitting U = (f : Frees) → FitsClassifier es f U [] (ends_in_type U) × ((p : List Skeleton) → FitsClassifier es f U p (ends_in_type U) → p ≡ [])

  kind_fitting : (U : Term) (K : Kind) → KindGives es [] [] U K → TypeIsBare es [] U → Fitting U
  kind_fitting U K g b f =
      let e : ends_in_type U ≡ true = kind_ends U [] [] K g in
      let reads = kind_fits es f U [] [] K g b in (
        subst (FitsClassifier es f U []) (sym e) (due K, reads []),
        λ p h. let (ds, k) = subst (FitsClassifier es f U p) e h in (parts_of (due K) ds p [] (sym (reads p) ∙ k)).1,
      )

  type_fitting : (U : Term) (A : LfType) → TypeGives es [] [] U A → TypeIsBare es [] U → Fitting U
  type_fitting U A g b f =
      let e : ends_in_type U ≡ false = type_ends U [] [] A g in
      let reads = type_fits es f U [] [] A g b in (
        subst (FitsClassifier es f U []) (sym e) (skeleton A, reads []),
        λ p h. let (s, k) = subst (FitsClassifier es f U p) e h in (parts_of (skeleton A) s p [] (sym (reads p) ∙ k)).1,
      )

  module _ (c : List ℕ) (at : Place) (U : Term) (b : TypeIsBare es [] U) where
    pub skeletons_found : Fitting U → HasSkeletons es (declare c at U) [] []
    skeletons_found f = record {
      row_is_free = λ x h. absurd h;
      free_has_row = λ x h. type_closed es x U [] b h;
      distinct = tt;
      fits = (f (frees_of [])).0;
      only = λ g p h. record { frees = λ x i. absurd (type_closed es x U [] b i); omitted = (f g).1 p h };
    }

  -- a completion without free variables and quantifiers
  abbrev pub closed : Body → Completion
  closed b = record { quantifiers = []; frees = []; body = b }

  pub no_values : (F : List LfType) (vs : List FreeValue) → FreesAreTyped es F [] vs → vs ≡ []
  no_values F [] h = refl
  no_values F (v ∷ vs) h = absurd h

  family_instance : (K : Kind) (k : WrittenKind) → ((F : List LfType) (vs : List FreeValue) (L : Kind) → CompletesKind es F vs [] k L → L ≡ K) → (c : Completion) → IsCompletion es [] (written_family k) c → IsInstanceOf (signature_of es) (closed (declare_family K)) c
  family_instance K k only c h = record {
    terms = keep;
    typed = λ j A t. absurd t;
    frees = sym (no_values c.quantifiers c.frees h.frees_typed);
    body = ap declare_family (substitute_identity_kind reduce K) ∙ by c.body h.completed;
  }
    where
      by : (b : Body) → CompletesBody es c.quantifiers c.frees (written_family k) b → declare_family K ≡ b
      by (declare_family L) g = ap declare_family (sym (only c.quantifiers c.frees L g))
      by (declare_constant A) g = absurd g
      by (declare_definition M A d) g = absurd g

  constant_instance : (A : LfType) (V : WrittenType) → ((F : List LfType) (vs : List FreeValue) (B : LfType) → CompletesType es F vs [] V B → B ≡ A) → (c : Completion) → IsCompletion es [] (written_constant V) c → IsInstanceOf (signature_of es) (closed (declare_constant A)) c
  constant_instance A V only c h = record {
    terms = keep;
    typed = λ j B t. absurd t;
    frees = sym (no_values c.quantifiers c.frees h.frees_typed);
    body = ap declare_constant (substitute_identity_type reduce A) ∙ by c.body h.completed;
  }
    where
      by : (b : Body) → CompletesBody es c.quantifiers c.frees (written_constant V) b → declare_constant A ≡ b
      by (declare_constant B) g = ap declare_constant (sym (only c.quantifiers c.frees B g))
      by (declare_family K) g = absurd g
      by (declare_definition M B d) g = absurd g

  -- a declaration that is a family, or a constant
  abbrev Principally : Term → Body → Type 0
  Principally U b = (w : WrittenBody) × (taken_whole (classifier_read es [] [] (ends_in_type U) U []) ≡ Some w) × IsPrincipal es [] w (closed b)

  module _ (canonical : IsCanonicalSignature es) where
    family_principal : (U : Term) (K : Kind) → KindGives es [] [] U K → TypeIsBare es [] U → IsKind (signature_of es) [] K → Principally U (declare_family K)
    family_principal U K g b i = by (kind_done es canonical U [] [] view_empty K g b)
      where
        by : KindDone es view_empty U K → Principally U (declare_family K)
        by (L, e, k) =
            let same : K ≡ L = e ∙ rename_id_kind L in (
              written_family k.written,
              ap (λ t. taken_whole (classifier_read es [] [] t U [])) (kind_ends U [] [] K g) ∙ ap (λ r. taken_whole (with_one written_family r)) (k.resolved []),
              record {
                completion = record { context = tt; frees_typed = tt; completed = subst (CompletesKind es [] [] [] k.written) (sym same) k.completes };
                typed = i;
                most_general = λ c h. family_instance K k.written (λ F vs M d. k.only F vs M d ∙ sym same) c h;
              },
            )

    constant_principal : (U : Term) (A : LfType) → TypeGives es [] [] U A → TypeIsBare es [] U → IsType (signature_of es) [] A → Principally U (declare_constant A)
    constant_principal U A g b i = by (type_done es canonical U [] [] view_empty A g b)
      where
        by : TypeDone es view_empty U A → Principally U (declare_constant A)
        by (B, e, k) =
            let same : A ≡ B = e ∙ rename_id_type B in (
              written_constant k.written,
              ap (λ t. taken_whole (classifier_read es [] [] t U [])) (type_ends U [] [] A g) ∙ ap (λ r. taken_whole (with_one written_constant r)) (k.resolved []),
              record {
                completion = record { context = tt; frees_typed = tt; completed = subst (CompletesType es [] [] [] k.written) (sym same) k.completes };
                typed = i;
                most_general = λ c h. constant_instance A k.written (λ F vs M d. k.only F vs M d ∙ sym same) c h;
              },
            )

    body_principal : (U : Term) (b : Body) → BodyGiven es U b → TypeIsBare es [] U → BodyIsTyped (signature_of es) b → Principally U b × Fitting U
    body_principal U (declare_family K) g b i = (family_principal U K g b i, kind_fitting U K g b)
    body_principal U (declare_constant A) g b i = (constant_principal U A g b i, type_fitting U A g b)
    body_principal U (declare_definition M A d) g b i = absurd g

given_typed : (es : List Entry) (U : Term) (b : Body) → BodyGiven es U b → BodyIsTyped (signature_of es) b
given_typed es U (declare_family K) g = kind_typed es U [] [] K g
given_typed es U (declare_constant A) g = type_typed es U [] [] A g
given_typed es U (declare_definition M A d) g = absurd g

-- what is given is typed
pub completed_principal : (es : List Entry) → IsCanonicalSignature es → (c : List ℕ) (at : Place) (U : Term) (e : Entry) → IsExplicit es (declare c at U) → Completes es (declare c at U) e → IsPrincipallyCompleted es (declare c at U) e
completed_principal es canonical c at U e (known, form) g =
    let b = whole_bare es U form in
    let ((w, r, p), f) = body_principal es canonical U e.body g.body b (given_typed es U e.body g.body) in
    record {
      objects = record { known = known; no_definition = refl; no_lambda = type_without es U [] b };
      skeletons = skeletons_found es c at U b f;
      written = w;
      resolved = r;
      principal = p;
    }

pub explicit_principal : ExplicitIsPrincipal
explicit_principal es canonical (declare c at U) e x g stands = completed_principal es canonical c at U e x g
explicit_principal es canonical (define c A M b) e x g stands = absurd g
explicit_principal es canonical (prefer a x y) e h g stands = absurd g
explicit_principal es canonical (give fix names) e h g stands = absurd g
