-- Where an annotation of an explicit text is deep, so is what the typing of what the text gives reaches.
use Rattle.std.proofs.Common.{◌≡◌, ℕ, ◌<◌, ◌≤◌, max, List, ◌∷◌, None, ◌⊎◌, inl, inr, arith}
use Rattle.std.proofs.Math.Nat.{le-max_left}
use Rattle.lf.specs.DeepTyping.{KindReachesDeep, TypeReachesDeep, TypingReachesDeep}
use Rattle.lf.specs.Depth.{depth_limit, type_depth}
use Rattle.lf.specs.Entries.{Entry, signature_of}
use Rattle.lf.specs.Syntax.{Head, Kind, LfType, Spine, Term as LfTerm, app, atom, kind_pi, lambda as lf_lambda, pi as lf_pi, root, star as lf_star}
use Rattle.lf.specs.Typing.{Signature}
use Rattle.lf.proofs.Depth.{below_max}
use Rattle.law_explicit_form.specs.Completion.{DomainGives, FamilyGives, KindGives, SpineGives, TermGives, TypeGives, then}
use Rattle.law_explicit_form.proofs.Gives.{domain_typed, type_typed}
use Rattle.tw_approx.specs.Nesting.{annotation_depth, domain_annotation_depth, domain_depth}
use Rattle.tw_fixity.specs.Names.{Names}
use Rattle.tw_names.specs.Scope.{binder_name}
use Rattle.tw_parse.specs.Syntax.{Domain, Term, application, arrow, identifier, lambda, pi, star, typed, untyped}
use Rattle.law_explicit_agrees.proofs.Given.{domain_depth_given}
use Rattle.law_explicit_agrees.proofs.Spines.{FamilyIsDeep, SpineIsDeep, argument_more, atom_deep, family_reaches, kind_argument_more, root_deep, spine_reaches}

-- a pi is deeper than its domain
domain_deep : (A B : LfType) (m : ℕ) → m ≤ type_depth A → depth_limit < m → depth_limit < type_depth (lf_pi A B)
domain_deep A B m p l = let r = le-max_left (type_depth A) (type_depth B) in omega (arith, p, l, r)

-- what follows from either of two follows from the deeper one
by_deeper : {X : Type 0} (m n : ℕ) → depth_limit < max m n → (depth_limit < m → X) → (depth_limit < n → X) → X
by_deeper {X = X} m n l first second = by (below_max depth_limit m n l)
  where
    by : (depth_limit < m) ⊎ (depth_limit < n) → X
    by (inl h) = first h
    by (inr h) = second h

module _ (es : List Entry) where
  abbrev Σ : Signature
  Σ = signature_of es

  -- A row reaches what its last argument reaches, and what the arguments before that do.
  spine_applied : (M : Term) (N : Names) (G : List LfType) (h : Head) (S U : Spine) (A B : LfType) (L : LfTerm) → SpineGives es N G M h U (lf_pi A B) → S ≡ then U L → TypingReachesDeep depth_limit Σ G L A → SpineIsDeep es G h S
  spine_applied M N G h S U A B L b e d = let (X, t, k) = spine_reaches es M N G h U (lf_pi A B) b in (X, t, λ V. argument_more es G S U L X e V (k (app L V) (inr (inl d))))

  spine_longer : (G : List LfType) (h : Head) (S U : Spine) (L : LfTerm) → S ≡ then U L → SpineIsDeep es G h U → SpineIsDeep es G h S
  spine_longer G h S U L e (X, t, k) = (X, t, λ V. argument_more es G S U L X e V (k (app L V)))

  family_applied : (M : Term) (N : Names) (G : List LfType) (a : ℕ) (S U : Spine) (A : LfType) (K : Kind) (R : LfTerm) → FamilyGives es N G M a U (kind_pi A K) → S ≡ then U R → TypingReachesDeep depth_limit Σ G R A → FamilyIsDeep es G a S
  family_applied M N G a S U A K R b e d = let (X, t, k) = family_reaches es M N G a U (kind_pi A K) b in (X, t, λ V. kind_argument_more es G S U R X e V (k (app R V) (inr (inl d))))

  family_longer : (G : List LfType) (a : ℕ) (S U : Spine) (R : LfTerm) → S ≡ then U R → FamilyIsDeep es G a U → FamilyIsDeep es G a S
  family_longer G a S U R e (X, t, k) = (X, t, λ V. kind_argument_more es G S U R X e V (k (app R V)))

  mutual
    term_annotated : (M : Term) (N : Names) (G : List LfType) (A : LfType) (R : LfTerm) → TermGives es N G M A R → depth_limit < annotation_depth es M → TypingReachesDeep depth_limit Σ G R A
    term_annotated (lambda x at D M) N G (lf_pi A B) (lf_lambda R) (d, m) l =
        by_deeper (domain_depth es D) (annotation_depth es M) l
        (λ h. inr (inl (domain_deep A B (domain_depth es D) (domain_depth_given es D N G A d) h)))
        (λ h. inr (inr (term_annotated M (binder_name x ∷ N) (A ∷ G) B R m h)))
    term_annotated (identifier x at) N G (atom a S) (root h R) g l = absurd (omega (arith, l))
    term_annotated (application M P) N G (atom a S) (root h R) (A, B, U, L, b, g, e, c) l =
        root_deep es G h R a S
        (by_deeper (annotation_depth es M) (annotation_depth es P) l
        (λ i. spine_longer G h R U L e (spine_annotated M N G h U (lf_pi A B) b i))
        (λ i. spine_applied M N G h R U A B L b e (term_annotated P N G A L g i)))
    term_annotated M N G A R g l = absurd g

    spine_annotated : (M : Term) (N : Names) (G : List LfType) (h : Head) (S : Spine) (C : LfType) → SpineGives es N G M h S C → depth_limit < annotation_depth es M → SpineIsDeep es G h S
    spine_annotated (identifier x at) N G h S C g l = absurd (omega (arith, l))
    spine_annotated (application M P) N G h S C (A, B, U, L, b, g, e, c) l =
        by_deeper (annotation_depth es M) (annotation_depth es P) l
        (λ i. spine_longer G h S U L e (spine_annotated M N G h U (lf_pi A B) b i))
        (λ i. spine_applied M N G h S U A B L b e (term_annotated P N G A L g i))
    spine_annotated M N G h S C g l = absurd g

  family_annotated : (M : Term) (N : Names) (G : List LfType) (a : ℕ) (S : Spine) (L : Kind) → FamilyGives es N G M a S L → depth_limit < annotation_depth es M → FamilyIsDeep es G a S
  family_annotated (identifier x at) N G a S L g l = absurd (omega (arith, l))
  family_annotated (application M P) N G a S L (A, K, U, R, b, g, e, c) l =
      by_deeper (annotation_depth es M) (annotation_depth es P) l
      (λ i. family_longer G a S U R e (family_annotated M N G a U (kind_pi A K) b i))
      (λ i. family_applied M N G a S U A K R b e (term_annotated P N G A R g i))
  family_annotated M N G a S L g l = absurd g

  mutual
    pub type_annotated : (U : Term) (N : Names) (G : List LfType) (A : LfType) → TypeGives es N G U A → depth_limit < annotation_depth es U → TypeReachesDeep depth_limit Σ G A
    type_annotated (arrow U V) N G (lf_pi A B) (u, v) l =
        by_deeper (annotation_depth es U) (annotation_depth es V) l
        (λ h. inr (inl (type_annotated U N G A u h)))
        (λ h. inr (inr (type_typed es U N G A u, type_annotated V (None ∷ N) (A ∷ G) B v h)))
    type_annotated (pi x at D V) N G (lf_pi A B) (d, v) l =
        by_deeper (domain_annotation_depth es D) (annotation_depth es V) l
        (λ h. inr (inl (domain_annotated D N G A d h)))
        (λ h. inr (inr (domain_typed es D N G A d, type_annotated V (binder_name x ∷ N) (A ∷ G) B v h)))
    type_annotated (identifier x at) N G (atom a S) g l = absurd (omega (arith, l))
    type_annotated (application M P) N G (atom a S) g l = atom_deep es G a S (family_annotated (application M P) N G a S lf_star g l)
    type_annotated U N G A g l = absurd g

    domain_annotated : (D : Domain) (N : Names) (G : List LfType) (A : LfType) → DomainGives es N G D A → depth_limit < domain_annotation_depth es D → TypeReachesDeep depth_limit Σ G A
    domain_annotated untyped N G A g l = absurd g
    domain_annotated (typed U) N G A g l = type_annotated U N G A g l

  pub kind_annotated : (U : Term) (N : Names) (G : List LfType) (K : Kind) → KindGives es N G U K → depth_limit < annotation_depth es U → KindReachesDeep depth_limit Σ G K
  kind_annotated star N G lf_star g l = absurd (omega (arith, l))
  kind_annotated (arrow U V) N G (kind_pi A K) (u, v) l =
      by_deeper (annotation_depth es U) (annotation_depth es V) l
      (λ h. inr (inl (type_annotated U N G A u h)))
      (λ h. inr (inr (type_typed es U N G A u, kind_annotated V (None ∷ N) (A ∷ G) K v h)))
  kind_annotated (pi x at D V) N G (kind_pi A K) (d, v) l =
      by_deeper (domain_annotation_depth es D) (annotation_depth es V) l
      (λ h. inr (inl (domain_annotated D N G A d h)))
      (λ h. inr (inr (domain_typed es D N G A d, kind_annotated V (binder_name x ∷ N) (A ∷ G) K v h)))
  kind_annotated U N G K g l = absurd g
