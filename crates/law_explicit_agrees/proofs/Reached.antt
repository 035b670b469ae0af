-- Where the elaboration of an explicit declaration is deep, its entry or the typing of its entry is.
use Rattle.std.proofs.Common.{◌≡◌, ℕ, List, [], ◌∷◌, Bool, true, false, None, Some, inr, refl, sym, ap, ◌∙◌, subst}
use Rattle.lf.specs.DeepTyping.{KindReachesDeep, TypeReachesDeep, TypingReachesDeep}
use Rattle.lf.specs.Depth.{depth_limit}
use Rattle.lf.specs.Entries.{Body, Entry, IsCanonicalSignature, declare_constant, declare_definition, declare_family, signature_of}
use Rattle.lf.specs.Syntax.{Head, Kind, LfType, Skeleton, Spine, Term as LfTerm, atom, kind_pi, lambda as lf_lambda, pi as lf_pi, rename_type, root, star as lf_star}
use Rattle.lf.specs.Typing.{Signature}
use Rattle.lf_elaboration.specs.Principal.{WrittenBody, written_constant, written_family}
use Rattle.lf_elaboration.specs.State.{State}
use Rattle.lf_elaboration.specs.Written as forms
use Rattle.lf_elaboration.specs.Written.{Place as WrittenPlace, Written, WrittenDomain, WrittenKind, WrittenType}
use Rattle.tw_approx.proofs.Sequences.{and_then_parts, given, parts_of}
use Rattle.tw_elaborate.specs.Bodies.{BodyDeep, FromNothingDeep, deep_behind_frees, deep_constant_body, deep_family_body, deep_frees}
use Rattle.tw_elaborate.specs.Deep.{ChecksDeep, DomainDeep, FamilyDeep, InfersDeep, KindDeep, TypeDeep}
use Rattle.tw_elaborate.specs.Plain.{BodyIsPlain, DomainIsPlain, KindIsPlain, TermIsPlain, TypeIsPlain}
use Rattle.tw_fixity.specs.Names.{Names, variable_of}
use Rattle.tw_lexer.specs.declared.place.Place.{Place}
use Rattle.tw_names.specs.Scope.{binder_name, named}
use Rattle.tw_names.specs.Texts.{ends_in_type}
use Rattle.tw_parse.specs.Syntax.{Domain, Term, application, arrow, declare, identifier, lambda, pi, star, typed, untyped}
use Rattle.tw_recon.specs.Causes.{BodyReachesDeep}
use Rattle.tw_resolve.specs.Resolved.{classifier_read, names_of, resolved_body}
use Rattle.tw_resolve.specs.Resolving.{resolved_domain, resolved_kind, resolved_term, resolved_type}
use Rattle.tw_written.specs.View.{place_of}
use Rattle.law_explicit_form.specs.Completion.{BodyGiven, DomainGives, FamilyGives, KindGives, SpineGives, TermGives, TypeGives}
use Rattle.law_explicit_form.specs.Explicit.{IsExplicit}
use Rattle.law_explicit_agrees.proofs.Back.{argument_parts, both_parts, one_part, whole_parts}
use Rattle.law_explicit_agrees.proofs.Bare.{DomainIsBare, TermIsBare, TypeIsBare, whole_bare}
use Rattle.law_explicit_agrees.proofs.PlainTexts.{body_plain}
use Rattle.law_explicit_agrees.proofs.Views.{View, view_by, view_empty, view_under}
use Rattle.law_explicit_agrees.proofs.Whole.{kind_ends, type_ends}
use Rattle.law_explicit_agrees.proofs.DeepNames.{family_name_is, family_name_shallow, inside, name_is, name_shallow, named_family, no_frees_deep, of_family_deep, star_shallow}
use Rattle.law_explicit_agrees.proofs.DeepParts.{applied_deep, arrow_deep, domain_completed, family_applied_deep, family_completed, kind_arrow_deep, kind_pi_deep, lambda_deep, pi_deep, pi_is, spine_completed, term_by}
use Rattle.law_explicit_agrees.proofs.Spines.{FamilyIsDeep, SpineIsDeep, atom_deep}

module _ (es : List Entry) (canonical : IsCanonicalSignature es) (frees : List ℕ) where
  abbrev Σ : Signature
  Σ = signature_of es

  -- What a text is resolved to is elaborated to what is deep only where the typing of what it gives reaches it.
  mutual
    term_deep : (P : Term) (N : Names) (G : List LfType) (v : View N G) (A : LfType) (R : LfTerm) → TermGives es N G P A R → TermIsBare es N P → (o : List Skeleton) (w : Written) (q : List Skeleton) → resolved_term es [] v.names P o ≡ Some (w, q) → TermIsPlain es w → (X : LfType) (s : State) → A ≡ rename_type v.place X → ChecksDeep es frees v.context w X s → TypingReachesDeep depth_limit Σ G R A
    term_deep (lambda x at D M) N G v (lf_pi A B) (lf_lambda R) (d, m) (h, k) o w q r p X s e c =
        let (dw, n, mw, i, j, same) = both_parts forms.function (resolved_domain es [] v.names (place_of at) D o) (resolved_term es [] (binder_name x ∷ v.names) M) w q r in
        let (pd, pm) = subst (TermIsPlain es) same p in
        lambda_deep es canonical frees v A B R dw mw (domain_completed es canonical frees v (place_of at) D A d h o dw n i) pd
        (λ Y Z s f g y. term_deep M (binder_name x ∷ N) (A ∷ G) (view_under (binder_name x) N G v A Y f) B R m k n mw q j pm Z s (pi_is g).1 y) X s e (subst (λ u. ChecksDeep es frees v.context u X s) same c)
    term_deep (identifier x at) N G v (atom a S) (root h R) g b o w q r p X s e c = term_by es canonical frees v h R a S w (spine_completed es canonical frees v (identifier x at) h R (atom a S) g b o w q r) p (λ s y. absurd (name_shallow es frees y (name_is es (place_of at) (named es v.names x) (variable_of [] x) o w q r) p)) X s e c
    term_deep (application M P) N G v (atom a S) (root h R) (A, B, U, L, b, g, f, z) (i, j) o w q r p X s e c =
        term_by es canonical frees v h R a S w (spine_completed es canonical frees v (application M P) h R (atom a S) (A, B, U, L, b, g, f, z) (i, j) o w q r) p (λ s y.
        let (mw, n, pw, k, l, same) = both_parts forms.applied (resolved_term es [] v.names M o) (resolved_term es [] v.names P) w q r in
        let (u, pm, pp) = subst (TermIsPlain es) same p in
        applied_deep es canonical frees v M P h U A B L R (atom a S) mw pw b f (A, B, U, L, b, g, f, z) (spine_completed es canonical frees v M h U (lf_pi A B) b i o mw n k) (spine_completed es canonical frees v (application M P) h R (atom a S) (A, B, U, L, b, g, f, z) (i, j) o (forms.applied mw pw) q (r ∙ ap (λ y. Some (y, q)) same)) (u, pm, pp)
        (λ s y. spine_deep M N G v h U (lf_pi A B) b i o mw n k pm s y) (λ Y s x y. term_deep P N G v A L g j n pw q l pp Y s x y) s (subst (λ y. InfersDeep es frees v.context y s) same y)) X s e c
    term_deep P N G v A R g b o w q r p X s e c = absurd g

    spine_deep : (P : Term) (N : Names) (G : List LfType) (v : View N G) (h : Head) (S : Spine) (C : LfType) → SpineGives es N G P h S C → TermIsBare es N P → (o : List Skeleton) (w : Written) (q : List Skeleton) → resolved_term es [] v.names P o ≡ Some (w, q) → TermIsPlain es w → (s : State) → InfersDeep es frees v.context w s → SpineIsDeep es G h S
    spine_deep (identifier x at) N G v h S C g b o w q r p s y = absurd (name_shallow es frees y (name_is es (place_of at) (named es v.names x) (variable_of [] x) o w q r) p)
    spine_deep (application M P) N G v h S C (A, B, U, L, b, g, f, z) (i, j) o w q r p s y =
        let (mw, n, pw, k, l, same) = both_parts forms.applied (resolved_term es [] v.names M o) (resolved_term es [] v.names P) w q r in
        let (u, pm, pp) = subst (TermIsPlain es) same p in
        applied_deep es canonical frees v M P h U A B L S C mw pw b f (A, B, U, L, b, g, f, z) (spine_completed es canonical frees v M h U (lf_pi A B) b i o mw n k) (spine_completed es canonical frees v (application M P) h S C (A, B, U, L, b, g, f, z) (i, j) o (forms.applied mw pw) q (r ∙ ap (λ y. Some (y, q)) same)) (u, pm, pp)
        (λ s y. spine_deep M N G v h U (lf_pi A B) b i o mw n k pm s y) (λ Y s x y. term_deep P N G v A L g j n pw q l pp Y s x y) s (subst (λ y. InfersDeep es frees v.context y s) same y)
    spine_deep P N G v h S C g b o w q r p s y = absurd g

    family_deep : (P : Term) (N : Names) (G : List LfType) (v : View N G) (a : ℕ) (S : Spine) (L : Kind) → FamilyGives es N G P a S L → TypeIsBare es N P → (o : List Skeleton) (w : WrittenType) (q : List Skeleton) → resolved_type es [] v.names P o ≡ Some (w, q) → TypeIsPlain es w → (s : State) → FamilyDeep es frees v.context w s → FamilyIsDeep es G a S
    family_deep (identifier x at) N G v a S L g b o w q r p s y = absurd (family_name_shallow es frees y (family_name_is es (place_of at) (named es v.names x) o w q r) p)
    family_deep (application M P) N G v a S L (A, K, U, R, b, g, f, z) (i, j) o w q r p s y =
        let (mw, n, pw, k, l, same) = argument_parts (resolved_type es [] v.names M o) (resolved_term es [] v.names P) w q r in
        let (pm, pp) = subst (TypeIsPlain es) same p in
        family_applied_deep es canonical frees v M P a U A K R S L mw pw b f (A, K, U, R, b, g, f, z) (family_completed es canonical frees v M a U (kind_pi A K) b i o mw n k) (family_completed es canonical frees v (application M P) a S L (A, K, U, R, b, g, f, z) (i, j) o (forms.family_applied mw pw) q (r ∙ ap (λ y. Some (y, q)) same)) (pm, pp)
        (λ s y. family_deep M N G v a U (kind_pi A K) b i o mw n k pm s y) (λ Y s x y. term_deep P N G v A R g j n pw q l pp Y s x y) s (subst (λ y. FamilyDeep es frees v.context y s) same y)
    family_deep P N G v a S L g b o w q r p s y = absurd g

    type_deep : (U : Term) (N : Names) (G : List LfType) (v : View N G) (A : LfType) → TypeGives es N G U A → TypeIsBare es N U → (o : List Skeleton) (w : WrittenType) (q : List Skeleton) → resolved_type es [] v.names U o ≡ Some (w, q) → TypeIsPlain es w → (s : State) → TypeDeep es frees v.context w s → TypeReachesDeep depth_limit Σ G A
    type_deep (arrow U V) N G v (lf_pi A B) (g, h) (i, j) o w q r p s y =
        let (u, n, z, k, l, same) = both_parts forms.arrow (resolved_type es [] v.names U o) (resolved_type es [] v.names V) w q r in
        let (pu, pz) = subst (TypeIsPlain es) same p in
        arrow_deep es canonical frees v U A B u z g (λ s y. type_deep U N G v A g i o u n k pu s y) (λ s y. type_deep V (None ∷ N) (A ∷ G) (view_by N G v A) B h j n z q l pz s y) s (subst (λ y. TypeDeep es frees v.context y s) same y)
    type_deep (pi x at D V) N G v (lf_pi A B) (g, h) (i, j) o w q r p s y =
        let (d, n, z, k, l, same) = both_parts forms.quantified (resolved_domain es [] v.names (place_of at) D o) (resolved_type es [] (binder_name x ∷ v.names) V) w q r in
        let (pd, pz) = subst (TypeIsPlain es) same p in
        pi_deep es canonical frees v D A B d z g (domain_completed es canonical frees v (place_of at) D A g i o d n k) pd (λ s y. domain_deep (place_of at) D N G v A g i o d n k pd s y)
        (λ X s e y. type_deep V (binder_name x ∷ N) (A ∷ G) (view_under (binder_name x) N G v A X e) B h j n z q l pz s y) s (subst (λ y. TypeDeep es frees v.context y s) same y)
    type_deep (identifier x at) N G v (atom a S) g b o w q r p s y = let name = family_name_is es (place_of at) (named es v.names x) o w q r in absurd (family_name_shallow es frees (of_family_deep es frees y (named_family es frees w name)) name p)
    type_deep (application M P) N G v (atom a S) (A, K, U, R, b, g, f, z) (i, j) o w q r p s y =
        let (mw, n, pw, k, l, same) = argument_parts (resolved_type es [] v.names M o) (resolved_term es [] v.names P) w q r in
        let (pm, pp) = subst (TypeIsPlain es) same p in
        atom_deep es G a S (family_applied_deep es canonical frees v M P a U A K R S lf_star mw pw b f (A, K, U, R, b, g, f, z) (family_completed es canonical frees v M a U (kind_pi A K) b i o mw n k) (family_completed es canonical frees v (application M P) a S lf_star (A, K, U, R, b, g, f, z) (i, j) o (forms.family_applied mw pw) q (r ∙ ap (λ y. Some (y, q)) same)) (pm, pp)
        (λ s y. family_deep M N G v a U (kind_pi A K) b i o mw n k pm s y) (λ Y s x y. term_deep P N G v A R g j n pw q l pp Y s x y) s (of_family_deep es frees (subst (λ y. TypeDeep es frees v.context y s) same y) tt))
    type_deep U N G v A g b o w q r p s y = absurd g

    domain_deep : (at : WrittenPlace) (D : Domain) (N : Names) (G : List LfType) (v : View N G) (A : LfType) → DomainGives es N G D A → DomainIsBare es N D → (o : List Skeleton) (d : WrittenDomain) (q : List Skeleton) → resolved_domain es [] v.names at D o ≡ Some (d, q) → DomainIsPlain es d → (s : State) → DomainDeep es frees v.context d s → TypeReachesDeep depth_limit Σ G A
    domain_deep at untyped N G v A g b o d q r p s y = absurd g
    domain_deep at (typed U) N G v A g b o d q r p s y =
        let (u, n, i, k) = and_then_parts (resolved_type es [] v.names U o) (λ V p. given (forms.of_type V) p) d q r in
        let same : d ≡ forms.of_type u = sym (parts_of (forms.of_type u) d n q k).0 in
        type_deep U N G v A g b o u n i (subst (DomainIsPlain es) same p) s (inside es frees (subst (λ z. DomainDeep es frees v.context z s) same y))

  kind_deep : (U : Term) (N : Names) (G : List LfType) (v : View N G) (K : Kind) → KindGives es N G U K → TypeIsBare es N U → (o : List Skeleton) (w : WrittenKind) (q : List Skeleton) → resolved_kind es [] v.names U o ≡ Some (w, q) → KindIsPlain es w → (s : State) → KindDeep es frees v.context w s → KindReachesDeep depth_limit Σ G K
  kind_deep star N G v lf_star g b o w q r p s y = absurd (star_shallow es frees y (sym (parts_of forms.written_star w o q r).0))
  kind_deep (arrow U V) N G v (kind_pi A K) (g, h) (i, j) o w q r p s y =
      let (u, n, z, k, l, same) = both_parts forms.kind_arrow (resolved_type es [] v.names U o) (resolved_kind es [] v.names V) w q r in
      let (pu, pz) = subst (KindIsPlain es) same p in
      kind_arrow_deep es canonical frees v U A K u z g (λ s y. type_deep U N G v A g i o u n k pu s y) (λ s y. kind_deep V (None ∷ N) (A ∷ G) (view_by N G v A) K h j n z q l pz s y) s (subst (λ y. KindDeep es frees v.context y s) same y)
  kind_deep (pi x at D V) N G v (kind_pi A K) (g, h) (i, j) o w q r p s y =
      let (d, n, z, k, l, same) = both_parts forms.kind_quantified (resolved_domain es [] v.names (place_of at) D o) (resolved_kind es [] (binder_name x ∷ v.names) V) w q r in
      let (pd, pz) = subst (KindIsPlain es) same p in
      kind_pi_deep es canonical frees v D A K d z g (domain_completed es canonical frees v (place_of at) D A g i o d n k) pd (λ s y. domain_deep (place_of at) D N G v A g i o d n k pd s y)
      (λ X s e y. kind_deep V (binder_name x ∷ N) (A ∷ G) (view_under (binder_name x) N G v A X e) K h j n z q l pz s y) s (subst (λ y. KindDeep es frees v.context y s) same y)
  kind_deep U N G v K g b o w q r p s y = absurd g

  -- what a family or a constant is declared with
  family_body : (U : Term) (K : Kind) → KindGives es [] [] U K → TypeIsBare es [] U → (k : WrittenKind) → resolved_kind es [] [] U [] ≡ Some (k, []) → KindIsPlain es k → (s : State) → BodyDeep es frees (written_family k) s → KindReachesDeep depth_limit Σ [] K
  family_body U K g b k r p s (deep_family_body h) = kind_deep U [] [] view_empty K g b [] k [] r p s h

  constant_body : (U : Term) (A : LfType) → TypeGives es [] [] U A → TypeIsBare es [] U → (V : WrittenType) → resolved_type es [] [] U [] ≡ Some (V, []) → TypeIsPlain es V → (s : State) → BodyDeep es frees (written_constant V) s → TypeReachesDeep depth_limit Σ [] A
  constant_body U A g b V r p s (deep_constant_body h) = type_deep U [] [] view_empty A g b [] V [] r p s h

-- THE lemma: where the elaboration of an explicit declaration is deep, its entry or its typing is.
pub elaboration_deep : (es : List Entry) → IsCanonicalSignature es → (c : List ℕ) (at : Place) (U : Term) (b : Body) (w : WrittenBody) → IsExplicit es (declare c at U) → BodyGiven es U b → resolved_body es [] [] (declare c at U) ≡ Some w → FromNothingDeep es [] w → BodyReachesDeep (signature_of es) b
elaboration_deep es canonical c at U b w x g r (deep_frees t) = absurd (no_frees_deep t refl)
elaboration_deep es canonical c at U b w x g r (deep_behind_frees {frees = frees} {s = s} f d) = by b g
  where
    plain : BodyIsPlain es w
    plain = body_plain es (names_of []) U [] w x.1 r

    bare : TypeIsBare es [] U
    bare = whole_bare es U x.1

    read : (t : Bool) → ends_in_type U ≡ t → classifier_read es [] [] t U [] ≡ Some (w, [])
    read t e = subst (λ t. classifier_read es [] [] t U [] ≡ Some (w, [])) e (whole_parts (classifier_read es [] [] (ends_in_type U) U []) w r)

    by : (b : Body) → BodyGiven es U b → BodyReachesDeep (signature_of es) b
    by (declare_family K) g =
        let (k, i, j) = one_part written_family (resolved_kind es [] [] U []) w [] (read true (kind_ends es U [] [] K g)) in
        inr (family_body es canonical frees U K g bare k i (subst (BodyIsPlain es) j plain) s (subst (λ z. BodyDeep es frees z s) j d))
    by (declare_constant A) g =
        let (V, i, j) = one_part written_constant (resolved_type es [] [] U []) w [] (read false (type_ends es U [] [] A g)) in
        inr (constant_body es canonical frees U A g bare V i (subst (BodyIsPlain es) j plain) s (subst (λ z. BodyDeep es frees z s) j d))
    by (declare_definition M A f) g = absurd g
