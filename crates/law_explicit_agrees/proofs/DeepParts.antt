-- The forms of what is written in full: where the elaboration of one is deep, a part of it is, or the typing of what it gives.
use Rattle.std.proofs.Common.{◌≡◌, ℕ, ◌<◌, List, [], ◌∷◌, Some, inl, inr, sym, ap, ◌∙◌, subst}
use Rattle.lf.specs.DeepTyping.{KindReachesDeep, TypeReachesDeep, TypingReachesDeep}
use Rattle.lf.specs.Depth.{depth_limit, kind_depth, type_depth}
use Rattle.lf.specs.Entries.{Entry, IsCanonicalSignature, signature_of}
use Rattle.lf.specs.Eta.{eta_expand}
use Rattle.lf.specs.Syntax.{Head, Kind, LfType, Skeleton, Spine, Term as LfTerm, app, atom, kind_pi, lambda as lf_lambda, pi as lf_pi, rename_kind, rename_type, root, skeleton}
use Rattle.lf.specs.Typing.{Signature}
use Rattle.lf.proofs.Depth.{renaming_keeps_kind_depth, renaming_keeps_type_depth}
use Rattle.lf_elaboration.specs.Completions.{Completes, CompletesDomain, CompletesFamily}
use Rattle.lf_elaboration.specs.State.{State}
use Rattle.lf_elaboration.specs.Written as forms
use Rattle.lf_elaboration.specs.Written.{Place as WrittenPlace, Written, WrittenDomain, WrittenKind, WrittenType}
use Rattle.tw_approx.specs.Readings.{Reading}
use Rattle.tw_approx.proofs.Sequences.{parts_of}
use Rattle.tw_elaborate.specs.Deep.{ChecksDeep, DomainDeep, FamilyDeep, InfersDeep, KindDeep, TypeDeep, deep_application, deep_applied_family, deep_argument, deep_arrow_domain, deep_arrow_range, deep_checked_domain, deep_compared, deep_compared_domain, deep_family, deep_function, deep_index, deep_inferred, deep_kind_domain, deep_kind_range, deep_left_kind, deep_left_type, deep_quantified_domain, deep_quantified_kind_domain, deep_quantified_kind_range, deep_quantified_range, deep_under_domain}
use Rattle.tw_elaborate.specs.Plain.{DomainIsPlain, TermIsPlain, TypeIsPlain}
use Rattle.tw_fixity.specs.Names.{Names}
use Rattle.tw_parse.specs.Syntax.{Domain, Term, application}
use Rattle.tw_resolve.specs.Resolving.{resolved_domain, resolved_term, resolved_type}
use Rattle.law_explicit_form.specs.Completion.{DomainGives, FamilyGives, SpineGives, TypeGives, then}
use Rattle.law_explicit_form.proofs.Gives.{domain_typed, type_typed}
use Rattle.law_explicit_agrees.proofs.Bare.{DomainIsBare, TermIsBare, TypeIsBare}
use Rattle.law_explicit_agrees.proofs.Completing.{domain_done, family_done, spine_done}
use Rattle.law_explicit_agrees.proofs.Elaborated.{domain_is, family_is, infers_is}
use Rattle.law_explicit_agrees.proofs.Views.{View, same_placed}
use Rattle.law_explicit_agrees.proofs.DeepNames.{family_form}
use Rattle.law_explicit_agrees.proofs.Spines.{FamilyIsDeep, SpineIsDeep, argument_more, deep_left, family_reaches, kind_argument_more, kind_deep_left, root_deep, spine_reaches}

pub pi_is : {A B C D : LfType} → lf_pi A B ≡ lf_pi C D → (A ≡ C) × (B ≡ D)
pi_is e = (cc, cc)

kind_is : {A C : LfType} {K L : Kind} → kind_pi A K ≡ kind_pi C L → (A ≡ C) × (K ≡ L)
kind_is e = (cc, cc)

-- what is read is read once
read_once : {X : Type 0} (r : Reading X) (a b : X) (p q : List Skeleton) → r ≡ Some (a, p) → r ≡ Some (b, q) → a ≡ b
read_once r a b p q d e = (parts_of a b p q (sym d ∙ e)).0

module _ (es : List Entry) (canonical : IsCanonicalSignature es) (frees : List ℕ) where
  abbrev Σ : Signature
  Σ = signature_of es

  module _ {N : Names} {G : List LfType} (v : View N G) where
    -- what it is resolved to is completed
    abbrev pub SpineCompleted : Written → LfType → Type 0
    SpineCompleted w C = (X : LfType) × (C ≡ rename_type v.place X) × ((T : LfTerm) × Completes es [] [] v.context w T X)

    abbrev pub FamilyCompleted : WrittenType → ℕ → Kind → Type 0
    FamilyCompleted w a L = (K : Kind) × (L ≡ rename_kind v.place K) × ((S : Spine) × CompletesFamily es [] [] v.context w a S K)

    abbrev pub DomainCompleted : WrittenDomain → LfType → Type 0
    DomainCompleted d A = (X : LfType) × (A ≡ rename_type v.place X) × CompletesDomain es [] [] v.context d X

    pub spine_completed : (P : Term) (h : Head) (S : Spine) (C : LfType) → SpineGives es N G P h S C → TermIsBare es N P → (o : List Skeleton) (w : Written) (q : List Skeleton) → resolved_term es [] v.names P o ≡ Some (w, q) → SpineCompleted w C
    spine_completed P h S C g b o w q r =
        let (X, e, t) = spine_done es canonical P N G v h S C g b in
        (X, e, (eta_expand (skeleton X) t.head t.spine, subst (λ u. Completes es [] [] v.context u (eta_expand (skeleton X) t.head t.spine) X) (read_once (resolved_term es [] v.names P o) t.written w o q (t.resolved o) r) t.completes))

    pub family_completed : (P : Term) (a : ℕ) (S : Spine) (L : Kind) → FamilyGives es N G P a S L → TypeIsBare es N P → (o : List Skeleton) (w : WrittenType) (q : List Skeleton) → resolved_type es [] v.names P o ≡ Some (w, q) → FamilyCompleted w a L
    family_completed P a S L g b o w q r =
        let (K, e, t) = family_done es canonical P N G v a S L g b in
        (K, e, (t.spine, subst (λ u. CompletesFamily es [] [] v.context u a t.spine K) (read_once (resolved_type es [] v.names P o) t.written w o q (t.resolved o) r) t.completes))

    pub domain_completed : (at : WrittenPlace) (D : Domain) (A : LfType) → DomainGives es N G D A → DomainIsBare es N D → (o : List Skeleton) (d : WrittenDomain) (q : List Skeleton) → resolved_domain es [] v.names at D o ≡ Some (d, q) → DomainCompleted d A
    domain_completed at D A g b o d q r =
        let (X, e, t) = domain_done es canonical at D N G v A g b in
        (X, e, subst (λ u. CompletesDomain es [] [] v.context u X) (read_once (resolved_domain es [] v.names at D o) t.written d o q (t.resolved o) r) t.completes)

    -- a term on an argument
    pub applied_deep : (M P : Term) (h : Head) (U : Spine) (A B : LfType) (L : LfTerm) (S : Spine) (C : LfType) (m p : Written) → SpineGives es N G M h U (lf_pi A B) → (e : S ≡ then U L) → SpineGives es N G (application M P) h S C → SpineCompleted m (lf_pi A B) → SpineCompleted (forms.applied m p) C → TermIsPlain es (forms.applied m p)
        → ((s : State) → InfersDeep es frees v.context m s → SpineIsDeep es G h U) → ((X : LfType) (s : State) → A ≡ rename_type v.place X → ChecksDeep es frees v.context p X s → TypingReachesDeep depth_limit Σ G L A) → (s : State) → InfersDeep es frees v.context (forms.applied m p) s → SpineIsDeep es G h S
    applied_deep M P h U A B L S C m p b e a c d plain left argument s (deep_function x) =
        let (X, t, k) = left _ x in
        (X, t, λ V. argument_more es G S U L X e V (k (app L V)))
    applied_deep M P h U A B L S C m p b e a (Y, f, (T, c)) d (r, i, j) left argument s (deep_argument {A = A'} {B = B'} y x) =
        let (k, l) = infers_is es frees y i c in
        let deep = argument A' _ (pi_is (f ∙ ap (rename_type v.place) (sym l))).0 x in
        let (X, t, g) = spine_reaches es M N G h U (lf_pi A B) b in
        (X, t, λ V. argument_more es G S U L X e V (g (app L V) (inr (inl deep))))
    applied_deep M P h U A B L S C m p b e a c d (r, i, j) left argument s (deep_application n x y z) = absurd (r n)
    applied_deep M P h U A B L S C m p b e a c (X, f, (T, d)) plain left argument s (deep_left_type {A = Y} x l) =
        let (k, n) = infers_is es frees x plain d in
        let same : type_depth C ≡ type_depth Y = ap type_depth f ∙ renaming_keeps_type_depth v.place X ∙ ap type_depth (sym n) in
        let (Z, t, u) = spine_reaches es (application M P) N G h S C a in
        (Z, t, λ V. u V (deep_left es G V C (subst (λ x. depth_limit < x) (sym same) l)))

    -- where it has the type that is due, nothing is compared
    pub term_by : (h : Head) (S : Spine) (a : ℕ) (T : Spine) (w : Written) → SpineCompleted w (atom a T) → TermIsPlain es w → ((s : State) → InfersDeep es frees v.context w s → SpineIsDeep es G h S) → (X : LfType) (s : State) → atom a T ≡ rename_type v.place X → ChecksDeep es frees v.context w X s → TypingReachesDeep depth_limit Σ G (root h S) (atom a T)
    term_by h S a T w c p inferred X s e (deep_inferred n x) = root_deep es G h S a T (inferred _ x)
    term_by h S a T w (Y, f, (R, c)) p inferred X s e (deep_compared n x d) = let (k, l) = infers_is es frees x p c in absurd (d.differ (l ∙ same_placed N G v Y X (sym f ∙ e)))
    term_by h S a T w c p inferred (lf_pi X Y) s e (deep_checked_domain n x) = absurd cc
    term_by h S a T w c p inferred (lf_pi X Y) s e (deep_under_domain x f y) = absurd cc
    term_by h S a T w c p inferred (lf_pi X Y) s e (deep_compared_domain x d) = absurd cc

    -- At a lambda a plain type is written, which is the domain that is expected.
    pub lambda_deep : (A B : LfType) (R : LfTerm) (d : WrittenDomain) (m : Written) → DomainCompleted d A → DomainIsPlain es d
        → ((X Y : LfType) (s : State) → A ≡ rename_type v.place X → lf_pi A B ≡ rename_type v.place (lf_pi X Y) → ChecksDeep es frees (X ∷ v.context) m Y s → TypingReachesDeep depth_limit Σ (A ∷ G) R B)
        → (X : LfType) (s : State) → lf_pi A B ≡ rename_type v.place X → ChecksDeep es frees v.context (forms.function d m) X s → TypingReachesDeep depth_limit Σ G (lf_lambda R) (lf_pi A B)
    lambda_deep A B R d m c p body (lf_pi X Y) s e (deep_checked_domain n y) = absurd (n p)
    lambda_deep A B R d m c p body (lf_pi X Y) s e (deep_under_domain y f z) = inr (inr (body X Y _ (pi_is e).0 e z))
    lambda_deep A B R d m (Z, f, c) p body (lf_pi X Y) s e (deep_compared_domain y k) = absurd (k.differ (domain_is es frees y p c ∙ same_placed N G v Z X (sym f ∙ (pi_is e).0)))
    lambda_deep A B R d m c p body X s e (deep_compared n y z) = absurd n
    lambda_deep A B R d m c p body X s e (deep_inferred n y) = absurd n

    -- a family on an argument
    pub family_applied_deep : (M P : Term) (a : ℕ) (U : Spine) (A : LfType) (K : Kind) (R : LfTerm) (S : Spine) (L : Kind) (m : WrittenType) (p : Written) → FamilyGives es N G M a U (kind_pi A K) → (e : S ≡ then U R) → FamilyGives es N G (application M P) a S L → FamilyCompleted m a (kind_pi A K) → FamilyCompleted (forms.family_applied m p) a L → TypeIsPlain es (forms.family_applied m p)
        → ((s : State) → FamilyDeep es frees v.context m s → FamilyIsDeep es G a U) → ((X : LfType) (s : State) → A ≡ rename_type v.place X → ChecksDeep es frees v.context p X s → TypingReachesDeep depth_limit Σ G R A) → (s : State) → FamilyDeep es frees v.context (forms.family_applied m p) s → FamilyIsDeep es G a S
    family_applied_deep M P a U A K R S L m p b e g c d plain left argument s (deep_applied_family x) =
        let (X, t, k) = left _ x in
        (X, t, λ V. kind_argument_more es G S U R X e V (k (app R V)))
    family_applied_deep M P a U A K R S L m p b e g (Y, f, (T, c)) d (i, j) left argument s (deep_index {A = A'} {K = K'} y x) =
        let (k, n, l) = family_is es frees y i c in
        let deep = argument A' _ (kind_is (f ∙ ap (rename_kind v.place) (sym l))).0 x in
        let (X, t, h) = family_reaches es M N G a U (kind_pi A K) b in
        (X, t, λ V. kind_argument_more es G S U R X e V (h (app R V) (inr (inl deep))))
    family_applied_deep M P a U A K R S L m p b e g c (X, f, (T, d)) plain left argument s (deep_left_kind {K = Y} x l) =
        let (k, n, j) = family_is es frees x plain d in
        let same : kind_depth L ≡ kind_depth Y = ap kind_depth f ∙ renaming_keeps_kind_depth v.place X ∙ ap kind_depth (sym j) in
        let (Z, t, u) = family_reaches es (application M P) N G a S L g in
        (Z, t, λ V. u V (kind_deep_left es G V L (subst (λ x. depth_limit < x) (sym same) l)))

    -- arrows and quantifiers
    pub arrow_deep : (U : Term) (A B : LfType) (u w : WrittenType) → TypeGives es N G U A → ((s : State) → TypeDeep es frees v.context u s → TypeReachesDeep depth_limit Σ G A) → ((s : State) → TypeDeep es frees v.context w s → TypeReachesDeep depth_limit Σ (A ∷ G) B) → (s : State) → TypeDeep es frees v.context (forms.arrow u w) s → TypeReachesDeep depth_limit Σ G (lf_pi A B)
    arrow_deep U A B u w g first second s (deep_arrow_domain x) = inr (inl (first _ x))
    arrow_deep U A B u w g first second s (deep_arrow_range x y) = inr (inr (type_typed es U N G A g, second _ y))
    arrow_deep U A B u w g first second s (deep_family x) = absurd (family_form es frees x)

    pub pi_deep : (D : Domain) (A B : LfType) (d : WrittenDomain) (w : WrittenType) → DomainGives es N G D A → DomainCompleted d A → DomainIsPlain es d → ((s : State) → DomainDeep es frees v.context d s → TypeReachesDeep depth_limit Σ G A)
        → ((X : LfType) (s : State) → A ≡ rename_type v.place X → TypeDeep es frees (X ∷ v.context) w s → TypeReachesDeep depth_limit Σ (A ∷ G) B) → (s : State) → TypeDeep es frees v.context (forms.quantified d w) s → TypeReachesDeep depth_limit Σ G (lf_pi A B)
    pi_deep D A B d w g c p first second s (deep_quantified_domain y) = inr (inl (first _ y))
    pi_deep D A B d w g (Z, f, c) p first second s (deep_quantified_range {A = X} y z) = inr (inr (domain_typed es D N G A g, second X _ (f ∙ ap (rename_type v.place) (sym (domain_is es frees y p c))) z))
    pi_deep D A B d w g c p first second s (deep_family y) = absurd (family_form es frees y)

    pub kind_arrow_deep : (U : Term) (A : LfType) (K : Kind) (u : WrittenType) (k : WrittenKind) → TypeGives es N G U A → ((s : State) → TypeDeep es frees v.context u s → TypeReachesDeep depth_limit Σ G A) → ((s : State) → KindDeep es frees v.context k s → KindReachesDeep depth_limit Σ (A ∷ G) K) → (s : State) → KindDeep es frees v.context (forms.kind_arrow u k) s → KindReachesDeep depth_limit Σ G (kind_pi A K)
    kind_arrow_deep U A K u k g first second s (deep_kind_domain x) = inr (inl (first _ x))
    kind_arrow_deep U A K u k g first second s (deep_kind_range x y) = inr (inr (type_typed es U N G A g, second _ y))

    pub kind_pi_deep : (D : Domain) (A : LfType) (K : Kind) (d : WrittenDomain) (w : WrittenKind) → DomainGives es N G D A → DomainCompleted d A → DomainIsPlain es d → ((s : State) → DomainDeep es frees v.context d s → TypeReachesDeep depth_limit Σ G A)
        → ((X : LfType) (s : State) → A ≡ rename_type v.place X → KindDeep es frees (X ∷ v.context) w s → KindReachesDeep depth_limit Σ (A ∷ G) K) → (s : State) → KindDeep es frees v.context (forms.kind_quantified d w) s → KindReachesDeep depth_limit Σ G (kind_pi A K)
    kind_pi_deep D A K d w g c p first second s (deep_quantified_kind_domain y) = inr (inl (first _ y))
    kind_pi_deep D A K d w g (Z, f, c) p first second s (deep_quantified_kind_range {A = X} y z) = inr (inr (domain_typed es D N G A g, second X _ (f ∙ ap (rename_type v.place) (sym (domain_is es frees y p c))) z))
