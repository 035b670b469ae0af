-- What gives canonical LF, and names nothing with implicit arguments, is of the explicit form, and each of its names is known.
use Rattle.std.proofs.Common.{◌≡◌, ℕ, zero, suc, List, [], ◌∷◌, ◌++◌, Bool, true, false, cond, Option, Some, None, option_map, refl, sym, ap, ap₂, ◌∙◌}
use Rattle.std.specs.Prelude.{◌&&◌, is_some, slice_get}
use Rattle.std.specs.Str.{bytes_eq}
use Rattle.lf.specs.Entries.{Entry, Body, declare_family, declare_constant, declare_definition, entry, type_of, kind_of, type_of_body, kind_of_body, signature_of}
use Rattle.lf.specs.Substitution.{Image, lift, single, substitute_type, substitute_kind, reduce}
use Rattle.lf.specs.Syntax.{Head, constant, variable, metavariable, Term as LfTerm, Spine, lambda as lf_lambda, root, skeleton, LfType, pi as lf_pi, atom, Kind, kind_pi, star as lf_star, rename_type, lift_renaming}
use Rattle.lf.specs.Typing.{HeadHasType, TypeAt, instantiate_kind}
use Rattle.law_explicit_form.specs.Explicit.{IsExplicit}
use Rattle.law_explicit_form.specs.Completion.{TermGives, SpineGives, FamilyGives, TypeGives, DomainGives, KindGives, BodyGiven}
use Rattle.law_explicit_form.specs.Form.{Shape, point, shape, kind_shape, explicit_shape, entry_shape, written_shape, domain_shape, head_shape, is_point, shape_behind, is_type_form, is_domain_form, is_term_form, shape_left}
use Rattle.tw_names.specs.Scope.{binder_name, head_named, named}
use Rattle.tw_names.specs.Unknown.{unless_named, unknown_names, unknown_in_domain}
use Rattle.tw_names.specs.declared.unknown.Mention.{Mention}
use Rattle.tw_lexer.specs.declared.place.Place.{Place}
use Rattle.tw_parse.specs.Syntax.{Term, Domain, identifier, star, arrow, pi, lambda, application, untyped, typed, declare}
use Rattle.tw_print.specs.Arguments.{implicit_in}
use Rattle.tw_fixity.specs.Names.{Names, variable_of}
use Rattle.tw_signature.specs.Names.{number_of}
use Rattle.lf.specs.Syntax.{arrow as shape_arrow}
use Rattle.law_reading_back.proofs.Openness.{NamesOpen, DomainOpen}

-- shapes stay where variables are renamed or filled in
shape_renamed : (ρ : ℕ → ℕ) (A : LfType) → shape (rename_type ρ A) ≡ shape A
shape_renamed ρ (lf_pi A B) = ap₂ shape_arrow (shape_renamed ρ A) (shape_renamed (lift_renaming ρ) B)
shape_renamed ρ (atom a S) = refl

shape_filled : (σ : ℕ → Image) (A : LfType) → shape (substitute_type reduce σ A) ≡ shape A
shape_filled σ (lf_pi A B) = ap₂ shape_arrow (shape_filled σ A) (shape_filled (lift σ) B)
shape_filled σ (atom a S) = refl

kind_shape_filled : (σ : ℕ → Image) (K : Kind) → kind_shape (substitute_kind reduce σ K) ≡ kind_shape K
kind_shape_filled σ (kind_pi A K) = ap₂ shape_arrow (shape_filled σ A) (kind_shape_filled (lift σ) K)
kind_shape_filled σ lf_star = refl

abbrev shapes : List LfType → List Shape
shapes [] = []
shapes (A ∷ G) = shape A ∷ shapes G

none_is_not_some : {X : Type 0} {x : X} → None ≡ Some x → ⊥
none_is_not_some e = cc

some_inj : {X : Type 0} {x y : X} → Some x ≡ Some y → x ≡ y
some_inj e = cc

shape_at : (G : List LfType) (i : ℕ) (A : LfType) → TypeAt G i A → slice_get (shapes G) i ≡ Some (shape A)
shape_at [] i A h = absurd h
shape_at (B ∷ G) zero A h = ap Some (sym (ap shape h ∙ shape_renamed suc B))
shape_at (B ∷ G) (suc i) A (C, h, e) = shape_at G i C h ∙ ap Some (sym (ap shape e ∙ shape_renamed suc C))

constant_shape : (o : Option Entry) (A : LfType) → implicit_in o ≡ zero → type_of o ≡ Some A → entry_shape o ≡ Some (shape A)
constant_shape None A i h = absurd (none_is_not_some h)
constant_shape (Some e) A i h = ap (λ n. explicit_shape n e.body) i ∙ by_body e.body h
  where
    by_body : (b : Body) → type_of_body b ≡ Some A → explicit_shape zero b ≡ Some (shape A)
    by_body (declare_family K) q = absurd (none_is_not_some q)
    by_body (declare_constant B) q = ap (λ C. Some (shape C)) (some_inj q)
    by_body (declare_definition M B b) q = absurd (none_is_not_some q)

family_shape : (o : Option Entry) (K : Kind) → implicit_in o ≡ zero → kind_of o ≡ Some K → entry_shape o ≡ Some (kind_shape K)
family_shape None K i h = absurd (none_is_not_some h)
family_shape (Some e) K i h = ap (λ n. explicit_shape n e.body) i ∙ by_body e.body h
  where
    by_body : (b : Body) → kind_of_body b ≡ Some K → explicit_shape zero b ≡ Some (kind_shape K)
    by_body (declare_family L) q = ap (λ C. Some (kind_shape C)) (some_inj q)
    by_body (declare_constant B) q = absurd (none_is_not_some q)
    by_body (declare_definition M B b) q = absurd (none_is_not_some q)

head_is : (es : List Entry) (G : List LfType) (h : Head) (A : LfType) → ((c : ℕ) → h ≡ constant c → implicit_in (entry es c) ≡ zero) → HeadHasType (signature_of es) G h A → head_shape es (shapes G) (Some h) ≡ Some (shape A)
head_is es G (constant c) A o t = constant_shape (entry es c) A (o c refl) t
head_is es G (variable i) A o t = shape_at G i A t
head_is es G (metavariable m) A o t = absurd t

-- Names with the shapes of their variables, where those without a name may be left out, say the same as all names with all types.
record Alike (es : List Entry) (N : Names) (T : List Shape) (M : Names) (G : List LfType) : Type 0 where
  pub shaped : (x : List ℕ) → head_shape es T (named es N x) ≡ head_shape es (shapes G) (named es M x)
  pub known : (x : List ℕ) → is_some (named es N x) ≡ is_some (named es M x)

module _ (es : List Entry) where
  none_alike : Alike es [] [] [] []
  none_alike = record { shaped = λ x. refl; known = λ x. refl }

  behind_shape : (T : List Shape) (s : Shape) (o : Option ℕ) (c : Option ℕ) → head_shape es (s ∷ T) (head_named (option_map suc o) c) ≡ head_shape es T (head_named o c)
  behind_shape T s (Some i) c = refl
  behind_shape T s None (Some c) = refl
  behind_shape T s None None = refl

  behind_known : (o : Option ℕ) (c : Option ℕ) → is_some (head_named (option_map suc o) c) ≡ is_some (head_named o c)
  behind_known (Some i) c = refl
  behind_known None c = refl

  module _ (N : Names) (T : List Shape) (M : Names) (G : List LfType) (a : Alike es N T M G) (A : LfType) where
    -- a variable without a name, which the form leaves out
    passed : Alike es N T (None ∷ M) (A ∷ G)
    passed = record {
      shaped = λ x. a.shaped x ∙ sym (behind_shape (shapes G) (shape A) (variable_of M x) (number_of es x));
      known = λ x. a.known x ∙ sym (behind_known (variable_of M x) (number_of es x));
    }

    -- the variable of a binder
    shaped_under : (s : Shape) → s ≡ shape A → (b : Option (List ℕ)) (x : List ℕ) → head_shape es (s ∷ T) (named es (b ∷ N) x) ≡ head_shape es (shapes (A ∷ G)) (named es (b ∷ M) x)
    shaped_under s e None x =
        behind_shape T s (variable_of N x) (number_of es x) ∙ a.shaped x ∙ sym (behind_shape (shapes G) (shape A) (variable_of M x) (number_of es x))
    shaped_under s e (Some y) x = by_test (bytes_eq y x)
      where
        by_test : (v : Bool) → head_shape es (s ∷ T) (head_named (cond v (Some zero) (option_map suc (variable_of N x))) (number_of es x))
            ≡ head_shape es (shapes (A ∷ G)) (head_named (cond v (Some zero) (option_map suc (variable_of M x))) (number_of es x))
        by_test true = ap Some e
        by_test false = behind_shape T s (variable_of N x) (number_of es x) ∙ a.shaped x ∙ sym (behind_shape (shapes G) (shape A) (variable_of M x) (number_of es x))

    known_under : (b : Option (List ℕ)) (x : List ℕ) → is_some (named es (b ∷ N) x) ≡ is_some (named es (b ∷ M) x)
    known_under None x = behind_known (variable_of N x) (number_of es x) ∙ a.known x ∙ sym (behind_known (variable_of M x) (number_of es x))
    known_under (Some y) x = by_test (bytes_eq y x)
      where
        by_test : (v : Bool) → is_some (head_named (cond v (Some zero) (option_map suc (variable_of N x))) (number_of es x)) ≡ is_some (head_named (cond v (Some zero) (option_map suc (variable_of M x))) (number_of es x))
        by_test true = refl
        by_test false = behind_known (variable_of N x) (number_of es x) ∙ a.known x ∙ sym (behind_known (variable_of M x) (number_of es x))

    bound : (s : Shape) → s ≡ shape A → (b : Option (List ℕ)) → Alike es (b ∷ N) (s ∷ T) (b ∷ M) (A ∷ G)
    bound s e b = record { shaped = shaped_under s e b; known = known_under b }

  -- nothing is unknown
  no_names : {X : Type 0} (xs ys : List X) → xs ≡ [] → ys ≡ [] → xs ++ ys ≡ []
  no_names xs ys e f = ap₂ (λ us vs. us ++ vs) e f

  name_known : (o p : Option Head) (h : Head) (m : Mention) → p ≡ Some h → is_some o ≡ is_some p → unless_named o m ≡ []
  name_known (Some k) p h m e f = refl
  name_known None p h m e f = let clash : false ≡ true = f ∙ ap is_some e in cc

  both_true : (a b : Bool) → a ≡ true → b ≡ true → a && b ≡ true
  both_true a b e f = ap₂ (λ x y. x && y) e f

  -- what is told of a written term, of a head with arguments so far, and of a type
  record Told (N : Names) (T : List Shape) (M : Term) (due : Shape) : Type 0 where
    pub form : is_term_form es N T M due ≡ true
    pub unknown : unknown_names es N M ≡ []

  record Leaves (N : Names) (T : List Shape) (M : Term) (due : Shape) : Type 0 where
    pub form : shape_left es N T M ≡ Some due
    pub unknown : unknown_names es N M ≡ []

  record IsWritten (N : Names) (T : List Shape) (U : Term) (due : Shape) : Type 0 where
    pub form : is_type_form es N T U ≡ true
    pub unknown : unknown_names es N U ≡ []
    pub written : written_shape U ≡ due

  record IsDomain (N : Names) (T : List Shape) (D : Domain) (due : Shape) : Type 0 where
    pub form : is_domain_form es N T D ≡ true
    pub unknown : unknown_in_domain es N D ≡ []
    pub written : domain_shape D ≡ due

  record IsWrittenKind (N : Names) (T : List Shape) (U : Term) : Type 0 where
    pub form : is_type_form es N T U ≡ true
    pub unknown : unknown_names es N U ≡ []

  taken : (fits : Shape → Bool) (o : Option Shape) (s t : Shape) → o ≡ Some (shape_arrow s t) → fits s ≡ true → shape_behind fits o ≡ Some t
  taken fits o s t e f = ap (shape_behind fits) e ∙ ap (λ b. cond b (Some t) None) f

  left_name : (N : Names) (T : List Shape) (M : Names) (G : List LfType) (x : List ℕ) (at : Place) (h : Head) (s : Shape) → Alike es N T M G → named es M x ≡ Some h → head_shape es (shapes G) (Some h) ≡ Some s → Leaves N T (identifier x at) s
  left_name N T M G x at h s a n e = record {
    form = a.shaped x ∙ ap (head_shape es (shapes G)) n ∙ e;
    unknown = name_known (named es N x) (named es M x) h (record { name = x; at = at }) n (a.known x);
  }

  -- a family's name, and a family with one argument more
  family_name : (N : Names) (T : List Shape) (M : Names) (G : List LfType) (x : List ℕ) (at : Place) (c : ℕ) (L : Kind) → Alike es N T M G → named es M x ≡ Some (constant c) → NamesOpen es M (identifier x at) → (signature_of es).kinds c ≡ Some L → Leaves N T (identifier x at) (kind_shape L)
  family_name N T M G x at c L a n o t = left_name N T M G x at (constant c) (kind_shape L) a n (family_shape (entry es c) L (o c n) t)

  family_applied : (N : Names) (T : List Shape) (W P : Term) (A : LfType) (K L : Kind) (R : LfTerm) → Leaves N T W (shape_arrow (shape A) (kind_shape K)) → Told N T P (shape A) → L ≡ instantiate_kind A R K → Leaves N T (application W P) (kind_shape L)
  family_applied N T W P A K L R l p f =
      let s : kind_shape L ≡ kind_shape K = ap kind_shape f ∙ kind_shape_filled (single (skeleton A) R) K in
      record { form = taken (is_term_form es N T P) (shape_left es N T W) (shape A) (kind_shape K) l.form p.form ∙ ap Some (sym s); unknown = no_names _ _ p.unknown l.unknown }

  mutual
    term_is : (W : Term) (N : Names) (T : List Shape) (M : Names) (G : List LfType) (A : LfType) (R : LfTerm) → Alike es N T M G → NamesOpen es M W → TermGives es M G W A R → Told N T W (shape A)
    term_is (lambda x at D W) N T M G (lf_pi A B) (lf_lambda R) a o (d, m) =
        let p = domain_is D N T M G A a o.0 d in
        let q = term_is W (binder_name x ∷ N) (domain_shape D ∷ T) (binder_name x ∷ M) (A ∷ G) B R (bound N T M G a A (domain_shape D) p.written (binder_name x)) o.1 m in
        record { form = both_true (is_domain_form es N T D) (is_term_form es (binder_name x ∷ N) (domain_shape D ∷ T) W (shape B)) p.form q.form; unknown = no_names _ _ p.unknown q.unknown }
    term_is (identifier x at) N T M G (atom c S) (root h R) a o (n, t, e) =
        let l = left_name N T M G x at h point a n (head_is es G h (atom c S) (λ d q. o d (n ∙ ap Some q)) t) in record { form = ap is_point l.form; unknown = l.unknown }
    term_is (application W P) N T M G (atom c S) (root h R) a o (A, B, U, L, b, g, e, f) =
        let l = spine_is W N T M G h U (lf_pi A B) a o.0 b in
        let p = term_is P N T M G A L a o.1 g in
        let s : point ≡ shape B = ap shape f ∙ shape_filled (single (skeleton A) L) B in
        record {
          form = ap is_point (taken (is_term_form es N T P) (shape_left es N T W) (shape A) (shape B) l.form p.form ∙ ap Some (sym s));
          unknown = no_names _ _ p.unknown l.unknown;
        }
    term_is W N T M G A R a o g = absurd g

    spine_is : (W : Term) (N : Names) (T : List Shape) (M : Names) (G : List LfType) (h : Head) (S : Spine) (C : LfType) → Alike es N T M G → NamesOpen es M W → SpineGives es M G W h S C → Leaves N T W (shape C)
    spine_is (identifier x at) N T M G h S C a o (n, t, e) = left_name N T M G x at h (shape C) a n (head_is es G h C (λ d q. o d (n ∙ ap Some q)) t)
    spine_is (application W P) N T M G h S C a o (A, B, U, L, b, g, e, f) =
        let l = spine_is W N T M G h U (lf_pi A B) a o.0 b in
        let p = term_is P N T M G A L a o.1 g in
        let s : shape C ≡ shape B = ap shape f ∙ shape_filled (single (skeleton A) L) B in
        record { form = taken (is_term_form es N T P) (shape_left es N T W) (shape A) (shape B) l.form p.form ∙ ap Some (sym s); unknown = no_names _ _ p.unknown l.unknown }
    spine_is W N T M G h S C a o g = absurd g

    domain_is : (D : Domain) (N : Names) (T : List Shape) (M : Names) (G : List LfType) (A : LfType) → Alike es N T M G → DomainOpen es M D → DomainGives es M G D A → IsDomain N T D (shape A)
    domain_is untyped N T M G A a o g = absurd g
    domain_is (typed U) N T M G A a o g = let p = type_is U N T M G A a o g in record { form = p.form; unknown = p.unknown; written = p.written }

    family_is : (W : Term) (N : Names) (T : List Shape) (M : Names) (G : List LfType) (c : ℕ) (S : Spine) (L : Kind) → Alike es N T M G → NamesOpen es M W → FamilyGives es M G W c S L → Leaves N T W (kind_shape L)
    family_is (identifier x at) N T M G c S L a o (n, t, e) = family_name N T M G x at c L a n o t
    family_is (application W P) N T M G c S L a o (A, K, U, R, b, g, e, f) =
        family_applied N T W P A K L R (family_is W N T M G c U (kind_pi A K) a o.0 b) (term_is P N T M G A R a o.1 g) f
    family_is W N T M G c S L a o g = absurd g

    type_is : (U : Term) (N : Names) (T : List Shape) (M : Names) (G : List LfType) (A : LfType) → Alike es N T M G → NamesOpen es M U → TypeGives es M G U A → IsWritten N T U (shape A)
    type_is (arrow U V) N T M G (lf_pi A B) a o (u, v) =
        let p = type_is U N T M G A a o.0 u in
        let q = type_is V N T (None ∷ M) (A ∷ G) B (passed N T M G a A) o.1 v in
        record { form = both_true (is_type_form es N T U) (is_type_form es N T V) p.form q.form; unknown = no_names _ _ p.unknown q.unknown; written = ap₂ shape_arrow p.written q.written }
    type_is (pi x at D V) N T M G (lf_pi A B) a o (d, v) =
        let p = domain_is D N T M G A a o.0 d in
        let q = type_is V (binder_name x ∷ N) (domain_shape D ∷ T) (binder_name x ∷ M) (A ∷ G) B (bound N T M G a A (domain_shape D) p.written (binder_name x)) o.1 v in
        record {
          form = both_true (is_domain_form es N T D) (is_type_form es (binder_name x ∷ N) (domain_shape D ∷ T) V) p.form q.form;
          unknown = no_names _ _ p.unknown q.unknown;
          written = ap₂ shape_arrow p.written q.written;
        }
    type_is (identifier x at) N T M G (atom c S) a o (n, t, e) =
        let l = family_name N T M G x at c lf_star a n o t in record { form = ap is_point l.form; unknown = l.unknown; written = refl }
    type_is (application W P) N T M G (atom c S) a o (A, K, U, R, b, g, e, f) =
        let l = family_applied N T W P A K lf_star R (family_is W N T M G c U (kind_pi A K) a o.0 b) (term_is P N T M G A R a o.1 g) f in
        record { form = ap is_point l.form; unknown = l.unknown; written = refl }
    type_is U N T M G A a o g = absurd g

  kind_is : (U : Term) (N : Names) (T : List Shape) (M : Names) (G : List LfType) (K : Kind) → Alike es N T M G → NamesOpen es M U → KindGives es M G U K → IsWrittenKind N T U
  kind_is star N T M G lf_star a o g = record { form = refl; unknown = refl }
  kind_is (arrow U V) N T M G (kind_pi A K) a o (u, v) =
      let p = type_is U N T M G A a o.0 u in
      let q = kind_is V N T (None ∷ M) (A ∷ G) K (passed N T M G a A) o.1 v in
      record { form = both_true (is_type_form es N T U) (is_type_form es N T V) p.form q.form; unknown = no_names _ _ p.unknown q.unknown }
  kind_is (pi x at D V) N T M G (kind_pi A K) a o (d, v) =
      let p = domain_is D N T M G A a o.0 d in
      let q = kind_is V (binder_name x ∷ N) (domain_shape D ∷ T) (binder_name x ∷ M) (A ∷ G) K (bound N T M G a A (domain_shape D) p.written (binder_name x)) o.1 v in
      record { form = both_true (is_domain_form es N T D) (is_type_form es (binder_name x ∷ N) (domain_shape D ∷ T) V) p.form q.form; unknown = no_names _ _ p.unknown q.unknown }
  kind_is U N T M G K a o g = absurd g

  pub given_is_explicit : (c : List ℕ) (at : Place) (U : Term) (b : Body) → NamesOpen es [] U → BodyGiven es U b → IsExplicit es (declare c at U)
  given_is_explicit c at U (declare_family K) o g = let k = kind_is U [] [] [] [] K none_alike o g in (k.unknown, k.form)
  given_is_explicit c at U (declare_constant A) o g = let k = type_is U [] [] [] [] A none_alike o g in (k.unknown, k.form)
  given_is_explicit c at U (declare_definition M A b) o g = absurd g

  -- of a definition the type and the term
  pub record IsDefined (U P : Term) : Type 0 where
    pub unknown : unknown_names es [] U ++ unknown_names es [] P ≡ []
    pub type_form : is_type_form es [] [] U ≡ true
    pub term_form : is_term_form es [] [] P (written_shape U) ≡ true

  pub given_is_defined : (U P : Term) (A : LfType) (R : LfTerm) → NamesOpen es [] U → NamesOpen es [] P → TypeGives es [] [] U A → TermGives es [] [] P A R → IsDefined U P
  given_is_defined U P A R o q g h =
      let k = type_is U [] [] [] [] A none_alike o g in
      let l = term_is P [] [] [] [] A R none_alike q h in
      record { unknown = no_names _ _ k.unknown l.unknown; type_form = k.form; term_form = ap (is_term_form es [] [] P) k.written ∙ l.form }
