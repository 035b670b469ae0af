-- Written terms in which each name is known and names nothing that has implicit arguments, each binder has its type, and no lambda stands at the level of types.
use Rattle.std.proofs.Common.{◌≡◌, ℕ, zero, suc, List, [], ◌∷◌, ◌++◌, option_map, Bool, true, false, Option, None, Some, inl, inr, if◌then◌else◌, refl, sym, ap, ap₂, ◌∙◌, subst}
use Rattle.std.specs.Str.{bytes_eq}
use Rattle.lf.specs.Entries.{Entry, Body, declare_family, declare_constant, declare_definition, entry}
use Rattle.lf.specs.Syntax.{Head, constant, variable, metavariable, base, arrow as shape_arrow}
use Rattle.tw_approx.specs.Levels.{lambdas_in_term, lambdas_in_type, lambdas_in_domain}
use Rattle.tw_approx.specs.Names.{IsFreeIn, IsFreeInDomain}
use Rattle.tw_approx.proofs.Unifying.{both_true}
use Rattle.law_explicit_form.specs.Form.{Shape, explicit_shape, entry_shape, domain_shape, head_shape, is_point, shape_behind, is_type_form, is_domain_form, is_term_form, shape_left}
use Rattle.tw_names.specs.Scope.{binder_name, head_named, named}
use Rattle.tw_names.specs.Unknown.{unknown_in_domain, unknown_names, unless_named}
use Rattle.tw_names.specs.declared.unknown.Mention.{Mention}
use Rattle.tw_parse.specs.Syntax.{Term, Domain, identifier, hole, star, arrow, pi, lambda, application, ascription, untyped, typed}
use Rattle.tw_fixity.specs.Names.{Names, variable_of}
use Rattle.tw_signature.specs.Names.{number_of}

module _ (es : List Entry) where
  abbrev pub NameIsBare : Option Head → Type 0
  NameIsBare (Some (constant c)) = (e : Entry) → entry es c ≡ Some e → e.implicit ≡ zero
  NameIsBare (Some (variable i)) = Unit {0}
  NameIsBare (Some (metavariable m)) = ⊥
  NameIsBare None = ⊥

  abbrev mutual
    pub TermIsBare : Names → Term → Type 0
    TermIsBare N (identifier x at) = NameIsBare (named es N x)
    TermIsBare N (hole at) = ⊥
    TermIsBare N star = Unit {0}
    TermIsBare N (arrow U V) = TypeIsBare N U × TypeIsBare (None ∷ N) V
    TermIsBare N (pi x at D V) = DomainIsBare N D × TypeIsBare (binder_name x ∷ N) V
    TermIsBare N (lambda x at D M) = DomainIsBare N D × TermIsBare (binder_name x ∷ N) M
    TermIsBare N (application M P) = TermIsBare N M × TermIsBare N P
    TermIsBare N (ascription M A) = ⊥

    pub TypeIsBare : Names → Term → Type 0
    TypeIsBare N (identifier x at) = NameIsBare (named es N x)
    TypeIsBare N (hole at) = ⊥
    TypeIsBare N star = Unit {0}
    TypeIsBare N (arrow U V) = TypeIsBare N U × TypeIsBare (None ∷ N) V
    TypeIsBare N (pi x at D V) = DomainIsBare N D × TypeIsBare (binder_name x ∷ N) V
    TypeIsBare N (lambda x at D M) = ⊥
    TypeIsBare N (application M P) = TypeIsBare N M × TermIsBare N P
    TypeIsBare N (ascription M A) = ⊥

    pub DomainIsBare : Names → Domain → Type 0
    DomainIsBare N untyped = ⊥
    DomainIsBare N (typed A) = TypeIsBare N A

  -- a name that is bare in the first scope is so in the second, which has the variables of arrows as well
  abbrev pub IsWider : Names → Names → Type 0
  IsWider N M = (x : List ℕ) → NameIsBare (named es N x) → NameIsBare (named es M x)

  behind_variable : (i c : Option ℕ) → NameIsBare (head_named i c) → NameIsBare (head_named (option_map suc i) c)
  behind_variable (Some i) c h = h
  behind_variable None c h = h

  pub before_variable : (i c : Option ℕ) → NameIsBare (head_named (option_map suc i) c) → NameIsBare (head_named i c)
  before_variable (Some i) c h = h
  before_variable None c h = h

  wider_by : (N M : Names) → IsWider N M → IsWider N (None ∷ M)
  wider_by N M w x h = behind_variable (variable_of M x) (number_of es x) (w x h)

  pub wider_under : (n : Option (List ℕ)) (N M : Names) → IsWider N M → IsWider (n ∷ N) (n ∷ M)
  wider_under None N M w x h = behind_variable (variable_of M x) (number_of es x) (w x (before_variable (variable_of N x) (number_of es x) h))
  wider_under (Some y) N M w x h = by (bytes_eq y x) h
    where
      by : (b : Bool) → NameIsBare (head_named (if b then Some zero else option_map suc (variable_of N x)) (number_of es x)) → NameIsBare (head_named (if b then Some zero else option_map suc (variable_of M x)) (number_of es x))
      by true k = k
      by false k = behind_variable (variable_of M x) (number_of es x) (w x (before_variable (variable_of N x) (number_of es x) k))

  explicit_none : (n : ℕ) (b : Body) (s : Shape) → explicit_shape n b ≡ Some s → n ≡ zero
  explicit_none zero b s e = refl
  explicit_none (suc n) (declare_family K) s e = absurd cc
  explicit_none (suc n) (declare_constant A) s e = absurd cc
  explicit_none (suc n) (declare_definition M A b) s e = absurd cc

  entry_bare : (o : Option Entry) (s : Shape) → entry_shape o ≡ Some s → (e : Entry) → o ≡ Some e → e.implicit ≡ zero
  entry_bare None s h e k = absurd cc
  entry_bare (Some d) s h e k = let same : d ≡ e = cc in ap (λ (f : Entry). f.implicit) (sym same) ∙ explicit_none d.implicit d.body s h

  name_bare : (T : List Shape) (h : Option Head) (s : Shape) → head_shape es T h ≡ Some s → NameIsBare h
  name_bare T None s e = absurd cc
  name_bare T (Some (constant c)) s e = entry_bare (entry es c) s e
  name_bare T (Some (variable i)) s e = tt
  name_bare T (Some (metavariable m)) s e = absurd cc

  point_is : (o : Option Shape) → is_point o ≡ true → (s : Shape) × (o ≡ Some s)
  point_is (Some s) e = (s, refl)
  point_is None e = absurd cc

  behind_is : (fits : Shape → Bool) (o : Option Shape) (t : Shape) → shape_behind fits o ≡ Some t → (s : Shape) × (u : Shape) × (o ≡ Some s) × (fits u ≡ true)
  behind_is fits None t e = absurd cc
  behind_is fits (Some (base c)) t e = absurd cc
  behind_is fits (Some (shape_arrow s u)) t e = (shape_arrow s u, s, refl, by (fits s) e)
    where
      by : (b : Bool) → (if b then Some u else None) ≡ Some t → b ≡ true
      by true k = refl
      by false k = absurd cc

  mutual
    -- what is of the explicit form is bare
    pub type_bare : (U : Term) (N M : Names) (T : List Shape) → IsWider N M → is_type_form es N T U ≡ true → TypeIsBare M U
    type_bare (arrow U V) N M T w e = let p = both_true (is_type_form es N T U) (is_type_form es N T V) e in (type_bare U N M T w p.0, type_bare V N (None ∷ M) T (wider_by N M w) p.1)
    type_bare (pi x at D V) N M T w e =
        let p = both_true (is_domain_form es N T D) (is_type_form es (binder_name x ∷ N) (domain_shape D ∷ T) V) e in
        (domain_bare D N M T w p.0, type_bare V (binder_name x ∷ N) (binder_name x ∷ M) (domain_shape D ∷ T) (wider_under (binder_name x) N M w) p.1)
    type_bare star N M T w e = tt
    type_bare (identifier x at) N M T w e = let p = point_is (head_shape es T (named es N x)) e in w x (name_bare T (named es N x) p.0 p.1)
    type_bare (application P Q) N M T w e =
        let p = point_is (shape_behind (is_term_form es N T Q) (shape_left es N T P)) e in
        let q = behind_is (is_term_form es N T Q) (shape_left es N T P) p.0 p.1 in
        (family_left_bare P N M T w q.0 q.2, term_bare Q N M T q.1 w q.3)
    type_bare (hole at) N M T w e = absurd cc
    type_bare (lambda x at D P) N M T w e = absurd cc
    type_bare (ascription P A) N M T w e = absurd cc

    domain_bare : (D : Domain) (N M : Names) (T : List Shape) → IsWider N M → is_domain_form es N T D ≡ true → DomainIsBare M D
    domain_bare untyped N M T w e = absurd cc
    domain_bare (typed U) N M T w e = type_bare U N M T w e

    term_bare : (P : Term) (N M : Names) (T : List Shape) (s : Shape) → IsWider N M → is_term_form es N T P s ≡ true → TermIsBare M P
    term_bare (lambda x at D P) N M T (shape_arrow s t) w e =
        let p = both_true (is_domain_form es N T D) (is_term_form es (binder_name x ∷ N) (domain_shape D ∷ T) P t) e in
        (domain_bare D N M T w p.0, term_bare P (binder_name x ∷ N) (binder_name x ∷ M) (domain_shape D ∷ T) t (wider_under (binder_name x) N M w) p.1)
    term_bare (lambda x at D P) N M T (base c) w e = absurd cc
    term_bare (identifier x at) N M T (base c) w e = let p = point_is (head_shape es T (named es N x)) e in w x (name_bare T (named es N x) p.0 p.1)
    term_bare (identifier x at) N M T (shape_arrow s t) w e = absurd cc
    term_bare (application P Q) N M T (base c) w e =
        let p = point_is (shape_behind (is_term_form es N T Q) (shape_left es N T P)) e in
        let q = behind_is (is_term_form es N T Q) (shape_left es N T P) p.0 p.1 in
        (left_bare P N M T w q.0 q.2, term_bare Q N M T q.1 w q.3)
    term_bare (application P Q) N M T (shape_arrow s t) w e = absurd cc
    term_bare (arrow U V) N M T s w e = let p = both_true (is_type_form es N T U) (is_type_form es N T V) e in (type_bare U N M T w p.0, type_bare V N (None ∷ M) T (wider_by N M w) p.1)
    term_bare (pi x at D V) N M T s w e =
        let p = both_true (is_domain_form es N T D) (is_type_form es (binder_name x ∷ N) (domain_shape D ∷ T) V) e in
        (domain_bare D N M T w p.0, type_bare V (binder_name x ∷ N) (binder_name x ∷ M) (domain_shape D ∷ T) (wider_under (binder_name x) N M w) p.1)
    term_bare star N M T s w e = tt
    term_bare (hole at) N M T s w e = absurd cc
    term_bare (ascription P A) N M T s w e = absurd cc

    left_bare : (P : Term) (N M : Names) (T : List Shape) → IsWider N M → (s : Shape) → shape_left es N T P ≡ Some s → TermIsBare M P
    left_bare (identifier x at) N M T w s e = w x (name_bare T (named es N x) s e)
    left_bare (application P Q) N M T w s e = let q = behind_is (is_term_form es N T Q) (shape_left es N T P) s e in (left_bare P N M T w q.0 q.2, term_bare Q N M T q.1 w q.3)
    left_bare (hole at) N M T w s e = absurd cc
    left_bare star N M T w s e = absurd cc
    left_bare (arrow U V) N M T w s e = absurd cc
    left_bare (pi x at D V) N M T w s e = absurd cc
    left_bare (lambda x at D P) N M T w s e = absurd cc
    left_bare (ascription P A) N M T w s e = absurd cc

    family_left_bare : (P : Term) (N M : Names) (T : List Shape) → IsWider N M → (s : Shape) → shape_left es N T P ≡ Some s → TypeIsBare M P
    family_left_bare (identifier x at) N M T w s e = w x (name_bare T (named es N x) s e)
    family_left_bare (application P Q) N M T w s e = let q = behind_is (is_term_form es N T Q) (shape_left es N T P) s e in (family_left_bare P N M T w q.0 q.2, term_bare Q N M T q.1 w q.3)
    family_left_bare (hole at) N M T w s e = absurd cc
    family_left_bare star N M T w s e = absurd cc
    family_left_bare (arrow U V) N M T w s e = absurd cc
    family_left_bare (pi x at D V) N M T w s e = absurd cc
    family_left_bare (lambda x at D P) N M T w s e = absurd cc
    family_left_bare (ascription P A) N M T w s e = absurd cc

  pub whole_bare : (U : Term) → is_type_form es [] [] U ≡ true → TypeIsBare [] U
  whole_bare U e = type_bare U [] [] [] (λ x h. h) e

  pub whole_term_bare : (P : Term) (s : Shape) → is_term_form es [] [] P s ≡ true → TermIsBare [] P
  whole_term_bare P s e = term_bare P [] [] [] s (λ x h. h) e

  module _ (x : List ℕ) where
    mutual
      -- what is bare has no free variable
      pub type_closed : (U : Term) (N : Names) → TypeIsBare N U → IsFreeIn es x N U → ⊥
      type_closed (identifier y at) N h (e, u, n) = subst NameIsBare n h
      type_closed (arrow U V) N (h, k) (inl f) = type_closed U N h f
      type_closed (arrow U V) N (h, k) (inr f) = type_closed V (None ∷ N) k f
      type_closed (pi y at D V) N (h, k) (inl f) = domain_closed D N h f
      type_closed (pi y at D V) N (h, k) (inr f) = type_closed V (binder_name y ∷ N) k f
      type_closed (application P Q) N (h, k) (inl f) = type_closed P N h f
      type_closed (application P Q) N (h, k) (inr f) = term_closed Q N k f
      type_closed star N h f = f
      type_closed (hole at) N h f = h
      type_closed (lambda y at D P) N h f = h
      type_closed (ascription P A) N h f = h

      domain_closed : (D : Domain) (N : Names) → DomainIsBare N D → IsFreeInDomain es x N D → ⊥
      domain_closed untyped N h f = f
      domain_closed (typed U) N h f = type_closed U N h f

      pub term_closed : (P : Term) (N : Names) → TermIsBare N P → IsFreeIn es x N P → ⊥
      term_closed (identifier y at) N h (e, u, n) = subst NameIsBare n h
      term_closed (arrow U V) N (h, k) (inl f) = type_closed U N h f
      term_closed (arrow U V) N (h, k) (inr f) = type_closed V (None ∷ N) k f
      term_closed (pi y at D V) N (h, k) (inl f) = domain_closed D N h f
      term_closed (pi y at D V) N (h, k) (inr f) = type_closed V (binder_name y ∷ N) k f
      term_closed (lambda y at D P) N (h, k) (inl f) = domain_closed D N h f
      term_closed (lambda y at D P) N (h, k) (inr f) = term_closed P (binder_name y ∷ N) k f
      term_closed (application P Q) N (h, k) (inl f) = term_closed P N h f
      term_closed (application P Q) N (h, k) (inr f) = term_closed Q N k f
      term_closed star N h f = f
      term_closed (hole at) N h f = h
      term_closed (ascription P A) N h f = h

  pub none_in : {A : Type 0} (ps qs : List A) → ps ≡ [] → qs ≡ [] → (ps ++ qs) ≡ []
  none_in ps qs e f = ap₂ (λ p q. p ++ q) e f

  mutual
    -- and no lambda at the level of types
    pub type_without : (U : Term) (N : Names) → TypeIsBare N U → lambdas_in_type U ≡ []
    type_without (identifier y at) N h = refl
    type_without (arrow U V) N (h, k) = none_in (lambdas_in_type U) (lambdas_in_type V) (type_without U N h) (type_without V (None ∷ N) k)
    type_without (pi y at D V) N (h, k) = none_in (lambdas_in_domain D) (lambdas_in_type V) (domain_without D N h) (type_without V (binder_name y ∷ N) k)
    type_without (application P Q) N (h, k) = none_in (lambdas_in_term Q) (lambdas_in_type P) (term_without Q N k) (type_without P N h)
    type_without star N h = refl
    type_without (hole at) N h = absurd h
    type_without (lambda y at D P) N h = absurd h
    type_without (ascription P A) N h = absurd h

    domain_without : (D : Domain) (N : Names) → DomainIsBare N D → lambdas_in_domain D ≡ []
    domain_without untyped N h = absurd h
    domain_without (typed U) N h = type_without U N h

    pub term_without : (P : Term) (N : Names) → TermIsBare N P → lambdas_in_term P ≡ []
    term_without (identifier y at) N h = refl
    term_without (arrow U V) N (h, k) = none_in (lambdas_in_type U) (lambdas_in_type V) (type_without U N h) (type_without V (None ∷ N) k)
    term_without (pi y at D V) N (h, k) = none_in (lambdas_in_domain D) (lambdas_in_type V) (domain_without D N h) (type_without V (binder_name y ∷ N) k)
    term_without (lambda y at D P) N (h, k) = none_in (lambdas_in_domain D) (lambdas_in_term P) (domain_without D N h) (term_without P (binder_name y ∷ N) k)
    term_without (application P Q) N (h, k) = none_in (lambdas_in_term Q) (lambdas_in_term P) (term_without Q N k) (term_without P N h)
    term_without star N h = refl
    term_without (hole at) N h = absurd h
    term_without (ascription P A) N h = absurd h

  bare_known : (h : Option Head) (m : Mention) → NameIsBare h → unless_named h m ≡ []
  bare_known (Some h) m b = refl
  bare_known None m b = absurd b

  narrower_by : (N M : Names) → IsWider M N → IsWider (None ∷ M) N
  narrower_by N M w x h = w x (before_variable (variable_of M x) (number_of es x) h)

  mutual
    -- and no unknown name, also where the variables of arrows aren't in scope
    pub type_known : (U : Term) (N M : Names) → IsWider M N → TypeIsBare M U → unknown_names es N U ≡ []
    type_known (identifier x at) N M w h = bare_known (named es N x) (record { name = x; at = at }) (w x h)
    type_known (arrow U V) N M w (h, k) = none_in (unknown_names es N U) (unknown_names es N V) (type_known U N M w h) (type_known V N (None ∷ M) (narrower_by N M w) k)
    type_known (pi x at D V) N M w (h, k) = none_in (unknown_in_domain es N D) (unknown_names es (binder_name x ∷ N) V) (domain_known D N M w h) (type_known V (binder_name x ∷ N) (binder_name x ∷ M) (wider_under (binder_name x) M N w) k)
    type_known (application P Q) N M w (h, k) = none_in (unknown_names es N Q) (unknown_names es N P) (term_known Q N M w k) (type_known P N M w h)
    type_known star N M w h = refl
    type_known (hole at) N M w h = absurd h
    type_known (lambda x at D P) N M w h = absurd h
    type_known (ascription P A) N M w h = absurd h

    domain_known : (D : Domain) (N M : Names) → IsWider M N → DomainIsBare M D → unknown_in_domain es N D ≡ []
    domain_known untyped N M w h = absurd h
    domain_known (typed U) N M w h = type_known U N M w h

    pub term_known : (P : Term) (N M : Names) → IsWider M N → TermIsBare M P → unknown_names es N P ≡ []
    term_known (identifier x at) N M w h = bare_known (named es N x) (record { name = x; at = at }) (w x h)
    term_known (arrow U V) N M w (h, k) = none_in (unknown_names es N U) (unknown_names es N V) (type_known U N M w h) (type_known V N (None ∷ M) (narrower_by N M w) k)
    term_known (pi x at D V) N M w (h, k) = none_in (unknown_in_domain es N D) (unknown_names es (binder_name x ∷ N) V) (domain_known D N M w h) (type_known V (binder_name x ∷ N) (binder_name x ∷ M) (wider_under (binder_name x) M N w) k)
    term_known (lambda x at D P) N M w (h, k) = none_in (unknown_in_domain es N D) (unknown_names es (binder_name x ∷ N) P) (domain_known D N M w h) (term_known P (binder_name x ∷ N) (binder_name x ∷ M) (wider_under (binder_name x) M N w) k)
    term_known (application P Q) N M w (h, k) = none_in (unknown_names es N Q) (unknown_names es N P) (term_known Q N M w k) (term_known P N M w h)
    term_known star N M w h = refl
    term_known (hole at) N M w h = absurd h
    term_known (ascription P A) N M w h = absurd h
