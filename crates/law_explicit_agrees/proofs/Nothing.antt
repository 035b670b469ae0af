-- An explicit text makes no metavariable. So no equation is left of it, and nothing becomes a quantifier.
use Rattle.std.proofs.Common.{◌≡◌, ℕ, zero, ◌+◌, List, [], ◌∷◌, ◌++◌, Bool, true, false, Option, None, Some, ◌⊎◌, inl, inr, refl, sym, ◌∙◌, subst, arith}
use Rattle.lf.specs.Entries.{Body, Entry, declare_constant, declare_definition, declare_family, entry}
use Rattle.lf.specs.Syntax.{Head, LfType, Skeleton, Term as LfTerm, constant, lambda as lf_lambda, metavariable, root, variable}
use Rattle.lf.specs.Typing.{Signature}
use Rattle.lf_unification.specs.OpenTyping.{Declares, MetavariablesIn}
use Rattle.lf_unification.specs.Outside.{IsFlexible}
use Rattle.lf_unification.specs.Reach.{IsInside, inside_value, is_given}
use Rattle.lf_unification.specs.Solving.{AllLeftOver, Left, LeftOver}
use Rattle.lf_unification.specs.Steps.{Run, Step, bind, drop_equal, equal_heads, next_equation, no_step, open_lambdas, prune_both, prune_inside, put_bindings, renew, then_run}
use Rattle.lf_unification.specs.Unifiers.{Binding, Equation, Store}
use Rattle.lf_elaboration.specs.Elaboration.{NewFrees, next_free, no_frees}
use Rattle.lf_elaboration.specs.Principal.{WrittenBody, written_constant, written_definition, written_definition_of, written_family}
use Rattle.lf_elaboration.specs.PrincipalLaws.{ElaboratesBody}
use Rattle.lf_elaboration.specs.SiteLaws.{total}
use Rattle.lf_elaboration.specs.Sites.{Spot, body_spots, domain_spots, implicit_in, kind_spots, term_spots, type_spots}
use Rattle.lf_elaboration.specs.Skeletons.{IsNumbered}
use Rattle.lf_elaboration.specs.State.{State, store_of}
use Rattle.lf_elaboration.specs.Written as forms
use Rattle.lf_elaboration.specs.Written.{Place as WrittenPlace, Written, WrittenDomain, WrittenKind, WrittenType}
use Rattle.lf_elaboration.proofs.Adds.{checks_adds, infers_adds, kind_adds, type_adds}
use Rattle.lf_elaboration.proofs.Counted.{spots_all}
use Rattle.tw_approx.specs.Readings.{found}
use Rattle.tw_approx.proofs.Sequences.{and_then_parts, given, parts_of}
use Rattle.tw_names.specs.Texts.{ends_in_type}
use Rattle.tw_names.specs.Scope.{binder_name, named}
use Rattle.tw_metas.specs.State as metas
use Rattle.tw_parse.specs.Syntax.{Domain, Term, application, arrow, ascription, hole, identifier, lambda, pi, star, typed, untyped}
use Rattle.tw_putting.specs.Stores.{types_of}
use Rattle.tw_abstract.specs.Quantifiers.{IsContextOf, no_quantifiers, one_inside}
use Rattle.tw_recon.specs.Reconstruction.{IsMade}
use Rattle.tw_resolve.specs.Resolved.{classifier_read, taken_whole}
use Rattle.tw_resolve.specs.Resolving.{resolved_domain, resolved_family, resolved_kind, resolved_name, resolved_term, resolved_type}
use Rattle.tw_fixity.specs.Names.{Names, variable_of}
use Rattle.tw_signature.specs.Names.{number_of}
use Rattle.tw_written.specs.View.{place_of}
use Rattle.law_explicit_agrees.proofs.Back.{argument_parts, both_parts, one_part, whole_parts}
use Rattle.law_explicit_agrees.proofs.Bare.{DomainIsBare, IsWider, NameIsBare, TermIsBare, TypeIsBare, before_variable, wider_under}

pub none_is_not_some : {A : Type 0} {o : Option A} {a : A} → o ≡ None → o ≡ Some a → ⊥
none_is_not_some n s = let e = sym n ∙ s in cc

-- parts that make none, one behind the other
pub none_behind : (xs ys : List Spot) → total xs ≡ zero → total ys ≡ zero → total (xs ++ ys) ≡ zero
none_behind [] ys h k = k
none_behind (x ∷ xs) ys h k = let n : total (xs ++ ys) ≡ zero = none_behind xs ys (omega (arith, h)) k in omega (arith, h, n)

module _ (es : List Entry) where
  implicit_none : (o : Option Entry) → ((e : Entry) → o ≡ Some e → e.implicit ≡ zero) → implicit_in o + zero ≡ zero
  implicit_none None h = refl
  implicit_none (Some e) h = let n = h e refl in omega (arith, n)

  module _ (free : Names) where
    -- a name has no implicit arguments
    name_none : (at : WrittenPlace) (k : Option Head) (i : Option ℕ) (o : List Skeleton) (w : Written) (q : List Skeleton) (b : Bool) → NameIsBare es k → found (resolved_name at k i) o ≡ Some (w, q) → total (term_spots es b w) ≡ zero
    name_none at (Some (constant c)) i o w q b h e = subst (λ x. total (term_spots es b x) ≡ zero) (parts_of (forms.declared c at) w o q e).0 (implicit_none (entry es c) h)
    name_none at (Some (variable j)) i o w q b h e = subst (λ x. total (term_spots es b x) ≡ zero) (parts_of (forms.bound j) w o q e).0 refl
    name_none at (Some (metavariable m)) i o w q b h e = absurd h
    name_none at None i o w q b h e = absurd h

    family_name_none : (at : WrittenPlace) (k : Option Head) (o : List Skeleton) (w : WrittenType) (q : List Skeleton) → NameIsBare es k → found (resolved_family at k) o ≡ Some (w, q) → total (type_spots es w) ≡ zero
    family_name_none at (Some (constant c)) o w q h e = subst (λ x. total (type_spots es x) ≡ zero) (parts_of (forms.family c at) w o q e).0 (implicit_none (entry es c) h)
    family_name_none at (Some (variable j)) o w q h e = absurd cc
    family_name_none at (Some (metavariable m)) o w q h e = absurd h
    family_name_none at None o w q h e = absurd h

    -- A text that is bare in the scope M is resolved in N, which lacks the variables of arrows.
    wider_by_arrow : (M N : Names) → IsWider es M N → IsWider es (None ∷ M) N
    wider_by_arrow M N f x h = f x (before_variable es (variable_of M x) (number_of es x) h)

    mutual
      pub term_none : (P : Term) (M N : Names) (o : List Skeleton) (w : Written) (q : List Skeleton) (b : Bool) → IsWider es M N → TermIsBare es M P → resolved_term es free N P o ≡ Some (w, q) → total (term_spots es b w) ≡ zero
      term_none (identifier x at) M N o w q b f h e = name_none (place_of at) (named es N x) (variable_of free x) o w q b (f x h) e
      term_none (lambda x at D P) M N o w q b f (h, k) e =
          let (d, n, m, i, j, s) = both_parts forms.function (resolved_domain es free N (place_of at) D o) (resolved_term es free (binder_name x ∷ N) P) w q e in
          subst (λ y. total (term_spots es b y) ≡ zero) (sym s) (none_behind (domain_spots es d) (term_spots es b m) (domain_none (place_of at) D M N o d n f h i) (term_none P (binder_name x ∷ M) (binder_name x ∷ N) n m q b (wider_under es (binder_name x) M N f) k j))
      term_none (application P Q) M N o w q b f (h, k) e =
          let (m, n, p, i, j, s) = both_parts forms.applied (resolved_term es free N P o) (resolved_term es free N Q) w q e in
          subst (λ y. total (term_spots es b y) ≡ zero) (sym s) (none_behind (term_spots es false m) (term_spots es true p) (term_none P M N o m n false f h i) (term_none Q M N n p q true f k j))
      term_none (arrow U V) M N o w q b f h e = absurd cc
      term_none (pi x at D V) M N o w q b f h e = absurd cc
      term_none star M N o w q b f h e = absurd cc
      term_none (hole at) M N o w q b f h e = absurd h
      term_none (ascription P U) M N o w q b f h e = absurd h

      pub type_none : (U : Term) (M N : Names) (o : List Skeleton) (w : WrittenType) (q : List Skeleton) → IsWider es M N → TypeIsBare es M U → resolved_type es free N U o ≡ Some (w, q) → total (type_spots es w) ≡ zero
      type_none (identifier x at) M N o w q f h e = family_name_none (place_of at) (named es N x) o w q (f x h) e
      type_none (arrow U V) M N o w q f (h, k) e =
          let (u, n, v, i, j, s) = both_parts forms.arrow (resolved_type es free N U o) (resolved_type es free N V) w q e in
          subst (λ y. total (type_spots es y) ≡ zero) (sym s) (none_behind (type_spots es u) (type_spots es v) (type_none U M N o u n f h i) (type_none V (None ∷ M) N n v q (wider_by_arrow M N f) k j))
      type_none (pi x at D V) M N o w q f (h, k) e =
          let (d, n, v, i, j, s) = both_parts forms.quantified (resolved_domain es free N (place_of at) D o) (resolved_type es free (binder_name x ∷ N) V) w q e in
          subst (λ y. total (type_spots es y) ≡ zero) (sym s) (none_behind (domain_spots es d) (type_spots es v) (domain_none (place_of at) D M N o d n f h i) (type_none V (binder_name x ∷ M) (binder_name x ∷ N) n v q (wider_under es (binder_name x) M N f) k j))
      type_none (application P Q) M N o w q f (h, k) e =
          let (u, n, p, i, j, s) = argument_parts (resolved_type es free N P o) (resolved_term es free N Q) w q e in
          subst (λ y. total (type_spots es y) ≡ zero) (sym s) (none_behind (type_spots es u) (term_spots es true p) (type_none P M N o u n f h i) (term_none Q M N n p q true f k j))
      type_none star M N o w q f h e = absurd cc
      type_none (hole at) M N o w q f h e = absurd h
      type_none (lambda x at D P) M N o w q f h e = absurd h
      type_none (ascription P U) M N o w q f h e = absurd h

      domain_none : (at : WrittenPlace) (D : Domain) (M N : Names) (o : List Skeleton) (d : WrittenDomain) (q : List Skeleton) → IsWider es M N → DomainIsBare es M D → resolved_domain es free N at D o ≡ Some (d, q) → total (domain_spots es d) ≡ zero
      domain_none at untyped M N o d q f h e = absurd h
      domain_none at (typed U) M N o d q f h e =
          let (u, n, i, k) = and_then_parts (resolved_type es free N U o) (λ V p. given (forms.of_type V) p) d q e in
          subst (λ y. total (domain_spots es y) ≡ zero) (parts_of (forms.of_type u) d n q k).0 (type_none U M N o u n f h i)

    kind_none : (U : Term) (M N : Names) (o : List Skeleton) (w : WrittenKind) (q : List Skeleton) → IsWider es M N → TypeIsBare es M U → resolved_kind es free N U o ≡ Some (w, q) → total (kind_spots es w) ≡ zero
    kind_none star M N o w q f h e = subst (λ y. total (kind_spots es y) ≡ zero) (parts_of forms.written_star w o q e).0 refl
    kind_none (arrow U V) M N o w q f (h, k) e =
        let (u, n, v, i, j, s) = both_parts forms.kind_arrow (resolved_type es free N U o) (resolved_kind es free N V) w q e in
        subst (λ y. total (kind_spots es y) ≡ zero) (sym s) (none_behind (type_spots es u) (kind_spots es v) (type_none U M N o u n f h i) (kind_none V (None ∷ M) N n v q (wider_by_arrow M N f) k j))
    kind_none (pi x at D V) M N o w q f (h, k) e =
        let (d, n, v, i, j, s) = both_parts forms.kind_quantified (resolved_domain es free N (place_of at) D o) (resolved_kind es free (binder_name x ∷ N) V) w q e in
        subst (λ y. total (kind_spots es y) ≡ zero) (sym s) (none_behind (domain_spots es d) (kind_spots es v) (domain_none (place_of at) D M N o d n f h i) (kind_none V (binder_name x ∷ M) (binder_name x ∷ N) n v q (wider_under es (binder_name x) M N f) k j))
    kind_none (identifier x at) M N o w q f h e = absurd cc
    kind_none (application P Q) M N o w q f h e = absurd cc
    kind_none (hole at) M N o w q f h e = absurd h
    kind_none (lambda x at D P) M N o w q f h e = absurd h
    kind_none (ascription P U) M N o w q f h e = absurd h

    pub body_none : (U : Term) (o : List Skeleton) (w : WrittenBody) → TypeIsBare es [] U → taken_whole (classifier_read es free [] (ends_in_type U) U o) ≡ Some w → total (body_spots es w) ≡ zero
    body_none U o w h r = by (ends_in_type U) (whole_parts (classifier_read es free [] (ends_in_type U) U o) w r)
      where
        by : (t : Bool) → classifier_read es free [] t U o ≡ Some (w, []) → total (body_spots es w) ≡ zero
        by true e = let (k, i, j) = one_part written_family (resolved_kind es free [] U o) w [] e in subst (λ y. total (body_spots es y) ≡ zero) (sym j) (kind_none U [] [] o k [] (λ x n. n) h i)
        by false e = let (V, i, j) = one_part written_constant (resolved_type es free [] U o) w [] e in subst (λ y. total (body_spots es y) ≡ zero) (sym j) (type_none U [] [] o V [] (λ x n. n) h i)

  body_numbered : (frees : List ℕ) (w : WrittenBody) (s s' : State) (b : Body) → ElaboratesBody es frees w s s' b → IsNumbered s → IsNumbered s'
  body_numbered frees (written_family k) s s' (declare_family K) x n = (kind_adds es frees x n).numbered
  body_numbered frees (written_constant U) s s' (declare_constant A) x n = (type_adds es frees x n).numbered
  body_numbered frees (written_definition M d) s s' (declare_definition R A c) (e, x) n = (infers_adds es frees x n).numbered
  body_numbered frees (written_definition_of M U d) s s' (declare_definition R A c) (e, t, x, y) n = (checks_adds es frees y (type_adds es frees x n).numbered).numbered
  body_numbered frees w s s' b x n = absurd x

  frees_none : {ts : List Skeleton} {s s' : State} {ms : List ℕ} → NewFrees es ts s s' ms → ts ≡ [] → s' ≡ s
  frees_none no_frees e = refl
  frees_none (next_free a f) e = absurd cc

  -- what is made of what makes none, and has no free variable, has no metavariable
  pub made_none : (w : WrittenBody) (frees : List ℕ) (s : State) (b : Body) → total (body_spots es w) ≡ zero → IsMade es [] w frees s b → (m : ℕ) → s.metavariables m ≡ None
  made_none w frees s b none made m =
      let all : s.next ≡ total (body_spots es w) = (spots_all es [] frees made.with_frees s made.frees_made w b made.body_made).0 in
      let begun : IsNumbered made.with_frees = subst IsNumbered (sym (frees_none made.frees_made refl)) (record { fresh = λ k l. refl; full = λ k l. (let no : ⊥ = omega (arith, l) in absurd no) }) in
      (body_numbered frees w made.with_frees s b made.body_made begun).fresh m (omega (arith, none, all))

-- where no metavariable is given, none stands inside of the given ones
inside_none : (given : ℕ → Type 0) → ((m : ℕ) → given m → ⊥) → {bs : List Binding} {m : ℕ} → IsInside given bs m → ⊥
inside_none given h (is_given {m = m} g) = h m g
inside_none given h (inside_value b i member mentions) = inside_none given h i

flexible_none : (V : ℕ → Type 0) → ((m : ℕ) → V m → ⊥) → (M : LfTerm) → MetavariablesIn V M → IsFlexible M → ⊥
flexible_none V h (lf_lambda M) i f = f
flexible_none V h (root (constant c) S) i f = f
flexible_none V h (root (variable j) S) i f = f
flexible_none V h (root (metavariable m) S) (v, i) f = h m v

-- so no equation can be left over
pub left_none : (Σ : Signature) (s : State) → ((m : ℕ) → s.metavariables m ≡ None) → (after : Store) → Left Σ (store_of s) after → ⊥
left_none Σ s none after l = by after.equations l.some_left l.all_left_over
  where
    no_inside : (m : ℕ) → IsInside (Declares s.metavariables) after.bindings m → ⊥
    no_inside m i = inside_none (Declares s.metavariables) (λ k (A, e). none_is_not_some (none k) e) i

    one : (e : Equation) → LeftOver s.metavariables after e → ⊥
    one e h = either h.outside.flexible
      where
        either : IsFlexible h.shown.left ⊎ IsFlexible h.shown.right → ⊥
        either (inl f) = flexible_none (IsInside (Declares s.metavariables) after.bindings) no_inside h.shown.left h.inside_left f
        either (inr f) = flexible_none (IsInside (Declares s.metavariables) after.bindings) no_inside h.shown.right h.inside_right f

    by : (qs : List Equation) → (qs ≡ [] → ⊥) → AllLeftOver s.metavariables after qs → ⊥
    by [] some all = some refl
    by (q ∷ qs) some (h, all) = one q h

-- and steps make none
step_none : {Σ : Signature} {s s' : Store} → Step Σ s s' → ((m : ℕ) → s.metavariables m ≡ None) → (m : ℕ) → s'.metavariables m ≡ None
step_none (next_equation es e fs) h = h
step_none (put_bindings p q) h = h
step_none drop_equal h = h
step_none open_lambdas h = h
step_none (equal_heads k A r t) h = h
step_none (bind side D m xs N C e u p b) h = absurd (none_is_not_some (h m) e)
step_none (prune_inside side D m xs N C e p c u n x) h = absurd (none_is_not_some (h m) e)
step_none (prune_both side D m xs N C e p c u n x) h = absurd (none_is_not_some (h m) e)
step_none (renew m A A' e u b p n x) h = absurd (none_is_not_some (h m) e)

pub run_none : {Σ : Signature} {s s' : Store} → Run Σ s s' → ((m : ℕ) → s.metavariables m ≡ None) → (m : ℕ) → s'.metavariables m ≡ None
run_none no_step h = h
run_none (then_run t r) h = run_none r (step_none t h)

-- and nothing becomes a quantifier
pub context_none : (s : metas.State) → ((m : ℕ) → types_of s m ≡ None) → {ms : List ℕ} {G : List LfType} → IsContextOf s ms G → (ms ≡ []) × (G ≡ [])
context_none s h no_quantifiers = (refl, refl)
context_none s h (one_inside m A B c t p g) = absurd (none_is_not_some (h m) t)
