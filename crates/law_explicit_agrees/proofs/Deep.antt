-- What can be deep of an explicit declaration that gives an entry: the entry, or its typing.
use Rattle.std.proofs.Common.{◌≡◌, ℕ, ◌<◌, zero, suc, List, [], Option, None, Some, ◌⊎◌, inl, inr, refl, sym, ap, ap₂, ◌∙◌, subst, arith}
use Rattle.std.proofs.Math.Nat.{le-max_left, le-max_right}
use Rattle.lf.specs.Depth.{depth, depth_limit, kind_depth, type_depth}
use Rattle.lf.specs.Entries.{Body, Entry, IsCanonicalSignature, declare_constant, declare_definition, declare_family, signature_of}
use Rattle.lf.specs.Substitution.{Image, reduce}
use Rattle.lf.specs.Syntax.{Kind, LfType, Skeleton, Spine, Term as LfTerm, app, atom, constant, kind_pi, lambda as lf_lambda, metavariable, pi as lf_pi, root, star, variable}
use Rattle.lf.specs.Typing.{Signature}
use Rattle.lf.proofs.Closed.{closed_kind_substituted, closed_type_substituted}
use Rattle.lf.proofs.Depth.{below_max}
use Rattle.lf_unification.specs.DeepEquations.{AreDeep}
use Rattle.lf_unification.specs.OpenTyping.{Declares, MetavariablesIn, MetavariablesInSpine, MetavariablesInType}
use Rattle.lf_unification.specs.Putting.{PutsIn, PutsInSpine, PutsInType, put_at_bound, put_at_rigid, put_at_unbound, put_in_argument, put_in_atom, put_in_pi, put_nowhere, put_under_lambda}
use Rattle.lf_unification.specs.Solving.{Solved}
use Rattle.lf_unification.specs.Unifiers.{Binding}
use Rattle.lf_elaboration.specs.Elaboration.{NewFrees}
use Rattle.lf_elaboration.specs.Kinds.{MetavariablesInKind}
use Rattle.lf_elaboration.specs.Principal.{Completion, IsCompletion, WrittenBody, substitute_body}
use Rattle.lf_elaboration.specs.PrincipalLaws.{fill_body}
use Rattle.lf_elaboration.specs.SiteLaws.{total}
use Rattle.lf_elaboration.specs.Sites.{body_spots}
use Rattle.lf_elaboration.specs.State.{State, nothing_yet, store_of}
use Rattle.lf_elaboration.proofs.Full.{fill_none, fill_none_kind, fill_none_type, full_no_equation}
use Rattle.lf_elaboration.proofs.Principal.{BodyIsMade, body_made, read_off_principal}
use Rattle.tw_approx.specs.Answer.{Rows}
use Rattle.tw_approx.specs.Names.{IsFreeVariable}
use Rattle.tw_approx.specs.Nesting.{annotation_depth, text_depth, written_depth}
use Rattle.tw_lexer.specs.declared.place.Place.{Place}
use Rattle.tw_metas.specs.State as metas
use Rattle.tw_parse.specs.Syntax.{Term, declare, define, give, prefer}
use Rattle.tw_putting.specs.Stores.{PutsDeepType, bindings_of, types_of}
use Rattle.tw_recon.specs.Causes.{BodyReachesDeep, HasCause}
use Rattle.tw_recon.specs.Reading.{BodyIsDeep, KindIsDeep}
use Rattle.tw_recon.specs.Reconstruction.{IsMade}
use Rattle.tw_recon.specs.declared.fault.ReconFault.TheVariants.{TooDeep}
use Rattle.tw_resolve.specs.Resolved.{names_of, resolved_body}
use Rattle.tw_putting.specs.Whole.{whole}
use Rattle.law_explicit_form.specs.Completion.{BodyGiven, Completes}
use Rattle.law_explicit_form.specs.Explicit.{IsExplicit}
use Rattle.law_explicit_form.proofs.Gives.{kind_typed, type_typed}
use Rattle.law_explicit_agrees.specs.Agreement.{IsPrincipallyCompleted}
use Rattle.law_explicit_agrees.specs.Shallow.{ExplicitIsDeepOnlySo}
use Rattle.law_explicit_agrees.proofs.Annotations.{kind_annotated, type_annotated}
use Rattle.law_explicit_agrees.proofs.Given.{kind_depth_given, type_depth_given}
use Rattle.law_explicit_agrees.proofs.Bare.{type_closed, whole_bare}
use Rattle.law_explicit_agrees.proofs.Fitting.{some_is}
use Rattle.law_explicit_agrees.proofs.Nothing.{body_none, made_none, none_is_not_some}
use Rattle.law_explicit_agrees.proofs.Reached.{elaboration_deep}
use Rattle.law_explicit_agrees.proofs.Shallow.{IsShallow, empty_shallow, nothing_deep}
use Rattle.law_explicit_agrees.proofs.Whole.{completed_principal}

-- Where no metavariable is declared nothing is put in.
module _ (V : ℕ → Type 0) (absent : (m : ℕ) → V m → ⊥) where
  module _ (Ψ : ℕ → Option LfType) (bs : List Binding) where
    mutual
      put_none : {k : ℕ} {M M' : LfTerm} → PutsIn Ψ bs k M M' → MetavariablesIn V M → M' ≡ M
      put_none (put_under_lambda d) i = ap lf_lambda (put_none d i)
      put_none (put_at_rigid (constant c) r d) i = ap (root (constant c)) (put_none_spine d i)
      put_none (put_at_rigid (variable j) r d) i = ap (root (variable j)) (put_none_spine d i)
      put_none (put_at_rigid (metavariable m) r d) i = absurd r
      put_none (put_at_unbound {m = m} u d) (v, i) = absurd (absent m v)
      put_none (put_at_bound b h d r e) (v, i) = absurd (absent b.of v)

      put_none_spine : {k : ℕ} {S S' : Spine} → PutsInSpine Ψ bs k S S' → MetavariablesInSpine V S → S' ≡ S
      put_none_spine put_nowhere i = refl
      put_none_spine (put_in_argument d e) (i, j) = ap₂ app (put_none d i) (put_none_spine e j)

    put_none_type : {k : ℕ} {A A' : LfType} → PutsInType Ψ bs k A A' → MetavariablesInType V A → A' ≡ A
    put_none_type (put_in_atom {a = a} d) i = ap (atom a) (put_none_spine d i)
    put_none_type (put_in_pi d e) (i, j) = ap₂ lf_pi (put_none_type d i) (put_none_type e j)

  -- of a body
  abbrev NoneIn : Body → Type 0
  NoneIn (declare_family K) = MetavariablesInKind V K
  NoneIn (declare_constant A) = MetavariablesInType V A
  NoneIn (declare_definition M A b) = MetavariablesIn V M × MetavariablesInType V A

  filled_none : (μ : ℕ → Skeleton) (β : ℕ → Option LfTerm) (b : Body) → NoneIn b → fill_body μ β b ≡ b
  filled_none μ β (declare_family K) i = ap declare_family (fill_none_kind V absent μ β K i)
  filled_none μ β (declare_constant A) i = ap declare_constant (fill_none_type V absent μ β A i)
  filled_none μ β (declare_definition M A b) (i, j) = ap₂ (λ N B. declare_definition N B b) (fill_none V absent μ β M i) (fill_none_type V absent μ β A j)

  -- so what is deep with the values put in is deep itself
  put_type_deep : (after : metas.State) (k : ℕ) (A : LfType) → MetavariablesInType V A → PutsDeepType after k A → depth_limit < type_depth A
  put_type_deep after k A i (B, p, l) = subst (λ X. depth_limit < type_depth X) (put_none_type (types_of after) (bindings_of after) p i) l

  put_kind_deep : (after : metas.State) (k : ℕ) (K : Kind) → MetavariablesInKind V K → KindIsDeep after k K → depth_limit < kind_depth K
  put_kind_deep after k (kind_pi A K) (i, j) (inl h) = let l = put_type_deep after k A i h in let m = le-max_left (type_depth A) (kind_depth K) in omega (arith, l, m)
  put_kind_deep after k (kind_pi A K) (i, j) (inr h) = let l = put_kind_deep after (suc k) K j h in let m = le-max_right (type_depth A) (kind_depth K) in omega (arith, l, m)
  put_kind_deep after k star i h = absurd h

  put_body_deep : (Σ : Signature) (after : metas.State) (b : Body) → NoneIn b → BodyIsDeep after b → BodyReachesDeep Σ b
  put_body_deep Σ after (declare_family K) i h = inl (put_kind_deep after zero K i h)
  put_body_deep Σ after (declare_constant A) i h = inl (put_type_deep after zero A i h)
  put_body_deep Σ after (declare_definition M A b) (i, j) (inl (N, p, l)) = inr (inl (subst (λ X. depth_limit < depth X) (put_none (types_of after) (bindings_of after) p i) l))
  put_body_deep Σ after (declare_definition M A b) (i, j) (inr h) = inl (inl (put_type_deep after zero A j h))

-- of what is elaborated, where no metavariable is made
none_in : (es : List Entry) (canonical : IsCanonicalSignature es) (frees : List ℕ) (s s' : State) (f : NewFrees es [] nothing_yet s frees) (absent : (m : ℕ) → Declares s'.metavariables m → ⊥) (b : Body) → BodyIsMade es canonical [] frees s s' f b → NoneIn (Declares s'.metavariables) absent b
none_in es canonical frees s s' f absent (declare_family K) m = m.declared
none_in es canonical frees s s' f absent (declare_constant A) m = m.declared
none_in es canonical frees s s' f absent (declare_definition M A b) m = (m.declared, m.of_type.declared)

module _ (es : List Entry) (canonical : IsCanonicalSignature es) (c : List ℕ) (at : Place) (U : Term) (e : Entry) (x : IsExplicit es (declare c at U)) (g : Completes es (declare c at U) e) where
  abbrev principal : IsPrincipallyCompleted es (declare c at U) e
  principal = completed_principal es canonical c at U e x g

  not_free : (y : List ℕ) → IsFreeVariable es y (declare c at U) → ⊥
  not_free y h = type_closed es y U [] (whole_bare es U x.1) h

  makes_none : (rows : Rows) (o : List Skeleton) (w : WrittenBody) → resolved_body es rows o (declare c at U) ≡ Some w → total (body_spots es w) ≡ zero
  makes_none rows o w r = body_none es (names_of rows) U o w (whole_bare es U x.1) r

  -- what is given is closed
  given_closed : (σ : ℕ → Image) (b : Body) → BodyGiven es U b → substitute_body σ b ≡ b
  given_closed σ (declare_family K) k = ap declare_family (closed_kind_substituted (signature_of es) reduce σ K (kind_typed es U [] [] K k))
  given_closed σ (declare_constant A) k = ap declare_constant (closed_type_substituted (signature_of es) reduce σ A (type_typed es U [] [] A k))
  given_closed σ (declare_definition M A b) k = absurd k

  module _ (w : WrittenBody) (r : resolved_body es [] [] (declare c at U) ≡ Some w) where
    -- so each completion has this body
    completion_body : (k : Completion) → IsCompletion es [] w k → k.body ≡ e.body
    completion_body k h =
        let i = principal.principal.most_general k (subst (λ v. IsCompletion es [] v k) (sym (some_is (sym principal.resolved ∙ r))) h) in
        sym i.body ∙ given_closed i.terms e.body g.body

    module _ (frees : List ℕ) (s : State) (b : Body) (made : IsMade es [] w frees s b) where
      none_made : (m : ℕ) → Declares s.metavariables m → ⊥
      none_made m (A, k) = none_is_not_some (made_none es w frees s b (makes_none [] [] w r) made m) k

      body_none_in : NoneIn (Declares s.metavariables) none_made b
      body_none_in = none_in es canonical frees made.with_frees s made.frees_made none_made b (body_made es canonical [] frees made.with_frees s made.frees_made w b made.body_made)

      -- and the open body is this one
      open_body_is : (after : metas.State) → Solved (signature_of es) (store_of s) (whole [] after) → b ≡ e.body
      open_body_is after z =
          let (vs, h, p) = read_off_principal es canonical [] frees made.with_frees s made.frees_made w b made.body_made (whole [] after) z in
          sym (filled_none (Declares s.metavariables) none_made _ _ b body_none_in) ∙ completion_body _ p.completion

      open_body_deep : (after : metas.State) → Solved (signature_of es) (store_of s) (whole [] after) → BodyIsDeep after b → BodyReachesDeep (signature_of es) e.body
      open_body_deep after z h = subst (BodyReachesDeep (signature_of es)) (open_body_is after z) (put_body_deep (Declares s.metavariables) none_made (signature_of es) after b body_none_in h)

    -- no equation is made of it, since it has a completion
    equations_shallow : (frees : List ℕ) (s : State) (b : Body) → IsMade es [] w frees s b → AreDeep depth_limit (signature_of es) (store_of s) → ⊥
    equations_shallow frees s b made deep =
        let none : (m : ℕ) → s.metavariables m ≡ None = made_none es w frees s b (makes_none [] [] w r) made in
        let completion : IsCompletion es [] w (record { quantifiers = []; frees = []; body = e.body }) = subst (λ v. IsCompletion es [] v (record { quantifiers = []; frees = []; body = e.body })) (some_is (sym principal.resolved ∙ r)) principal.principal.completion in
        let no_equation : s.equations ≡ [] = full_no_equation es canonical [] frees made.with_frees s made.frees_made w b made.body_made none (record { quantifiers = []; frees = []; body = e.body }) completion in
        empty_shallow (signature_of es) (store_of s) no_equation refl none deep

    explicit_shallow : (BodyReachesDeep (signature_of es) e.body → ⊥) → IsShallow es w
    explicit_shallow entry = record {
      elaboration = λ h. entry (elaboration_deep es canonical c at U e.body w x g.body r h);
      equations = equations_shallow;
      body = λ frees s b after made z h. entry (open_body_deep frees s b made after z h);
      completion = λ frees b p h. entry (subst (BodyReachesDeep (signature_of es)) (completion_body (record { quantifiers = []; frees = frees; body = b }) p.completion) h);
    }

    -- What stays of the text is no deeper than the entry, and where an annotation is deep, so is what the entry's typing reaches.
    text_deep : (b : Body) → BodyGiven es U b → depth_limit < text_depth es U → BodyReachesDeep (signature_of es) b
    text_deep b k h = by b k (below_max depth_limit (written_depth es U) (annotation_depth es U) h)
      where
        by : (b : Body) → BodyGiven es U b → (depth_limit < written_depth es U) ⊎ (depth_limit < annotation_depth es U) → BodyReachesDeep (signature_of es) b
        by (declare_family K) k (inl h) = let l = kind_depth_given es U [] [] K k in inl (omega (arith, h, l))
        by (declare_family K) k (inr h) = inr (kind_annotated es U [] [] K k h)
        by (declare_constant A) k (inl h) = let l = type_depth_given es U [] [] A k in inl (omega (arith, h, l))
        by (declare_constant A) k (inr h) = inr (type_annotated es U [] [] A k h)
        by (declare_definition M A b) k h = absurd k

    -- Where the entry isn't deep, nothing is.
    nothing_deep_explicit : (BodyReachesDeep (signature_of es) e.body → ⊥) → HasCause es (declare c at U) TooDeep → ⊥
    nothing_deep_explicit entry = nothing_deep es (declare c at U) not_free makes_none principal.skeletons w r (λ h. entry (text_deep e.body g.body h)) (explicit_shallow entry)

pub explicit_deep_only_so : ExplicitIsDeepOnlySo
explicit_deep_only_so es canonical (declare c at U) e x g entry =
    let p = completed_principal es canonical c at U e x g in
    nothing_deep_explicit es canonical c at U e x g p.written p.resolved entry
explicit_deep_only_so es canonical (define c A M b) e x g entry = absurd g
explicit_deep_only_so es canonical (prefer a y z) e x g entry = absurd g
explicit_deep_only_so es canonical (give fix names) e x g entry = absurd g
