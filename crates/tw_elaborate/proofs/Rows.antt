-- A head on arguments takes one more, and a row of arguments is put to what stands before it.
use Rattle.std.proofs.Common.{◌≡◌, ◌<◌, ℕ, zero, suc, List, [], ◌∷◌, ◌++◌, Bor, Box, Global, MatchOption, None, Option, Some, Vec, inl, inr, refl, sym, ap, ap₂, ◌∙◌, subst}
use Rattle.std.proofs.lemmas.List.{map-append}
use Rattle.lf.specs.Depth.{depth_limit, type_depth}
use Rattle.lf.specs.Entries.{Entry, IsCanonicalSignature, signature_of}
use Rattle.lf.specs.Eta.{add_last, eta_expand}
use Rattle.lf.specs.SkeletonTyping.{HeadSkeletons, TermSkeleton}
use Rattle.lf.specs.Substitution.{Image, reduce, single, substitute, substitute_spine}
use Rattle.lf.specs.Syntax.{Head, LfType, Skeleton, Spine, Term, app, arrow, constant, lambda, metavariable, nil, pi, rename_head, rename_spine, root, skeleton, variable}
use Rattle.lf.specs.Typing.{instantiate_type}
use Rattle.lf.proofs.Eta.{single_eta, substitute_eta_expand}
use Rattle.lf.proofs.Renaming.{substitute_identity_spine, substitute_renamed_spine}
use Rattle.lf.proofs.SkeletonTyping.{single_by_skeletons}
use Rattle.lf.proofs.TypeLaws.{skeleton_substituted}
use Rattle.lf_elaboration.specs.Elaboration.{Checks, Infers, IsInferred, at_applied}
use Rattle.lf_elaboration.specs.Skeletons.{TermHasSkeleton, TypeHasSkeletons}
use Rattle.lf_elaboration.specs.State.{State}
use Rattle.lf_elaboration.specs.Written.{Written, applied}
use Rattle.tw_hered.specs.Fits.{TermFits, TypeFits}
use Rattle.tw_terms.specs.OpenView.{open_type_of}
use Rattle.tw_terms.specs.declared.open_terms.OpenTy.{OpenTy}
use Rattle.tw_terms.proofs.Args.{types_and_skeletons}
use Rattle.tw_written.proofs.Views.{written_views}
use Rattle.tw_written.specs.View.{written_of}
use Rattle.tw_written.specs.declared.written.Written.{Written as Syntax}
use Rattle.tw_elaborate.specs.Deep.{ChecksDeep, InfersDeep, deep_application, deep_argument, deep_function, deep_inferred, deep_left_type}
use Rattle.tw_elaborate.specs.Fits.{Stands}
use Rattle.tw_elaborate.specs.Fresh.{Keeps}
use Rattle.tw_elaborate.specs.Operators.{Applies, IsNext, IsTerm, PutsIn, PutsInDeep, TakesArgumentDeep, applied_to, operator_of, written_terms}
use Rattle.tw_elaborate.specs.Rows.{Reached}
use Rattle.tw_elaborate.specs.declared.waiting.Next.{Next}
use Rattle.tw_elaborate.specs.declared.waiting.Next.TheVariants.{Argument, Nothing}
use Rattle.tw_elaborate.specs.declared.operators.Operator.{Operator}
use Rattle.tw_elaborate.specs.View.{made}
use Rattle.tw_elaborate.specs.declared.waiting.Begun.{Begun}
use Rattle.tw_elaborate.specs.declared.waiting.Waiting.{Waiting}
use Rattle.tw_elaborate.specs.declared.state.Elaboration.{Elaboration}
use Rattle.tw_elaborate.proofs.Following.{inferred_stands, inferred_term, inferred_type, operator_applies, range_fits}

-- one more argument, put in through a substitution
substitute_last : (σ : ℕ → Image) (S : Spine) (N : Term) → substitute_spine reduce σ (add_last S N) ≡ add_last (substitute_spine reduce σ S) (substitute reduce σ N)
substitute_last σ nil N = refl
substitute_last σ (app M S) N = ap (app (substitute reduce σ M)) (substitute_last σ S N)

-- the eta-long form of a head on S, under its first lambda, with N put in: the head on S and N
module _ (κ : HeadSkeletons) (a b : Skeleton) (Δ : List Skeleton) (S : Spine) (N : Term) (n : TermSkeleton κ Δ N a) where
  last_put : substitute_spine reduce (single a N) (add_last (rename_spine suc S) (eta_expand a (variable zero) nil)) ≡ add_last S N
  last_put = substitute_last (single a N) (rename_spine suc S) (eta_expand a (variable zero) nil) ∙ ap₂ add_last (substitute_renamed_spine reduce (single a N) suc S ∙ substitute_identity_spine reduce S) (single_eta κ a Δ N n)

  head_takes : (h : Head) → substitute reduce (single a N) (eta_expand b (rename_head suc h) (add_last (rename_spine suc S) (eta_expand a (variable zero) nil))) ≡ eta_expand b h (add_last S N)
  head_takes (constant c) = substitute_eta_expand (single a N) b (constant c) (constant c) (add_last (rename_spine suc S) (eta_expand a (variable zero) nil)) refl ∙ ap (eta_expand b (constant c)) last_put
  head_takes (metavariable m) = substitute_eta_expand (single a N) b (metavariable m) (metavariable m) (add_last (rename_spine suc S) (eta_expand a (variable zero) nil)) refl ∙ ap (eta_expand b (metavariable m)) last_put
  head_takes (variable i) = substitute_eta_expand (single a N) b (variable (suc i)) (variable i) (add_last (rename_spine suc S) (eta_expand a (variable zero) nil)) refl ∙ ap (eta_expand b (variable i)) last_put

pub head_put : (a b : Skeleton) (h : Head) (S T : Spine) (N : Term) → Applies a b (eta_expand (arrow a b) h S) N → T ≡ add_last S N → PutsIn a (eta_expand (arrow a b) h S) N (eta_expand b h T)
head_put a b h S T N f t = record {
  body = eta_expand b (rename_head suc h) (add_last (rename_spine suc S) (eta_expand a (variable zero) nil));
  is = refl;
  result = ap (eta_expand b h) t ∙ sym (head_takes f.heads a b f.context S N f.argument_typed h);
}

-- the body of a lambda
pub lambda_fits : (a b : Skeleton) (M N R : Term) → M ≡ lambda R → Applies a b M N → TermFits (single a N) R
lambda_fits a b M N R m f = record {
  heads = f.heads;
  context = a ∷ f.context;
  target = f.context;
  term_skeleton = b;
  substitution_typed = single_by_skeletons f.heads a f.context N f.argument_typed;
  term_typed = subst (λ (P : Term). TermSkeleton f.heads f.context P (arrow a b)) m f.function_typed;
}

is_lambda : (κ : HeadSkeletons) (Γ : List Skeleton) (M : Term) (a b : Skeleton) → TermSkeleton κ Γ M (arrow a b) → (R : Term) × (M ≡ lambda R)
is_lambda κ Γ (lambda R) a b m = (R, refl)
is_lambda κ Γ (root h S) a b m = absurd m

-- rows of arguments
pub applied_to-push : (F P : Written) (Ps : List Written) → applied_to F (Ps ++ P ∷ []) ≡ applied_to (applied F P) Ps
applied_to-push F P [] = refl
applied_to-push F P (Q ∷ Ps) = ap (λ M. applied M Q) (applied_to-push F P Ps)

pub arguments_less : (old new : List (Bor Syntax)) (p : Bor Syntax) → old ≡ new ++ p ∷ [] → written_terms old ≡ written_terms new ++ written_of p.now ∷ []
arguments_less old new p e = ap written_terms e ∙ map-append (λ (x : Bor Syntax). written_of x.now) new (p ∷ [])

module _ (es : List Entry) (ns : List ℕ) (D : List LfType) where
  pub deep_row : (F : Written) (s : State) (Ps : List Written) → InfersDeep es ns D F s → InfersDeep es ns D (applied_to F Ps) s
  deep_row F s [] d = d
  deep_row F s (P ∷ Ps) d = deep_function (deep_row F s Ps d)

  pub all_reached : (W : Written) (s t : State) (Ps : List Written) (o : Operator) (A : LfType) (M : Term) → Ps ≡ [] → M ≡ operator_of (skeleton A) o → Reached es ns D W s Ps t o A → Infers es ns D W s t M A
  all_reached W s t Ps o A M e m r =
      let w : r.so_far ≡ W = ap (applied_to r.so_far) (sym e) ∙ r.is in
      subst (λ N. Infers es ns D W s t N A) (sym m) (subst (λ F. Infers es ns D F s t (operator_of (skeleton A) o) A) w r.inferred)

  -- the next argument is P, and X and B are the domain and the range of the type
  module _ {W : Written} {s t : State} {Qs : List Written} {o : Operator} {A : LfType} (r : Reached es ns D W s Qs t o A) (Ps : List Written) (P : Written) (q : Qs ≡ Ps ++ P ∷ []) (X B : LfType) (e : A ≡ pi X B) where
    pub next_inferred : Infers es ns D r.so_far s t (operator_of (arrow (skeleton X) (skeleton B)) o) (pi X B)
    next_inferred = subst (λ Y. Infers es ns D r.so_far s t (operator_of (skeleton Y) o) Y) e r.inferred

    next_is : applied_to (applied r.so_far P) Ps ≡ W
    next_is = sym (applied_to-push r.so_far P Ps) ∙ ap (applied_to r.so_far) (sym q) ∙ r.is

    pub reached_next : {u : State} {Q : Term} (o' : Operator) (Y : LfType) → Checks es ns D P X t u Q → PutsIn (skeleton X) (operator_of (arrow (skeleton X) (skeleton B)) o) Q (operator_of (skeleton B) o') → Y ≡ instantiate_type X Q B → (IsTerm o' → IsTerm o) → Reached es ns D W s Ps u o' Y
    reached_next {u = u} {Q = Q} o' Y c p y stays =
        let k : skeleton Y ≡ skeleton B = ap skeleton y ∙ skeleton_substituted reduce (single (skeleton X) Q) B in
        let i : Infers es ns D (applied r.so_far P) s u (substitute reduce (single (skeleton X) Q) p.body) (instantiate_type X Q B) = at_applied (subst (λ M. Infers es ns D r.so_far s t M (pi X B)) p.is next_inferred) c in
        record {
          so_far = applied r.so_far P;
          is = next_is;
          reducible = λ i. r.reducible (stays i);
          inferred = subst (λ a. Infers es ns D (applied r.so_far P) s u (operator_of a o') Y) (sym k) (subst (λ Z. Infers es ns D (applied r.so_far P) s u (operator_of (skeleton B) o') Z) (sym y) (subst (λ M. Infers es ns D (applied r.so_far P) s u M (instantiate_type X Q B)) (sym p.result) i));
        }

    put_deep : {u : State} {Q : Term} → Checks es ns D P X t u Q → PutsInDeep (skeleton X) (operator_of (arrow (skeleton X) (skeleton B)) o) Q → IsTerm o → InfersDeep es ns D W s
    put_deep c p i = subst (λ F. InfersDeep es ns D F s) next_is (deep_row (applied r.so_far P) s Ps (deep_application (r.reducible i) (subst (λ M. Infers es ns D r.so_far s t M (pi X B)) p.is next_inferred) c p.deep))

    module _ (canonical : IsCanonicalSignature es) (w : Stands (signature_of es) s D) where
      next_typed : TermHasSkeleton (signature_of es) t D (operator_of (arrow (skeleton X) (skeleton B)) o) (pi X B)
      next_typed = inferred_term es canonical ns w next_inferred

      next_type : TypeHasSkeletons (signature_of es) t D (pi X B)
      next_type = inferred_type es canonical ns w next_inferred D refl

      pub next_stands : (E : List LfType) → E ≡ D → Stands (signature_of es) t E
      next_stands E k = inferred_stands es canonical ns w next_inferred E k

      pub next_domain : (E : List LfType) → E ≡ D → TypeHasSkeletons (signature_of es) t E X
      next_domain E k = subst (λ F. TypeHasSkeletons (signature_of es) t F X) (sym k) next_type.0

      pub argument_deep : ChecksDeep es ns D P X t → InfersDeep es ns D W s
      argument_deep d =
          let (R, m) = is_lambda _ _ (operator_of (arrow (skeleton X) (skeleton B)) o) (skeleton X) (skeleton B) next_typed in
          subst (λ F. InfersDeep es ns D F s) next_is (deep_row (applied r.so_far P) s Ps (deep_argument (subst (λ M. Infers es ns D r.so_far s t M (pi X B)) m next_inferred) d))

      left_deep : {u : State} {Q : Term} → Checks es ns D P X t u Q → depth_limit < type_depth (instantiate_type X Q B) → InfersDeep es ns D W s
      left_deep c d =
          let (R, m) = is_lambda _ _ (operator_of (arrow (skeleton X) (skeleton B)) o) (skeleton X) (skeleton B) next_typed in
          subst (λ F. InfersDeep es ns D F s) next_is (deep_row (applied r.so_far P) s Ps (deep_left_type (at_applied (subst (λ M. Infers es ns D r.so_far s t M (pi X B)) m next_inferred) c) d))

      -- in the term, or in the type that is left
      pub taken_deep : {u : State} {Q : Term} → Checks es ns D P X t u Q → TakesArgumentDeep o X B Q → InfersDeep es ns D W s
      taken_deep c (inl (i, p)) = put_deep c p i
      taken_deep c (inr d) = left_deep c d

      pub next_applies : {u : State} {Q : Term} → Checks es ns D P X t u Q → Applies (skeleton X) (skeleton B) (operator_of (arrow (skeleton X) (skeleton B)) o) Q
      next_applies c = operator_applies es canonical ns (next_stands D refl) next_type.0 c (operator_of (arrow (skeleton X) (skeleton B)) o) B next_typed

      pub next_range_fits : {u : State} {Q : Term} → Checks es ns D P X t u Q → TypeFits (single (skeleton X) Q) B
      next_range_fits c = range_fits es canonical ns (next_stands D refl) next_type.0 c B next_type

-- the last row that waits is taken off, or none waits
pub popped : (r : Option (Box Waiting Global)) (p : Box Waiting Global) (old new : List Waiting) → r ≡ Some p → MatchOption r (old ≡ []) (λ w. old ≡ new ++ w.value ∷ []) → old ≡ new ++ p.value ∷ []
popped r p old new e m = subst (λ x. MatchOption x (old ≡ []) (λ w. old ≡ new ++ w.value ∷ [])) e m

pub none_popped : (r : Option (Box Waiting Global)) (old new : List Waiting) → r ≡ None → MatchOption r (old ≡ []) (λ w. old ≡ new ++ w.value ∷ []) → old ≡ []
none_popped r old new e m = subst (λ x. MatchOption x (old ≡ []) (λ w. old ≡ new ++ w.value ∷ [])) e m

-- rows that wait, each for the next one
module _ (es : List Entry) (ns : List ℕ) (D : List LfType) where
  -- p is the row W, from s, and waits for P, from t
  abbrev pub WaitsFor : Waiting → Written → State → Written → State → Type 0
  WaitsFor p W s P t = Reached es ns D W s (written_terms p.args.items ++ P ∷ []) t p.operator (pi (open_type_of p.domain) (open_type_of p.range))

  -- the first one is W, from s, and the last one waits for P, from t
  abbrev pub Waits : List Waiting → Written → State → Written → State → Type 0
  Waits [] W s P t = (W ≡ P) × (s ≡ t)
  Waits (p ∷ ps) W s P t = (Q : Written) × (u : State) × WaitsFor p W s Q u × IsInferred Q × Waits ps Q u P t

  one_more_waits : (ps : List Waiting) (p : Waiting) (W Q P : Written) (s u t : State) → Waits ps W s Q u → WaitsFor p Q u P t → IsInferred P → Waits (ps ++ p ∷ []) W s P t
  one_more_waits [] p W Q P s u t (e, f) w n = (P, t, subst (λ F. WaitsFor p F s P t) (sym e) (subst (λ v. WaitsFor p Q v P t) (sym f) w), n, (refl, refl))
  one_more_waits (q ∷ qs) p W Q P s u t (V, v, x, m, xs) w n = (V, v, x, m, one_more_waits qs p V Q P v u t xs w n)

  last_waits : (ps : List Waiting) (p : Waiting) (W P : Written) (s t : State) → Waits (ps ++ p ∷ []) W s P t → (Q : Written) × (u : State) × Waits ps W s Q u × WaitsFor p Q u P t × IsInferred P
  last_waits [] p W P s t (Q, u, w, n, (e, f)) = (W, s, (refl, refl), subst (λ F. WaitsFor p W s F t) e (subst (λ v. WaitsFor p W s Q v) f w), subst IsInferred e n)
  last_waits (q ∷ qs) p W P s t (V, v, x, m, xs) = let (Q, u, y, w, n) = last_waits qs p V P v t xs in (Q, u, (V, v, x, m, y), w, n)

  module _ (canonical : IsCanonicalSignature es) where
    waiting_stands : (ps : List Waiting) (W P : Written) (s t : State) → Waits ps W s P t → Stands (signature_of es) s D → Stands (signature_of es) t D
    waiting_stands [] W P s t (e, f) w = subst (λ v. Stands (signature_of es) v D) f w
    waiting_stands (p ∷ ps) W P s t (Q, u, x, n, xs) w = waiting_stands ps Q P u t xs (next_stands es ns D x (written_terms p.args.items) Q refl (open_type_of p.domain) (open_type_of p.range) refl canonical w D refl)

    -- what is too deep in the last row is it in the first one
    waiting_deep : (ps : List Waiting) (W P : Written) (s t : State) → Waits ps W s P t → Stands (signature_of es) s D → InfersDeep es ns D P t → InfersDeep es ns D W s
    waiting_deep [] W P s t (e, f) w d = subst (λ F. InfersDeep es ns D F s) (sym e) (subst (λ v. InfersDeep es ns D P v) (sym f) d)
    waiting_deep (p ∷ ps) W P s t (Q, u, x, n, xs) w d =
        let v = next_stands es ns D x (written_terms p.args.items) Q refl (open_type_of p.domain) (open_type_of p.range) refl canonical w D refl in
        argument_deep es ns D x (written_terms p.args.items) Q refl (open_type_of p.domain) (open_type_of p.range) refl canonical w (deep_inferred n (waiting_deep ps Q P u t xs v d))

  -- the rows ps wait, and in the row that the last of them waits for all but the arguments Ps is elaborated
  pub record AllReached (ps : List Waiting) (W : Written) (s : State) (Ps : List Written) (t : State) (o : Operator) (A : LfType) : Type 0 where
    pub inner : Written
    pub begin : State
    pub waits : Waits ps W s inner begin
    pub reached : Reached es ns D inner begin Ps t o A

  -- the rows ps wait, and p waits for P, from t
  pub record Asks (ps : List Waiting) (p : Waiting) (W : Written) (s : State) (P : Written) (t : State) : Type 0 where
    pub inner : Written
    pub begin : State
    pub waits : Waits ps W s inner begin
    pub asks : WaitsFor p inner begin P t

  pub first_reached : {W : Written} {s t : State} {Ps : List Written} {o : Operator} {A : LfType} (ps : List Waiting) → ps ≡ [] → Reached es ns D W s Ps t o A → AllReached ps W s Ps t o A
  first_reached {W = W} {s = s} ps e r = record { inner = W; begin = s; waits = subst (λ qs. Waits qs W s W s) (sym e) (refl, refl); reached = r }

  -- the next argument
  asks_next : {ps : List Waiting} {W : Written} {s t : State} {o : Operator} {A : LfType} (old : List (Bor Syntax)) (new : Vec (Bor Syntax) Global) (arg : Bor Syntax) (p : Waiting) →
      AllReached ps W s (written_terms old) t o A → old ≡ new.items ++ arg ∷ [] → p.operator ≡ o → A ≡ pi (open_type_of p.domain) (open_type_of p.range) → p.args ≡ new → Asks ps p W s (written_of arg.now) t
  asks_next {t = t} {o = o} {A = A} old new arg p r q e a x =
      let P = written_of arg.now in
      let l : written_terms old ≡ written_terms p.args.items ++ P ∷ [] = arguments_less old new.items arg q ∙ ap (λ (v : Vec (Bor Syntax) Global). written_terms v.items ++ P ∷ []) (sym x) in
      record {
        inner = r.inner;
        begin = r.begin;
        waits = r.waits;
        asks = subst (λ Y. Reached es ns D r.inner r.begin (written_terms p.args.items ++ P ∷ []) t p.operator Y) a (subst (λ u. Reached es ns D r.inner r.begin (written_terms p.args.items ++ P ∷ []) t u A) (sym e) (subst (λ Qs. Reached es ns D r.inner r.begin Qs t o A) l r.reached));
      }

  pub next_asks : {ps : List Waiting} {W : Written} {s t : State} (b : Begun) (n : Next) (arg : Bor Syntax) (p : Box Waiting Global) →
      n ≡ Argument arg p → IsNext b n → AllReached ps W s (written_terms b.args.items) t b.operator (open_type_of b.ty) → Asks ps p.value W s (written_of arg.now) t
  next_asks b n arg p e i r =
      let j : IsNext b (Argument arg p) = subst (IsNext b) e i in
      asks_next b.args.items p.value.args arg p.value r j.0 j.1 j.2 refl

  -- and a row waits for this one
  pub record Finished (ps : List Waiting) (p : Waiting) (W : Written) (s t : State) (M : Term) (A : LfType) : Type 0 where
    pub row : Written
    pub begin : State
    pub asks : Asks ps p W s row begin
    pub is_inferred : IsInferred row
    pub inferred : Infers es ns D row begin t M A

  finished : {W : Written} {s t : State} {o : Operator} {A : LfType} (old new : List Waiting) (p : Waiting) (xs : List (Bor Syntax)) (M : Term) (Y : LfType) → old ≡ new ++ p ∷ [] → written_terms xs ≡ [] → M ≡ operator_of (skeleton A) o → Y ≡ A → AllReached old W s (written_terms xs) t o A → Finished new p W s t M Y
  finished {W = W} {s = s} {t = t} {o = o} {A = A} old new p xs M Y e n m x r =
      let i : Infers es ns D r.inner r.begin t M A = all_reached es ns D r.inner r.begin t (written_terms xs) o A M n m r.reached in
      let (Q, u, y, w, k) = last_waits new p W r.inner s r.begin (subst (λ qs. Waits qs W s r.inner r.begin) e r.waits) in
      record {
        row = r.inner;
        begin = r.begin;
        asks = record { inner = Q; begin = u; waits = y; asks = w };
        is_inferred = k;
        inferred = subst (λ X. Infers es ns D r.inner r.begin t M X) (sym x) i;
      }

  -- all arguments are there
  pub nothing_left : {ps : List Waiting} {W : Written} {s t : State} (b : Begun) (n : Next) (d : Box Begun Global) →
      n ≡ Nothing d → IsNext b n → AllReached ps W s (written_terms b.args.items) t b.operator (open_type_of b.ty) → AllReached ps W s [] t d.value.operator (open_type_of d.value.ty)
  nothing_left {ps = ps} {W = W} {s = s} {t = t} b n d e i r =
      let j : IsNext b (Nothing d) = subst (IsNext b) e i in
      subst (λ X. AllReached ps W s [] t d.value.operator (open_type_of X)) (sym j.2) (subst (λ o. AllReached ps W s [] t o (open_type_of b.ty)) (sym j.1) (subst (λ xs. AllReached ps W s (written_terms xs) t b.operator (open_type_of b.ty)) j.0 r))

  pub all_found : {W : Written} {s t : State} (ps : List Waiting) (d : Begun) (M : Term) (Y : OpenTy) →
      ps ≡ [] → M ≡ operator_of (skeleton (open_type_of d.ty)) d.operator → Y ≡ d.ty → AllReached ps W s [] t d.operator (open_type_of d.ty) → Infers es ns D W s t M (open_type_of Y)
  all_found {W = W} {s = s} {t = t} ps d M Y e m y r =
      let A = open_type_of d.ty in
      let w : (W ≡ r.inner) × (s ≡ r.begin) = subst (λ qs. Waits qs W s r.inner r.begin) e r.waits in
      let i : Infers es ns D r.inner r.begin t M A = all_reached es ns D r.inner r.begin t [] d.operator A M refl m r.reached in
      subst (λ X. Infers es ns D W s t M X) (sym (ap open_type_of y)) (subst (λ F. Infers es ns D F s t M A) (sym w.0) (subst (λ v. Infers es ns D r.inner v t M A) (sym w.1) i))

  pub next_finished : {W : Written} {s t : State} (old new : List Waiting) (p : Waiting) (b : Begun) (n : Next) (d : Box Begun Global) (M : Term) (Y : OpenTy) →
      n ≡ Nothing d → IsNext b n → old ≡ new ++ p ∷ [] → M ≡ operator_of (skeleton (open_type_of d.value.ty)) d.value.operator → Y ≡ d.value.ty → AllReached old W s (written_terms b.args.items) t b.operator (open_type_of b.ty) → Finished new p W s t M (open_type_of Y)
  next_finished old new p b n d M Y e i q m y r = finished old new p [] M (open_type_of Y) q refl m (ap open_type_of y) (nothing_left b n d e i r)

  -- the same, between the values of the program
  abbrev pub RowsOf : Vec Waiting Global → Box Begun Global → Elaboration → Elaboration → Written → Type 0
  RowsOf waiting begun start now W = AllReached waiting.items W (made start) (written_terms begun.value.args.items) (made now) begun.value.operator (open_type_of begun.value.ty) × Keeps start now

  pub rows_stay : (v w : Vec Waiting Global) (b d : Box Begun Global) (start s t : Elaboration) (W : Written) → s ≡ t → v ≡ w → b ≡ d → RowsOf w d start t W → RowsOf v b start s W
  rows_stay v w b d start s t W e f g r = subst (λ x. RowsOf v b start x W) (sym e) (subst (λ x. RowsOf x b start t W) (sym f) (subst (λ x. RowsOf w x start t W) (sym g) r))

  module _ {ps : List Waiting} {p : Waiting} {W P : Written} {s t : State} (k : Asks ps p W s P t) where
    -- a row is begun
    pub row_asked : {Ps : List Written} {u : State} {o : Operator} {A : LfType} (qs : List Waiting) → qs ≡ ps ++ p ∷ [] → IsInferred P → Reached es ns D P t Ps u o A → AllReached qs W s Ps u o A
    row_asked qs e n r = record {
      inner = P;
      begin = t;
      waits = subst (λ rs. Waits rs W s P t) (sym e) (one_more_waits ps p W k.inner P s k.begin t k.waits k.asks n);
      reached = r;
    }

    -- the argument is put in
    pub resumed : {u : State} {Q : Term} (args : Vec (Bor Syntax) Global) (o : Operator) (Y : LfType) → Checks es ns D P (open_type_of p.domain) t u Q →
        PutsIn (skeleton (open_type_of p.domain)) (operator_of (arrow (skeleton (open_type_of p.domain)) (skeleton (open_type_of p.range))) p.operator) Q (operator_of (skeleton (open_type_of p.range)) o) →
        Y ≡ instantiate_type (open_type_of p.domain) Q (open_type_of p.range) → args ≡ p.args → (IsTerm o → IsTerm p.operator) → AllReached ps W s (written_terms args.items) u o Y
    resumed {u = u} args o Y c i y x stays =
        let r = reached_next es ns D k.asks (written_terms p.args.items) P refl (open_type_of p.domain) (open_type_of p.range) refl o Y c i y stays in
        record {
          inner = k.inner;
          begin = k.begin;
          waits = k.waits;
          reached = subst (λ (v : Vec (Bor Syntax) Global). Reached es ns D k.inner k.begin (written_terms v.items) u o Y) (sym x) r;
        }

    module _ (canonical : IsCanonicalSignature es) (w : Stands (signature_of es) s D) where
      begin_stands : Stands (signature_of es) k.begin D
      begin_stands = waiting_stands canonical ps W k.inner s k.begin k.waits w

      pub asked_stands : (E : List LfType) → E ≡ D → Stands (signature_of es) t E
      asked_stands = next_stands es ns D k.asks (written_terms p.args.items) P refl (open_type_of p.domain) (open_type_of p.range) refl canonical begin_stands

      pub asked_domain : (E : List LfType) → E ≡ D → TypeHasSkeletons (signature_of es) t E (open_type_of p.domain)
      asked_domain = next_domain es ns D k.asks (written_terms p.args.items) P refl (open_type_of p.domain) (open_type_of p.range) refl canonical begin_stands

      pub asked_deep : ChecksDeep es ns D P (open_type_of p.domain) t → InfersDeep es ns D W s
      asked_deep d = waiting_deep canonical ps W k.inner s k.begin k.waits w (argument_deep es ns D k.asks (written_terms p.args.items) P refl (open_type_of p.domain) (open_type_of p.range) refl canonical begin_stands d)

      module _ {u : State} {Q : Term} (c : Checks es ns D P (open_type_of p.domain) t u Q) where
        pub asked_applies : Applies (skeleton (open_type_of p.domain)) (skeleton (open_type_of p.range)) (operator_of (arrow (skeleton (open_type_of p.domain)) (skeleton (open_type_of p.range))) p.operator) Q
        asked_applies = next_applies es ns D k.asks (written_terms p.args.items) P refl (open_type_of p.domain) (open_type_of p.range) refl canonical begin_stands c

        pub asked_range_fits : TypeFits (single (skeleton (open_type_of p.domain)) Q) (open_type_of p.range)
        asked_range_fits = next_range_fits es ns D k.asks (written_terms p.args.items) P refl (open_type_of p.domain) (open_type_of p.range) refl canonical begin_stands c

        pub asked_taken_deep : TakesArgumentDeep p.operator (open_type_of p.domain) (open_type_of p.range) Q → InfersDeep es ns D W s
        asked_taken_deep d = waiting_deep canonical ps W k.inner s k.begin k.waits w (taken_deep es ns D k.asks (written_terms p.args.items) P refl (open_type_of p.domain) (open_type_of p.range) refl canonical begin_stands c d)

pub ruleset rows = (types_and_skeletons, written_views, applied_to-push)
