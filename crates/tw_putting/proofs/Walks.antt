-- Terms in environments with the values put in: what stands at a head.
use Rattle.std.proofs.Common.{◌≡◌, ℕ, suc, ◌+◌, ◌-◌, ◌<◌, List, [], ◌∷◌, length, drop, Option, Some, None, slice_get, inl, inr, refl, sym, ap, ap₂, ◌∙◌, subst, add-one, arith}
use Rattle.std.proofs.lemmas.Grind.{common_steps}
use Rattle.lf.specs.AtOnce.{shift_by}
use Rattle.lf.specs.Depth.{depth, spine_depth, type_depth}
use Rattle.lf.specs.SkeletonTyping.{TermSkeleton, SpineSkeleton}
use Rattle.lf.specs.Subordination.{Member}
use Rattle.lf.specs.Substitution.{reduce}
use Rattle.lf.specs.Syntax.{constant, variable, metavariable, Skeleton, Spine, Term, LfType, arrow, atom, base, lambda, pi, rename, root, skeleton}
use Rattle.lf.proofs.AtOnce.{drop_by_skeletons}
use Rattle.lf.proofs.Renaming.{substitute_identity}
use Rattle.lf.proofs.SkeletonTyping.{substitution_keeps_spine_skeletons}
use Rattle.lf_closures.specs.Environments.{Environment, substitution_in, outside, under_one_more, move_by, stays, closure, found, value_in, spine_value_in, type_value_in, applied_in}
use Rattle.lf_closures.proofs.Steps.{body_value, closure_value, moved_value, range_value, variable_value}
use Rattle.lf_closures.proofs.Values.{environment_by_skeletons, move_by_fits}
use Rattle.lf_unification.specs.Filling.{fill, fill_metavariable, fill_type, moved}
use Rattle.lf_unification.specs.OpenTyping.{skeletons_of}
use Rattle.lf_unification.specs.Putting.{Unbound}
use Rattle.lf_unification.specs.Skeletons.{TotalSkeletons, as_head_skeletons, skeleton_or_default, total_skeletons}
use Rattle.lf_unification.specs.Unifiers.{Binding}
use Rattle.tw_metas.specs.State.{State, joined, value_of}
use Rattle.tw_putting.specs.Frames.{Frame, InFrame, AppliesInFrame, Enters, StoreInFrame, WalkFits}
use Rattle.tw_putting.specs.Stores.{bindings_from, bindings_of, types_of, with_binding}
use Rattle.tw_putting.specs.Values.{put_spine_value, put_type_value, put_value, values_to, values_under}
use Rattle.tw_putting.proofs.Filled.{declared_at, moved_once_more, moved_unbound, unbound_has_none, value_at}
use Rattle.tw_putting.proofs.Frames.{closure_in_frame}
use Rattle.tw_putting.proofs.PutTotal.{bound_filled}

values_once_more : (s : State) (k : ℕ) → moved suc (values_under s k) ≡ values_under s (suc k)
unfolding values_under
values_once_more s k = moved_once_more k (values_to (skeletons_of (types_of s)) (bindings_of s) (length (bindings_of s)))

-- Under a lambda.
lambda_value : (s : State) (k : ℕ) (e : Environment) (M : Term) → lambda (put_value s (suc k) (under_one_more e) M) ≡ put_value s k e (lambda M)
unfolding put_value
lambda_value s k e M =
    ap (λ f. lambda (fill (skeletons_of (types_of s)) f (value_in (under_one_more e) M))) (sym (values_once_more s k))
    ∙ ap (fill (skeletons_of (types_of s)) (values_under s k)) (body_value e M)

pub lambda_value_by : (s : State) (k n : ℕ) (e e' : Environment) (M N R : Term) → M ≡ lambda N → e' ≡ under_one_more e → n ≡ k + 1 → R ≡ put_value s n e' N → lambda R ≡ put_value s k e M
lambda_value_by s k n e e' M N R p q r v = ap lambda (v ∙ ap (λ j. put_value s j e' N) (r ∙ add-one k) ∙ ap (λ E. put_value s (suc k) E N) q) ∙ lambda_value s k e N ∙ sym (ap (put_value s k e) p)

-- At heads that stay.
pub constant_value : (s : State) (k : ℕ) (e : Environment) (c : ℕ) (S : Spine) → root (constant c) (put_spine_value s k e S) ≡ put_value s k e (root (constant c) S)
unfolding put_value put_spine_value
constant_value s k e c S = refl

stays_value : (s : State) (k : ℕ) (e : Environment) (i j : ℕ) (S : Spine) → found e i ≡ stays j → root (variable j) (put_spine_value s k e S) ≡ put_value s k e (root (variable i) S)
unfolding put_value put_spine_value
stays_value s k e i j S q = ap (fill (skeletons_of (types_of s)) (values_under s k)) (variable_value e i S j q)

pub stays_value_by : (s : State) (k : ℕ) (e : Environment) (M : Term) (i j : ℕ) (S : Spine) → M ≡ root (variable i) S → found e i ≡ stays j → root (variable j) (put_spine_value s k e S) ≡ put_value s k e M
stays_value_by s k e M i j S p q = stays_value s k e i j S q ∙ sym (ap (put_value s k e) p)

pub unbound_from : (vs : List (Option Term)) (m : ℕ) → joined (slice_get vs m) ≡ None → (ms : List ℕ) → Unbound (bindings_from ms vs) m
unbound_from vs m e [] = tt
unbound_from vs m e (x ∷ ms) = go (joined (slice_get vs x)) refl (unbound_from vs m e ms)
  where
    go : (y : Option Term) → joined (slice_get vs x) ≡ y → Unbound (bindings_from ms vs) m → Unbound (with_binding x y (bindings_from ms vs)) m
    go None q u = u
    go (Some N) q u = ((λ w. let r : joined (slice_get vs m) ≡ Some N = ap (λ j. joined (slice_get vs j)) w ∙ q in cc), u)

unbound_value : (s : State) (k : ℕ) (e : Environment) (m : ℕ) (S : Spine) → value_of s m ≡ None → root (metavariable m) (put_spine_value s k e S) ≡ put_value s k e (root (metavariable m) S)
unfolding put_value put_spine_value values_under
unbound_value s k e m S q =
    let μ = skeletons_of (types_of s) in
    let n : values_to μ (bindings_of s) (length (bindings_of s)) m ≡ None = unbound_has_none μ (bindings_of s) (length (bindings_of s)) m (unbound_from s.values m q s.bound) in
    sym (ap (λ x. fill_metavariable (μ m) m x (put_spine_value s k e S)) (moved_unbound k m (values_to μ (bindings_of s) (length (bindings_of s))) n))

pub unbound_value_by : (s : State) (k : ℕ) (e : Environment) (M : Term) (m : ℕ) (S : Spine) → M ≡ root (metavariable m) S → value_of s m ≡ None → root (metavariable m) (put_spine_value s k e S) ≡ put_value s k e M
unbound_value_by s k e M m S p q = unbound_value s k e m S q ∙ sym (ap (put_value s k e) p)

-- At a variable that has a closure.
pub closure_applies_in : (s : State) (k : ℕ) (e : Environment) (M : Term) (i : ℕ) (S T : Spine) (a : Skeleton) (N : Term) (c : Environment) (n : ℕ) → M ≡ root (variable i) S → S ≡ T → found e i ≡ closure a N c n → (w : WalkFits s k e M) → AppliesInFrame w.frame a N (move_by n c) T e
closure_applies_in s k e M i S T a N c n p q r w = subst (λ X. AppliesInFrame w.frame a N (move_by n c) X e) q (closure_in_frame w.frame e i S a N c n r (subst (InFrame w.frame e) p w.term_fits))

closure_value_in : (s : State) (k : ℕ) (e : Environment) (i : ℕ) (S : Spine) (a : Skeleton) (N : Term) (c : Environment) (n : ℕ) (M : Term) (d : Environment) → found e i ≡ closure a N c n → value_in d M ≡ applied_in a N (move_by n c) S e → put_value s k d M ≡ put_value s k e (root (variable i) S)
unfolding put_value
closure_value_in s k e i S a N c n M d q v = ap (fill (skeletons_of (types_of s)) (values_under s k)) (v ∙ closure_value e i S a N c n q)

pub closure_value_by : (s : State) (k : ℕ) (e : Environment) (M : Term) (i : ℕ) (S T : Spine) (a : Skeleton) (N : Term) (c : Environment) (n : ℕ) (B : Term) (d : Environment) → M ≡ root (variable i) S → S ≡ T → found e i ≡ closure a N c n → WalkFits s k e M → Enters a N (move_by n c) T e B d → put_value s k d B ≡ put_value s k e M
closure_value_by s k e M i S T a N c n B d p q r w x =
    closure_value_in s k e i S a N c n B d r (x.value w.frame (closure_applies_in s k e M i S T a N c n p q r w) ∙ sym (ap (λ X. applied_in a N (move_by n c) X e) q)) ∙ sym (ap (put_value s k e) p)

pub closure_walk_by : (s : State) (k : ℕ) (e : Environment) (M : Term) (i : ℕ) (S T : Spine) (a : Skeleton) (N : Term) (c : Environment) (n : ℕ) (B : Term) (d : Environment) → M ≡ root (variable i) S → S ≡ T → found e i ≡ closure a N c n → WalkFits s k e M → Enters a N (move_by n c) T e B d → WalkFits s k d B
closure_walk_by s k e M i S T a N c n B d p q r w x = record { frame = w.frame; store_fits = w.store_fits; term_fits = x.typed w.frame (closure_applies_in s k e M i S T a N c n p q r w) }

-- At a metavariable that has a value.
pub member_from : (vs : List (Option Term)) (m : ℕ) (N : Term) → joined (slice_get vs m) ≡ Some N → (ms : List ℕ) → Member m ms → Member (record { of = m; value = N }) (bindings_from ms vs)
member_from vs m N e [] i = absurd i
member_from vs m N e (x ∷ ms) (inl q) =
    let r : joined (slice_get vs x) ≡ Some N = ap (λ j. joined (slice_get vs j)) (sym q) ∙ e in
    subst (λ y. Member (record { of = m; value = N }) (with_binding x y (bindings_from ms vs))) (sym r) (inl (ap (λ j. record { of = j; value = N }) q))
member_from vs m N e (x ∷ ms) (inr i) = go (joined (slice_get vs x)) (member_from vs m N e ms i)
  where
    go : (y : Option Term) → Member (record { of = m; value = N }) (bindings_from ms vs) → Member (record { of = m; value = N }) (with_binding x y (bindings_from ms vs))
    go None j = j
    go (Some K) j = inr j

some_skeleton : {a t : Skeleton} → Some a ≡ Some t → a ≡ t
some_skeleton e = cc

meta_in_frame : (s : State) (k : ℕ) (f : Frame) (e : Environment) (m : ℕ) (S : Spine) (A : LfType) (N : Term) → value_of s m ≡ Some N → types_of s m ≡ Some A → StoreInFrame s k f → InFrame f e (root (metavariable m) S) → AppliesInFrame f (skeleton A) N (move_by k outside) S e
meta_in_frame s k f e m S A N v y h x = go x.term_skeleton x.term_typed
  where
    same : skeletons_of (types_of s) m ≡ skeleton A
    same = ap skeleton_or_default y

    typed : TermSkeleton f.heads (drop k f.target) N (skeleton A)
    typed =
        let κ : TotalSkeletons = total_skeletons h.signature (skeletons_of (types_of s)) in
        subst (λ H. TermSkeleton H (drop k f.target) N (skeleton A)) (sym h.same_heads) (subst (TermSkeleton (as_head_skeletons κ) (drop k f.target) N) same (value_at h.signature (types_of s) (drop k f.target) (bindings_of s) h.store_typed.values (record { of = m; value = N }) (member_from s.values m N v s.bound (h.store_typed.bound m N v))))

    head : (t : Skeleton) → f.heads.metavariable_skeleton m ≡ Some t → skeleton A ≡ t
    head t g = sym same ∙ some_skeleton (sym (ap (λ H. H.metavariable_skeleton m) h.same_heads) ∙ g)

    go : (t : Skeleton) → TermSkeleton f.heads x.context (root (metavariable m) S) t → AppliesInFrame f (skeleton A) N (move_by k outside) S e
    go (arrow a b) z = absurd z
    go (base d) (t, g, z) = record {
      context = drop k f.target;
      arguments_context = x.context;
      family = d;
      environment_fits = move_by_fits f.heads k outside (drop k f.target) (drop k f.target) f.target (drop_by_skeletons k f.target) (λ i u j. j);
      term_typed = typed;
      arguments_fit = x.environment_fits;
      spine_typed = subst (λ u. SpineSkeleton f.heads x.context S u (base d)) (sym (head t g)) z;
    }

pub meta_applies_in : (s : State) (k : ℕ) (e c : Environment) (M : Term) (m : ℕ) (S T : Spine) (A : LfType) (N : Term) → M ≡ root (metavariable m) S → S ≡ T → c ≡ outside → value_of s m ≡ Some N → types_of s m ≡ Some A → (w : WalkFits s k e M) → AppliesInFrame w.frame (skeleton A) N (move_by k c) T e
meta_applies_in s k e c M m S T A N p q r v y w =
    subst (λ E. AppliesInFrame w.frame (skeleton A) N (move_by k E) T e) (sym r)
    (subst (λ X. AppliesInFrame w.frame (skeleton A) N (move_by k outside) X e) q (meta_in_frame s k w.frame e m S A N v y (w.store_fits m N v) (subst (InFrame w.frame e) p w.term_fits)))

pub moved_out : (k : ℕ) (N : Term) → value_in (move_by k outside) N ≡ rename (shift_by k) N
moved_out k N = sym (moved_value k outside N) ∙ ap (rename (shift_by k)) (substitute_identity reduce N)

meta_value : (s : State) (k : ℕ) (e : Environment) (m : ℕ) (S : Spine) (A : LfType) (N B : Term) (d : Environment) → value_of s m ≡ Some N → types_of s m ≡ Some A → (f : Frame) → StoreInFrame s k f → AppliesInFrame f (skeleton A) N (move_by k outside) S e → value_in d B ≡ applied_in (skeleton A) N (move_by k outside) S e → put_value s k d B ≡ put_value s k e (root (metavariable m) S)
unfolding put_value values_under
meta_value s k e m S A N B d v y f h x q =
    let μ = skeletons_of (types_of s) in
    let b : Binding = record { of = m; value = N } in
    let same : μ m ≡ skeleton A = ap skeleton_or_default y in
    let S' : Spine = spine_value_in e S in
    let i : Member b (bindings_of s) = member_from s.values m N v s.bound (h.store_typed.bound m N v) in
    let t : SpineSkeleton f.heads f.target S' (skeleton A) (base x.family) = substitution_keeps_spine_skeletons f.heads x.arguments_context f.target (substitution_in e) S (skeleton A) (base x.family) (environment_by_skeletons f.heads e x.arguments_context f.target x.arguments_fit) x.spine_typed in
    let t' : SpineSkeleton (as_head_skeletons (total_skeletons h.signature μ)) f.target S' (μ m) (base x.family) = subst (λ H. SpineSkeleton H f.target S' (μ m) (base x.family)) h.same_heads (subst (λ u. SpineSkeleton f.heads f.target S' u (base x.family)) (sym same) t) in
    ap (fill μ (values_under s k)) (q ∙ ap (λ X. reduce (skeleton A) X S') (moved_out k N) ∙ ap (λ u. reduce u (rename (shift_by k) N) S') (sym same))
    ∙ bound_filled h.signature (types_of s) (drop k f.target) (bindings_of s) h.store_typed.values h.store_typed.ordered k f.target (drop_by_skeletons k f.target) b i S' x.family t'

pub meta_value_by : (s : State) (k : ℕ) (e c : Environment) (M : Term) (m : ℕ) (S T : Spine) (A : LfType) (N B : Term) (d : Environment) → M ≡ root (metavariable m) S → S ≡ T → c ≡ outside → value_of s m ≡ Some N → types_of s m ≡ Some A → WalkFits s k e M → Enters (skeleton A) N (move_by k c) T e B d → put_value s k d B ≡ put_value s k e M
meta_value_by s k e c M m S T A N B d p q r v y w z =
    let x : AppliesInFrame w.frame (skeleton A) N (move_by k outside) S e = meta_applies_in s k e outside M m S S A N p refl refl v y w in
    let u : Enters (skeleton A) N (move_by k outside) S e B d = subst (λ E. Enters (skeleton A) N (move_by k E) S e B d) r (subst (λ X. Enters (skeleton A) N (move_by k c) X e B d) (sym q) z) in
    meta_value s k e m S A N B d v y w.frame (w.store_fits m N v) x (u.value w.frame x) ∙ sym (ap (put_value s k e) p)

pub meta_walk_by : (s : State) (k : ℕ) (e c : Environment) (M : Term) (m : ℕ) (S T : Spine) (A : LfType) (N B : Term) (d : Environment) → M ≡ root (metavariable m) S → S ≡ T → c ≡ outside → value_of s m ≡ Some N → types_of s m ≡ Some A → WalkFits s k e M → Enters (skeleton A) N (move_by k c) T e B d → WalkFits s k d B
meta_walk_by s k e c M m S T A N B d p q r v y w z = record { frame = w.frame; store_fits = w.store_fits; term_fits = z.typed w.frame (meta_applies_in s k e c M m S T A N p q r v y w) }

-- a metavariable with a value is declared
pub value_is_declared : (s : State) (k : ℕ) (e : Environment) (M : Term) (m : ℕ) (N : Term) → value_of s m ≡ Some N → WalkFits s k e M → types_of s m ≡ None → ⊥
value_is_declared s k e M m N v w n =
    let h : StoreInFrame s k w.frame = w.store_fits m N v in
    let (A, q) = declared_at h.signature (types_of s) (drop k w.frame.target) (bindings_of s) h.store_typed.values (record { of = m; value = N }) (member_from s.values m N v s.bound (h.store_typed.bound m N v)) in
    let r : Some A ≡ None = sym q ∙ n in cc

-- Depths, and the range of a type.
pub depth_positive : (M : Term) → 0 < depth M
depth_positive (lambda M) = omega arith
depth_positive (root h S) = omega arith

pub type_depth_positive : (A : LfType) → 0 < type_depth A
type_depth_positive (pi A B) = omega arith
type_depth_positive (atom a S) = omega arith

pub body_deep : (s : State) (l k n : ℕ) (e e' : Environment) (M N : Term) → M ≡ lambda N → e' ≡ under_one_more e → n ≡ k + 1 → l - 1 < depth (put_value s n e' N) → l < depth (put_value s k e M)
body_deep s l k n e e' M N p q r h =
    let y : l < depth (lambda (put_value s n e' N)) = omega arith in
    subst (λ X. l < depth X) (lambda_value_by s k n e e' M N (put_value s n e' N) p q r refl) y

range_put : (s : State) (k : ℕ) (e : Environment) (A B : LfType) → pi (put_type_value s k e A) (put_type_value s (suc k) (under_one_more e) B) ≡ put_type_value s k e (pi A B)
unfolding put_type_value
range_put s k e A B =
    ap (λ X. pi (fill_type (skeletons_of (types_of s)) (values_under s k) (type_value_in e A)) X)
    (ap (λ f. fill_type (skeletons_of (types_of s)) f (type_value_in (under_one_more e) B)) (sym (values_once_more s k)) ∙ ap (fill_type (skeletons_of (types_of s)) (moved suc (values_under s k))) (range_value e (under_one_more e) B refl))

pub range_put_by : (s : State) (k n : ℕ) (e e' : Environment) (C A B X Y : LfType) → C ≡ pi A B → e' ≡ under_one_more e → n ≡ k + 1 → X ≡ put_type_value s k e A → Y ≡ put_type_value s n e' B → pi X Y ≡ put_type_value s k e C
range_put_by s k n e e' C A B X Y p q r x y =
    ap₂ pi x (y ∙ ap (λ j. put_type_value s j e' B) (r ∙ add-one k) ∙ ap (λ E. put_type_value s (suc k) E B) q) ∙ range_put s k e A B ∙ sym (ap (put_type_value s k e) p)

pub atom_put : (s : State) (k : ℕ) (e : Environment) (a : ℕ) (S : Spine) → atom a (put_spine_value s k e S) ≡ put_type_value s k e (atom a S)
unfolding put_type_value put_spine_value
atom_put s k e a S = refl

pub atom_put_by : (s : State) (k : ℕ) (e : Environment) (C : LfType) (a : ℕ) (S : Spine) → C ≡ atom a S → atom a (put_spine_value s k e S) ≡ put_type_value s k e C
atom_put_by s k e C a S p = atom_put s k e a S ∙ sym (ap (put_type_value s k e) p)

pub range_deep : (s : State) (l k n : ℕ) (e e' : Environment) (C A B : LfType) → C ≡ pi A B → e' ≡ under_one_more e → n ≡ k + 1 → l - 1 < type_depth (put_type_value s n e' B) → l < type_depth (put_type_value s k e C)
range_deep s l k n e e' C A B p q r h = subst (λ X. l < type_depth X) (range_put_by s k n e e' C A B (put_type_value s k e A) (put_type_value s n e' B) p q r refl refl) (above_range l (put_type_value s k e A) (put_type_value s n e' B) h)
  where
    above_range : (j : ℕ) (X Y : LfType) → j - 1 < type_depth Y → j < type_depth (pi X Y)
    above_range j X Y x = grind (arith, common_steps)

pub domain_deep : (s : State) (l k : ℕ) (e : Environment) (C A B : LfType) → C ≡ pi A B → l - 1 < type_depth (put_type_value s k e A) → l < type_depth (put_type_value s k e C)
domain_deep s l k e C A B p h = subst (λ X. l < type_depth X) (range_put_by s k (suc k) e (under_one_more e) C A B (put_type_value s k e A) (put_type_value s (suc k) (under_one_more e) B) p refl (sym (add-one k)) refl refl) (above_domain l (put_type_value s k e A) (put_type_value s (suc k) (under_one_more e) B) h)
  where
    above_domain : (j : ℕ) (X Y : LfType) → j - 1 < type_depth X → j < type_depth (pi X Y)
    above_domain j X Y x = grind (arith, common_steps)

pub atom_deep : (s : State) (l k : ℕ) (e : Environment) (C : LfType) (a : ℕ) (S : Spine) → C ≡ atom a S → l - 1 < spine_depth (put_spine_value s k e S) → l < type_depth (put_type_value s k e C)
atom_deep s l k e C a S p h = let y : l < type_depth (atom a (put_spine_value s k e S)) = omega arith in subst (λ X. l < type_depth X) (atom_put_by s k e C a S p) y
