-- What declaring and binding keep.
use Rattle.std.proofs.Common.{◌≡◌, ℕ, zero, suc, ◌+◌, List, [], ◌∷◌, ◌++◌, length, Option, Some, None, Result, Ok, Err, IfOk, Bool, IsTrue, slice_get, slice_set, refl, sym, ap, ◌∙◌, subst, arith}
use Rattle.std.specs.Option.{option_map}
use Rattle.std.specs.declared.alloc.AllocError.{AllocError}
use Rattle.lf.specs.Entries.{Entry, signature_of}
use Rattle.lf.specs.SkeletonTyping.{TermSkeleton}
use Rattle.lf.specs.Syntax.{LfType, Skeleton, Spine, Term, metavariable, root, skeleton}
use Rattle.lf_unification.specs.OpenTyping.{MetavariablesIn, MetavariablesInSpine}
use Rattle.tw_metas.specs.State.{Declaration, IsUnbound, State, Story, changed, empty_story, joined, value_of, with_declared, with_value}
use Rattle.tw_putting.specs.Stores.{types_of}
use Rattle.tw_putting.proofs.Kept.{bind_keeps, bind_keeps_bound, declare_keeps, declare_keeps_bound, empty_by_skeletons}
use Rattle.tw_putting.proofs.Walks.{unbound_from}
use Rattle.tests_substitution.specs.Kept.{IsBound, IsFree, MayHave, heads_of}

length_grown : {A : Type 0} (xs : List A) (y : A) → length (xs ++ y ∷ []) ≡ length xs + 1
length_grown [] y = refl
length_grown (x ∷ xs) y = let e = length_grown xs y in omega (arith, e)

length_set : {A : Type 0} (xs : List A) (i : ℕ) (y : A) → length (slice_set xs i y) ≡ length xs
length_set [] i y = refl
length_set (x ∷ xs) zero y = refl
length_set (x ∷ xs) (suc i) y = let e = length_set xs i y in omega (arith, e)

-- a list as long has something there too
there : {A B : Type 0} (xs : List A) (ys : List B) (i : ℕ) (x : A) → length ys ≡ length xs → slice_get xs i ≡ Some x → (y : B) × (slice_get ys i ≡ Some y)
there [] ys i x e g = cc
there (w ∷ xs) [] i x e g = absurd (omega (arith, e))
there (w ∷ xs) (y ∷ ys) zero x e g = (y, refl)
there (w ∷ xs) (y ∷ ys) (suc i) x e g = there xs ys i x (omega (arith, e)) g

pub empty_is_bound : (σ : List Entry) (Γ : List Skeleton) (y : Story) → y ≡ empty_story → IsBound σ Γ y.now
empty_is_bound σ Γ y p = subst (λ z. IsBound σ Γ z.now) (sym p) (record { typed = empty_by_skeletons (signature_of σ) Γ; bound = λ m i. absurd i; places = refl })

pub declared_is_bound : (σ : List Entry) (Γ : List Skeleton) (y z : Story) (G : List LfType) (A : LfType) → z ≡ changed y (with_declared y.now G A) → IsBound σ Γ y.now → IsBound σ Γ z.now
declared_is_bound σ Γ y z G A p b = subst (λ x. IsBound σ Γ x.now) (sym p) (record {
  typed = declare_keeps (signature_of σ) Γ y.now G A b.typed;
  bound = declare_keeps_bound y.now G A b.bound;
  places = length_grown y.now.values None ∙ ap (λ n. n + 1) b.places ∙ sym (length_grown y.now.declared (record { context = G; of_type = A }));
})

-- it is unbound where it is declared and has no value
is_unbound : (s : State) (m : ℕ) (d : Declaration) → length s.values ≡ length s.declared → slice_get s.declared m ≡ Some d → value_of s m ≡ None → IsUnbound s m
is_unbound s m d e g v = go (there s.declared s.values m d e g)
  where
    go : (o : Option Term) × (slice_get s.values m ≡ Some o) → IsUnbound s m
    go (o, h) = h ∙ ap Some (sym (ap joined h) ∙ v)

pub unbound_in : (σ : List Entry) (Γ : List Skeleton) (s : State) (m : ℕ) (d : Declaration) → IsBound σ Γ s → slice_get s.declared m ≡ Some d → value_of s m ≡ None → IsUnbound s m
unbound_in σ Γ s m d b g v = is_unbound s m d b.places g v

pub value_is_bound : (σ : List Entry) (Γ : List Skeleton) (y z : Story) (m : ℕ) (N : Term) (d : Declaration) → z ≡ changed y (with_value y.now m N) → IsBound σ Γ y.now → slice_get y.now.declared m ≡ Some d → value_of y.now m ≡ None → TermSkeleton (heads_of σ y.now) Γ N (skeleton d.of_type) → MetavariablesIn (IsFree y.now m) N → IsBound σ Γ z.now
value_is_bound σ Γ y z m N d p b g v t f =
    let s = y.now in
    let u : IsUnbound s m = is_unbound s m d b.places g v in
    let a : types_of s m ≡ Some d.of_type = ap (option_map (λ x. x.of_type)) g in
    subst (λ x. IsBound σ Γ x.now) (sym p) (record {
      typed = bind_keeps (signature_of σ) Γ s m N d.of_type b.typed b.bound u a t f;
      bound = bind_keeps_bound s m N u b.bound;
      places = length_set s.values m (Some N) ∙ b.places;
    })

-- a term whose head is another metavariable, without a value
pub at_other : (s : State) (m n : ℕ) (M : Term) (S : Spine) → M ≡ root (metavariable n) S → (n ≡ m → ⊥) → value_of s n ≡ None → MetavariablesInSpine (IsFree s m) S → MetavariablesIn (IsFree s m) M
at_other s m n M S p d v i = subst (MetavariablesIn (IsFree s m)) (sym p) ((d, unbound_from s.values n v s.bound), i)

-- a metavariable may have what its type allows
pub may_have_by : (σ : List Entry) (Γ : List Skeleton) (s : State) (m : ℕ) (N : Term) (d : Declaration) (r : Result Bool AllocError) → slice_get s.declared m ≡ Some d → value_of s m ≡ None → MetavariablesIn (IsFree s m) N → IfOk r (λ b. IsTrue b → TermSkeleton (heads_of σ s) Γ N (skeleton d.of_type)) → IfOk r (λ b. IsTrue b → MayHave σ Γ s m N)
may_have_by σ Γ s m N d (Err e) g v f k = k
may_have_by σ Γ s m N d (Ok b) g v f k = λ x. record { declaration = d; is_declared = g; has_none = v; typed = k x; others = f }
