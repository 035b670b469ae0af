-- A smaller term has smaller instances, and a call that descends has a smaller measure.
use Rattle.lf_checks.specs.Order.{Alike, AllAlike, AllSame, AreAtPlaces, InArguments, IsAtPlaces, Less, LessLexicographic, LessSimultaneous, Order, Orders, Same, Smaller, SmallerOrEqual, argument_at, chosen_at, equal, first_argument, later_argument, lexicographic, next_order, no_order, place, simultaneous, smaller, under_constant, under_lambda, under_parameter, KeepsVariables, size, spine_size}
use Rattle.lf_checks.specs.Marks.{SamePlaces}
use Rattle.lf_checks.specs.Clause.{Clause, outside, scope}
use Rattle.lf_checks.specs.Descent.{inside, past_quantifiers, moved_head, LessCall, SameArgument, SameCall, SmallerArgument}
use Rattle.std.proofs.Common.{◌≡◌, ℕ, zero, suc, List, [], ◌∷◌, ◌<◌, ◌≤◌, ◌+◌, length, refl, sym, ap, ap₂, ◌∙◌, arith, inl, inr}
use Rattle.std.specs.Prelude.{Bool, true, false, Option, Some, None}
use Rattle.lf.specs.Syntax.{constant, variable, metavariable, Term, Spine, lambda, root, nil, app, LfType, pi, atom, Skeleton, lift_renaming, rename, rename_spine}
use Rattle.lf.specs.Substitution.{Image, keep, put, rename_image, lift, apply_image, substitute, substitute_spine, substitute_type, reduce}
use Rattle.lf.specs.Variables.{target, target_arguments, under, nothing, at_variable}
use Rattle.lf.specs.Typing.{Signature, instantiate_type}
use Rattle.lf.specs.Syntax.{rename_type}
use Rattle.lf.specs.Variables.{binders}
use Rattle.lf.proofs.Renaming.{renamings_compose, substitute_renamed, substitute_renamed_spine, rename_substituted, rename_substituted_spine, reduction_is_natural, substitute_identity}
use Rattle.lf.proofs.TypeLaws.{substitution_as_renaming}
use Rattle.lf_checks.proofs.Measure.{LexLt}
use mathlib.Core.Path.{fun_ext}

mutual
  pub size_renamed : (ρ : ℕ → ℕ) (M : Term) → size (rename ρ M) ≡ size M
  size_renamed ρ (lambda M) = ap suc (size_renamed (lift_renaming ρ) M)
  size_renamed ρ (root h S) = ap suc (size_spine_renamed ρ S)

  pub size_spine_renamed : (ρ : ℕ → ℕ) (S : Spine) → spine_size (rename_spine ρ S) ≡ spine_size S
  size_spine_renamed ρ nil = refl
  size_spine_renamed ρ (app M S) = ap₂ ◌+◌ (size_renamed ρ M) (size_spine_renamed ρ S)

rename_id : (M : Term) → rename (λ i. i) M ≡ M
rename_id M = sym (substitution_as_renaming reduce (λ i. i) M) ∙ substitute_identity reduce M

rename_image_id : (x : Image) → rename_image (λ i. i) x ≡ x
rename_image_id (keep i) = refl
rename_image_id (put a N) = ap (put a) (rename_id N)

rename_image_renamed : (ρ τ : ℕ → ℕ) (x : Image) → rename_image ρ (rename_image τ x) ≡ rename_image (λ i. ρ (τ i)) x
rename_image_renamed ρ τ (keep i) = refl
rename_image_renamed ρ τ (put a N) = ap (put a) (renamings_compose ρ τ N)

at_image : (σ : ℕ → Image) (y j : ℕ) → σ y ≡ keep j → (i : ℕ) → σ (at_variable y i) ≡ rename_image (at_variable j) (lift σ i)
at_image σ y j e zero = e
at_image σ y j e (suc i) = sym (rename_image_renamed (at_variable j) suc (σ i) ∙ rename_image_id (σ i))

size_at : (σ : ℕ → Image) (y j : ℕ) (N : Term) → σ y ≡ keep j → size (substitute reduce σ (rename (at_variable y) N)) ≡ size (substitute reduce (lift σ) N)
size_at σ y j N e = ap size (substitute_renamed reduce σ (at_variable y) N ∙ ap (λ f. substitute reduce f N) (fun_ext (at_image σ y j e)) ∙ sym (rename_substituted reduce reduction_is_natural (at_variable j) (lift σ) N)) ∙ size_renamed (at_variable j) (substitute reduce (lift σ) N)

size_head : (x : Image) (S : Spine) (j : ℕ) → x ≡ keep j → size (apply_image reduce x S) ≡ suc (spine_size S)
size_head x S j e = ap (λ y. size (apply_image reduce y S)) e

module _ (Σ : Signature) (C : List LfType) (L R : ℕ → Bool) (σ : ℕ → Image) (kl : KeepsVariables L σ) (kr : KeepsVariables R σ) where
  mutual
    pub smaller_size : (M N : Term) (A : LfType) → Smaller Σ C L R M N A → size (substitute reduce σ M) < size (substitute reduce σ N)
    smaller_size M (root (constant c) S) A (under_constant {A = D} t h) = let k : size (substitute reduce σ M) ≤ spine_size (substitute_spine reduce σ S) = arguments_size M S D h in omega arith
    smaller_size M (root (metavariable c) S) A h = elim h [ ]
    smaller_size M (root (variable i) S) A (under_parameter {A = D} r t h) =
        let (j, e) = kr i r in
        let q : size (apply_image reduce (σ i) (substitute_spine reduce σ S)) ≡ suc (spine_size (substitute_spine reduce σ S)) = size_head (σ i) (substitute_spine reduce σ S) j e in
        let k : size (substitute reduce σ M) ≤ spine_size (substitute_spine reduce σ S) = arguments_size M S D h in omega arith
    smaller_size M (lambda N) (atom a T) h = elim h [ ]
    smaller_size M (lambda N) (pi A B) (under_lambda y l t h) =
        let (j, e) = kl y l in
        let q : size (substitute reduce σ (rename (at_variable y) N)) ≡ size (substitute reduce (lift σ) N) = size_at σ y j N e in
        let k : size (substitute reduce σ M) ≤ size (substitute reduce σ (rename (at_variable y) N)) = equal_size M (rename (at_variable y) N) (rename_type (at_variable y) B) h in omega arith

    equal_size : (M N : Term) (A : LfType) → SmallerOrEqual Σ C L R M N A → size (substitute reduce σ M) ≤ size (substitute reduce σ N)
    equal_size M N A equal = omega arith
    equal_size M N A (smaller h) = let k : size (substitute reduce σ M) < size (substitute reduce σ N) = smaller_size M N A h in omega arith

    arguments_size : (M : Term) (S : Spine) (A : LfType) → InArguments Σ C L R M S A → size (substitute reduce σ M) ≤ spine_size (substitute_spine reduce σ S)
    arguments_size M nil A h = elim h [ ]
    arguments_size M (app N S) (atom a T) h = elim h [ ]
    arguments_size M (app N S) (pi A B) (first_argument h) = let k : size (substitute reduce σ M) ≤ size (substitute reduce σ N) = equal_size M N A h in omega arith
    arguments_size M (app N S) (pi A B) (later_argument h) = let k : size (substitute reduce σ M) ≤ spine_size (substitute_spine reduce σ S) = arguments_size M S (instantiate_type A N B) h in omega arith

-- arguments at places
some_term : {M N : Term} → Some M ≡ Some N → M ≡ N
some_term e = cc

pub argument_substituted : (r : Skeleton → Term → Spine → Term) (σ : ℕ → Image) (i : ℕ) (S : Spine) (M : Term) → argument_at i S ≡ Some M → argument_at i (substitute_spine r σ S) ≡ Some (substitute r σ M)
argument_substituted r σ zero S M e = absurd cc
argument_substituted r σ (suc i) nil M e = absurd cc
argument_substituted r σ (suc zero) (app N S) M e = ap (λ X. Some (substitute r σ X)) (some_term e)
argument_substituted r σ (suc (suc i)) (app N S) M e = argument_substituted r σ (suc i) S M e

abbrev option_size : Option Term → ℕ
option_size (Some M) = size M
option_size None = zero

-- the size of the argument at a place
abbrev pub place_size : ℕ → Spine → ℕ
place_size i S = option_size (argument_at i S)

place_size_renamed : (ρ : ℕ → ℕ) (i : ℕ) (S : Spine) → place_size i (rename_spine ρ S) ≡ place_size i S
place_size_renamed ρ zero S = refl
place_size_renamed ρ (suc i) nil = refl
place_size_renamed ρ (suc zero) (app M S) = size_renamed ρ M
place_size_renamed ρ (suc (suc i)) (app M S) = place_size_renamed ρ (suc i) S

-- the sizes of the arguments that an order names, from left to right, before r
abbrev mutual
  pub sizes : Order → Spine → List ℕ → List ℕ
  sizes (place i) S r = place_size i S ∷ r
  sizes (lexicographic Os) S r = sizes_all Os S r
  sizes (simultaneous Os) S r = sizes_all Os S r

  pub sizes_all : Orders → Spine → List ℕ → List ℕ
  sizes_all no_order S r = r
  sizes_all (next_order O Os) S r = sizes O S (sizes_all Os S r)

mutual
  sizes_length : (O P : Order) (T S : Spine) (r s : List ℕ) → Alike O P → length r ≡ length s → length (sizes O T r) ≡ length (sizes P S s)
  sizes_length (place i) (place j) T S r s a e = ap suc e
  sizes_length (place i) (lexicographic Ps) T S r s a e = absurd a
  sizes_length (place i) (simultaneous Ps) T S r s a e = absurd a
  sizes_length (lexicographic Os) (place j) T S r s a e = absurd a
  sizes_length (lexicographic Os) (lexicographic Ps) T S r s a e = sizes_all_length Os Ps T S r s a e
  sizes_length (lexicographic Os) (simultaneous Ps) T S r s a e = absurd a
  sizes_length (simultaneous Os) (place j) T S r s a e = absurd a
  sizes_length (simultaneous Os) (lexicographic Ps) T S r s a e = absurd a
  sizes_length (simultaneous Os) (simultaneous Ps) T S r s a e = sizes_all_length Os Ps T S r s a e

  sizes_all_length : (Os Ps : Orders) (T S : Spine) (r s : List ℕ) → AllAlike Os Ps → length r ≡ length s → length (sizes_all Os T r) ≡ length (sizes_all Ps S s)
  sizes_all_length no_order no_order T S r s a e = e
  sizes_all_length no_order (next_order P Ps) T S r s a e = absurd a
  sizes_all_length (next_order O Os) no_order T S r s a e = absurd a
  sizes_all_length (next_order O Os) (next_order P Ps) T S r s (a, b) e = sizes_length O P T S (sizes_all Os T r) (sizes_all Ps S s) a (sizes_all_length Os Ps T S r s b e)

-- T and S have, at each place, sizes that follow the relations
module _ (Lt Eq : ℕ → ℕ → Type 0) (T S : Spine) (lt : (i j : ℕ) → Lt i j → place_size i T < place_size j S) (eq : (i j : ℕ) → Eq i j → place_size i T ≡ place_size j S) where
  mutual
    same_sizes : (O P : Order) (r s : List ℕ) → Same Eq O P → LexLt r s → LexLt (sizes O T r) (sizes P S s)
    same_sizes (place i) (place j) r s e l = inr (eq i j e, l)
    same_sizes (place i) (lexicographic Ps) r s e l = absurd e
    same_sizes (place i) (simultaneous Ps) r s e l = absurd e
    same_sizes (lexicographic Os) (place j) r s e l = absurd e
    same_sizes (lexicographic Os) (lexicographic Ps) r s e l = same_sizes_all Os Ps r s e l
    same_sizes (lexicographic Os) (simultaneous Ps) r s e l = absurd e
    same_sizes (simultaneous Os) (place j) r s e l = absurd e
    same_sizes (simultaneous Os) (lexicographic Ps) r s e l = absurd e
    same_sizes (simultaneous Os) (simultaneous Ps) r s e l = same_sizes_all Os Ps r s e l

    same_sizes_all : (Os Ps : Orders) (r s : List ℕ) → AllSame Eq Os Ps → LexLt r s → LexLt (sizes_all Os T r) (sizes_all Ps S s)
    same_sizes_all no_order no_order r s e l = l
    same_sizes_all no_order (next_order P Ps) r s e l = absurd e
    same_sizes_all (next_order O Os) no_order r s e l = absurd e
    same_sizes_all (next_order O Os) (next_order P Ps) r s (e, f) l = same_sizes O P (sizes_all Os T r) (sizes_all Ps S s) e (same_sizes_all Os Ps r s f l)

  mutual
    less_sizes : (O P : Order) (r s : List ℕ) → Alike O P → length r ≡ length s → Less Lt Eq O P → LexLt (sizes O T r) (sizes P S s)
    less_sizes (place i) (place j) r s a e h = inl (lt i j h, e)
    less_sizes (place i) (lexicographic Ps) r s a e h = absurd h
    less_sizes (place i) (simultaneous Ps) r s a e h = absurd h
    less_sizes (lexicographic Os) (place j) r s a e h = absurd h
    less_sizes (lexicographic Os) (lexicographic Ps) r s a e h = less_lexicographic Os Ps r s a e h
    less_sizes (lexicographic Os) (simultaneous Ps) r s a e h = absurd h
    less_sizes (simultaneous Os) (place j) r s a e h = absurd h
    less_sizes (simultaneous Os) (lexicographic Ps) r s a e h = absurd h
    less_sizes (simultaneous Os) (simultaneous Ps) r s a e h = less_simultaneous Os Ps r s a e h

    less_lexicographic : (Os Ps : Orders) (r s : List ℕ) → AllAlike Os Ps → length r ≡ length s → LessLexicographic Lt Eq Os Ps → LexLt (sizes_all Os T r) (sizes_all Ps S s)
    less_lexicographic no_order Ps r s a e h = absurd h
    less_lexicographic (next_order O Os) no_order r s a e h = absurd h
    less_lexicographic (next_order O Os) (next_order P Ps) r s (a, b) e (inl h) = less_sizes O P (sizes_all Os T r) (sizes_all Ps S s) a (sizes_all_length Os Ps T S r s b e) h
    less_lexicographic (next_order O Os) (next_order P Ps) r s (a, b) e (inr (q, h)) = same_sizes O P (sizes_all Os T r) (sizes_all Ps S s) q (less_lexicographic Os Ps r s b e h)

    less_simultaneous : (Os Ps : Orders) (r s : List ℕ) → AllAlike Os Ps → length r ≡ length s → LessSimultaneous Lt Eq Os Ps → LexLt (sizes_all Os T r) (sizes_all Ps S s)
    less_simultaneous no_order Ps r s a e h = absurd h
    less_simultaneous (next_order O Os) no_order r s a e h = absurd h
    less_simultaneous (next_order O Os) (next_order P Ps) r s (a, b) e (inl (h, n)) = less_sizes O P (sizes_all Os T r) (sizes_all Ps S s) a (sizes_all_length Os Ps T S r s b e) h
    less_simultaneous (next_order O Os) (next_order P Ps) r s (a, b) e (inr (q, h)) = same_sizes O P (sizes_all Os T r) (sizes_all Ps S s) q (less_simultaneous Os Ps r s b e h)

-- substitution under the quantifiers of a subgoal
abbrev pub lift_type : LfType → (ℕ → Image) → ℕ → Image
lift_type (pi B A) σ = lift_type A (lift σ)
lift_type (atom a S) σ = σ

pub arguments_substituted : (r : Skeleton → Term → Spine → Term) (A : LfType) (σ : ℕ → Image) → target_arguments (substitute_type r σ A) ≡ substitute_spine r (lift_type A σ) (target_arguments A)
arguments_substituted r (pi B A) σ = arguments_substituted r A (lift σ)
arguments_substituted r (atom a S) σ = refl

pub kept_lift : (V : ℕ → Bool) (σ : ℕ → Image) → KeepsVariables V σ → KeepsVariables (under V) (lift σ)
kept_lift V σ h zero e = (zero, refl)
kept_lift V σ h (suc i) e = let (j, q) = h i e in (suc j, ap (rename_image suc) q)

kept_inside : (A : LfType) (V : ℕ → Bool) (σ : ℕ → Image) → KeepsVariables V σ → KeepsVariables (inside A V) (lift_type A σ)
kept_inside (pi B A) V σ h = kept_inside A (under V) (lift σ) (kept_lift V σ h)
kept_inside (atom a S) V σ h = h

moved_images : (A : LfType) (σ : ℕ → Image) (ρ : ℕ → ℕ) → (τ : ℕ → ℕ) × ((i : ℕ) → lift_type A σ (past_quantifiers A ρ i) ≡ rename_image τ (σ (ρ i)))
moved_images (pi B A) σ ρ =
    let (τ, h) = moved_images A (lift σ) (λ i. suc (ρ i)) in
    (λ i. τ (suc i), λ i. h i ∙ rename_image_renamed τ suc (σ (ρ i)))
moved_images (atom a S) σ ρ = (λ i. i, λ i. sym (rename_image_id (σ (ρ i))))

moved_size : (A : LfType) (σ : ℕ → Image) (H : Spine) (j : ℕ) → place_size j (substitute_spine reduce (lift_type A σ) (rename_spine (past_quantifiers A (λ i. i)) H)) ≡ place_size j (substitute_spine reduce σ H)
moved_size A σ H j =
    let (τ, h) = moved_images A σ (λ i. i) in
    let e : substitute_spine reduce (lift_type A σ) (rename_spine (past_quantifiers A (λ i. i)) H) ≡ rename_spine τ (substitute_spine reduce σ H) = substitute_renamed_spine reduce (lift_type A σ) (past_quantifiers A (λ i. i)) H ∙ ap (λ f. substitute_spine reduce f H) (fun_ext h) ∙ sym (rename_substituted_spine reduce reduction_is_natural τ σ H) in
    ap (place_size j) e ∙ place_size_renamed τ j (substitute_spine reduce σ H)

-- The lemmas on orders: what the calls of a subgoal and its clause's head have as sizes
module _ (Σ : Signature) (order : ℕ → Order) (c : Clause) (A : LfType) (σ : ℕ → Image) (k : KeepsVariables (outside c.type c.fixed) σ) where
  called : Spine
  called = target_arguments (substitute_type reduce σ A)

  heading : Spine
  heading = substitute_spine reduce σ (target_arguments c.type)

  τ : ℕ → Image
  τ = lift_type A σ

  call_size : (i : ℕ) (M : Term) → argument_at i (target_arguments A) ≡ Some M → place_size i called ≡ size (substitute reduce τ M)
  unfolding called τ
  call_size i M e = ap (place_size i) (arguments_substituted reduce A σ) ∙ ap option_size (argument_substituted reduce τ i (target_arguments A) M e)

  head_size : (j : ℕ) (N : Term) → argument_at j (moved_head c A) ≡ Some N → place_size j heading ≡ size (substitute reduce τ N)
  unfolding heading τ
  head_size j N e = sym (moved_size A σ (target_arguments c.type) j) ∙ ap option_size (argument_substituted reduce τ j (moved_head c A) N e)

  less_size : (i j : ℕ) → SmallerArgument Σ c A i j → place_size i called < place_size j heading
  unfolding τ
  less_size i j (M, N, e, f, K, k0, X, g, h) = by (call_size i M e) (head_size j N f) (smaller_size Σ (binders (scope c) A) (inside A nothing) (inside A (outside c.type c.fixed)) τ (kept_inside A nothing σ (λ n e. absurd cc)) (kept_inside A (outside c.type c.fixed) σ k) M N X h)
    where
      by : {a b c d : ℕ} → a ≡ b → d ≡ c → b < c → a < d
      by e f l = omega arith

  equal_place : (i j : ℕ) → SameArgument c A i j → place_size i called ≡ place_size j heading
  equal_place i j (M, e, f) = call_size i M e ∙ sym (head_size j M f)

  pub less_call : (r s : List ℕ) → Alike (order (target A)) (order (target c.type)) → length r ≡ length s → LessCall Σ order c A → LexLt (sizes (order (target A)) (target_arguments (substitute_type reduce σ A)) r) (sizes (order (target c.type)) (substitute_spine reduce σ (target_arguments c.type)) s)
  unfolding called heading
  less_call r s a e h = less_sizes (SmallerArgument Σ c A) (SameArgument c A) called heading less_size equal_place (order (target A)) (order (target c.type)) r s a e h

  pub same_call : (r s : List ℕ) → SameCall order c A → LexLt r s → LexLt (sizes (order (target A)) (target_arguments (substitute_type reduce σ A)) r) (sizes (order (target c.type)) (substitute_spine reduce σ (target_arguments c.type)) s)
  unfolding called heading
  same_call r s h l = same_sizes (SmallerArgument Σ c A) (SameArgument c A) called heading less_size equal_place (order (target A)) (order (target c.type)) r s h l

-- equal inputs have equal sizes
argument_same : (m : List Bool) (i : ℕ) (S T : Spine) → chosen_at m i ≡ true → SamePlaces m S T → argument_at i S ≡ argument_at i T
argument_same [] i S T e p = absurd cc
argument_same (b ∷ m) zero S T e p = absurd cc
argument_same (b ∷ m) (suc i) nil T e p = absurd p
argument_same (b ∷ m) (suc i) (app M S) nil e p = absurd p
argument_same (true ∷ m) (suc zero) (app M S) (app N T) e p = ap Some p.0
argument_same (true ∷ m) (suc (suc i)) (app M S) (app N T) e p = argument_same m (suc i) S T e p.1
argument_same (false ∷ m) (suc zero) (app M S) (app N T) e p = absurd cc
argument_same (false ∷ m) (suc (suc i)) (app M S) (app N T) e p = argument_same m (suc i) S T e p

mutual
  pub sizes_same : (m : List Bool) (O : Order) (S T : Spine) (r : List ℕ) → IsAtPlaces m O → SamePlaces m S T → sizes O S r ≡ sizes O T r
  sizes_same m (place i) S T r a p = ap (λ X. option_size X ∷ r) (argument_same m i S T a p)
  sizes_same m (lexicographic Os) S T r a p = sizes_all_same m Os S T r a p
  sizes_same m (simultaneous Os) S T r a p = sizes_all_same m Os S T r a p

  sizes_all_same : (m : List Bool) (Os : Orders) (S T : Spine) (r : List ℕ) → AreAtPlaces m Os → SamePlaces m S T → sizes_all Os S r ≡ sizes_all Os T r
  sizes_all_same m no_order S T r a p = refl
  sizes_all_same m (next_order O Os) S T r (a, b) p = sizes_same m O S T (sizes_all Os S r) a p ∙ ap (sizes O T) (sizes_all_same m Os S T r b p)
