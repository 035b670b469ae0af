-- What an offer keeps of a ready store, and what it asks of the calls that it makes.
use Rattle.std.proofs.Common.{◌≡◌, ℕ, zero, suc, ◌+◌, ◌<◌, List, [], ◌∷◌, ◌++◌, drop, length, Bool, true, false, nat_eq, Option, Some, None, map, reverse, refl, sym, ap, ap₂, ◌∙◌, subst, arith}
use Rattle.std.proofs.lemmas.List.{reverse-append}
use Rattle.std.specs.List.{slice_get}
use Rattle.std.specs.Option.{option_map}
use Rattle.lf.specs.SkeletonTyping.{KindBySkeletons, SpineSkeleton, TypeBySkeletons}
use Rattle.lf.specs.Skeletons.{family_skeleton, family_skeletons}
use Rattle.lf.specs.Substitution.{reduce, single}
use Rattle.lf.specs.Syntax.{Head, Kind, LfType, Skeleton, Spine, Term, app, atom, base, constant, kind_pi, kind_skeleton, lambda, metavariable, nil, pi, rename_type, skeleton, star, variable, weaken}
use Rattle.lf.specs.AtOnce.{shift_by}
use Rattle.lf.specs.Typing.{IsSignature, Signature, TypeAt, instantiate_kind}
use Rattle.lf.specs.Variables.{onto, same_number}
use Rattle.lf.proofs.TypeLaws.{renamings_compose_type}
use mathlib.Core.Path.{fun_ext}
use Rattle.std.proofs.lemmas.Bool.Decides.{nat_tests}
use Rattle.lf.proofs.SkeletonTypes.{single_kind_by_skeletons}
use Rattle.lf.proofs.ToSkeletons.{kind_skeleton_substituted}
use Rattle.lf_elaboration.specs.Skeletons.{IsNumbered, LocalHasSkeletons, TypeHasSkeletons, heads_of}
use Rattle.lf_elaboration.proofs.Skeletons.{constant_type, kind_closed, local_type}
use Rattle.lf_checks.specs.Parts.{shape}
use Rattle.lf_unification.specs.Lists.{followed}
use Rattle.lf_unification.specs.Offering.{lambda_over, pi_over, spine_equations}
use Rattle.lf_unification.specs.PartialInstance.{IsFilling}
use Rattle.lf_unification.specs.Patterns.{local_skeletons}
use Rattle.lf_unification.specs.Search.{OfferedHeadHasType, either, holes, occurs, occurs_spine, occurs_type, unless}
use Rattle.lf_unification.specs.Unifiers.{Binding, Equation, Store}
use Rattle.tw_metas.specs.State.{Declaration, IsUnbound, State, Story, changed, states, with_declared}
use Rattle.tw_putting.specs.Fits.{declared_skeletons}
use Rattle.tw_putting.specs.Ready.{IsLater, LocalsBySkeletons, TypesBySkeletons}
use Rattle.tw_putting.specs.Stores.{bindings_of, types_of}
use Rattle.tw_putting.specs.Whole.{IsConsistent, whole}
use Rattle.tw_putting.proofs.Changes.{bindings_with_declared, consistent_with_declared, past_end, still_unbound, there_is}
use Rattle.tw_putting.proofs.Kept.{declared_types}
use Rattle.tw_putting.proofs.Skeletons.{type_declared}
use Rattle.lf_unification.specs.ReachedRuns.{ReachedRun}
use Rattle.tw_unify.proofs.Orders.{followed_nothing, places_change}
use Rattle.tw_search.specs.Goals.{StandsAtGoal, goal_type, indices_of}
use Rattle.tw_open.specs.Indices.{IndicesFit}
use Rattle.tw_search.specs.Offers.{unmarked}
use Rattle.tw_open.specs.Fits.{TypeStands}
use Rattle.tw_open.specs.Fresh.{OnlyDeclares, declares_nothing, declares_one}
use Rattle.tw_search.specs.Taking.{numbers_from}
use Rattle.tw_open.specs.View.{made_with}
use Rattle.tw_search.specs.declared.goal.OpenGoal.{OpenGoal}

-- what stays while metavariables are declared
pub record Keeps (a b : State) : Type 0 where
  pub equations : b.equations ≡ a.equations
  pub bindings : bindings_of b ≡ bindings_of a
  pub consistent : IsConsistent a → IsConsistent b
  pub unbound : (m : ℕ) → IsUnbound a m → IsUnbound b m
  pub grows : (m : ℕ) (A : LfType) → types_of a m ≡ Some A → types_of b m ≡ Some A

pub only_keeps : {x y : Story} → OnlyDeclares x y → Keeps x.now y.now
only_keeps declares_nothing = record { equations = refl; bindings = refl; consistent = λ c. c; unbound = λ m u. u; grows = λ m A e. e }
only_keeps {x = x} (declares_one {t = t} A d) =
    let k : Keeps x.now t.now = only_keeps d in
    record {
      equations = k.equations;
      bindings = bindings_with_declared t.now [] A ∙ k.bindings;
      consistent = λ c. consistent_with_declared t.now [] A (k.consistent c);
      unbound = λ m u. still_unbound t.now [] A m (k.unbound m u);
      grows = λ m B e. declared_types t.now [] A m B (k.grows m B e);
    }

-- changes come, and none goes
pub later_nothing : (a : Story) → IsLater a a
later_nothing a = ([], refl)

pub later_changed : (a b c : Story) (t : State) → c ≡ changed b t → IsLater a b → IsLater a c
later_changed a b c t e (news, q) = (t ∷ news, ap states e ∙ ap (λ l. t ∷ l) q)

pub later_declared : {a b : Story} → OnlyDeclares a b → IsLater a b
later_declared {a = a} declares_nothing = later_nothing a
later_declared {a = a} (declares_one {t = t} A d) = later_changed a t (changed t (with_declared t.now [] A)) (with_declared t.now [] A) refl (later_declared d)

-- the numbers of a state
pub is_numbered : (s : State) → IsNumbered (made_with [] s)
is_numbered s = record {
  fresh = λ m h. ap (option_map (λ (d : Declaration). d.of_type)) (past_end s.declared m h);
  full = λ m h. let (d, e) = there_is s.declared m h in (d.of_type, ap (option_map (λ (d : Declaration). d.of_type)) e);
}

-- a goal's type, part by part
module _ (Σ : Signature) (ok : IsSignature Σ) where
  goal_parts : (Ψ : ℕ → Option LfType) (D : List LfType) (P : LfType) → TypeBySkeletons (family_skeletons Σ) (declared_skeletons Σ Ψ) [] (pi_over D P) → LocalsBySkeletons Σ Ψ D × TypeBySkeletons (family_skeletons Σ) (declared_skeletons Σ Ψ) (local_skeletons D []) P
  goal_parts Ψ [] P t = (tt, t)
  goal_parts Ψ (A ∷ D) P t = let (l, (a, p)) = goal_parts Ψ D (pi A P) t in ((l, a), p)

  module _ (s : State) (g : OpenGoal) (w : StandsAtGoal Σ s g) where
    pub parts_typed : LocalsBySkeletons Σ (types_of s) g.locals × TypeBySkeletons (family_skeletons Σ) (declared_skeletons Σ (types_of s)) (local_skeletons g.locals []) (atom g.family.0 (indices_of s g.hole.0))
    parts_typed = goal_parts (types_of s) g.locals (atom g.family.0 (indices_of s g.hole.0)) (type_declared Σ (types_of s) (IsFilling Σ [] (whole [] s)) [] (goal_type s g) (w.ready.well_formed.typed.declarations_typed.metavariables_typed g.hole.0 (goal_type s g) w.declared))

    locals_have : (D : List LfType) → LocalsBySkeletons Σ (types_of s) D → LocalHasSkeletons Σ (made_with [] s) D
    locals_have [] l = tt
    locals_have (A ∷ D) (l, a) = (locals_have D l, a)

    head_has : (h : Head) (A : LfType) → OfferedHeadHasType Σ g.locals h A → TypeHasSkeletons Σ (made_with [] s) g.locals A
    head_has (constant c) A e = constant_type Σ ok (made_with [] s) g.locals A (ok.types_ok c A e)
    head_has (variable i) A e = local_type Σ ok (made_with [] s) g.locals (locals_have g.locals parts_typed.0) i A e
    head_has (metavariable m) A e = absurd e

    -- a head's type can be applied
    pub can_take : (h : Head) (A : LfType) → OfferedHeadHasType Σ g.locals h A → TypeStands (made_with [] s) g.locals A
    can_take h A e = record {
      signature = Σ;
      typed_signature = ok;
      numbered = is_numbered s;
      local = locals_have g.locals parts_typed.0;
      of_type = head_has h A e;
    }

    some_kind : (a : ℕ) (K : Kind) (t : Skeleton) (x : Option Kind) → x ≡ Some K → family_skeleton a x ≡ Some t → t ≡ kind_skeleton a K
    some_kind a K t x e f = (let p : Some t ≡ Some (kind_skeleton a K) = sym f ∙ ap (family_skeleton a) e in cc)

    -- the goal's family has a kind
    pub has_kind : Σ.kinds g.family.0 ≡ None → ⊥
    has_kind e = (let p : None ≡ Some parts_typed.1.0 = sym (ap (family_skeleton g.family.0) e) ∙ parts_typed.1.1 in cc)

    pub goal_spine : (K : Kind) → Σ.kinds g.family.0 ≡ Some K → SpineSkeleton (declared_skeletons Σ (types_of s)) (local_skeletons g.locals []) (indices_of s g.hole.0) (kind_skeleton g.family.0 K) (base g.family.0)
    goal_spine K e = subst (λ x. SpineSkeleton (declared_skeletons Σ (types_of s)) (local_skeletons g.locals []) (indices_of s g.hole.0) x (base g.family.0)) (some_kind g.family.0 K parts_typed.1.0 (Σ.kinds g.family.0) e parts_typed.1.1) parts_typed.1.2

    -- its kind takes the goal's arguments
    pub indices_fit : (K : Kind) → Σ.kinds g.family.0 ≡ Some K → IndicesFit g.locals K (indices_of s g.hole.0)
    indices_fit K e = record {
      families = family_skeletons Σ;
      heads = heads_of Σ (made_with [] s);
      family = g.family.0;
      result = base g.family.0;
      kind_typed = kind_closed Σ ok (made_with [] s) g.locals K (ok.kinds_ok g.family.0 K e);
      spine_typed = goal_spine K e;
    }

  -- skeletons type the equations of two spines
  module _ (Ψ : ℕ → Option LfType) (D : List LfType) (l : LocalsBySkeletons Σ Ψ D) (a : ℕ) (u : Skeleton) where
    pub spine_types : (K : Kind) (S T : Spine) → KindBySkeletons (family_skeletons Σ) (declared_skeletons Σ Ψ) (local_skeletons D []) K → SpineSkeleton (declared_skeletons Σ Ψ) (local_skeletons D []) S (kind_skeleton a K) u → TypesBySkeletons Σ Ψ (spine_equations D K S T)
    spine_types (kind_pi A K) (app M S) (app N T) (t, k) (m, s) = (
      (l, t),
      spine_types (instantiate_kind A M K) S T
          (single_kind_by_skeletons (family_skeletons Σ) (declared_skeletons Σ Ψ) (skeleton A) (local_skeletons D []) M K m k)
          (subst (λ x. SpineSkeleton (declared_skeletons Σ Ψ) (local_skeletons D []) S x u) (sym (kind_skeleton_substituted a reduce (single (skeleton A) M) K)) s),
    )
    spine_types (kind_pi A K) (app M S) nil k s = tt
    spine_types (kind_pi A K) nil T k s = tt
    spine_types star S T k s = tt

-- the equations in another order
module _ (Σ : Signature) (Ψ : ℕ → Option LfType) (bs : List Binding) where
  abbrev with : List Equation → Store
  with es = record { metavariables = Ψ; bindings = bs; equations = es }

  pub new_first : (es fs : List Equation) → ReachedRun Σ (record { metavariables = Ψ; bindings = bs; equations = followed es fs }) (record { metavariables = Ψ; bindings = bs; equations = followed fs es })
  new_first es fs =
      subst (λ l. ReachedRun Σ (with (followed es l)) (with (followed fs es))) (followed_nothing fs)
      (subst (λ l. ReachedRun Σ (with (followed es (followed fs []))) (with (followed fs l))) (followed_nothing es) (places_change Σ Ψ bs es fs []))

-- the holes of the subgoals
appended : {A : Type 0} (xs ys : List A) → xs ++ ys ≡ followed xs ys
appended [] ys = refl
appended (x ∷ xs) ys = ap (λ l. x ∷ l) (appended xs ys)

pub holes_unmarked : (n : ℕ) (A : LfType) → reverse (unmarked (shape A) (numbers_from n A)) ≡ holes n A
holes_unmarked n (atom a S) = refl
holes_unmarked n (pi A B) = at (occurs_type zero B) (holes_unmarked (suc n) B)
  where
    at : (b : Bool) → reverse (unmarked (shape B) (numbers_from (suc n) B)) ≡ holes (suc n) B → reverse (unmarked (b ∷ shape B) (n ∷ numbers_from (suc n) B)) ≡ unless b n (holes (suc n) B)
    at true e = e
    at false e = reverse-append (n ∷ []) (unmarked (shape B) (numbers_from (suc n) B)) ∙ ap (λ l. l ++ n ∷ []) e ∙ appended (holes (suc n) B) (n ∷ [])

pub unmarked_map : {A B : Type 0} (f : A → B) (bs : List Bool) (xs : List A) → map f (unmarked bs xs) ≡ unmarked bs (map f xs)
unmarked_map f [] xs = refl
unmarked_map f (b ∷ bs) [] = refl
unmarked_map f (true ∷ bs) (x ∷ xs) = unmarked_map f bs xs
unmarked_map f (false ∷ bs) (x ∷ xs) = ap (λ l. f x ∷ l) (unmarked_map f bs xs)

-- those that aren't marked, one by one
pub unmarked_step : {A : Type 0} (ms : List Bool) (xs : List A) (m : Bool) (x : A) (ns : List Bool) (ys whole old new : List A) → ms ≡ m ∷ ns → xs ≡ x ∷ ys → new ≡ old ++ unmarked (m ∷ []) (x ∷ []) → whole ≡ old ++ unmarked ms xs → whole ≡ new ++ unmarked ns ys
unmarked_step {A = A} ms xs m x ns ys whole old new e f n w = w ∙ ap₂ (λ a b. old ++ unmarked a b) e f ∙ (one m ∙ ap (λ l. l ++ unmarked ns ys) (sym n))
  where
    associate : (us vs ws : List A) → us ++ (vs ++ ws) ≡ (us ++ vs) ++ ws
    associate [] vs ws = refl
    associate (u ∷ us) vs ws = ap (λ l. u ∷ l) (associate us vs ws)

    one : (b : Bool) → old ++ unmarked (b ∷ ns) (x ∷ ys) ≡ (old ++ unmarked (b ∷ []) (x ∷ [])) ++ unmarked ns ys
    one true = associate old [] (unmarked ns ys)
    one false = associate old (x ∷ []) (unmarked ns ys)

nothing_unmarked : {A : Type 0} (bs : List Bool) → unmarked {A = A} bs [] ≡ []
nothing_unmarked [] = refl
nothing_unmarked (b ∷ bs) = refl

none_behind : {A : Type 0} (xs : List A) → xs ++ [] ≡ xs
none_behind [] = refl
none_behind (x ∷ xs) = ap (λ l. x ∷ l) (none_behind xs)

pub unmarked_end : {A : Type 0} (bs : List Bool) (xs found whole : List A) → xs ≡ [] → whole ≡ found ++ unmarked bs xs → found ≡ whole
unmarked_end bs xs found whole e w = sym (w ∙ ap (λ l. found ++ unmarked bs l) e ∙ ap (λ l. found ++ l) (nothing_unmarked bs) ∙ none_behind found)

-- a local variable's type
one_is_suc : shift_by (suc zero) ≡ suc
one_is_suc = fun_ext (λ i. omega arith)

next_is_suc : (n : ℕ) → shift_by (suc n) ≡ (λ i. suc (shift_by n i))
next_is_suc n = fun_ext (λ i. omega arith)

pub type_found : (D : List LfType) (i : ℕ) (B : LfType) → slice_get D i ≡ Some B → TypeAt (onto D []) i (rename_type (shift_by (suc i)) B)
type_found [] i B e = absurd cc
type_found (X ∷ D) zero B e = let is : X ≡ B = cc in ap (λ ρ. rename_type ρ B) one_is_suc ∙ ap weaken (sym is)
type_found (X ∷ D) (suc i) B e =
    (rename_type (shift_by (suc i)) B, type_found D i B e, ap (λ ρ. rename_type ρ B) (next_is_suc (suc i)) ∙ sym (renamings_compose_type suc (shift_by (suc i)) B))

pub no_type : (D : List LfType) (i : ℕ) (A : LfType) → slice_get D i ≡ None → TypeAt (onto D []) i A → ⊥
no_type [] i A e t = t
no_type (X ∷ D) zero A e t = cc
no_type (X ∷ D) (suc i) A e (B, t, q) = no_type D i B e t

-- lambdas over more of the local variables
pub lambda_step : (D : List LfType) (i : ℕ) (M : Term) → i < length D → lambda_over (drop (i + 1) D) (lambda M) ≡ lambda_over (drop i D) M
lambda_step [] i M h = absurd (omega arith)
lambda_step (A ∷ D) zero M h = refl
lambda_step (A ∷ D) (suc i) M h = let n : suc i + 1 ≡ suc (i + 1) = omega arith in ap (λ k. lambda_over (drop k (A ∷ D)) (lambda M)) n ∙ lambda_step D i M (omega arith)

-- occurrence in arguments
pub occurs_here : (x : ℕ) (S T : Spine) (M : Term) → S ≡ app M T → true ≡ occurs x M → true ≡ occurs_spine x S
occurs_here x S T M e h = sym (ap (occurs_spine x) e ∙ ap (λ b. either b (occurs_spine x T)) (sym h))

pub occurs_later : (x : ℕ) (S T : Spine) (M : Term) (whole : Bool) → S ≡ app M T → false ≡ occurs x M → whole ≡ occurs_spine x S → whole ≡ occurs_spine x T
occurs_later x S T M whole e h w = w ∙ ap (occurs_spine x) e ∙ ap (λ b. either b (occurs_spine x T)) (sym h)

pub equal_is_same : (i j : ℕ) → nat_eq i j ≡ same_number i j
equal_is_same zero zero = refl
equal_is_same zero (suc j) = grind (arith, nat_tests)
equal_is_same (suc i) zero = grind (arith, nat_tests)
equal_is_same (suc i) (suc j) = down ∙ equal_is_same i j
  where
    down : nat_eq (suc i) (suc j) ≡ nat_eq i j
    down = grind (arith, nat_tests)

pub found_type : (Σ : Signature) (D : List LfType) (h : Head) (i by : ℕ) (B A : LfType) → h ≡ variable i → by ≡ suc i → Some B ≡ slice_get D i → A ≡ rename_type (shift_by by) B → OfferedHeadHasType Σ D h A
found_type Σ D h i by B A is b e a =
    let to : A ≡ rename_type (shift_by (suc i)) B = a ∙ ap (λ n. rename_type (shift_by n) B) b in
    subst (λ k. OfferedHeadHasType Σ D k A) (sym is) (subst (TypeAt (onto D []) i) (sym to) (type_found D i B (sym e)))
