-- A new store with typed equations is ready to be solved.
use Rattle.std.proofs.Common.{◌≡◌, ◌<◌, ◌≤◌, ◌+◌, ℕ, zero, suc, List, [], ◌∷◌, length, ◌++◌, map, take, get_or, Option, Some, None, option_map, ◌⊎◌, inl, inr, refl, sym, ap, ◌∙◌, subst, arith}
use Rattle.std.proofs.lemmas.List.{map-append}
use Rattle.std.specs.Prelude.{slice_get}
use Rattle.lf.specs.Subordination.{Member}
use Rattle.lf.specs.Syntax.{Head, LfType, Spine, Term, app, atom, constant, lambda, metavariable, nil, pi, rename_type, root, variable}
use Rattle.lf.specs.Typing.{IsSignature, Signature}
use Rattle.lf_unification.specs.Dependency.{IsDependencyOrder, IsListed, ListedMetavariable}
use Rattle.lf_unification.specs.Lists.{followed}
use Rattle.lf_unification.specs.OpenTyping.{MetavariablesIn, MetavariablesInSpine, MetavariablesInType, OpenIsContext, OpenIsType}
use Rattle.lf_unification.specs.PartialInstance.{EquationsAreTyped, IsFilling}
use Rattle.lf_unification.specs.Putting.{Unbound}
use Rattle.lf_unification.specs.Solving.{BindingsAreListed, ValuesAreBindings}
use Rattle.lf_unification.specs.Unifiers.{BindingsAreTyped, Equation}
use Rattle.lf_unification.proofs.Fillings.{LocalBySkeletonsUpTo-of, LocalBySkeletonsUpTo-weaker, TypeBySkeletonsUpTo-of, TypeBySkeletonsUpTo-weaker}
use Rattle.lf_unification.proofs.Typed.{OpenHasType-weaker, OpenIsType-weaker}
use Rattle.tw_metas.specs.State.{Declaration, State, joined, value_of, with_declared}
use Rattle.tw_metas.specs.View.{equation_of}
use Rattle.tw_metas.specs.declared.equation.Equation.{Equation as RustEquation}
use Rattle.tw_terms.specs.OpenView.{open_type_of}
use Rattle.tw_terms.specs.declared.open_terms.OpenTy.{OpenTy}
use Rattle.tw_putting.specs.Stores.{bindings_from, bindings_of, types_of}
use Rattle.tw_putting.specs.Ready.{IsReady, TypesBySkeletons}
use Rattle.tw_putting.specs.Whole.{AreDistinct, whole}
use Rattle.tw_putting.proofs.Skeletons.{type_declared}
use Rattle.tests_ready.specs.Checked.{AreEquationsTyped, IsEquationTyped, IsNew, IsTypeTyped, TypedBelow, all, declaration_of}
use Rattle.tests_ready.proofs.TypedHeads.{closed}
use Rattle.tests_ready.proofs.TypedTerms.{locals_declared}

-- a new store stays new where a metavariable is declared
value_behind : (vs : List (Option Term)) (m : ℕ) (N : Term) → slice_get (vs ++ None ∷ []) m ≡ Some (Some N) → slice_get vs m ≡ Some (Some N)
value_behind [] zero N e = absurd cc
value_behind [] (suc m) N e = absurd cc
value_behind (v ∷ vs) zero N e = e
value_behind (v ∷ vs) (suc m) N e = value_behind vs m N e

joined_some : (x : Option (Option Term)) (N : Term) → joined x ≡ Some N → x ≡ Some (Some N)
joined_some None N e = absurd cc
joined_some (Some None) N e = absurd cc
joined_some (Some (Some M)) N e = ap Some e

length_more : {A : Type 0} (xs : List A) (x : A) → length (xs ++ x ∷ []) ≡ suc (length xs)
length_more [] x = refl
length_more (y ∷ xs) x = ap suc (length_more xs x)

pub declared_new : (s : State) (G : List LfType) (A : LfType) → IsNew s → IsNew (with_declared s G A)
declared_new s G A n = record {
  places = length_more s.values None ∙ ap suc n.places ∙ sym (length_more s.declared (record { context = G; of_type = A }));
  no_value = λ m N e. n.no_value m N (ap joined (value_behind s.values m N (joined_some (slice_get (s.values ++ None ∷ []) m) N e)));
  none_bound = n.none_bound;
  none_postponed = n.none_postponed;
}

-- metavariables within a smaller set
module _ (V W : ℕ → Type 0) (f : (m : ℕ) → V m → W m) where
  mutual
    term_within : (M : Term) → MetavariablesIn V M → MetavariablesIn W M
    term_within (lambda M) h = term_within M h
    term_within (root (constant c) S) h = spine_within S h
    term_within (root (variable i) S) h = spine_within S h
    term_within (root (metavariable m) S) (k, h) = (f m k, spine_within S h)

    spine_within : (S : Spine) → MetavariablesInSpine V S → MetavariablesInSpine W S
    spine_within nil h = tt
    spine_within (app M S) (h, k) = (term_within M h, spine_within S k)

  type_within : (A : LfType) → MetavariablesInType V A → MetavariablesInType W A
  type_within (pi A B) (h, k) = (type_within A h, type_within B k)
  type_within (atom a S) h = spine_within S h

-- one type more
pub typed_next : (Σ : Signature) (Ψ : ℕ → Option LfType) (n : ℕ) (A : LfType) → TypedBelow Σ Ψ n → Ψ n ≡ Some A → IsTypeTyped Σ Ψ n [] A → TypedBelow Σ Ψ (n + 1)
typed_next Σ Ψ n A b e t m B h g = elim (below_or_same m n h) [ inl l ↦ b m B l g | inr q ↦ (let is : A ≡ B = some_is (sym e ∙ ap Ψ (sym q) ∙ g) in subst (λ X. OpenIsType Σ [] Ψ all [] X × MetavariablesInType (λ k. k < m) X) is (t.0, subst (λ j. MetavariablesInType (λ k. k < j) A) (sym q) t.1)) ]
  where
    below_or_same : (m n : ℕ) → m < n + 1 → (m < n) ⊎ (m ≡ n)
    below_or_same zero zero h = inr refl
    below_or_same zero (suc n) h = inl (omega arith)
    below_or_same (suc m) zero h = absurd (omega arith)
    below_or_same (suc m) (suc n) h = elim (below_or_same m n (omega arith)) [ inl l ↦ inl (omega arith) | inr q ↦ inr (ap suc q) ]

    some_is : {X : LfType} {Y : LfType} → Some X ≡ Some Y → X ≡ Y
    some_is e = cc

pub all_below : (s : State) (n : ℕ) → None ≡ slice_get s.declared n → n ≤ length s.declared → n ≡ length s.declared
all_below s n e h = go s.declared n e h
  where
    go : (ds : List Declaration) (n : ℕ) → None ≡ slice_get ds n → n ≤ length ds → n ≡ length ds
    go [] zero e h = refl
    go [] (suc n) e h = absurd (omega arith)
    go (d ∷ ds) zero e h = absurd cc
    go (d ∷ ds) (suc n) e h = ap suc (go ds n e (omega arith))

-- the metavariables, the newest first
type_or : Option LfType → LfType
type_or (Some A) = A
type_or None = atom 0 nil

abbrev listed : (ℕ → Option LfType) → ℕ → List ListedMetavariable
listed Ψ zero = []
listed Ψ (suc n) = record { of = n; of_type = type_or (Ψ n); value = None } ∷ listed Ψ n

is_listed : (Ψ : ℕ → Option LfType) (n m : ℕ) → m < n → IsListed (listed Ψ n) m
is_listed Ψ zero m h = absurd (omega arith)
is_listed Ψ (suc n) m h = elim (split m n h) [ inl q ↦ inl q | inr l ↦ inr (is_listed Ψ n m l) ]
  where
    split : (m n : ℕ) → m < suc n → (m ≡ n) ⊎ (m < n)
    split zero zero h = inl refl
    split zero (suc n) h = inr (omega arith)
    split (suc m) zero h = absurd (omega arith)
    split (suc m) (suc n) h = elim (split m n (omega arith)) [ inl q ↦ inl (ap suc q) | inr l ↦ inr (omega arith) ]

listed_below : (Ψ : ℕ → Option LfType) (n m : ℕ) → IsListed (listed Ψ n) m → m < n
listed_below Ψ zero m h = absurd h
listed_below Ψ (suc n) m (inl q) = omega arith
listed_below Ψ (suc n) m (inr h) = let l = listed_below Ψ n m h in omega arith

values_none : (Ψ : ℕ → Option LfType) (n : ℕ) → ValuesAreBindings [] (listed Ψ n)
values_none Ψ zero = tt
values_none Ψ (suc n) = (λ V e. absurd cc, values_none Ψ n)

declared_at : (s : State) (m : ℕ) → m < length s.declared → (A : LfType) × (types_of s m ≡ Some A)
declared_at s m h = go s.declared m h
  where
    go : (ds : List Declaration) (m : ℕ) → m < length ds → (A : LfType) × (option_map (λ (d : Declaration). d.of_type) (slice_get ds m) ≡ Some A)
    go [] m h = absurd (omega arith)
    go (d ∷ ds) zero h = (d.of_type, refl)
    go (d ∷ ds) (suc m) h = go ds m (omega arith)

pub declared_within : (s : State) (m : ℕ) (A : LfType) → types_of s m ≡ Some A → m < length s.declared
declared_within s m A e = go s.declared m e
  where
    go : (ds : List Declaration) (m : ℕ) → option_map (λ (d : Declaration). d.of_type) (slice_get ds m) ≡ Some A → m < length ds
    go [] m e = absurd cc
    go (d ∷ ds) zero e = omega arith
    go (d ∷ ds) (suc m) e = let l = go ds m e in omega arith

module _ (Σ : Signature) (ok : IsSignature Σ) (s : State) (below : TypedBelow Σ (types_of s) (length s.declared)) where
  abbrev Ψ : ℕ → Option LfType
  Ψ = types_of s

  types_typed : (es : List Equation) → AreEquationsTyped Σ Ψ es → TypesBySkeletons Σ Ψ (followed es [])
  types_typed [] t = tt
  types_typed (e ∷ es) (q, t) = ((locals_declared Σ Ψ e.local q.locals, type_declared Σ Ψ all e.local e.of_type q.typed), types_typed es t)

  module _ (U : (ℕ → Option Term) → Type 0) where
    fewer : (β : ℕ → Option Term) → U β → all β
    fewer β u = tt

    is_order : (n : ℕ) → n ≤ length s.declared → IsDependencyOrder Σ Ψ U (listed Ψ n)
    unfolding declared_at type_or
    is_order zero h = tt
    is_order (suc n) h =
        let (A, e) = declared_at s n (omega arith) in
        let (t, v) = below n A (omega arith) e in
        let q : A ≡ type_or (Ψ n) = sym (ap type_or e) in (
          is_order n (omega arith),
          e ∙ ap Some q,
          λ i. (let l = listed_below Ψ n n i in omega arith),
          subst (MetavariablesInType (IsListed (listed Ψ n))) q (type_within (λ k. k < n) (IsListed (listed Ψ n)) (λ k l. is_listed Ψ n k l) A v),
          subst (OpenIsType Σ [] Ψ U []) q (OpenIsType-weaker Σ [] Ψ all U fewer [] A t),
          λ ρ. subst (λ X. rename_type ρ X ≡ X) q (closed Σ Ψ A t ρ),
          tt,
        )

    equations_typed : (es : List Equation) → AreEquationsTyped Σ Ψ es → EquationsAreTyped Σ [] Ψ U (followed es [])
    equations_typed [] t = tt
    equations_typed (e ∷ es) (q, t) = (
      record {
        local_typed = LocalBySkeletonsUpTo-weaker Σ [] Ψ all U fewer e.local (LocalBySkeletonsUpTo-of Σ ok [] Ψ all e.local q.locals);
        type_typed = TypeBySkeletonsUpTo-weaker Σ [] Ψ all U fewer e.local e.of_type (TypeBySkeletonsUpTo-of Σ ok [] Ψ all e.local e.of_type q.typed);
        left_typed = OpenHasType-weaker Σ [] Ψ all U fewer e.local e.left e.of_type q.left;
        right_typed = OpenHasType-weaker Σ [] Ψ all U fewer e.local e.right e.of_type q.right;
      },
      equations_typed es t,
    )

  new_ready : (es : List Equation) → IsNew s → s.bound ≡ [] → s.equations ≡ [] → AreEquationsTyped Σ Ψ es → IsReady Σ es s
  new_ready es w b q t =
      let U = IsFilling Σ [] (whole es s) in
      record {
        consistent = record {
          places = w.places;
          bound_have_values = λ m h. absurd (subst (Member m) b h);
          values_are_bound = λ m V v. absurd (w.no_value m V v);
          distinct = subst AreDistinct (sym b) tt;
        };
        well_formed = record {
          order = listed Ψ (length s.declared);
          is_order = is_order U (length s.declared) (omega arith);
          all_listed = λ m A d. is_listed Ψ (length s.declared) m (declared_within s m A d);
          bindings_listed = subst (λ bs. BindingsAreListed (listed Ψ (length s.declared)) (bindings_from bs s.values)) (sym b) tt;
          values_bound = subst (λ bs. ValuesAreBindings (bindings_from bs s.values) (listed Ψ (length s.declared))) (sym b) (values_none Ψ (length s.declared));
          typed = record {
            declarations_typed = record {
              outer_typed = λ i A g. absurd g;
              metavariables_typed = λ m A d. OpenIsType-weaker Σ [] Ψ all U (fewer U) [] A (below m A (declared_within s m A d) d).0;
            };
            bindings_typed = subst (λ bs. BindingsAreTyped Σ [] Ψ U (bindings_from bs s.values)) (sym b) tt;
            equations_typed = subst (λ fs. EquationsAreTyped Σ [] Ψ U (followed es fs)) (sym q) (equations_typed U es t);
          };
        };
        types = subst (λ fs. TypesBySkeletons Σ Ψ (followed es fs)) (sym q) (types_typed es t);
      }

pub is_ready : (Σ : Signature) → IsSignature Σ → (s : State) (n : ℕ) (es : List Equation) → IsNew s → n ≡ length s.declared → TypedBelow Σ (types_of s) n → AreEquationsTyped Σ (types_of s) es → IsReady Σ es s
is_ready Σ ok s n es w e b t = new_ready Σ ok s (subst (TypedBelow Σ (types_of s)) e b) es w w.none_bound w.none_postponed t

take_next : {A : Type 0} (xs : List A) (i : ℕ) (x : A) → i < length xs → x ≡ get_or xs i x → take (suc i) xs ≡ take i xs ++ x ∷ []
take_next [] i x h e = absurd (omega arith)
take_next (y ∷ xs) zero x h e = ap (λ z. z ∷ []) (sym e)
take_next (y ∷ xs) (suc i) x h e = ap (λ zs. y ∷ zs) (take_next xs i x (omega arith) e)

one_more : (Σ : Signature) (Ψ : ℕ → Option LfType) (es : List Equation) (e : Equation) → AreEquationsTyped Σ Ψ es → IsEquationTyped Σ Ψ e → AreEquationsTyped Σ Ψ (es ++ e ∷ [])
one_more Σ Ψ [] e t q = (q, tt)
one_more Σ Ψ (d ∷ es) e (p, t) q = (p, one_more Σ Ψ es e t q)

pub equations_next : (Σ : Signature) (Ψ : ℕ → Option LfType) (xs : List RustEquation) (i : ℕ) (x : RustEquation) → i < length xs → x ≡ get_or xs i x → AreEquationsTyped Σ Ψ (map equation_of (take i xs)) → IsEquationTyped Σ Ψ (equation_of x) → AreEquationsTyped Σ Ψ (map equation_of (take (i + 1) xs))
equations_next Σ Ψ xs i x h e t q =
    let j : i + 1 ≡ suc i = omega arith in
    subst (AreEquationsTyped Σ Ψ) (sym (ap (λ k. map equation_of (take k xs)) j ∙ ap (map equation_of) (take_next xs i x h e) ∙ map-append equation_of (take i xs) (x ∷ []))) (one_more Σ Ψ (map equation_of (take i xs)) (equation_of x) t q)

-- one metavariable more
pub declared_next : (xs : List OpenTy) (i : ℕ) (x : OpenTy) (ds : List Declaration) (A : LfType) → i < length xs → x ≡ get_or xs i x → ds ≡ map declaration_of (take i xs) → A ≡ open_type_of x → ds ++ record { context = []; of_type = A } ∷ [] ≡ map declaration_of (take (i + 1) xs)
declared_next xs i x ds A h e d a =
    let j : i + 1 ≡ suc i = omega arith in
    ap (λ es. es ++ record { context = []; of_type = A } ∷ []) d ∙ ap (λ B. map declaration_of (take i xs) ++ record { context = []; of_type = B } ∷ []) a
    ∙ sym (ap (λ k. map declaration_of (take k xs)) j ∙ ap (map declaration_of) (take_next xs i x h e) ∙ map-append declaration_of (take i xs) (x ∷ []))
