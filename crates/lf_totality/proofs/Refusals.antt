-- The worked declarations that are refused.
use Rattle.lf_checks.specs.Modes.{InFreePlace, occurs_at}
use Rattle.std.proofs.Common.{◌≡◌, ℕ, zero, suc, List, [], ◌∷◌, refl, sym, ap, ◌∙◌, subst, inl, inr, true≢false}
use Rattle.std.specs.Prelude.{Bool, true, false, ◌⊎◌, Some}
use Rattle.lf.specs.Syntax.{constant, metavariable, variable, Term, Spine, lambda, root, nil, app, LfType, Kind, pi, atom, kind_pi, star}
use Rattle.lf.specs.Typing.{Signature, HasType, instantiate_type}
use Rattle.lf.specs.Worlds.{World, no_variables, single_variable, whole_instance}
use Rattle.lf_totality.specs.Total.{Total}
use Rattle.lf.specs.Variables.{nothing, binders}
use Rattle.lf_checks.specs.Clause.{Clause, scope, entry_clause, from_constant, outside, variables}
use Rattle.lf_checks.specs.Marks.{input_places, UsesPlaces, AreSound, free, free_places, input, HasSoundMarks, TypedPlaces}
use Rattle.lf.specs.Variables.{nothing, target_arguments, everything}
use Rattle.lf_checks.specs.Ground.{ground_by, ground_first}
use Rattle.lf_checks.specs.Worlded.{IsSequence, no_instance, next_instance}
use Rattle.lf_checks.specs.Order.{Smaller, SmallerOrEqual, InArguments, under_constant, under_parameter, under_lambda, equal, smaller, first_argument, later_argument}
use Rattle.lf_checks.specs.Descent.{EqualCall, no_call, after_call}
use Rattle.lf_totality.specs.Examples.{var, successor, first_place, cp_lam, cp, exp, applied_to, nat}
use Rattle.lf_totality.specs.Refusals.{LoopIsRefused, UngroundIsRefused, MissingWorldIsRefused, CycleIsRefused, SomeVariableCoversNothing, SomeVariableIsNoParameter, o_e, p_block, p_entries, u_type, p_marks, FreePlaceIsExempt, MarksMustFit, UnsoundMarksAreRefused, g_a, Empty, EmptyIsNotTotal}

some_term : {M N : Term} → Some M ≡ Some N → M ≡ N
some_term e = cc

module _ {Σ : Signature} {C : List LfType} {L R : ℕ → Bool} where
  -- nothing is smaller than a term with a head that is neither a constant nor one of R
  no_smaller : (i : ℕ) (T : Spine) → R i ≡ false → (M N : Term) (A : LfType) → Smaller Σ C L R M N A → N ≡ root (variable i) T → ⊥
  no_smaller i T e M N A (under_constant t h) q = absurd cc
  no_smaller i T e M N A (under_parameter {i = k} r t h) q = let f : k ≡ i = cc in let g : true ≡ false = sym r ∙ ap R f ∙ e in absurd cc
  no_smaller i T e M N A (under_lambda y l t h) q = absurd cc

  -- nor is s X smaller than s X
  not_in : (i : ℕ) → R i ≡ false → (M : Term) (S : Spine) (A : LfType) → InArguments Σ C L R M S A → S ≡ app (var i) nil → M ≡ successor (var i) → ⊥
  not_in i e M S A (first_argument {N = N} {A = D} h) p q = go M N D h (let f : N ≡ var i = cc in f) q
    where
      go : (M N : Term) (A : LfType) → SmallerOrEqual Σ C L R M N A → N ≡ var i → M ≡ successor (var i) → ⊥
      go M N A equal p q = let f : var i ≡ successor (var i) = sym p ∙ q in absurd cc
      go M N A (smaller h) p q = no_smaller i nil e M N A h p
  not_in i e M S A (later_argument {N = N} {S = T} {A = D} {B = B} h) p q = go M T (instantiate_type D N B) h (let f : T ≡ nil = cc in f)
    where
      go : (M : Term) (T : Spine) (A : LfType) → InArguments Σ C L R M T A → T ≡ nil → ⊥
      go M T A (first_argument h) p = absurd cc
      go M T A (later_argument h) p = absurd cc

  not_less : (i : ℕ) → R i ≡ false → (M N : Term) (A : LfType) → Smaller Σ C L R M N A → M ≡ successor (var i) → N ≡ successor (var i) → ⊥
  not_less i e M N A (under_constant {A = D} {S = S} t h) p q = not_in i e M S D h (let f : S ≡ app (var i) nil = cc in f) p
  not_less i e M N A (under_parameter r t h) p q = absurd cc
  not_less i e M N A (under_lambda y l t h) p q = absurd cc

pub loop_refused : LoopIsRefused
loop_refused Σ W group (a, inl (M, N, e, f, K, k, X, g, h)) = not_less 2 refl M N X h (sym (some_term e)) (sym (some_term f))
loop_refused Σ W group (a, inr (q, n)) = n no_call

pub unground_refused : UngroundIsRefused
unground_refused Σ moded h = let e : false ≡ true = (((h 1).1.0).0).0 in absurd cc

pub missing_world_refused : MissingWorldIsRefused
missing_world_refused Σ h = go (binders [] lam_goal) (h 0 lam_goal (refl, refl)) refl
  where
    lam_goal : LfType
    lam_goal = pi exp (pi (cp (var 0) (var 0)) (cp (applied_to 4 1) (applied_to 3 1)))

    go : (D : List LfType) → IsSequence Σ [] (scope cp_lam) D → D ≡ binders [] lam_goal → ⊥
    go D no_instance e = absurd cc
    go D (next_instance B θ l m t v p) e = absurd m

pub cycle_refused : CycleIsRefused
cycle_refused Σ W group k t in_e in_o (a, inl (M, N, e, f, K, k0, X, g, h)) = no_smaller 1 nil refl M N X h (sym (some_term f))
cycle_refused Σ W group k t in_e in_o (a, inr (q, n)) = n (after_call back no_call)
  where
    back : EqualCall Σ W first_place group 7 6
    back = record { clause = o_e; is_clause = from_constant k o_e.type t; caller = refl; caller_in = in_o; index = 0; subgoal = atom 6 (app (var 1) nil); is_subgoal = (refl, refl); callee = refl; callee_in = in_e; same = (var 1, refl, refl) }

pub covers_nothing : SomeVariableCoversNothing
covers_nothing Σ W S G w T r e = go r.clause e r.uses
  where
    go : (c : Clause) → c ≡ entry_clause p_block p_entries u_type → UsesPlaces (ground_by everything (input_places (p_marks 10)) c) (input_places (p_marks 10)) (target_arguments c.type) → ⊥
    go c e u =
        let v : UsesPlaces (ground_by everything (input_places (p_marks 10)) (entry_clause p_block p_entries u_type)) (input_places (p_marks 10)) (target_arguments u_type) = subst (λ d. UsesPlaces (ground_by everything (input_places (p_marks 10)) d) (input_places (p_marks 10)) (target_arguments d.type)) e u in
        let f : false ≡ true = (v.1.0).1.1.0.0 in absurd cc

pub no_parameter : SomeVariableIsNoParameter
no_parameter Σ W group (a, inl (M, N, e, f, K, k, X, g, h)) = no_smaller 4 (app (var 3) (app (var 1) nil)) refl M N X h (sym (some_term f))
no_parameter Σ W group (a, inr ((M, e, f), n)) = let q : var 1 ≡ root (variable 4) (app (var 3) (app (var 1) nil)) = some_term (e ∙ sym f) in absurd cc

some_kind : {K L : Kind} → Some K ≡ Some L → K ≡ L
some_kind e = cc

pub marks_fit : MarksMustFit
marks_fit W (((K, e, s), n), t) = subst (λ L. AreSound nothing (input ∷ []) L → ⊥) (some_kind e) (λ q. q.1) s

pub unsound_refused : UnsoundMarksAreRefused
unsound_refused h = let e : false ≡ true = h.0.0.0 in absurd cc

pub free_exempt : FreePlaceIsExempt
free_exempt Σ e moded zero = tt
free_exempt Σ e moded (suc n) = ((kind_pi nat star, e, tt), (tt, own))
  where
    own : (x : ℕ) → variables g_a x ≡ true → outside g_a.type everything x ≡ false → (ground_first (λ a. free ∷ []) g_a x ≡ true) ⊎ (occurs_at (free_places (free ∷ [])) x (target_arguments g_a.type) ≡ true) ⊎ InFreePlace (λ a. free ∷ []) g_a x
    own zero v o = inr (inl refl)
    own (suc x) v o = absurd cc

-- nothing is typed in the context without variables
empty_term : (M : Term) (a : ℕ) (T : Spine) → HasType Empty [] M (atom a T) → ⊥
empty_term (lambda M) a T m = m
empty_term (root (constant c) S) a T (A, e, r) = absurd cc
empty_term (root (metavariable c) S) a T (A, e, r) = e
empty_term (root (variable i) S) a T (A, g, r) = g

-- a context without blocks, beside every family, has no variables
no_context : {G : List LfType} → World Empty [] everything G → G ≡ []
no_context no_variables = refl
no_context (single_variable w t n) = absurd (true≢false n)
no_context (whole_instance B m e o) = absurd m

pub empty_not_total : EmptyIsNotTotal
empty_not_total = (none, ((marks, tt), λ G w K S e t. absurd (by (no_context w) K S e t)))
  where
    none : Total Empty 0 [] [] → ⊥
    none t = let (T, M, s, f, m) = t.1 [] no_variables star nil refl tt in empty_term M 0 T m

    marks : HasSoundMarks Empty 1 (input ∷ [])
    marks = (kind_pi (atom 0 nil) star, refl, (tt, tt))

    some_kind : {A B : Kind} → Some A ≡ Some B → A ≡ B
    some_kind e = cc

    no_input : (S : Spine) → TypedPlaces Empty (true ∷ []) [] S (kind_pi (atom 0 nil) star) → ⊥
    no_input nil t = t
    no_input (app M S) (m, r) = empty_term M 0 nil m

    by : {G : List LfType} → G ≡ [] → (K : Kind) (S : Spine) → Empty.kinds 1 ≡ Some K → TypedPlaces Empty (true ∷ []) G S K → ⊥
    by g K S e t = no_input S (subst (λ X. TypedPlaces Empty (true ∷ []) [] S X) (sym (some_kind e)) (subst (λ D. TypedPlaces Empty (true ∷ []) D S K) g t))
