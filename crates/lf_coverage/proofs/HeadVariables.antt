-- The variables in the head of a constant's clause are its own; so where the clause is linear and full, its head is so in all of them.
use Rattle.std.proofs.Common.{◌≡◌, ℕ, zero, suc, List, [], ◌∷◌, refl, sym, ap, ◌∙◌, arith, true≢false}
use Rattle.std.specs.Prelude.{◌+◌, ◌≤◌, Bool, true, false, not, cond}
use Rattle.lf.specs.Syntax.{constant, variable, metavariable, Term, Spine, lambda, root, nil, app, LfType, Kind, pi, atom, kind_pi, star}
use Rattle.lf.specs.Typing.{Signature, instantiate_type, instantiate_kind, IsType}
use Rattle.lf.specs.Variables.{binders, target, target_arguments, hide, under, everything, Uses, UsesSpine, same_number}
use Rattle.lf.proofs.Kept.{typed_uses_type}
use Rattle.lf.proofs.Checker.{number_itself}
use Rattle.lf_unification.specs.Search.{occurs, occurs_spine, occurs_type}
use Rattle.lf_checks.specs.Clause.{constant_clause, variables, outside, is_variable, with_newest}
use Rattle.lf_checks.specs.Marks.{Mark, input_places}
use Rattle.lf_checks.specs.Tests.{either, both}
use Rattle.lf_checks.proofs.Reach.{number_equal}
use Rattle.lf_cases.specs.Full.{occurrences, occurrences_spine, occurrences_at, own_variables, AppliesToAll, IsFullTerm, IsFullSpine, AreFullPlaces, IsLinear}
use Rattle.lf_coverage.proofs.Choices.{decided, choose_first, choose_second, first_chosen, second_chosen, either_first, either_second}
use Rattle.lf_coverage.proofs.Matching.{own_in_scope}

neither_first : (a b : Bool) → either a b ≡ false → a ≡ false
neither_first true b e = e
neither_first false b e = refl

neither_second : (a b : Bool) → either a b ≡ false → b ≡ false
neither_second true b e = absurd cc
neither_second false b e = e

none_of_both : (a b : Bool) → a ≡ false → b ≡ false → either a b ≡ false
none_of_both true b e f = e
none_of_both false b e f = f

pub nothing_more : (b : Bool) (n : ℕ) → b ≡ false → n ≡ 0 → cond b 1 0 + n ≡ 0
nothing_more true n e f = absurd cc
nothing_more false n e f = omega arith

pub no_sum : (m n : ℕ) → m ≡ 0 → n ≡ 0 → m + n ≡ 0
no_sum m n e f = omega arith

mutual
  -- what doesn't occur occurs no time
  pub never_occurs : (x : ℕ) (M : Term) → occurs x M ≡ false → occurrences x M ≡ 0
  never_occurs x (lambda M) e = never_occurs (suc x) M e
  never_occurs x (root (constant c) S) e = never_occurs_spine x S e
  never_occurs x (root (metavariable c) S) e = never_occurs_spine x S e
  never_occurs x (root (variable i) S) e = nothing_more (same_number x i) (occurrences_spine x S) (neither_first (same_number x i) (occurs_spine x S) e) (never_occurs_spine x S (neither_second (same_number x i) (occurs_spine x S) e))

  never_occurs_spine : (x : ℕ) (S : Spine) → occurs_spine x S ≡ false → occurrences_spine x S ≡ 0
  never_occurs_spine x nil e = refl
  never_occurs_spine x (app M S) e = no_sum (occurrences x M) (occurrences_spine x S) (never_occurs x M (neither_first (occurs x M) (occurs_spine x S) e)) (never_occurs_spine x S (neither_second (occurs x M) (occurs_spine x S) e))

never_occurs_at : (m : List Bool) (x : ℕ) (S : Spine) → occurs_spine x S ≡ false → occurrences_at m x S ≡ 0
never_occurs_at [] x S e = refl
never_occurs_at (b ∷ m) x nil e = refl
never_occurs_at (true ∷ m) x (app M S) e = no_sum (occurrences x M) (occurrences_at m x S) (never_occurs x M (neither_first (occurs x M) (occurs_spine x S) e)) (never_occurs_at m x S (neither_second (occurs x M) (occurs_spine x S) e))
never_occurs_at (false ∷ m) x (app M S) e = never_occurs_at m x S (neither_second (occurs x M) (occurs_spine x S) e)

mutual
  -- a variable that isn't used doesn't occur
  pub not_used : (V : ℕ → Bool) (x : ℕ) (M : Term) → V x ≡ false → Uses V M → occurs x M ≡ false
  not_used V x (lambda M) e u = not_used (under V) (suc x) M e u
  not_used V x (root (constant c) S) e u = not_used_spine V x S e u
  not_used V x (root (metavariable c) S) e u = not_used_spine V x S e u
  not_used V x (root (variable i) S) e (v, u) = none_of_both (same_number x i) (occurs_spine x S) (other (same_number x i) refl) (not_used_spine V x S e u)
    where
      other : (b : Bool) → same_number x i ≡ b → b ≡ false
      other true q = absurd (true≢false (sym v ∙ ap V (sym (number_equal x i q)) ∙ e))
      other false q = refl

  not_used_spine : (V : ℕ → Bool) (x : ℕ) (S : Spine) → V x ≡ false → UsesSpine V S → occurs_spine x S ≡ false
  not_used_spine V x nil e u = refl
  not_used_spine V x (app M S) e (u, v) = none_of_both (occurs x M) (occurs_spine x S) (not_used V x M e u) (not_used_spine V x S e v)

-- a quantifier that is no variable doesn't occur in the head
no_subgoal : (V : ℕ → Bool) (U : LfType) (x : ℕ) → ((j : ℕ) → V j ≡ false → occurs_type j U ≡ false) → is_variable V U x ≡ false → occurs_spine x (target_arguments U) ≡ false
no_subgoal V (pi A B) x h e = no_subgoal (with_newest (occurs_type zero B) V) B x newest e
  where
    newest : (j : ℕ) → with_newest (occurs_type zero B) V j ≡ false → occurs_type j B ≡ false
    newest zero q = q
    newest (suc j) q = neither_second (occurs_type j A) (occurs_type (suc j) B) (h j q)
no_subgoal V (atom a S) x h e = h x e

head_type : (Σ : Signature) (G : List LfType) (U : LfType) → IsType Σ G U → IsType Σ (binders G U) (atom (target U) (target_arguments U))
head_type Σ G (pi A B) (a, b) = head_type Σ (A ∷ G) B b
head_type Σ G (atom a S) t = t

occurs_here : (i : ℕ) (b : Bool) → either (same_number i i) b ≡ true
occurs_here i b = ap (λ z. either z b) (number_itself i)

module _ (Σ : Signature) (below : ℕ → ℕ → Bool) (C : List LfType) where
  mutual
    -- a term is full in other sets too that have the same of its variables
    full_too : (P Q : ℕ → Bool) (D : List LfType) (M : Term) (A : LfType) → ((i : ℕ) → occurs i M ≡ true → P i ≡ Q i) → IsFullTerm Σ below C P D M A → IsFullTerm Σ below C Q D M A
    full_too P Q D (lambda M) (pi A B) h f = full_too (hide P) (hide Q) (A ∷ D) M B at f
      where
        at : (i : ℕ) → occurs i M ≡ true → hide P i ≡ hide Q i
        at zero e = refl
        at (suc i) e = h i e
    full_too P Q D (lambda M) (atom a T) h f = f
    full_too P Q D (root k S) (pi A B) h f = f
    full_too P Q D (root (constant c) S) (atom a T) h (X, e, f) = (X, e, full_spine_too P Q D S X h f)
    full_too P Q D (root (metavariable m) S) (atom a T) h f = f
    full_too P Q D (root (variable i) S) (atom a T) h (X, t, f) =
        let All : Type 0 = AppliesToAll (below (target X)) C D S in
        let In : Type 0 = IsFullSpine Σ below C P D S X in
        let Out : Type 0 = IsFullSpine Σ below C Q D S X in
        let same : P i ≡ Q i = h i (occurs_here i (occurs_spine i S)) in
        (X, t, decided (Q i) (λ q. first_chosen All Out (Q i) q (choose_first All In (P i) (same ∙ q) f)) (λ q. second_chosen All Out (Q i) q (full_spine_too P Q D S X (λ j e. h j (either_second (same_number j i) (occurs_spine j S) e)) (choose_second All In (P i) (same ∙ q) f))))

    full_spine_too : (P Q : ℕ → Bool) (D : List LfType) (S : Spine) (A : LfType) → ((i : ℕ) → occurs_spine i S ≡ true → P i ≡ Q i) → IsFullSpine Σ below C P D S A → IsFullSpine Σ below C Q D S A
    full_spine_too P Q D nil A h f = tt
    full_spine_too P Q D (app M S) (pi A B) h (f, g) = (full_too P Q D M A (λ i e. h i (either_first (occurs i M) (occurs_spine i S) e)) f, full_spine_too P Q D S (instantiate_type A M B) (λ i e. h i (either_second (occurs i M) (occurs_spine i S) e)) g)
    full_spine_too P Q D (app M S) (atom a T) h f = f

  full_places_too : (P Q : ℕ → Bool) (D : List LfType) (m : List Bool) (S : Spine) (K : Kind) → ((i : ℕ) → occurs_spine i S ≡ true → P i ≡ Q i) → AreFullPlaces Σ below C P D m S K → AreFullPlaces Σ below C Q D m S K
  full_places_too P Q D [] S K h f = tt
  full_places_too P Q D (b ∷ m) nil K h f = tt
  full_places_too P Q D (b ∷ m) (app M S) star h f = f
  full_places_too P Q D (true ∷ m) (app M S) (kind_pi A K) h (f, g) = (full_too P Q D M A (λ i e. h i (either_first (occurs i M) (occurs_spine i S) e)) f, full_places_too P Q D m S (instantiate_kind A M K) (λ i e. h i (either_second (occurs i M) (occurs_spine i S) e)) g)
  full_places_too P Q D (false ∷ m) (app M S) (kind_pi A K) h f = full_places_too P Q D m S (instantiate_kind A M K) (λ i e. h i (either_second (occurs i M) (occurs_spine i S) e)) f

-- U is the type of a constant
module _ (Σ : Signature) (U : LfType) (t : IsType Σ [] U) where
  outside_is_absent : (x : ℕ) → outside U everything x ≡ true → occurs_spine x (target_arguments U) ≡ false
  outside_is_absent x e = not_used_spine (λ i. not (outside U everything i)) x (target_arguments U) (ap not e) (typed_uses_type Σ (binders [] U) (λ i. not (outside U everything i)) (atom (target U) (target_arguments U)) (λ i A g. ap not (own_in_scope U [] everything (λ j X k. absurd k) i A g)) (head_type Σ [] U t))

  subgoal_is_absent : (x : ℕ) → variables (constant_clause U) x ≡ false → occurs_spine x (target_arguments U) ≡ false
  subgoal_is_absent x e = no_subgoal everything U x (λ j q. absurd (true≢false q)) e

  own : (x : ℕ) → occurs_spine x (target_arguments U) ≡ true → own_variables (constant_clause U) x ≡ everything x
  own x e = by (variables (constant_clause U) x) refl (outside U everything x) refl
    where
      by : (b : Bool) → variables (constant_clause U) x ≡ b → (d : Bool) → outside U everything x ≡ d → both b (not d) ≡ true
      by false q d r = absurd (true≢false (sym e ∙ subgoal_is_absent x q))
      by true q true r = absurd (true≢false (sym e ∙ outside_is_absent x r))
      by true q false r = refl

  -- a linear clause has each variable once in its head
  pub once_in_head : (m : ℕ → List Mark) → IsLinear m (constant_clause U) → (x : ℕ) → occurrences_at (input_places (m (target U))) x (target_arguments U) ≤ 1
  once_in_head m l x =
      decided (variables (constant_clause U) x) (λ v. decided (outside U everything x) (λ o. none (occurrences_at (input_places (m (target U))) x (target_arguments U)) (never_occurs_at (input_places (m (target U))) x (target_arguments U) (outside_is_absent x o))) (λ o. l.0 x v o)) (λ v. none (occurrences_at (input_places (m (target U))) x (target_arguments U)) (never_occurs_at (input_places (m (target U))) x (target_arguments U) (subgoal_is_absent x v)))
    where
      none : (n : ℕ) → n ≡ 0 → n ≤ 1
      none n e = omega arith

  -- and the head of a full one is full in all variables
  pub full_in_head : (below : ℕ → ℕ → Bool) (m : List Bool) (K : Kind) → AreFullPlaces Σ below (binders [] U) (own_variables (constant_clause U)) [] m (target_arguments U) K → AreFullPlaces Σ below (binders [] U) everything [] m (target_arguments U) K
  full_in_head below m K f = full_places_too Σ below (binders [] U) (own_variables (constant_clause U)) everything [] m (target_arguments U) K own f

  -- what occurs in chosen places of the head is a variable of the clause
  pub own_in_head : (m : List Bool) (x : ℕ) → (occurrences_at m x (target_arguments U) ≡ 0 → ⊥) → variables (constant_clause U) x ≡ true
  own_in_head m x o = decided (variables (constant_clause U) x) (λ v. v) (λ v. absurd (o (never_occurs_at m x (target_arguments U) (subgoal_is_absent x v))))

  -- and it stands in the clause
  pub inside_in_head : (m : List Bool) (x : ℕ) → (occurrences_at m x (target_arguments U) ≡ 0 → ⊥) → outside U everything x ≡ false
  inside_in_head m x o = decided (outside U everything x) (λ e. absurd (o (never_occurs_at m x (target_arguments U) (outside_is_absent x e)))) (λ e. e)
