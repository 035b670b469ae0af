-- LF typing as a test, so that examples are decided by computation. The test is true exactly where the judgement holds.
use Rattle.std.proofs.Common.{◌≡◌, ℕ, zero, suc, List, [], ◌∷◌, Option, Some, None, Bool, true, false, refl, sym, ap, ap₂, ◌∙◌, subst, true≢false}
use Rattle.lf.specs.Syntax.{Head, constant, variable, metavariable, Term, Spine, lambda, root, nil, app, LfType, Kind, pi, atom, kind_pi, star, weaken}
use Rattle.lf.specs.Variables.{same_number}
use Rattle.lf.specs.Typing.{Signature, TypeAt, HeadHasType, instantiate_type, instantiate_kind, HasType, SpineType, SpineFitsKind, IsType}

abbrev pub both : Bool → Bool → Bool
both true b = b
both false b = false

pub both_left : (a b : Bool) → both a b ≡ true → a ≡ true
both_left true b e = refl
both_left false b e = absurd (true≢false (sym e))

pub both_right : (a b : Bool) → both a b ≡ true → b ≡ true
both_right true b e = e
both_right false b e = absurd (true≢false (sym e))

pub both_of : (a b : Bool) → a ≡ true → b ≡ true → both a b ≡ true
both_of a b e f = ap₂ both e f

some_inj : {X : Type 0} {x y : X} → Some x ≡ Some y → x ≡ y
some_inj e = cc

-- equality of terms and types
abbrev pub same_head : Head → Head → Bool
same_head (constant c) (constant d) = same_number c d
same_head (variable i) (variable j) = same_number i j
same_head (metavariable m) (metavariable n) = same_number m n
same_head _ _ = false

abbrev mutual
  pub same_term : Term → Term → Bool
  same_term (lambda M) (lambda N) = same_term M N
  same_term (root h S) (root k T) = both (same_head h k) (same_spine S T)
  same_term _ _ = false

  pub same_spine : Spine → Spine → Bool
  same_spine nil nil = true
  same_spine (app M S) (app N T) = both (same_term M N) (same_spine S T)
  same_spine _ _ = false

abbrev pub same_type : LfType → LfType → Bool
same_type (pi A B) (pi C D) = both (same_type A C) (same_type B D)
same_type (atom a S) (atom b T) = both (same_number a b) (same_spine S T)
same_type _ _ = false

pub number_is : (i j : ℕ) → same_number i j ≡ true → i ≡ j
number_is zero zero e = refl
number_is zero (suc j) e = absurd (true≢false (sym e))
number_is (suc i) zero e = absurd (true≢false (sym e))
number_is (suc i) (suc j) e = ap suc (number_is i j e)

pub number_itself : (i : ℕ) → same_number i i ≡ true
number_itself zero = refl
number_itself (suc i) = number_itself i

head_is : (h k : Head) → same_head h k ≡ true → h ≡ k
head_is (constant c) (constant d) e = ap constant (number_is c d e)
head_is (variable c) (variable d) e = ap variable (number_is c d e)
head_is (metavariable c) (metavariable d) e = ap metavariable (number_is c d e)
head_is (constant c) (variable d) e = absurd (true≢false (sym e))
head_is (constant c) (metavariable d) e = absurd (true≢false (sym e))
head_is (variable c) (constant d) e = absurd (true≢false (sym e))
head_is (variable c) (metavariable d) e = absurd (true≢false (sym e))
head_is (metavariable c) (constant d) e = absurd (true≢false (sym e))
head_is (metavariable c) (variable d) e = absurd (true≢false (sym e))

head_itself : (h : Head) → same_head h h ≡ true
head_itself (constant c) = number_itself c
head_itself (variable c) = number_itself c
head_itself (metavariable c) = number_itself c

mutual
  term_is : (M N : Term) → same_term M N ≡ true → M ≡ N
  term_is (lambda M) (lambda N) e = ap lambda (term_is M N e)
  term_is (root h S) (root k T) e = ap₂ root (head_is h k (both_left _ _ e)) (spine_is S T (both_right (same_head h k) _ e))
  term_is (lambda M) (root k T) e = absurd (true≢false (sym e))
  term_is (root h S) (lambda N) e = absurd (true≢false (sym e))

  spine_is : (S T : Spine) → same_spine S T ≡ true → S ≡ T
  spine_is nil nil e = refl
  spine_is (app M S) (app N T) e = ap₂ app (term_is M N (both_left _ _ e)) (spine_is S T (both_right (same_term M N) _ e))
  spine_is nil (app N T) e = absurd (true≢false (sym e))
  spine_is (app M S) nil e = absurd (true≢false (sym e))

mutual
  pub term_itself : (M : Term) → same_term M M ≡ true
  term_itself (lambda M) = term_itself M
  term_itself (root h S) = both_of _ _ (head_itself h) (spine_itself S)

  spine_itself : (S : Spine) → same_spine S S ≡ true
  spine_itself nil = refl
  spine_itself (app M S) = both_of _ _ (term_itself M) (spine_itself S)

type_is : (A B : LfType) → same_type A B ≡ true → A ≡ B
type_is (pi A B) (pi C D) e = ap₂ pi (type_is A C (both_left _ _ e)) (type_is B D (both_right (same_type A C) _ e))
type_is (atom a S) (atom b T) e = ap₂ atom (number_is a b (both_left _ _ e)) (spine_is S T (both_right (same_number a b) _ e))
type_is (pi A B) (atom b T) e = absurd (true≢false (sym e))
type_is (atom a S) (pi C D) e = absurd (true≢false (sym e))

type_itself : (A : LfType) → same_type A A ≡ true
type_itself (pi A B) = both_of _ _ (type_itself A) (type_itself B)
type_itself (atom a S) = both_of _ _ (number_itself a) (spine_itself S)

-- the declared type of a head
abbrev pub weakened : Option LfType → Option LfType
weakened (Some A) = Some (weaken A)
weakened None = None

abbrev pub variable_type : List LfType → ℕ → Option LfType
variable_type [] i = None
variable_type (A ∷ G) zero = Some (weaken A)
variable_type (A ∷ G) (suc i) = weakened (variable_type G i)

abbrev pub type_of_head : Signature → List LfType → Head → Option LfType
type_of_head Σ G (constant c) = Σ.types c
type_of_head Σ G (variable i) = variable_type G i
type_of_head Σ G (metavariable m) = None

weakened_some : (x : Option LfType) (A : LfType) → weakened x ≡ Some A → (C : LfType) × (x ≡ Some C) × (A ≡ weaken C)
weakened_some None A e = absurd (cc)
weakened_some (Some C) A e = (C, refl, sym (some_inj e))

variable_sound : (G : List LfType) (i : ℕ) (A : LfType) → variable_type G i ≡ Some A → TypeAt G i A
variable_sound [] i A e = absurd (cc)
variable_sound (B ∷ G) zero A e = sym (some_inj e)
variable_sound (B ∷ G) (suc i) A e = let (C, f, g) = weakened_some (variable_type G i) A e in (C, variable_sound G i C f, g)

variable_complete : (G : List LfType) (i : ℕ) (A : LfType) → TypeAt G i A → variable_type G i ≡ Some A
variable_complete [] i A g = absurd g
variable_complete (B ∷ G) zero A e = ap Some (sym e)
variable_complete (B ∷ G) (suc i) A (C, g, e) = ap weakened (variable_complete G i C g) ∙ ap Some (sym e)

abbrev mutual
  pub check : Signature → List LfType → Term → LfType → Bool
  check Σ G (lambda M) (pi A B) = check Σ (A ∷ G) M B
  check Σ G (lambda M) (atom a T) = false
  check Σ G (root h S) (pi A B) = false
  check Σ G (root h S) (atom a T) = check_from Σ G S (type_of_head Σ G h) (atom a T)

  pub check_from : Signature → List LfType → Spine → Option LfType → LfType → Bool
  check_from Σ G nil None C = false
  check_from Σ G (app M S) None C = false
  check_from Σ G nil (Some A) C = same_type A C
  check_from Σ G (app M S) (Some (pi A B)) C = both (check Σ G M A) (check_from Σ G S (Some (instantiate_type A M B)) C)
  check_from Σ G (app M S) (Some (atom a T)) C = false

abbrev pub check_kind_spine : Signature → List LfType → Spine → Option Kind → Bool
check_kind_spine Σ G nil None = false
check_kind_spine Σ G (app M S) None = false
check_kind_spine Σ G nil (Some star) = true
check_kind_spine Σ G nil (Some (kind_pi A K)) = false
check_kind_spine Σ G (app M S) (Some star) = false
check_kind_spine Σ G (app M S) (Some (kind_pi A K)) = both (check Σ G M A) (check_kind_spine Σ G S (Some (instantiate_kind A M K)))

abbrev pub check_type : Signature → List LfType → LfType → Bool
check_type Σ G (pi A B) = both (check_type Σ G A) (check_type Σ (A ∷ G) B)
check_type Σ G (atom a S) = check_kind_spine Σ G S (Σ.kinds a)

module _ (Σ : Signature) where
  head_sound : (G : List LfType) (h : Head) (A : LfType) → type_of_head Σ G h ≡ Some A → HeadHasType Σ G h A
  head_sound G (constant c) A e = e
  head_sound G (variable i) A e = variable_sound G i A e
  head_sound G (metavariable m) A e = absurd (cc)

  head_complete : (G : List LfType) (h : Head) (A : LfType) → HeadHasType Σ G h A → type_of_head Σ G h ≡ Some A
  head_complete G (constant c) A e = e
  head_complete G (variable i) A e = variable_complete G i A e
  head_complete G (metavariable m) A e = absurd e

  from_some : (G : List LfType) (S : Spine) (x : Option LfType) (C : LfType) → check_from Σ G S x C ≡ true → (A : LfType) × (x ≡ Some A)
  from_some G S (Some A) C e = (A, refl)
  from_some G nil None C e = absurd (true≢false (sym e))
  from_some G (app M S) None C e = absurd (true≢false (sym e))

  mutual
    pub check_sound : (G : List LfType) (M : Term) (A : LfType) → check Σ G M A ≡ true → HasType Σ G M A
    check_sound G (lambda M) (pi A B) e = check_sound (A ∷ G) M B e
    check_sound G (lambda M) (atom a T) e = absurd (true≢false (sym e))
    check_sound G (root h S) (pi A B) e = absurd (true≢false (sym e))
    check_sound G (root h S) (atom a T) e = let (A, f) = from_some G S (type_of_head Σ G h) (atom a T) e in (A, head_sound G h A f, check_from_sound G S A (atom a T) (subst (λ x. check_from Σ G S x (atom a T) ≡ true) f e))

    pub check_from_sound : (G : List LfType) (S : Spine) (A C : LfType) → check_from Σ G S (Some A) C ≡ true → SpineType Σ G S A C
    check_from_sound G nil A C e = type_is A C e
    check_from_sound G (app M S) (pi A B) C e = (check_sound G M A (both_left _ _ e), check_from_sound G S (instantiate_type A M B) C (both_right (check Σ G M A) _ e))
    check_from_sound G (app M S) (atom a T) C e = absurd (true≢false (sym e))

  mutual
    pub check_complete : (G : List LfType) (M : Term) (A : LfType) → HasType Σ G M A → check Σ G M A ≡ true
    check_complete G (lambda M) (pi A B) m = check_complete (A ∷ G) M B m
    check_complete G (lambda M) (atom a T) m = absurd m
    check_complete G (root h S) (pi A B) m = absurd m
    check_complete G (root h S) (atom a T) (A, g, s) = ap (λ x. check_from Σ G S x (atom a T)) (head_complete G h A g) ∙ check_from_complete G S A (atom a T) s

    pub check_from_complete : (G : List LfType) (S : Spine) (A C : LfType) → SpineType Σ G S A C → check_from Σ G S (Some A) C ≡ true
    check_from_complete G nil A C e = subst (λ X. same_type A X ≡ true) e (type_itself A)
    check_from_complete G (app M S) (pi A B) C (m, s) = both_of _ _ (check_complete G M A m) (check_from_complete G S (instantiate_type A M B) C s)
    check_from_complete G (app M S) (atom a T) C s = absurd s

  kind_spine_sound : (G : List LfType) (S : Spine) (x : Option Kind) → check_kind_spine Σ G S x ≡ true → (K : Kind) × (x ≡ Some K) × SpineFitsKind Σ G S K
  kind_spine_sound G nil None e = absurd (true≢false (sym e))
  kind_spine_sound G (app M S) None e = absurd (true≢false (sym e))
  kind_spine_sound G nil (Some star) e = (star, refl, tt)
  kind_spine_sound G nil (Some (kind_pi A K)) e = absurd (true≢false (sym e))
  kind_spine_sound G (app M S) (Some star) e = absurd (true≢false (sym e))
  kind_spine_sound G (app M S) (Some (kind_pi A K)) e =
      let (L, f, s) = kind_spine_sound G S (Some (instantiate_kind A M K)) (both_right (check Σ G M A) _ e) in
      (kind_pi A K, refl, (check_sound G M A (both_left _ _ e), subst (SpineFitsKind Σ G S) (sym (some_inj f)) s))

  kind_spine_complete : (G : List LfType) (S : Spine) (K : Kind) → SpineFitsKind Σ G S K → check_kind_spine Σ G S (Some K) ≡ true
  kind_spine_complete G nil star s = refl
  kind_spine_complete G nil (kind_pi A K) s = absurd s
  kind_spine_complete G (app M S) star s = absurd s
  kind_spine_complete G (app M S) (kind_pi A K) (m, s) = both_of _ _ (check_complete G M A m) (kind_spine_complete G S (instantiate_kind A M K) s)

  pub check_type_sound : (G : List LfType) (A : LfType) → check_type Σ G A ≡ true → IsType Σ G A
  check_type_sound G (pi A B) e = (check_type_sound G A (both_left _ _ e), check_type_sound (A ∷ G) B (both_right (check_type Σ G A) _ e))
  check_type_sound G (atom a S) e = kind_spine_sound G S (Σ.kinds a) e

  pub check_type_complete : (G : List LfType) (A : LfType) → IsType Σ G A → check_type Σ G A ≡ true
  check_type_complete G (pi A B) (a, b) = both_of _ _ (check_type_complete G A a) (check_type_complete (A ∷ G) B b)
  check_type_complete G (atom a S) (K, e, s) = ap (check_kind_spine Σ G S) e ∙ kind_spine_complete G S K s

  -- what the test refuses does not hold
  pub refused : (G : List LfType) (M : Term) (A : LfType) → check Σ G M A ≡ false → HasType Σ G M A → ⊥
  refused G M A e m = true≢false (sym (check_complete G M A m) ∙ e)

  pub type_refused : (G : List LfType) (A : LfType) → check_type Σ G A ≡ false → IsType Σ G A → ⊥
  type_refused G A e a = true≢false (sym (check_type_complete G A a) ∙ e)
