-- A term has one rigid head, and keeps it where it is substituted in or applied.
use Rattle.std.proofs.Common.{List, [], ap, arith, refl, subst, suc, sym, zero, ℕ, ◌+◌, ◌∙◌, ◌≡◌}
use Rattle.lf_unification.specs.Rigid.{past_binders}
use Rattle.lf_unification.specs.Unifiers.{Binding}
use Rattle.lf.specs.Substitution.{Image, apply_image, keep, lift, put, reduce, rename_image, single, substitute, substitute_spine}
use Rattle.lf.specs.Syntax.{Head, Skeleton, Spine, Term, app, arrow, base, constant, lambda, lift_renaming, metavariable, nil, rename, root, variable}
use Rattle.lf.proofs.TypeLaws.{substitution_as_renaming}
use Rattle.lf_search.specs.Heads.{HasHead, HasOwnHead, HasRigidHead, IsArgument, RigidHead, constant_head, from_outside, head_of_argument, head_of_value, is_first, is_later, outer_head, own, own_head, own_under_lambda, own_variable, under_lambda, variable_head}

pub past_is : (k i : ℕ) → past_binders k i ≡ i + k
past_is zero i = omega arith
past_is (suc k) i = let e : suc i + k ≡ i + suc k = omega arith in past_is k (suc i) ∙ e

-- One head.

-- how many lambdas go before a term's head, and the head
abbrev depth : Term → ℕ
depth (lambda M) = suc (depth M)
depth (root h S) = zero

abbrev bottom : Term → Head
bottom (lambda M) = bottom M
bottom (root h S) = h

-- a head from under n more binders
abbrev head_past : ℕ → Head → Head
head_past n (constant c) = constant c
head_past n (variable i) = variable (i + n)
head_past n (metavariable m) = metavariable m

rigid_bottom : {k : ℕ} (M : Term) {h : Head} → HasRigidHead [] k M h → bottom M ≡ head_past (depth M + k) h
rigid_bottom (root (constant c) S) constant_head = refl
rigid_bottom {k = k} (root (variable j) S) (variable_head i e) = let p : i + k ≡ i + (0 + k) = omega arith in ap variable (e ∙ past_is k i ∙ p)
rigid_bottom {k = k} (lambda M) {h = h} (under_lambda w) = let e : depth M + suc k ≡ suc (depth M) + k = omega arith in rigid_bottom M w ∙ ap (λ n. head_past n h) e
rigid_bottom (root (metavariable m) S) (head_of_value b i w) = absurd i
rigid_bottom (root (metavariable m) S) (head_of_argument b i o a w) = absurd i

own_bottom : {n l : ℕ} (M : Term) → HasOwnHead [] n M l → (j : ℕ) × (bottom M ≡ variable j) × (j + suc l ≡ n + depth M)
own_bottom {l = l} M (own_variable {j = j} w e) = (j + (depth M + 0), rigid_bottom M w, omega arith)
own_bottom (lambda M) (own_under_lambda w) = let (j, e, q) = own_bottom M w in (j, e, omega arith)

outside_same : (n : ℕ) (h h' : Head) → head_past n h ≡ head_past n h' → h ≡ h'
outside_same n (constant c) (constant d) e = e
outside_same n (metavariable m) (metavariable p) e = e
outside_same n (variable i) (variable j) e = let p : i + n ≡ j + n = cc in let q : i ≡ j = omega arith in ap variable q
outside_same n (constant c) (variable j) e = cc
outside_same n (constant c) (metavariable m) e = cc
outside_same n (variable i) (constant c) e = cc
outside_same n (variable i) (metavariable m) e = cc
outside_same n (metavariable m) (constant c) e = cc
outside_same n (metavariable m) (variable j) e = cc

outside_is_not_own : {k l : ℕ} (M : Term) {h : Head} → HasRigidHead [] k M h → HasOwnHead [] 0 M l → ⊥
outside_is_not_own {k = k} {l = l} M {h = h} w o = let (j, e, q) = own_bottom M o in go h j (sym (rigid_bottom M w) ∙ e) q
  where
    go : (h : Head) (j : ℕ) → head_past (depth M + k) h ≡ variable j → j + suc l ≡ 0 + depth M → ⊥
    go (constant c) j e q = cc
    go (metavariable m) j e q = cc
    go (variable i) j e q = let p : i + (depth M + k) ≡ j = cc in omega arith

pub one_head : {k : ℕ} (M : Term) {h h' : RigidHead} → HasHead [] k M h → HasHead [] k M h' → h ≡ h'
one_head {k = k} M (outer_head {h = h} w) (outer_head {h = h'} v) = ap from_outside (outside_same (depth M + k) h h' (sym (rigid_bottom M w) ∙ rigid_bottom M v))
one_head M (outer_head w) (own_head v) = absurd (outside_is_not_own M w v)
one_head M (own_head w) (outer_head v) = absurd (outside_is_not_own M v w)
one_head M (own_head {l = l} w) (own_head {l = l'} v) =
    let (i, e, p) = own_bottom M w in
    let (j, f, q) = own_bottom M v in
    let same : variable i ≡ variable j = sym e ∙ f in
    let x : i ≡ j = cc in
    let y : l ≡ l' = omega arith in ap own y

-- Through substitutions.

-- what becomes of a head from outside of k binders, where there are k' of them afterwards
pub data Follows (σ : ℕ → Image) (k k' : ℕ) : Head → Head → Type 0 where
  constant_stays : {c : ℕ} → Follows σ k k' (constant c) (constant c)
  variable_goes : {i : ℕ} (i' : ℕ) → σ (i + k) ≡ keep (i' + k') → Follows σ k k' (variable i) (variable i')

lifted : {σ : ℕ → Image} {k k' : ℕ} {h h' : Head} → Follows σ k k' h h' → Follows (lift σ) (suc k) (suc k') h h'
lifted constant_stays = constant_stays
lifted {σ = σ} {k = k} {k' = k'} (variable_goes {i = i} i' e) =
    let p : i + suc k ≡ suc (i + k) = omega arith in
    let q : suc (i' + k') ≡ i' + suc k' = omega arith in
    variable_goes i' (ap (lift σ) p ∙ ap (rename_image suc) e ∙ ap keep q)

argument_substituted : (r : Skeleton → Term → Spine → Term) (σ : ℕ → Image) {M : Term} {n : ℕ} {S : Spine} → IsArgument M n S → IsArgument (substitute r σ M) n (substitute_spine r σ S)
argument_substituted r σ is_first = is_first
argument_substituted r σ (is_later a) = is_later (argument_substituted r σ a)

pub rigid_substituted : {bs : List Binding} (r : Skeleton → Term → Spine → Term) (σ : ℕ → Image) {k k' : ℕ} {M : Term} {h h' : Head} → HasRigidHead bs k M h → Follows σ k k' h h' → HasRigidHead bs k' (substitute r σ M) h'
rigid_substituted r σ constant_head constant_stays = constant_head
rigid_substituted {bs = bs} r σ {k = k} {k' = k'} (variable_head {S = S} i e) (variable_goes i' q) =
    subst (λ x. HasRigidHead bs k' (apply_image r x (substitute_spine r σ S)) (variable i')) (sym (ap σ (e ∙ past_is k i) ∙ q)) (variable_head i' (sym (past_is k' i')))
rigid_substituted r σ (under_lambda w) f = under_lambda (rigid_substituted r (lift σ) w (lifted f))
rigid_substituted r σ (head_of_value b i w) constant_stays = head_of_value b i w
rigid_substituted r σ (head_of_argument b i o a w) f = head_of_argument b i o (argument_substituted r σ a) (rigid_substituted r σ w f)

-- the substitution keeps the variable that lambda number l of n binds
abbrev pub KeepsOwn : (ℕ → Image) → ℕ → ℕ → Type 0
KeepsOwn σ n l = (j : ℕ) → j + suc l ≡ n → σ j ≡ keep j

keeps_lifted : (σ : ℕ → Image) (n l : ℕ) → KeepsOwn σ n l → KeepsOwn (lift σ) (suc n) l
keeps_lifted σ n l w zero e = refl
keeps_lifted σ n l w (suc j) e = ap (rename_image suc) (w j (omega arith))

pub own_substituted : {bs : List Binding} (r : Skeleton → Term → Spine → Term) (σ : ℕ → Image) {n n' l l' : ℕ} {M : Term} → n + l' ≡ n' + l → KeepsOwn σ n l → HasOwnHead bs n M l → HasOwnHead bs n' (substitute r σ M) l'
own_substituted r σ d w (own_variable {j = j} v e) = let p : j ≡ j + 0 = omega arith in own_variable (rigid_substituted r σ v (variable_goes j (ap σ (sym p) ∙ w j e ∙ ap keep p))) (omega arith)
own_substituted r σ {n = n} {l = l} d w (own_under_lambda v) = own_under_lambda (own_substituted r (lift σ) (omega arith) (keeps_lifted σ n l w) v)

-- Through renamings.

pub rigid_renamed : {bs : List Binding} (ρ : ℕ → ℕ) {k k' : ℕ} (M : Term) {h h' : Head} → HasRigidHead bs k M h → Follows (λ i. keep (ρ i)) k k' h h' → HasRigidHead bs k' (rename ρ M) h'
rigid_renamed {bs = bs} ρ {k' = k'} M {h' = h'} w f = subst (λ X. HasRigidHead bs k' X h') (substitution_as_renaming (λ a N S. N) ρ M) (rigid_substituted (λ a N S. N) (λ i. keep (ρ i)) w f)

pub own_renamed : {bs : List Binding} (ρ : ℕ → ℕ) {l : ℕ} (M : Term) → HasOwnHead bs 0 M l → HasOwnHead bs 0 (rename ρ M) l
own_renamed {bs = bs} ρ {l = l} M w = subst (λ X. HasOwnHead bs 0 X l) (substitution_as_renaming (λ a N S. N) ρ M) (own_substituted (λ a N S. N) (λ i. keep (ρ i)) refl (λ j e. absurd (omega arith)) w)

-- no metavariable is a rigid head
pub no_metavariable : {bs : List Binding} {k m : ℕ} {M : Term} → HasRigidHead bs k M (metavariable m) → ⊥
no_metavariable (under_lambda w) = no_metavariable w
no_metavariable (head_of_argument b i o a w) = no_metavariable w

-- one more binder before a term
one_further : {k : ℕ} (M : Term) {h : Head} → HasRigidHead [] k M h → HasRigidHead [] (suc k) (rename suc M) h
one_further {k = k} M {h = constant c} w = rigid_renamed suc M w constant_stays
one_further {k = k} M {h = variable i} w = let e : suc (i + k) ≡ i + suc k = omega arith in rigid_renamed suc M w (variable_goes i (ap keep e))
one_further {k = k} M {h = metavariable m} w = absurd (no_metavariable w)

pub constant_anywhere : {bs : List Binding} {k : ℕ} (j : ℕ) {M : Term} {c : ℕ} → HasRigidHead bs k M (constant c) → HasRigidHead bs j M (constant c)
constant_anywhere j constant_head = constant_head
constant_anywhere j (under_lambda w) = under_lambda (constant_anywhere (suc j) w)
constant_anywhere j (head_of_value b i w) = head_of_value b i w
constant_anywhere j (head_of_argument b i o a w) = head_of_argument b i o a (constant_anywhere j w)

-- Applied to arguments.

-- one binder fewer
one_nearer : (a : Skeleton) (N : Term) {k : ℕ} (M : Term) {h : Head} → HasRigidHead [] (suc k) M h → Follows (single a N) (suc k) k h h
one_nearer a N M {h = constant c} w = constant_stays
one_nearer a N {k = k} M {h = variable i} w = let e : i + suc k ≡ suc (i + k) = omega arith in variable_goes i (ap (single a N) e)
one_nearer a N M {h = metavariable m} w = absurd (no_metavariable w)

pub rigid_reduced : (a : Skeleton) (k : ℕ) (N : Term) (S : Spine) {h : Head} → HasRigidHead [] k N h → HasRigidHead [] k (reduce a N S) h
rigid_reduced (base d) k N S w = w
rigid_reduced (arrow a b) k (root h T) S w = w
rigid_reduced (arrow a b) k (lambda M) nil w = w
rigid_reduced (arrow a b) k (lambda M) (app N S) (under_lambda w) = rigid_reduced b k (substitute (λ d. reduce a) (single a N) M) S (rigid_substituted (λ d. reduce a) (single a N) w (one_nearer a N M w))

-- a term with no more lambdas than its skeleton has arrows
abbrev pub Fits : Skeleton → Term → Type 0
Fits a (root h S) = Unit {0}
Fits (base c) (lambda M) = ⊥
Fits (arrow a b) (lambda M) = Fits b M

pub fits_renamed : (ρ : ℕ → ℕ) (a : Skeleton) (N : Term) → Fits a N → Fits a (rename ρ N)
fits_renamed ρ a (root h S) w = tt
fits_renamed ρ (base c) (lambda M) w = absurd w
fits_renamed ρ (arrow a b) (lambda M) w = fits_renamed (lift_renaming ρ) b M w

-- a variable's image under more lambdas
fits_substituted : (r : Skeleton → Term → Spine → Term) (σ : ℕ → Image) (a : Skeleton) {k k' i i' : ℕ} (M : Term) → HasRigidHead [] k M (variable i) → Follows σ k k' (variable i) (variable i') → Fits a M → Fits a (substitute r σ M)
fits_substituted r σ a {k = k} (root (variable j) S) (variable_head i e) (variable_goes i' q) f = subst (λ x. Fits a (apply_image r x (substitute_spine r σ S))) (sym (ap σ (e ∙ past_is k i) ∙ q)) tt
fits_substituted r σ a (root (constant c) S) w g f = elim w [ ]
fits_substituted r σ (base c) (lambda M) (under_lambda w) g f = absurd f
fits_substituted r σ (arrow a b) (lambda M) (under_lambda w) g f = fits_substituted r (lift σ) b M w (lifted g) f
fits_substituted r σ a (root (metavariable n) S) (head_of_argument b i o v w) g f = absurd i

own_fits : (r : Skeleton → Term → Spine → Term) (σ : ℕ → Image) (a : Skeleton) {n l : ℕ} (M : Term) → KeepsOwn σ n l → HasOwnHead [] n M l → Fits a M → Fits a (substitute r σ M)
own_fits r σ a M w (own_variable {j = j} v e) f = let p : j ≡ j + 0 = omega arith in fits_substituted r σ a M v (variable_goes j (ap σ (sym p) ∙ w j e ∙ ap keep p)) f
own_fits r σ (base c) (lambda M) w (own_under_lambda v) f = absurd f
own_fits r σ (arrow a b) {n = n} {l = l} (lambda M) w (own_under_lambda v) f = own_fits r (lift σ) b M (keeps_lifted σ n l w) v f

-- where a variable is the head, and something else is put for it
put_rigid : (a : Skeleton) (σ : ℕ → Image) {k x j : ℕ} (c : Skeleton) (P : Term) (M : Term) {h : Head} → σ (j + x) ≡ put c P → HasRigidHead [] k P h → HasRigidHead [] x M (variable j) → HasRigidHead [] k (substitute (λ d. reduce a) σ M) h
put_rigid a σ {k = k} {x = x} c P (root (variable j) S) {h = h} e p (variable_head i q) =
    subst (λ y. HasRigidHead [] k (apply_image (λ d. reduce a) y (substitute_spine (λ d. reduce a) σ S)) h) (sym (ap σ (q ∙ past_is x i) ∙ e)) (rigid_reduced a k P (substitute_spine (λ d. reduce a) σ S) p)
put_rigid a σ c P (root (constant d) S) e p w = elim w [ ]
put_rigid a σ {x = x} {j = j} c P (lambda M) e p (under_lambda w) =
    let f : j + suc x ≡ suc (j + x) = omega arith in
    under_lambda (put_rigid a (lift σ) c (rename suc P) M (ap (lift σ) f ∙ ap (rename_image suc) e) (one_further P p) w)
put_rigid a σ c P (root (metavariable n) S) e p (head_of_argument b i o v w) = absurd i

put_own : (a : Skeleton) (σ : ℕ → Image) {k m : ℕ} (c : Skeleton) (P : Term) (M : Term) {h : Head} → σ m ≡ put c P → HasRigidHead [] k P h → HasOwnHead [] (suc m) M 0 → HasRigidHead [] k (substitute (λ d. reduce a) σ M) h
put_own a σ {m = m} c P M e p (own_variable {j = j} w q) = let f : j + 0 ≡ m = omega arith in put_rigid a σ c P M (ap σ f ∙ e) p w
put_own a σ c P (lambda M) e p (own_under_lambda w) = under_lambda (put_own a (lift σ) c (rename suc P) M (ap (rename_image suc) e) (one_further P p) w)

-- the first of two lambdas and more goes
own_nearer : (a : Skeleton) (N : Term) (l : ℕ) → KeepsOwn (single a N) 1 (suc l)
own_nearer a N l j e = absurd (omega arith)

pub argument_reduced : (a : Skeleton) (k : ℕ) (N : Term) {l : ℕ} {S : Spine} {P : Term} {h : Head} → Fits a N → HasOwnHead [] 0 N l → IsArgument P l S → HasRigidHead [] k P h → HasRigidHead [] k (reduce a N S) h
argument_reduced a k N f (own_variable {j = j} w e) v p = absurd (omega arith)
argument_reduced (base c) k (lambda M) f (own_under_lambda w) v p = absurd f
argument_reduced (arrow a b) k (lambda M) f (own_under_lambda w) (is_first {S = S}) p = rigid_reduced b k (substitute (λ d. reduce a) (single a _) M) S (put_own a (single a _) a _ M refl p w)
argument_reduced (arrow a b) k (lambda M) f (own_under_lambda w) (is_later {n = l} {N = P} v) p =
    argument_reduced b k (substitute (λ d. reduce a) (single a P) M) (own_fits (λ d. reduce a) (single a P) b M (own_nearer a P l) w f) (own_substituted (λ d. reduce a) (single a P) (omega arith) (own_nearer a P l) w) v p
