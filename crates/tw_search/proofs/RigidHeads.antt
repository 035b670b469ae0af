-- Rigid heads, as they are read, and terms that are seen from inside of more local variables.
use Rattle.std.proofs.Common.{◌≡◌, ℕ, zero, suc, ◌+◌, ◌<◌, List, [], ◌∷◌, get_or, length, Option, Some, None, IfSome, refl, sym, ap, ◌∙◌, subst, arith}
use Rattle.lf.specs.AtOnce.{lift_renaming_by, shift_by}
use Rattle.lf.specs.Entries.{quantifiers}
use Rattle.lf.specs.Subordination.{Member}
use Rattle.lf.specs.Substitution.{keep}
use Rattle.lf.specs.Syntax.{Head, LfType, Spine, Term, app, atom, constant, lambda, lift_renaming, metavariable, nil, pi, rename, rename_head, rename_spine, rename_type, root, variable}
use Rattle.lf.specs.Variables.{target_arguments}
use Rattle.lf_unification.specs.Unifiers.{Binding}
use Rattle.lf_search.specs.Heads.{Clash, HasHead, HasOwnHead, HasRigidHead, IsArgument, RigidHead, constant_head, head_of_argument, head_of_value, is_first, is_later, outer_head, own_head, own_under_lambda, own_variable, under_lambda, variable_head}
use Rattle.lf_search.proofs.RigidHeads.{constant_anywhere, constant_stays, no_metavariable, own_renamed, past_is, rigid_renamed, variable_goes}
use Rattle.tw_prune.proofs.Tables.{lift_high}
use Rattle.tw_terms.specs.OpenView.{open_args_of, open_term_of}
use Rattle.tw_terms.specs.View.{head_of}
use Rattle.tw_terms.specs.declared.canonical.Head.{Head as ReadHead}
use Rattle.tw_terms.specs.declared.open_terms.Open.{Open}
use Rattle.tw_search.specs.Clashing.{AreApart, HeadIsArgument, IsPlaced, IsUnder, TypeClashes, constant_is, itself, one_further, outside_is, own_is, rename_rigid, rigid_of}
use Rattle.tw_search.specs.declared.rigid.Rigid.{Rigid}

-- heads of open terms, as they are read
pub constant_at : (bs : List Binding) (M : Term) (S : Spine) (c k : ℕ) (h : Head) → M ≡ root (constant c) S → h ≡ constant c → HasRigidHead bs k M h
constant_at bs M S c k h e q = subst (λ X. HasRigidHead bs k X h) (sym e) (subst (HasRigidHead bs k (root (constant c) S)) (sym q) constant_head)

pub variable_at : (bs : List Binding) (M : Term) (S : Spine) (j k i : ℕ) (h : Head) → M ≡ root (variable j) S → h ≡ variable i → j ≡ i + k → HasRigidHead bs k M h
variable_at bs M S j k i h e q p = subst (λ X. HasRigidHead bs k X h) (sym e) (subst (HasRigidHead bs k (root (variable j) S)) (sym q) (variable_head i (p ∙ sym (past_is k i))))

pub lambda_head : (bs : List Binding) (M N : Term) (k j : ℕ) (o : Option ReadHead) → M ≡ lambda N → j ≡ k + 1 → IfSome o (λ h. HasRigidHead bs j N (head_of h)) → IfSome o (λ h. HasRigidHead bs k M (head_of h))
lambda_head bs M N k j None e q w = tt
lambda_head bs M N k j (Some h) e q w = let p : j ≡ suc k = omega arith in subst (λ X. HasRigidHead bs k X (head_of h)) (sym e) (under_lambda (subst (λ i. HasRigidHead bs i N (head_of h)) p w))

-- a metavariable on arguments
pub value_at : (bs : List Binding) (M : Term) (S : Spine) (m c k : ℕ) (h : Head) → M ≡ root (metavariable m) S → h ≡ constant c → HasRigidHead bs k (root (metavariable m) nil) (constant c) → HasRigidHead bs k M h
value_at bs M S m c k h e q w = subst (λ X. HasRigidHead bs k X h) (sym e) (subst (HasRigidHead bs k (root (metavariable m) S)) (sym q) (on_arguments w))
  where
    on_arguments : HasRigidHead bs k (root (metavariable m) nil) (constant c) → HasRigidHead bs k (root (metavariable m) S) (constant c)
    on_arguments (head_of_value b i w) = head_of_value b i w
    on_arguments (head_of_argument b i o a w) = elim a [ ]

pub argument_at : (bs : List Binding) (M P : Term) (S : Spine) (m l k : ℕ) (h : Head) → M ≡ root (metavariable m) S → HeadIsArgument bs m l → IsArgument P l S → HasRigidHead bs k P h → HasRigidHead bs k M h
argument_at bs M P S m l k h e v a w = subst (λ X. HasRigidHead bs k X h) (sym e) (subst (λ n. HasRigidHead bs k (root (metavariable n) S) h) v.is_of (head_of_argument v.binding v.bound v.head a w))

pub argument_head : (bs : List Binding) (M P : Term) (S : Spine) (m l k : ℕ) (o : Option ReadHead) → M ≡ root (metavariable m) S → HeadIsArgument bs m l → IsArgument P l S → IfSome o (λ h. HasRigidHead bs k P (head_of h)) → IfSome o (λ h. HasRigidHead bs k M (head_of h))
argument_head bs M P S m l k None e v a w = tt
argument_head bs M P S m l k (Some h) e v a w = argument_at bs M P S m l k (head_of h) e v a w

-- the argument at a place of a list
pub argument_of_list : (ts : List Open) (n : ℕ) (x : Open) → n < length ts → x ≡ get_or ts n x → IsArgument (open_term_of x) n (open_args_of ts)
argument_of_list [] n x h e = absurd (omega arith)
argument_of_list (t ∷ ts) zero x h e = subst (λ y. IsArgument (open_term_of x) 0 (app (open_term_of y) (open_args_of ts))) e is_first
argument_of_list (t ∷ ts) (suc n) x h e = is_later (argument_of_list ts n x (omega arith) e)

-- What stands under lambdas.

pub own_under : {bs : List Binding} {M N : Term} {n l : ℕ} → IsUnder M n N → HasOwnHead bs n N l → HasOwnHead bs 0 M l
own_under itself w = w
own_under (one_further u) w = own_under u (own_under_lambda w)

pub outer_under : {bs : List Binding} {M N : Term} {n : ℕ} {h : Head} (k : ℕ) → IsUnder M n N → HasRigidHead bs (k + n) N h → HasRigidHead bs k M h
outer_under {bs = bs} {M = M} {h = h} k itself w = let e : k + 0 ≡ k = omega arith in subst (λ j. HasRigidHead bs j M h) e w
outer_under {bs = bs} {N = N} {h = h} k (one_further {n = n} u) w = let e : k + suc n ≡ suc (k + n) = omega arith in outer_under k u (under_lambda (subst (λ j. HasRigidHead bs j N h) e w))

pub lambda_further : (M N B : Term) (n m : ℕ) → N ≡ lambda B → m ≡ n + 1 → IsUnder M n N → IsUnder M m B
lambda_further M N B n m e q u = let p : suc n ≡ m = omega arith in subst (λ i. IsUnder M i B) p (one_further (subst (IsUnder M n) e u))

-- from outside of k more binders
outward : {bs : List Binding} {m : ℕ} (k : ℕ) {M : Term} {i j : ℕ} → j ≡ i + k → HasRigidHead bs m M (variable j) → HasRigidHead bs (m + k) M (variable i)
outward {m = m} k {i = i} e (variable_head j p) = let f : j + m ≡ i + (m + k) = omega arith in variable_head i (p ∙ past_is m j ∙ f ∙ sym (past_is (m + k) i))
outward {bs = bs} {m = m} k {i = i} e (under_lambda {M = M} w) = let f : suc m + k ≡ suc (m + k) = omega arith in under_lambda (subst (λ n. HasRigidHead bs n M (variable i)) f (outward k e w))
outward k e (head_of_argument b i o a w) = head_of_argument b i o a (outward k e w)

pub has_head : (bs : List Binding) (M N : Term) (n k : ℕ) (h : Head) (r : RigidHead) → IsUnder M n N → HasRigidHead bs 0 N h → IsPlaced n k h r → HasHead bs k M r
has_head bs M N n k (constant c) r u w constant_is = outer_head (outer_under k u (constant_anywhere (k + n) w))
has_head bs M N n k (variable j) r u w (own_is e) = own_head (own_under u (own_variable w e))
has_head bs M N n k (variable j) r u w (outside_is {i = i} e) = let f : 0 + (k + n) ≡ k + n = omega arith in outer_head (outer_under k u (subst (λ x. HasRigidHead bs x N (variable i)) f (outward (k + n) e w)))
has_head bs M N n k (metavariable m) r u w p = elim p [ ]

pub head_as_placed : (bs : List Binding) (M N : Term) (n k : ℕ) (h : Head) (o : Option Rigid) → IsUnder M n N → HasRigidHead bs 0 N h → IfSome o (λ r. IsPlaced n k h (rigid_of r)) → IfSome o (λ r. HasHead bs k M (rigid_of r))
head_as_placed bs M N n k h None u w p = tt
head_as_placed bs M N n k h (Some r) u w p = has_head bs M N n k h (rigid_of r) u w p

-- a value's head
pub value_own : (bs : List Binding) (m n j : ℕ) (V N : Term) (o : Option ℕ) → Member (record { of = m; value = V }) bs → IsUnder V n N → HasRigidHead bs 0 N (variable j) → IfSome o (λ l. j + suc l ≡ n) → IfSome o (HeadIsArgument bs m)
value_own bs m n j V N None i u w e = tt
value_own bs m n j V N (Some l) i u w e = record { binding = record { of = m; value = V }; bound = i; is_of = refl; head = own_under u (own_variable w e) }

-- the head moves as the term does
moved_rigid : (n : ℕ) {bs : List Binding} {k : ℕ} (N : Term) (h : Head) → HasRigidHead bs k N h → HasRigidHead bs k (rename (lift_renaming_by k (shift_by n)) N) (rename_head (shift_by n) h)
moved_rigid n {k = k} N (constant c) w = rigid_renamed (lift_renaming_by k (shift_by n)) N w constant_stays
moved_rigid n {k = k} N (variable i) w = rigid_renamed (lift_renaming_by k (shift_by n)) N w (variable_goes (i + n) (ap keep (lift_high k (shift_by n) i)))
moved_rigid n {k = k} N (metavariable m) w = absurd (no_metavariable w)

moved_head : (n : ℕ) {bs : List Binding} {k : ℕ} (N : Term) {r : RigidHead} → HasHead bs k N r → HasHead bs k (rename (lift_renaming_by k (shift_by n)) N) (rename_rigid (shift_by n) r)
moved_head n N (outer_head {h = h} w) = outer_head (moved_rigid n N h w)
moved_head n {k = k} N (own_head w) = own_head (own_renamed (lift_renaming_by k (shift_by n)) N w)

-- arguments with different heads
pub apart_from : (bs : List Binding) (M N : Term) (f w : RigidHead) → HasHead bs 0 M f → ((cs : List Binding) (k : ℕ) → HasHead cs k N w) → (f ≡ w → ⊥) → (k : ℕ) → AreApart bs k M N
apart_from bs M N f w m n d k = record { found = f; wanted = w; goal_has = m; clause_has = n bs k; differ = d }

pub apart_moved : (bs : List Binding) (k n : ℕ) (M N : Term) (f w : RigidHead) → HasHead bs 0 M f → HasHead bs k N w → (f ≡ rename_rigid (shift_by n) w → ⊥) → AreApart bs k M (rename (lift_renaming_by k (shift_by n)) N)
apart_moved bs k n M N f w m v d = record { found = f; wanted = rename_rigid (shift_by n) w; goal_has = m; clause_has = moved_head n N v; differ = d }

lifted_inside : (k : ℕ) (ρ : ℕ → ℕ) → lift_renaming_by k (lift_renaming ρ) ≡ lift_renaming_by (suc k) ρ
lifted_inside zero ρ = refl
lifted_inside (suc k) ρ = ap lift_renaming (lifted_inside k ρ)

quantifiers_moved : (ρ : ℕ → ℕ) (A : LfType) → quantifiers (rename_type ρ A) ≡ quantifiers A
quantifiers_moved ρ (pi A B) = ap suc (quantifiers_moved (lift_renaming ρ) B)
quantifiers_moved ρ (atom a S) = refl

target_moved : (ρ : ℕ → ℕ) (A : LfType) → target_arguments (rename_type ρ A) ≡ rename_spine (lift_renaming_by (quantifiers A) ρ) (target_arguments A)
target_moved ρ (pi A B) = target_moved (lift_renaming ρ) B ∙ ap (λ τ. rename_spine τ (target_arguments B)) (lifted_inside (quantifiers B) ρ)
target_moved ρ (atom a S) = refl

-- the arguments of a type that has moved
pub moved_clashes : (bs : List Binding) (S T : Spine) (A : LfType) (k n : ℕ) → k ≡ quantifiers A → T ≡ target_arguments A → Clash bs k S (rename_spine (lift_renaming_by k (shift_by n)) T) → TypeClashes bs S (rename_type (shift_by n) A)
moved_clashes bs S T A k n e f c =
    subst (λ X. Clash bs (quantifiers (rename_type (shift_by n) A)) S X) (sym (target_moved (shift_by n) A))
    (subst (λ j. Clash bs j S (rename_spine (lift_renaming_by (quantifiers A) (shift_by n)) (target_arguments A))) (sym (quantifiers_moved (shift_by n) A))
    (subst (λ X. Clash bs (quantifiers A) S (rename_spine (lift_renaming_by (quantifiers A) (shift_by n)) X)) f
    (subst (λ j. Clash bs j S (rename_spine (lift_renaming_by j (shift_by n)) T)) e c)))

-- a walk along the quantifiers has come to the target
pub passed_all : (A R : LfType) (a k : ℕ) (T : Spine) → R ≡ atom a T → quantifiers R + k ≡ quantifiers A → k ≡ quantifiers A
passed_all A R a k T e p = let q : quantifiers R ≡ 0 = ap quantifiers e in omega arith

pub same_arguments : (A R : LfType) (a : ℕ) (T : Spine) → R ≡ atom a T → target_arguments R ≡ target_arguments A → T ≡ target_arguments A
same_arguments A R a T e p = sym (ap target_arguments e) ∙ p
