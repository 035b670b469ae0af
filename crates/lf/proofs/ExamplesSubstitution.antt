-- Hereditary substitutions that were computed by hand, and results that are wrong.
use Rattle.std.proofs.Common.{◌≡◌, ℕ, [], ◌∷◌, false, true, refl, sym, ◌∙◌, subst, true≢false}
use Rattle.lf.specs.Syntax.{constant, variable, metavariable, Term, lambda, root, pi, kind_pi, star, Skeleton, base, arrow}
use Rattle.lf.specs.Substitution.{Image, put, single, substitute, substitute_type, substitute_kind, reduce}
use Rattle.lf.specs.Rules.{Substitutes, at_constant, at_put, none, more, stop, beta}
use Rattle.lf.specs.AtOnce.{images_then_shift, lift_by}
use Rattle.lf.specs.Eta.{eta_long}
use Rattle.lf.proofs.Rules.{rules_agree}
use Rattle.lf.proofs.Checker.{same_term, term_itself}
use Rattle.lf.proofs.ExampleSignature.{v, c, vec, z, s, ap, same, one_argument, two_arguments}

abbrev n : Skeleton
n = base 0

abbrev e : Skeleton
e = base 2

-- terms of other text are different
differ : (M N : Term) → same_term M N ≡ false → M ≡ N → ⊥
differ M N d h = true≢false (sym (subst (λ X. same_term M X ≡ true) h (term_itself M)) ∙ d)

not_a_result : (σ : ℕ → Image) (M W : Term) → same_term W (substitute reduce σ M) ≡ false → Substitutes σ M W → ⊥
not_a_result σ M W d r = differ W (substitute reduce σ M) d (rules_agree r)

-- [z/x] s x = s z
pub in_an_argument : substitute reduce (single n z) (s (v 0)) ≡ s z
in_an_argument = refl

-- what stands outside comes one nearer
pub others_come_nearer : substitute reduce (single n z) (ap (v 1) (v 2)) ≡ ap (v 0) (v 1)
others_come_nearer = refl

-- under a lambda the term put in is moved over the bound variable
pub moved_under_lambda : substitute reduce (single e (v 3)) (lambda (ap (v 0) (v 1))) ≡ lambda (ap (v 0) (v 4))
moved_under_lambda = refl

-- [ap y y/x] [z] x, where the y is not caught
pub no_capture : substitute reduce (single e (ap (v 0) (v 0))) (lambda (v 1)) ≡ lambda (ap (v 1) (v 1))
no_capture = refl

-- two lambdas: one variable put in for, one bound, one outside
pub two_lambdas : substitute reduce (single e (v 0)) (lambda (lambda (ap (v 2) (ap (v 1) (v 3))))) ≡ lambda (lambda (ap (v 2) (ap (v 1) (v 2))))
two_lambdas = refl

-- [[y] s y/f] f z = s z
pub beta_on_the_way : substitute reduce (single (arrow n n) (lambda (s (v 0)))) (root (variable 0) (one_argument z)) ≡ s z
beta_on_the_way = refl

-- [[x] [y] ap x y/f] f a b = ap a b
pub two_arguments_taken : substitute reduce (single (arrow e (arrow e e)) (lambda (lambda (ap (v 1) (v 0))))) (root (variable 0) (two_arguments (v 1) (v 2))) ≡ ap (v 0) (v 1)
two_arguments_taken = refl

-- [[y] s y/f] f (f z) = s (s z)
pub in_the_argument_too : substitute reduce (single (arrow n n) (lambda (s (v 0)))) (root (variable 0) (one_argument (root (variable 0) (one_argument z)))) ≡ s (s z)
in_the_argument_too = refl

-- [[g] g z/f] f ([x] s x) = s z: the argument is put in, and then meets z
pub twice_hereditary : substitute reduce (single (arrow (arrow n n) n) (lambda (root (variable 0) (one_argument z)))) (root (variable 0) (one_argument (lambda (s (v 0))))) ≡ s z
twice_hereditary = refl

-- [[g] g (g z)/f] f ([x] s (s x)) = s (s (s (s z)))
pub doubled : substitute reduce (single (arrow (arrow n n) n) (lambda (root (variable 0) (one_argument (root (variable 0) (one_argument z)))))) (root (variable 0) (one_argument (lambda (s (s (v 0)))))) ≡ s (s (s (s z)))
doubled = refl

-- [[h] h ([x] s x)/f] f ([g] g z) = s z, three steps at falling skeletons
pub three_steps : substitute reduce (single (arrow (arrow (arrow n n) n) n) (lambda (root (variable 0) (one_argument (lambda (s (v 0))))))) (root (variable 0) (one_argument (lambda (root (variable 0) (one_argument z))))) ≡ s z
three_steps = refl

-- [[y] ap y w/f] [x] f x = [x] ap x w, where w stands outside
pub beta_under_lambda : substitute reduce (single (arrow e e) (lambda (ap (v 0) (v 1)))) (lambda (root (variable 1) (one_argument (v 0)))) ≡ lambda (ap (v 0) (v 1))
beta_under_lambda = refl

-- [[x] [y] x/f] [u] f u (f u u) = [u] u: an argument that is not used is gone
pub argument_dropped : substitute reduce (single (arrow e (arrow e e)) (lambda (lambda (v 1)))) (lambda (root (variable 1) (two_arguments (v 0) (root (variable 1) (two_arguments (v 0) (v 0)))))) ≡ lambda (v 0)
argument_dropped = refl

-- a metavariable stays the head
pub metavariable_stays : substitute reduce (single n z) (root (metavariable 5) (one_argument (v 0))) ≡ root (metavariable 5) (one_argument z)
metavariable_stays = refl

-- in types and kinds
pub in_a_type : substitute_type reduce (single n (v 2)) (pi (vec (v 0)) (same (v 1) (v 0) (v 0))) ≡ pi (vec (v 2)) (same (v 3) (v 0) (v 0))
in_a_type = refl

pub in_a_kind : substitute_kind reduce (single n z) (kind_pi (vec (v 0)) (kind_pi (vec (v 1)) star)) ≡ kind_pi (vec z) (kind_pi (vec z) star)
in_a_kind = refl

-- two images at once, before a shift by one
pub two_images : substitute reduce (images_then_shift (put e (c 5) ∷ put e (v 7) ∷ []) 1) (ap (v 0) (ap (v 1) (v 2))) ≡ ap (c 5) (ap (v 7) (v 1))
two_images = refl

-- the same under one binder, that of variable 0
pub two_images_under_one : substitute reduce (lift_by 1 (images_then_shift (put e (c 5) ∷ put e (v 7) ∷ []) 1)) (ap (v 0) (ap (v 2) (v 3))) ≡ ap (v 0) (ap (v 8) (v 2))
two_images_under_one = refl

-- eta-long forms
pub eta_of_second_order : eta_long (arrow (arrow n n) n) (variable 0) ≡ lambda (root (variable 1) (one_argument (lambda (root (variable 1) (one_argument (v 0))))))
eta_of_second_order = refl

pub eta_of_two_arguments : eta_long (arrow e (arrow e e)) (constant 7) ≡ lambda (lambda (ap (v 1) (v 0)))
eta_of_two_arguments = refl

-- by the rules, step by step: [[y] s y/f] f z
pub by_the_rules : Substitutes (single (arrow n n) (lambda (s (v 0)))) (root (variable 0) (one_argument z)) (s z)
by_the_rules = at_put refl (more (at_constant none) none) (beta (at_constant (more (at_put refl none stop) none)) stop)

-- What the rules do not derive.

-- nothing put in
pub not_left_alone : Substitutes (single n z) (s (v 0)) (s (v 0)) → ⊥
not_left_alone = not_a_result (single n z) (s (v 0)) (s (v 0)) refl

-- the others not brought nearer
pub others_not_left : Substitutes (single n z) (ap (v 1) (v 2)) (ap (v 1) (v 2)) → ⊥
others_not_left = not_a_result (single n z) (ap (v 1) (v 2)) (ap (v 1) (v 2)) refl

-- the term put in not moved
pub not_unmoved : Substitutes (single e (v 3)) (lambda (ap (v 0) (v 1))) (lambda (ap (v 0) (v 3))) → ⊥
not_unmoved = not_a_result (single e (v 3)) (lambda (ap (v 0) (v 1))) (lambda (ap (v 0) (v 3))) refl

-- the bound variable put in for
pub not_the_bound_one : Substitutes (single e (v 3)) (lambda (ap (v 0) (v 1))) (lambda (ap (v 4) (v 0))) → ⊥
not_the_bound_one = not_a_result (single e (v 3)) (lambda (ap (v 0) (v 1))) (lambda (ap (v 4) (v 0))) refl

-- a variable caught
pub not_caught : Substitutes (single e (ap (v 0) (v 0))) (lambda (v 1)) (lambda (ap (v 0) (v 0))) → ⊥
not_caught = not_a_result (single e (ap (v 0) (v 0))) (lambda (v 1)) (lambda (ap (v 0) (v 0))) refl

-- moved over one lambda of two
pub not_moved_once : Substitutes (single e (v 0)) (lambda (lambda (v 2))) (lambda (lambda (v 1))) → ⊥
not_moved_once = not_a_result (single e (v 0)) (lambda (lambda (v 2))) (lambda (lambda (v 1))) refl

-- the outer variable not brought nearer under two lambdas
pub not_still_outside : Substitutes (single e (v 0)) (lambda (lambda (v 3))) (lambda (lambda (v 3))) → ⊥
not_still_outside = not_a_result (single e (v 0)) (lambda (lambda (v 3))) (lambda (lambda (v 3))) refl

-- the argument not put in
pub argument_not_lost : Substitutes (single (arrow n n) (lambda (s (v 0)))) (root (variable 0) (one_argument z)) (s (v 0)) → ⊥
argument_not_lost = not_a_result (single (arrow n n) (lambda (s (v 0)))) (root (variable 0) (one_argument z)) (s (v 0)) refl

-- the lambda left as it is
pub lambda_not_left : Substitutes (single (arrow n n) (lambda (s (v 0)))) (root (variable 0) (one_argument z)) (lambda (s (v 0))) → ⊥
lambda_not_left = not_a_result (single (arrow n n) (lambda (s (v 0)))) (root (variable 0) (one_argument z)) (lambda (s (v 0))) refl

-- stopped after one lambda of two
pub not_after_one : Substitutes (single (arrow e (arrow e e)) (lambda (lambda (ap (v 1) (v 0))))) (root (variable 0) (two_arguments (v 1) (v 2))) (lambda (ap (v 1) (v 0))) → ⊥
not_after_one = not_a_result (single (arrow e (arrow e e)) (lambda (lambda (ap (v 1) (v 0))))) (root (variable 0) (two_arguments (v 1) (v 2))) (lambda (ap (v 1) (v 0))) refl

-- the arguments in the wrong order
pub not_swapped : Substitutes (single (arrow e (arrow e e)) (lambda (lambda (ap (v 1) (v 0))))) (root (variable 0) (two_arguments (v 1) (v 2))) (ap (v 1) (v 0)) → ⊥
not_swapped = not_a_result (single (arrow e (arrow e e)) (lambda (lambda (ap (v 1) (v 0))))) (root (variable 0) (two_arguments (v 1) (v 2))) (ap (v 1) (v 0)) refl

-- only the outer occurrence put in for
pub not_the_outer_alone : Substitutes (single (arrow n n) (lambda (s (v 0)))) (root (variable 0) (one_argument (root (variable 0) (one_argument z)))) (s (root (variable 0) (one_argument z))) → ⊥
not_the_outer_alone = not_a_result (single (arrow n n) (lambda (s (v 0)))) (root (variable 0) (one_argument (root (variable 0) (one_argument z)))) (s (root (variable 0) (one_argument z))) refl

-- stopped before the second step
pub not_one_step : Substitutes (single (arrow (arrow n n) n) (lambda (root (variable 0) (one_argument z)))) (root (variable 0) (one_argument (lambda (s (v 0))))) (root (variable 0) (one_argument z)) → ⊥
not_one_step = not_a_result (single (arrow (arrow n n) n) (lambda (root (variable 0) (one_argument z)))) (root (variable 0) (one_argument (lambda (s (v 0))))) (root (variable 0) (one_argument z)) refl

-- the argument used once where it stands twice
pub not_used_once : Substitutes (single (arrow (arrow n n) n) (lambda (root (variable 0) (one_argument (root (variable 0) (one_argument z)))))) (root (variable 0) (one_argument (lambda (s (s (v 0)))))) (s (s z)) → ⊥
not_used_once = not_a_result (single (arrow (arrow n n) n) (lambda (root (variable 0) (one_argument (root (variable 0) (one_argument z)))))) (root (variable 0) (one_argument (lambda (s (s (v 0)))))) (s (s z)) refl

-- the outer variable of the term put in caught by the lambda
pub outer_not_caught : Substitutes (single (arrow e e) (lambda (ap (v 0) (v 1)))) (lambda (root (variable 1) (one_argument (v 0)))) (lambda (ap (v 0) (v 0))) → ⊥
outer_not_caught = not_a_result (single (arrow e e) (lambda (ap (v 0) (v 1)))) (lambda (root (variable 1) (one_argument (v 0)))) (lambda (ap (v 0) (v 0))) refl

-- eta-long forms are long inside, and have their arguments in order
pub eta_not_short_inside : eta_long (arrow (arrow n n) n) (variable 0) ≡ lambda (root (variable 1) (one_argument (v 0))) → ⊥
eta_not_short_inside = differ (eta_long (arrow (arrow n n) n) (variable 0)) (lambda (root (variable 1) (one_argument (v 0)))) refl

pub eta_not_swapped : eta_long (arrow e (arrow e e)) (constant 7) ≡ lambda (lambda (ap (v 0) (v 1))) → ⊥
eta_not_swapped = differ (eta_long (arrow e (arrow e e)) (constant 7)) (lambda (lambda (ap (v 0) (v 1)))) refl

pub eta_head_moved : eta_long (arrow e e) (variable 0) ≡ lambda (root (variable 0) (one_argument (v 0))) → ⊥
eta_head_moved = differ (eta_long (arrow e e) (variable 0)) (lambda (root (variable 0) (one_argument (v 0)))) refl
