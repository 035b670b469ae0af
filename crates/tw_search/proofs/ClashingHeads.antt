-- Heads of terms, as they are walked to.
use Rattle.std.proofs.Common.{◌≡◌, ℕ, suc, ◌+◌, ◌<◌, List, drop, get_or, length, Some, sym, ap, ◌∙◌, subst, add-one, drop-cons}
use Rattle.lf.specs.Subordination.{Member}
use Rattle.lf.specs.Syntax.{LfType, Spine, Term, app, constant, lambda, metavariable, nil, pi, root}
use Rattle.lf.specs.Variables.{target_arguments}
use Rattle.lf_unification.specs.Unifiers.{Binding}
use Rattle.lf_search.specs.Heads.{Clash, HasRigidHead, clash_here, clash_later, constant_head, head_of_argument, head_of_value, under_lambda}
use Rattle.tw_metas.specs.State.{State, value_of}
use Rattle.tw_putting.specs.Stores.{ValuesAreBound, bindings_of}
use Rattle.tw_putting.proofs.Views.{binding_of_value}
use Rattle.tw_terms.specs.View.{args_of, term_of}
use Rattle.tw_terms.specs.declared.canonical.Term.{Term as ClosedTerm}
use Rattle.tw_search.specs.Clashing.{AreApart, head_under}

-- what has constant heads under whatever number of binders
abbrev pub HasConstant : List Binding → Term → ℕ → Type 0
HasConstant bs M c = (k : ℕ) → HasRigidHead bs k M (constant c)

-- by its head under lambdas
pub constant_under : (bs : List Binding) (M : Term) (c : ℕ) → head_under M ≡ constant c → HasConstant bs M c
constant_under bs (lambda M) c e k = under_lambda (constant_under bs M c e (suc k))
constant_under bs (root h S) c e k = subst (λ x. HasRigidHead bs k (root x S) (constant c)) (sym e) constant_head

-- where that is a metavariable, the head of its value
pub head_by_meta : (bs : List Binding) (M : Term) (m c : ℕ) → head_under M ≡ metavariable m → HasConstant bs (root (metavariable m) nil) c → HasConstant bs M c
head_by_meta bs (lambda M) m c e h k = under_lambda (head_by_meta bs M m c e h (suc k))
head_by_meta bs (root g S) m c e h k = subst (λ x. HasRigidHead bs k (root x S) (constant c)) (sym e) (at (h k))
  where
    at : HasRigidHead bs k (root (metavariable m) nil) (constant c) → HasRigidHead bs k (root (metavariable m) S) (constant c)
    at (head_of_value b i w) = head_of_value b i w
    at (head_of_argument b i o a w) = elim a [ ]

-- a walk from the metavariable m has come to n
pub record ComesTo (s : State) (m n : ℕ) : Type 0 where
  pub heads : (c : ℕ) → HasConstant (bindings_of s) (root (metavariable n) nil) c → HasConstant (bindings_of s) (root (metavariable m) nil) c

pub comes_nowhere : (s : State) (m : ℕ) → ComesTo s m m
comes_nowhere s m = record { heads = λ c h. h }

pub value_is_binding : (s : State) (n : ℕ) (V : Term) → ValuesAreBound s → Some V ≡ value_of s n → Member (record { of = n; value = V }) (bindings_of s)
value_is_binding s n V b v = binding_of_value s.bound s.values n V (b n V (sym v)) (sym v)

by_value : (s : State) (n : ℕ) (V : Term) (c : ℕ) → ValuesAreBound s → Some V ≡ value_of s n → HasConstant (bindings_of s) V c → HasConstant (bindings_of s) (root (metavariable n) nil) c
by_value s n V c b v h k = head_of_value (record { of = n; value = V }) (value_is_binding s n V b v) (h 0)

pub comes_further : (s : State) (m n j : ℕ) (V : Term) → ValuesAreBound s → Some V ≡ value_of s n → head_under V ≡ metavariable j → ComesTo s m n → ComesTo s m j
comes_further s m n j V b v e w = record { heads = λ c h. w.heads c (by_value s n V c b v (head_by_meta (bindings_of s) V j c e h)) }

pub comes_to_constant : (s : State) (m n c : ℕ) (V : Term) → ValuesAreBound s → Some V ≡ value_of s n → head_under V ≡ constant c → ComesTo s m n → HasConstant (bindings_of s) (root (metavariable m) nil) c
comes_to_constant s m n c V b v e w = w.heads c (by_value s n V c b v (constant_under (bindings_of s) V c e))

-- spines
pub clash_first : (bs : List Binding) (k : ℕ) (S T : Spine) (M N : Term) (S' T' : Spine) → S ≡ app M S' → T ≡ app N T' → AreApart bs k M N → Clash bs k S T
clash_first bs k S T M N S' T' e f a = subst (λ X. Clash bs k X T) (sym e) (subst (λ X. Clash bs k (app M S') X) (sym f) (clash_here a.goal_has a.clause_has a.differ))

-- a walk along two spines has come to their rests
pub record WalksTo (bs : List Binding) (k : ℕ) (S T S' T' : Spine) : Type 0 where
  pub clashes : Clash bs k S' T' → Clash bs k S T

pub walks_nowhere : (bs : List Binding) (k : ℕ) (S T S' T' : Spine) → S ≡ S' → T ≡ T' → WalksTo bs k S T S' T'
walks_nowhere bs k S T S' T' e f = record { clashes = λ c. subst (λ X. Clash bs k X T) (sym e) (subst (λ X. Clash bs k S' X) (sym f) c) }

pub walks_on : (bs : List Binding) (k : ℕ) (S T S' T' S'' T'' : Spine) (M N : Term) → S' ≡ app M S'' → T' ≡ app N T'' → WalksTo bs k S T S' T' → WalksTo bs k S T S'' T''
walks_on bs k S T S' T' S'' T'' M N e f w = record { clashes = λ c. w.clashes (subst (λ X. Clash bs k X T') (sym e) (subst (λ X. Clash bs k (app M S'') X) (sym f) (clash_later c))) }

-- the target of a type
pub same_target : (A B C D : LfType) → A ≡ pi B C → D ≡ C → target_arguments D ≡ target_arguments A
same_target A B C D e q = ap target_arguments q ∙ sym (ap target_arguments e)

-- the arguments of a closed spine from one on
pub closed_arguments_from : (ts us : List ClosedTerm) (i : ℕ) (x : ClosedTerm) → us ≡ ts → i < length us → x ≡ get_or us i x → args_of (drop i ts) ≡ app (term_of x) (args_of (drop (i + 1) ts))
closed_arguments_from ts us i x e h q = subst (λ l. args_of (drop i l) ≡ app (term_of x) (args_of (drop (i + 1) l))) e (rw (add-one, drop-cons us i x) (ap (λ y. app (term_of y) (args_of (drop (suc i) us))) (sym q)))
