-- Names: variables, constants, definitions and families.
use Rattle.std.proofs.Common.{◌≡◌, ℕ, zero, suc, ◌+◌, ◌<◌, ◌≤◌, add-one, drop, drop-cons, get_or, List, [], ◌∷◌, length, map, Some, refl, sym, ap, ◌∙◌, subst, arith}
use Rattle.std.specs.List.{slice_get}
use mathlib.Core.Path.{fun_ext}
use Rattle.lf.specs.AtOnce.{lift_renaming_by, shift_by}
use Rattle.lf.specs.Deep.{DeepSubstitution}
use Rattle.lf.specs.Entries.{Entry}
use Rattle.lf.specs.Eta.{eta_expand}
use Rattle.lf.specs.Substitution.{reduce, single, substitute}
use Rattle.lf.specs.Syntax.{LfType, Skeleton, Spine, Term, app, arrow, lambda, metavariable, nil, rename_type, skeleton, variable, weaken}
use Rattle.lf.specs.Typing.{TypeAt}
use Rattle.lf.specs.Variables.{onto}
use Rattle.lf.proofs.Eta.{reduce_nil}
use Rattle.lf.proofs.Renaming.{reduction_beta}
use Rattle.lf.proofs.TypeLaws.{renamings_compose_type, skeleton_renamed}
use Rattle.lf_unification.proofs.Eta.{rename_id_type}
use Rattle.lf.proofs.SkeletonTyping.{single_by_skeletons, substitution_keeps_skeletons}
use Rattle.lf_elaboration.specs.Elaboration.{Infers, at_bound, at_free}
use Rattle.lf_elaboration.specs.State.{State}
use Rattle.lf_elaboration.specs.Written.{Place, bound, free}
use Rattle.lf_unification.specs.OpenTyping.{weaken_past}
use Rattle.tw_hered.specs.Fits.{TermFits, put_at}
use Rattle.tw_terms.specs.OpenView.{open_args_of, open_term_of}
use Rattle.tw_terms.specs.declared.open_terms.Open.{Open}
use Rattle.tw_elaborate.specs.Deep.{TakesDeep, deep_first, deep_later}
use Rattle.tw_elaborate.specs.Fits.{GivesArguments}
use Rattle.std.proofs.lemmas.List.{drop_all}

-- a variable in scope
next_is_suc : (n : ℕ) → shift_by (suc n) ≡ (λ i. suc (shift_by n i))
next_is_suc n = fun_ext (λ i. omega arith)

one_is_suc : shift_by (suc zero) ≡ suc
one_is_suc = fun_ext (λ i. omega arith)

type_at : (D : List LfType) (i : ℕ) (B : LfType) → slice_get D i ≡ Some B → TypeAt (onto D []) i (rename_type (shift_by (suc i)) B)
type_at [] i B e = absurd cc
type_at (X ∷ D) zero B e = let p : X ≡ B = cc in ap (λ ρ. rename_type ρ B) one_is_suc ∙ ap weaken (sym p)
type_at (X ∷ D) (suc i) B e = (rename_type (shift_by (suc i)) B, type_at D i B e, ap (λ ρ. rename_type ρ B) (next_is_suc (suc i)) ∙ sym (renamings_compose_type suc (shift_by (suc i)) B))

module _ (es : List Entry) (ns : List ℕ) where
  pub bound_inferred : (D : List LfType) (s : State) (i n : ℕ) (B A : LfType) (R : Term) → Some B ≡ slice_get D i → n ≡ i + 1 → A ≡ rename_type (lift_renaming_by 0 (shift_by n)) B → R ≡ eta_expand (skeleton A) (variable i) nil → Infers es ns D (bound i) s s R A
  bound_inferred D s i n B A R e k a r =
      let q : n ≡ suc i = omega (arith, k) in
      let p : A ≡ rename_type (shift_by (suc i)) B = a ∙ ap (λ m. rename_type (shift_by m) B) q in
      subst (λ M. Infers es ns D (bound i) s s M A) (sym r) (at_bound (subst (TypeAt (onto D []) i) (sym p) (type_at D i B (sym e))))

  -- a type moved past the local context
  shift_next : (n : ℕ) (A : LfType) → rename_type (shift_by (suc n)) A ≡ weaken (rename_type (shift_by n) A)
  shift_next n A = ap (λ ρ. rename_type ρ A) (next_is_suc n) ∙ sym (renamings_compose_type suc (shift_by n) A)

  no_shift : shift_by 0 ≡ (λ i. i)
  no_shift = fun_ext (λ i. omega arith)

  past_is_shift : (D : List LfType) (A : LfType) → weaken_past D A ≡ rename_type (shift_by (length D)) A
  past_is_shift [] A = sym (ap (λ ρ. rename_type ρ A) no_shift ∙ rename_id_type A)
  past_is_shift (B ∷ D) A = ap weaken (past_is_shift D A) ∙ sym (shift_next (length D) A)

  pub free_inferred : (at : Place) (D : List LfType) (s : State) (i m n : ℕ) (B A : LfType) (R : Term) → slice_get ns i ≡ Some m → s.metavariables m ≡ Some B → n ≡ length D → A ≡ rename_type (lift_renaming_by 0 (shift_by n)) B → R ≡ eta_expand (skeleton A) (metavariable m) nil → Infers es ns D (free i at) s s R A
  free_inferred at D s i m n B A R f g k a r =
      let p : A ≡ weaken_past D B = a ∙ ap (λ j. rename_type (shift_by j) B) k ∙ sym (past_is_shift D B) in
      let q : skeleton A ≡ skeleton B = ap skeleton a ∙ skeleton_renamed (lift_renaming_by 0 (shift_by n)) B in
      let t : R ≡ eta_expand (skeleton B) (metavariable m) nil = r ∙ ap (λ b. eta_expand b (metavariable m) nil) q in
      subst (λ M. Infers es ns D (free i at) s s M A) (sym t) (subst (Infers es ns D (free i at) s s (eta_expand (skeleton B) (metavariable m) nil)) (sym p) (at_free f g))

pub at_mapped : {X Y : Type 0} (f : X → Y) (xs : List X) (i : ℕ) (x : X) → slice_get xs i ≡ Some x → slice_get (map f xs) i ≡ Some (f x)
at_mapped f [] i x e = absurd cc
at_mapped f (y ∷ xs) zero x e = let p : y ≡ x = cc in ap (λ z. Some (f z)) p
at_mapped f (y ∷ xs) (suc i) x e = at_mapped f xs i x e

-- a term that has taken some of its arguments
pub record Taken (limit : ℕ) (a : Skeleton) (N : Term) (S : Spine) (b : Skeleton) (M : Term) (T : Spine) : Type 0 where
  pub gives : GivesArguments b M T
  pub same : reduce b M T ≡ reduce a N S
  pub deep : TakesDeep limit b M T → TakesDeep limit a N S

pub taken_none : (limit : ℕ) (a : Skeleton) (N : Term) (S : Spine) → GivesArguments a N S → Taken limit a N S a N S
taken_none limit a N S g = record { gives = g; same = refl; deep = λ d. d }

pub argument_fits : (b c : Skeleton) (M N : Term) (T : Spine) → GivesArguments (arrow b c) (lambda M) (app N T) → TermFits (put_at 0 b N) M
argument_fits b c M N T g = record {
  heads = g.heads;
  context = b ∷ g.context;
  target = g.context;
  term_skeleton = c;
  substitution_typed = single_by_skeletons g.heads b g.context N g.spine_typed.0;
  term_typed = g.term_typed;
}

pub taken_next : (limit : ℕ) (a : Skeleton) (P : Term) (S : Spine) (b c : Skeleton) (M N : Term) (T : Spine) → Taken limit a P S (arrow b c) (lambda M) (app N T) → Taken limit a P S c (substitute reduce (single b N) M) T
taken_next limit a P S b c M N T t = record {
  gives = record {
    heads = t.gives.heads;
    context = t.gives.context;
    result = t.gives.result;
    term_typed = substitution_keeps_skeletons t.gives.heads (b ∷ t.gives.context) t.gives.context (single b N) M c (single_by_skeletons t.gives.heads b t.gives.context N t.gives.spine_typed.0) t.gives.term_typed;
    spine_typed = t.gives.spine_typed.1;
  };
  same = sym (reduction_beta b c M N T) ∙ t.same;
  deep = λ d. t.deep (deep_later d);
}

pub taken_deep : (limit : ℕ) (a : Skeleton) (P : Term) (S : Spine) (b c : Skeleton) (M N : Term) (T : Spine) → Taken limit a P S (arrow b c) (lambda M) (app N T) → DeepSubstitution limit (single b N) M → TakesDeep limit a P S
taken_deep limit a P S b c M N T t d = t.deep (deep_first d)

pub taken_at : (limit : ℕ) (a : Skeleton) (P : Term) (S : Spine) (x y : Skeleton) (M N : Term) (T U : Spine) → x ≡ y → M ≡ N → T ≡ U → Taken limit a P S x M T → Taken limit a P S y N U
taken_at limit a P S x y M N T U e f g t = subst (λ (z : Skeleton). Taken limit a P S z N U) e (subst (λ (Q : Term). Taken limit a P S x Q U) f (subst (Taken limit a P S x M) g t))

pub next_spine : (ts : List Open) (i : ℕ) (t : Open) → i < length ts → t ≡ get_or ts i t → open_args_of (drop i ts) ≡ app (open_term_of t) (open_args_of (drop (i + 1) ts))
next_spine ts i t h e = ap open_args_of (drop-cons ts i t h) ∙ ap (λ u. app (open_term_of u) (open_args_of (drop (suc i) ts))) (sym e) ∙ ap (λ j. app (open_term_of t) (open_args_of (drop j ts))) (sym (add-one i))

-- all are taken
pub taken_all : (limit : ℕ) (a : Skeleton) (P : Term) (S : Spine) (b : Skeleton) (M : Term) (ts : List Open) (i : ℕ) → length ts ≤ i → Taken limit a P S b M (open_args_of (drop i ts)) → M ≡ reduce a P S
taken_all limit a P S b M ts i h t = sym (reduce_nil b M) ∙ ap (reduce b M) (sym (ap open_args_of (drop_all i ts h))) ∙ t.same

pub at_index : {X : Type 0} (xs : List X) (i : ℕ) (x : X) → i < length xs → x ≡ get_or xs i x → slice_get xs i ≡ Some x
at_index [] i x h e = absurd (omega arith)
at_index (y ∷ xs) zero x h e = ap Some (sym e)
at_index (y ∷ xs) (suc i) x h e = at_index xs i x (omega arith) e
