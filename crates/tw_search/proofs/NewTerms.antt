-- New metavariables, step by step.
use Rattle.std.proofs.Common.{◌≡◌, ℕ, suc, List, [], ◌∷◌, ◌++◌, length, map, Some, refl, sym, ap, ap₂, ◌∙◌, subst, Option}
use Rattle.lf.specs.Eta.{append}
use Rattle.lf.specs.SkeletonTyping.{HeadSkeletons, TermSkeleton, TypeBySkeletons}
use Rattle.lf.specs.Skeletons.{family_skeletons}
use Rattle.lf.specs.Substitution.{Image, lift, reduce, single, substitute_type}
use Rattle.lf.specs.Syntax.{LfType, Skeleton, Spine, Term, app, atom, metavariable, nil, pi, root, skeleton}
use Rattle.lf.specs.Typing.{instantiate_type}
use Rattle.lf_elaboration.specs.Skeletons.{heads_of}
use Rattle.lf_elaboration.specs.State.{State, with_metavariable}
use Rattle.lf_elaboration.proofs.Adds.{adds_metavariable}
use Rattle.lf_elaboration.proofs.Skeletons.{raised_skeleton, type_grows}
use Rattle.lf_search.specs.AppliedHeads.{AppliedHead, taken_heads, type_with_applied, under_applied}
use Rattle.lf_search.proofs.AppliedHeads.{bare_stays_type, next_taken}
use Rattle.lf_unification.specs.Offering.{AppliesToNew, applied_to_all, applied_to_next, local_arguments, pi_over, raised}
use Rattle.lf_unification.specs.OpenTyping.{set_at}
use Rattle.lf_unification.specs.Patterns.{local_skeletons}
use Rattle.tw_metas.specs.State as metas
use Rattle.tw_putting.specs.Stores.{types_of}
use Rattle.tw_terms.specs.OpenView.{open_args_of, open_term_of}
use Rattle.tw_terms.specs.declared.canonical.MetaId.{MetaId}
use Rattle.tw_terms.specs.declared.open_terms.Open.{Open}
use Rattle.tw_prune.proofs.Walking.{append-nil}
use Rattle.tw_open.specs.Fits.{TypeStands}
use Rattle.tw_open.specs.Fresh.{IsNew}
use Rattle.tw_open.specs.View.{made_with}
use Rattle.tw_open.proofs.NewTerms.{longer}
use Rattle.tw_open.proofs.Standing.{rest_stands}
use Rattle.tw_search.specs.Applied.{taken_at}
use Rattle.tw_search.specs.Reducing.{IsAtom}
use Rattle.tw_search.specs.Taking.{TakesAll, TakesOne, numbers_from}

-- Below, the type that is left is seen with the metavariables put in that were taken before.
types_after : (D : List LfType) (s : State) (A B : LfType) (f : TypeStands s D (pi A B)) → TypeBySkeletons (family_skeletons f.signature) (heads_of f.signature (with_metavariable D A s)) (skeleton A ∷ local_skeletons D []) B
types_after D s A B f = (type_grows f.signature f.typed_signature s (with_metavariable D A s) (adds_metavariable D A s f.numbered) D (pi A B) f.of_type).1

one_number_more : (ms : List MetaId) (m : MetaId) → map (λ (k : MetaId). k.0) (ms ++ m ∷ []) ≡ map (λ (k : MetaId). k.0) ms ++ m.0 ∷ []
one_number_more [] m = refl
one_number_more (k ∷ ms) m = ap (λ l. k.0 ∷ l) (one_number_more ms m)

-- the next one put in is the next one in front
pub takes_next : (D : List LfType) (L : Spine) (ms us : List MetaId) (m : MetaId) (T A B : LfType) (M : Term) (a b : metas.State) → L ≡ local_arguments D → us ≡ ms ++ m ∷ [] → m.0 ≡ length a.declared → T ≡ pi A B →
    TypeStands (made_with [] a) D (type_with_applied (taken_at L ms 0) T) → IsNew D (type_with_applied (taken_at L ms 0) A) M a b → TakesOne D (type_with_applied (taken_at L ms 0) T) M (type_with_applied (taken_at L us 0) B) a b
unfolding taken_at
takes_next D L ms us m T A B M a b l u n t f new = record {
  domain = A';
  range = B';
  is = ap (type_with_applied p) t;
  fresh = new;
  left_over = sym (ap (λ N. instantiate_type A' N B') (new.term ∙ ap (raised D A') (sym n)) ∙ step ∙ ap (λ x. type_with_applied x B) same);
}
  where
    p : ℕ → AppliedHead
    p = taken_heads L (map (λ (k : MetaId). k.0) ms)

    A' : LfType
    A' = type_with_applied p A

    B' : LfType
    B' = type_with_applied (under_applied p) B

    g : TypeStands (made_with [] a) D (pi A' B')
    g = subst (TypeStands (made_with [] a) D) (ap (type_with_applied p) t) f

    κ : HeadSkeletons
    κ = heads_of g.signature (with_metavariable D A' (made_with [] a))

    φ : ℕ → Option Skeleton
    φ = family_skeletons g.signature

    Γ : List Skeleton
    Γ = local_skeletons D []

    typed : TermSkeleton κ Γ (raised D A' m.0) (skeleton A')
    typed = subst (λ k. TermSkeleton κ Γ (raised D A' k) (skeleton A')) (sym n) (raised_skeleton g.signature g.typed_signature D A' (made_with [] a))

    step : instantiate_type A' (raised D A' m.0) B' ≡ type_with_applied (taken_heads (local_arguments D) (map (λ (k : MetaId). k.0) ms ++ m.0 ∷ [])) B
    step = ap (λ (K : Spine). instantiate_type A' (raised D A' m.0) (type_with_applied (under_applied (taken_heads K (map (λ (k : MetaId). k.0) ms))) B)) l
        ∙ next_taken κ φ Γ D (map (λ (k : MetaId). k.0) ms) m.0 A' B typed (subst (λ (K : Spine). TypeBySkeletons φ κ (skeleton A' ∷ Γ) (type_with_applied (under_applied (taken_heads K (map (λ (k : MetaId). k.0) ms))) B)) l (types_after D (made_with [] a) A' B' g))

    same : taken_heads (local_arguments D) (map (λ (k : MetaId). k.0) ms ++ m.0 ∷ []) ≡ taken_heads L (map (λ (k : MetaId). k.0) us)
    same = ap₂ taken_heads (sym l) (sym (one_number_more ms m) ∙ ap (map (λ (k : MetaId). k.0)) (sym u))

-- with none put in, the type is itself
pub none_taken : (L : Spine) (ms : List MetaId) (A : LfType) → ms ≡ [] → A ≡ type_with_applied (taken_at L ms 0) A
unfolding taken_at taken_heads
none_taken L ms A e = sym (ap (λ (l : List MetaId). type_with_applied (taken_at L l 0) A) e ∙ bare_stays_type A)

-- what stands after one
pub stands_after : (D : List LfType) (X Y : LfType) (M : Term) (a b : metas.State) → TakesOne D X M Y a b → TypeStands (made_with [] a) D X → TypeStands (made_with [] b) D Y
stands_after D X Y M a b o f =
    let g : TypeStands (made_with [] a) D (pi o.domain o.range) = subst (TypeStands (made_with [] a) D) o.is f in
    let y : Y ≡ instantiate_type o.domain (raised D o.domain (length a.declared)) o.range = o.left_over ∙ ap (λ N. instantiate_type o.domain N o.range) o.fresh.term in
    subst (TypeStands (made_with [] b) D) (sym y) (subst (λ w. TypeStands w D (instantiate_type o.domain (raised D o.domain (length a.declared)) o.range)) (sym (o.fresh.state [])) (rest_stands (made_with [] a) D o.domain o.range g))

-- some arguments are taken, and these are the terms
pub record TakesBefore (D : List LfType) (A : LfType) (s : metas.State) (B : LfType) (t : metas.State) (ts : List Open) : Type 0 where
  pub rest : (s' : metas.State) (S : Spine) (a : ℕ) (T : Spine) → TakesAll D B t s' S a T → TakesAll D A s s' (append (open_args_of ts) S) a T

pub takes_start : (D : List LfType) (A : LfType) (s : metas.State) → TakesBefore D A s A s []
takes_start D A s = record { rest = λ s' S a T d. d }

pub takes_step : (D : List LfType) (A X Y : LfType) (s : metas.State) (ts us : List Open) (m : Open) (a b : metas.State) → us ≡ ts ++ m ∷ [] → TakesOne D X (open_term_of m) Y a b → TakesBefore D A s X a ts → TakesBefore D A s Y b us
takes_step D A X Y s ts us m a b u o f = record { rest = rest }
  where
    M : Term
    M = open_term_of m

    N : Term
    N = raised D o.domain (length a.declared)

    one : (s' : metas.State) (S : Spine) (c : ℕ) (T : Spine) → TakesAll D Y b s' S c T → TakesAll D X a s' (app M S) c T
    one s' S c T d =
        let y : Y ≡ instantiate_type o.domain (raised D o.domain (length a.declared)) o.range = o.left_over ∙ ap (λ K. instantiate_type o.domain K o.range) o.fresh.term in
        let e : AppliesToNew D (set_at (length a.declared) (Some (pi_over D o.domain)) (types_of a)) (suc (length a.declared)) (instantiate_type o.domain (raised D o.domain (length a.declared)) o.range) (types_of s') (length s'.declared) S c T =
        subst (λ (w : State). AppliesToNew D w.metavariables w.next (instantiate_type o.domain (raised D o.domain (length a.declared)) o.range) (types_of s') (length s'.declared) S c T) (o.fresh.state [])
        (subst (λ V. AppliesToNew D (types_of b) (length b.declared) V (types_of s') (length s'.declared) S c T) y d) in
        subst (λ V. TakesAll D V a s' (app M S) c T) (sym o.is) (subst (λ K. TakesAll D (pi o.domain o.range) a s' (app K S) c T) (sym o.fresh.term) (applied_to_next e))

    rest : (s' : metas.State) (S : Spine) (c : ℕ) (T : Spine) → TakesAll D Y b s' S c T → TakesAll D A s s' (append (open_args_of us) S) c T
    rest s' S c T d = subst (λ R. TakesAll D A s s' R c T) (longer ts us m S u) (f.rest s' (app M S) c T (one s' S c T d))

pub takes_end : (D : List LfType) (A B : LfType) (s t : metas.State) (ts : List Open) (S : Spine) (a : ℕ) (T : Spine) → B ≡ atom a T → S ≡ open_args_of ts → TakesBefore D A s B t ts → TakesAll D A s t S a T
takes_end D A B s t ts S a T e q f = subst (λ R. TakesAll D A s t R a T) (append-nil (open_args_of ts) ∙ sym q) (f.rest t nil a T (subst (λ X. TakesAll D X t t nil a T) (sym e) applied_to_all))

-- one number for each quantifier, whatever is put in
numbers_substituted : (r : Skeleton → Term → Spine → Term) (σ : ℕ → Image) (n : ℕ) (A : LfType) → numbers_from n (substitute_type r σ A) ≡ numbers_from n A
numbers_substituted r σ n (pi A B) = ap (λ l. n ∷ l) (numbers_substituted r (lift σ) (suc n) B)
numbers_substituted r σ n (atom a S) = refl

pub numbers_start : (A : LfType) (s : metas.State) → numbers_from (length s.declared) A ≡ map (λ (m : MetaId). m.0) [] ++ numbers_from (length s.declared) A
numbers_start A s = refl

-- the metavariables so far, and those of what is left
pub numbers_step : (D : List LfType) (X Y : LfType) (M : Term) (a b : metas.State) (old new : List MetaId) (m : MetaId) (whole : List ℕ) → TakesOne D X M Y a b → m.0 ≡ length a.declared → new ≡ old ++ m ∷ [] →
    whole ≡ map (λ (k : MetaId). k.0) old ++ numbers_from (length a.declared) X → whole ≡ map (λ (k : MetaId). k.0) new ++ numbers_from (length b.declared) Y
numbers_step D X Y M a b old new m whole o e n w =
    let N : Term = raised D o.domain (length a.declared) in
    let c : length b.declared ≡ suc (length a.declared) = ap (λ (s : State). s.next) (o.fresh.state []) in
    let y : numbers_from (length b.declared) Y ≡ numbers_from (suc (length a.declared)) o.range = ap₂ numbers_from c o.left_over ∙ numbers_substituted reduce (single (skeleton o.domain) M) (suc (length a.declared)) o.range in
    let x : numbers_from (length a.declared) X ≡ m.0 ∷ numbers_from (length b.declared) Y = ap (numbers_from (length a.declared)) o.is ∙ ap₂ (λ i l. i ∷ l) (sym e) (sym y) in
    w ∙ ap (λ l. map (λ (k : MetaId). k.0) old ++ l) x ∙ one_more old m (numbers_from (length b.declared) Y) ∙ ap (λ l. map (λ (k : MetaId). k.0) l ++ numbers_from (length b.declared) Y) (sym n)
  where
    one_more : (ks : List MetaId) (k : MetaId) (rest : List ℕ) → map (λ (j : MetaId). j.0) ks ++ k.0 ∷ rest ≡ map (λ (j : MetaId). j.0) (ks ++ k ∷ []) ++ rest
    one_more [] k rest = refl
    one_more (j ∷ ks) k rest = ap (λ l. j.0 ∷ l) (one_more ks k rest)

pub numbers_end : (X : LfType) (a : ℕ) (T : Spine) (n : ℕ) (metas : List MetaId) (whole : List ℕ) → X ≡ atom a T → whole ≡ map (λ (k : MetaId). k.0) metas ++ numbers_from n X → map (λ (k : MetaId). k.0) metas ≡ whole
numbers_end X a T n metas whole e w = sym (w ∙ ap (λ Y. map (λ (k : MetaId). k.0) metas ++ numbers_from n Y) e ∙ none_behind (map (λ (k : MetaId). k.0) metas))
  where
    none_behind : (xs : List ℕ) → xs ++ [] ≡ xs
    none_behind [] = refl
    none_behind (x ∷ xs) = ap (λ l. x ∷ l) (none_behind xs)

-- where no local variable is in scope, a metavariable of an atomic type is its own eta-long form
pub stands_alone : (D : List LfType) (A : LfType) (n : ℕ) → D ≡ [] → IsAtom A → raised D A n ≡ root (metavariable n) nil
stands_alone D (atom a S) n e i = ap (λ E. raised E (atom a S) n) e
stands_alone D (pi A B) n e i = absurd i
