-- Rows that are gone along beside one another, and the values that are followed.
use Rattle.std.proofs.Common.{◌≡◌, ◌≤◌, ℕ, List, [], ◌∷◌, ◌++◌, Option, None, Some, arith, refl, sym, ap, ◌∙◌, subst}
use Rattle.std.specs.Prelude.{MatchOption}
use Rattle.lf.specs.Syntax.{Kind, LfType, Spine, Term, app, atom, constant, kind_pi, metavariable, nil, pi, root}
use Rattle.lf.specs.Typing.{Signature}
use Rattle.lf_search.specs.AppliedHeads.{AppliedHead, spine_with_applied, with_applied}
use Rattle.lf_search.proofs.Ends.{followed_after, followed_none}
use Rattle.lf_unification.specs.Lists.{followed}
use Rattle.lf_unification.specs.Unifiers.{Binding, Equation}
use Rattle.tw_metas.specs.State.{State, value_of}
use Rattle.tw_open.specs.Plain.{IsPlainType}
use Rattle.tw_putting.specs.Stores.{ValuesAreBound, bindings_of}
use Rattle.tw_terms.specs.OpenView.{open_term_of}
use Rattle.tw_terms.specs.View.{term_of, type_of}
use Rattle.tw_search.specs.Beside.{Adds, ComesApart, Differs, IndicesComeApart, IndicesDiffer, IndicesWent, LeadsTo, RowComesApart, RowDiffers, RowWent, TermWent, arguments_differ, constants_differ, differs_here, differs_later, equation_at, equations_at, index_differs, later_differs, leads_by_value, leads_to_itself, next_argument, next_index, no_argument, no_index, same_constants, stays}
use Rattle.tw_search.specs.Reducing.{IsAtom}
use Rattle.tw_search.specs.declared.beside.Pair.{Pair}
use Rattle.tw_search.specs.declared.beside.Went.{Went}
use Rattle.tw_search.specs.declared.beside.Went.TheVariants.{On, Clash, Away}
use Rattle.tw_search.proofs.ClashingHeads.{value_is_binding}

-- values that are followed
pub leads_on : {bs : List Binding} {M N V : Term} → LeadsTo bs M N → LeadsTo bs N V → LeadsTo bs M V
leads_on leads_to_itself w = w
leads_on (leads_by_value b i h) w = leads_by_value b i (leads_on h w)

pub leads_to_value : (s : State) (m : ℕ) (M V : Term) (T : Spine) → ValuesAreBound s → Some V ≡ value_of s m → M ≡ root (metavariable m) T → T ≡ nil → LeadsTo (bindings_of s) M V
leads_to_value s m M V T b v e n = subst (λ X. LeadsTo (bindings_of s) X V) (sym (e ∙ ap (root (metavariable m)) n)) (leads_by_value (record { of = m; value = V }) (value_is_binding s m V b v) leads_to_itself)

-- lists of pairs behind one another
equations_followed : (p : ℕ → AppliedHead) (xs ys : List Pair) → equations_at p (followed xs ys) ≡ followed (equations_at p xs) (equations_at p ys)
equations_followed p [] ys = refl
equations_followed p (x ∷ xs) ys = ap (λ l. equation_at p x ∷ l) (equations_followed p xs ys)

pairs_appended : (xs ys : List Pair) → xs ++ ys ≡ followed xs ys
pairs_appended [] ys = refl
pairs_appended (x ∷ xs) ys = ap (λ l. x ∷ l) (pairs_appended xs ys)

-- a pair that stays
pub pair_stays : (bs : List Binding) (M N : Term) (A : LfType) (old new : List Pair) (q : Pair) → new ≡ old ++ q ∷ [] → LeadsTo bs M (open_term_of q.left) → N ≡ term_of q.right.now → A ≡ type_of q.ty.now → (Σ : Signature) → TermWent Σ bs M N A old new On
pair_stays bs M N A old new q e l n a Σ = subst (λ X. TermWent Σ bs M X A old new On) (sym n) (subst (λ X. TermWent Σ bs M (term_of q.right.now) X old new On) (sym a) (record {
  added = q ∷ [];
  behind = e ∙ pairs_appended old (q ∷ []);
  apart = λ p. stays l;
}))

-- What is left of the rows comes apart: then so do the whole rows, by the pairs that were added and by what is left. Where it differs, they do.
pub record GoneTo (Apart Apart' : (ℕ → AppliedHead) → List Equation → Type 0) (Differ Differ' : (ℕ → AppliedHead) → Type 0) (old new : List Pair) : Type 0 where
  pub added : List Pair
  pub behind : new ≡ followed old added
  pub apart : (p : ℕ → AppliedHead) (es : List Equation) → Apart' p es → Apart p (followed (equations_at p added) es)
  pub differ : (p : ℕ → AppliedHead) → Differ' p → Differ p

gone_on : (A B C : (ℕ → AppliedHead) → List Equation → Type 0) (D E F : (ℕ → AppliedHead) → Type 0) (X : (ℕ → AppliedHead) → List Equation → Type 0) (old mid new : List Pair)
    → GoneTo A B D E old mid → Adds mid new (λ es. (p : ℕ → AppliedHead) → X p (es p))
    → ((p : ℕ → AppliedHead) (es fs : List Equation) → X p es → C p fs → B p (followed es fs)) → ((p : ℕ → AppliedHead) → F p → E p)
    → GoneTo A C D F old new
gone_on A B C D E F X old mid new w a next later = record {
  added = followed w.added a.added;
  behind = a.behind ∙ ap (λ l. followed l a.added) w.behind ∙ followed_after old w.added a.added;
  apart = λ p es h. subst (A p) (sym (ap (λ l. followed l es) (equations_followed p w.added a.added) ∙ followed_after (equations_at p w.added) (equations_at p a.added) es)) (w.apart p (followed (equations_at p a.added) es) (next p (equations_at p a.added) es (a.apart p) h));
  differ = λ p h. w.differ p (later p h);
}

gone_to_end : (A B : (ℕ → AppliedHead) → List Equation → Type 0) (D E : (ℕ → AppliedHead) → Type 0) (old new : List Pair) → GoneTo A B D E old new → ((p : ℕ → AppliedHead) → B p []) → Adds old new (λ es. (p : ℕ → AppliedHead) → A p (es p))
gone_to_end A B D E old new w n = record {
  added = w.added;
  behind = w.behind;
  apart = λ p. subst (A p) (followed_none (equations_at p w.added)) (w.apart p [] (n p));
}

-- rows that a type takes
abbrev pub RowGoneTo : Signature → List Binding → Spine → Spine → LfType → Spine → Spine → LfType → List Pair → List Pair → Type 0
RowGoneTo Σ bs S T B S' T' B' old new = GoneTo (λ p. RowComesApart Σ bs p S T B) (λ p. RowComesApart Σ bs p S' T' B') (λ p. RowDiffers Σ bs S (spine_with_applied p T) B) (λ p. RowDiffers Σ bs S' (spine_with_applied p T') B') old new

pub row_begins : (Σ : Signature) (bs : List Binding) (S T S' T' : Spine) (B : LfType) (old : List Pair) → S ≡ S' → T ≡ T' → RowGoneTo Σ bs S T B S' T' B old old
row_begins Σ bs S T S' T' B old e f = subst (λ X. RowGoneTo Σ bs S T B X T' B old old) e (subst (λ X. RowGoneTo Σ bs S T B S X B old old) f (record {
  added = [];
  behind = sym (followed_none old);
  apart = λ p es h. h;
  differ = λ p h. h;
}))

pub row_goes_on : (Σ : Signature) (bs : List Binding) (S T S' T' S'' T'' : Spine) (B B' B'' A : LfType) (M N : Term) (old mid new : List Pair) → S' ≡ app M S'' → T' ≡ app N T'' → B' ≡ pi A B''
    → RowGoneTo Σ bs S T B S' T' B' old mid → TermWent Σ bs M N A mid new On → RowGoneTo Σ bs S T B S'' T'' B'' old new
row_goes_on Σ bs S T S' T' S'' T'' B B' B'' A M N old mid new e f g w a =
    let v : RowGoneTo Σ bs S T B (app M S'') (app N T'') (pi A B'') old mid = subst (λ X. RowGoneTo Σ bs S T B (app M S'') (app N T'') X old mid) g (subst (λ X. RowGoneTo Σ bs S T B (app M S'') X B' old mid) f (subst (λ X. RowGoneTo Σ bs S T B X T' B' old mid) e w)) in
    gone_on _ _ _ _ _ _ (λ p. ComesApart Σ bs p M N A) old mid new v a (λ p es fs. next_argument) (λ p. differs_later)

pub row_clashes : (Σ : Signature) (bs : List Binding) (S T S' T' S'' T'' : Spine) (B B' B'' A : LfType) (M N : Term) (old mid new : List Pair) → S' ≡ app M S'' → T' ≡ app N T'' → B' ≡ pi A B''
    → RowGoneTo Σ bs S T B S' T' B' old mid → TermWent Σ bs M N A mid new Clash → RowWent Σ bs S T B old new Clash
row_clashes Σ bs S T S' T' S'' T'' B B' B'' A M N old mid new e f g w d p =
    w.differ p (subst (RowDiffers Σ bs S' (spine_with_applied p T')) (sym g) (subst (λ X. RowDiffers Σ bs S' (spine_with_applied p X) (pi A B'')) (sym f) (subst (λ X. RowDiffers Σ bs X (spine_with_applied p (app N T'')) (pi A B'')) (sym e) (differs_here (d p)))))

pub row_ends : (Σ : Signature) (bs : List Binding) (S T S' T' : Spine) (B B' : LfType) (old new : List Pair) → S' ≡ nil → RowGoneTo Σ bs S T B S' T' B' old new → RowWent Σ bs S T B old new On
row_ends Σ bs S T S' T' B B' old new e w = gone_to_end _ _ _ _ old new w (λ p. subst (λ X. RowComesApart Σ bs p X T' B' []) (sym e) no_argument)

-- rows that a kind takes
abbrev pub IndicesGoneTo : Signature → List Binding → Spine → Spine → Kind → Spine → Spine → Kind → List Pair → List Pair → Type 0
IndicesGoneTo Σ bs S T K S' T' K' old new = GoneTo (λ p. IndicesComeApart Σ bs p S T K) (λ p. IndicesComeApart Σ bs p S' T' K') (λ p. IndicesDiffer Σ bs S (spine_with_applied p T) K) (λ p. IndicesDiffer Σ bs S' (spine_with_applied p T') K') old new

pub indices_begin : (Σ : Signature) (bs : List Binding) (S T S' T' : Spine) (K : Kind) (old : List Pair) → S ≡ S' → T ≡ T' → IndicesGoneTo Σ bs S T K S' T' K old old
indices_begin Σ bs S T S' T' K old e f = subst (λ X. IndicesGoneTo Σ bs S T K X T' K old old) e (subst (λ X. IndicesGoneTo Σ bs S T K S X K old old) f (record {
  added = [];
  behind = sym (followed_none old);
  apart = λ p es h. h;
  differ = λ p h. h;
}))

pub indices_go_on : (Σ : Signature) (bs : List Binding) (S T S' T' S'' T'' : Spine) (K K' K'' : Kind) (A : LfType) (M N : Term) (old mid new : List Pair) → S' ≡ app M S'' → T' ≡ app N T'' → K' ≡ kind_pi A K''
    → IndicesGoneTo Σ bs S T K S' T' K' old mid → TermWent Σ bs M N A mid new On → IndicesGoneTo Σ bs S T K S'' T'' K'' old new
indices_go_on Σ bs S T S' T' S'' T'' K K' K'' A M N old mid new e f g w a =
    let v : IndicesGoneTo Σ bs S T K (app M S'') (app N T'') (kind_pi A K'') old mid = subst (λ X. IndicesGoneTo Σ bs S T K (app M S'') (app N T'') X old mid) g (subst (λ X. IndicesGoneTo Σ bs S T K (app M S'') X K' old mid) f (subst (λ X. IndicesGoneTo Σ bs S T K X T' K' old mid) e w)) in
    gone_on _ _ _ _ _ _ (λ p. ComesApart Σ bs p M N A) old mid new v a (λ p es fs. next_index) (λ p. later_differs)

pub indices_clash : (Σ : Signature) (bs : List Binding) (S T S' T' S'' T'' : Spine) (K K' K'' : Kind) (A : LfType) (M N : Term) (old mid new : List Pair) → S' ≡ app M S'' → T' ≡ app N T'' → K' ≡ kind_pi A K''
    → IndicesGoneTo Σ bs S T K S' T' K' old mid → TermWent Σ bs M N A mid new Clash → IndicesWent Σ bs S T K old new Clash
indices_clash Σ bs S T S' T' S'' T'' K K' K'' A M N old mid new e f g w d p =
    w.differ p (subst (IndicesDiffer Σ bs S' (spine_with_applied p T')) (sym g) (subst (λ X. IndicesDiffer Σ bs S' (spine_with_applied p X) (kind_pi A K'')) (sym f) (subst (λ X. IndicesDiffer Σ bs X (spine_with_applied p (app N T'')) (kind_pi A K'')) (sym e) (index_differs (d p)))))

pub indices_end : (Σ : Signature) (bs : List Binding) (S T S' T' : Spine) (K K' : Kind) (old new : List Pair) → S' ≡ nil → IndicesGoneTo Σ bs S T K S' T' K' old new → IndicesWent Σ bs S T K old new On
indices_end Σ bs S T S' T' K K' old new e w = gone_to_end _ _ _ _ old new w (λ p. subst (λ X. IndicesComeApart Σ bs p X T' K' []) (sym e) no_index)

-- two terms that begin with constants
pub heads_differ : (Σ : Signature) (bs : List Binding) (M N : Term) (A : LfType) (S T I : Spine) (a c d : ℕ) (old new : List Pair) → LeadsTo bs M (root (constant c) S) → N ≡ root (constant d) T → A ≡ atom a I → (c ≡ d → ⊥) → TermWent Σ bs M N A old new Clash
heads_differ Σ bs M N A S T I a c d old new l n e x p = subst (λ X. Differs Σ bs M (with_applied p X) A) (sym n) (subst (Differs Σ bs M (with_applied p (root (constant d) T))) (sym e) (constants_differ l leads_to_itself x))

pub same_heads : (Σ : Signature) (bs : List Binding) (M N : Term) (A B : LfType) (S T I : Spine) (a c d : ℕ) (old new : List Pair) → LeadsTo bs M (root (constant c) S) → N ≡ root (constant d) T → A ≡ atom a I → c ≡ d → Σ.types d ≡ Some B → IsPlainType B
    → (w : Went) → RowWent Σ bs S T B old new w → TermWent Σ bs M N A old new w
same_heads Σ bs M N A B S T I a c d old new l n e q t b w r =
    subst (λ X. TermWent Σ bs M X A old new w) (sym n) (subst (λ X. TermWent Σ bs M (root (constant d) T) X old new w) (sym e) (go w (subst (λ x. LeadsTo bs M (root (constant x) S)) q l) r))
  where
    go : (v : Went) → LeadsTo bs M (root (constant d) S) → RowWent Σ bs S T B old new v → TermWent Σ bs M (root (constant d) T) (atom a I) old new v
    go On k x = record { added = x.added; behind = x.behind; apart = λ p. same_constants k t b (x.apart p) }
    go Clash k x = λ p. arguments_differ k leads_to_itself t b (x p)
    go Away k x = tt

-- two open terms that lead to roots of the same constant
pub arguments_apart : (Σ : Signature) (bs : List Binding) (M N : Term) (S T : Spine) (B : LfType) (c d : ℕ) → LeadsTo bs M (root (constant c) S) → LeadsTo bs N (root (constant d) T) → c ≡ d → Some B ≡ Σ.types d → IsPlainType B → RowDiffers Σ bs S T B → (a : ℕ) (I : Spine) → Differs Σ bs M N (atom a I)
arguments_apart Σ bs M N S T B c d l k e t b row a I = arguments_differ (subst (λ x. LeadsTo bs M (root (constant x) S)) e l) k (sym t) b row

-- of a count of visits that is left, where there is none if P
pub visits_left : (r : Option ℕ) (P Q : Type 0) (n m : ℕ) → (P → Q) → n ≤ m → MatchOption r P (λ v. v ≤ n) → MatchOption r Q (λ v. v ≤ m)
visits_left None P Q n m f l h = f h
visits_left (Some v) P Q n m f l h = omega (arith, l, h)

-- Where the first arguments of two rows differ, and where what is behind them does.
at_atom : (Σ : Signature) (bs : List Binding) (M N : Term) (A : LfType) → IsAtom A → ((a : ℕ) (I : Spine) → Differs Σ bs M N (atom a I)) → Differs Σ bs M N A
at_atom Σ bs M N (atom a I) i d = d a I
at_atom Σ bs M N (pi A B) i d = absurd i

module _ (Σ : Signature) (bs : List Binding) (S T S' T' : Spine) (B A C : LfType) (M N : Term) (e : S ≡ app M S') (f : T ≡ app N T') (g : B ≡ pi A C) where
  from_parts : RowDiffers Σ bs (app M S') (app N T') (pi A C) → RowDiffers Σ bs S T B
  from_parts d = subst (RowDiffers Σ bs S T) (sym g) (subst (λ X. RowDiffers Σ bs S X (pi A C)) (sym f) (subst (λ X. RowDiffers Σ bs X (app N T') (pi A C)) (sym e) d))

  pub row_differs_here : IsAtom A → ((a : ℕ) (I : Spine) → Differs Σ bs M N (atom a I)) → RowDiffers Σ bs S T B
  row_differs_here i d = from_parts (differs_here (at_atom Σ bs M N A i d))

  pub row_differs_later : RowDiffers Σ bs S' T' C → RowDiffers Σ bs S T B
  row_differs_later d = from_parts (differs_later d)
