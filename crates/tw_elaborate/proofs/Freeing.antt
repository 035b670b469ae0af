-- The free variables, one after another.
use Rattle.std.proofs.Common.{◌≡◌, ℕ, suc, ◌+◌, ◌<◌, ◌≤◌, List, [], ◌∷◌, ◌++◌, drop, length, map, refl, sym, ap, ◌∙◌, subst, add-one, drop-cons, get_or, Vec, Global, Result, Ok, Err, OnOk, OnErr, IfOk}
use Rattle.std.proofs.lemmas.List.{drop_all, map-append}
use Rattle.lf.specs.Entries.{Entry, IsCanonicalSignature, signature_of}
use Rattle.lf.specs.Syntax.{LfType, Skeleton}
use Rattle.lf.proofs.Entries.{canonical_is_signature}
use Rattle.lf_elaboration.specs.Elaboration.{NewFrees, NewType, next_free, no_frees}
use Rattle.lf_elaboration.specs.State.{State, with_metavariable}
use Rattle.lf_elaboration.proofs.Skeletons.{new_state, new_type_skeletons}
use Rattle.std.specs.declared.alloc.AllocError.{AllocError}
use Rattle.tw_metas.specs.State.{Story, changed, with_declared}
use Rattle.tw_metas.specs.View.{equation_of}
use Rattle.tw_metas.specs.declared.equation.Equation.{Equation as TwEquation}
use Rattle.tw_terms.specs.declared.canonical.MetaId.{MetaId}
use Rattle.tw_terms.specs.declared.canonical.Skeleton.{Skeleton as TwSkeleton}
use Rattle.tw_terms.specs.View.{skeleton_of}
use Rattle.tw_elaborate.specs.Fits.{Stands}
use Rattle.tw_elaborate.specs.Frees.{IsNewFree}
use Rattle.tw_elaborate.specs.Fresh.{Keeps}
use Rattle.tw_elaborate.specs.NewDeep.{NewFreesDeep, NewTypeDeep, deep_free, deep_later_free}
use Rattle.tw_elaborate.specs.View.{made, numbers_of}
use Rattle.tw_elaborate.specs.declared.state.Elaboration.{Elaboration}
use Rattle.tw_open.proofs.NewTerms.{declares_fresh, declares_same, declares_then, one_more_made}

module _ (es : List Entry) (canonical : IsCanonicalSignature es) where
  -- what stands behind one
  pub stands_with_free : (t : Skeleton) (m : ℕ) (a b : Elaboration) → a.locals ≡ [] → b.locals ≡ [] → IsNewFree es t m a b → Stands (signature_of es) (made a) a.locals → Stands (signature_of es) (made b) b.locals
  stands_with_free t m a b p q f w =
      let (w', y, e) = new_type_skeletons es canonical f.type_made w.state tt in
      subst (Stands (signature_of es) (made b)) (sym q) (subst (λ s. Stands (signature_of es) s []) (sym f.state) (record { state = new_state (signature_of es) (canonical_is_signature es canonical) [] f.of_type f.between w' tt y; local = tt }))

-- some of the skeletons have their variables, and these are left
pub record FreesBefore (es : List Entry) (ts : List Skeleton) (s : State) (us : List Skeleton) (s' : State) (ms : List ℕ) : Type 0 where
  pub rest : (s'' : State) (ns : List ℕ) → NewFrees es us s' s'' ns → NewFrees es ts s s'' (ms ++ ns)
  pub deep : NewFreesDeep es us s' → NewFreesDeep es ts s

pub frees_start : (es : List Entry) (ts : List Skeleton) (s : State) → FreesBefore es ts s ts s []
frees_start es ts s = record { rest = λ s'' ns f. f; deep = λ d. d }

one_more : (ms : List ℕ) (m : ℕ) (ns : List ℕ) → (ms ++ m ∷ []) ++ ns ≡ ms ++ (m ∷ ns)
one_more [] m ns = refl
one_more (k ∷ ms) m ns = ap (λ l. k ∷ l) (one_more ms m ns)

pub frees_step : (es : List Entry) (ts us vs : List Skeleton) (t : Skeleton) (s : State) (m : ℕ) (ms ns : List ℕ) (a b : Elaboration) → us ≡ t ∷ vs → ns ≡ ms ++ m ∷ [] → IsNewFree es t m a b → FreesBefore es ts s us (made a) ms → FreesBefore es ts s vs (made b) ns
frees_step es ts us vs t s m ms ns a b u n f g = record { rest = rest; deep = λ d. g.deep (subst (λ l. NewFreesDeep es l (made a)) (sym u) (deep_later_free f.type_made (subst (NewFreesDeep es vs) f.state d))) }
  where
    rest : (s'' : State) (ks : List ℕ) → NewFrees es vs (made b) s'' ks → NewFrees es ts s s'' (ns ++ ks)
    rest s'' ks h =
        let x : NewFrees es (t ∷ vs) (made a) s'' (f.between.next ∷ ks) = next_free f.type_made (subst (λ z. NewFrees es vs z s'' ks) f.state h) in
        let y : NewFrees es us (made a) s'' (m ∷ ks) = subst (λ l. NewFrees es l (made a) s'' (m ∷ ks)) (sym u) (subst (λ k. NewFrees es (t ∷ vs) (made a) s'' (k ∷ ks)) (sym f.number) x) in
        subst (NewFrees es ts s s'') (sym (ap (λ l. l ++ ks) n ∙ one_more ms m ks)) (g.rest s'' (m ∷ ks) y)

-- where one is deep
pub frees_deep : (es : List Entry) (ts us vs : List Skeleton) (t : Skeleton) (s s' : State) (ms : List ℕ) → us ≡ t ∷ vs → NewTypeDeep es [] t s' → FreesBefore es ts s us s' ms → NewFreesDeep es ts s
frees_deep es ts us vs t s s' ms u d g = g.deep (subst (λ l. NewFreesDeep es l s') (sym u) (deep_free d))

append_nothing : (ms : List ℕ) → ms ++ [] ≡ ms
append_nothing [] = refl
append_nothing (m ∷ ms) = ap (λ l. m ∷ l) (append_nothing ms)

pub frees_end : (es : List Entry) (ts us : List Skeleton) (s s' : State) (ms : List ℕ) → us ≡ [] → FreesBefore es ts s us s' ms → NewFrees es ts s s' ms
frees_end es ts us s s' ms u g = subst (NewFrees es ts s s') (append_nothing ms) (g.rest s' [] (subst (λ l. NewFrees es l s' s' []) (sym u) no_frees))

-- the skeletons from one on
pub skeletons_from : (ks : List TwSkeleton) (i : ℕ) (k : TwSkeleton) → i < length ks → k ≡ get_or ks i k → map skeleton_of (drop i ks) ≡ skeleton_of k ∷ map skeleton_of (drop (i + 1) ks)
skeletons_from ks i k h e = rw (add-one, drop-cons ks i k) (ap (λ y. skeleton_of y ∷ map skeleton_of (drop (suc i) ks)) (sym e))

pub no_skeletons_left : (ks : List TwSkeleton) (i : ℕ) → length ks ≤ i → map skeleton_of (drop i ks) ≡ []
no_skeletons_left ks i h = ap (map skeleton_of) (drop_all i ks h)

pub one_number_more : (ms ns : List MetaId) (m : MetaId) → ns ≡ ms ++ m ∷ [] → numbers_of ns ≡ numbers_of ms ++ m.0 ∷ []
one_number_more ms ns m e = ap numbers_of e ∙ map-append (λ (k : MetaId). k.0) ms (m ∷ [])

-- one metavariable is declared in the empty context, or none
pub keeps_declared : (a b c : Elaboration) (r : Result MetaId AllocError) (G : List LfType) (P : LfType) → Keeps a b → c.locals ≡ b.locals → G ≡ [] → OnOk r (c.store ≡ changed b.store (with_declared b.store.now G P)) → OnErr r (c.store ≡ b.store) → Keeps a c
keeps_declared a b c (Ok m) G P k l g h e = record { locals = l ∙ k.locals; store = declares_then k.store (declares_fresh b.store c.store G P g h) }
keeps_declared a b c (Err x) G P k l g h e = record { locals = l ∙ k.locals; store = declares_then k.store (declares_same b.store c.store e) }

pub free_made : (es : List Entry) (t : Skeleton) (a b c : Elaboration) (r : Result MetaId AllocError) (G : List LfType) (P : LfType) → a.locals ≡ [] → G ≡ [] → c.equations ≡ b.equations → NewType es a.locals t (made a) (made b) P →
    OnOk r (c.store ≡ changed b.store (with_declared b.store.now G P)) → IfOk r (λ m. m.0 ≡ length b.store.now.declared) → IfOk r (λ m. IsNewFree es t m.0 a c)
free_made es t a b c (Ok m) G P l g q n h k = record {
  of_type = P;
  between = made b;
  type_made = subst (λ D. NewType es D t (made a) (made b) P) l n;
  number = k;
  state = one_more_made b.store.now c.store.now (map equation_of c.equations.items) [] G P P (ap (λ (s : Story). s.now) h) refl ∙ ap (λ (es : Vec TwEquation Global). record { metavariables = (with_metavariable [] P (made b)).metavariables; next = (with_metavariable [] P (made b)).next; equations = map equation_of es.items }) q;
}
free_made es t a b c (Err x) G P l g q n h k = tt
