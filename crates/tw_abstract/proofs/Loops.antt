-- One step of each loop, and the causes of faults.
use Rattle.std.proofs.Common.{◌≡◌, ℕ, zero, suc, ◌+◌, ◌<◌, inl, inr, List, [], ◌∷◌, ◌++◌, append_assoc, get_or, length, map, take, Option, Some, None, true, false, is_some, refl, sym, ap, ◌∙◌, subst, add-one, arith}
use Rattle.std.proofs.lemmas.List.{append-nil, map-append}
use Rattle.std.specs.List.{slice_get}
use Rattle.std.specs.Option.{option_map}
use Rattle.std.specs.Prelude.{IsSome}
use Rattle.lf.specs.Subordination.{Member}
use Rattle.lf.specs.Syntax.{LfType, Term}
use Rattle.tw_abstract.specs.Free.{add_inner}
use Rattle.tw_abstract.specs.Generalizing.{generalized_type}
use Rattle.tw_abstract.specs.Occurrences.{noted, with_new}
use Rattle.tw_abstract.specs.Order.{IsOrder, Waiting}
use Rattle.tw_abstract.specs.OrderView.{waiting_of}
use Rattle.tw_abstract.specs.Positions.{index}
use Rattle.tw_abstract.specs.declared.order.Candidate.{Candidate}
use Rattle.tw_abstract.proofs.Choosing.{get_within}
use Rattle.tw_abstract.proofs.Noting.{noted-append}
use Rattle.tw_metas.specs.State.{State, value_of}
use Rattle.tw_putting.specs.Stores.{PutsType, types_of}
use Rattle.tw_terms.specs.declared.canonical.MetaId.{MetaId}
use Rattle.tw_abstract.specs.Causes.{BlamesQuantifiers, BlamesSites, BlamesType, BlamesTypes, BlamesValue}
use Rattle.tw_abstract.specs.Quantifiers.{AreCandidates, AreFound, AreQuantifiers, IsCandidate, IsContextOf, SitesHave, ValueHas, one_inside, unbound_below}
use Rattle.tw_abstract.proofs.Members.{ordered_found}
use Rattle.tw_hered.specs.declared.fault.HeredFault.{HeredFault}
use Rattle.tw_hered.specs.declared.fault.HeredFault.TheVariants.{NoMemory, TooDeep}

-- one number more
next_number : (ms : List MetaId) (i : ℕ) (d x : MetaId) → i < length ms → x ≡ get_or ms i d → map (λ m. m.0) (take (suc i) ms) ≡ map (λ m. m.0) (take i ms) ++ x.0 ∷ []
next_number [] i d x h e = absurd (omega arith)
next_number (y ∷ ms) zero d x h e = ap (λ m. m.0 ∷ []) (sym e)
next_number (y ∷ ms) (suc i) d x h e = ap (λ ns. y.0 ∷ ns) (next_number ms i d x (omega arith) e)

pub one_number_more : (ms : List MetaId) (i : ℕ) (d x : MetaId) → i < length ms → x ≡ get_or ms i d → map (λ m. m.0) (take (i + 1) ms) ≡ map (λ m. m.0) (take i ms) ++ x.0 ∷ []
one_number_more ms i d x h e = ap (λ n. map (λ m. m.0) (take n ms)) (add-one i) ∙ next_number ms i d x h e

pub number_there : (ms : List MetaId) (i : ℕ) (d x : MetaId) → i < length ms → x ≡ get_or ms i d → Member x.0 (map (λ m. m.0) ms)
number_there [] i d x h e = absurd (omega arith)
number_there (y ∷ ms) zero d x h e = inl (ap (λ m. m.0) e)
number_there (y ∷ ms) (suc i) d x h e = inr (number_there ms i d x (omega arith) e)

module _ (s : State) where
  -- one site more
  sites_more : (ms : List ℕ) (m : ℕ) (ns xs : List ℕ) → SitesHave s ms ns → ValueHas s m (value_of s m) xs → SitesHave s (ms ++ m ∷ []) (ns ++ xs)
  sites_more [] m ns xs h v = (xs, [], v, refl, ap (λ ys. ys ++ xs) h ∙ sym (append-nil xs))
  sites_more (k ∷ ms) m ns xs (zs, ys, w, h, e) v = (zs, ys ++ xs, w, sites_more ms m ys xs h v, ap (λ us. us ++ xs) e ∙ append_assoc zs ys xs)

  -- what was noted at some sites
  abbrev pub SitesNoted : List ℕ → List ℕ → List ℕ → Type 0
  SitesNoted ms old new = (ns : List ℕ) × SitesHave s ms ns × (new ≡ noted old ns)

  pub next_site : (ms : List MetaId) (i : ℕ) (d x : MetaId) (old now new : List ℕ) → i < length ms → x ≡ get_or ms i d → SitesNoted (map (λ m. m.0) (take i ms)) old now → (xs : List ℕ) × ValueHas s x.0 (value_of s x.0) xs × (new ≡ noted now xs) → SitesNoted (map (λ m. m.0) (take (i + 1) ms)) old new
  next_site ms i d x old now new l e (ns, h, p) (xs, v, q) = (
    ns ++ xs,
    subst (λ ks. SitesHave s ks (ns ++ xs)) (sym (one_number_more ms i d x l e)) (sites_more (map (λ m. m.0) (take i ms)) x.0 ns xs h v),
    q ∙ ap (λ ks. noted ks xs) p ∙ sym (noted-append old ns xs),
  )

  pub site_blamed : (f : HeredFault) (ms : List MetaId) (i : ℕ) (d x : MetaId) → i < length ms → x ≡ get_or ms i d → BlamesValue f s x.0 → BlamesSites f s (map (λ m. m.0) ms)
  site_blamed TooDeep ms i d x l e (N, v, p) = (x.0, N, number_there ms i d x l e, v, p)
  site_blamed NoMemory ms i d x l e b = tt

  pub type_blamed : (f : HeredFault) (ms : List MetaId) (i : ℕ) (d x : MetaId) → i < length ms → x ≡ get_or ms i d → BlamesType f s x.0 → BlamesTypes f s (map (λ m. m.0) ms)
  type_blamed TooDeep ms i d x l e (A, t, p) = (x.0, A, number_there ms i d x l e, t, p)
  type_blamed NoMemory ms i d x l e b = tt

  pub blames_sites : (f : HeredFault) (sites : List ℕ) → BlamesSites f s sites → BlamesQuantifiers f s sites
  blames_sites TooDeep sites b = inl b
  blames_sites NoMemory sites b = tt

  pub blames_types : (f : HeredFault) (sites found ms : List ℕ) → AreFound s sites found → ((m : ℕ) → Member m ms → Member m found) → BlamesTypes f s ms → BlamesQuantifiers f s sites
  blames_types TooDeep sites found ms a h (m, A, i, d, p) = inr (found, a, (m, A, h m i, d, p))
  blames_types NoMemory sites found ms a h b = tt

  -- one number more of those that aren't bound
  pub next_unbound : (n : ℕ) (old now new : List ℕ) → value_of s n ≡ None → now ≡ noted old (unbound_below s n) → new ≡ with_new now n → new ≡ noted old (unbound_below s (n + 1))
  next_unbound n old now new v p q =
      q ∙ ap (λ ks. with_new ks n) p ∙ sym (noted-append old (unbound_below s n) (n ∷ [])) ∙ ap (λ w. noted old (add_inner w n (unbound_below s n))) (sym v) ∙ ap (λ k. noted old (unbound_below s k)) (sym (add-one n))

  pub next_bound : (n : ℕ) (old now : List ℕ) (N : Term) → value_of s n ≡ Some N → now ≡ noted old (unbound_below s n) → now ≡ noted old (unbound_below s (n + 1))
  next_bound n old now N v p = p ∙ ap (λ w. noted old (add_inner w n (unbound_below s n))) (sym v) ∙ ap (λ k. noted old (unbound_below s k)) (sym (add-one n))

  -- one candidate more
  more_candidates : (ms : List ℕ) (es : List Waiting) (m : ℕ) (e : Waiting) → AreCandidates s ms es → IsCandidate s m e → AreCandidates s (ms ++ m ∷ []) (es ++ e ∷ [])
  more_candidates [] [] m e a c = (c, tt)
  more_candidates [] (x ∷ es) m e a c = absurd a
  more_candidates (n ∷ ms) [] m e a c = absurd a
  more_candidates (n ∷ ms) (x ∷ es) m e (a, as') c = (a, more_candidates ms es m e as' c)

  pub next_candidate : (ms : List MetaId) (i : ℕ) (d x : MetaId) (now new : List Candidate) (c : Candidate) → i < length ms → x ≡ get_or ms i d → AreCandidates s (map (λ m. m.0) (take i ms)) (map waiting_of now) → IsCandidate s x.0 (waiting_of c) → new ≡ now ++ c ∷ [] → AreCandidates s (map (λ m. m.0) (take (i + 1) ms)) (map waiting_of new)
  next_candidate ms i d x now new c l e a h q =
      subst (λ ks. AreCandidates s ks (map waiting_of new)) (sym (one_number_more ms i d x l e))
      (subst (AreCandidates s (map (λ m. m.0) (take i ms) ++ x.0 ∷ [])) (sym (ap (map waiting_of) q ∙ map-append waiting_of now (c ∷ []))) (more_candidates (map (λ m. m.0) (take i ms)) (map waiting_of now) x.0 (waiting_of c) a h))

  -- one quantifier more
  pub next_quantifier : (ms : List MetaId) (i : ℕ) (d x : MetaId) (outside : List ℕ) (G G' : List LfType) (B : LfType) → i < length ms → x ≡ get_or ms i d → IsContextOf s (map (λ m. m.0) (take i ms)) G → outside ≡ map (λ m. m.0) (take i ms) → (A A' : LfType) × (types_of s x.0 ≡ Some A) × PutsType s 0 A A' × (generalized_type (index outside) 0 A' ≡ Some B) → G' ≡ B ∷ G → IsContextOf s (map (λ m. m.0) (take (i + 1) ms)) G'
  next_quantifier ms i d x outside G G' B l e c o (A, A', t, p, g) q =
      subst (λ ks. IsContextOf s ks G') (sym (one_number_more ms i d x l e)) (subst (IsContextOf s (map (λ m. m.0) (take i ms) ++ x.0 ∷ [])) (sym q) (one_inside x.0 A A' c t p (ap (λ ks. generalized_type (index ks) 0 A') (sym o) ∙ g)))

-- what an option tells
pub none_told : {A B : Type 0} (f : A → B) (r : Option A) (v : Option B) → option_map f r ≡ v → is_some r ≡ false → v ≡ None
none_told f None v e i = sym e
none_told f (Some x) v e i = cc

pub some_told : {A B : Type 0} (f : A → B) (r : Option A) (v : Option B) → option_map f r ≡ v → is_some r ≡ true → (y : B) × (v ≡ Some y)
some_told f None v e i = cc
some_told f (Some x) v e i = (f x, sym e)

pub told_within : {A B : Type 0} (f : A → B) (r : Option A) (xs : List B) (n : ℕ) → option_map f r ≡ slice_get xs n → is_some r ≡ true → n < length xs
told_within f r xs n e i = let (y, q) = some_told f r (slice_get xs n) e i in get_within xs n y q

-- the parts of the quantifiers
pub gathered : (s : State) (sites found ms ns ps : List ℕ) (cs ds : List Candidate) (G : List LfType) → AreFound s sites found → ms ≡ found → AreCandidates s ms (map waiting_of cs) → ds ≡ cs → IsOrder (map waiting_of ds) ps → ns ≡ ps → IsContextOf s ns G → AreQuantifiers s sites ps G
gathered s sites found ms ns ps cs ds G f e a q o p c = record {
  found = found;
  are_found = f;
  candidates = map waiting_of ds;
  are_candidates = subst (λ xs. AreCandidates s found (map waiting_of xs)) (sym q) (subst (λ ks. AreCandidates s ks (map waiting_of cs)) e a);
  in_order = o;
  context = subst (λ ks. IsContextOf s ks G) p c;
}

-- a fault while the context is made
pub context_blamed : (s : State) (sites found ms ns ps : List ℕ) (cs ds : List Candidate) (f : HeredFault) → AreFound s sites found → ms ≡ found → AreCandidates s ms (map waiting_of cs) → ds ≡ cs → IsOrder (map waiting_of ds) ps → ns ≡ ps → BlamesTypes f s ns → BlamesQuantifiers f s sites
context_blamed s sites found ms ns ps cs ds f a e h q o p b =
    let candidates : AreCandidates s found (map waiting_of ds) = subst (λ xs. AreCandidates s found (map waiting_of xs)) (sym q) (subst (λ ks. AreCandidates s ks (map waiting_of cs)) e h) in
    blames_types s f sites found ns a (λ m i. ordered_found s found (map waiting_of ds) ps candidates o m (subst (Member m) p i)) b

pub some_there : {A B : Type 0} (f : A → B) (r : Option A) (v : Option B) (y : B) → option_map f r ≡ v → v ≡ Some y → IsSome r
some_there f None v y e q = (let z : None ≡ Some y = e ∙ q in absurd cc)
some_there f (Some x) v y e q = refl

pub there_told : {A B : Type 0} (f : A → B) (r : Option A) (v : Option B) (x : A) → option_map f r ≡ v → r ≡ Some x → v ≡ Some (f x)
there_told f r v x e q = sym e ∙ ap (option_map f) q
