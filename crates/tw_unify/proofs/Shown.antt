-- What is shown stays shown while the order grows, and a ready store can be shown.
use Rattle.std.proofs.Common.{◌≡◌, ℕ, zero, suc, ◌<◌, ◌≤◌, List, [], ◌∷◌, ◌++◌, length, map, take, drop, get_or, append_assoc, length-append, ◌+◌, Option, Some, None, ◌⊎◌, inl, inr, refl, sym, ap, ◌∙◌, subst, arith}
use Rattle.std.specs.Prelude.{Bool, true, false, if◌then◌else◌, nat_eq, slice_get, ◌-◌}
use Rattle.std.proofs.lemmas.List.{length-map}
use Rattle.std.proofs.lemmas.Bool.{eq-eqb, eqb-true}
use Rattle.lf.specs.Subordination.{Member}
use Rattle.lf.specs.Syntax.{LfType, Term}
use Rattle.lf.specs.Typing.{Signature}
use Rattle.lf_unification.specs.PartialInstance.{EquationsAreTyped, IsFilling}
use Rattle.lf_unification.specs.Putting.{binders}
use Rattle.lf_unification.specs.Unifiers.{Equation}
use Rattle.tw_metas.specs.State.{State, value_of}
use Rattle.tw_putting.specs.Fits.{PutTypeFits}
use Rattle.tw_putting.specs.Stores.{PutsDeepType, PutsType, types_of}
use Rattle.tw_terms.specs.declared.canonical.MetaId.{MetaId}
use Rattle.tw_metas.specs.Named.{named_of, shown_type_of}
use Rattle.tw_terms.specs.declared.open_terms.OpenTy.{OpenTy}
use Rattle.tw_hered.specs.declared.fault.HeredFault.{HeredFault}
use Rattle.tw_hered.specs.declared.fault.HeredFault.TheVariants as hered
use Rattle.tw_unify.specs.Faults.{fault_of}
use Rattle.tw_putting.specs.Ready.{IsReady, LocalsBySkeletons, TypesBySkeletons}
use Rattle.tw_unify.specs.Showing.{AllAmong, BlamesEquation, BlamesLocals, BlamesShown, BlamesTypeOf, BlamesTypes, CanShow, DeepLocals, Grows, IsNumbered, IsNumberedType, LocalsCanTake, NeedsEquation, NeedsLocals, NeedsTerm, NeedsType, NeedsTypeOf, NeedsTypes, Shows, ShowsEquation, ShowsLocals, ShowsMetavariables, ShowsTerm, ShowsType, ShowsTypeOf, name_of, unbound_of, unless_bound}
use Rattle.tw_unify.specs.Sides.{BlamesDepth, PutsBoth}
use Rattle.tw_putting.specs.Whole.{AreDistinct, whole}
use Rattle.tw_unify.specs.declared.fault.UnifyFault.{UnifyFault}
use Rattle.tw_unify.specs.declared.fault.UnifyFault.TheVariants.{TooDeep, NoMemory}
use Rattle.tw_unify.proofs.Ordering.{drop_get, grows_for, grows_then, term_stays, type_stays}
use Rattle.tw_putting.proofs.Readiness.{local_length, ready_values, type_takes, types_take}
use Rattle.tw_unify.proofs.Fitting.{can_take}
use Rattle.tw_putting.proofs.Skeletons.{term_declared}

module _ (s : State) (N : List ℕ → Type 0) (xs ys : List ℕ) (g : Grows N xs ys) where
  pub shown_term_stays : (k : ℕ) (M M' : Term) → ShowsTerm s xs k M M' → ShowsTerm s ys k M M'
  shown_term_stays k M M' (P, p, n) = (P, p, term_stays N xs ys g P M' n)

  pub shown_type_stays : (k : ℕ) (A B : LfType) → ShowsType s xs k A B → ShowsType s ys k A B
  shown_type_stays k A B (P, p, n) = (P, p, type_stays N xs ys g P B n)

  pub locals_stay : (D E : List LfType) → ShowsLocals s xs D E → ShowsLocals s ys D E
  locals_stay [] [] h = h
  locals_stay [] (B ∷ E) h = h
  locals_stay (A ∷ D) [] h = h
  locals_stay (A ∷ D) (B ∷ E) (a, d) = (shown_type_stays (binders D) A B a, locals_stay D E d)

  pub type_of_stays : (m : ℕ) (B : LfType) → ShowsTypeOf s xs m B → ShowsTypeOf s ys m B
  type_of_stays m B (A, d, h) = (A, d, shown_type_stays 0 A B h)

  pub metas_stay : (ms : List ℕ) (ls : List (List LfType × LfType)) → ShowsMetavariables s xs ms ls → ShowsMetavariables s ys ms ls
  metas_stay [] [] h = h
  metas_stay [] (l ∷ ls) h = h
  metas_stay (m ∷ ms) [] h = h
  metas_stay (m ∷ ms) (l ∷ ls) (e, a, h) = (e, type_of_stays m l.1 a, metas_stay ms ls h)

-- one metavariable more
pub metas_more : (s : State) (xs ms : List ℕ) (ls : List (List LfType × LfType)) (m : ℕ) (B : LfType) → ShowsMetavariables s xs ms ls → ShowsTypeOf s xs m B → ShowsMetavariables s xs (ms ++ m ∷ []) (ls ++ ([], B) ∷ [])
metas_more s xs [] [] m B h a = (refl, a, tt)
metas_more s xs [] (l ∷ ls) m B h a = absurd h
metas_more s xs (n ∷ ms) [] m B h a = absurd h
metas_more s xs (n ∷ ms) (l ∷ ls) m B (e, b, h) a = (e, b, metas_more s xs ms ls m B h a)

take_front : (xs ys : List ℕ) (n : ℕ) → n ≤ length xs → take n (xs ++ ys) ≡ take n xs
take_front xs ys zero h = refl
take_front [] ys (suc n) h = absurd (omega arith)
take_front (x ∷ xs) ys (suc n) h = ap (λ zs. x ∷ zs) (take_front xs ys n (omega arith))

pub take_grown : (N : List ℕ → Type 0) (xs ys : List ℕ) (n : ℕ) → Grows N xs ys → n ≤ length xs → take n ys ≡ take n xs
take_grown N xs ys n g h = ap (take n) g.is ∙ take_front xs g.more n h

take_next : (xs : List ℕ) (n m : ℕ) → slice_get xs n ≡ Some m → take (suc n) xs ≡ take n xs ++ m ∷ []
take_next [] n m e = absurd cc
take_next (x ∷ xs) zero m e = (let h : x ≡ m = cc in ap (λ z. z ∷ []) h)
take_next (x ∷ xs) (suc n) m e = ap (λ zs. x ∷ zs) (take_next xs n m e)

-- the type of the next one is shown
pub metas_next : (s : State) (N : List ℕ → Type 0) (xs ys : List ℕ) (n m : ℕ) (ls : List (List LfType × LfType)) (B : LfType) → Grows N xs ys → n < length xs → slice_get xs n ≡ Some m → ShowsMetavariables s xs (take n xs) ls → ShowsTypeOf s ys m B → ShowsMetavariables s ys (take (suc n) ys) (ls ++ ([], B) ∷ [])
metas_next s N xs ys n m ls B g h e a b =
    let front : take (suc n) ys ≡ take n xs ++ m ∷ [] = take_grown N xs ys (suc n) g (omega arith) ∙ take_next xs n m e in
    subst (λ ms. ShowsMetavariables s ys ms (ls ++ ([], B) ∷ [])) (sym front) (metas_more s ys (take n xs) ls m B (metas_stay s N xs ys g (take n xs) ls a) b)

-- one type more of a local context
pub locals_next : (s : State) (N : List ℕ → Type 0) (xs ys : List ℕ) (k : ℕ) (A B : LfType) (D E : List LfType) → Grows N xs ys → k ≡ binders D → ShowsLocals s xs D E → ShowsType s ys k A B → ShowsLocals s ys (A ∷ D) (B ∷ E)
locals_next s N xs ys k A B D E g e d a = (subst (λ j. ShowsType s ys j A B) e a, locals_stay s N xs ys g D E d)

member_at : (es : List Equation) (i : ℕ) (e : Equation) → slice_get es i ≡ Some e → Member e es
member_at [] i e h = absurd cc
member_at (d ∷ es) zero e h = inl (let q : d ≡ e = cc in sym q)
member_at (d ∷ es) (suc i) e h = inr (member_at es i e h)

module _ (Σ : Signature) (s : State) (r : IsReady Σ [] s) where
  locals_take : (D : List LfType) → LocalsBySkeletons Σ (types_of s) D → LocalsCanTake s D
  locals_take [] d = tt
  locals_take (A ∷ D) (d, a) = (type_takes Σ [] s r D A a, locals_take D d)

  shows_one : (es : List Equation) (e : Equation) → EquationsAreTyped Σ [] (types_of s) (IsFilling Σ [] (whole [] s)) es → TypesBySkeletons Σ (types_of s) es → Member e es → CanShow s e
  shows_one [] e t u h = absurd h
  shows_one (d ∷ es) e (t, ts) ((l, a), us) (inl q) = subst (CanShow s) (sym q) (record {
    locals = locals_take d.local l;
    sides = can_take Σ s d (record {
      consistent = r.consistent;
      store_typed = ready_values Σ [] s r;
      locals = l;
      left_typed = term_declared Σ (types_of s) (IsFilling Σ [] (whole [] s)) d.local d.left d.of_type t.left_typed;
      right_typed = term_declared Σ (types_of s) (IsFilling Σ [] (whole [] s)) d.local d.right d.of_type t.right_typed;
    });
    of_type = type_takes Σ [] s r d.local d.of_type a;
    types = types_take Σ [] s r;
  })
  shows_one (d ∷ es) e (t, ts) (u, us) (inr h) = shows_one es e ts us h

  -- an equation of a ready store can be shown
  pub can_show : (i : ℕ) (e : Equation) → slice_get s.equations i ≡ Some e → CanShow s e
  can_show i e h = shows_one s.equations e r.well_formed.typed.equations_typed r.types (member_at s.equations i e h)

-- the parts of an equation that is shown
pub equation_shown : (s : State) (e f : Equation) (M N : Term) (A : LfType) (o o₂ o₃ o₄ : List ℕ) → Grows (NeedsTerm M) o o₂ → Grows (NeedsTerm N) o₂ o₃ → Grows (NeedsType A) o₃ o₄ → ShowsLocals s o e.local f.local → PutsBoth s e M N → PutsType s (binders e.local) e.of_type A → IsNumbered o₂ M f.left → IsNumbered o₃ N f.right → IsNumberedType o₄ A f.of_type → ShowsEquation s o₄ e f
equation_shown s e f M N A o o₂ o₃ o₄ g h k d (p, q) r m n a =
    let later : Grows (λ vs. NeedsTerm N vs × NeedsType A vs) o₂ o₄ = grows_then (NeedsTerm N) (NeedsType A) (λ vs. NeedsTerm N vs × NeedsType A vs) o₂ o₃ o₄ (λ vs x. x.0) (λ vs x. x.1) h k in
    let all : Grows (λ vs. NeedsTerm M vs × NeedsTerm N vs × NeedsType A vs) o o₄ = grows_then (NeedsTerm M) (λ vs. NeedsTerm N vs × NeedsType A vs) (λ vs. NeedsTerm M vs × NeedsTerm N vs × NeedsType A vs) o o₂ o₄ (λ vs x. x.0) (λ vs x. (x.1, x.2)) g later in
    record {
      locals = locals_stay s (λ vs. NeedsTerm M vs × NeedsTerm N vs × NeedsType A vs) o o₄ all e.local f.local d;
      left = (M, p, term_stays (λ vs. NeedsTerm N vs × NeedsType A vs) o₂ o₄ later M f.left m);
      right = (N, q, term_stays (NeedsType A) o₃ o₄ k N f.right n);
      of_type = (A, r, a);
    }

pub equation_grown : (s : State) (e : Equation) (M N : Term) (A : LfType) (o o₁ o₂ o₃ o₄ : List ℕ) → Grows (NeedsLocals s e.local) o o₁ → Grows (NeedsTerm M) o₁ o₂ → Grows (NeedsTerm N) o₂ o₃ → Grows (NeedsType A) o₃ o₄ → PutsBoth s e M N → PutsType s (binders e.local) e.of_type A → Grows (NeedsEquation s e) o o₄
equation_grown s e M N A o o₁ o₂ o₃ o₄ f g h k (p, q) r =
    grows_then (NeedsEquation s e) (NeedsType A) (NeedsEquation s e) o o₃ o₄ (λ vs n. n) (λ vs n. n.of_type A r)
    (grows_then (NeedsEquation s e) (NeedsTerm N) (NeedsEquation s e) o o₂ o₃ (λ vs n. n) (λ vs n. n.right N q)
    (grows_then (NeedsLocals s e.local) (NeedsTerm M) (NeedsEquation s e) o o₁ o₂ (λ vs n. n.locals) (λ vs n. n.left M p) f g) h) k

pub blames_locals : (f : UnifyFault) (s : State) (e : Equation) → BlamesLocals f s e.local → BlamesEquation f s e
blames_locals TooDeep s e b = inr (inr (inr b))
blames_locals NoMemory s e b = tt

pub blames_sides : (f : UnifyFault) (s : State) (e : Equation) → BlamesDepth f s e → BlamesEquation f s e
blames_sides TooDeep s e b = elim b [ inl h ↦ inl h | inr h ↦ inr (inl h) ]
blames_sides NoMemory s e b = tt

equation_stays : (s : State) (N : List ℕ → Type 0) (xs ys : List ℕ) → Grows N xs ys → (e f : Equation) → ShowsEquation s xs e f → ShowsEquation s ys e f
equation_stays s N xs ys g e f h = record {
  locals = locals_stay s N xs ys g e.local f.local h.locals;
  left = shown_term_stays s N xs ys g (binders e.local) e.left f.left h.left;
  right = shown_term_stays s N xs ys g (binders e.local) e.right f.right h.right;
  of_type = shown_type_stays s N xs ys g (binders e.local) e.of_type f.of_type h.of_type;
}

not_among : (s : State) (ns : List (ℕ × List ℕ)) (m : ℕ) → (Member m (map (λ n. n.0) ns) → ⊥) → Member m (unbound_of s ns) → ⊥
not_among s [] m f h = h
not_among s (n ∷ ns) m f h = elim (member_unless (value_of s n.0) n.0 (unbound_of s ns) m h) [ inl e ↦ f (inl e) | inr i ↦ not_among s ns m (λ j. f (inr j)) i ]
  where
    member_unless : (v : Option Term) (k : ℕ) (ms : List ℕ) (m : ℕ) → Member m (unless_bound v k ms) → (m ≡ k) ⊎ Member m ms
    member_unless None k ms m h = h
    member_unless (Some N) k ms m h = inr h

distinct_unless : (v : Option Term) (m : ℕ) (ms : List ℕ) → (Member m ms → ⊥) → AreDistinct ms → AreDistinct (unless_bound v m ms)
distinct_unless None m ms f d = (f, d)
distinct_unless (Some N) m ms f d = d

unbound_distinct : (s : State) (ns : List (ℕ × List ℕ)) → AreDistinct (map (λ n. n.0) ns) → AreDistinct (unbound_of s ns)
unbound_distinct s [] d = tt
unbound_distinct s (n ∷ ns) (f, d) = distinct_unless (value_of s n.0) n.0 (unbound_of s ns) (not_among s ns n.0 f) (unbound_distinct s ns d)

-- all that is shown
pub all_shown : (s : State) (e f : Equation) (named : List (ℕ × List ℕ)) (metas : List (List LfType × LfType)) (names : List (Option (List ℕ))) (o o₁ o₂ : List ℕ) → AreDistinct (map (λ n. n.0) named) → o ≡ unbound_of s named → ShowsEquation s o₁ e f → Grows (NeedsEquation s e) o o₁ → ShowsMetavariables s o₂ o₂ metas → Grows (NeedsTypes s) o₁ o₂ → names ≡ map (name_of named) o₂ → Shows s e named metas names f
all_shown s e f named metas names o o₁ o₂ d q h g m k n =
    let all : Grows (λ vs. NeedsEquation s e vs × NeedsTypes s vs) o o₂ = grows_then (NeedsEquation s e) (NeedsTypes s) (λ vs. NeedsEquation s e vs × NeedsTypes s vs) o o₁ o₂ (λ vs x. x.0) (λ vs x. x.1) g k in
    record {
      order = o₂;
      distinct = all.distinct (subst AreDistinct (sym q) (unbound_distinct s named d));
      others = all.more;
      named_first = all.is ∙ ap (λ xs. xs ++ all.more) q;
      needed = λ vs a x y. all.within vs (subst (AllAmong vs) (sym q) a) (x, y);
      equation = equation_stays s (NeedsTypes s) o₁ o₂ k e f h;
      metavariables = m;
      names_are = n;
    }

pub blames_whole : (f : UnifyFault) (s : State) (e : Equation) (named : List (ℕ × List ℕ)) → BlamesEquation f s e → BlamesShown f s e named
blames_whole TooDeep s e named b = inl b
blames_whole NoMemory s e named b = tt

pub blames_types : (f : UnifyFault) (s : State) (e : Equation) (named : List (ℕ × List ℕ)) (o o₁ : List ℕ) → o ≡ unbound_of s named → Grows (NeedsEquation s e) o o₁ → BlamesTypes f s o₁ → BlamesShown f s e named
blames_types TooDeep s e named o o₁ q g (m, d, i) = inr (m, d, λ vs a x y. i vs (g.within vs (subst (AllAmong vs) (sym q) a) x) y)
blames_types NoMemory s e named o o₁ q g b = tt

among_at : (vs xs : List ℕ) (i m : ℕ) → AllAmong vs xs → slice_get xs i ≡ Some m → Member m vs
among_at vs [] i m a e = absurd cc
among_at vs (x ∷ xs) zero m (h, a) e = subst (λ y. Member y vs) (let q : x ≡ m = cc in q) h
among_at vs (x ∷ xs) (suc i) m (h, a) e = among_at vs xs i m a e

pub types_grown : (s : State) (xs ys zs : List ℕ) (i m : ℕ) → Grows (NeedsTypes s) xs ys → slice_get ys i ≡ Some m → Grows (NeedsTypeOf s m) ys zs → Grows (NeedsTypes s) xs zs
types_grown s xs ys zs i m g e h = record {
  more = g.more ++ h.more;
  is = h.is ∙ ap (λ us. us ++ h.more) g.is ∙ append_assoc xs g.more h.more;
  distinct = λ d. h.distinct (g.distinct d);
  within = λ vs a n. let b = g.within vs a n in h.within vs b (n m (among_at vs ys i m b e));
}

pub blames_next : (f : UnifyFault) (s : State) (xs ys : List ℕ) (i m : ℕ) → Grows (NeedsTypes s) xs ys → slice_get ys i ≡ Some m → BlamesTypeOf f s m → BlamesTypes f s xs
blames_next TooDeep s xs ys i m g e d = (m, d, λ vs a n. among_at vs ys i m (g.within vs a n) e)
blames_next NoMemory s xs ys i m g e d = tt

-- a local context from the place of a type on
locals_from : (D : List LfType) (n : ℕ) (A : LfType) → slice_get D n ≡ Some A → drop n D ≡ A ∷ drop (suc n) D
locals_from [] n A e = absurd cc
locals_from (B ∷ D) zero A e = (let h : B ≡ A = cc in ap (λ C. C ∷ D) h)
locals_from (B ∷ D) (suc n) A e = locals_from D n A e

count_from : (D : List LfType) (n : ℕ) → binders (drop n D) ≡ length D - n
count_from [] zero = refl
count_from [] (suc n) = omega arith
count_from (A ∷ D) zero = let h = count_from D zero in omega arith
count_from (A ∷ D) (suc n) = let h = count_from D n in omega arith

takes_from : (s : State) (D : List LfType) (n : ℕ) (A : LfType) → slice_get D n ≡ Some A → LocalsCanTake s D → PutTypeFits s (binders (drop (suc n) D)) A
takes_from s [] n A e t = absurd cc
takes_from s (B ∷ D) zero A e (b, t) = subst (PutTypeFits s (binders D)) (let h : B ≡ A = cc in h) b
takes_from s (B ∷ D) (suc n) A e (b, t) = takes_from s D n A e t

deep_from : (s : State) (D : List LfType) (n : ℕ) (A : LfType) → slice_get D n ≡ Some A → PutsDeepType s (binders (drop (suc n) D)) A → DeepLocals s D
deep_from s [] n A e d = absurd cc
deep_from s (B ∷ D) zero A e d = inl (subst (PutsDeepType s (binders D)) (let h : A ≡ B = cc in h) d)
deep_from s (B ∷ D) (suc n) A e d = inr (deep_from s D n A e d)

-- names
pub name_here : (ns : List (MetaId × List ℕ)) (i : ℕ) (n : MetaId × List ℕ) (m : ℕ) → i < length ns → n ≡ get_or ns i n → n.0.0 ≡ m → name_of (map named_of (drop i ns)) m ≡ Some n.1
name_here ns i n m h e q = ap (λ ds. name_of (map named_of ds) m) (drop_get ns i n h e) ∙ ap (λ b. if b then Some n.1 else name_of (map named_of (drop (suc i) ns)) m) (eq-eqb n.0.0 m q)

not_equal : (n m : ℕ) → (n ≡ m → ⊥) → nat_eq n m ≡ false
not_equal n m f = false_of (nat_eq n m) (λ e. f (eqb-true n m e))
  where
    false_of : (b : Bool) → (b ≡ true → ⊥) → b ≡ false
    false_of true f = absurd (f refl)
    false_of false f = refl

pub name_past : (ns : List (MetaId × List ℕ)) (i : ℕ) (n : MetaId × List ℕ) (m : ℕ) → i < length ns → n ≡ get_or ns i n → (n.0.0 ≡ m → ⊥) → name_of (map named_of (drop i ns)) m ≡ name_of (map named_of (drop (suc i) ns)) m
name_past ns i n m h e f = ap (λ ds. name_of (map named_of ds) m) (drop_get ns i n h e) ∙ ap (λ b. if b then Some n.1 else name_of (map named_of (drop (suc i) ns)) m) (not_equal n.0.0 m f)

pub unbound_next : (s : State) (ns : List (MetaId × List ℕ)) (i : ℕ) (n : MetaId × List ℕ) → i < length ns → n ≡ get_or ns i n → unbound_of s (map named_of (drop i ns)) ≡ unless_bound (value_of s n.0.0) n.0.0 (unbound_of s (map named_of (drop (suc i) ns)))
unbound_next s ns i n h e = ap (λ ds. unbound_of s (map named_of ds)) (drop_get ns i n h e)

pub put_under : (s : State) (D : List LfType) (k : ℕ) (A B : LfType) → k ≡ length D → PutsType s k A B → PutsType s (binders D) A B
put_under s D k A B e p = subst (λ j. PutsType s j A B) (e ∙ local_length D) p

-- one type of a local context
place_is : (D : List LfType) (n k : ℕ) → k ≡ length D - suc n → k ≡ binders (drop (suc n) D)
place_is D n k e = e ∙ sym (count_from D (suc n))

pub takes_at : (s : State) (D : List LfType) (n k : ℕ) (A : LfType) → slice_get D n ≡ Some A → k ≡ length D - suc n → LocalsCanTake s D → PutTypeFits s k A
takes_at s D n k A e p t = subst (λ j. PutTypeFits s j A) (sym (place_is D n k p)) (takes_from s D n A e t)

pub blames_at : (f : HeredFault) (s : State) (D : List LfType) (n k : ℕ) (A : LfType) → slice_get D n ≡ Some A → k ≡ length D - suc n → (f ≡ hered.TooDeep → PutsDeepType s k A) → BlamesLocals (fault_of f) s D
blames_at hered.TooDeep s D n k A e p d = deep_from s D n A e (subst (λ j. PutsDeepType s j A) (place_is D n k p) (d refl))
blames_at hered.NoMemory s D n k A e p d = tt

pub context_step : (s : State) (xs ys : List ℕ) (D E E' : List LfType) (n j k : ℕ) (A P B : LfType) → slice_get D n ≡ Some A → j ≡ suc n → k ≡ length D - suc n → ShowsLocals s xs (drop j D) E → PutsType s k A P → IsNumberedType ys P B → Grows (NeedsType P) xs ys → E' ≡ B ∷ E → ShowsLocals s ys (drop n D) E'
context_step s xs ys D E E' n j k A P B e i p h q b g f =
    let here : drop n D ≡ A ∷ drop j D = locals_from D n A e ∙ ap (λ i. A ∷ drop i D) (sym i) in
    let r : PutsType s (binders (drop j D)) A P = subst (λ i. PutsType s (binders (drop i D)) A P) (sym i) (subst (λ i. PutsType s i A P) (place_is D n k p) q) in
    subst (λ X. ShowsLocals s ys X E') (sym here) (subst (ShowsLocals s ys (A ∷ drop j D)) (sym f) ((P, r, b), locals_stay s (NeedsType P) xs ys g (drop j D) E h))

pub context_grown : (s : State) (os xs ys : List ℕ) (D : List LfType) (n j k : ℕ) (A P : LfType) → slice_get D n ≡ Some A → j ≡ suc n → k ≡ length D - suc n → PutsType s k A P → Grows (NeedsLocals s (drop j D)) os xs → Grows (NeedsType P) xs ys → Grows (NeedsLocals s (drop n D)) os ys
context_grown s os xs ys D n j k A P e i p q g h =
    let here : drop n D ≡ A ∷ drop j D = locals_from D n A e ∙ ap (λ i. A ∷ drop i D) (sym i) in
    let r : PutsType s (binders (drop j D)) A P = subst (λ i. PutsType s (binders (drop i D)) A P) (sym i) (subst (λ i. PutsType s i A P) (place_is D n k p) q) in
    subst (λ X. Grows (NeedsLocals s X) os ys) (sym here) (grows_then (NeedsLocals s (drop j D)) (NeedsType P) (NeedsLocals s (A ∷ drop j D)) os xs ys (λ vs a. a.1) (λ vs a. a.0 P r) g h)

pub type_grown : (s : State) (m : ℕ) (A P : LfType) (xs ys : List ℕ) → types_of s m ≡ Some A → PutsType s 0 A P → Grows (NeedsType P) xs ys → Grows (NeedsTypeOf s m) xs ys
type_grown s m A P xs ys e p g = grows_for (NeedsType P) (NeedsTypeOf s m) xs ys (λ vs n. n A e P p) g

-- the type of the next metavariable
one_longer : (ms ms' : List (List LfType × OpenTy)) (l : List LfType × LfType) → map shown_type_of ms' ≡ map shown_type_of ms ++ l ∷ [] → length ms' ≡ suc (length ms)
one_longer ms ms' l e =
    let a : length (map shown_type_of ms') ≡ length (map shown_type_of ms ++ l ∷ []) = ap length e in
    let b : length (map shown_type_of ms ++ l ∷ []) ≡ length (map shown_type_of ms) + 1 = length-append (map shown_type_of ms) (l ∷ []) in
    let c : length (map shown_type_of ms') ≡ length ms' = length-map ms' shown_type_of in
    let d : length (map shown_type_of ms) ≡ length ms = length-map ms shown_type_of in
    omega arith

pub still_within : (N : List ℕ → Type 0) (xs ys : List ℕ) (ms ms' : List (List LfType × OpenTy)) (l : List LfType × LfType) → Grows N xs ys → length ms < length xs → map shown_type_of ms' ≡ map shown_type_of ms ++ l ∷ [] → length ms' ≤ length ys
still_within N xs ys ms ms' l g h e =
    let a : length ms' ≡ suc (length ms) = one_longer ms ms' l e in
    let b : length ys ≡ length xs + length g.more = ap length g.is ∙ length-append xs g.more in
    omega arith

pub metas_step : (s : State) (N : List ℕ → Type 0) (xs ys : List ℕ) (ms ms' : List (List LfType × OpenTy)) (m : ℕ) (B : LfType) → Grows N xs ys → length ms < length xs → slice_get xs (length ms) ≡ Some m → map shown_type_of ms' ≡ map shown_type_of ms ++ ([], B) ∷ [] → ShowsMetavariables s xs (take (length ms) xs) (map shown_type_of ms) → ShowsTypeOf s ys m B → ShowsMetavariables s ys (take (length ms') ys) (map shown_type_of ms')
metas_step s N xs ys ms ms' m B g h e q a b =
    subst (λ ls. ShowsMetavariables s ys (take (length ms') ys) ls) (sym q)
    (subst (λ n. ShowsMetavariables s ys (take n ys) (map shown_type_of ms ++ ([], B) ∷ [])) (sym (one_longer ms ms' ([], B) q)) (metas_next s N xs ys (length ms) m (map shown_type_of ms) B g h e a b))
