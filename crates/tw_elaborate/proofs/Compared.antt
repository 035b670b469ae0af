-- Types that are still to be compared: each step leaves fewer parts, and the same equations in the end.
use Rattle.std.proofs.Common.{◌≡◌, ℕ, suc, ◌+◌, ◌<◌, List, [], ◌∷◌, ◌++◌, ◌⊎◌, inl, inr, refl, sym, ap, ap₂, ◌∙◌, subst, arith}
use Rattle.lf.specs.Syntax.{LfType, Spine, arrow, atom, base, pi, skeleton}
use Rattle.lf.specs.Typing.{Signature}
use Rattle.lf_elaboration.specs.Skeletons.{TypeHasSkeletons}
use Rattle.lf_elaboration.specs.State.{State, index_equations, type_equations, with_equations}
use Rattle.lf_elaboration.proofs.Differing.{same_type}
use Rattle.lf_unification.specs.Lists.{followed}
use Rattle.lf_unification.specs.Unifiers.{Equation}
use Rattle.tw_terms.specs.OpenView.{open_type_of}
use Rattle.tw_elaborate.specs.Compared.{AllFound, AllSame, AnyDeep, ComparesNext, equations_left, parts, parts_left}
use Rattle.tw_elaborate.specs.Comparing.{ComparesIn}
use Rattle.tw_elaborate.specs.Fresh.{Keeps}
use Rattle.tw_elaborate.specs.IndicesDeep.{IndicesDeep}
use Rattle.tw_elaborate.specs.View.{made}
use Rattle.tw_elaborate.specs.declared.equations.Comparison.{Comparison}
use Rattle.tw_elaborate.specs.declared.state.Elaboration.{Elaboration}
use Rattle.tw_open.proofs.Arguments.{followed_after, followed_none}
use Rattle.tw_elaborate.proofs.Equating.{equations_twice, no_equations}
use Rattle.tw_elaborate.proofs.Taking.{keeps_same, keeps_then}

parts_push : (cs : List Comparison) (c : Comparison) → parts_left (cs ++ c ∷ []) ≡ parts (open_type_of c.found.now) + parts_left cs
parts_push [] c = refl
parts_push (d ∷ cs) c = let h = parts_push cs c in omega (arith, h)

same_push : (cs : List Comparison) (c : Comparison) → AllSame cs → skeleton (open_type_of c.found.now) ≡ skeleton (open_type_of c.expected.now) → AllSame (cs ++ c ∷ [])
same_push [] c h e = (e, tt)
same_push (d ∷ cs) c (k, h) e = (k, same_push cs c h e)

same_pop : (cs : List Comparison) (c : Comparison) → AllSame (cs ++ c ∷ []) → AllSame cs × (skeleton (open_type_of c.found.now) ≡ skeleton (open_type_of c.expected.now))
same_pop [] c (e, h) = (tt, e)
same_pop (d ∷ cs) c (k, h) = let (i, e) = same_pop cs c h in ((k, i), e)

module _ (Σ : Signature) where
  abbrev equations_of : Comparison → List Equation
  equations_of c = type_equations Σ c.context (open_type_of c.found.now) (open_type_of c.expected.now)

  equations_push : (cs : List Comparison) (c : Comparison) → equations_left Σ (cs ++ c ∷ []) ≡ followed (equations_of c) (equations_left Σ cs)
  equations_push [] c = sym (followed_none (equations_of c))
  equations_push (d ∷ cs) c = ap (λ l. followed l (equations_of d)) (equations_push cs c) ∙ followed_after (equations_of c) (equations_left Σ cs) (equations_of d)

  found_push : (s : State) (cs : List Comparison) (c : Comparison) → AllFound Σ s cs → TypeHasSkeletons Σ s c.context (open_type_of c.found.now) → AllFound Σ s (cs ++ c ∷ [])
  found_push s [] c h f = (f, tt)
  found_push s (d ∷ cs) c (k, h) f = (k, found_push s cs c h f)

  pub found_pop : (s : State) (cs : List Comparison) (c : Comparison) → AllFound Σ s (cs ++ c ∷ []) → AllFound Σ s cs × TypeHasSkeletons Σ s c.context (open_type_of c.found.now)
  found_pop s [] c (f, h) = (tt, f)
  found_pop s (d ∷ cs) c (k, h) = let (i, f) = found_pop s cs c h in ((k, i), f)

  deep_before : (cs : List Comparison) (c : Comparison) → AnyDeep Σ cs → AnyDeep Σ (cs ++ c ∷ [])
  deep_before [] c d = absurd d
  deep_before (b ∷ cs) c (inl d) = inl d
  deep_before (b ∷ cs) c (inr d) = inr (deep_before cs c d)

  deep_last : (cs : List Comparison) (c : Comparison) → IndicesDeep Σ (open_type_of c.found.now) → AnyDeep Σ (cs ++ c ∷ [])
  deep_last [] c d = inl d
  deep_last (b ∷ cs) c d = inr (deep_last cs c d)

  deep_parts : (cs : List Comparison) (c : Comparison) → AnyDeep Σ (cs ++ c ∷ []) → AnyDeep Σ cs ⊎ IndicesDeep Σ (open_type_of c.found.now)
  deep_parts [] c (inl d) = inr d
  deep_parts [] c (inr d) = absurd d
  deep_parts (b ∷ cs) c (inl d) = inl (inl d)
  deep_parts (b ∷ cs) c (inr d) = by (deep_parts cs c d)
    where
      by : AnyDeep Σ cs ⊎ IndicesDeep Σ (open_type_of c.found.now) → AnyDeep Σ (b ∷ cs) ⊎ IndicesDeep Σ (open_type_of c.found.now)
      by (inl e) = inl (inr e)
      by (inr e) = inr e

  -- a part that is deep makes the whole deep
  deep_whole : (next p q : Comparison) (old mid new : List Comparison) (A B : LfType) → open_type_of next.found.now ≡ pi A B → mid ≡ old ++ p ∷ [] → new ≡ mid ++ q ∷ [] → open_type_of p.found.now ≡ B → open_type_of q.found.now ≡ A → AnyDeep Σ new → AnyDeep Σ (old ++ next ∷ [])
  deep_whole next p q old mid new A B t m n pf qf k = by (deep_parts mid q (subst (AnyDeep Σ) n k))
    where
      of_next : IndicesDeep Σ (pi A B) → AnyDeep Σ (old ++ next ∷ [])
      of_next d = deep_last old next (subst (IndicesDeep Σ) (sym t) d)

      inner : AnyDeep Σ old ⊎ IndicesDeep Σ (open_type_of p.found.now) → AnyDeep Σ (old ++ next ∷ [])
      inner (inl d) = deep_before old next d
      inner (inr d) = of_next (inr (subst (IndicesDeep Σ) pf d))

      by : AnyDeep Σ mid ⊎ IndicesDeep Σ (open_type_of q.found.now) → AnyDeep Σ (old ++ next ∷ [])
      by (inl d) = inner (deep_parts old p (subst (AnyDeep Σ) m d))
      by (inr d) = of_next (inl (subst (IndicesDeep Σ) qf d))

  -- equations make no difference
  found_on : (s : State) (es : List Equation) (cs : List Comparison) → AllFound Σ s cs → AllFound Σ (with_equations es s) cs
  found_on s es [] h = tt
  found_on s es (c ∷ cs) (k, h) = (k, found_on s es cs h)

  pub compares_parts : (next p q : Comparison) (old mid new : List Comparison) (A B X Y : LfType) (a : Elaboration) → open_type_of next.found.now ≡ pi A B → open_type_of next.expected.now ≡ pi X Y → mid ≡ old ++ p ∷ [] → new ≡ mid ++ q ∷ []
      → p.context ≡ A ∷ next.context → open_type_of p.found.now ≡ B → open_type_of p.expected.now ≡ Y → q.context ≡ next.context → open_type_of q.found.now ≡ A → open_type_of q.expected.now ≡ X
      → TypeHasSkeletons Σ (made a) next.context (open_type_of next.found.now) → ComparesNext Σ next old new a a
  compares_parts next p q old mid new A B X Y a t u m n pc pf pe qc qf qe h =
      let D : List LfType = next.context in
      let E : List Equation = equations_left Σ old in
      let whole : equations_of next ≡ followed (type_equations Σ D A X) (type_equations Σ (A ∷ D) B Y) = ap₂ (λ (V W : LfType). type_equations Σ D V W) t u in
      let of_range : equations_of p ≡ type_equations Σ (A ∷ D) B Y = ap₂ (λ (V W : LfType). type_equations Σ p.context V W) pf pe ∙ ap (λ (G : List LfType). type_equations Σ G B Y) pc in
      let of_domain : equations_of q ≡ type_equations Σ D A X = ap₂ (λ (V W : LfType). type_equations Σ q.context V W) qf qe ∙ ap (λ (G : List LfType). type_equations Σ G A X) qc in
      let before : equations_left Σ (old ++ next ∷ []) ≡ followed (type_equations Σ D A X) (followed (type_equations Σ (A ∷ D) B Y) E) = equations_push old next ∙ ap (λ l. followed l E) whole ∙ followed_after (type_equations Σ D A X) (type_equations Σ (A ∷ D) B Y) E in
      let behind : equations_left Σ new ≡ followed (type_equations Σ D A X) (followed (type_equations Σ (A ∷ D) B Y) E) = ap (equations_left Σ) n ∙ equations_push mid q ∙ ap₂ followed of_domain (ap (equations_left Σ) m ∙ equations_push old p ∙ ap (λ l. followed l E) of_range) in
      let sizes : parts_left new ≡ parts A + (parts B + parts_left old) = ap parts_left n ∙ parts_push mid q ∙ ap₂ ◌+◌ (ap parts qf) (ap parts_left m ∙ parts_push old p ∙ ap (λ k. k + parts_left old) (ap parts pf)) in
      let size : parts_left (old ++ next ∷ []) ≡ suc (parts A + parts B) + parts_left old = parts_push old next ∙ ap (λ k. k + parts_left old) (ap parts t) in
      let typed : TypeHasSkeletons Σ (made a) D (pi A B) = subst (TypeHasSkeletons Σ (made a) D) t h in
      record {
        added = [];
        state = sym (no_equations (made a));
        equations = ap (λ l. with_equations l (made a)) (before ∙ sym behind);
        same = λ k.
            let (i, e) = same_pop mid q (subst AllSame n k) in
            let (j, f) = same_pop old p (subst AllSame m i) in
            same_push old next j (ap skeleton t ∙ ap₂ arrow (sym (ap skeleton qf) ∙ e ∙ ap skeleton qe) (sym (ap skeleton pf) ∙ f ∙ ap skeleton pe) ∙ sym (ap skeleton u));
        less = omega (arith, sizes, size);
        found = λ k.
            let in_range : TypeHasSkeletons Σ (made a) p.context (open_type_of p.found.now) = subst (λ G. TypeHasSkeletons Σ (made a) G (open_type_of p.found.now)) (sym pc) (subst (TypeHasSkeletons Σ (made a) (A ∷ D)) (sym pf) typed.1) in
            let in_domain : TypeHasSkeletons Σ (made a) q.context (open_type_of q.found.now) = subst (λ G. TypeHasSkeletons Σ (made a) G (open_type_of q.found.now)) (sym qc) (subst (TypeHasSkeletons Σ (made a) D) (sym qf) typed.0) in
            subst (AllFound Σ (made a)) (sym n) (found_push (made a) mid q (subst (AllFound Σ (made a)) (sym m) (found_push (made a) old p k in_range)) in_domain);
        deep = deep_whole next p q old mid new A B t m n pf qf;
      }

  pub compares_atoms : (next : Comparison) (old : List Comparison) (f g : ℕ) (S T : Spine) (a b : Elaboration) → open_type_of next.found.now ≡ atom f S → open_type_of next.expected.now ≡ atom g T → f ≡ g
      → made b ≡ with_equations (index_equations Σ (Σ.kinds f) next.context S T) (made a) → ComparesNext Σ next old old a b
  compares_atoms next old f g S T a b t u e q =
      let es : List Equation = index_equations Σ (Σ.kinds f) next.context S T in
      let whole : equations_of next ≡ es = ap₂ (λ (V W : LfType). type_equations Σ next.context V W) t u in
      let size : parts_left (old ++ next ∷ []) ≡ 1 + parts_left old = parts_push old next ∙ ap (λ k. k + parts_left old) (ap parts t) in
      record {
        added = es;
        state = q;
        equations = ap (λ l. with_equations l (made a)) (equations_push old next ∙ ap (λ l. followed l (equations_left Σ old)) whole) ∙ sym (equations_twice es (equations_left Σ old) (made a)) ∙ ap (with_equations (equations_left Σ old)) (sym q);
        same = λ k. same_push old next k (ap skeleton t ∙ ap base e ∙ sym (ap skeleton u));
        less = omega (arith, size);
        found = λ k. subst (λ s. AllFound Σ s old) (sym q) (found_on (made a) es old k);
        deep = deep_before old next;
      }

  -- of two types these are left, behind what was compared
  pub record IsComparing (D : List LfType) (A X : LfType) (left : List Comparison) (start now : Elaboration) : Type 0 where
    pub equations : with_equations (type_equations Σ D A X) (made start) ≡ with_equations (equations_left Σ left) (made now)
    pub same : AllSame left → skeleton A ≡ skeleton X
    pub found : AllFound Σ (made now) left
    pub keeps : Keeps start now
    pub deep : AnyDeep Σ left → IndicesDeep Σ A

  only_deep : (c : Comparison) → AnyDeep Σ (c ∷ []) → IndicesDeep Σ (open_type_of c.found.now)
  only_deep c (inl d) = d
  only_deep c (inr d) = absurd d

  pub comparing_whole : (c : Comparison) (before left : List Comparison) (a : Elaboration) → before ≡ [] → left ≡ before ++ c ∷ [] → TypeHasSkeletons Σ (made a) c.context (open_type_of c.found.now) → IsComparing c.context (open_type_of c.found.now) (open_type_of c.expected.now) left a a
  comparing_whole c before left a b e h = subst (λ l. IsComparing c.context (open_type_of c.found.now) (open_type_of c.expected.now) l a a) (sym (e ∙ ap (λ l. l ++ c ∷ []) b)) (record {
    equations = refl;
    same = λ (k, n). k;
    found = (h, tt);
    keeps = keeps_same a;
    deep = only_deep c;
  })

  pub next_found : {D : List LfType} {A X : LfType} {start now : Elaboration} (old new : List Comparison) (next : Comparison) → old ≡ new ++ next ∷ [] → IsComparing D A X old start now → TypeHasSkeletons Σ (made now) next.context (open_type_of next.found.now)
  next_found {now = now} old new next e k = (found_pop (made now) new next (subst (AllFound Σ (made now)) e k.found)).1

  pub comparing_on : {D : List LfType} {A X : LfType} {start a b : Elaboration} (old mid new : List Comparison) (next : Comparison) → old ≡ mid ++ next ∷ [] → IsComparing D A X old start a → Keeps a b → ComparesNext Σ next mid new a b → IsComparing D A X new start b
  comparing_on {start = start} {a = a} {b = b} old mid new next e k p n = record {
    equations = k.equations ∙ ap (λ l. with_equations (equations_left Σ l) (made a)) e ∙ n.equations;
    same = λ h. k.same (subst AllSame (sym e) (n.same h));
    found = n.found (found_pop (made a) mid next (subst (AllFound Σ (made a)) e k.found)).0;
    keeps = keeps_then start a b k.keeps p;
    deep = λ h. k.deep (subst (AnyDeep Σ) (sym e) (n.deep h));
  }

  pub next_deep : {D : List LfType} {A X : LfType} {start now : Elaboration} (old new : List Comparison) (next : Comparison) → old ≡ new ++ next ∷ [] → IsComparing D A X old start now → IndicesDeep Σ (open_type_of next.found.now) → IndicesDeep Σ A
  next_deep old new next e k d = k.deep (subst (AnyDeep Σ) (sym e) (deep_last new next d))

  pub fewer_left : {a b : Elaboration} (old mid new : List Comparison) (next : Comparison) → old ≡ mid ++ next ∷ [] → ComparesNext Σ next mid new a b → parts_left new < parts_left old
  fewer_left old mid new next e n = subst (λ l. parts_left new < parts_left l) (sym e) n.less

  pub all_compared : {D : List LfType} {A X : LfType} {start now : Elaboration} (left : List Comparison) → left ≡ [] → IsComparing D A X left start now → ComparesIn Σ D A X start now
  all_compared {now = now} left e k = record {
    same = k.same (subst AllSame (sym e) tt);
    state = sym (k.equations ∙ ap (λ l. with_equations (equations_left Σ l) (made now)) e ∙ no_equations (made now));
  }

  -- two types that are the same
  pub same_compared : (D : List LfType) (A X : LfType) (a : Elaboration) → A ≡ X → ComparesIn Σ D A X a a
  same_compared D A X a e = record {
    same = ap skeleton e;
    state = sym (ap (λ (V : LfType). with_equations (type_equations Σ D A V) (made a)) (sym e) ∙ ap (λ l. with_equations l (made a)) (same_type Σ D A) ∙ no_equations (made a));
  }
