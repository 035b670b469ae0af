-- Parts of a text that are resolved one behind the other.
use Rattle.std.proofs.Common.{◌≡◌, List, [], ◌∷◌, ◌++◌, Some, ◌⊎◌, inl, inr, append_assoc, refl, sym, ap, ◌∙◌, subst}
use Rattle.lf.specs.Entries.{Entry}
use Rattle.lf.specs.Syntax.{Skeleton, base, arrow}
use Rattle.lf_elaboration.specs.WrittenSkeletons.{AllDeclared, SkeletonIsDeclared}
use Rattle.tw_approx.specs.Readings.{Reading, take, and_then}
use Rattle.tw_approx.proofs.Sequences.{given, parts_of}
use Rattle.tw_resolve.specs.Resolving.{with_both}

-- a list that is cut at two places
same_front : (xs a b : List Skeleton) → (xs ++ a) ≡ (xs ++ b) → a ≡ b
same_front [] a b e = e
same_front (x ∷ xs) a b e = same_front xs a b cc

-- another skeleton than this
abbrev pub different : Skeleton → Skeleton
different (base a) = arrow (base 0) (base 0)
different (arrow s t) = base 0

pub different_differs : (s : Skeleton) (p : List Skeleton) → (different s ∷ p) ≡ (s ∷ p) → ⊥
different_differs (base a) p e = cc
different_differs (arrow s t) p e = cc

module _ (es : List Entry) where
  pub all_parts : (xs ys : List Skeleton) → AllDeclared es (xs ++ ys) → AllDeclared es xs × AllDeclared es ys
  all_parts [] ys h = (tt, h)
  all_parts (x ∷ xs) ys (h, i) = let r = all_parts xs ys i in ((h, r.0), r.1)

  -- what takes this off the list has a resolution
  pub record Resolution {V : Type 0} (Q : List Skeleton → Reading V) (Always Good : V → Type 0) (taken : List Skeleton) : Type 0 where
    pub value : V
    pub resolves : (p : List Skeleton) → Q (taken ++ p) ≡ Some (value, p)
    pub always : Always value
    pub good : AllDeclared es taken → Good value

  -- something else may be taken, and the reading stays the same
  pub record Other {A : Type 0} (R : List Skeleton → Reading A) (a : A) (taken : List Skeleton) : Type 0 where
    pub list : List Skeleton
    pub differs : (p : List Skeleton) → (list ++ p) ≡ (taken ++ p) → ⊥
    pub reads : (p : List Skeleton) → R (list ++ p) ≡ Some (a, p)

  -- What is read as a is resolved, or could be read from another list.
  pub record Resolves {A V : Type 0} (R : List Skeleton → Reading A) (Q : List Skeleton → Reading V) (Always Good : V → Type 0) (a : A) (o q : List Skeleton) : Type 0 where
    pub taken : List Skeleton
    pub is : o ≡ taken ++ q
    pub reads : (p : List Skeleton) → R (taken ++ p) ≡ Some (a, p)
    pub outcome : Resolution Q Always Good taken ⊎ Other R a taken

  -- what two parts make
  pub record Made {U V W : Type 0} (make : U → V → List Skeleton → Reading W) (u : U) (v : V) (Always : W → Type 0) (P : Type 0) (Good : W → Type 0) : Type 0 where
    pub value : W
    pub makes : (p : List Skeleton) → make u v p ≡ Some (value, p)
    pub always : Always value
    pub good : P → Good value

  both_read : {A B : Type 0} (R : List Skeleton → Reading A) (S : A → List Skeleton → Reading B) (a : A) (b : B) (xs ys r : List Skeleton)
      → ((p : List Skeleton) → R (xs ++ p) ≡ Some (a, p)) → ((p : List Skeleton) → S a (ys ++ p) ≡ Some (b, p)) → and_then (R ((xs ++ ys) ++ r)) S ≡ Some (b, r)
  both_read R S a b xs ys r f g = ap (λ l. and_then (R l) S) (append_assoc xs ys r) ∙ ap (λ x. and_then x S) (f (ys ++ r)) ∙ g r

  both_outcome : {A B U V W : Type 0} (R : List Skeleton → Reading A) (S : A → List Skeleton → Reading B) (Q : List Skeleton → Reading U) (T : List Skeleton → Reading V) (make : U → V → List Skeleton → Reading W)
      (AU GU : U → Type 0) (AV GV : V → Type 0) (AW GW : W → Type 0) (a : A) (b : B) (xs ys : List Skeleton)
      → ((p : List Skeleton) → R (xs ++ p) ≡ Some (a, p)) → ((p : List Skeleton) → S a (ys ++ p) ≡ Some (b, p))
      → ((u : U) (v : V) → AU u → AV v → Made make u v AW (GU u × GV v) GW)
      → Resolution Q AU GU xs ⊎ Other R a xs → Resolution T AV GV ys ⊎ Other (S a) b ys
      → Resolution (λ o. with_both make (Q o) T) AW GW (xs ++ ys) ⊎ Other (λ o. and_then (R o) S) b (xs ++ ys)
  both_outcome R S Q T make AU GU AV GV AW GW a b xs ys f g m (inl u) (inl v) =
      let w = m u.value v.value u.always v.always in
      inl (record {
        value = w.value;
        resolves = λ r. ap (λ l. with_both make (Q l) T) (append_assoc xs ys r) ∙ ap (λ x. with_both make x T) (u.resolves (ys ++ r)) ∙ ap (λ x. and_then x (make u.value)) (v.resolves r) ∙ w.makes r;
        always = w.always;
        good = λ h. let d = all_parts xs ys h in w.good (u.good d.0, v.good d.1);
      })
  both_outcome R S Q T make AU GU AV GV AW GW a b xs ys f g m (inl u) (inr v) =
      inr (record {
        list = xs ++ v.list;
        differs = λ p e. v.differs p (same_front xs (v.list ++ p) (ys ++ p) (sym (append_assoc xs v.list p) ∙ e ∙ append_assoc xs ys p));
        reads = λ p. both_read R S a b xs v.list p f v.reads;
      })
  both_outcome R S Q T make AU GU AV GV AW GW a b xs ys f g m (inr u) v =
      inr (record {
        list = u.list ++ ys;
        differs = λ p e. u.differs (ys ++ p) (sym (append_assoc u.list ys p) ∙ e ∙ append_assoc xs ys p);
        reads = λ p. both_read R S a b u.list ys p u.reads g;
      })

  -- one part behind another
  pub after : {A B U V W : Type 0} (R : List Skeleton → Reading A) (S : A → List Skeleton → Reading B) (Q : List Skeleton → Reading U) (T : List Skeleton → Reading V) (make : U → V → List Skeleton → Reading W)
      (AU GU : U → Type 0) (AV GV : V → Type 0) (AW GW : W → Type 0) (a : A) (b : B) (o p q : List Skeleton)
      → ((u : U) (v : V) → AU u → AV v → Made make u v AW (GU u × GV v) GW)
      → Resolves R Q AU GU a o p → Resolves (S a) T AV GV b p q → Resolves (λ l. and_then (R l) S) (λ l. with_both make (Q l) T) AW GW b o q
  after R S Q T make AU GU AV GV AW GW a b o p q m one two = record {
    taken = one.taken ++ two.taken;
    is = one.is ∙ ap (λ x. one.taken ++ x) two.is ∙ sym (append_assoc one.taken two.taken q);
    reads = λ r. both_read R S a b one.taken two.taken r one.reads two.reads;
    outcome = both_outcome R S Q T make AU GU AV GV AW GW a b one.taken two.taken one.reads two.reads m one.outcome two.outcome;
  }

  finish_outcome : {A B V : Type 0} (R : List Skeleton → Reading A) (g : A → List Skeleton → Reading B) (Q : List Skeleton → Reading V) (AV GV : V → Type 0) (a : A) (b : B) (xs : List Skeleton)
      → ((p : List Skeleton) → g a p ≡ Some (b, p)) → Resolution Q AV GV xs ⊎ Other R a xs → Resolution Q AV GV xs ⊎ Other (λ l. and_then (R l) g) b xs
  finish_outcome R g Q AV GV a b xs h (inl v) = inl v
  finish_outcome R g Q AV GV a b xs h (inr u) = inr (record { list = u.list; differs = u.differs; reads = λ p. ap (λ x. and_then x g) (u.reads p) ∙ h p })

  -- a value made of what is read, which takes nothing more
  pub finish : {A B V : Type 0} (R : List Skeleton → Reading A) (g : A → List Skeleton → Reading B) (Q : List Skeleton → Reading V) (AV GV : V → Type 0) (a : A) (b : B) (o q : List Skeleton)
      → ((p : List Skeleton) → g a p ≡ Some (b, p)) → Resolves R Q AV GV a o q → Resolves (λ l. and_then (R l) g) Q AV GV b o q
  finish R g Q AV GV a b o q h one = record {
    taken = one.taken;
    is = one.is;
    reads = λ p. ap (λ x. and_then x g) (one.reads p) ∙ h p;
    outcome = finish_outcome R g Q AV GV a b one.taken h one.outcome;
  }

  becoming : {A V W : Type 0} (R : List Skeleton → Reading A) (Q : List Skeleton → Reading V) (make : V → W) (AV GV : V → Type 0) (AW GW : W → Type 0) (a : A) (xs : List Skeleton)
      → ((v : V) → AV v → AW (make v)) → ((v : V) → AV v → GV v → GW (make v)) → Resolution Q AV GV xs ⊎ Other R a xs → Resolution (λ l. and_then (Q l) (λ v p. Some (make v, p))) AW GW xs ⊎ Other R a xs
  becoming R Q make AV GV AW GW a xs f g (inl v) = inl (record {
    value = make v.value;
    resolves = λ p. ap (λ x. and_then x (λ v p. given (make v) p)) (v.resolves p);
    always = f v.value v.always;
    good = λ h. g v.value v.always (v.good h);
  })
  becoming R Q make AV GV AW GW a xs f g (inr u) = inr u

  -- something made of what is resolved
  pub becomes : {A V W : Type 0} (R : List Skeleton → Reading A) (Q : List Skeleton → Reading V) (make : V → W) (AV GV : V → Type 0) (AW GW : W → Type 0) (a : A) (o q : List Skeleton)
      → ((v : V) → AV v → AW (make v)) → ((v : V) → AV v → GV v → GW (make v)) → Resolves R Q AV GV a o q → Resolves R (λ l. and_then (Q l) (λ v p. Some (make v, p))) AW GW a o q
  becomes R Q make AV GV AW GW a o q f g one = record { taken = one.taken; is = one.is; reads = one.reads; outcome = becoming R Q make AV GV AW GW a one.taken f g one.outcome }

  saying : {A V : Type 0} (R : List Skeleton → Reading A) (Q : List Skeleton → Reading V) (AV GV AW GW : V → Type 0) (a : A) (xs : List Skeleton)
      → ((v : V) → AV v → AW v) → ((v : V) → AV v → GV v → GW v) → Resolution Q AV GV xs ⊎ Other R a xs → Resolution Q AW GW xs ⊎ Other R a xs
  saying R Q AV GV AW GW a xs f g (inl v) = inl (record { value = v.value; resolves = v.resolves; always = f v.value v.always; good = λ h. g v.value v.always (v.good h) })
  saying R Q AV GV AW GW a xs f g (inr u) = inr u

  -- the same with less said of it
  pub says : {A V : Type 0} (R : List Skeleton → Reading A) (Q : List Skeleton → Reading V) (AV GV AW GW : V → Type 0) (a : A) (o q : List Skeleton)
      → ((v : V) → AV v → AW v) → ((v : V) → AV v → GV v → GW v) → Resolves R Q AV GV a o q → Resolves R Q AW GW a o q
  says R Q AV GV AW GW a o q f g one = record { taken = one.taken; is = one.is; reads = one.reads; outcome = saying R Q AV GV AW GW a one.taken f g one.outcome }

  -- one skeleton is taken that may be any
  pub any_taken : {A B V W : Type 0} (R : List Skeleton → Reading A) (g : A → List Skeleton → Reading B) (Q : List Skeleton → Reading V) (AV GV : V → Type 0) (T : List Skeleton → Reading W) (AW GW : W → Type 0)
      (a : A) (b : B) (o q : List Skeleton) (any : Skeleton) → ((s : Skeleton) (p : List Skeleton) → g a (s ∷ p) ≡ Some (b, p)) → Resolves R Q AV GV a o (any ∷ q) → Resolves (λ l. and_then (R l) g) T AW GW b o q
  any_taken R g Q AV GV T AW GW a b o q any h one =
      let reads = λ (s : Skeleton) (r : List Skeleton). ap (λ l. and_then (R l) g) (append_assoc one.taken (s ∷ []) r) ∙ ap (λ x. and_then x g) (one.reads (s ∷ r)) ∙ h s r in
      record {
        taken = one.taken ++ any ∷ [];
        is = one.is ∙ sym (append_assoc one.taken (any ∷ []) q);
        reads = reads any;
        outcome = inr (record {
          list = one.taken ++ different any ∷ [];
          differs = λ r e. different_differs any r (same_front one.taken (different any ∷ r) (any ∷ r) (sym (append_assoc one.taken (different any ∷ []) r) ∙ e ∙ append_assoc one.taken (any ∷ []) r));
          reads = reads (different any);
        });
      }

  -- what is resolved with nothing taken
  pub nothing_taken : {A V : Type 0} (R : List Skeleton → Reading A) (Q : List Skeleton → Reading V) (AV GV : V → Type 0) (a : A) (v : V) (o : List Skeleton)
      → ((p : List Skeleton) → R p ≡ Some (a, p)) → ((p : List Skeleton) → Q p ≡ Some (v, p)) → AV v → GV v → Resolves R Q AV GV a o o
  nothing_taken R Q AV GV a v o f g h i = record { taken = []; is = refl; reads = f; outcome = inl (record { value = v; resolves = g; always = h; good = λ d. i }) }

  -- what takes one skeleton
  pub one_taken : {V : Type 0} (make : Skeleton → V) (AV GV : V → Type 0) (o : List Skeleton) (s : Skeleton) (q : List Skeleton)
      → take o ≡ Some (s, q) → AV (make s) → (SkeletonIsDeclared es s → GV (make s)) → Resolves take (λ l. and_then (take l) (λ s p. Some (make s, p))) AV GV s o q
  one_taken make AV GV [] s q e h g = absurd cc
  one_taken {V} make AV GV (t ∷ o) s q e h g =
      let same = parts_of t s o q e in
      subst (λ r. Resolves take (λ l. and_then (take l) (λ s p. Some (make s, p))) AV GV s (t ∷ o) r) same.1
      (subst (λ u. Resolves take (λ l. and_then (take l) (λ s p. Some (make s, p))) AV GV s (u ∷ o) o) (sym same.0)
      (record { taken = s ∷ []; is = refl; reads = λ p. refl; outcome = inl (record { value = make s; resolves = λ p. refl; always = h; good = λ d. g d.0 }) }))

  settling : {A V : Type 0} (R : List Skeleton → Reading A) (Q : List Skeleton → Reading V) (AV GV : V → Type 0) (a : A) (o xs : List Skeleton) → o ≡ xs ++ [] → AllDeclared es o → ((p : List Skeleton) → R p ≡ Some (a, []) → p ≡ o)
      → Resolution Q AV GV xs ⊎ Other R a xs → (v : V) × (Q o ≡ Some (v, [])) × GV v
  settling R Q AV GV a o xs e d only (inl v) = (v.value, ap Q e ∙ v.resolves [], v.good (all_parts xs [] (subst (AllDeclared es) e d)).0)
  settling R Q AV GV a o xs e d only (inr u) = absurd (u.differs [] (only (u.list ++ []) (u.reads []) ∙ e))

  -- where only one list can be read, the whole list is taken by what is resolved
  pub settled : {A V : Type 0} (R : List Skeleton → Reading A) (Q : List Skeleton → Reading V) (AV GV : V → Type 0) (a : A) (o : List Skeleton) → Resolves R Q AV GV a o [] → AllDeclared es o → ((p : List Skeleton) → R p ≡ Some (a, []) → p ≡ o)
      → (v : V) × (Q o ≡ Some (v, [])) × GV v
  settled R Q AV GV a o one d only = settling R Q AV GV a o one.taken one.is d only one.outcome

  -- the value and the rest of the list under other names
  pub named_alike : {A V : Type 0} (R : List Skeleton → Reading A) (Q : List Skeleton → Reading V) (AV GV : A → V → Type 0) (a b : A) (o p q : List Skeleton) → a ≡ b → p ≡ q → Resolves R Q (AV a) (GV a) a o p → Resolves R Q (AV b) (GV b) b o q
  named_alike R Q AV GV a b o p q e f one = subst (λ c. Resolves R Q (AV c) (GV c) c o q) e (subst (λ r. Resolves R Q (AV a) (GV a) a o r) f one)
