-- The names that variables give, one after another.
use Rattle.std.proofs.Common.{◌≡◌, ℕ, zero, suc, ◌+◌, ◌-◌, ◌<◌, ◌≤◌, List, [], ◌∷◌, ◌++◌, length, get_or, map, take, Option, None, Some, Bool, true, false, refl, sym, ap, ◌∙◌, subst, inl, inr, ◌⊎◌, arith}
use Rattle.std.specs.List.{slice_get}
use Rattle.std.specs.Prelude.{is_some, if◌then◌else◌, nat_eq, MatchOption}
use Rattle.std.specs.Option.{option_map}
use Rattle.std.proofs.Math.Seq.{take-suc}
use Rattle.std.proofs.lemmas.Bool.{eq-eqb}
use Rattle.std.proofs.lemmas.List.{map-append}
use Rattle.lf.specs.Eta.{eta_long}
use Rattle.lf.specs.Subordination.{Member}
use Rattle.lf.specs.Syntax.{LfType, Skeleton, Term, metavariable}
use Rattle.tw_metas.specs.State.{State, joined, value_of}
use Rattle.tw_putting.specs.Fits.{PutFits}
use Rattle.tw_putting.specs.Stores.{Puts}
use Rattle.tw_putting.specs.Whole.{AreDistinct}
use Rattle.tw_putting.proofs.Calls.{one_result}
use Rattle.tw_signature.specs.Goal.{Goal}
use Rattle.tw_terms.specs.declared.canonical.MetaId.{MetaId}
use Rattle.tw_unify.specs.Showing.{name_of}
use Rattle.tw_search.specs.Names.{IsSole, NamesAll, NamesOne, NamesVariable, ValueIsAlone, place_of, with_name}

-- for which one a metavariable stands alone, with its value put in
pub sole_found : (s : State) (m : ℕ) (N N' : Term) → value_of s m ≡ Some N → PutFits s 0 N → Puts s 0 N N' → (r : Option MetaId) → MatchOption r ((n : ℕ) (a : Skeleton) → N' ≡ eta_long a (metavariable n) → ⊥) (λ n. (a : Skeleton) × (N' ≡ eta_long a (metavariable n.0))) → IsSole s m (option_map (λ n. n.0) r)
sole_found s m N N' v f p None h = λ n alone.
    let (N'', a, q, e) = subst (λ o. ValueIsAlone s m o n) v alone in
    let (R, x, only) = one_result s 0 N f in
    h n a (only N' p ∙ sym (only N'' q) ∙ e)
sole_found s m N N' v f p (Some n) h = subst (λ o. ValueIsAlone s m o n.0) (sym v) (N', h.0, p, h.1)

-- one variable after another
module _ (s : State) (g : Goal) where
  pub names_then : (is : List ℕ) (i : ℕ) (xs ys zs : List (ℕ × List ℕ)) → NamesAll s g is xs ys → NamesVariable s g i ys zs → NamesAll s g (is ++ i ∷ []) xs zs
  names_then [] i xs ys zs a o = (zs, subst (λ x. NamesVariable s g i x zs) a o, refl)
  names_then (j ∷ is) i xs ys zs (mid, a, more) o = (mid, a, names_then is i mid ys zs more o)

  pub names_next : (order : List ℕ) (k : ℕ) (xs ys zs : List (ℕ × List ℕ)) → k < length order → NamesAll s g (take k order) xs ys → NamesVariable s g (get_or order k 0) ys zs → NamesAll s g (take (k + 1) order) xs zs
  names_next order k xs ys zs h a o =
      let n : suc k ≡ k + 1 = omega arith in
      subst (λ is. NamesAll s g is xs zs) (sym (take-suc order k 0 h) ∙ ap (λ j. take j order) n) (names_then (take k order) (get_or order k 0) xs ys zs a o)

  pub one_at : (i : ℕ) (o : Option ℕ) (q : Option (List ℕ)) (xs ys : List (ℕ × List ℕ)) → place_of g.variables i ≡ o → joined (slice_get g.names i) ≡ q → NamesOne s o q xs ys → NamesVariable s g i xs ys
  one_at i o q xs ys e f n = subst (λ x. NamesOne s x (joined (slice_get g.names i)) xs ys) (sym e) (subst (λ x. NamesOne s o x xs ys) (sym f) n)

-- the place of a variable of the context
pub place_at : (G : List LfType) (i : ℕ) → i < length G → place_of G i ≡ Some (length G - 1 - i)
place_at [] i h = absurd (omega arith)
place_at (A ∷ G) zero h = ap (λ k. Some k) (omega arith)
place_at (A ∷ G) (suc i) h = place_at G i (omega arith) ∙ ap (λ k. Some k) (omega arith)

pub place_past : (G : List LfType) (i : ℕ) → length G ≤ i → place_of G i ≡ None
place_past [] i h = refl
place_past (A ∷ G) zero h = absurd (omega arith)
place_past (A ∷ G) (suc i) h = place_past G i (omega arith)

-- what stands at a place is in the list
pub member_at : (xs : List ℕ) (k : ℕ) → k < length xs → Member (get_or xs k 0) xs
member_at [] k h = absurd (omega arith)
member_at (x ∷ xs) zero h = inl refl
member_at (x ∷ xs) (suc k) h = inr (member_at xs k (omega arith))

-- no metavariable has two names
abbrev pub of_names : List (ℕ × List ℕ) → List ℕ
of_names ns = map (λ n. n.0) ns

named_here : (n : ℕ × List ℕ) (ns : List (ℕ × List ℕ)) (m : ℕ) → is_some (name_of (n ∷ ns) m) ≡ false → (is_some (name_of ns m) ≡ false → Member m (of_names ns) → ⊥) → (b : Bool) → nat_eq n.0 m ≡ b → Member m (of_names (n ∷ ns)) → ⊥
named_here n ns m e further true q i = (let h : is_some (if true then Some n.1 else name_of ns m) ≡ false = ap (λ b. is_some (if b then Some n.1 else name_of ns m)) (sym q) ∙ e in absurd cc)
named_here n ns m e further false q (inl r) = (let t : nat_eq n.0 m ≡ true = eq-eqb n.0 m (sym r) in absurd cc)
named_here n ns m e further false q (inr j) = further (ap (λ b. is_some (if b then Some n.1 else name_of ns m)) (sym q) ∙ e) j

not_named : (ns : List (ℕ × List ℕ)) (m : ℕ) → is_some (name_of ns m) ≡ false → Member m (of_names ns) → ⊥
not_named [] m e i = i
not_named (n ∷ ns) m e i = named_here n ns m e (not_named ns m) (nat_eq n.0 m) refl i

member_then : (ms : List ℕ) (m x : ℕ) → Member x (ms ++ m ∷ []) → Member x ms ⊎ (x ≡ m)
member_then [] m x (inl e) = inr e
member_then [] m x (inr i) = absurd i
member_then (k ∷ ms) m x (inl e) = inl (inl e)
member_then (k ∷ ms) m x (inr i) =
    elim (member_then ms m x i) [
      | inl j ↦ inl (inr j)
      | inr e ↦ inr e
    ]

distinct_then : (ms : List ℕ) (m : ℕ) → AreDistinct ms → (Member m ms → ⊥) → AreDistinct (ms ++ m ∷ [])
distinct_then [] m d out = (λ i. i, tt)
distinct_then (k ∷ ms) m (f, d) out = (
  λ i. elim (member_then ms m k i) [
    | inl j ↦ f j
    | inr e ↦ out (inl (sym e))
  ],
  distinct_then ms m d (λ i. out (inr i)),
)

pub with_name_distinct : (n : Option ℕ) (x : List ℕ) (ns : List (ℕ × List ℕ)) → AreDistinct (of_names ns) → AreDistinct (of_names (with_name n x ns))
with_name_distinct None x ns d = d
with_name_distinct (Some n) x ns d = go (is_some (name_of ns n)) refl
  where
    go : (b : Bool) → is_some (name_of ns n) ≡ b → AreDistinct (of_names (if is_some (name_of ns n) then ns else ns ++ (n, x) ∷ []))
    go true q = subst (λ b. AreDistinct (of_names (if b then ns else ns ++ (n, x) ∷ []))) (sym q) d
    go false q = subst (λ b. AreDistinct (of_names (if b then ns else ns ++ (n, x) ∷ []))) (sym q)
        (subst AreDistinct (sym (map-append (λ k. k.0) ns ((n, x) ∷ []))) (distinct_then (of_names ns) n d (not_named ns n q)))

pub one_distinct : (s : State) (o : Option ℕ) (q : Option (List ℕ)) (old new : List (ℕ × List ℕ)) → NamesOne s o q old new → AreDistinct (of_names old) → AreDistinct (of_names new)
one_distinct s (Some m) (Some x) old new (n, z, e) d = subst (λ ns. AreDistinct (of_names ns)) (sym e) (with_name_distinct n x old d)
one_distinct s (Some m) None old new e d = subst (λ ns. AreDistinct (of_names ns)) (sym e) d
one_distinct s None q old new e d = subst (λ ns. AreDistinct (of_names ns)) (sym e) d
